use Rattle.std.proofs.Common.{◌≡◌, ◌+◌, ◌∷◌, ap, sym, ◌∙◌, drop, find, not, Bool, true, false, Some, None, option_map, if◌then◌else◌}
use Rattle.std.proofs.lemmas.List.{at_drop_more, drop_all}
use Rattle.mufom_module.specs.declared.module.Parts.{Parts}
use Rattle.mufom_meaning.specs.Facts.{mismatch, descriptor}
use Rattle.mufom_meaning.specs.LinkAnswer.{same_descriptor, first_mismatch}
use Rattle.mufom_link.proofs.facts.first_mismatch.Goals as goal

pub returns-then-not-is_alike : goal.returns-then-not-is_alike
returns-then-not-is_alike c =
    let first = c.in_ok-first.first.now in
    let others = c.in_ok-first.others.now in
    let i = c.loop-other.other-index in
    let x = c.other-item.result in
    let test = λ (other : Parts). not (same_descriptor first other) in
    let differs : same_descriptor first x ≡ false = sym c.if-not-is_alike.ensures in
    let found : find test others ≡ Some x =
    sym c.loop-other.invariant
    ∙ at_drop_more (find test) others i x c.loop-other-test.true
    ∙ ap (λ (other : Parts). find test (other ∷ drop (i + 1) others)) (sym c.other-item.is)
    ∙ ap (λ (b : Bool). if not b then Some x else find test (drop (i + 1) others)) differs in
    (λ j. Some (mismatch (c.descriptor_of.ensures.maus j, c.descriptor_of.ensures.order j) (
      c.descriptor_of-then-not-is_alike.ensures.maus j,
      c.descriptor_of-then-not-is_alike.ensures.order j,
    )))
    ∙ sym (ap (option_map (λ (other : Parts). mismatch (descriptor first) (descriptor other))) found)
    ∙ sym (ap first_mismatch c.in_ok-first.ensures.cases.0)

pub loop-other-preserved : goal.loop-other-preserved
loop-other-preserved c =
    let first = c.in_ok-first.first.now in
    let others = c.in_ok-first.others.now in
    let i = c.loop-other.other-index in
    let x = c.other-item.result in
    let test = λ (other : Parts). not (same_descriptor first other) in
    let alike : same_descriptor first x ≡ true = sym c.if-not-is_alike.ensures in
    sym (at_drop_more (find test) others i x c.loop-other-test.true
    ∙ ap (λ (other : Parts). find test (other ∷ drop (i + 1) others)) (sym c.other-item.is)
    ∙ ap (λ (b : Bool). if not b then Some x else find test (drop (i + 1) others)) alike)
    ∙ c.loop-other.invariant

pub returns : goal.returns
returns c =
    let first = c.in_ok-first.first.now in
    let others = c.in_ok-first.others.now in
    let test = λ (other : Parts). not (same_descriptor first other) in
    let none : find test others ≡ None = sym c.loop-other.invariant ∙ ap (find test) (drop_all c.loop-other.other-index others c.loop-other-test.false) in
    sym (ap first_mismatch c.in_ok-first.ensures.cases.0 ∙ ap (option_map (λ (other : Parts). mismatch (descriptor first) (descriptor other))) none)
