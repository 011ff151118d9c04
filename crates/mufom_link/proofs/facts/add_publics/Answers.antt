use Rattle.std.proofs.Common.{◌≡◌, ℕ, ◌+◌, List, ◌∷◌, ap, sym, ◌∙◌, drop, true, false, is_some, Err, arith}
use Rattle.std.proofs.lemmas.List.{at_drop_more}
use Rattle.mufom_names.specs.declared.name.Public.{Public}
use Rattle.mufom_names.specs.Names.{names_of}
use Rattle.mufom_names.specs.Index.{position_of, with_entry}
use Rattle.mufom_link.specs.Publics.{indexed}
use Rattle.mufom_link.proofs.PublicsLaws.{indexed-known, indexed-new}
use Rattle.mufom_link.proofs.facts.add_publics.Goals as goal

pub returns-then-is_some : goal.returns-then-is_some
returns-then-is_some c =
    let publics = c.args.publics.now in
    let i = c.loop-position.position in
    let index = c.loop-position.index in
    let n = c.args.first + i in
    let x = c.index-publics-position.result in
    let rest = names_of (drop (i + 1) publics) in
    let name = c.as_slice-name.ensures ∙ ap (λ (p : Public). p.name) (sym c.index-publics-position.is) in
    let there : is_some (position_of index x.name) ≡ true =
    ap (λ k. is_some (position_of index k)) (sym name) ∙ ap is_some (sym c.in_ok-add.ensures.answer) ∙ sym c.is_some.ensures ∙ c.if-is_some.true in
    sym c.loop-position.invariant
    ∙ at_drop_more (λ ps. indexed index n (names_of ps)) publics i x c.loop-position-test.true
    ∙ ap (λ (p : Public). indexed index n (p.name ∷ rest)) (sym c.index-publics-position.is)
    ∙ indexed-known index n x.name rest there
    ∙ ap (λ (k : List ℕ). Err k) (sym (c.in_ok-from_slice.ensures ∙ name))

pub loop-position-preserved : goal.loop-position-preserved
loop-position-preserved c =
    let publics = c.args.publics.now in
    let i = c.loop-position.position in
    let index = c.loop-position.index in
    let n = c.args.first + i in
    let x = c.index-publics-position.result in
    let rest = names_of (drop (i + 1) publics) in
    let name = c.as_slice-name.ensures ∙ ap (λ (p : Public). p.name) (sym c.index-publics-position.is) in
    let new : is_some (position_of index x.name) ≡ false =
    ap (λ k. is_some (position_of index k)) (sym name) ∙ ap is_some (sym c.in_ok-add.ensures.answer) ∙ sym c.is_some.ensures ∙ c.if-is_some.false in
    let after = c.in_ok-add.ensures.after ∙ ap (λ k. with_entry index k n) name in
    let next : c.args.first + (i + 1) ≡ n + 1 = omega arith in
    (λ j. indexed (after j) (next j) rest)
    ∙ sym (at_drop_more (λ ps. indexed index n (names_of ps)) publics i x c.loop-position-test.true
    ∙ ap (λ (p : Public). indexed index n (p.name ∷ rest)) (sym c.index-publics-position.is)
    ∙ indexed-new index n x.name rest new)
    ∙ c.loop-position.invariant
