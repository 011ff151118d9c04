use Rattle.std.proofs.Common.{◌++◌, ◌∷◌, [], map, take, sym, ap, ◌∙◌}
use Rattle.std.specs.List.{enumerate_from}
use Rattle.std.proofs.lemmas.List.{map-append}
use Rattle.mufom_map.specs.Keys.{section_key}
use Rattle.mufom_map.proofs.KeyLaws.{numbered-all, numbered-more}
use Rattle.mufom_map.proofs.order.section_keys.Goals as goal

pub loop-number-preserved : goal.loop-number-preserved
loop-number-preserved c =
    let sections = c.args.sections.now in
    let number = c.loop-number.number in
    let section = c.index-sections-number.result in
    c.in_ok-push.ensures.items
    ∙ (λ i. c.loop-number.invariant i ++ (c.base_of.ensures i, number) ∷ [])
    ∙ sym (map-append section_key (take number (enumerate_from 0 sections)) ((number, section) ∷ []))
    ∙ ap (map section_key) (sym (numbered-more sections number section c.loop-number-test.true c.index-sections-number.is))

pub returns : goal.returns
returns c = c.loop-number.invariant ∙ ap (map section_key) (numbered-all c.args.sections.now c.loop-number.number c.loop-number-test.false)
