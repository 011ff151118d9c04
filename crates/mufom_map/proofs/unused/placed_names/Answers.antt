use Rattle.std.proofs.Common.{◌||◌, ◌∙◌, Bool, ap, sym}
use Rattle.mufom_map.specs.Unused.{waits_as}
use Rattle.mufom_map.proofs.UnusedLaws.{waits-more}
use Rattle.mufom_map.proofs.unused.placed_names.Goals as goal

pub loop-section-preserved : goal.loop-section-preserved
loop-section-preserved c = λ entry.
    let sections = c.args.sections.now in let i = c.loop-section.section-index in let s = c.section-item.result in
    c.in_ok-add_placed.ensures entry ∙ ap (λ (b : Bool). b || waits_as entry s) (c.loop-section.invariant entry)
    ∙ sym (waits-more entry sections i s s c.loop-section-test.true c.section-item.is)
