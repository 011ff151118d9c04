use Rattle.mufom_words.specs.Tree.{tree_of}
use Rattle.mufom_groups.proofs.RangeWalk.{ranged-here, ranging-begins}
use Rattle.mufom_groups.proofs.refused.group_ranges.Goals as goal

pub loop-mark-init : goal.loop-mark-init
loop-mark-init c = rw (c.new-ranges.ensures.items, c.new-begun.ensures.items) (ranging-begins c.args.marks.now c.requires.spelled c.requires.numbered)

pub loop-mark-preserved : goal.loop-mark-preserved
loop-mark-preserved c =
    ranged-here (tree_of c.args.marks.now) c.args.marks.now c.loop-mark.mark-index _ c.loop-mark.ranges.items c.range_after.new.ranges.items
    c.loop-mark.count _ c.loop-mark.begun.items c.range_after.new.begun.items c.loop-mark-test.true c.loop-mark.invariant c.in_ok-count.ensures
