use Rattle.mufom_groups.proofs.GroupWalk.{count-here}
use Rattle.mufom_groups.proofs.linking.file_count.Goals as goal

pub loop-mark-preserved : goal.loop-mark-preserved
loop-mark-preserved c = count-here c.args.marks.now c.loop-mark.mark-index _ c.loop-mark.count c.own_files-count.result c.loop-mark-test.true
    c.own_files-count.ensures.value c.own_files-count.ensures.few c.loop-mark.invariant
