use Rattle.mufom_text.proofs.Loops.{each-step}
use Rattle.mufom_map.specs.MapText.{region_line}
use Rattle.mufom_map.specs.Shown.{section_extents}
use Rattle.mufom_map.proofs.regions.region_lines.Goals as goal

pub loop-position-preserved : goal.loop-position-preserved
loop-position-preserved g c =
    each-step g.K.Output.takes g.met.K.Output.joins (region_line c.args.maus (section_extents c.args.room.now.sections.now))
    c.args.regions.now c.loop-position.position
    c.index-regions-position.result c.index-regions-position.result _ _ _
    c.loop-position-test.true c.index-regions-position.is c.loop-position.invariant c.region_line.ensures
