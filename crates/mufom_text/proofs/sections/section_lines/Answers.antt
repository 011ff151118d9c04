use Rattle.mufom_text.specs.Show.{section_line}
use Rattle.mufom_text.proofs.Loops.{each-step}
use Rattle.mufom_text.proofs.sections.section_lines.Goals as goal

pub loop-position-preserved : goal.loop-position-preserved
loop-position-preserved g c =
    each-step g.K.Output.takes g.met.K.Output.joins section_line c.args.sections.now c.loop-position.position c.index-sections-position.result
    c.index-sections-position.result _ _ _ c.loop-position-test.true c.index-sections-position.is c.loop-position.invariant c.section_line.ensures
