use Rattle.std.proofs.Common.{length, ap, sym, subst, arith}
use Rattle.mufom_located.specs.Located.{AreRuns}
use Rattle.mufom_located.proofs.WeightLaws.{sections-few}
use Rattle.mufom_located.proofs.absolute_module.state_location.Goals as goal

pub absolute_loads-requires-clause-runs : goal.absolute_loads-requires-clause-runs
absolute_loads-requires-clause-runs c = subst AreRuns (sym c.as_slice-3.ensures) (0, c.requires.located.is.rows.apart)

pub absolute_loads-requires-clause-count : goal.absolute_loads-requires-clause-count
absolute_loads-requires-clause-count c =
    let few = sections-few c.modules_may_be_placed.ensures c.args.location.now c.requires.located in
    let same = ap length c.as_slice-sections.ensures in
    omega (arith, few, same)
