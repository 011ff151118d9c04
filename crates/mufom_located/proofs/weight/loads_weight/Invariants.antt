use Rattle.std.proofs.Common.{◌≡◌, ℕ, ◌+◌, drop, sum_by}
use Rattle.std.specs.Prelude.{flat_map}
use Rattle.std.specs.List.{enumerate_from}
use Rattle.mufom_module.specs.Weights.{capped, load_weight}
use Rattle.mufom_meaning.specs.Absolute.{section_loads}
use Rattle.mufom_located.proofs.weight.loads_weight.Given as goal

abbrev pub invariant-loop-section : goal.invariant-loop-section
invariant-loop-section l =
    (done : ℕ) × (l.total ≡ capped done)
    × (done + sum_by load_weight (flat_map (section_loads l.runs) (enumerate_from l.section-index (drop l.section-index l.sections)))
    ≡ sum_by load_weight (flat_map (section_loads l.runs) (enumerate_from 0 l.sections)))
