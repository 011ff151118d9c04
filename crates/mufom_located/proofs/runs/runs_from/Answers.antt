use Rattle.std.proofs.Common.{ap, ◌∙◌, sym, subst, rules}
use Rattle.std.specs.Prelude.{nat_le}
use Rattle.std.proofs.lemmas.List.Sorted.{IsPartitionPoint-from_clause, IsPartitionedBy-leb}
use Rattle.mufom_meaning.specs.declared.located.Run.{Run}
use Rattle.mufom_meaning.specs.Absolute.{loads_between}
use Rattle.mufom_located.specs.Located.{AreRuns}
use Rattle.mufom_meaning.specs.Runs.{run_end}
use Rattle.mufom_located.proofs.RunLaws.{ends_rise, runs-drop, from_first}
use Rattle.mufom_located.proofs.runs.runs_from.Goals as goal

pub returns-clause-runs : goal.returns-clause-runs
returns-clause-runs c = subst AreRuns (sym c.split_at.ensures.back) (runs-drop c.args.runs.now c.partition_point-first.result c.requires)

pub returns-clause-same : goal.returns-clause-same
returns-clause-same c section to =
    let runs = c.args.runs.now in
    let point = IsPartitionPoint-from_clause (λ (run : Run). nat_le (run_end run) c.args.from) runs c.partition_point-first.result
    c.partition_point-first.ensures.partitioned
    (IsPartitionedBy-leb run_end runs c.args.from (ends_rise runs c.requires)) (λ a r f' call. search rules) in
    from_first section c.args.from to runs c.partition_point-first.result point.0
    ∙ ap (λ runs. loads_between section runs c.args.from to) (sym c.split_at.ensures.back)
