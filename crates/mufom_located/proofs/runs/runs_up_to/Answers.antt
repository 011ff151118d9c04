use Rattle.std.proofs.Common.{ap, ◌∙◌, sym, rules}
use Rattle.std.specs.Prelude.{nat_lt}
use Rattle.std.proofs.lemmas.List.Sorted.{IsPartitionPoint-from_clause, IsPartitionedBy-ltb}
use Rattle.mufom_meaning.specs.declared.located.Run.{Run}
use Rattle.mufom_meaning.specs.Absolute.{loads_between}
use Rattle.mufom_located.proofs.RunLaws.{addresses_rise, up_to_last}
use Rattle.mufom_located.proofs.runs.runs_up_to.Goals as goal

pub returns : goal.returns
returns c section from =
    let runs = c.args.runs.now in
    let point = IsPartitionPoint-from_clause (λ (run : Run). nat_lt run.address c.args.to) runs c.partition_point-count.result
    c.partition_point-count.ensures.partitioned
    (IsPartitionedBy-ltb (λ (run : Run). run.address) runs c.args.to (addresses_rise runs c.requires)) (λ a r f' call. search rules) in
    up_to_last section from c.args.to runs c.partition_point-count.result point.1
    ∙ ap (λ runs. loads_between section runs from c.args.to) (sym c.split_at.ensures.front)
