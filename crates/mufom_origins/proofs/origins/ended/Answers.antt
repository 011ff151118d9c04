use Rattle.std.proofs.Common.{ℕ, arith, rules}
use Rattle.std.specs.Prelude.{nat_le}
use Rattle.std.proofs.lemmas.Bool.Decides.{nat_tests}
use Rattle.std.proofs.lemmas.List.Sorted.{IsPartitionPoint-from_clause, IsPartitionedBy-leb}
use Rattle.mufom_origins.proofs.origins.ended.Goals as goal

pub returns : goal.returns
returns c =
    let ends = c.args.ends.now in
    let point = IsPartitionPoint-from_clause (λ (e : ℕ). nat_le e c.args.number) ends c.partition_point.result c.partition_point.ensures.partitioned
    (IsPartitionedBy-leb (λ (e : ℕ). e) ends c.args.number c.requires) (λ a r f' call. search rules) in
    record {
      within = c.partition_point.ensures.bound;
      at_most = λ i less. let passes = point.0 i 0 (omega arith) less in grind (arith, nat_tests);
      greater = λ i more inside. let fails = point.1 i 0 more inside in grind (arith, nat_tests);
    }
