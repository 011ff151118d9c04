use Rattle.std.proofs.Common.{ℕ, arith, rules}
use Rattle.std.specs.Prelude.{nat_lt}
use Rattle.std.proofs.lemmas.Bool.Decides.{nat_tests}
use Rattle.std.proofs.lemmas.List.Sorted.{IsPartitionPoint-from_clause, IsPartitionedBy-ltb}
use Rattle.mufom_map.proofs.points.count_below.Goals as goal

pub returns : goal.returns
returns c =
    let points = c.args.points.now in
    let point = IsPartitionPoint-from_clause (λ (p : ℕ). nat_lt p c.args.address) points c.partition_point.result
    c.partition_point.ensures.partitioned (IsPartitionedBy-ltb (λ (p : ℕ). p) points c.args.address c.requires) (λ a r f' call. search rules) in
    record {
      within = c.partition_point.ensures.bound;
      below = λ i less. let passes = point.0 i 0 (omega arith) less in grind (arith, nat_tests);
      others = λ i more inside. let fails = point.1 i 0 more inside in grind (arith, nat_tests);
    }
