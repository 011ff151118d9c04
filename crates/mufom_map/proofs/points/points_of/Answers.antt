use Rattle.std.proofs.Common.{◌≤◌, ℕ, List, sym, subst, arith}
use Rattle.std.specs.Prelude.{All}
use Rattle.std.proofs.lemmas.List.Sorted.{All-permutation, IsNonDecreasingBy-from_sort, length_permutation, sum_by-IsPermutation}
use Rattle.mufom_map.specs.Points.{AreSums, above, most_point}
use Rattle.mufom_map.proofs.points.points_of.Goals as goal

pub sums_of-requires-clause-low : goal.sums_of-requires-clause-low
sums_of-requires-clause-low c =
    subst (All (λ (p : ℕ). p ≤ most_point)) (sym c.deref.ensures.value)
    (All-permutation (λ (p : ℕ). p ≤ most_point) c.args.points.items c.sort.new.self.items c.in_ok-sort.ensures.permutation c.requires.low)

pub invariant_of-result : goal.invariant_of-result
invariant_of-result c =
    let same = length_permutation c.args.points.items c.sort.new.self.items c.in_ok-sort.ensures.permutation in
    let few = c.requires.few in
    record {
      rising = IsNonDecreasingBy-from_sort (λ (x : ℕ). x) c.sort.new.self.items c.in_ok-sort.ensures.sorted;
      low = All-permutation (λ (p : ℕ). p ≤ most_point) c.args.points.items c.sort.new.self.items c.in_ok-sort.ensures.permutation c.requires.low;
      few = omega (arith, same, few);
      sums_are = subst (λ (points : List ℕ). AreSums points c.in_ok-sums.sums.items) c.deref.ensures.value c.in_ok-sums.ensures;
    }

pub returns : goal.returns
returns c = λ a. sum_by-IsPermutation (above a) c.args.points.items c.sort.new.self.items c.in_ok-sort.ensures.permutation
