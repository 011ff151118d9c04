use Rattle.std.proofs.Common.{◌≡◌, ◌+◌, ◌*◌, ◌<◌, ◌≤◌, ℕ, length, take, get_or, sum_by, ap, ◌∙◌, subst, arith}
use Rattle.std.specs.Prelude.{sum}
use Rattle.std.proofs.lemmas.List.{get_or_default}
use Rattle.mufom_map.specs.declared.points.Points.{Points}
use Rattle.mufom_map.specs.Points.{above}
use Rattle.mufom_map.proofs.PointLaws.{above-sum}
use Rattle.mufom_map.proofs.points.Points.sum_above.Goals as goal

-- the sum at the number of the points that are below
the-sum : (self : Points) (k s : ℕ) → k ≤ length self.points.items → s ≡ get_or self.sums.items k s → s ≡ sum (take k self.points.items)
the-sum self k s within is =
    let count = self.sums_are.count in
    is ∙ get_or_default self.sums.items k s 0 (omega (arith, count, within)) ∙ self.sums_are.each k within

total : (c : goal.After-row_known-1) → sum_by (above c.args.address) c.args.self.now.points.items + c.index.result.now
    ≡ c.count_below-count.result * c.args.address
total c =
    let points = c.args.self.now.points.items in
    let k = c.count_below-count.result in
    let all = c.deref.ensures.value in
    let within : k ≤ length points = let here = c.count_below-count.ensures.within in let long = ap length all in omega (arith, here, long) in
    let sums = above-sum c.args.address points k within
    (λ i less. subst (λ ps. get_or ps i 0 < c.args.address) all (c.count_below-count.ensures.below i less))
    (λ i low less. subst (λ ps. c.args.address ≤ get_or ps i 0) all
    (c.count_below-count.ensures.others i low (let long = ap length all in omega (arith, less, long)))) in
    let at = the-sum c.args.self.now k c.index.result.now within c.index.ensures in
    omega (arith, sums, at)

pub overflow_sub-result : goal.overflow_sub-result
overflow_sub-result c = let t = total c in omega (arith, t)

pub returns-clause-value : goal.returns-clause-value
returns-clause-value c = let t = total c in omega (arith, t)
