use Rattle.std.proofs.Common.{◌≡◌, ◌∙◌, Some, false, ap, sym, arith}
use Rattle.std.specs.Prelude.{slice_get}
use Rattle.mufom_expr.specs.Tree.{Tree}
use Rattle.mufom_numbers.proofs.Choices.{some_same}
use Rattle.mufom_image_values.proofs.TokenLoops.{below_more}
use Rattle.mufom_image_entries.specs.Valued.{divides}
use Rattle.mufom_image_entries.proofs.Firsts.{drop-next, drop-end}
use Rattle.mufom_image_entries.proofs.debug.first_division.Goals as goal

pub returns-then-divides_by_zero : goal.returns-then-divides_by_zero
returns-then-divides_by_zero c =
    let t = c.in-Some.expression.now in
    let next = drop-next c.args.rest c.loop-expression.count t c.next.new.self (c.loop-expression.invariant.0 ∙ c.in-Some.ensures.steps) in
    (t, next.1, sym c.divides_by_zero.ensures ∙ c.if-divides_by_zero.true, c.loop-expression.invariant.2)

pub loop-expression-preserved : goal.loop-expression-preserved
loop-expression-preserved c =
    let valued = c.args.valued.now in
    let t = c.in-Some.expression.now in
    let n = c.loop-expression.count in
    let next = drop-next c.args.rest n t c.next.new.self (c.loop-expression.invariant.0 ∙ c.in-Some.ensures.steps) in
    let less = next.2 in (
      next.0,
      omega (arith, less),
      below_more (λ j. (u : Tree) → slice_get c.args.rest j ≡ Some u → divides valued u ≡ false) n c.loop-expression.invariant.2
          (λ u e. ap (divides valued) (some_same u t (sym e ∙ next.1)) ∙ sym c.divides_by_zero.ensures ∙ c.if-divides_by_zero.false),
    )

pub returns : goal.returns
returns c j t e =
    c.loop-expression.invariant.2 j (drop-end c.args.rest c.loop-expression.count j t (c.loop-expression.invariant.0 ∙ c.in_default.ensures.steps.0) e) t e
