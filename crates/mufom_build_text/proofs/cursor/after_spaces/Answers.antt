use Rattle.std.proofs.Common.{◌∷◌, ap, ◌∙◌, arith}
use Rattle.mufom_build_text.proofs.Fronts.{space_more}
use Rattle.mufom_build_text.proofs.cursor.after_spaces.Goals as goal

pub loop-first-preserved : goal.loop-first-preserved
loop-first-preserved c = record {
  front = space_more _ _ _ c.loop-first.invariant.front (c.in-Some.ensures.cases.0 ∙ ap (λ b. b ∷ c.in-Some.after.now) c.if-first-ne32.false);
  within = omega (arith, c.in-Some.ensures.cases.1);
}
