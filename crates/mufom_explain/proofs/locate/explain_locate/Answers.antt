use Rattle.mufom_explain.proofs.PlacedLaws.{unit-count}
use Rattle.mufom_explain.proofs.locate.explain_locate.Goals as goal

pub invariant_of-result-clause-units : goal.invariant_of-result-clause-units
invariant_of-result-clause-units c = unit-count c.args.context.«module».now c.args.context.plan.now c.a_module_is_valid.ensures.valid
