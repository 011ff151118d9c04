use Rattle.std.proofs.Common.{sym, subst}
use Rattle.mufom_plan.specs.SoundPlans.{IsSoundPlan}
use Rattle.mufom_make.proofs.LinkLaws.{link-distinct}
use Rattle.mufom_make.proofs.PlanLaws.{location-of-all, refusal-of-all, sound-plan}
use Rattle.mufom_make.proofs.making.locate_generated.Goals as goal

pub locate-requires-clause-names : goal.locate-requires-clause-names
locate-requires-clause-names c = link-distinct c.args.count c.in_ok-module.module c.requires.few c.in_ok-module.ensures

pub locate-requires-clause-plan : goal.locate-requires-clause-plan
locate-requires-clause-plan c = subst IsSoundPlan (sym c.in_ok-plan.ensures) (sound-plan c.args.count)

pub returns-clause-located : goal.returns-clause-located
returns-clause-located c = location-of-all c.locate.result c.args.count c.in_ok-module.module c.in_ok-plan.plan c.requires.few c.in_ok-module.ensures
    c.in_ok-plan.ensures c.locate.ensures.located

pub returns-clause-refused : goal.returns-clause-refused
returns-clause-refused c = refusal-of-all c.locate.result c.args.count c.in_ok-module.module c.in_ok-plan.plan c.requires.few c.in_ok-module.ensures
    c.in_ok-plan.ensures c.locate.ensures.refused
