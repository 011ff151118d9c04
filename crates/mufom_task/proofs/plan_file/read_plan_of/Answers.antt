use Rattle.std.proofs.Common.{sym, subst}
use Rattle.mufom_planned.specs.ReadPlans.{IsReadPlan}
use Rattle.mufom_task.proofs.PlanLaws.{no-regions-sound}
use Rattle.mufom_task.proofs.plan_file.read_plan_of.Goals as goal

pub returns-in-None-clause-sound : goal.returns-in-None-clause-sound
returns-in-None-clause-sound g c = subst IsReadPlan (sym c.no_regions.ensures) no-regions-sound
