use Rattle.mufom_planned.proofs.Alike as laws
use Rattle.mufom_planned.proofs.laws.staged_plans_mean_the_same.Goals as goal

pub returns : goal.returns
returns c = laws.staged_plans_mean_the_same
