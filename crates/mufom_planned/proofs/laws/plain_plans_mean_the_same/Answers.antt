use Rattle.mufom_planned.proofs.Plain as laws
use Rattle.mufom_planned.proofs.laws.plain_plans_mean_the_same.Goals as goal

pub returns : goal.returns
returns c = laws.plain_plans_mean_the_same
