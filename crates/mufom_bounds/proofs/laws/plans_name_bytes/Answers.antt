use Rattle.mufom_bounds.proofs.PlanBytes.{text-bounded}
use Rattle.mufom_bounds.proofs.laws.plans_name_bytes.Goals as goal

pub returns : goal.returns
returns c = text-bounded
