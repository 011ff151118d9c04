use Rattle.mufom_debug_laws.proofs.Planned.{plans-lose-debug-alone}
use Rattle.mufom_debug_laws.proofs.laws.plans_lose_debug_alone.Goals as goal

pub returns : goal.returns
returns c = plans-lose-debug-alone
