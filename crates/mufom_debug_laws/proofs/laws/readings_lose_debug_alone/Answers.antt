use Rattle.mufom_debug_laws.proofs.Located.{readings-lose-debug-alone}
use Rattle.mufom_debug_laws.proofs.laws.readings_lose_debug_alone.Goals as goal

pub returns : goal.returns
returns c = readings-lose-debug-alone
