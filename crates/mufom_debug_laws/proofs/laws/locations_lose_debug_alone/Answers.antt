use Rattle.mufom_debug_laws.proofs.Located.{locations-lose-debug-alone}
use Rattle.mufom_debug_laws.proofs.laws.locations_lose_debug_alone.Goals as goal

pub returns : goal.returns
returns c = locations-lose-debug-alone
