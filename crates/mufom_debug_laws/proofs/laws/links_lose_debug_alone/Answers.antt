use Rattle.mufom_debug_laws.proofs.Links.{links-lose-debug-alone}
use Rattle.mufom_debug_laws.proofs.laws.links_lose_debug_alone.Goals as goal

pub returns : goal.returns
returns c = links-lose-debug-alone
