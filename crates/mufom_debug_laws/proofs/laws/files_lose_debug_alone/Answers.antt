use Rattle.mufom_debug_laws.proofs.Files.{files-lose-debug-alone}
use Rattle.mufom_debug_laws.proofs.laws.files_lose_debug_alone.Goals as goal

pub returns : goal.returns
returns c = files-lose-debug-alone
