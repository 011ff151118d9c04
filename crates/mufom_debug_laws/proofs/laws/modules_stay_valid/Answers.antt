use Rattle.mufom_debug_laws.proofs.Valid.{modules-stay-valid}
use Rattle.mufom_debug_laws.proofs.laws.modules_stay_valid.Goals as goal

pub returns : goal.returns
returns c = modules-stay-valid
