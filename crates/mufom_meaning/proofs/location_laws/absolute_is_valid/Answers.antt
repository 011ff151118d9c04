use Rattle.mufom_meaning.proofs.absolute.Valid.{absolute_is_valid}
use Rattle.mufom_meaning.proofs.location_laws.absolute_is_valid.Goals as goal

pub returns : goal.returns
returns c = absolute_is_valid
