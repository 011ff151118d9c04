use Rattle.mufom_meaning.proofs.absolute.Weight.{absolute_weighs}
use Rattle.mufom_meaning.proofs.location_laws.absolute_weighs.Goals as goal

pub returns : goal.returns
returns c = absolute_weighs
