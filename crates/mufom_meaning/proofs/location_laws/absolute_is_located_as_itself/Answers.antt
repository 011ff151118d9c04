use Rattle.mufom_meaning.proofs.absolute.Located.{absolute_is_located_as_itself}
use Rattle.mufom_meaning.proofs.location_laws.absolute_is_located_as_itself.Goals as goal

pub returns : goal.returns
returns c = absolute_is_located_as_itself
