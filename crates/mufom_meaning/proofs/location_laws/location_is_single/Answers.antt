use Rattle.mufom_meaning.proofs.locations.Single.{location_is_single}
use Rattle.mufom_meaning.proofs.location_laws.location_is_single.Goals as goal

pub returns : goal.returns
returns c = location_is_single
