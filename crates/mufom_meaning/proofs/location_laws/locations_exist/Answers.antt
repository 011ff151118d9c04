use Rattle.mufom_meaning.proofs.locations.Exists.{locations_exist}
use Rattle.mufom_meaning.proofs.location_laws.locations_exist.Goals as goal

pub returns : goal.returns
returns c = locations_exist
