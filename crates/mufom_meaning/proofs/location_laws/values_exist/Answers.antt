use Rattle.mufom_meaning.proofs.values.ValueLaws.{values_exist}
use Rattle.mufom_meaning.proofs.location_laws.values_exist.Goals as goal

pub returns : goal.returns
returns c = values_exist
