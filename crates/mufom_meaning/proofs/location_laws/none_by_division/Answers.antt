use Rattle.mufom_meaning.proofs.values.ValueLaws.{none_by_division}
use Rattle.mufom_meaning.proofs.location_laws.none_by_division.Goals as goal

pub returns : goal.returns
returns c = none_by_division
