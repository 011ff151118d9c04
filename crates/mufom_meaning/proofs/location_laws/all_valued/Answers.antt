use Rattle.mufom_meaning.proofs.values.ValueLaws.{all_valued}
use Rattle.mufom_meaning.proofs.location_laws.all_valued.Goals as goal

pub returns : goal.returns
returns c = all_valued
