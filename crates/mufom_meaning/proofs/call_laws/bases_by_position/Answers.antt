use Rattle.mufom_meaning.proofs.Placed.{bases_by_position}
use Rattle.mufom_meaning.proofs.call_laws.bases_by_position.Goals as goal

pub returns : goal.returns
returns c = bases_by_position
