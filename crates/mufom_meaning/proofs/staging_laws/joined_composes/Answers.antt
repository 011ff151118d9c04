use Rattle.mufom_meaning.proofs.staging.Composed.{joined_composes}
use Rattle.mufom_meaning.proofs.staging_laws.joined_composes.Goals as goal

pub returns : goal.returns
returns c = joined_composes
