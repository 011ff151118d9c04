use Rattle.mufom_meaning.proofs.staging.Staging.{joined_stands_for}
use Rattle.mufom_meaning.proofs.staging_laws.joined_stands_for.Goals as goal

pub returns : goal.returns
returns c = joined_stands_for
