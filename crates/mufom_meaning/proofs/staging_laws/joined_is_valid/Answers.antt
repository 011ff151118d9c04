use Rattle.mufom_meaning.proofs.staging.JoinedValid.{joined_is_valid}
use Rattle.mufom_meaning.proofs.staging_laws.joined_is_valid.Goals as goal

pub returns : goal.returns
returns c = joined_is_valid
