use Rattle.mufom_meaning.proofs.staging.JoinedSingle.{joined_is_single}
use Rattle.mufom_meaning.proofs.staging_laws.joined_is_single.Goals as goal

pub returns : goal.returns
returns c = joined_is_single
