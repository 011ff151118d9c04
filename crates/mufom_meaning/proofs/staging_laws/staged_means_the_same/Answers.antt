use Rattle.mufom_meaning.proofs.staging.Stages.{staged_means_the_same}
use Rattle.mufom_meaning.proofs.staging_laws.staged_means_the_same.Goals as goal

pub returns : goal.returns
returns c = staged_means_the_same
