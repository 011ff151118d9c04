use Rattle.mufom_prune.proofs.Meaning.{pruned_means_the_rest}
use Rattle.mufom_prune.proofs.laws.pruned_means_the_rest.Goals as goal

pub returns : goal.returns
returns c = pruned_means_the_rest
