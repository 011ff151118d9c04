use Rattle.mufom_prune.proofs.Single.{pruned_is_single}
use Rattle.mufom_prune.proofs.laws.pruned_is_single.Goals as goal

pub returns : goal.returns
returns c = pruned_is_single
