use Rattle.mufom_stages.proofs.Linked.{lists-link-as-their-leaves}
use Rattle.mufom_stages.proofs.laws.lists_link_as_their_leaves.Goals as goal

pub returns : goal.returns
returns c = lists-link-as-their-leaves
