use Rattle.mufom_groups.proofs.FlatMeaning.{links-stand-for-flat}
use Rattle.mufom_groups.proofs.laws.links_stand_for_flat_lists.Goals as goal

pub returns : goal.returns
returns c = links-stand-for-flat
