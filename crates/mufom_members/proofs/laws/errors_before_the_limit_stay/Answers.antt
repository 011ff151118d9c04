use Rattle.mufom_members.proofs.PrefixLaws.{prefix_errors_stay}
use Rattle.mufom_members.proofs.laws.errors_before_the_limit_stay.Goals as goal

pub returns : goal.returns
returns c = prefix_errors_stay
