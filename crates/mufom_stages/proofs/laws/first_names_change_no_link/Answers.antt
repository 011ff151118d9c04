use Rattle.mufom_stages.proofs.FirstNames.{first-names-change-no-link}
use Rattle.mufom_stages.proofs.laws.first_names_change_no_link.Goals as goal

pub returns : goal.returns
returns c = first-names-change-no-link
