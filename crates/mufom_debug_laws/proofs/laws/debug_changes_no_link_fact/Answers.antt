use Rattle.mufom_debug_laws.proofs.Links.{debug-changes-no-link-fact}
use Rattle.mufom_debug_laws.proofs.laws.debug_changes_no_link_fact.Goals as goal

pub returns : goal.returns
returns c = debug-changes-no-link-fact
