use Rattle.std.proofs.Common.{◌∙◌}
use Rattle.mufom_plan.specs.PlanText.{region_keys}
use Rattle.mufom_plan.proofs.DocumentLemmas.{has_only_keys-members_view}
use Rattle.mufom_plan.proofs.document.has_region_keys.Goals as goal

pub returns : goal.returns
returns c = c.are_region_keys.ensures ∙ has_only_keys-members_view region_keys c.args.table.now.entries
