use Rattle.std.proofs.Common.{◌∙◌}
use Rattle.mufom_plan.specs.PlanText.{plan_keys}
use Rattle.mufom_plan.proofs.DocumentLemmas.{has_only_keys-members_view}
use Rattle.mufom_plan.proofs.document.has_plan_keys.Goals as goal

pub returns : goal.returns
returns c = c.are_plan_keys.ensures ∙ has_only_keys-members_view plan_keys c.args.document.now.entries
