use Rattle.std.proofs.Common.{◌∙◌}
use Rattle.mufom_plan.specs.PlanText.{symbol_keys}
use Rattle.mufom_plan.proofs.DocumentLemmas.{has_only_keys-members_view}
use Rattle.mufom_plan.proofs.document.has_symbol_keys.Goals as goal

pub returns : goal.returns
returns c = c.are_symbol_keys.ensures ∙ has_only_keys-members_view symbol_keys c.args.table.now.entries
