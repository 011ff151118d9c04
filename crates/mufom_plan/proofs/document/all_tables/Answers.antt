use Rattle.std.proofs.Common.{◌∙◌, sym}
use Rattle.std.specs.Prelude.{is_some}
use Rattle.toml.specs.Data.{as_table}
use Rattle.toml.specs.View.{view}
use Rattle.mufom_plan.proofs.DocumentLemmas.{list_all-map}
use Rattle.mufom_plan.proofs.document.all_tables.Goals as goal

pub returns : goal.returns
returns c = c.are_tables.ensures ∙ sym (list_all-map (λ value. is_some (as_table value)) view c.args.values.now)
