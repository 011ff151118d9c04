use Rattle.std.proofs.Common.{◌∙◌, ap, sym}
use Rattle.toml.specs.Parse.{parse_document}
use Rattle.mufom_plan.proofs.DocumentLemmas.{document_of-IsUtf8}
use Rattle.mufom_plan_faults.proofs.document.document.Goals as goal

pub returns-in-Ok-table_from_str : goal.returns-in-Ok-table_from_str
returns-in-Ok-table_from_str c =
    sym (document_of-IsUtf8 c.args.text.now c.in-Ok.ensures.cases.1 ∙ ap parse_document (sym c.in-Ok.ensures.cases.0) ∙ c.in-Ok-table_from_str.ensures.ok)
