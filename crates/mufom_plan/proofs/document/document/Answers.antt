use Rattle.std.proofs.Common.{◌∙◌, ap, sym}
use Rattle.toml.specs.Parse.{parse_document}
use Rattle.mufom_plan.proofs.DocumentLemmas.{document_of-IsUtf8}
use Rattle.mufom_plan.proofs.document.document.Goals as goal

pub returns-in-Ok-table_from_str-clause-ok : goal.returns-in-Ok-table_from_str-clause-ok
returns-in-Ok-table_from_str-clause-ok c =
    document_of-IsUtf8 c.args.text.now c.in-Ok.ensures.cases.1 ∙ ap parse_document (sym c.in-Ok.ensures.cases.0) ∙ c.in-Ok-table_from_str.ensures.ok
