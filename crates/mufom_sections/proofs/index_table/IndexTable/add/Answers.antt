use Rattle.std.proofs.Common.{◌∙◌, sym}
use Rattle.mufom_sections.proofs.TableLemmas.{list_any-flipped, undeclared}
use Rattle.mufom_sections.proofs.index_table.IndexTable.add.Goals as goal

pub add_new-requires-clause-new : goal.add_new-requires-clause-new
add_new-requires-clause-new c =
    sym (list_any-flipped c.args.index c.args.self.now)
    ∙ undeclared c.args.index c.args.self.now c.position.result c.position.ensures.value (sym c.is_some.ensures ∙ c.if-is_some.false)
