use Rattle.std.proofs.Common.{◌∙◌, ◌++◌, ap}
use Rattle.mufom_sections.proofs.TableLemmas.{empty_table}
use Rattle.mufom_sections.proofs.index_table.IndexTable.new.Goals as goal

pub invariant_of-result : goal.invariant_of-result
invariant_of-result c =
    empty_table (c.new.result ++ c.new-2.result) (ap (λ row. row ++ c.new-2.result) c.new.ensures ∙ c.new-2.ensures)
