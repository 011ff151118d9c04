use Rattle.mufom_records.proofs.brackets.gnu_field_item.Goals as goal

pub returns-clause-tokens : goal.returns-clause-tokens
returns-clause-tokens c = c.item_by_size.ensures.tokens _ c.in_ok-value.ensures.tokens
