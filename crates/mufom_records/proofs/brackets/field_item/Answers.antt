use Rattle.mufom_records.proofs.brackets.field_item.Goals as goal

pub returns-clause-tokens : goal.returns-clause-tokens
returns-clause-tokens c = c.field_by_comma.ensures.tokens _ c.in_ok-value.ensures.tokens
