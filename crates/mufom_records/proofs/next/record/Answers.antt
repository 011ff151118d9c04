use Rattle.mufom_records.proofs.next.record.Goals as goal

pub returns-in-Begin-clause-tokens : goal.returns-in-Begin-clause-tokens
returns-in-Begin-clause-tokens c = c.header_begin.ensures.tokens _
