use Rattle.mufom_records.proofs.next.coded.Goals as goal

pub returns-in-224-clause-tokens : goal.returns-in-224-clause-tokens
returns-in-224-clause-tokens c = c.module_begin.ensures.tokens _

pub returns-in-230-clause-tokens : goal.returns-in-230-clause-tokens
returns-in-230-clause-tokens c = c.section_type.ensures.tokens _

pub returns-in-231-clause-tokens : goal.returns-in-231-clause-tokens
returns-in-231-clause-tokens c = c.alignment.ensures.tokens _

pub returns-in-232-clause-tokens : goal.returns-in-232-clause-tokens
returns-in-232-clause-tokens c = c.public_name.ensures.tokens _

pub returns-in-233-clause-tokens : goal.returns-in-233-clause-tokens
returns-in-233-clause-tokens c = c.reference_name.ensures.tokens _

pub returns-in-240-clause-tokens : goal.returns-in-240-clause-tokens
returns-in-240-clause-tokens c = c.debug_name.ensures.tokens _

pub returns-in-241-clause-tokens : goal.returns-in-241-clause-tokens
returns-in-241-clause-tokens c = c.note.ensures.tokens _

pub returns-in-244-clause-tokens : goal.returns-in-244-clause-tokens
returns-in-244-clause-tokens c = c.weak_reference.ensures.tokens _
