use Rattle.mufom_write.proofs.Stated.{stated}
use Rattle.mufom_write.proofs.write.write_module.Goals as goal

pub returns-in-Ok-clause-spells : goal.returns-in-Ok-clause-spells
returns-in-Ok-clause-spells g c = stated c.args.module.now c.parts.ensures.valid c.parts.ensures.made

pub returns-in-Err-clause-spells : goal.returns-in-Err-clause-spells
returns-in-Err-clause-spells g c = stated c.args.module.now c.parts.ensures.valid c.parts.ensures.made
