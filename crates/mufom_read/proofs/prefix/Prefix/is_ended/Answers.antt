use Rattle.mufom_read.proofs.prefix.Prefix.is_ended.Goals as goal

pub returns-clause-prefix : goal.returns-clause-prefix
returns-clause-prefix c = λ prefix is. is.ended
