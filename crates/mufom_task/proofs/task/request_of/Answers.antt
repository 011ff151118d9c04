use Rattle.mufom_task.proofs.RequestLaws.{sound-asked}
use Rattle.mufom_task.proofs.task.request_of.Goals as goal

pub returns-clause-sound : goal.returns-clause-sound
returns-clause-sound c = sound-asked c.args.command c.requires.sound c.request_named.result c.request_named.ensures.is
