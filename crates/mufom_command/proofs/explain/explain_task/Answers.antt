use Rattle.std.proofs.Common.{map, subst}
use Rattle.std.specs.String.{string_bytes}
use Rattle.mufom_command.proofs.OtherLaws.{names-inputs}
use Rattle.mufom_explain_text.specs.Explains.{AskFor}
use Rattle.mufom_task.specs.declared.task.Task.{Task}
use Rattle.mufom_task.specs.declared.task.Request.TheVariants as request
use Rattle.mufom_command.proofs.explain.explain_task.Goals as goal

pub explain_link-requires-clause-asks : goal.explain_link-requires-clause-asks
explain_link-requires-clause-asks g c =
    subst (λ (t : Task). AskFor (map (λ word. string_bytes word) c.args.words.now) (request.Run t)) c.in-Link.is c.requires.asks

pub explain_location-requires-clause-asks : goal.explain_location-requires-clause-asks
explain_location-requires-clause-asks g c =
    subst (λ (t : Task). AskFor (map (λ word. string_bytes word) c.args.words.now) (request.Run t)) c.in-Locate.is c.requires.asks

pub explain_other-requires-clause-other : goal.explain_other-requires-clause-other
explain_other-requires-clause-other g c = names-inputs c.args.task.now c.in_default.not-Link c.in_default.not-Locate
