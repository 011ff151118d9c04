use Rattle.std.proofs.Common.{List, [], map, refl, subst, ℕ}
use Rattle.std.specs.String.{string_bytes}
use Rattle.mufom_explain_text.proofs.ExplainReading.{again-explains}
use Rattle.mufom_explain_text.specs.Explains.{AskFor}
use Rattle.mufom_words.specs.declared.stop.UsageFault.TheVariants as usage
use Rattle.mufom_outcome.specs.declared.outcome.Outcome.TheVariants as outcome
use Rattle.mufom_command.proofs.explain.explain_request.Goals as goal

pub explain_task-requires-clause-asks : goal.explain_task-requires-clause-asks
explain_task-requires-clause-asks g c =
    subst (AskFor (map (λ word. string_bytes word) c.args.words.now)) c.in-Run.is c.requires.asks

pub returns-in-Explain : goal.returns-in-Explain
returns-in-Explain g c =
    let words : List (List ℕ) = map (λ word. string_bytes word) c.args.words.now in
    let old = g.H.World.meaning c.args.host.now in let new = g.H.World.meaning c.print_explanation.new.host in
    let before = g.H.World.faults c.args.host.now in let now = g.H.World.faults c.print_explanation.new.host in
    let put = c.print_explanation.ensures in
    again-explains words old before new now put.only (outcome.Usage usage.BadWords) c.print_explanation.result [] put.answer put.told
    (subst (AskFor words) c.in-Explain.is c.requires.asks) refl refl
