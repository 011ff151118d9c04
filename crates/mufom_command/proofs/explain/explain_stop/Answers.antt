use Rattle.std.proofs.Common.{List, map, ℕ}
use Rattle.std.specs.String.{string_bytes}
use Rattle.mufom_explain_text.proofs.ExplainReading.{lacking-all, words-explain, words-unwritten}
use Rattle.mufom_explain_text.specs.Told.{told_text}
use Rattle.mufom_command.proofs.explain.explain_stop.Goals as goal

pub print_explanation-requires : goal.print_explanation-requires
print_explanation-requires g c = words-unwritten c.args.stop c.outcome_of_stop-answer.result c.outcome_of_stop-answer.ensures

pub returns : goal.returns
returns g c =
    let words : List (List ℕ) = map (λ word. string_bytes word) c.args.words.now in
    let old = g.H.World.meaning c.args.host.now in let new = g.H.World.meaning c.print_explanation.new.host in
    let before = g.H.World.faults c.args.host.now in let now = g.H.World.faults c.print_explanation.new.host in
    let put = c.print_explanation.ensures in
    words-explain words old before new now put.only c.outcome_of_stop-answer.result c.print_explanation.result (told_text c.in-Ok.details) put.answer put.told
    c.args.stop c.outcome_of_stop-answer.ensures c.requires.stops c.in-Ok.ensures

pub returns-in_default : goal.returns-in_default
returns-in_default g c =
    lacking-all (map (λ word. string_bytes word) c.args.words.now) (g.H.World.meaning c.args.host.now) (g.H.World.faults c.args.host.now)
