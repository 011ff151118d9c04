use Rattle.std.proofs.Common.{List, Result, map, subst, sym, ℕ}
use Rattle.std.specs.String.{string_bytes}
use Rattle.mufom_command.proofs.AnswerLaws.{does-nothing}
use Rattle.mufom_command.proofs.HelpLaws.{help-asked}
use Rattle.mufom_command.specs.RunParts.{DoesBy, DoesWith}
use Rattle.mufom_task.specs.Calls.{Call, call_of}
use Rattle.mufom_task.specs.Tasks.{AsksForHelp}
use Rattle.mufom_task.specs.declared.task.Request.{Request}
use Rattle.mufom_words.specs.Answer.{answer_of}
use Rattle.mufom_words.specs.declared.command.Command.{Command}
use Rattle.mufom_words.specs.declared.stop.WordsStop.{WordsStop}
use Rattle.mufom_command.proofs.command.answer.Goals as goal

pub returns-in-Ok-request_of-clause-does : goal.returns-in-Ok-request_of-clause-does
returns-in-Ok-request_of-clause-does g c =
    let words : List (List ℕ) = map (λ word. string_bytes word) c.args.words.now in
    let call : Call = call_of g.H.World.meaning g.H.World.faults c.args.host.now c.answer_request.new.host in
    subst (λ (r : Result Command WordsStop). DoesBy words r call c.answer_request.result) (sym c.in-Ok.ensures.ok)
    (subst (λ (q : Request). DoesWith words q call c.answer_request.result) c.in-Ok-request_of.ensures.is c.answer_request.ensures.does)

pub returns-in-Ok-request_of-clause-memory : goal.returns-in-Ok-request_of-clause-memory
returns-in-Ok-request_of-clause-memory g c = λ prints.
    let words : List (List ℕ) = map (λ word. string_bytes word) c.args.words.now in
    c.answer_request.ensures.memory (subst AsksForHelp (sym c.in-Ok-request_of.ensures.is) (help-asked words c.in-Ok.command prints c.in-Ok.ensures.ok))

pub returns-in-Err-request_of-clause-does : goal.returns-in-Err-request_of-clause-does
returns-in-Err-request_of-clause-does g c =
    let words : List (List ℕ) = map (λ word. string_bytes word) c.args.words.now in
    let old = g.H.World.meaning c.args.host.now in let before = g.H.World.faults c.args.host.now in
    does-nothing words (answer_of words) old before

pub returns-in-Err-request_of-clause-memory : goal.returns-in-Err-request_of-clause-memory
returns-in-Err-request_of-clause-memory g c = λ prints.
    let words : List (List ℕ) = map (λ word. string_bytes word) c.args.words.now in
    absurd (c.in-Err-request_of.ensures.memory (help-asked words c.in-Ok.command prints c.in-Ok.ensures.ok))
