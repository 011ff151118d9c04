use Rattle.std.proofs.Common.{List, ap, map, subst, sym, ℕ, ◌∙◌}
use Rattle.std.specs.String.{string_bytes}
use Rattle.mufom_explain_text.specs.Explains.{Explains}
use Rattle.mufom_task.specs.Calls.{Call, call_of}
use Rattle.std.proofs.lemmas.List.{drop-map}
use Rattle.mufom_command.proofs.command.answer_request.Goals as goal

pub returns-in-Run-clause-does : goal.returns-in-Run-clause-does
returns-in-Run-clause-does g c = rw c.in-Run.is c.carry_out.ensures.does

pub returns-in-Run-clause-memory : goal.returns-in-Run-clause-memory
returns-in-Run-clause-memory g c = rw c.in-Run.is c.carry_out.ensures.memory

pub returns-in-Explain-clause-does : goal.returns-in-Explain-clause-does
returns-in-Explain-clause-does g c =
    let call : Call = call_of g.H.World.meaning g.H.World.faults c.args.host.now c.explain.new.host in
    let does = subst (λ (l : List (List ℕ)). Explains l call c.explain.result)
    (ap (map (λ word. string_bytes word)) c.explained.ensures ∙ sym (drop-map (λ word. string_bytes word) 1 c.args.words.now)) c.explain.ensures in
    rw c.in-Explain.is does
