-- A law about runs of `make`: none is refused, whatever the number of modules.
use Rattle.std.specs.Prelude.{◌≡◌, ◌⊎◌, ℕ, List, Ok}
use Rattle.mufom_host.specs.World.{Rose}
use Rattle.mufom_words.specs.declared.command.Command.{Command}
use Rattle.mufom_words.specs.Answer.{answer_of}
use Rattle.mufom_outcome.specs.declared.outcome.Outcome.{Outcome}
use Rattle.mufom_outcome.specs.declared.outcome.Outcome.TheVariants as outcome
use Rattle.mufom_works.specs.Result.{Answers}
use Rattle.mufom_task.specs.declared.task.Request.TheVariants as request
use Rattle.mufom_task.specs.declared.task.Task.TheVariants as task
use Rattle.mufom_task.specs.Calls.{Call}
use Rattle.mufom_task.specs.Tasks.{request_of}

-- a write failed in the call, or memory ran out
abbrev pub LacksWritesOrMemory : Call → Outcome → Type 0
LacksWritesOrMemory call outcome.WriteFault = Rose call.before.writes call.now.writes
LacksWritesOrMemory call outcome.NoMemory = Unit {0}
LacksWritesOrMemory call _ = ⊥

-- A run of `make` is `Done` unless a write failed or memory ran out. This holds for each number of modules that the arguments can give, from 1 to
-- 65,536.
abbrev pub MakeIsDone : Type 0
MakeIsDone =
    (words : List (List ℕ)) (call : Call) (result : Outcome) (c : Command) (count : ℕ)
    → Answers words call result → answer_of words ≡ Ok c → request_of c ≡ request.Run (task.Make count)
    → (result ≡ outcome.Done) ⊎ LacksWritesOrMemory call result
