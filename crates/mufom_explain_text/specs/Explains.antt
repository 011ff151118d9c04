-- The effect of explaining arguments, or a task whose inputs were read, before the error line of the explanation itself is printed.
use Rattle.std.specs.Prelude.{◌≡◌, ◌⊎◌, List, ℕ, Option, Ok}
use Rattle.mufom_host.specs.World.{NamedFile, OnlyPrints}
use Rattle.mufom_words.specs.declared.command.Command.{Command}
use Rattle.mufom_words.specs.Answer.{answer_of}
use Rattle.mufom_outcome.specs.declared.outcome.Outcome.{Outcome}
use Rattle.mufom_outcome.specs.declared.outcome.Outcome.TheVariants as outcome
use Rattle.mufom_task.specs.declared.task.Request.{Request}
use Rattle.mufom_task.specs.declared.task.Task.{Task}
use Rattle.mufom_task.specs.declared.task.Task.TheVariants as task
use Rattle.mufom_task.specs.Calls.{Call, NoneFalls}
use Rattle.mufom_task.specs.Ends.{IsStopped}
use Rattle.mufom_task.specs.Tasks.{inputs_of, keep_of, out_of, reads_files, request_of}
use Rattle.mufom_works.specs.Works.{Output, work_of}
use Rattle.mufom_works.specs.Explain.{ExplainsTo, OpensSome}
use Rattle.mufom_works.specs.ExplainText.{explain_text}
use Rattle.mufom_works.specs.HasDetails.{HasDetails}
use Rattle.mufom_works.specs.InputLines.{untried_lines}
use Rattle.mufom_works.specs.Making.{IsPrinted}
use Rattle.mufom_works.specs.Run.{IsOutput, PutsOutNothing}
use Rattle.mufom_works.specs.WorkEnds.{IsOfModules}

-- The effect of a call that explains these arguments, before its own error line is printed.
pub record Explains (words : List (List ℕ)) (call : Call) (result : Outcome) : Type 0 where
  pub answers : ExplainsTo words call result
  pub opens : OpensSome words call
  pub err : call.new.err ≡ call.old.err
  pub counts : NoneFalls call

-- ---- explaining a task whose inputs were read

-- The outcome of a task whose inputs were read from these files, before it has an output, and the lines about what the outcome names.
abbrev pub EndsOver : Option (List NamedFile) → Task → Outcome → List ℕ → Type 0
EndsOver files t outcome.Done details = ((output : Output) × IsOutput t files output) × (details ≡ untried_lines (out_of t))
EndsOver files t (outcome.Refused r) details =
    (is : IsStopped (reads_files t) (work_of t) files (outcome.Refused r)) × IsOfModules is.stop × HasDetails files (inputs_of t) (keep_of t) is.stop details
EndsOver files t _ details = ⊥

-- The text that explains such an outcome is printed, and nothing else; or memory ran out.
pub record Tells (words : List (List ℕ)) (t : Task) (files : Option (List NamedFile)) (call : Call) (result : Outcome) : Type 0 where
  pub told : (result ≡ outcome.NoMemory) ⊎ ((answer : Outcome) × (details : List ℕ) × EndsOver files t answer details
      × IsPrinted (explain_text words answer details) call result)
  pub nothing : result ≡ outcome.NoMemory → PutsOutNothing call
  pub only : OnlyPrints call.old call.new call.before call.now

-- ---- what the arguments ask for

-- the arguments give a command that asks for this
pub record AskFor (words : List (List ℕ)) (asked : Request) : Type 0 where
  pub command : Command
  pub given : answer_of words ≡ Ok command
  pub is : request_of command ≡ asked
