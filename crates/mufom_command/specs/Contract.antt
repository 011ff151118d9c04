-- The contract of the top call: what is true of a run with given arguments.
use Rattle.std.specs.Prelude.{◌≡◌, ◌≢◌, ◌⊎◌, ℕ, List, Result, Ok, Err, IfSome}
use Rattle.mufom_words.specs.declared.command.Command.{Command}
use Rattle.mufom_words.specs.declared.stop.WordsStop.{WordsStop}
use Rattle.mufom_words.specs.Answer.{PrintsHelp, answer_of}
use Rattle.mufom_words.specs.Explain.{explained}
use Rattle.mufom_groups.specs.Work.{Reached}
use Rattle.mufom_outcome.specs.declared.outcome.Outcome.{Outcome}
use Rattle.mufom_outcome.specs.declared.outcome.Outcome.TheVariants as outcome
use Rattle.mufom_outcome.specs.Stop.{Stop}
use Rattle.mufom_task.specs.declared.task.Request.{Request}
use Rattle.mufom_task.specs.declared.task.Request.TheVariants as request
use Rattle.mufom_task.specs.Calls.{Call, NoneFalls, OpensInputs}
use Rattle.mufom_task.specs.Tasks.{inputs_of, request_of}
use Rattle.mufom_works.specs.Works.{Output}
use Rattle.mufom_works.specs.Explain.{OpensSome}
use Rattle.mufom_works.specs.Run.{IsForced, PrintsErrorLine, outcome_of}
use Rattle.mufom_works.specs.Result.{Answers, run_of}

-- ---- the parts of the contract

-- The outcome is the one that the arguments and the files determine, unless it is forced by a failed call or a lack of memory.
abbrev pub IsComplete : List (List ℕ) → Call → Outcome → Type 0
IsComplete words call result =
    IfSome call.old.files (λ files. (reached : Reached Stop Output) → run_of words files reached → (result ≡ outcome_of reached) ⊎ IsForced call result)

-- the inputs of a task are opened in their order; for an explanation, these are the inputs of the arguments that it explains
abbrev pub OpensWith : List (List ℕ) → Request → Call → Outcome → Type 0
OpensWith words (request.Run t) call result = OpensInputs (inputs_of t) call result
OpensWith words request.Explain call result = OpensSome (explained words) call

abbrev pub OpensOf : List (List ℕ) → Result Command WordsStop → Call → Outcome → Type 0
OpensOf words (Ok c) call result = OpensWith words (request_of c) call result
OpensOf words (Err s) call result = call.new.opened ≡ call.old.opened

-- The inputs of the task, its plan and then its files, are opened in their order, and nothing else is.
abbrev pub OpensInOrder : List (List ℕ) → Call → Outcome → Type 0
OpensInOrder words call result = OpensOf words (answer_of words) call result

-- ---- the contract

-- What is true of a run with these arguments: of the world before and after it, and of its outcome.
pub record IsRun (words : List (List ℕ)) (call : Call) (result : Outcome) : Type 0 where
  -- Every outcome follows from the arguments and the files, or from a failed call of the host that is counted; exactly its output is made.
  pub answers : Answers words call result
  -- The outcome is the one that the arguments and the files determine, unless a call of the host failed or memory ran out. This follows from
  -- `answers`, since arguments and files that hold bytes have at most one result, and the files of a host hold bytes.
  pub complete : IsComplete words call result
  -- The inputs named by the arguments are opened in their order, up to the one that the outcome names, and nothing else is. For `explain` they are
  -- those of the arguments after it, up to the one that their own outcome names (`IsExplanation`).
  pub opens : OpensInOrder words call result
  -- Every outcome except `Done` prints its error line.
  pub line : PrintsErrorLine call result
  pub counts : NoneFalls call
  -- The commands that print a text of the program need no memory.
  pub memory : PrintsHelp words → result ≢ outcome.NoMemory
