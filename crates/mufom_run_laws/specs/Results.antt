-- The law that plain runs have a result: all runs but those that build or explain.
use Rattle.std.specs.Prelude.{ℕ, List, IfSome, IsSome, Result, Ok, Err}
use Rattle.std.specs.List.{AllByRecursion}
use Rattle.mufom_numbers.specs.Spelling.{AreBytes}
use Rattle.mufom_host.specs.World.{HoldBytes, NamedFile, file_named}
use Rattle.mufom_words.specs.declared.command.Command.{Command}
use Rattle.mufom_words.specs.declared.stop.WordsStop.{WordsStop}
use Rattle.mufom_words.specs.Answer.{answer_of}
use Rattle.mufom_groups.specs.Work.{Reached, Work}
use Rattle.mufom_outcome.specs.Stop.{Stop}
use Rattle.mufom_task.specs.declared.task.Inputs.{Inputs}
use Rattle.mufom_task.specs.declared.task.Request.{Request}
use Rattle.mufom_task.specs.declared.task.Request.TheVariants as request
use Rattle.mufom_task.specs.declared.task.Task.{Task}
use Rattle.mufom_task.specs.declared.task.Task.TheVariants as task
use Rattle.mufom_task.specs.Tasks.{inputs_of, request_of}
use Rattle.mufom_works.specs.Result.{run_of}

-- the work has a result: a value, or an end
abbrev pub HasResult : {A : Type 0} → Work Stop A → Type 0
HasResult {A = A} work = (reached : Reached Stop A) × work reached

-- the files exist, and so does that of the plan, if one is named
pub record CanBeRead (files : List NamedFile) (inputs : Inputs) : Type 0 where
  pub exist : AllByRecursion (λ name. IsSome (file_named name files)) inputs.files
  pub plan : IfSome inputs.plan (λ name. IsSome (file_named name files))

-- The task is not `build`. If it is `link` with a name for the module, the name consists of bytes, as each argument of a real run does.
abbrev pub IsPlainTask : Task → Type 0
IsPlainTask (task.Link inputs name out) = IfSome name AreBytes
IsPlainTask (task.Build inputs out) = ⊥
IsPlainTask _ = Unit {0}

-- what is asked for is a plain task whose inputs can be read
abbrev pub IsPlainRequest : List NamedFile → Request → Type 0
IsPlainRequest files (request.Run t) = IsPlainTask t × CanBeRead files (inputs_of t)
IsPlainRequest files request.Explain = ⊥

-- the arguments ask for such a task, or have an error
abbrev pub AskPlainly : List NamedFile → Result Command WordsStop → Type 0
AskPlainly files (Ok c) = IsPlainRequest files (request_of c)
AskPlainly files (Err s) = Unit {0}

-- A run with such arguments has a result over files that hold bytes. So it has exactly one, since no run has two.
abbrev pub PlainRunsHaveResults : Type 0
PlainRunsHaveResults = (words : List (List ℕ)) (files : List NamedFile) → HoldBytes files → AskPlainly files (answer_of words) → HasResult (run_of words files)
