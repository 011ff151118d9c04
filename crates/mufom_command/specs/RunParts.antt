-- The effects of the parts of a run: the work of a task, before its error line is printed, and the printing of that line. No clause of `run` cites
-- them.
use Rattle.std.specs.Prelude.{◌≡◌, ◌⊎◌, List, ℕ, Result, Ok, Err}
use Rattle.mufom_words.specs.declared.command.Command.{Command}
use Rattle.mufom_words.specs.declared.stop.WordsStop.{WordsStop}
use Rattle.mufom_words.specs.Answer.{answer_of}
use Rattle.mufom_words.specs.Explain.{explained}
use Rattle.mufom_outcome.specs.declared.outcome.Outcome.{Outcome}
use Rattle.mufom_outcome.specs.declared.outcome.Outcome.TheVariants as outcome
use Rattle.mufom_outcome.specs.Outcomes.{stop_answer}
use Rattle.mufom_task.specs.declared.task.Request.{Request}
use Rattle.mufom_task.specs.declared.task.Request.TheVariants as request
use Rattle.mufom_task.specs.declared.task.Task.{Task}
use Rattle.mufom_task.specs.declared.task.Task.TheVariants as task
use Rattle.mufom_task.specs.Calls.{Call, NoneFalls, OpensInputs}
use Rattle.mufom_task.specs.Tasks.{inputs_of, request_of}
use Rattle.mufom_works.specs.Run.{AnswersFor}
use Rattle.mufom_explain_text.specs.Explains.{Explains}

-- memory may run out for the error line of these outcomes
abbrev pub MayLackMemory : Outcome → Type 0
MayLackMemory (outcome.Refused _) = Unit {0}
MayLackMemory (outcome.ReadFault _) = Unit {0}
MayLackMemory _ = ⊥

-- the result is this outcome, or out of memory if its error line could not be allocated
abbrev pub IsPrintedAs : Outcome → Outcome → Type 0
IsPrintedAs answer result = (result ≡ answer) ⊎ ((result ≡ outcome.NoMemory) × MayLackMemory answer)

-- ---- the whole task

-- The effect of a call that does a task, before its error line is printed.
pub record Does (t : Task) (call : Call) (result : Outcome) : Type 0 where
  pub answers : AnswersFor t call result
  pub opens : OpensInputs (inputs_of t) call result
  pub err : call.new.err ≡ call.old.err
  pub counts : NoneFalls call

-- ---- explaining a task whose inputs were read

-- the task names no more than inputs if it has no output
abbrev pub NamesInputs : Task → Type 0
NamesInputs (task.Link inputs name out) = ⊥
NamesInputs (task.Locate inputs keep p) = ⊥
NamesInputs _ = Unit {0}

-- ---- what the arguments ask for

-- the effect of doing what is asked for
abbrev pub DoesWith : List (List ℕ) → Request → Call → Outcome → Type 0
DoesWith words (request.Run t) call result = Does t call result
DoesWith words request.Explain call result = Explains (explained words) call result

abbrev pub DoesBy : List (List ℕ) → Result Command WordsStop → Call → Outcome → Type 0
DoesBy words (Ok c) call result = DoesWith words (request_of c) call result
DoesBy words (Err s) call result = ((result ≡ stop_answer s) ⊎ (result ≡ outcome.NoMemory)) × (call.new ≡ call.old) × (call.now ≡ call.before)

-- The effect of the arguments, before the error line is printed. Arguments that are not a command have none.
abbrev pub DoesWords : List (List ℕ) → Call → Outcome → Type 0
DoesWords words call result = DoesBy words (answer_of words) call result
