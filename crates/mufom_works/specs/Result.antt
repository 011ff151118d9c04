-- The result of a run with given arguments, and the causes that an outcome must have. `explain` depends on the arguments after its name; all else that
-- arguments ask for is a task, with its row in the table of tasks.
use Rattle.std.specs.Prelude.{ℕ, List, Result, Ok, Err}
use Rattle.mufom_host.specs.World.{NamedFile}
use Rattle.mufom_words.specs.declared.command.Command.{Command}
use Rattle.mufom_words.specs.declared.stop.WordsStop.{WordsStop}
use Rattle.mufom_words.specs.Answer.{answer_of}
use Rattle.mufom_words.specs.Explain.{explained}
use Rattle.mufom_groups.specs.Work.{Work, stop_at}
use Rattle.mufom_outcome.specs.declared.outcome.Outcome.{Outcome}
use Rattle.mufom_outcome.specs.declared.outcome.Outcome.TheVariants as outcome
use Rattle.mufom_outcome.specs.Stop.{Stop, words_refused}
use Rattle.mufom_task.specs.declared.task.Request.{Request}
use Rattle.mufom_task.specs.declared.task.Request.TheVariants as request
use Rattle.mufom_task.specs.Calls.{Call}
use Rattle.mufom_task.specs.Tasks.{request_of}
use Rattle.mufom_works.specs.Works.{Output, work_of}
use Rattle.mufom_works.specs.Explain.{ExplainsTo, explaining}
use Rattle.mufom_works.specs.Run.{AnswersFor, RefusesWords}

-- ---- the work of a run

-- the work of what these arguments ask for
abbrev pub work_with : List (List ℕ) → Request → List NamedFile → Work Stop Output
work_with words (request.Run t) files = work_of t files
work_with words request.Explain files = explaining (explained words) files

-- the work of these arguments, given the command or the error that they are parsed to
abbrev pub run_by : List (List ℕ) → Result Command WordsStop → List NamedFile → Work Stop Output
run_by words (Ok c) files = work_with words (request_of c) files
run_by words (Err s) files = stop_at (words_refused s)

-- The work of a run with these arguments over these files.
abbrev pub run_of : List (List ℕ) → List NamedFile → Work Stop Output
run_of words files = run_by words (answer_of words) files

-- ---- the parts of the contract

-- the outcome of what is asked for has its cause, and exactly its output is made
abbrev pub AnswersWith : List (List ℕ) → Request → Call → Outcome → Type 0
AnswersWith words (request.Run t) call result = AnswersFor t call result
AnswersWith words request.Explain call result = ExplainsTo (explained words) call result

abbrev pub AnswersBy : List (List ℕ) → Result Command WordsStop → Call → Outcome → Type 0
AnswersBy words (Ok c) call result = AnswersWith words (request_of c) call result
AnswersBy words (Err s) call result = RefusesWords s call result

-- Every outcome has its cause, and exactly its output is made.
abbrev pub Answers : List (List ℕ) → Call → Outcome → Type 0
Answers words call result = AnswersBy words (answer_of words) call result
