-- The command `explain`. It carries out the arguments after its name, up to the first file that they would create or the first text that they would
-- print, and prints their outcome: the error line, the things that the line names, and the help text on it.
use Rattle.std.specs.Prelude.{◌≡◌, ◌≢◌, List, [], ℕ, Some, Result, Ok, Err}
use Rattle.mufom_host.specs.World.{NamedFile, InputFails, Rose}
use Rattle.mufom_words.specs.declared.command.Command.{Command}
use Rattle.mufom_words.specs.declared.stop.WordsStop.{WordsStop}
use Rattle.mufom_words.specs.Answer.{answer_of}
use Rattle.mufom_groups.specs.Work.{Reached, Work, gives, stops}
use Rattle.mufom_text.specs.Words.{Text}
use Rattle.mufom_outcome.specs.declared.outcome.Outcome.{Outcome}
use Rattle.mufom_outcome.specs.declared.outcome.Outcome.TheVariants as outcome
use Rattle.mufom_outcome.specs.Outcomes.{stop_answer}
use Rattle.mufom_outcome.specs.Stop.{Stop}
use Rattle.mufom_task.specs.declared.task.Request.{Request}
use Rattle.mufom_task.specs.declared.task.Request.TheVariants as request
use Rattle.mufom_task.specs.declared.task.Task.{Task}
use Rattle.mufom_task.specs.Tasks.{inputs_of, keep_of, out_of, reads_files, request_of}
use Rattle.mufom_works.specs.Works.{Output, not_explained, printed, work_by, work_of}
use Rattle.mufom_works.specs.HasDetails.{HasDetails, HasUnreadLine}
use Rattle.mufom_works.specs.ExplainText.{explain_text}
use Rattle.mufom_works.specs.InputLines.{untried_lines, usage_lines}
use Rattle.mufom_works.specs.Run.{BeginsText, IsOutput, OpensBy, PrintsText, PutsOutNothing, outcome_of}
use Rattle.mufom_task.specs.Calls.{Call}
use Rattle.mufom_task.specs.Ends.{IsInputReached, IsStopped}
use Rattle.mufom_outcome.specs.Outcomes.{stop_answer}

-- ---- the work of explaining arguments over files

-- the lines about what the outcome of what is asked for names, or about the file that is not written, if no call of the host fails
abbrev pub HasLinesFor : List NamedFile → Request → Reached Stop Output → Text → Type 0
HasLinesFor files (request.Run t) (stops s) details = HasDetails (Some files) (inputs_of t) (keep_of t) s details
HasLinesFor files (request.Run t) (gives output) details = details ≡ untried_lines (out_of t)
HasLinesFor files request.Explain reached details = details ≡ []

-- the same of arguments that give this command or error
abbrev pub HasLines : List (List ℕ) → List NamedFile → Result Command WordsStop → Reached Stop Output → Text → Type 0
HasLines words files (Ok c) reached details = HasLinesFor files (request_of c) reached details
HasLines words files (Err stop) reached details = details ≡ usage_lines words stop

-- the text that explains this result of the arguments
pub record IsTextOn (words : List (List ℕ)) (files : List NamedFile) (reached : Reached Stop Output) (text : Text) : Type 0 where
  pub comes : work_by (answer_of words) files reached
  pub details : Text
  pub lines : HasLines words files (answer_of words) reached details
  pub are : text ≡ explain_text words (outcome_of reached) details

-- The text that explains the arguments is printed, whatever their result is.
abbrev pub explaining : List (List ℕ) → List NamedFile → Work Stop Output
explaining words files (gives output) = (reached : Reached Stop Output) × (text : Text) × IsTextOn words files reached text × (output ≡ printed text)
explaining words files (stops s) = ⊥

-- ---- the outcome of the explained arguments in a call

-- The outcome of a task, before it creates a file or prints, and the lines about what the outcome names: the work has an output; or the inputs are
-- refused; or the one that was opened last could not be opened or read.
abbrev pub EndsFor : Task → Call → Outcome → Text → Type 0
EndsFor t call outcome.Done details = ((output : Output) × IsOutput t call.old.files output) × (details ≡ untried_lines (out_of t))
EndsFor t call (outcome.Refused r) details =
    (is : IsStopped (reads_files t) (work_of t) call.old.files (outcome.Refused r))
    × HasDetails call.old.files (inputs_of t) (keep_of t) is.stop details
EndsFor t call (outcome.ReadFault at) details =
    InputFails call.before call.now × IsInputReached call.old.files (inputs_of t) at × HasUnreadLine (inputs_of t) at details
EndsFor t call _ details = ⊥

-- the same of what is asked for; an explanation is not explained, which is an error in the arguments
abbrev pub EndsWith : Request → Call → Outcome → Text → Type 0
EndsWith (request.Run t) call answer details = EndsFor t call answer details
EndsWith request.Explain call answer details = (answer ≡ stop_answer not_explained) × (details ≡ [])

abbrev pub EndsBy : List (List ℕ) → Result Command WordsStop → Call → Outcome → Text → Type 0
EndsBy words (Ok c) call answer details = EndsWith (request_of c) call answer details
EndsBy words (Err s) call answer details = (answer ≡ stop_answer s) × (answer ≢ outcome.NoMemory) × (details ≡ usage_lines words s)

-- The text that explains the outcome of the arguments in this call. Their inputs are opened as in a run of them, up to the one that their outcome
-- names.
pub record IsExplanation (words : List (List ℕ)) (call : Call) (text : Text) : Type 0 where
  pub answer : Outcome
  pub details : Text
  pub ends : EndsBy words (answer_of words) call answer details
  pub opens : OpensBy (answer_of words) call answer
  pub are : text ≡ explain_text words answer details

-- ---- the contract

-- The effect of explaining these arguments: the text is printed, and nothing else; or printing failed, and a prefix of the text is printed; or memory
-- ran out, and nothing is printed. No other outcome is possible.
abbrev pub ExplainsTo : List (List ℕ) → Call → Outcome → Type 0
ExplainsTo words call outcome.Done = (text : Text) × IsExplanation words call text × PrintsText text call
ExplainsTo words call outcome.WriteFault =
    Rose call.before.writes call.now.writes × ((text : Text) × IsExplanation words call text × BeginsText text call)
ExplainsTo words call outcome.NoMemory = PutsOutNothing call
ExplainsTo words call _ = ⊥

-- The names that are opened are the first of those that a run of these arguments opens.
abbrev pub OpensSome : List (List ℕ) → Call → Type 0
OpensSome words call = OpensBy (answer_of words) call outcome.NoMemory
