-- The terms of the contract of the top call: the outcome of a task and its cause, the output, the inputs that are opened, and the error line that is
-- printed.
use Rattle.std.specs.Prelude.{◌≡◌, ◌⊎◌, ℕ, List, [], ◌∷◌, ◌++◌, take, Option, Some, None, Result, Ok, Err, IfSome, OnSome}
use Rattle.mufom_host.specs.World.{NamedFile, InputFails, Rose, GrowsBy, GrowsByPrefix}
use Rattle.mufom_words.specs.declared.command.Command.{Command}
use Rattle.mufom_words.specs.declared.stop.WordsStop.{WordsStop}
use Rattle.mufom_outcome.specs.declared.outcome.Outcome.{Outcome}
use Rattle.mufom_outcome.specs.declared.outcome.Outcome.TheVariants as outcome
use Rattle.mufom_outcome.specs.Complaint.{complaint}
use Rattle.mufom_outcome.specs.Outcomes.{stop_answer}
use Rattle.mufom_outcome.specs.Stop.{Stop}
use Rattle.mufom_groups.specs.Work.{Reached, gives, stops}
use Rattle.mufom_task.specs.declared.task.Request.{Request}
use Rattle.mufom_task.specs.declared.task.Request.TheVariants as request
use Rattle.mufom_task.specs.declared.task.Task.{Task}
use Rattle.mufom_task.specs.Calls.{Call, OpensInputs}
use Rattle.mufom_task.specs.Ends.{IsInputReached, IsStopped, OverFiles, stop_outcome}
use Rattle.mufom_task.specs.Tasks.{inputs_of, out_of, reads_files, request_of}
use Rattle.mufom_works.specs.Works.{Output, printed, made, work_of}

-- ---- the outcome of a run

abbrev pub outcome_of : Reached Stop Output → Outcome
outcome_of (gives output) = outcome.Done
outcome_of (stops s) = stop_outcome s

-- ---- causes

-- the name of the file that is written; none if a text is printed
abbrev pub file_name : Output → Option (List ℕ)
file_name (printed text) = None
file_name (made name bytes) = Some name

-- The task can have this output. If the output is a file, it has the name in the arguments.
pub record IsOutput (t : Task) (files : Option (List NamedFile)) (output : Output) : Type 0 where
  pub place : file_name output ≡ out_of t
  pub cause : OverFiles (reads_files t) files (λ fs. work_of t fs (gives output))

-- ---- the output

-- there is no output
abbrev pub PutsOutNothing : Call → Type 0
PutsOutNothing call = call.new ≡ record call.old { left = call.new.left; err = call.new.err; opened = call.new.opened }

-- the whole file is written, and no other name is created
pub record MakesFile (name bytes : List ℕ) (call : Call) : Type 0 where
  pub added : IfSome call.old.made (λ files. call.new.made ≡ Some (files ++ (name, bytes) ∷ []))
  pub finished : IfSome call.old.making (λ before. call.new.making ≡ Some None)
  pub created : GrowsBy call.old.created call.new.created (name ∷ [])
  pub stays : call.new ≡ record call.old {
    left = call.new.left;
    err = call.new.err;
    opened = call.new.opened;
    making = call.new.making;
    made = call.new.made;
    created = call.new.created;
  }

-- the whole text is printed
pub record PrintsText (text : List ℕ) (call : Call) : Type 0 where
  pub added : GrowsBy call.old.out call.new.out text
  pub stays : call.new ≡ record call.old { left = call.new.left; err = call.new.err; opened = call.new.opened; out = call.new.out }

-- The call makes exactly this output.
abbrev pub PutsOut : Output → Call → Type 0
PutsOut (printed text) call = PrintsText text call
PutsOut (made name bytes) call = MakesFile name bytes call

-- no file is finished; the file that is being written is the one from before the call, or this one with a prefix of its bytes
pub record BeginsFile (name bytes : List ℕ) (call : Call) : Type 0 where
  pub begun : IfSome call.old.making (λ before. (call.new.making ≡ Some before) ⊎ ((n : ℕ) × (call.new.making ≡ Some (Some (name, take n bytes)))))
  pub created : OnSome call.new.created (GrowsBy call.old.created call.new.created (name ∷ []))
  pub stays : call.new ≡ record call.old {
    left = call.new.left;
    err = call.new.err;
    opened = call.new.opened;
    making = call.new.making;
    created = call.new.created;
  }

-- a prefix of the text is printed
pub record BeginsText (text : List ℕ) (call : Call) : Type 0 where
  pub added : GrowsByPrefix call.old.out call.new.out text
  pub stays : call.new ≡ record call.old { left = call.new.left; err = call.new.err; opened = call.new.opened; out = call.new.out }

-- The call makes a prefix of this output, and nothing else.
abbrev pub PutsOutPrefix : Output → Call → Type 0
PutsOutPrefix (printed text) call = BeginsText text call
PutsOutPrefix (made name bytes) call = BeginsFile name bytes call

-- ---- the parts of the contract

-- The outcome of a task has its cause, and exactly its output is made.
abbrev pub AnswersFor : Task → Call → Outcome → Type 0
AnswersFor t call outcome.Done = (output : Output) × IsOutput t call.old.files output × PutsOut output call
AnswersFor t call (outcome.Refused r) = IsStopped (reads_files t) (work_of t) call.old.files (outcome.Refused r) × PutsOutNothing call
AnswersFor t call (outcome.Usage f) = ⊥
AnswersFor t call (outcome.ReadFault at) = InputFails call.before call.now × IsInputReached call.old.files (inputs_of t) at × PutsOutNothing call
AnswersFor t call outcome.WriteFault =
    Rose call.before.writes call.now.writes × ((output : Output) × IsOutput t call.old.files output × PutsOutPrefix output call)
AnswersFor t call outcome.NoMemory = PutsOutNothing call

-- arguments that are not a command have this outcome, or memory ran out; only the error output changes
pub record RefusesWords (stop : WordsStop) (call : Call) (result : Outcome) : Type 0 where
  pub is : (result ≡ stop_answer stop) ⊎ (result ≡ outcome.NoMemory)
  pub stays : call.new ≡ record call.old { err = call.new.err }

-- memory ran out, or a call of the host failed, for a read fault one on the input that was opened last
abbrev pub IsForced : Call → Outcome → Type 0
IsForced call outcome.Done = ⊥
IsForced call (outcome.Refused r) = ⊥
IsForced call (outcome.Usage f) = ⊥
IsForced call (outcome.ReadFault at) = InputFails call.before call.now
IsForced call outcome.WriteFault = Rose call.before.writes call.now.writes
IsForced call outcome.NoMemory = Unit {0}

-- the inputs of what is asked for are opened in their order; an explanation has none of its own
abbrev pub OpensFor : Request → Call → Outcome → Type 0
OpensFor (request.Run t) call result = OpensInputs (inputs_of t) call result
OpensFor request.Explain call result = call.new.opened ≡ call.old.opened

abbrev pub OpensBy : Result Command WordsStop → Call → Outcome → Type 0
OpensBy (Ok c) call result = OpensFor (request_of c) call result
OpensBy (Err s) call result = call.new.opened ≡ call.old.opened

-- the line is added to the error output, or a prefix of it if printing it failed in this call
abbrev pub AddsErrorLine : Call → List ℕ → Type 0
AddsErrorLine call text = GrowsBy call.old.err call.new.err text
    ⊎ (Rose call.before.complaints call.now.complaints × GrowsByPrefix call.old.err call.new.err text)

-- Every outcome except Done prints its error line.
abbrev pub PrintsErrorLine : Call → Outcome → Type 0
PrintsErrorLine call outcome.Done = call.new.err ≡ call.old.err
PrintsErrorLine call result = AddsErrorLine call (complaint result)
