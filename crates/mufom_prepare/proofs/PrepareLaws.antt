-- A task whose inputs were read has its output ready; or it has none, since they were not read or the work on them ended.
use Rattle.std.proofs.Common.{◌≡◌, ℕ, true, List, None, IfSome, refl}
use Rattle.mufom_host.specs.World.{Faults, Meaning, NamedFile, GrowsBy}
use Rattle.mufom_groups.specs.Work.{Work, gives, stops}
use Rattle.mufom_outcome.specs.declared.outcome.Outcome.{Outcome}
use Rattle.mufom_outcome.specs.declared.outcome.Outcome.TheVariants as outcome
use Rattle.mufom_outcome.specs.Stop.{Stop}
use Rattle.mufom_task.specs.declared.task.Task.{Task}
use Rattle.mufom_task.specs.declared.task.Task.TheVariants as task
use Rattle.mufom_task.specs.Calls.{OpensInputs}
use Rattle.mufom_task.specs.InputsRead.{NamesPlan, ReadingStops}
use Rattle.mufom_task.specs.Tasks.{input_names, inputs_of, no_inputs, out_of, reads_files}
use Rattle.mufom_task.proofs.InputLaws.{call_between, grows_by_none}
use Rattle.mufom_task.proofs.InputsLaws.{over-map}
use Rattle.mufom_prepare.specs.declared.ready.Ready.{Ready}
use Rattle.mufom_prepare.specs.Ready.{IsReady, ready_output}
use Rattle.mufom_works.specs.Run.{file_name}
use Rattle.mufom_prepare.specs.Prepared.{IsPrepared, IsUnprepared}
use Rattle.mufom_works.specs.WorkEnds.{EndsAt}
use Rattle.mufom_works.specs.Works.{making, work_of}
use Rattle.mufom_works.proofs.OpenedLaws.{opens-read}
use Rattle.mufom_works.proofs.EndLaws.{all-stop, ends-count, ends-names, ends-stop, reading-stop}

-- ---- a task that reads files

module _ {B : Type 0} (t : Task) (reading : List NamedFile → Work Stop B) (of_files : reads_files t ≡ true) (old mid : Meaning)
    (before between : Faults) where
  -- the inputs were not all read
  pub unread : ((fs : List NamedFile) (s : Stop) → reading fs (stops s) → work_of t fs (stops s)) → (stop : Outcome)
      → ReadingStops reading (inputs_of t) (call_between old mid before between) stop → OpensInputs (inputs_of t) (call_between old mid before between) stop
      → NamesPlan (inputs_of t).plan stop → IsUnprepared t (call_between old mid before between) stop
  unread begins stop why opens named = record {
    why = reading-stop t reading of_files begins old mid before between stop why;
    opens = opens;
    named = named;
  }

  module _ (read : B) (there : IfSome old.files (λ fs. reading fs (gives read)))
      (all : GrowsBy old.opened mid.opened (input_names (inputs_of t))) where
    -- the work on them ended
    pub ended : {A : Type 0} (part : Work Stop A)
        → ((fs : List NamedFile) → reading fs (gives read) → (s : Stop) → part (stops s) → work_of t fs (stops s)) → (o : Outcome) → EndsAt part o
        → IsUnprepared t (call_between old mid before between) o
    ended part along o ends = record {
      why = ends-stop t reading read part of_files old mid before between there along o ends;
      opens = opens-read (inputs_of t) old mid mid before between all o refl (ends-count (inputs_of t) part o ends);
      named = ends-names (inputs_of t).plan part o ends;
    }

    -- memory ran out
    pub lacking : IsUnprepared t (call_between old mid before between) outcome.NoMemory
    lacking = record { why = tt; opens = opens-read (inputs_of t) old mid mid before between all outcome.NoMemory refl tt; named = tt }

    -- it has an output
    pub readied : (ready : Ready) → file_name (ready_output ready) ≡ out_of t
        → ((fs : List NamedFile) → reading fs (gives read) → work_of t fs (gives (ready_output ready))) → IsReady ready
        → IsPrepared t (call_between old mid before between) ready
    readied ready place along is = record {
      output = record {
        place = place;
        cause = over-map of_files (λ fs. reading fs (gives read)) (λ fs. work_of t fs (gives (ready_output ready))) old.files along there;
      };
      is = is;
      opened = all;
    }

-- ---- a task that reads none

module _ (old : Meaning) (before : Faults) where
  pub made-ready : (count : ℕ) (ready : Ready) → file_name (ready_output ready) ≡ None → making count (gives (ready_output ready)) → IsReady ready
      → IsPrepared (task.Make count) (call_between old old before before) ready
  made-ready count ready place is ready_is = record {
    output = record { place = place; cause = λ fs. is };
    is = ready_is;
    opened = grows_by_none old.opened;
  }

  pub unmade : (count : ℕ) (o : Outcome) → EndsAt (making count) o → IsUnprepared (task.Make count) (call_between old old before before) o
  unmade count o ends = record {
    why = all-stop (task.Make count) (making count) old old before before (λ fs s is. is) refl o ends;
    opens = opens-read no_inputs old old old before before (grows_by_none old.opened) o refl (ends-count no_inputs (making count) o ends);
    named = ends-names None (making count) o ends;
  }
