-- What a task has done whose inputs were read: it was stopped, or its output was put out.
use Rattle.std.proofs.Common.{◌≡◌, ◌⊎◌, ℕ, Ok, Err, ◌≤◌, List, [], ◌∷◌, ◌++◌, length, take, Option, Some, None, IfSome, OnSome, refl, sym, ap, subst}
use Rattle.std.proofs.Common.{◌∙◌, arith}
use Rattle.mufom_host.specs.World.{Faults, Meaning, NamedFile, GrowsBy, GrowsByPrefix, KeepsAllButFile, KeepsAllButOut, KeepsAllButWrites, OnlyOpens}
use Rattle.mufom_host.specs.World.{Rose}
use Rattle.mufom_outcome.specs.declared.outcome.Outcome.{Outcome}
use Rattle.mufom_outcome.specs.declared.outcome.Outcome.TheVariants as outcome
use Rattle.mufom_task.specs.declared.task.Task.{Task}
use Rattle.mufom_task.specs.declared.task.Task.TheVariants as task
use Rattle.mufom_task.specs.Calls.{IsOpenedCount, NoneFalls}
use Rattle.mufom_task.specs.Tasks.{IsHelpTask, input_names, inputs_of}
use Rattle.mufom_task.proofs.InputLaws.{call_between}
use Rattle.mufom_works.specs.Making.{IsMade, IsPrinted}
use Rattle.mufom_prepare.specs.declared.ready.Ready.{Ready}
use Rattle.mufom_prepare.specs.Ready.{IsHelp}
use Rattle.mufom_command.specs.PutOut.{IsPutOut}
use Rattle.mufom_works.specs.Run.{AnswersFor, BeginsFile, IsOutput, MakesFile, PutsOutNothing}
use Rattle.mufom_command.specs.RunParts.{Does}
use Rattle.mufom_prepare.specs.Prepared.{IsUnprepared, PrintsHelpText}
use Rattle.mufom_works.specs.WorkEnds.{StopsFor}
use Rattle.mufom_works.specs.Works.{Output, printed, made}
use Rattle.mufom_works.proofs.OpenedLaws.{opens-read}

module _ (t : Task) (old mid : Meaning) (before between : Faults) (only : OnlyOpens old mid before between) where
  read-err : mid.err ≡ old.err
  read-err = ap (λ (m : Meaning). m.err) only.0

  read-nothing : PutsOutNothing (call_between old mid before between)
  read-nothing = only.0 ∙ ap (λ (e : Option (List ℕ)). record old { left = mid.left; err = e; opened = mid.opened }) (sym read-err)

  read-counts : NoneFalls (call_between old mid before between)
  read-counts = record {
    reads = only.2;
    writes = let same = ap (λ (f : Faults). f.writes) only.1 in omega (arith, same);
    complaints = let same = ap (λ (f : Faults). f.complaints) only.1 in omega (arith, same);
  }

  -- ---- the task has no output

  stopped-answers : (stop : Outcome) → StopsFor t (call_between old mid before between) stop → AnswersFor t (call_between old mid before between) stop
  stopped-answers (outcome.Refused r) why = (why, read-nothing)
  stopped-answers (outcome.ReadFault at) (fails, reached) = (fails, reached, read-nothing)
  stopped-answers outcome.NoMemory why = read-nothing
  stopped-answers outcome.Done why = absurd why
  stopped-answers (outcome.Usage f) why = absurd why
  stopped-answers outcome.WriteFault why = absurd why

  pub stopped-does : (stop : Outcome) → IsUnprepared t (call_between old mid before between) stop → Does t (call_between old mid before between) stop
  stopped-does stop is = record { answers = stopped-answers stop is.why; opens = is.opens; err = read-err; counts = read-counts }

  -- ---- its output was put out

  module _ (opened : GrowsBy old.opened mid.opened (input_names (inputs_of t))) where
    module _ (new : Meaning) (now : Faults) (writes_counts : KeepsAllButWrites between now) (writes_later : between.writes ≤ now.writes) where
      written-counts : NoneFalls (call_between old new before now)
      written-counts = record {
        reads = let same = ap (λ (f : Faults). f.reads) writes_counts in let later = only.2 in omega (arith, same, later);
        writes = let same = ap (λ (f : Faults). f.writes) only.1 in omega (arith, same, writes_later);
        complaints = let first = ap (λ (f : Faults). f.complaints) only.1 in let second = ap (λ (f : Faults). f.complaints) writes_counts in
            omega (arith, first, second);
      }

      rose-since : Rose between.writes now.writes → Rose before.writes now.writes
      rose-since rose = subst (λ n. Rose n now.writes) (ap (λ (f : Faults). f.writes) only.1) rose

      -- ---- a text was printed

      module _ (text : List ℕ) (is_output : IsOutput t old.files (printed text)) (prints : KeepsAllButOut mid new) where
        out-same : mid.out ≡ old.out
        out-same = ap (λ (m : Meaning). m.out) only.0

        text-stays : new ≡ record mid { left = new.left; err = new.err; opened = new.opened; out = new.out } → new
            ≡ record old { left = new.left; err = new.err; opened = new.opened; out = new.out }
        text-stays stays = stays ∙ ap (λ (m : Meaning). record m { left = new.left; err = new.err; opened = new.opened; out = new.out }) only.0

        printed-answers : (result : Outcome) → IsPrinted text (call_between mid new between now) result
            → AnswersFor t (call_between old new before now) result
        printed-answers outcome.Done is = (
          printed text,
          is_output,
          record { added = subst (λ (o : Option (List ℕ)). GrowsBy o new.out text) out-same is.added; stays = text-stays is.stays },
        )
        printed-answers outcome.WriteFault (rose, is) = (
          rose-since rose,
          (
            printed text,
            is_output,
            record { added = subst (λ (o : Option (List ℕ)). GrowsByPrefix o new.out text) out-same is.added; stays = text-stays is.stays },
          ),
        )
        printed-answers outcome.NoMemory is = is ∙ ap (λ (m : Meaning). record m { left = new.left; err = new.err; opened = new.opened }) only.0
        printed-answers (outcome.Refused r) is = absurd is
        printed-answers (outcome.Usage f) is = absurd is
        printed-answers (outcome.ReadFault i) is = absurd is

        printed-count : (result : Outcome) → IsPrinted text (call_between mid new between now) result
            → IsOpenedCount (inputs_of t) result (length (input_names (inputs_of t)))
        printed-count outcome.Done is = refl
        printed-count outcome.WriteFault is = refl
        printed-count outcome.NoMemory is = tt
        printed-count (outcome.Refused r) is = absurd is
        printed-count (outcome.Usage f) is = absurd is
        printed-count (outcome.ReadFault i) is = absurd is

        pub printed-does : (result : Outcome) → IsPrinted text (call_between mid new between now) result → Does t (call_between old new before now) result
        printed-does result is = record {
          answers = printed-answers result is;
          opens = opens-read (inputs_of t) old mid new before now opened result (ap (λ (m : Meaning). m.opened) prints) (printed-count result is);
          err = ap (λ (m : Meaning). m.err) prints ∙ read-err;
          counts = written-counts;
        }

      -- ---- a file was made

      module _ (name bytes : List ℕ) (is_output : IsOutput t old.files (made name bytes)) (makes : KeepsAllButFile mid new) where
        made-same : mid.made ≡ old.made
        made-same = ap (λ (m : Meaning). m.made) only.0

        making-same : mid.making ≡ old.making
        making-same = ap (λ (m : Meaning). m.making) only.0

        created-same : mid.created ≡ old.created
        created-same = ap (λ (m : Meaning). m.created) only.0

        whole : MakesFile name bytes (call_between mid new between now) → MakesFile name bytes (call_between old new before now)
        whole is = record {
          added = subst (λ (o : Option (List NamedFile)). IfSome o (λ files. new.made ≡ Some (files ++ (name, bytes) ∷ []))) made-same is.added;
          finished = subst (λ (o : Option (Option NamedFile)). IfSome o (λ first. new.making ≡ Some None)) making-same is.finished;
          created = subst (λ (o : Option (List (List ℕ))). GrowsBy o new.created (name ∷ [])) created-same is.created;
          stays = is.stays
              ∙ ap (λ (m : Meaning). record m {
                left = new.left;
                err = new.err;
                opened = new.opened;
                making = new.making;
                made = new.made;
                created =
                    new.created;
              }) only.0;
        }

        part : BeginsFile name bytes (call_between mid new between now) → BeginsFile name bytes (call_between old new before now)
        part is = record {
          begun = subst (λ (o : Option (Option NamedFile)). IfSome o (λ first. (new.making ≡ Some first)
              ⊎ ((n : ℕ) × (new.making ≡ Some (Some (name, take n bytes)))))) making-same is.begun;
          created = subst (λ (o : Option (List (List ℕ))). OnSome new.created (GrowsBy o new.created (name ∷ []))) created-same is.created;
          stays = is.stays ∙ ap (λ (m : Meaning). record m {
            left = new.left;
            err = new.err;
            opened = new.opened;
            making = new.making;
            created =
                new.created;
          }) only.0;
        }

        made-answers : (result : Outcome) → IsMade name bytes (call_between mid new between now) result
            → AnswersFor t (call_between old new before now) result
        made-answers outcome.Done is = (made name bytes, is_output, whole is)
        made-answers outcome.WriteFault (rose, is) = (rose-since rose, (made name bytes, is_output, part is))
        made-answers outcome.NoMemory is = absurd is
        made-answers (outcome.Refused r) is = absurd is
        made-answers (outcome.Usage f) is = absurd is
        made-answers (outcome.ReadFault i) is = absurd is

        made-count : (result : Outcome) → IsMade name bytes (call_between mid new between now) result
            → IsOpenedCount (inputs_of t) result (length (input_names (inputs_of t)))
        made-count outcome.Done is = refl
        made-count outcome.WriteFault is = refl
        made-count outcome.NoMemory is = tt
        made-count (outcome.Refused r) is = absurd is
        made-count (outcome.Usage f) is = absurd is
        made-count (outcome.ReadFault i) is = absurd is

        named-does : (result : Outcome) → IsMade name bytes (call_between mid new between now) result → Does t (call_between old new before now) result
        named-does result is = record {
          answers = made-answers result is;
          opens = opens-read (inputs_of t) old mid new before now opened result (ap (λ (m : Meaning). m.opened) makes) (made-count result is);
          err = ap (λ (m : Meaning). m.err) makes ∙ read-err;
          counts = written-counts;
        }

-- A task has been done whose output was ready.
pub put-does : (t : Task) (old mid new : Meaning) (before between now : Faults) → OnlyOpens old mid before between
    → GrowsBy old.opened mid.opened (input_names (inputs_of t)) → (output : Output) → IsOutput t old.files output → (result : Outcome)
    → IsPutOut output (call_between mid new between now) result → Does t (call_between old new before now) result
put-does t old mid new before between now only opened (printed text) is result (put, prints) =
    printed-does t old mid before between only opened new now prints.1 prints.2 text is prints.0 result put
put-does t old mid new before between now only opened (made name bytes) is result put =
    named-does t old mid before between only opened new now put.counts put.later name bytes is put.only result put.made

-- ---- a task that prints a text of the program

pub help-ready : (t : Task) (ready : Ready) → PrintsHelpText t (Ok ready) → IsHelpTask t → IsHelp ready
help-ready (task.Help text) ready prints help = prints
help-ready (task.Show inputs full) ready prints never = absurd never
help-ready (task.Check inputs) ready prints never = absurd never
help-ready (task.Link inputs name out) ready prints never = absurd never
help-ready (task.Locate inputs keep p) ready prints never = absurd never
help-ready (task.FromTxt inputs maus out) ready prints never = absurd never
help-ready (task.Build inputs out) ready prints never = absurd never
help-ready (task.Make count) ready prints never = absurd never

pub help-stop : (t : Task) (stop : Outcome) → PrintsHelpText t (Err stop) → IsHelpTask t → ⊥
help-stop (task.Help text) stop never help = never
help-stop (task.Show inputs full) stop prints never = never
help-stop (task.Check inputs) stop prints never = never
help-stop (task.Link inputs name out) stop prints never = never
help-stop (task.Locate inputs keep p) stop prints never = never
help-stop (task.FromTxt inputs maus out) stop prints never = never
help-stop (task.Build inputs out) stop prints never = never
help-stop (task.Make count) stop prints never = never
