-- A task that links no files names no more than an input if it has no output.
use Rattle.std.proofs.Common.{◌≡◌, ◌≢◌, ℕ, ◌*◌, ◌<◌, Bool, cond, flat_map, true, false, List, [], length, Option, Some, None, refl, sym, subst, ◌∙◌}
use Rattle.std.proofs.Common.{inl, inr, arith}
use Rattle.mufom_host.specs.World.{Faults, Meaning, NamedFile, OnlyPrints}
use Rattle.mufom_host.specs.declared.cause.Cause.{Cause}
use Rattle.mufom_module.specs.declared.module.Parts.{Parts}
use Rattle.mufom_refusals.specs.declared.text.TxtRefusal.{TxtRefusal}
use Rattle.mufom_titxt.specs.Texts.{txt_refusal}
use Rattle.mufom_groups.specs.Work.{Work, stops}
use Rattle.mufom_outcome.specs.declared.outcome.Outcome.{Outcome}
use Rattle.mufom_outcome.specs.declared.outcome.Outcome.TheVariants as outcome
use Rattle.mufom_outcome.specs.Stop.{Stop, words_refused, plan_refused, file_refused, past_limit, link_fact, keep_unknown, name_shared, locate_fact}
use Rattle.mufom_outcome.specs.Stop.{bytes_refused, text_refused, listing_refused, too_many_modules}
use Rattle.mufom_task.specs.declared.task.Inputs.{Inputs}
use Rattle.mufom_task.specs.declared.task.Product.{Product}
use Rattle.mufom_task.specs.declared.task.Task.{Task}
use Rattle.mufom_task.specs.declared.task.Task.TheVariants as task
use Rattle.mufom_outcome.specs.declared.outcome.Input.{Input}
use Rattle.mufom_outcome.specs.declared.outcome.Input.TheVariants as input
use Rattle.mufom_task.specs.Ends.{IsInputReached, IsStopped, OverFiles}
use Rattle.mufom_task.specs.InputsRead.{KeepsPlan, ReadingStops}
use Rattle.mufom_outcome.specs.declared.outcome.Refusal.TheVariants as refusal
use Rattle.mufom_task.specs.Sound.{IsSoundInputs, IsSoundTask}
use Rattle.mufom_task.specs.Tasks.{inputs_of, reads_files}
use Rattle.mufom_task.proofs.InputLaws.{call_between}
use Rattle.mufom_works.specs.Explain.{EndsFor}
use Rattle.mufom_works.specs.HasDetails.{IsInputDetail, IsTaskDetail, IsUnreadDetail, inputs_read}
use Rattle.mufom_prepare.specs.Prepared.{IsUnprepared}
use Rattle.mufom_command.specs.RunParts.{NamesInputs}
use Rattle.mufom_works.specs.WorkEnds.{StopsFor}
use Rattle.mufom_text.specs.Show.{text_of}
use Rattle.mufom_works.specs.Text.{Text, check_text}
use Rattle.mufom_works.specs.Works.{form_of, listing, module_of_text, parts_of_listing, parts_of_txt, runs_unless, work_of}
use Rattle.mufom_explain_text.proofs.ExplainReading.{IsOfReading, modules-end, reading-ends, text-end}
use Rattle.mufom_works.proofs.MadeLaws.{make-never, none-reached}

-- ---- the ends of a task that reads files

listing-ends : (text : List Parts → Text) (files : List NamedFile) (c : Inputs) (s : Stop) → listing text files c (stops s) → IsOfReading s
listing-ends text files c s (inl ends) = modules-end files c s ends
listing-ends text files c s (inr (ms, read, never)) = absurd never

runs-end : (o : Option TxtRefusal) (text : List ℕ) (s : Stop) → runs_unless o text (stops s) → IsOfReading s
runs-end None text s ends = absurd ends
runs-end (Some r) text s ends = subst IsOfReading (sym ends) tt

txt-end : (maus : ℕ) (text : List ℕ) (s : Stop) → parts_of_txt maus text (stops s) → IsOfReading s
txt-end maus text s (inl ends) = runs-end (txt_refusal text (8 * maus)) text s ends
txt-end maus text s (inr (runs, rows, never)) = absurd never

build-end : (text : List ℕ) (s : Stop) → parts_of_listing text (stops s) → IsOfReading s
build-end text (listing_refused r) ends = tt
build-end text (text_refused r) ends = absurd ends
build-end text (link_fact f) ends = absurd ends
build-end text (keep_unknown name) ends = absurd ends
build-end text (locate_fact maus f) ends = absurd ends
build-end text (bytes_refused b) ends = absurd ends
build-end text (name_shared name) ends = absurd ends
build-end text (words_refused w) ends = absurd ends
build-end text (plan_refused r) ends = absurd ends
build-end text (file_refused n r) ends = absurd ends
build-end text (past_limit n) ends = absurd ends
build-end text (too_many_modules n) ends = absurd ends

module-ends : (parts_of : List ℕ → Work Stop Parts) → ((text : List ℕ) (s : Stop) → parts_of text (stops s) → IsOfReading s) → (out : List ℕ)
    (files : List NamedFile) (c : Inputs) (s : Stop) → module_of_text parts_of out files c (stops s) → IsOfReading s
module-ends parts_of each out files c s (inl ends) = text-end c.files files s ends
module-ends parts_of each out files c s (inr (text, read, inl ends)) = each text s ends
module-ends parts_of each out files c s (inr (text, read, inr (parts, is, (held, never)))) = absurd never

other-ends : (t : Task) → IsSoundTask t → NamesInputs t → (files : List NamedFile) (s : Stop) → work_of t files (stops s) → IsOfReading s
other-ends (task.Show inputs full) sound other files s ends = listing-ends (λ ms. flat_map (text_of (form_of full)) ms) files inputs s ends
other-ends (task.Check inputs) sound other files s ends = listing-ends check_text files inputs s ends
other-ends (task.FromTxt inputs maus out) sound other files s ends = module-ends (parts_of_txt maus) (txt-end maus) out files inputs s ends
other-ends (task.Build inputs out) sound other files s ends = module-ends parts_of_listing build-end out files inputs s ends
other-ends (task.Make count) sound other files s ends = absurd (make-never count sound.0 sound.1 s ends)
other-ends (task.Help text) sound other files s ends = absurd ends
other-ends (task.Link inputs name out) sound never files s ends = absurd never
other-ends (task.Locate inputs keep p) sound never files s ends = absurd never

-- ---- it has a file

sound-some : (c : Inputs) → IsSoundInputs c → 0 < length c.files
sound-some c sound = let some = sound.some in let within = sound.tree.within in omega (arith, some, within)

pub some-file : (t : Task) → IsSoundTask t → reads_files t ≡ true → 0 < length (inputs_of t).files
some-file (task.Show inputs full) sound reads = sound-some inputs sound.sound.sound
some-file (task.Check inputs) sound reads = sound-some inputs sound.sound
some-file (task.Link inputs name out) sound reads = sound-some inputs sound.0
some-file (task.Locate inputs keep p) sound reads = sound-some inputs sound
some-file (task.FromTxt inputs maus out) sound reads = sound-some inputs sound.0.sound.sound
some-file (task.Build inputs out) sound reads = sound-some inputs sound.sound.sound
some-file (task.Make count) sound reads = absurd cc
some-file (task.Help text) sound reads = absurd cc

-- ---- a task that reads no files

never-stops : (t : Task) → IsSoundTask t → reads_files t ≡ false → (s : Stop) → ((fs : List NamedFile) → work_of t fs (stops s)) → ⊥
never-stops (task.Make count) sound none s all = make-never count sound.0 sound.1 s (all [])
never-stops (task.Help text) sound none s all = all []
never-stops (task.Show inputs full) sound none s all = absurd cc
never-stops (task.Check inputs) sound none s all = absurd cc
never-stops (task.Link inputs name out) sound none s all = absurd cc
never-stops (task.Locate inputs keep p) sound none s all = absurd cc
never-stops (task.FromTxt inputs maus out) sound none s all = absurd cc
never-stops (task.Build inputs out) sound none s all = absurd cc

never-reached : (t : Task) → reads_files t ≡ false → (at : Input) (files : Option (List NamedFile)) → IsInputReached files (inputs_of t) at → ⊥
never-reached (task.Make count) none at files reached = none-reached at files reached
never-reached (task.Help text) none at files reached = none-reached at files reached
never-reached (task.Show inputs full) none at files reached = absurd cc
never-reached (task.Check inputs) none at files reached = absurd cc
never-reached (task.Link inputs name out) none at files reached = absurd cc
never-reached (task.Locate inputs keep p) none at files reached = absurd cc
never-reached (task.FromTxt inputs maus out) none at files reached = absurd cc
never-reached (task.Build inputs out) none at files reached = absurd cc

-- ---- a task that reads no plan

no-plan : (t : Task) → IsSoundTask t → NamesInputs t → (inputs_of t).plan ≡ None
no-plan (task.Show inputs full) sound other = sound.sound.no_plan
no-plan (task.Check inputs) sound other = sound.no_plan
no-plan (task.Link inputs name out) sound other = absurd other
no-plan (task.Locate inputs keep p) sound other = absurd other
no-plan (task.FromTxt inputs maus out) sound other = sound.0.sound.no_plan
no-plan (task.Build inputs out) sound other = sound.sound.no_plan
no-plan (task.Make count) sound other = refl
no-plan (task.Help text) sound other = refl

keeps-none : (plan : Option (List ℕ)) → plan ≡ None → (files : Option (List NamedFile)) (stop : Outcome) → KeepsPlan plan files [] stop
keeps-none plan none files (outcome.Refused (refusal.Plan r)) = λ name named. absurd (let both : Some name ≡ None = sym named ∙ none in cc)
keeps-none plan none files (outcome.Refused (refusal.Read n r)) = tt
keeps-none plan none files (outcome.Refused (refusal.Bin count)) = tt
keeps-none plan none files (outcome.Refused (refusal.Keep kept)) = tt
keeps-none plan none files (outcome.Refused (refusal.SharedName shared)) = tt
keeps-none plan none files (outcome.Refused (refusal.Text r)) = tt
keeps-none plan none files (outcome.Refused (refusal.Build r)) = tt
keeps-none plan none files (outcome.Refused (refusal.InputLimit n)) = tt
keeps-none plan none files (outcome.Refused (refusal.TooManyModules n)) = tt
keeps-none plan none files (outcome.Refused (refusal.TooManyFiles n)) = tt
keeps-none plan none files (outcome.Refused (refusal.TooDeep n)) = tt
keeps-none plan none files (outcome.Refused (refusal.Link l)) = tt
keeps-none plan none files (outcome.Refused (refusal.Locate l maus)) = tt
keeps-none plan none files outcome.Done = tt
keeps-none plan none files (outcome.Usage f) = tt
keeps-none plan none files (outcome.ReadFault at) = tt
keeps-none plan none files outcome.WriteFault = tt
keeps-none plan none files outcome.NoMemory = tt

unread-none : (c : Inputs) (host_tells : Cause) → c.plan ≡ None → (stop : Outcome) (details : List ℕ) → IsInputDetail c host_tells stop details
    → IsUnreadDetail c host_tells [] stop details
unread-none c host_tells none (outcome.Refused (refusal.Plan r)) details is = λ name named. absurd (let both : Some name ≡ None = sym named ∙ none in cc)
unread-none c host_tells none (outcome.Refused (refusal.Read n r)) details is = is
unread-none c host_tells none (outcome.Refused (refusal.Bin count)) details is = is
unread-none c host_tells none (outcome.Refused (refusal.Keep kept)) details is = is
unread-none c host_tells none (outcome.Refused (refusal.SharedName shared)) details is = is
unread-none c host_tells none (outcome.Refused (refusal.Text r)) details is = is
unread-none c host_tells none (outcome.Refused (refusal.Build r)) details is = is
unread-none c host_tells none (outcome.Refused (refusal.InputLimit n)) details is = is
unread-none c host_tells none (outcome.Refused (refusal.TooManyModules n)) details is = is
unread-none c host_tells none (outcome.Refused (refusal.TooManyFiles n)) details is = is
unread-none c host_tells none (outcome.Refused (refusal.TooDeep n)) details is = is
unread-none c host_tells none (outcome.Refused (refusal.Link l)) details is = is
unread-none c host_tells none (outcome.Refused (refusal.Locate l maus)) details is = is
unread-none c host_tells none outcome.Done details is = is
unread-none c host_tells none (outcome.Usage f) details is = is
unread-none c host_tells none (outcome.ReadFault at) details is = is
unread-none c host_tells none outcome.WriteFault details is = is
unread-none c host_tells none outcome.NoMemory details is = is

-- ---- how it is explained

module _ (t : Task) (sound : IsSoundTask t) (other : NamesInputs t) (old mid new : Meaning) (before between now : Faults)
    (prints : OnlyPrints mid new between now) (stop : Outcome) (is : IsUnprepared t (call_between old mid before between) stop)
    (memory : stop ≢ outcome.NoMemory) (host_tells : Cause) (details : List ℕ) (told : IsTaskDetail (inputs_read t) host_tells stop details) where
  reads-stop : reads_files t ≡ true → (o : Outcome) → StopsFor t (call_between old mid before between) o
      → ReadingStops (λ fs. work_of t fs) (inputs_of t) (call_between old mid before between) o
  reads-stop reads (outcome.Refused r) why = subst (λ (b : Bool). IsStopped b (λ fs. work_of t fs) old.files (outcome.Refused r)) reads why
  reads-stop reads (outcome.ReadFault at) why = why
  reads-stop reads outcome.NoMemory why = tt
  reads-stop reads outcome.Done why = why
  reads-stop reads (outcome.Usage f) why = why
  reads-stop reads outcome.WriteFault why = why

  -- a task that reads no files has an output
  none-stopped : reads_files t ≡ false → (o : Outcome) → o ≢ outcome.NoMemory → StopsFor t (call_between old mid before between) o → ⊥
  none-stopped none (outcome.Refused r) memory why =
      never-stops t sound none why.stop (subst (λ (b : Bool). OverFiles b old.files (λ fs. work_of t fs (stops why.stop))) none why.cause)
  none-stopped none (outcome.ReadFault at) memory why = never-reached t none at old.files why.1
  none-stopped none outcome.NoMemory memory why = memory refl
  none-stopped none outcome.Done memory why = why
  none-stopped none (outcome.Usage f) memory why = why
  none-stopped none outcome.WriteFault memory why = why

  pub other-explained : EndsFor t (call_between old new before now) stop details
  other-explained = by (reads_files t) refl where
    by : (b : Bool) → reads_files t ≡ b → EndsFor t (call_between old new before now) stop details
    by true reads = reading-ends t (λ fs. work_of t fs) (other-ends t sound other) (some-file t sound reads) [] old mid before between host_tells
        (λ fs s ends. ends) reads new now prints stop (reads-stop reads stop is.why) is.opens is.named memory details
        (keeps-none (inputs_of t).plan (no-plan t sound other) old.files stop)
        (unread-none (inputs_of t) host_tells (no-plan t sound other) stop details
        (subst (λ (b : Bool). IsTaskDetail (cond b (Some (inputs_of t)) None) host_tells stop details) reads told))
    by false none = absurd (none-stopped none stop memory is.why)

-- a task of another kind names no more than an input
pub names-inputs : (t : Task) → ((inputs : Inputs) (name : Option (List ℕ)) (out : List ℕ) → t ≢ task.Link inputs name out)
    → ((inputs : Inputs) (keep : List (List ℕ)) (p : Product) → t ≢ task.Locate inputs keep p) → NamesInputs t
names-inputs (task.Link inputs name out) link locate = absurd (link inputs name out refl)
names-inputs (task.Locate inputs keep p) link locate = absurd (locate inputs keep p refl)
names-inputs (task.Show inputs full) link locate = tt
names-inputs (task.Check inputs) link locate = tt
names-inputs (task.FromTxt inputs maus out) link locate = tt
names-inputs (task.Build inputs out) link locate = tt
names-inputs (task.Make count) link locate = tt
names-inputs (task.Help text) link locate = tt
