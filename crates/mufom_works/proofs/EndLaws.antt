-- The outcome where modules are not linked or not located, and the end of a task whose work on what was read ends.
use Rattle.std.proofs.Common.{◌≡◌, ◌≢◌, ◌∙◌, ℕ, Bool, length, true, false, List, [], Option, Some, None, option_map, Result, Ok, Err, IfSome, IfOk, IfErr}
use Rattle.std.proofs.Common.{refl, sym, ap, subst, inl, inr}
use Rattle.mufom_host.specs.World.{Faults, Meaning, NamedFile}
use Rattle.mufom_module.specs.declared.module.Parts.{Parts}
use Rattle.mufom_plan.specs.declared.plan.Plan.{Plan}
use Rattle.mufom_meaning.specs.declared.located.LocatedParts.{LocatedParts}
use Rattle.mufom_meaning.specs.Facts.{LinkFact, LocateFact, placement, undefined, common_unplaced, cycle, image_limit, zero_divisor, load_outside}
use Rattle.mufom_meaning.specs.Facts.{loaded_twice, overflow}
use Rattle.mufom_place.specs.declared.refusal.PlaceRefusal.TheVariants as place_refusal
use Rattle.mufom_place.specs.Facts.{◌or_else◌}
use Rattle.mufom_planned.specs.PlanSymbols.{first_shared, with_symbols}
use Rattle.mufom_planned.specs.Planned.{IsPlanned, PlanFact, copied_answer, of_list, planned_answer, shared_name}
use Rattle.mufom_planned.specs.PlanLaws.{AreLoadedInPlace}
use Rattle.mufom_planned.proofs.NeverLacks.{planned_never_lacks}
use Rattle.mufom_planned.proofs.Plain.{plain_plans_mean_the_same}
use Rattle.mufom_meaning.specs.LocateAnswer.{locate_answer}
use Rattle.mufom_meaning.specs.Location.{IsLocation}
use Rattle.mufom_locating.specs.Refusals.{IsMetBy, list_fact}
use Rattle.mufom_refusals.specs.declared.planned.PlannedRefusal.{PlannedRefusal}
use Rattle.mufom_refusals.specs.declared.planned.PlannedRefusal.TheVariants as planned
use Rattle.mufom_refusals.specs.declared.locate.LocateRefusal.{LocateRefusal}
use Rattle.mufom_refusals.specs.declared.locate.LocateRefusal.TheVariants as locate
use Rattle.mufom_image.specs.Refusals.{IsMet}
use Rattle.mufom_refusals.specs.declared.link.LinkRefusal.{LinkRefusal}
use Rattle.mufom_refusals.specs.declared.link.LinkRefusal.TheVariants as link
use Rattle.mufom_groups.specs.Groups.{StopsWork}
use Rattle.mufom_groups.specs.Work.{Work, gives, stops, with_stops}
use Rattle.mufom_outcome.specs.declared.outcome.Outcome.{Outcome}
use Rattle.mufom_outcome.specs.declared.outcome.Outcome.TheVariants as outcome
use Rattle.mufom_outcome.specs.declared.outcome.Refusal.TheVariants as refusal
use Rattle.mufom_outcome.specs.Stop.{Stop, words_refused, plan_refused, file_refused, past_limit, link_fact, keep_unknown, name_shared, locate_fact, bytes_refused}
use Rattle.mufom_outcome.specs.Stop.{text_refused, listing_refused, too_many_modules}
use Rattle.mufom_works.specs.Works.{located, located_unless, maus_of, stop_of, work_of}
use Rattle.mufom_task.specs.declared.task.Inputs.{Inputs}
use Rattle.mufom_task.specs.declared.task.Task.{Task}
use Rattle.mufom_task.specs.Calls.{IsOpenedCount}
use Rattle.mufom_task.specs.Ends.{OverFiles, stop_outcome}
use Rattle.mufom_task.specs.InputsRead.{NamesPlan, ReadingStops}
use Rattle.mufom_task.specs.Tasks.{input_names, inputs_of, reads_files}
use Rattle.mufom_works.specs.WorkEnds.{StopsFor}
use Rattle.mufom_works.specs.WorkEnds.{EndsAt, IsOfModules}
use Rattle.mufom_outcome.specs.Outcomes.{outcome_of_link, outcome_of_locate, outcome_of_planned}
use Rattle.mufom_outcome.specs.LocateRefusals.{locate_refusal}
use Rattle.mufom_task.proofs.InputLaws.{call_between}
use Rattle.mufom_task.proofs.InputsLaws.{over-map}

-- ---- a link fact

pub link-ends : {A : Type 0} (work : Work LinkFact A) (r : LinkRefusal) → StopsWork work r → EndsAt (with_stops link_fact work) (outcome_of_link r)
link-ends work link.NoMemory why = inl refl
link-ends work (link.Mismatch first other) (f, is, ends) = inr (link_fact f, tt, ap (λ l. outcome.Refused (refusal.Link l)) is, (f, ends, refl))
link-ends work (link.Duplicate name) (f, is, ends) = inr (link_fact f, tt, ap (λ l. outcome.Refused (refusal.Link l)) is, (f, ends, refl))
link-ends work link.DuplicateStart (f, is, ends) = inr (link_fact f, tt, ap (λ l. outcome.Refused (refusal.Link l)) is, (f, ends, refl))

-- ---- a locate fact

pub location-of : (plan : Plan) (ms : List Parts) (r : LocatedParts) → located plan ms (gives r) → IsPlanned ms plan r
location-of plan ms r is = by (planned_answer ms plan) is where
  by : (o : Option PlanFact) → located_unless o plan ms (gives r) → IsPlanned ms plan r
  by None is = is
  by (Some f) is = absurd is

-- no symbol of the plan has the name of a public of a list that is located, or that another fact keeps from it
pub unshared : (ms : List Parts) (plan : Plan) → planned_answer ms plan ≡ None → first_shared ms plan ≡ None
unshared ms plan none = by (first_shared ms plan) none where
  by : (o : Option (List ℕ)) → (option_map shared_name o or_else option_map of_list (copied_answer (with_symbols ms plan) plan)) ≡ None → o ≡ None
  by None is = refl
  by (Some name) never = absurd cc

pub unshared-by : (ms : List Parts) (plan : Plan) (f : LocateFact) → planned_answer ms plan ≡ Some (of_list f) → first_shared ms plan ≡ None
unshared-by ms plan f is = by (first_shared ms plan) is where
  by : (o : Option (List ℕ)) → (option_map shared_name o or_else option_map of_list (copied_answer (with_symbols ms plan) plan)) ≡ Some (of_list f) → o ≡ None
  by None is = refl
  by (Some name) never = absurd cc

own-fact : (o : Option LocateFact) → list_fact (option_map of_list o) ≡ o
own-fact None = refl
own-fact (Some f) = refl

-- an error that reports a fact about the list with the plan's symbols
met-none : (r : LocateRefusal) → r ≢ locate.NoMemory → IsMet None r → ⊥
met-none (locate.Place p) other met = absurd cc
met-none (locate.Undefined name) other met = absurd cc
met-none (locate.CommonUnplaced name) other met = absurd cc
met-none (locate.Cycle name) other met = absurd cc
met-none (locate.DivideByZero s) other met = absurd cc
met-none (locate.Overflow section address kind size value) other met = absurd cc
met-none (locate.LoadOutside section address) other met = absurd cc
met-none (locate.LoadedTwice address) other met = absurd cc
met-none (locate.ImageLimit count) other met = absurd cc
met-none locate.NoMemory other met = other refl

met-by : (shared : Option (List ℕ)) (o : Option LocateFact) (r : LocateRefusal) → r ≢ locate.NoMemory
    → IsMet (list_fact (option_map shared_name shared or_else option_map of_list o)) r → (shared ≡ None) × IsMet o r
met-by None o r other met = (refl, subst (λ (u : Option LocateFact). IsMet u r) (own-fact o) met)
met-by (Some name) o r other met = absurd (met-none r other met)

pub met-listed : (ms : List Parts) (plan : Plan) (r : LocateRefusal) → r ≢ locate.NoMemory → IsMet (list_fact (planned_answer ms plan)) r
    → (first_shared ms plan ≡ None) × IsMet (copied_answer (with_symbols ms plan) plan) r
met-listed ms plan r other met = met-by (first_shared ms plan) (copied_answer (with_symbols ms plan) plan) r other met

-- the fact about the list, which is the first one
pub listed : (o : Option PlanFact) (f : LocateFact) → list_fact o ≡ Some f → o ≡ Some (of_list f)
listed None f is = absurd cc
listed (Some (shared_name name)) f is = absurd cc
listed (Some (of_list own)) f is = let same : own ≡ f = cc in ap (λ (l : LocateFact). Some (of_list l)) same

module _ (ms : List Parts) (plan : Plan) where
  pub is-located : (r : LocatedParts) → IsPlanned ms plan r → located plan ms (gives r)
  is-located r is = subst (λ (o : Option PlanFact). located_unless o plan ms (gives r)) (sym is.locates) is

  pub is-unlocated : (f : PlanFact) → planned_answer ms plan ≡ Some f → located plan ms (stops (stop_of (maus_of ms) f))
  is-unlocated f met = subst (λ (o : Option PlanFact). located_unless o plan ms (stops (stop_of (maus_of ms) f))) (sym met) refl

  fact-ends : (f : LocateFact) → f ≢ placement place_refusal.NoMemory → list_fact (planned_answer ms plan) ≡ Some f
      → EndsAt (located plan ms) (outcome.Refused (refusal.Locate (locate_refusal f) (maus_of ms)))
  fact-ends f other met =
      inr (locate_fact (maus_of ms) f, other, refl, is-unlocated (of_list f) (listed (planned_answer ms plan) f met))

  list-ends : (r : LocateRefusal) → IsMet (list_fact (planned_answer ms plan)) r → EndsAt (located plan ms) (outcome_of_locate (maus_of ms) r)
  list-ends locate.NoMemory met = inl refl
  list-ends (locate.Place p) met = fact-ends (placement p) (λ same. planned_never_lacks ms plan
      (listed (planned_answer ms plan) (placement p) met ∙ ap (λ (f : LocateFact). Some (of_list f)) same)) met
  list-ends (locate.Undefined name) met = fact-ends (undefined name) (λ same. cc) met
  list-ends (locate.CommonUnplaced name) met = fact-ends (common_unplaced name) (λ same. cc) met
  list-ends (locate.Cycle name) met = fact-ends (cycle name) (λ same. cc) met
  list-ends (locate.DivideByZero s) met = fact-ends (zero_divisor s) (λ same. cc) met
  list-ends (locate.Overflow section address kind size value) met = fact-ends (overflow section address kind size value) (λ same. cc) met
  list-ends (locate.LoadOutside section address) met = fact-ends (load_outside section address) (λ same. cc) met
  list-ends (locate.LoadedTwice address) met = fact-ends (loaded_twice address) (λ same. cc) met
  list-ends (locate.ImageLimit count) met = fact-ends (image_limit count) (λ same. cc) met

  pub locate-ends : (r : PlannedRefusal) → IsMetBy (planned_answer ms plan) r → EndsAt (located plan ms) (outcome_of_planned (maus_of ms) r)
  locate-ends (planned.SharedName name) met = inr (name_shared name, tt, refl, is-unlocated (shared_name name) met)
  locate-ends (planned.Locate r) met = list-ends r met

-- ---- a plan without symbols, all of whose regions are loaded where they are

module _ (ms : List Parts) (plan : Plan) (none : plan.symbols ≡ []) (in_place : AreLoadedInPlace plan.regions) where
  pub plain-answer : planned_answer ms plan ≡ option_map of_list (locate_answer ms plan)
  plain-answer = (plain_plans_mean_the_same ms plan none in_place).0

  pub plain-located : (r : LocatedParts) → IsLocation ms plan r → located plan ms (gives r)
  plain-located r is = is-located ms plan r (((plain_plans_mean_the_same ms plan none in_place).1 r).1 is)

  pub plain-ends : (r : LocateRefusal) → IsMet (locate_answer ms plan) r → EndsAt (located plan ms) (outcome_of_locate (maus_of ms) r)
  plain-ends r met = list-ends ms plan r (subst (λ (o : Option LocateFact). IsMet o r) (sym (ap list_fact plain-answer ∙ own-fact (locate_answer ms plan))) met)

pub if-ok-map : {A E : Type 0} (r : Result A E) (P Q : A → Type 0) → ((a : A) → P a → Q a) → IfOk r P → IfOk r Q
if-ok-map (Ok a) P Q along is = along a is
if-ok-map (Err e) P Q along is = tt

pub if-err-map : {A E : Type 0} (r : Result A E) (P Q : E → Type 0) → ((e : E) → P e → Q e) → IfErr r P → IfErr r Q
if-err-map (Ok a) P Q along is = tt
if-err-map (Err e) P Q along is = along e is

-- ---- one work after another

-- the ends of a work that are ends of another
pub ends-along : {A B : Type 0} (first : Work Stop A) (second : Work Stop B) → ((s : Stop) → first (stops s) → second (stops s)) → (o : Outcome)
    → EndsAt first o → EndsAt second o
ends-along first second along o (inl is) = inl is
ends-along first second along o (inr (s, of_modules, is, ends)) = inr (s, of_modules, is, along s ends)

-- an error in the modules or in the text ends the task
ended-stop : (t : Task) (s : Stop) (old mid : Meaning) (before between : Faults) → IsOfModules s
    → OverFiles (reads_files t) old.files (λ fs. work_of t fs (stops s)) → StopsFor t (call_between old mid before between) (stop_outcome s)
ended-stop t (link_fact f) old mid before between is cause = record { stop = link_fact f; is = refl; of_inputs = tt; cause = cause }
ended-stop t (keep_unknown name) old mid before between is cause = record { stop = keep_unknown name; is = refl; of_inputs = tt; cause = cause }
ended-stop t (locate_fact maus f) old mid before between is cause = record { stop = locate_fact maus f; is = refl; of_inputs = is; cause = cause }
ended-stop t (bytes_refused b) old mid before between is cause = record { stop = bytes_refused b; is = refl; of_inputs = tt; cause = cause }
ended-stop t (name_shared name) old mid before between is cause = record { stop = name_shared name; is = refl; of_inputs = tt; cause = cause }
ended-stop t (text_refused r) old mid before between is cause = record { stop = text_refused r; is = refl; of_inputs = tt; cause = cause }
ended-stop t (listing_refused r) old mid before between is cause = record { stop = listing_refused r; is = refl; of_inputs = tt; cause = cause }
ended-stop t (words_refused w) old mid before between is cause = absurd is
ended-stop t (plan_refused r) old mid before between is cause = absurd is
ended-stop t (file_refused n r) old mid before between is cause = absurd is
ended-stop t (past_limit n) old mid before between is cause = absurd is
ended-stop t (too_many_modules n) old mid before between is cause = absurd is

-- ---- the end of a task

-- the inputs were not all read
pub reading-stop : {A : Type 0} (t : Task) (reading : List NamedFile → Work Stop A) → reads_files t ≡ true
    → ((fs : List NamedFile) (s : Stop) → reading fs (stops s) → work_of t fs (stops s)) → (old mid : Meaning) (before between : Faults) (stop : Outcome)
    → ReadingStops reading (inputs_of t) (call_between old mid before between) stop → StopsFor t (call_between old mid before between) stop
reading-stop t reading of_files begins old mid before between (outcome.Refused r) why = record {
  stop = why.stop;
  is = why.is;
  of_inputs = why.of_inputs;
  cause = over-map of_files (λ fs. reading fs (stops why.stop)) (λ fs. work_of t fs (stops why.stop)) old.files
      (λ fs comes. begins fs why.stop comes) why.cause;
}
reading-stop t reading of_files begins old mid before between (outcome.ReadFault at) why = why
reading-stop t reading of_files begins old mid before between outcome.NoMemory why = tt
reading-stop t reading of_files begins old mid before between outcome.Done why = absurd why
reading-stop t reading of_files begins old mid before between (outcome.Usage f) why = absurd why
reading-stop t reading of_files begins old mid before between outcome.WriteFault why = absurd why

-- the work on what was read ends the task
pub ends-stop : {A B : Type 0} (t : Task) (reading : List NamedFile → Work Stop B) (read : B) (part : Work Stop A) → reads_files t ≡ true
    → (old mid : Meaning) (before between : Faults) → IfSome old.files (λ fs. reading fs (gives read))
    → ((fs : List NamedFile) → reading fs (gives read) → (s : Stop) → part (stops s) → work_of t fs (stops s)) → (o : Outcome) → EndsAt part o
    → StopsFor t (call_between old mid before between) o
ends-stop t reading read part of_files old mid before between there along o (inl is) =
    subst (λ (x : Outcome). StopsFor t (call_between old mid before between) x) (sym is) tt
ends-stop t reading read part of_files old mid before between there along o (inr (s, of_modules, is, ends)) =
    subst (λ (x : Outcome). StopsFor t (call_between old mid before between) x) (sym is)
    (ended-stop t s old mid before between of_modules
    (over-map of_files (λ fs. reading fs (gives read)) (λ fs. work_of t fs (stops s)) old.files (λ fs is_read. along fs is_read s ends) there))

-- the same of a task that reads no files
pub all-stop : {A : Type 0} (t : Task) (part : Work Stop A) (old mid : Meaning) (before between : Faults)
    → ((fs : List NamedFile) (s : Stop) → part (stops s) → work_of t fs (stops s)) → reads_files t ≡ false → (o : Outcome) → EndsAt part o
    → StopsFor t (call_between old mid before between) o
all-stop t part old mid before between along none o (inl is) =
    subst (λ (x : Outcome). StopsFor t (call_between old mid before between) x) (sym is) tt
all-stop t part old mid before between along none o (inr (s, of_modules, is, ends)) =
    subst (λ (x : Outcome). StopsFor t (call_between old mid before between) x) (sym is)
    (ended-stop t s old mid before between of_modules
    (subst (λ (b : Bool). OverFiles b old.files (λ fs. work_of t fs (stops s))) (sym none) (λ fs. along fs s ends)))

-- it is known how many inputs were opened then: all of them
pub ended-count : (c : Inputs) (s : Stop) → IsOfModules s → IsOpenedCount c (stop_outcome s) (length (input_names c))
ended-count c (link_fact f) is = refl
ended-count c (keep_unknown name) is = refl
ended-count c (locate_fact maus f) is = refl
ended-count c (bytes_refused b) is = refl
ended-count c (name_shared name) is = refl
ended-count c (text_refused r) is = refl
ended-count c (listing_refused r) is = refl
ended-count c (words_refused s) is = absurd is
ended-count c (plan_refused r) is = absurd is
ended-count c (file_refused n r) is = absurd is
ended-count c (past_limit n) is = absurd is
ended-count c (too_many_modules n) is = absurd is

pub ends-count : {A : Type 0} (c : Inputs) (part : Work Stop A) (o : Outcome) → EndsAt part o → IsOpenedCount c o (length (input_names c))
ends-count c part o (inl is) = subst (λ (x : Outcome). IsOpenedCount c x (length (input_names c))) (sym is) tt
ends-count c part o (inr (s, of_modules, is, ends)) =
    subst (λ (x : Outcome). IsOpenedCount c x (length (input_names c))) (sym is) (ended-count c s of_modules)

-- and no plan is named
ended-names : (plan : Option (List ℕ)) (s : Stop) → IsOfModules s → NamesPlan plan (stop_outcome s)
ended-names plan (link_fact f) is = tt
ended-names plan (keep_unknown name) is = tt
ended-names plan (locate_fact maus f) is = tt
ended-names plan (bytes_refused b) is = tt
ended-names plan (name_shared name) is = tt
ended-names plan (text_refused r) is = tt
ended-names plan (listing_refused r) is = tt
ended-names plan (words_refused s) is = absurd is
ended-names plan (plan_refused r) is = absurd is
ended-names plan (file_refused n r) is = absurd is
ended-names plan (past_limit n) is = absurd is
ended-names plan (too_many_modules n) is = absurd is

pub ends-names : {A : Type 0} (plan : Option (List ℕ)) (part : Work Stop A) (o : Outcome) → EndsAt part o → NamesPlan plan o
ends-names plan part o (inl is) = subst (λ (x : Outcome). NamesPlan plan x) (sym is) tt
ends-names plan part o (inr (s, of_modules, is, ends)) = subst (λ (x : Outcome). NamesPlan plan x) (sym is) (ended-names plan s of_modules)
