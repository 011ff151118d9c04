-- The plan and then the files: what was read, and why not all was.
use Rattle.std.proofs.Common.{◌≡◌, ℕ, suc, ◌+◌, ◌<◌, ◌≤◌, Bool, true, List, [], ◌∷◌, ◌++◌, length, take, not, Option, Some, None, IfSome}
use Rattle.std.proofs.Common.{IsSome, OnSome}
use Rattle.std.proofs.Common.{option_to_list, refl, sym, ap, subst, ◌∙◌, inl, inr, arith}
use Rattle.std.proofs.lemmas.List.{append-nil, length-append}
use Rattle.mufom_host.specs.World.{Faults, Meaning, NamedFile, GrowsBy, OnlyOpens}
use Rattle.mufom_host.proofs.Composing.{later-InputFails}
use Rattle.mufom_module.specs.declared.module.Parts.{Parts}
use Rattle.mufom_plan.specs.declared.plan.Plan.{Plan}
use Rattle.mufom_task.specs.declared.task.Inputs.{Inputs}
use Rattle.mufom_groups.specs.Work.{gives, stops}
use Rattle.mufom_outcome.specs.declared.outcome.Input.TheVariants as input
use Rattle.mufom_outcome.specs.declared.outcome.Outcome.{Outcome}
use Rattle.mufom_outcome.specs.declared.outcome.Outcome.TheVariants as outcome
use Rattle.mufom_outcome.specs.declared.outcome.Refusal.TheVariants as refusal
use Rattle.mufom_outcome.specs.Stop.{Stop, plan_refused, file_refused, past_limit, too_many_modules}
use Rattle.mufom_numbers.specs.declared.limits.TheConstants.{MOST_MODULES}
use Rattle.mufom_task.specs.Inputs.{ComeTo, accepted, root_count}
use Rattle.mufom_task.specs.Reading.{modules_in, plan_in}
use Rattle.mufom_task.specs.FilesRead.{FilesStop, IsFileCount, OpensFiles}
use Rattle.mufom_task.specs.InputsRead.{InputsStop, KeepsPlan, NamesPlan, PlanStops, inputs_in}
use Rattle.mufom_task.specs.Calls.{IsOpenedCount, OpensInputs}
use Rattle.mufom_task.specs.Ends.{OverFiles}
use Rattle.mufom_task.specs.Tasks.{input_names}
use Rattle.mufom_task.proofs.InputLaws.{call_between, grows_by_both, grows_then}

pub known-map : {A : Type 0} (P Q : A → Type 0) (o : Option A) → ((a : A) → P a → Q a) → IfSome o P → IfSome o Q
known-map P Q None step holds = tt
known-map P Q (Some a) step holds = step a holds

pub known-both : {A : Type 0} (P Q : A → Type 0) (o : Option A) → IfSome o P → IfSome o Q → IfSome o (λ a. P a × Q a)
known-both P Q None first second = tt
known-both P Q (Some a) first second = (first, second)

-- what holds of the files that are known, where files are read
pub over-map : {reads : Bool} → reads ≡ true → (P Q : List NamedFile → Type 0) (files : Option (List NamedFile))
    → ((fs : List NamedFile) → P fs → Q fs) → IfSome files P
    → OverFiles reads files Q
over-map of_files P Q files step holds = subst (λ (b : Bool). OverFiles b files Q) (sym of_files) (known-map P Q files step holds)

take-after : {T : Type 0} (xs ys : List T) (n : ℕ) → take (length xs + n) (xs ++ ys) ≡ xs ++ take n ys
take-after [] ys n = let none : 0 + n ≡ n = omega arith in ap (λ k. take k ys) none
take-after (x ∷ xs) ys n = let more : length (x ∷ xs) + n ≡ suc (length xs + n) = omega arith in ap (λ k. take k (x ∷ (xs ++ ys))) more
    ∙ ap (λ l. x ∷ l) (take-after xs ys n)

-- ---- calls of one kind in a row

pub opens-trans : (old mid new : Meaning) (before between now : Faults) → OnlyOpens old mid before between → OnlyOpens mid new between now
    → OnlyOpens old new before now
opens-trans old mid new before between now (first, counts, later) (second, more, latest) = (
  second ∙ ap (λ (m : Meaning). record m { left = new.left; opened = new.opened }) first,
  more ∙ ap (λ (f : Faults). record f { reads = now.reads; input_failed = now.input_failed }) counts,
  omega (arith, later, latest),
)

module _ (c : Inputs) (old mid : Meaning) (before between : Faults) (only : OnlyOpens old mid before between) where
  abbrev planned : Plan → Type 0
  planned plan = IfSome old.files (λ fs. plan_in fs c.plan (gives plan))

  files-same : mid.files ≡ old.files
  files-same = ap (λ (m : Meaning). m.files) only.0

  -- ---- all was read

  pub inputs-read : (plan : Plan) (ms : List Parts) → planned plan → IfSome mid.files (λ fs. ComeTo c.options (root_count c) fs c.files (accepted ms))
      → length ms ≤ MOST_MODULES → IfSome old.files (λ fs. inputs_in fs c (gives (plan, ms)))
  inputs-read plan ms is come few =
      known-map (λ fs. plan_in fs c.plan (gives plan) × ComeTo c.options (root_count c) fs c.files (accepted ms)) (λ fs. inputs_in fs c (gives (plan, ms)))
      old.files (λ fs both. (plan, both.0, (ms, (both.1, few), refl)))
      (known-both (λ fs. plan_in fs c.plan (gives plan)) (λ fs. ComeTo c.options (root_count c) fs c.files (accepted ms)) old.files is
      (subst (λ (o : Option (List NamedFile)). IfSome o (λ fs. ComeTo c.options (root_count c) fs c.files (accepted ms))) files-same come))

  pub all-opened : (new : Meaning) → GrowsBy old.opened mid.opened (option_to_list c.plan) → GrowsBy mid.opened new.opened c.files
      → GrowsBy old.opened new.opened (input_names c)
  all-opened new first second = grows_by_both old.opened mid.opened new.opened (option_to_list c.plan) c.files first second

  -- ---- the plan was not read

  pub plan-stops : (stop : Outcome) → PlanStops c.plan (call_between old mid before between) stop → InputsStop c (call_between old mid before between) stop
  plan-stops (outcome.Refused (refusal.Plan r)) (named, memory, why) = record {
    stop = plan_refused r;
    is = refl;
    of_inputs = memory;
    cause = known-map (λ fs. plan_in fs c.plan (stops (plan_refused r))) (λ fs. inputs_in fs c (stops (plan_refused r))) old.files (λ fs is. inl is) why;
  }
  plan-stops (outcome.ReadFault input.Plan) (named, fails) = (fails, named)
  plan-stops (outcome.Refused (refusal.Bin count)) why = absurd why
  plan-stops (outcome.Refused (refusal.Keep kept)) why = absurd why
  plan-stops (outcome.Refused (refusal.SharedName shared)) why = absurd why
  plan-stops (outcome.Refused (refusal.Text r)) why = absurd why
  plan-stops (outcome.Refused (refusal.Build r)) why = absurd why
  plan-stops (outcome.ReadFault (input.File n)) why = absurd why
  plan-stops (outcome.Refused (refusal.Read n r)) why = absurd why
  plan-stops (outcome.Refused (refusal.InputLimit n)) why = absurd why
  plan-stops (outcome.Refused (refusal.TooManyModules n)) why = absurd why
  plan-stops (outcome.Refused (refusal.TooManyFiles n)) why = absurd why
  plan-stops (outcome.Refused (refusal.TooDeep n)) why = absurd why
  plan-stops (outcome.Refused (refusal.Link l)) why = absurd why
  plan-stops (outcome.Refused (refusal.Locate l maus)) why = absurd why
  plan-stops outcome.Done why = absurd why
  plan-stops (outcome.Usage f) why = absurd why
  plan-stops outcome.WriteFault why = absurd why
  plan-stops outcome.NoMemory why = tt

  some-plan : (plan : Option (List ℕ)) → IsSome plan → length (option_to_list plan) ≡ 1
  some-plan None none = absurd cc
  some-plan (Some name) some = refl

  plan-count : (stop : Outcome) → PlanStops c.plan (call_between old mid before between) stop → IsOpenedCount c stop (length (option_to_list c.plan))
  plan-count (outcome.Refused (refusal.Plan r)) (named, memory, why) = some-plan c.plan named
  plan-count (outcome.ReadFault input.Plan) (named, fails) = some-plan c.plan named
  plan-count (outcome.ReadFault (input.File n)) why = absurd why
  plan-count (outcome.Refused (refusal.Bin count)) why = absurd why
  plan-count (outcome.Refused (refusal.Keep kept)) why = absurd why
  plan-count (outcome.Refused (refusal.SharedName shared)) why = absurd why
  plan-count (outcome.Refused (refusal.Text r)) why = absurd why
  plan-count (outcome.Refused (refusal.Build r)) why = absurd why
  plan-count (outcome.Refused (refusal.Read n r)) why = absurd why
  plan-count (outcome.Refused (refusal.InputLimit n)) why = absurd why
  plan-count (outcome.Refused (refusal.TooManyModules n)) why = absurd why
  plan-count (outcome.Refused (refusal.TooManyFiles n)) why = absurd why
  plan-count (outcome.Refused (refusal.TooDeep n)) why = absurd why
  plan-count (outcome.Refused (refusal.Link l)) why = absurd why
  plan-count (outcome.Refused (refusal.Locate l maus)) why = absurd why
  plan-count outcome.Done why = absurd why
  plan-count (outcome.Usage f) why = absurd why
  plan-count outcome.WriteFault why = absurd why
  plan-count outcome.NoMemory why = tt

  take-plan : take (length (option_to_list c.plan)) (input_names c) ≡ option_to_list c.plan
  take-plan =
      (let same : length (option_to_list c.plan) ≡ length (option_to_list c.plan) + 0 = omega arith in ap (λ n. take n (input_names c)) same)
      ∙ take-after (option_to_list c.plan) c.files 0 ∙ append-nil (option_to_list c.plan)

  pub plan-opens : (stop : Outcome) → PlanStops c.plan (call_between old mid before between) stop
      → OnSome mid.opened (GrowsBy old.opened mid.opened (option_to_list c.plan))
      → OpensInputs c (call_between old mid before between) stop
  plan-opens stop why opened = record {
    count = length (option_to_list c.plan);
    exact = plan-count stop why;
    within = let sum = length-append (option_to_list c.plan) c.files in omega (arith, sum);
    opened = subst (λ (l : List (List ℕ)). OnSome mid.opened (GrowsBy old.opened mid.opened l)) (sym take-plan) opened;
  }

  -- ---- the plan that an outcome names

  pub plan-named : (stop : Outcome) → PlanStops c.plan (call_between old mid before between) stop → NamesPlan c.plan stop
  plan-named (outcome.Refused (refusal.Plan r)) why = why.0
  plan-named (outcome.ReadFault input.Plan) why = why.0
  plan-named (outcome.ReadFault (input.File n)) why = tt
  plan-named (outcome.Refused (refusal.Bin count)) why = tt
  plan-named (outcome.Refused (refusal.Keep kept)) why = tt
  plan-named (outcome.Refused (refusal.SharedName shared)) why = tt
  plan-named (outcome.Refused (refusal.Text r)) why = tt
  plan-named (outcome.Refused (refusal.Build r)) why = tt
  plan-named (outcome.Refused (refusal.Read n r)) why = tt
  plan-named (outcome.Refused (refusal.InputLimit n)) why = tt
  plan-named (outcome.Refused (refusal.TooManyModules n)) why = tt
  plan-named (outcome.Refused (refusal.TooManyFiles n)) why = tt
  plan-named (outcome.Refused (refusal.TooDeep n)) why = tt
  plan-named (outcome.Refused (refusal.Link l)) why = tt
  plan-named (outcome.Refused (refusal.Locate l maus)) why = tt
  plan-named outcome.Done why = tt
  plan-named (outcome.Usage f) why = tt
  plan-named outcome.WriteFault why = tt
  plan-named outcome.NoMemory why = tt

  pub files-named : (new : Meaning) (now : Faults) (stop : Outcome) → FilesStop c.options (root_count c) c.files (call_between mid new between now) stop
      → NamesPlan c.plan stop
  files-named new now (outcome.Refused (refusal.Plan r)) why = absurd why
  files-named new now (outcome.ReadFault input.Plan) why = absurd why
  files-named new now (outcome.ReadFault (input.File n)) why = tt
  files-named new now (outcome.Refused (refusal.Bin count)) why = tt
  files-named new now (outcome.Refused (refusal.Keep kept)) why = tt
  files-named new now (outcome.Refused (refusal.SharedName shared)) why = tt
  files-named new now (outcome.Refused (refusal.Text r)) why = tt
  files-named new now (outcome.Refused (refusal.Build r)) why = tt
  files-named new now (outcome.Refused (refusal.Read n r)) why = tt
  files-named new now (outcome.Refused (refusal.InputLimit n)) why = tt
  files-named new now (outcome.Refused (refusal.TooManyModules n)) why = tt
  files-named new now (outcome.Refused (refusal.TooManyFiles n)) why = tt
  files-named new now (outcome.Refused (refusal.TooDeep n)) why = tt
  files-named new now (outcome.Refused (refusal.Link l)) why = tt
  files-named new now (outcome.Refused (refusal.Locate l maus)) why = tt
  files-named new now outcome.Done why = tt
  files-named new now (outcome.Usage f) why = tt
  files-named new now outcome.WriteFault why = tt
  files-named new now outcome.NoMemory why = tt

  pub files-keep : (new : Meaning) (now : Faults) (files : Option (List NamedFile)) (text : List ℕ) (stop : Outcome)
      → FilesStop c.options (root_count c) c.files (call_between mid new between now) stop → KeepsPlan c.plan files text stop
  files-keep new now files text (outcome.Refused (refusal.Plan r)) why = absurd why
  files-keep new now files text (outcome.ReadFault at) why = tt
  files-keep new now files text (outcome.Refused (refusal.Bin count)) why = tt
  files-keep new now files text (outcome.Refused (refusal.Keep kept)) why = tt
  files-keep new now files text (outcome.Refused (refusal.SharedName shared)) why = tt
  files-keep new now files text (outcome.Refused (refusal.Text r)) why = tt
  files-keep new now files text (outcome.Refused (refusal.Build r)) why = tt
  files-keep new now files text (outcome.Refused (refusal.Read n r)) why = tt
  files-keep new now files text (outcome.Refused (refusal.InputLimit n)) why = tt
  files-keep new now files text (outcome.Refused (refusal.TooManyModules n)) why = tt
  files-keep new now files text (outcome.Refused (refusal.TooManyFiles n)) why = tt
  files-keep new now files text (outcome.Refused (refusal.TooDeep n)) why = tt
  files-keep new now files text (outcome.Refused (refusal.Link l)) why = tt
  files-keep new now files text (outcome.Refused (refusal.Locate l maus)) why = tt
  files-keep new now files text outcome.Done why = tt
  files-keep new now files text (outcome.Usage f) why = tt
  files-keep new now files text outcome.WriteFault why = tt
  files-keep new now files text outcome.NoMemory why = tt

  -- ---- the files were not all read

  module _ (new : Meaning) (now : Faults) (plan : Plan) (is_planned : planned plan) where
    abbrev ComesTo : Stop → Type 0
    ComesTo s = IfSome mid.files (λ fs. modules_in fs c (stops s))

    at-files : (s : Stop) → ComesTo s → IfSome old.files (λ fs. inputs_in fs c (stops s))
    at-files s why =
        known-map (λ fs. plan_in fs c.plan (gives plan) × modules_in fs c (stops s)) (λ fs. inputs_in fs c (stops s)) old.files
        (λ fs both. inr (plan, both.0, inl both.1))
        (known-both (λ fs. plan_in fs c.plan (gives plan)) (λ fs. modules_in fs c (stops s)) old.files is_planned
        (subst (λ (o : Option (List NamedFile)). IfSome o (λ fs. modules_in fs c (stops s))) files-same why))

    too-many : (n : ℕ) → MOST_MODULES < n → (files : Option (List NamedFile))
        → IfSome files (λ fs. (ms : List Parts) × ComeTo c.options (root_count c) fs c.files (accepted ms) × (n ≡ length ms))
        → IfSome files (λ fs. modules_in fs c (stops (too_many_modules n)))
    too-many n many files them =
        known-map (λ fs. (ms : List Parts) × ComeTo c.options (root_count c) fs c.files (accepted ms) × (n ≡ length ms))
        (λ fs. modules_in fs c (stops (too_many_modules n))) files (λ fs is. (is.0, is.1, is.2, many)) them

    pub files-stops : (stop : Outcome) → FilesStop c.options (root_count c) c.files (call_between mid new between now) stop
        → OpensFiles c.files (call_between mid new between now) stop
        → InputsStop c (call_between old new before now) stop
    files-stops (outcome.Refused (refusal.Read n r)) why opens =
        record { stop = file_refused n r; is = refl; of_inputs = tt; cause = at-files (file_refused n r) why }
    files-stops (outcome.Refused (refusal.InputLimit n)) why opens =
        record { stop = past_limit n; is = refl; of_inputs = tt; cause = at-files (past_limit n) why }
    files-stops (outcome.ReadFault (input.File n)) (fails, them) opens = (
      later-InputFails before between now only.2 fails,
      (
        (let exact = opens.exact in let within = opens.within in omega (arith, exact, within)),
        known-map (λ fs. plan_in fs c.plan (gives plan) × ((ms : List Parts) × ComeTo c.options (root_count c) fs (take n c.files) (accepted ms)))
            (λ fs. ((p : Plan) × plan_in fs c.plan (gives p)) × ((ms : List Parts) × ComeTo c.options (root_count c) fs (take n c.files) (accepted ms)))
            old.files (λ fs both. ((plan, both.0), both.1))
            (known-both (λ fs. plan_in fs c.plan (gives plan)) (λ fs. (ms : List Parts)
            × ComeTo c.options (root_count c) fs (take n c.files) (accepted ms)) old.files is_planned
            (subst (λ (o : Option (List NamedFile)). IfSome o (λ fs. (ms : List Parts) × ComeTo c.options (root_count c) fs (take n c.files) (accepted ms)))
            files-same them)),
      ),
    )
    files-stops (outcome.ReadFault input.Plan) why opens = absurd why
    files-stops (outcome.Refused (refusal.Plan r)) why opens = absurd why
    files-stops (outcome.Refused (refusal.TooManyModules n)) why opens =
        record { stop = too_many_modules n; is = refl; of_inputs = tt; cause = at-files (too_many_modules n) (too-many n why.0 mid.files why.1) }
    files-stops (outcome.Refused (refusal.TooManyFiles n)) why opens = absurd why
    files-stops (outcome.Refused (refusal.TooDeep n)) why opens = absurd why
    files-stops (outcome.Refused (refusal.Link l)) why opens = absurd why
    files-stops (outcome.Refused (refusal.Locate l maus)) why opens = absurd why
    files-stops outcome.Done why opens = absurd why
    files-stops (outcome.Usage f) why opens = absurd why
    files-stops outcome.WriteFault why opens = absurd why
    files-stops outcome.NoMemory why opens = tt
    files-stops (outcome.Refused (refusal.Bin count)) why opens = absurd why
    files-stops (outcome.Refused (refusal.Keep kept)) why opens = absurd why
    files-stops (outcome.Refused (refusal.SharedName shared)) why opens = absurd why
    files-stops (outcome.Refused (refusal.Text r)) why opens = absurd why
    files-stops (outcome.Refused (refusal.Build r)) why opens = absurd why

  files-count : (stop : Outcome) (count : ℕ) → IsFileCount c.files stop count → IsOpenedCount c stop (length (option_to_list c.plan) + count)
  files-count (outcome.Refused (refusal.Read n r)) count is = omega (arith, is)
  files-count (outcome.Refused (refusal.InputLimit n)) count is = omega (arith, is)
  files-count (outcome.ReadFault (input.File n)) count is = omega (arith, is)
  files-count (outcome.ReadFault input.Plan) count is = absurd is
  files-count (outcome.Refused (refusal.Bin n)) count is = absurd is
  files-count (outcome.Refused (refusal.Keep kept)) count is = absurd is
  files-count (outcome.Refused (refusal.SharedName shared)) count is = absurd is
  files-count (outcome.Refused (refusal.Text r)) count is = absurd is
  files-count (outcome.Refused (refusal.Build r)) count is = absurd is
  files-count (outcome.Refused (refusal.Plan r)) count is = absurd is
  files-count (outcome.Refused (refusal.TooManyModules n)) count is =
      let sum = length-append (option_to_list c.plan) c.files in omega (arith, sum, is)
  files-count (outcome.Refused (refusal.TooManyFiles n)) count is = absurd is
  files-count (outcome.Refused (refusal.TooDeep n)) count is = absurd is
  files-count (outcome.Refused (refusal.Link l)) count is = absurd is
  files-count (outcome.Refused (refusal.Locate l maus)) count is = absurd is
  files-count outcome.Done count is = absurd is
  files-count (outcome.Usage f) count is = absurd is
  files-count outcome.WriteFault count is = absurd is
  files-count outcome.NoMemory count is = tt

  pub files-opens : (new : Meaning) (now : Faults) (stop : Outcome) → GrowsBy old.opened mid.opened (option_to_list c.plan)
      → OpensFiles c.files (call_between mid new between now) stop
      → OpensInputs c (call_between old new before now) stop
  files-opens new now stop first opens = record {
    count = length (option_to_list c.plan) + opens.count;
    exact = files-count stop opens.count opens.exact;
    within = let sum = length-append (option_to_list c.plan) c.files in let within = opens.within in omega (arith, sum, within);
    opened = subst (λ (l : List (List ℕ)). OnSome new.opened (GrowsBy old.opened new.opened l)) (sym (take-after (option_to_list c.plan) c.files opens.count))
        (grows_then old.opened mid.opened new.opened (option_to_list c.plan) (take opens.count c.files) first opens.opened);
  }
