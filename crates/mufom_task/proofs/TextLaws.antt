-- Reading the text of a task: its bytes, or why they were not read.
use Rattle.std.proofs.Common.{◌≡◌, ◌⊎◌, ℕ, ◌+◌, ◌<◌, ◌≤◌, Bool, true, false, nat_lt, List, [], ◌∷◌, ◌++◌, length, take, not, Option, Some, None}
use Rattle.std.proofs.Common.{IfSome, OnSome, option_to_list, refl, sym, ap, subst, ◌∙◌, inl, inr, arith}
use Rattle.std.proofs.lemmas.Bool.{lt-ltb, ltb-true}
use Rattle.std.proofs.lemmas.List.{length-append}
use Rattle.mufom_records.specs.declared.options.ReadOptions.{ReadOptions}
use Rattle.mufom_numbers.specs.declared.limits.TheConstants.{MOST_FILE_BYTES}
use Rattle.mufom_host.specs.World.{Faults, Meaning, NamedFile, GrowsBy, InputFails}
use Rattle.mufom_module.specs.declared.module.Parts.{Parts}
use Rattle.mufom_plan.specs.declared.plan.Plan.{Plan}
use Rattle.mufom_meaning.specs.Absolute.{no_regions}
use Rattle.mufom_groups.specs.Work.{gives, stops}
use Rattle.mufom_outcome.specs.declared.outcome.Input.TheVariants as input
use Rattle.mufom_outcome.specs.declared.outcome.Outcome.{Outcome}
use Rattle.mufom_outcome.specs.declared.outcome.Outcome.TheVariants as outcome
use Rattle.mufom_outcome.specs.declared.outcome.Refusal.TheVariants as refusal
use Rattle.mufom_outcome.specs.Stop.{past_limit}
use Rattle.mufom_task.specs.declared.task.Inputs.{Inputs}
use Rattle.mufom_task.specs.Calls.{Call, IsOpenedCount, OpensInputs}
use Rattle.mufom_task.specs.FilesRead.{FileHas}
use Rattle.mufom_task.specs.Inputs.{ComeTo, accepted, root_count}
use Rattle.mufom_task.specs.InputsRead.{IsEnoughOf, NamesPlan, TextStop, TextStops}
use Rattle.mufom_task.specs.Reading.{plan_in, text_in, unless_past_limit}
use Rattle.mufom_task.specs.Tasks.{input_names}
use Rattle.mufom_task.proofs.InputLaws.{call_between, none_accepted}

-- ---- the bytes of the text

not-past : (n m : ℕ) → m ≤ n → nat_lt n m ≡ false
not-past n m fits = by (nat_lt n m) refl where
  by : (b : Bool) → nat_lt n m ≡ b → nat_lt n m ≡ false
  by false is = is
  by true is = absurd (omega (arith, fits, ltb-true n m is))

module _ (name bytes : List ℕ) where
  -- they are kept where they are not too many
  pub text-kept : (files : Option (List NamedFile)) → FileHas name files (λ all. IsEnoughOf MOST_FILE_BYTES all bytes) → length bytes ≤ MOST_FILE_BYTES
      → IfSome files (λ fs. text_in fs (name ∷ []) (gives bytes))
  text-kept None has fits = tt
  text-kept (Some fs) (all, there, inl same) fits =
      let kept : unless_past_limit (nat_lt MOST_FILE_BYTES (length bytes)) bytes (gives bytes)
      = subst (λ (b : Bool). unless_past_limit b bytes (gives bytes)) (sym (not-past MOST_FILE_BYTES (length bytes) fits)) refl in
      (bytes, there ∙ ap (λ (l : List ℕ). Some l) same, kept)
  text-kept (Some fs) (all, there, inr (long, more)) fits = absurd (omega (arith, long, fits))

  longer : (all : List ℕ) → MOST_FILE_BYTES < length bytes → IsEnoughOf MOST_FILE_BYTES all bytes → MOST_FILE_BYTES < length all
  longer all long (inl same) = subst (λ (l : List ℕ). MOST_FILE_BYTES < length l) (sym same) long
  longer all long (inr (past, (rest, same))) = let size = ap (λ (l : List ℕ). length l) same in let sum = length-append bytes rest in
      omega (arith, size, sum, long)

  -- and else they end the run
  pub text-past : (files : Option (List NamedFile)) → FileHas name files (λ all. IsEnoughOf MOST_FILE_BYTES all bytes) → MOST_FILE_BYTES < length bytes
      → IfSome files (λ fs. text_in fs (name ∷ []) (stops (past_limit 0)))
  text-past None has long = tt
  text-past (Some fs) (all, there, enough) long =
      let past : unless_past_limit (nat_lt MOST_FILE_BYTES (length all)) all (stops (past_limit 0))
      = subst (λ (b : Bool). unless_past_limit b all (stops (past_limit 0))) (sym (lt-ltb MOST_FILE_BYTES (length all) (longer all long enough))) refl in
      inr (all, there, past)

-- the file was not read
pub text-unread : (name : List ℕ) (old new : Meaning) (before now : Faults) (stop : Outcome)
    → ((stop ≡ outcome.ReadFault (input.File 0)) × InputFails before now) ⊎ (stop ≡ outcome.NoMemory)
    → TextStops name (call_between old new before now) stop
text-unread name old new before now stop (inl (is, fails)) = subst (λ (o : Outcome). TextStops name (call_between old new before now) o)
    (sym is) (refl, fails)
text-unread name old new before now stop (inr is) = subst (λ (o : Outcome). TextStops name (call_between old new before now) o) (sym is) tt

-- ---- the inputs of the task

to-all : {A : Type 0} (P : A → Type 0) (o : Option A) → ((a : A) → P a) → IfSome o P
to-all P None each = tt
to-all P (Some a) each = each a

no-plan-read : (files : List NamedFile) (plan : Option (List ℕ)) → plan ≡ None → (p : Plan) × plan_in files plan (gives p)
no-plan-read files None is = (no_regions, refl)
no-plan-read files (Some name) is = absurd cc

no-files-read : (options : ReadOptions) (roots : ℕ) (files : List NamedFile) (names : List (List ℕ)) (n : ℕ) → n ≡ 0 → (ms : List Parts)
    × ComeTo options roots files (take n names) (accepted ms)
no-files-read options roots files names n is = subst (λ (k : ℕ). (ms : List Parts)
    × ComeTo options roots files (take k names) (accepted ms)) (sym is) ([], ([], none_accepted options roots files))

module _ (c : Inputs) (name : List ℕ) (no_plan : c.plan ≡ None) (one : c.files
    ≡ name ∷ []) (old mid : Meaning) (before between : Faults) where
  abbrev call : Call
  call = call_between old mid before between

  one-input : input_names c ≡ name ∷ []
  one-input = λ i. option_to_list (no_plan i) ++ one i

  no-plan-count : length (option_to_list c.plan) ≡ 0
  no-plan-count = ap (λ (o : Option (List ℕ)). length (option_to_list o)) no_plan

  -- ---- it was not read

  pub reading-stops : (stop : Outcome) → TextStops name call stop → TextStop c call stop
  reading-stops (outcome.Refused (refusal.InputLimit n)) (zero, why) = record {
    stop = past_limit 0;
    is = ap (λ k. outcome.Refused (refusal.InputLimit k)) zero;
    of_inputs = tt;
    cause = subst (λ (names : List (List ℕ)). IfSome old.files (λ fs. text_in fs names (stops (past_limit 0)))) (sym one) why;
  }
  reading-stops (outcome.ReadFault (input.File n)) (zero, fails) = (
    fails,
    (
      (let count = ap (λ (l : List (List ℕ)). length l) one in omega (arith, zero, count)),
      to-all (λ (fs : List NamedFile). ((p : Plan) × plan_in fs c.plan (gives p))
          × ((ms : List Parts) × ComeTo c.options (root_count c) fs (take n c.files) (accepted ms)))
          old.files (λ fs. (no-plan-read fs c.plan no_plan, no-files-read c.options (root_count c) fs c.files n zero)),
    ),
  )
  reading-stops (outcome.ReadFault input.Plan) why = absurd why
  reading-stops (outcome.Refused (refusal.Read n r)) why = absurd why
  reading-stops (outcome.Refused (refusal.TooManyModules n)) why = absurd why
  reading-stops (outcome.Refused (refusal.TooManyFiles n)) why = absurd why
  reading-stops (outcome.Refused (refusal.TooDeep n)) why = absurd why
  reading-stops (outcome.Refused (refusal.Plan r)) why = absurd why
  reading-stops (outcome.Refused (refusal.Link l)) why = absurd why
  reading-stops (outcome.Refused (refusal.Locate l maus)) why = absurd why
  reading-stops (outcome.Refused (refusal.Bin count)) why = absurd why
  reading-stops (outcome.Refused (refusal.Keep kept)) why = absurd why
  reading-stops (outcome.Refused (refusal.SharedName shared)) why = absurd why
  reading-stops (outcome.Refused (refusal.Text r)) why = absurd why
  reading-stops (outcome.Refused (refusal.Build r)) why = absurd why
  reading-stops outcome.Done why = absurd why
  reading-stops (outcome.Usage f) why = absurd why
  reading-stops outcome.WriteFault why = absurd why
  reading-stops outcome.NoMemory why = tt

  text-count : (stop : Outcome) → TextStops name call stop → IsOpenedCount c stop 1
  text-count (outcome.Refused (refusal.InputLimit n)) (zero, why) = omega (arith, zero, no-plan-count)
  text-count (outcome.ReadFault (input.File n)) (zero, fails) = omega (arith, zero, no-plan-count)
  text-count (outcome.ReadFault input.Plan) why = absurd why
  text-count (outcome.Refused (refusal.Read n r)) why = absurd why
  text-count (outcome.Refused (refusal.TooManyModules n)) why = absurd why
  text-count (outcome.Refused (refusal.TooManyFiles n)) why = absurd why
  text-count (outcome.Refused (refusal.TooDeep n)) why = absurd why
  text-count (outcome.Refused (refusal.Plan r)) why = absurd why
  text-count (outcome.Refused (refusal.Link l)) why = absurd why
  text-count (outcome.Refused (refusal.Locate l maus)) why = absurd why
  text-count (outcome.Refused (refusal.Bin count)) why = absurd why
  text-count (outcome.Refused (refusal.Keep kept)) why = absurd why
  text-count (outcome.Refused (refusal.SharedName shared)) why = absurd why
  text-count (outcome.Refused (refusal.Text r)) why = absurd why
  text-count (outcome.Refused (refusal.Build r)) why = absurd why
  text-count outcome.Done why = absurd why
  text-count (outcome.Usage f) why = absurd why
  text-count outcome.WriteFault why = absurd why
  text-count outcome.NoMemory why = tt

  pub text-opens : (stop : Outcome) → TextStops name call stop → OnSome mid.opened (GrowsBy old.opened mid.opened (name ∷ [])) → OpensInputs c call stop
  text-opens stop why opened = record {
    count = 1;
    exact = text-count stop why;
    within = let count = ap (λ (l : List (List ℕ)). length l) one-input in omega (arith, count);
    opened = subst (λ (l : List (List ℕ)). OnSome mid.opened (GrowsBy old.opened mid.opened (take 1 l))) (sym one-input) opened;
  }

  -- ---- it was read

  pub text-read : (text : List ℕ) → IfSome old.files (λ fs. text_in fs (name ∷ []) (gives text)) → IfSome old.files (λ fs. text_in fs c.files (gives text))
  text-read text read = subst (λ (l : List (List ℕ)). IfSome old.files (λ fs. text_in fs l (gives text))) (sym one) read

  pub text-all : GrowsBy old.opened mid.opened (name ∷ []) → GrowsBy old.opened mid.opened (input_names c)
  text-all opened = subst (λ (l : List (List ℕ)). GrowsBy old.opened mid.opened l) (sym one-input) opened

-- no plan is named
pub text-names : (plan : Option (List ℕ)) (name : List ℕ) (call : Call) (stop : Outcome) → TextStops name call stop → NamesPlan plan stop
text-names plan name told (outcome.Refused (refusal.Plan r)) why = absurd why
text-names plan name told (outcome.Refused (refusal.Read n r)) why = tt
text-names plan name told (outcome.Refused (refusal.InputLimit n)) why = tt
text-names plan name told (outcome.Refused (refusal.TooManyModules n)) why = tt
text-names plan name told (outcome.Refused (refusal.TooManyFiles n)) why = tt
text-names plan name told (outcome.Refused (refusal.TooDeep n)) why = tt
text-names plan name told (outcome.Refused (refusal.Link l)) why = tt
text-names plan name told (outcome.Refused (refusal.Locate l maus)) why = tt
text-names plan name told (outcome.Refused (refusal.Keep kept)) why = tt
text-names plan name told (outcome.Refused (refusal.SharedName shared)) why = tt
text-names plan name told (outcome.Refused (refusal.Bin count)) why = tt
text-names plan name told (outcome.Refused (refusal.Text r)) why = tt
text-names plan name told (outcome.Refused (refusal.Build r)) why = tt
text-names plan name told (outcome.ReadFault input.Plan) why = absurd why
text-names plan name told (outcome.ReadFault (input.File n)) why = tt
text-names plan name told outcome.Done why = tt
text-names plan name told (outcome.Usage f) why = tt
text-names plan name told outcome.WriteFault why = tt
text-names plan name told outcome.NoMemory why = tt
