-- If an expression of a list has no value, it or a public or a counter that it goes through divides by 0.
use Rattle.std.proofs.Common.{◌≡◌, ℕ, zero, suc, ◌+◌, ◌≤◌, ◌⊎◌, inl, inr, List, [], ◌∷◌, length, Option, Some, None, Bool, true, false, refl, sym}
use Rattle.std.proofs.Common.{◌∙◌, ap, subst, arith}
use Rattle.std.specs.Prelude.{slice_get, option_map, if◌then◌else◌, IsTrue, ◌==◌, ◌%◌}
use Rattle.mufom_expr.specs.declared.token.Letter.TheVariants as letters
use Rattle.mufom_expr.specs.Tree.{Tree}
use Rattle.mufom_expr.specs.Value.{variables_of, divides_by_zero}
use Rattle.mufom_loads.specs.declared.load.Item.TheVariants.{Literal, Field}
use Rattle.mufom_module.specs.declared.module.Parts.{Parts}
use Rattle.mufom_meaning.specs.Flat.{Sited, SitedPublic, first_named}
use Rattle.mufom_meaning.specs.Values.{Setting, value_within, value, has_zero_divisor}
use Rattle.mufom_meaning.specs.Steps.{Step, counter_step, item_step, steps, counter}
use Rattle.mufom_meaning.specs.Stands.{StandsIn, put_back}
use Rattle.mufom_meaning.specs.Valued.{CounterPlace, counter_there, IsMentionedIn, last_set, MeetsZeroDivisor, itself, through_name, through_counter}
use Rattle.mufom_numbers.proofs.Choices.{some_same, mapped_none}
use Rattle.mufom_meaning.proofs.Members.{In, In-Contains}
use Rattle.mufom_meaning.proofs.values.Ends.{EndsWithin, all_end, mentioned-among}
use Rattle.mufom_meaning.proofs.values.Causes.{valuation_below, IsWellNamed, IsNoneBy, none_cause}
use Rattle.mufom_meaning.proofs.values.Causes.{zero_divisor-le, zero_divisor-none, mentioned-none, counter-none}
use Rattle.mufom_meaning.specs.Cycles.{leads_from}
use Rattle.mufom_loads.specs.Lengths.{byte_count}
use Rattle.mufom_meaning.specs.Walk.{SitedTree, start_trees, debug_trees}

-- the expression's module has all that its variables name, and the expression names no counter
pub record IsPlain (s : Setting) (site : Sited) (t : Tree) : Type 0 where
  pub well : IsWellNamed s site t
  pub free : (n : ℕ) → In (letters.P, n) (variables_of t) → ⊥

-- there is a base at the flat number
abbrev pub HasBase : Setting → ℕ → Type 0
HasBase s section = slice_get s.bases section ≡ None → ⊥

abbrev pub IsWellStep : Setting → Step → Type 0
IsWellStep s (counter_step site section t) = HasBase s section × IsWellNamed s site t
IsWellStep s (item_step site section (Literal bytes)) = HasBase s section
IsWellStep s (item_step site section (Field kind size t)) = HasBase s section × IsWellNamed s site t

-- what the modules of a list without a defect have, if no fact of names holds
pub record HasAllNamed (ms : List Parts) (s : Setting) : Type 0 where
  pub single : (q : SitedPublic) → StandsIn q s.publics → first_named s.publics q.entry.name ≡ Some q
  pub acyclic : (name : List ℕ) (k : ℕ) → ¬ IsTrue (leads_from s k name (first_named s.publics name))
  pub publics : (q : SitedPublic) → StandsIn q s.publics → IsPlain s q.site q.entry.value
  pub loads : (step : Step) → In step (steps ms) → IsWellStep s step
  pub starts : (e : SitedTree) → StandsIn e (start_trees ms) → IsPlain s e.0 e.1
  pub marks : (e : SitedTree) → StandsIn e (debug_trees ms) → IsPlain s e.0 e.1

put_back-In : (st : Step) (earlier more : List Step) → In st more → In st (put_back earlier more)
put_back-In st [] more h = h
put_back-In st (step ∷ earlier) more h = put_back-In st earlier (step ∷ more) (inr h)

pub step-In : (ms : List Parts) (earlier : List Step) (st : Step) (more : List Step) → steps ms ≡ put_back earlier (st ∷ more) → In st (steps ms)
step-In ms earlier st more e = subst (In st) (sym e) (put_back-In st earlier (st ∷ more) (inl refl))

module _ (ms : List Parts) (s : Setting) (h : HasAllNamed ms s) where
  -- with enough steps left a public has no value only if a zero divisor is found
  publics_meet : (k : ℕ) → k ≤ length s.publics → (q : SitedPublic) → StandsIn q s.publics → EndsWithin s k q.site q.entry.value
      → value_within s k q.site None q.entry.value ≡ None
      → MeetsZeroDivisor s None q.site q.entry.value
  publics_meet zero le q a ends e = by_cause (none_cause s zero q.site None q.entry.value (h.publics q a).well e) where
    by_cause : IsNoneBy s (valuation_below s zero) q.site None q.entry.value ⊎ (divides_by_zero (value_within s zero q.site None) q.entry.value ≡ true)
        → MeetsZeroDivisor s None q.site q.entry.value
    by_cause (inl (inl p)) = absurd ((h.publics q a).free p.0 p.1)
    by_cause (inl (inr m)) = absurd (ends m.0 m.1)
    by_cause (inr d) = itself None q.site q.entry.value (zero_divisor-le s zero le q.site None q.entry.value d)
  publics_meet (suc k) le q a ends e = by_cause (none_cause s (suc k) q.site None q.entry.value (h.publics q a).well e)
      (λ p m none. publics_meet k (omega (arith, le)) p (mentioned-among s q.site q.entry.value p m) (ends p m) none) where
        by_cause : IsNoneBy s (valuation_below s (suc k)) q.site None q.entry.value
            ⊎ (divides_by_zero (value_within s (suc k) q.site None) q.entry.value ≡ true)
            → ((p : SitedPublic) → IsMentionedIn s q.site q.entry.value p → value_within s k p.site None p.entry.value ≡ None
            → MeetsZeroDivisor s None p.site p.entry.value)
            → MeetsZeroDivisor s None q.site q.entry.value
        by_cause (inl (inl p)) later = absurd ((h.publics q a).free p.0 p.1)
        by_cause (inl (inr m)) later = through_name None q.site q.entry.value m.0 m.1 (later m.0 m.1 m.2)
        by_cause (inr d) later = itself None q.site q.entry.value (zero_divisor-le s (suc k) le q.site None q.entry.value d)

  -- why an expression has no value
  abbrev pub Why : Sited → Option ℕ → Tree → Type 0
  Why site pc t =
      ((n : ℕ) × In (letters.P, n) (variables_of t) × (pc ≡ None))
      ⊎ (((q : SitedPublic) × IsMentionedIn s site t q × MeetsZeroDivisor s None q.site q.entry.value) ⊎ (has_zero_divisor s site pc t ≡ true))

  why_with : (k : ℕ) → k ≤ length s.publics → (site : Sited) (pc : Option ℕ) (t : Tree) → IsWellNamed s site t → EndsWithin s k site t
      → value_within s k site pc t ≡ None → Why site pc t
  why_with zero le site pc t w ends e = by_cause (none_cause s zero site pc t w e) where
    by_cause : IsNoneBy s (valuation_below s zero) site pc t ⊎ (divides_by_zero (value_within s zero site pc) t ≡ true) → Why site pc t
    by_cause (inl (inl p)) = inl p
    by_cause (inl (inr m)) = absurd (ends m.0 m.1)
    by_cause (inr d) = inr (inr (zero_divisor-le s zero le site pc t d))
  why_with (suc k) le site pc t w ends e = by_cause (none_cause s (suc k) site pc t w e) where
    by_cause : IsNoneBy s (valuation_below s (suc k)) site pc t ⊎ (divides_by_zero (value_within s (suc k) site pc) t ≡ true) → Why site pc t
    by_cause (inl (inl p)) = inl p
    by_cause (inl (inr m)) = inr (inl (m.0, m.1, publics_meet k (omega (arith, le)) m.0 (mentioned-among s site t m.0 m.1) (ends m.0 m.1) m.2))
    by_cause (inr d) = inr (inr (zero_divisor-le s (suc k) le site pc t d))

  pub why : (site : Sited) (pc : Option ℕ) (t : Tree) → IsWellNamed s site t → value s site pc t ≡ None → Why site pc t
  why site pc t w e = let least : length s.publics ≤ length s.publics = omega arith in
      why_with (length s.publics) least site pc t w (all_end s h.single h.acyclic site t) e

  -- a counter that has no value was last set by an expression that meets a zero divisor
  abbrev IsSetByNone : List Step → ℕ → Type 0
  IsSetByNone earlier section =
      (before : List Step) × (setter : Sited) × (set : Tree) × (last_set earlier section ≡ Some (before, setter, set))
      × MeetsZeroDivisor s (Some (before, section)) setter set

  meets_at : (earlier : List Step) (section : ℕ) (site : Sited) (t : Tree) → (counter s earlier section ≡ None → IsSetByNone earlier section)
      → Why site (counter s earlier section) t → MeetsZeroDivisor s (Some (earlier, section)) site t
  meets_at earlier section site t set (inl p) =
      let last = set p.2 in through_counter earlier last.0 section p.0 site last.1 t last.2 (In-Contains (letters.P, p.0) (variables_of t) p.1) last.3 last.4
  meets_at earlier section site t set (inr (inl m)) = through_name (Some (earlier, section)) site t m.0 m.1 m.2
  meets_at earlier section site t set (inr (inr d)) = itself (Some (earlier, section)) site t d

  counter_meets : (earlier more : List Step) → steps ms ≡ put_back earlier more → (section : ℕ) → HasBase s section → counter s earlier section ≡ None
      → IsSetByNone earlier section
  unfolding counter
  counter_meets [] more at section based e = absurd (based (mapped_none (λ base. base % s.modulus) (slice_get s.bases section) e))
  counter_meets (counter_step site other t ∷ earlier) more at section based e =
      by_case (other == section) refl e (counter_meets earlier (counter_step site other t ∷ more) at section based) where
        by_case : (b : Bool) → (other == section) ≡ b → (if b then value s site (counter s earlier section) t else counter s earlier section) ≡ None
            → (counter s earlier section ≡ None → IsSetByNone earlier section)
            → (before : List Step) × (setter : Sited) × (set : Tree)
            × ((if b then Some (earlier, site, t) else last_set earlier section) ≡ Some (before, setter, set))
            × MeetsZeroDivisor s (Some (before, section)) setter set
        by_case true same e later =
            let well = (h.loads (counter_step site other t) (step-In ms earlier (counter_step site other t) more at)).1 in
            (earlier, site, t, refl, meets_at earlier section site t later (why site (counter s earlier section) t well e))
        by_case false same e later = later e
  counter_meets (item_step site other item ∷ earlier) more at section based e =
      by_case (other == section) e (counter_meets earlier (item_step site other item ∷ more) at section based) where
        by_case : (b : Bool) → (if b then option_map (λ pc. (pc + byte_count item) % s.modulus) (counter s earlier section)
            else counter s earlier section) ≡ None
            → (counter s earlier section ≡ None → IsSetByNone earlier section) → IsSetByNone earlier section
        by_case true e later = later (mapped_none (λ pc. (pc + byte_count item) % s.modulus) (counter s earlier section) e)
        by_case false e later = later e

  -- an expression that names no counter
  pub plain_meets : (site : Sited) (t : Tree) → IsPlain s site t → value s site None t ≡ None → MeetsZeroDivisor s None site t
  plain_meets site t p e = by_why (why site None t p.well e) where
    by_why : Why site None t → MeetsZeroDivisor s None site t
    by_why (inl n) = absurd (p.free n.0 n.1)
    by_why (inr (inl m)) = through_name None site t m.0 m.1 m.2
    by_why (inr (inr d)) = itself None site t d

  pub step_meets : (earlier : List Step) (section : ℕ) (site : Sited) (t : Tree) → IsWellNamed s site t → HasBase s section → (more : List Step)
      → steps ms ≡ put_back earlier more
      → value s site (counter s earlier section) t ≡ None → MeetsZeroDivisor s (Some (earlier, section)) site t
  step_meets earlier section site t well based more at e =
      meets_at earlier section site t (counter_meets earlier more at section based) (why site (counter s earlier section) t well e)

-- The way back.

abbrev LastSet : Type 0
LastSet = List Step × Sited × Tree

last_set-none : (s : Setting) (earlier before : List Step) (section : ℕ) (setter : Sited) (set : Tree) → last_set earlier section ≡ Some (before, setter, set)
    → value s setter (counter s before section) set ≡ None → counter s earlier section ≡ None
unfolding counter
last_set-none s [] before section setter set last e = absurd cc
last_set-none s (counter_step site other t ∷ earlier) before section setter set last e =
    by_case (other == section) last (λ l. last_set-none s earlier before section setter set l e) where
      by_case : (b : Bool) → (if b then Some (earlier, site, t) else last_set earlier section) ≡ Some (before, setter, set)
          → (last_set earlier section ≡ Some (before, setter, set) → counter s earlier section ≡ None)
          → (if b then value s site (counter s earlier section) t else counter s earlier section) ≡ None
      by_case true l later =
          let same : ◌≡◌ {A = LastSet} (earlier, site, t) (before, setter, set) = some_same _ _ l in
          (λ i. value s (same i).1 (counter s (same i).0 section) (same i).2) ∙ e
      by_case false l later = later l
last_set-none s (item_step site other item ∷ earlier) before section setter set last e =
    by_case (other == section) (last_set-none s earlier before section setter set last e) where
      by_case : (b : Bool) → counter s earlier section ≡ None → (if b
          then option_map (λ pc. (pc + byte_count item) % s.modulus) (counter s earlier section) else counter s earlier section) ≡ None
      by_case true none = ap (option_map (λ pc. (pc + byte_count item) % s.modulus)) none
      by_case false none = none

-- an expression that meets a zero divisor has no value
pub meets_none : (s : Setting) (c : CounterPlace) (site : Sited) (t : Tree) → MeetsZeroDivisor s c site t → value s site (counter_there s c) t ≡ None
meets_none s _ _ _ (itself c site t d) = zero_divisor-none s site (counter_there s c) t d
meets_none s _ _ _ (through_name c site t q m later) = mentioned-none s site (counter_there s c) t q m (meets_none s None q.site q.entry.value later)
meets_none s _ _ _ (through_counter earlier before section n site setter t set m last later) =
    counter-none s site (counter s earlier section) t n m (last_set-none s earlier before section setter set last
    (meets_none s (Some (before, section)) setter set later))
