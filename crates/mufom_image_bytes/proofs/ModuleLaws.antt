-- The loads of a module without a defect are walked so, once its sections are placed and its publics have values.
use Rattle.std.proofs.Common.{◌≡◌, ℕ, zero, suc, ◌+◌, ◌*◌, ◌^◌, ◌<◌, ◌≤◌, ◌⊎◌, inl, inr, List, [], ◌∷◌, ◌++◌, length, Option, Some, None, true, false}
use Rattle.std.proofs.Common.{not, ◌&&◌, ◌||◌, refl, sym, ◌∙◌, ap, subst, arith, rules, append-nil}
use Rattle.std.specs.Prelude.{slice_get, ◌==◌, nat_lt, nat_le}
use Rattle.std.specs.List.{All, list_any}
use Rattle.std.proofs.lemmas.List.Elements.{All-nil, All-cons}
use Rattle.mufom_expr.specs.Tree.{Tree}
use Rattle.mufom_loads.specs.declared.load.Item.{Item}
use Rattle.mufom_loads.specs.declared.load.Item.TheVariants.{Literal, Field}
use Rattle.mufom_loads.specs.declared.load.Load.{Load}
use Rattle.mufom_loads.specs.declared.load.Load.TheVariants.{SetSection, SetPc, One, Repeat}
use Rattle.mufom_loads.specs.Lengths.{repeated}
use Rattle.mufom_module.specs.declared.module.Parts.{Parts}
use Rattle.mufom_module.specs.declared.module.Defect.TheVariants as d
use Rattle.mufom_module.specs.Contents.{any_item}
use Rattle.mufom_module.specs.Defects.{IsValid, has_bad_size, is_unit_count}
use Rattle.mufom_meaning.specs.declared.located.Site.TheVariants as sites
use Rattle.mufom_meaning.specs.declared.located.Run.{Run}
use Rattle.mufom_meaning.specs.AddressMap.{address_map, AreRunsOf}
use Rattle.mufom_meaning.specs.Bases.{Bases}
use Rattle.mufom_meaning.specs.Facts.{zero_divisor}
use Rattle.mufom_meaning.specs.Flat.{Sited, SitedPublic}
use Rattle.mufom_meaning.specs.Staging.{AreValid}
use Rattle.mufom_meaning.specs.Stands.{StandsIn}
use Rattle.mufom_meaning.specs.Steps.{Step, counter_step, item_step, item_steps, steps, steps_of, step_readings}
use Rattle.mufom_meaning.specs.Values.{Setting, setting, value, has_zero_divisor}
use Rattle.mufom_meaning.specs.Valued.{CounterPlace, counter_there, MeetsZeroDivisor, itself, through_name, through_counter}
use Rattle.mufom_meaning.specs.Walk.{public_fact, steps_fact}
use Rattle.mufom_meaning.proofs.Members.{In, In-at, In-append}
use Rattle.mufom_meaning.proofs.NoDefects.{no_defect}
use Rattle.mufom_meaning.proofs.Tests.{chosen_none, either_false}
use Rattle.mufom_meaning.proofs.Unfolding.{readings-steps}
use Rattle.mufom_meaning.proofs.absolute.Marks.{width_positive, value_below}
use Rattle.mufom_meaning.proofs.facts.Answers.{first_some_none}
use Rattle.mufom_meaning.proofs.values.Ends.{mentioned-among}
use Rattle.mufom_meaning.proofs.values.Causes.{IsWellNamed}
use Rattle.mufom_meaning.proofs.values.Lacks.{HasAllNamed, IsWellStep, Why, why}
use Rattle.mufom_meaning.proofs.values.Named.{has_all_named}
use Rattle.mufom_image_bytes.specs.declared.layout.Layout.{Layout}
use Rattle.mufom_image_bytes.specs.declared.stop.ImageStop.{ImageStop}
use Rattle.mufom_image_bytes.specs.declared.stop.ImageStop.TheVariants as stops
use Rattle.mufom_image_bytes.specs.Images.{IsImageOf, IsRefusalOf}
use Rattle.mufom_image_bytes.specs.Modules.{home_of, IsReady, IsImageOfModule, IsRefusalOfModule}
use Rattle.mufom_image_bytes.specs.Outcomes.{ValuationAt}
use Rattle.mufom_image_bytes.specs.Walked.{HasValuation, IsPlainStep, AreWalked}
use Rattle.mufom_image_bytes.specs.Walks.{IsNarrow, HasNarrowItems}

-- ---- sizes of fields

size_there : (size : ℕ) → ((size == 0) || nat_lt 8 size) ≡ false → (0 < size) × (size ≤ 8)
size_there size e = let two = either_false (size == 0) (nat_lt 8 size) e in (some two.0, few two.1) where
  some : (size == 0) ≡ false → 0 < size
  some f = grind (arith, f)

  few : nat_lt 8 size ≡ false → size ≤ 8
  few f = search rules

narrow_item : (item : Item) → has_bad_size item ≡ false → IsNarrow item
narrow_item (Literal bytes) e = tt {0}
narrow_item (Field kind size t) e = (size_there size e).1

narrow_items : (items : List Item) → list_any has_bad_size items ≡ false → All IsNarrow items
narrow_items [] e = All-nil IsNarrow
narrow_items (item ∷ items) e =
    let two = either_false (has_bad_size item) (list_any has_bad_size items) e in
    All-cons IsNarrow item items (narrow_item item two.0) (narrow_items items two.1)

narrow_load : (load : Load) → any_item has_bad_size load ≡ false → HasNarrowItems load
narrow_load (SetSection section) e = tt {0}
narrow_load (SetPc section value) e = tt {0}
narrow_load (One item) e = narrow_item item e
narrow_load (Repeat count items) e = narrow_items items e

narrow_loads : (loads : List Load) → list_any (any_item has_bad_size) loads ≡ false → All HasNarrowItems loads
narrow_loads [] e = All-nil HasNarrowItems
narrow_loads (load ∷ loads) e =
    let two = either_false (any_item has_bad_size load) (list_any (any_item has_bad_size) loads) e in
    All-cons HasNarrowItems load loads (narrow_load load two.0) (narrow_loads loads two.1)

-- the fields of a module without a defect have at most eight bytes
pub valid_narrow : (m : Parts) → IsValid m → All HasNarrowItems m.loads
valid_narrow m valid = narrow_loads m.loads (no_defect m valid d.FieldSize)

-- and its addresses have 8 to 64 bits
pub valid_units : (m : Parts) → IsValid m → (1 ≤ m.maus) × (m.maus ≤ 8)
valid_units m valid = units m.maus (no_defect m valid d.BadMaus) where
  units : (n : ℕ) → not (is_unit_count n) ≡ false → (1 ≤ n) × (n ≤ 8)
  units n e = (low n e, high n e) where
    low : (n : ℕ) → not (nat_le 1 n && nat_le n 8) ≡ false → 1 ≤ n
    low n e = grind (arith, e)

    high : (n : ℕ) → not (nat_le 1 n && nat_le n 8) ≡ false → n ≤ 8
    high n e = grind (arith, e)

-- ---- steps

-- a step of the module, whose field has a byte
abbrev IsOwn : Sited → Step → Type 0
IsOwn home (counter_step site section t) = site ≡ home
IsOwn home (item_step site section (Literal bytes)) = site ≡ home
IsOwn home (item_step site section (Field kind size t)) = (site ≡ home) × (0 < size)

In-repeated : {A : Type 0} (n : ℕ) (x : A) (xs : List A) → In x (repeated n xs) → In x xs
In-repeated zero x xs h = absurd h
In-repeated (suc n) x xs h = by_case (In-append x xs (repeated n xs) h) (In-repeated n x xs) where
  by_case : In x xs ⊎ In x (repeated n xs) → (In x (repeated n xs) → In x xs) → In x xs
  by_case (inl k) later = k
  by_case (inr k) later = later k

module _ (home : Sited) where
  own_item : (section : ℕ) (item : Item) → has_bad_size item ≡ false → IsOwn home (item_step home section item)
  own_item section (Literal bytes) e = refl
  own_item section (Field kind size t) e = (refl, (size_there size e).0)

  own_items : (current : Option ℕ) (items : List Item) → list_any has_bad_size items ≡ false → (step : Step) → In step (item_steps home current items)
      → IsOwn home step
  own_items None items e step h = absurd h
  own_items (Some section) [] e step h = absurd h
  own_items (Some section) (item ∷ items) e step h =
      let two = either_false (has_bad_size item) (list_any has_bad_size items) e in
      by_case h (own_items (Some section) items two.1 step) (own_item (home.first_section + section) item two.0) where
        by_case : In step (item_steps home (Some section) (item ∷ items)) → (In step (item_steps home (Some section) items) → IsOwn home step)
            → IsOwn home (item_step home (home.first_section + section) item) → IsOwn home step
        by_case (inl same) later own = subst (IsOwn home) same own
        by_case (inr k) later own = later k

  either_own : (step : Step) (own rest : List Step) → In step (own ++ rest) → (In step own → IsOwn home step) → (In step rest → IsOwn home step)
      → IsOwn home step
  either_own step own rest h here later = by_case (In-append step own rest h) where
    by_case : In step own ⊎ In step rest → IsOwn home step
    by_case (inl k) = here k
    by_case (inr k) = later k

  own_steps : (current : Option ℕ) (loads : List Load) → list_any (any_item has_bad_size) loads ≡ false → (step : Step)
      → In step (steps_of home current loads) → IsOwn home step
  own_steps current [] e step h = absurd h
  own_steps current (SetSection section ∷ loads) e step h = own_steps (Some section) loads e step h
  own_steps current (SetPc section t ∷ loads) e step (inl same) = subst (IsOwn home) same refl
  own_steps current (SetPc section t ∷ loads) e step (inr h) = own_steps current loads e step h
  own_steps current (One item ∷ loads) e step h =
      let two = either_false (has_bad_size item) (list_any (any_item has_bad_size) loads) e in
      either_own step (item_steps home current (item ∷ [])) (steps_of home current loads) h
      (own_items current (item ∷ []) (ap (λ b. b || false) two.0) step) (own_steps current loads two.1 step)
  own_steps current (Repeat count items ∷ loads) e step h =
      let two = either_false (list_any has_bad_size items) (list_any (any_item has_bad_size) loads) e in
      either_own step (repeated count (item_steps home current items)) (steps_of home current loads) h
      (λ k. own_items current items two.0 step (In-repeated count step (item_steps home current items) k)) (own_steps current loads two.1 step)

-- ---- from a public no zero divisor is found

module _ (s : Setting) (clear : (q : SitedPublic) → StandsIn q s.publics → has_zero_divisor s q.site None q.entry.value ≡ false) where
  public_clear : (c : CounterPlace) (site : Sited) (t : Tree) → MeetsZeroDivisor s c site t → c ≡ None → (q : SitedPublic) → StandsIn q s.publics
      → q.site ≡ site → q.entry.value ≡ t → ⊥
  public_clear _ _ _ (itself c site t h) none q there e f =
      let zero_there : has_zero_divisor s q.site None q.entry.value ≡ true = (λ i. has_zero_divisor s (e i) (counter_there s (sym none i)) (f i)) ∙ h in
      let no_zero = clear q there in cc
  public_clear _ _ _ (through_name c site t p m later) none q there e f =
      public_clear None p.site p.entry.value later refl p (mentioned-among s site t p m) refl refl
  public_clear _ _ _ (through_counter earlier before section n site setter t set m last later) none q there e f = cc

-- ---- the module

below_length : (xs : List ℕ) (n : ℕ) → (slice_get xs n ≡ None → ⊥) → n < length xs
below_length [] n h = absurd (h refl)
below_length (x ∷ xs) zero h = omega arith
below_length (x ∷ xs) (suc n) h = let later = below_length xs n h in omega (arith, later)

module _ (m : Parts) (valid : IsValid m) (placed : Bases) (bases : List ℕ) (valuation : ValuationAt) (h : IsReady m placed bases valuation) where
  abbrev ms : List Parts
  ms = m ∷ []

  abbrev s : Setting
  s = setting ms placed

  are_valid : AreValid ms
  are_valid = (valid, tt {0})

  named : HasAllNamed ms s
  named = has_all_named ms placed are_valid (h.count ∙ ap length (sym (append-nil m.sections))) h.once h.defined h.commons h.acyclic

  clear : (q : SitedPublic) → StandsIn q s.publics → has_zero_divisor s q.site None q.entry.value ≡ false
  clear q there = chosen_none (has_zero_divisor s q.site None q.entry.value) (zero_divisor (sites.Public q.entry.name))
      (first_some_none (public_fact s) s.publics h.publics q there.0 there.1)

  has_valuation : (t : Tree) → IsWellNamed s (home_of m) t → HasValuation s valuation (home_of m) t
  has_valuation t well = record {
    is_value = λ at. h.is_value at t;
    residue = λ at v e. value_below ms placed (width_positive m [] are_valid) (home_of m) (Some at) t v e;
    divides = λ at e. by_cause at (why ms s named (home_of m) (Some at) t well e);
  }
    where
      by_cause : (at : ℕ) → Why ms s named (home_of m) (Some at) t → has_zero_divisor s (home_of m) (Some at) t ≡ true
      by_cause at (inl p) = absurd (let gone : ◌≡◌ {A = Option ℕ} (Some at) None = p.2 in cc)
      by_cause at (inr (inl q)) = absurd (public_clear s clear None q.0.site q.0.entry.value q.2 refl q.0 (mentioned-among s (home_of m) t q.0 q.1) refl refl)
      by_cause at (inr (inr zero_there)) = zero_there

  plain_step : (step : Step) → IsOwn (home_of m) step → IsWellStep s step → IsPlainStep s valuation step
  plain_step (counter_step site section t) own well =
      (below_length s.bases section well.0, subst (λ x. IsWellNamed s x t → HasValuation s valuation x t) (sym own) (has_valuation t) well.1)
  plain_step (item_step site section (Literal bytes)) own well = (below_length s.bases section well, tt {0})
  plain_step (item_step site section (Field kind size t)) own well =
      (below_length s.bases section well.0, (own.1, subst (λ x. IsWellNamed s x t → HasValuation s valuation x t) (sym own.0) (has_valuation t) well.1))

  all_steps : steps ms ≡ steps_of (home_of m) None m.loads
  all_steps = append-nil (steps_of (home_of m) None m.loads)

  walked_so : (layout : Layout) → layout.width ≡ 8 * m.maus → layout.bases.now ≡ bases → layout.sections.now ≡ m.sections
      → AreWalked s (home_of m) layout valuation m.loads
  walked_so layout wide based sectioned = record {
    laid_out = record {
      modulus = ap (λ n. 2 ^ n) (sym wide);
      bases = h.at_bases ∙ sym based;
      sections = append-nil m.sections ∙ sym sectioned;
      inside = h.inside;
    };
    at_first = refl;
    plain = λ step there.
        let in_steps = In-at step (steps_of (home_of m) None m.loads) there.0 there.1 in
        plain_step step (own_steps (home_of m) None m.loads (no_defect m valid d.FieldSize) step in_steps)
        (named.loads step (subst (In step) (sym all_steps) in_steps));
  }

pub module_image : (m : Parts) → IsValid m → (layout : Layout) (bases : List ℕ) (valuation : ValuationAt) → layout.width ≡ 8 * m.maus → layout.bases.now
    ≡ bases → layout.sections.now ≡ m.sections → layout.order ≡ m.order
    → (runs : List Run) → IsImageOf layout valuation m.loads runs → IsImageOfModule m bases valuation runs
module_image m valid layout bases valuation wide based sectioned ordered runs image = λ placed h.
    let s = setting (m ∷ []) placed in
    let there = image s (home_of m) (walked_so m valid placed bases valuation h layout wide based sectioned) in
    let same = all_steps m valid placed bases valuation h in (
      ap (steps_fact s []) same ∙ there.0,
      subst (λ cells. AreRunsOf cells runs)
          (ap (λ order. address_map order s.modulus (step_readings s (steps_of (home_of m) None m.loads))) ordered
          ∙ ap (λ all. address_map m.order s.modulus (step_readings s all)) (sym same)
          ∙ ap (address_map m.order s.modulus) (sym (readings-steps (m ∷ []) placed)))
          there.1,
    )

pub module_refusal : (m : Parts) → IsValid m → (layout : Layout) (bases : List ℕ) (valuation : ValuationAt) → layout.width ≡ 8 * m.maus → layout.bases.now
    ≡ bases → layout.sections.now ≡ m.sections
    → (refusal : ImageStop) → IsRefusalOf layout valuation m.loads refusal → IsRefusalOfModule m bases valuation refusal
module_refusal m valid layout bases valuation wide based sectioned stops.NoMemory there = tt {0}
module_refusal m valid layout bases valuation wide based sectioned (stops.Refused stop) there = λ placed h.
    ap (steps_fact (setting (m ∷ []) placed) []) (all_steps m valid placed bases valuation h)
    ∙ there (setting (m ∷ []) placed) (home_of m) (walked_so m valid placed bases valuation h layout wide based sectioned)
