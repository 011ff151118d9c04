-- The walk by places and values is the walk of the definitions.
use Rattle.std.proofs.Common.{◌≡◌, ℕ, zero, suc, ◌+◌, ◌<◌, List, [], ◌∷◌, ◌++◌, length, get_or, Option, Some, None, refl, sym, ◌∙◌, ap, subst, arith}
use Rattle.std.proofs.Common.{append-nil, append_assoc}
use Rattle.std.specs.Prelude.{◌%◌, option_map, slice_get}
use Rattle.mufom_loads.specs.declared.load.Item.{Item}
use Rattle.mufom_loads.specs.declared.load.Load.{Load}
use Rattle.mufom_loads.specs.declared.load.Load.TheVariants.{SetSection, SetPc, One, Repeat}
use Rattle.mufom_loads.specs.Lengths.{repeated}
use Rattle.mufom_place.specs.Facts.{◌or_else◌}
use Rattle.mufom_meaning.specs.AddressMap.{step_cells, address_map}
use Rattle.mufom_meaning.specs.Facts.{LocateFact}
use Rattle.mufom_meaning.specs.Flat.{Sited}
use Rattle.mufom_meaning.specs.Stands.{StandsIn}
use Rattle.mufom_meaning.specs.Steps.{Step, counter_step, item_step, item_steps, steps_of, step_reading, readings_after}
use Rattle.mufom_meaning.specs.Values.{Setting}
use Rattle.mufom_meaning.specs.Walk.{first_twice, steps_fact}
use Rattle.mufom_meaning.proofs.Members.{In}
use Rattle.mufom_meaning.proofs.Unfolding.{counter-none}
use Rattle.mufom_image_bytes.specs.declared.layout.Layout.{Layout}
use Rattle.mufom_image_bytes.specs.Chunks.{cell_addresses as addresses}
use Rattle.mufom_image_bytes.specs.Outcomes.{ValuationAt, Progress, Outcome, continued, item_outcome, items_outcome, current_outcome, counter_outcome}
use Rattle.mufom_image_bytes.specs.Outcomes.{loads_outcome, progress_at_first}
use Rattle.mufom_image_bytes.specs.Walked.{IsLaidOut, IsPlainStep, AreWalked}
use Rattle.mufom_image_bytes.proofs.WalkSteps.{Agrees, IsTaken, counter_taken, item_taken}

module _ (s : Setting) (layout : Layout) (valuation : ValuationAt) (laid : IsLaidOut s layout) where
  abbrev step_outcome : Step → Progress → Outcome
  step_outcome (counter_step site section t) p = counter_outcome section (valuation (get_or p.counters section 0) t) p
  step_outcome (item_step site section item) p = item_outcome layout valuation section item p

  abbrev steps_outcome : List Step → Progress → Outcome
  steps_outcome [] p = (p, None)
  steps_outcome (step ∷ steps) p = let first = step_outcome step p in continued first.0 first.1 (λ q. steps_outcome steps q)

  abbrev ArePlain : List Step → Type 0
  ArePlain [] = Unit {0}
  ArePlain (step ∷ steps) = IsPlainStep s valuation step × ArePlain steps

  step_taken : (earlier : List Step) (p : Progress) → Agrees s layout valuation laid earlier p → (step : Step) → IsPlainStep s valuation step
      → IsTaken s layout valuation laid earlier step p (step_outcome step p)
  step_taken earlier p h (counter_step site section t) w = counter_taken s layout valuation laid earlier p h site section w.0 t w.1
  step_taken earlier p h (item_step site section item) w = item_taken s layout valuation laid earlier p h site section w.0 item w.1

  -- what the walk of some steps returns
  record IsWalk (earlier steps : List Step) (p : Progress) (o : Outcome) : Type 0 where
    facts : (first_twice [] (addresses p.cells) or_else steps_fact s earlier steps) ≡ (first_twice [] (addresses o.0.cells) or_else o.1)
    cells : o.1 ≡ None → o.0.cells ≡ p.cells ++ address_map layout.order s.modulus (readings_after s earlier steps)
    low : ((a : ℕ) → In a (addresses p.cells) → a < s.modulus) → (a : ℕ) → In a (addresses o.0.cells) → a < s.modulus

  walk_is : (earlier steps : List Step) (p : Progress) → Agrees s layout valuation laid earlier p → ArePlain steps
      → IsWalk earlier steps p (steps_outcome steps p)
  walk_is earlier [] p h w = record { facts = refl; cells = λ none. sym (append-nil p.cells); low = λ h. h }
  walk_is earlier (step ∷ steps) p h w = by_step (step_outcome step p) (step_taken earlier p h step w.0) (λ q k. walk_is (step ∷ earlier) steps q k w.1) where
    by_step : (o : Outcome) → IsTaken s layout valuation laid earlier step p o
        → ((q : Progress) → Agrees s layout valuation laid (step ∷ earlier) q → IsWalk (step ∷ earlier) steps q (steps_outcome steps q))
        → IsWalk earlier (step ∷ steps) p (continued o.0 o.1 (λ q. steps_outcome steps q))
    by_step o taken later = by_fact o.0 o.1 taken where
      by_fact : (q : Progress) (f : Option LocateFact) → IsTaken s layout valuation laid earlier step p (q, f)
          → IsWalk earlier (step ∷ steps) p (continued q f (λ q. steps_outcome steps q))
      by_fact q None taken =
          let rest = later q (taken.agrees refl) in record {
            facts = taken.facts (steps_fact s (step ∷ earlier) steps) ∙ rest.facts;
            cells = λ none. rest.cells none ∙ ap (λ cells. cells ++ address_map layout.order s.modulus (readings_after s (step ∷ earlier) steps))
                (taken.cells refl)
                ∙ append_assoc p.cells (step_cells layout.order s.modulus (step_reading s earlier step))
                (address_map layout.order s.modulus (readings_after s (step ∷ earlier) steps));
            low = λ h. rest.low (taken.low h);
          }
      by_fact q (Some fact) taken = record {
        facts = taken.facts (steps_fact s (step ∷ earlier) steps);
        cells = λ none. absurd (let gone : ◌≡◌ {A = Option LocateFact} (Some fact) None = none in cc);
        low = taken.low;
      }

  -- ---- steps of loads

  steps_outcome-append : (xs ys : List Step) (p : Progress) → steps_outcome (xs ++ ys) p
      ≡ (let first = steps_outcome xs p in continued first.0 first.1 (λ q. steps_outcome ys q))
  steps_outcome-append [] ys p = refl
  steps_outcome-append (x ∷ xs) ys p = by_fact (step_outcome x p).0 (step_outcome x p).1 (λ q. steps_outcome-append xs ys q) where
    by_fact : (q : Progress) (f : Option LocateFact) → ((q : Progress) → steps_outcome (xs ++ ys) q
        ≡ (let first = steps_outcome xs q in continued first.0 first.1 (λ q. steps_outcome ys q)))
        → continued q f (λ q. steps_outcome (xs ++ ys) q)
        ≡ (let first = continued q f (λ q. steps_outcome xs q) in continued first.0 first.1 (λ q. steps_outcome ys q))
    by_fact q None later = later q
    by_fact q (Some fact) later = refl

  plain_steps : (steps : List Step) → ((step : Step) → StandsIn step steps → IsPlainStep s valuation step) → ArePlain steps
  plain_steps [] h = tt {0}
  plain_steps (step ∷ steps) h = (h step (0, refl), plain_steps steps (λ other there. h other (suc there.0, there.1)))

  module _ (site : Sited) (home : site.first_section ≡ 0) where
    at_home : (n : ℕ) → site.first_section + n ≡ n
    at_home n = omega (arith, home)

    items_as_steps : (section : ℕ) (items : List Item) (p : Progress) → steps_outcome (item_steps site (Some section) items) p
        ≡ items_outcome layout valuation section items p
    items_as_steps section [] p = refl
    items_as_steps section (item ∷ items) p =
        ap (λ n. let first = item_outcome layout valuation n item p in
        continued first.0 first.1 (λ q. steps_outcome (item_steps site (Some section) items) q)) (at_home section)
        ∙ by_fact (item_outcome layout valuation section item p).0 (item_outcome layout valuation section item p).1 (λ q. items_as_steps section items q) where
          by_fact : (q : Progress) (f : Option LocateFact) → ((q : Progress) → steps_outcome (item_steps site (Some section) items) q
              ≡ items_outcome layout valuation section items q)
              → continued q f (λ q. steps_outcome (item_steps site (Some section) items) q)
              ≡ continued q f (λ q. items_outcome layout valuation section items q)
          by_fact q None later = later q
          by_fact q (Some fact) later = refl

    current_as_steps : (current : Option ℕ) (items : List Item) (p : Progress) → steps_outcome (item_steps site current items) p
        ≡ current_outcome layout valuation current items p
    current_as_steps None items p = refl
    current_as_steps (Some section) items p = items_as_steps section items p

    item_steps-append : (section : ℕ) (xs ys : List Item) → item_steps site (Some section) (xs ++ ys) ≡ item_steps site (Some section) xs
        ++ item_steps site (Some section) ys
    item_steps-append section [] ys = refl
    item_steps-append section (x ∷ xs) ys = ap (λ rest. item_step site (site.first_section + section) x ∷ rest) (item_steps-append section xs ys)

    repeated_steps : (current : Option ℕ) (count : ℕ) (items : List Item) → repeated count (item_steps site current items)
        ≡ item_steps site current (repeated count items)
    repeated_steps None zero items = refl
    repeated_steps None (suc n) items = repeated_steps None n items
    repeated_steps (Some section) zero items = refl
    repeated_steps (Some section) (suc n) items =
        ap (λ rest. item_steps site (Some section) items ++ rest) (repeated_steps (Some section) n items)
        ∙ sym (item_steps-append section items (repeated n items))

    -- the outcome of a first part, and then of what follows it
    same_after : (q : Progress) (f : Option LocateFact) (one other : Progress → Outcome) → ((r : Progress) → one r ≡ other r) → continued q f one
        ≡ continued q f other
    same_after q None one other same = same q
    same_after q (Some fact) one other same = refl

    items_then : (current : Option ℕ) (items : List Item) (more : List Step) (next : Progress → Outcome) (p : Progress)
        → ((q : Progress) → steps_outcome more q ≡ next q)
        → steps_outcome (item_steps site current items ++ more) p ≡ (let first = current_outcome layout valuation current items p in continued first.0 first.1
        next)
    items_then current items more next p same =
        steps_outcome-append (item_steps site current items) more p
        ∙ ap (λ (first : Outcome). continued first.0 first.1 (λ q. steps_outcome more q)) (current_as_steps current items p)
        ∙ same_after (current_outcome layout valuation current items p).0 (current_outcome layout valuation current items p).1
        (λ q. steps_outcome more q) next same

    loads_as_steps : (current : Option ℕ) (loads : List Load) (p : Progress) → steps_outcome (steps_of site current loads) p
        ≡ loads_outcome layout valuation current loads p
    loads_as_steps current [] p = refl
    loads_as_steps current (SetSection section ∷ loads) p = loads_as_steps (Some section) loads p
    loads_as_steps current (SetPc section t ∷ loads) p =
        ap (λ n. let first = counter_outcome n (valuation (get_or p.counters n 0) t) p in
        continued first.0 first.1 (λ q. steps_outcome (steps_of site current loads) q)) (at_home section)
        ∙ same_after (counter_outcome section (valuation (get_or p.counters section 0) t) p).0
        (counter_outcome section (valuation (get_or p.counters section 0) t) p).1
        (λ q. steps_outcome (steps_of site current loads) q) (λ q. loads_outcome layout valuation current loads q) (λ q. loads_as_steps current loads q)
    loads_as_steps current (One item ∷ loads) p = items_then current (item ∷ []) (steps_of site current loads)
        (λ q. loads_outcome layout valuation current loads q) p (λ q. loads_as_steps current loads q)
    loads_as_steps current (Repeat count items ∷ loads) p =
        ap (λ steps. steps_outcome (steps ++ steps_of site current loads) p) (repeated_steps current count items)
        ∙ items_then current (repeated count items) (steps_of site current loads) (λ q. loads_outcome layout valuation current loads q) p
        (λ q. loads_as_steps current loads q)

-- ---- the whole walk

-- the counters before all loads are the residues of the bases
pub record AreFirstCounters (s : Setting) (counters : List ℕ) : Type 0 where
  pub count : length counters ≡ length s.bases
  pub residues : (n : ℕ) → n < length s.bases → get_or counters n 0 ≡ get_or s.bases n 0 % s.modulus

slice_there : (xs : List ℕ) (n : ℕ) → n < length xs → slice_get xs n ≡ Some (get_or xs n 0)
slice_there [] n less = absurd (omega (arith, less))
slice_there (x ∷ xs) zero less = refl
slice_there (x ∷ xs) (suc n) less = slice_there xs n (omega (arith, less))

pub first_agrees : (s : Setting) (layout : Layout) (valuation : ValuationAt) (laid : IsLaidOut s layout) (counters : List ℕ) → 0 < s.modulus
    → AreFirstCounters s counters
    → Agrees s layout valuation laid [] (progress_at_first counters)
first_agrees s layout valuation laid counters positive h = record {
  count = h.count;
  counters = λ n less. counter-none s n ∙ ap (option_map (λ base. base % s.modulus)) (slice_there s.bases n less) ∙ ap Some (sym (h.residues n less));
  below = λ n less. let same = h.residues n less in let low : get_or s.bases n 0 % s.modulus < s.modulus = omega (arith, positive) in omega (arith, same, low);
  members = λ a. refl;
}

pub walked : (s : Setting) (site : Sited) (layout : Layout) (valuation : ValuationAt) (loads : List Load) (counters : List ℕ)
    → AreWalked s site layout valuation loads → 0 < s.modulus → AreFirstCounters s counters
    → let o = loads_outcome layout valuation None loads (progress_at_first counters) in let steps = steps_of site None loads in
    (steps_fact s [] steps ≡ (first_twice [] (addresses o.0.cells) or_else o.1))
    × (o.1 ≡ None → o.0.cells ≡ address_map layout.order s.modulus (readings_after s [] steps))
    × ((a : ℕ) → In a (addresses o.0.cells) → a < s.modulus)
walked s site layout valuation loads counters h positive first =
    let laid = h.laid_out in
    let steps = steps_of site None loads in
    let walk = walk_is s layout valuation laid [] steps (progress_at_first counters) (first_agrees s layout valuation laid counters positive first)
    (plain_steps s layout valuation laid steps h.plain) in
    let same = loads_as_steps s layout valuation laid site h.at_first None loads (progress_at_first counters) in (
      walk.facts ∙ ap (λ (o : Outcome). first_twice [] (addresses o.0.cells) or_else o.1) same,
      λ none. sym (ap (λ (o : Outcome). o.0.cells) same) ∙ walk.cells (ap (λ (o : Outcome). o.1) same ∙ none),
      λ a there. walk.low (λ b none. absurd none) a (subst (λ (o : Outcome). In a (addresses o.0.cells)) (sym same) there),
    )
