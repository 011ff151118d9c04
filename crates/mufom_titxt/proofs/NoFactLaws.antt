-- No fact keeps the module of runs from being located by a plan without regions.
use Rattle.std.proofs.Common.{◌≡◌, ◌≢◌, ℕ, zero, suc, ◌+◌, ◌*◌, ◌^◌, ◌<◌, ◌≤◌, ◌⊎◌, inl, inr, List, [], ◌∷◌, ◌++◌, length, map, Option, Some, None}
use Rattle.std.proofs.Common.{refl, sym, ◌∙◌, ap, subst, arith, append-nil, zero-add, take, drop, length-drop, length-append}
use Rattle.std.specs.Prelude.{slice_get, sum_by}
use Rattle.std.proofs.lemmas.Bool.{cases_lt}
use Rattle.std.proofs.lemmas.List.{take-append-drop}
use Rattle.std.proofs.lemmas.List.Elements.{All-contains}
use Rattle.std.proofs.lemmas.List.Sums.{sum_by-cons}
use Rattle.mufom_numbers.specs.declared.limits.TheConstants.{MOST_IMAGE_BYTES, MOST_STRING_BYTES as longest}
use Rattle.mufom_sections.specs.declared.section.Section.{Section}
use Rattle.mufom_loads.specs.declared.load.Item.TheVariants.{Literal}
use Rattle.mufom_loads.specs.declared.load.Load.{Load}
use Rattle.mufom_loads.specs.declared.load.Load.TheVariants.{SetSection, One}
use Rattle.mufom_loads.specs.Lengths.{length_loaded}
use Rattle.mufom_module.specs.declared.module.Order.TheVariants.{Most}
use Rattle.mufom_module.specs.declared.module.Parts.{Parts}
use Rattle.mufom_place.specs.declared.refusal.PlaceRefusal.{PlaceRefusal}
use Rattle.mufom_place.specs.declared.refusal.PlaceRefusal.TheVariants.{Unplaced, Misfit, Overlap, NoMemory}
use Rattle.mufom_place.specs.declared.placing.AssignedBase.{AssignedBase}
use Rattle.mufom_place.specs.Facts.{Covers, IsAt, IsMisfit, IsUnplaced, IsOverlap, EndsPast, Stands}
use Rattle.mufom_place.specs.Bases.{site_of}
use Rattle.mufom_meaning.specs.declared.located.Run.{Run}
use Rattle.mufom_meaning.specs.declared.located.LocatedParts.{LocatedParts}
use Rattle.mufom_meaning.specs.declared.located.Site.{Site}
use Rattle.mufom_meaning.specs.declared.located.Site.TheVariants as sites
use Rattle.mufom_meaning.specs.Absolute.{no_regions}
use Rattle.mufom_meaning.specs.AddressMap.{Cell, run_cells, AreApart}
use Rattle.mufom_meaning.specs.Counts.{loaded_total}
use Rattle.mufom_meaning.specs.Facts.{LocateFact, placement, undefined, common_unplaced, cycle, image_limit, zero_divisor, load_outside, loaded_twice, overflow}
use Rattle.mufom_meaning.specs.Flat.{Sited, flat_sections, width}
use Rattle.mufom_meaning.specs.LinkAnswer.{link_answer}
use Rattle.mufom_meaning.specs.LocateAnswer.{locate_answer}
use Rattle.mufom_meaning.specs.Location.{IsLocation}
use Rattle.mufom_meaning.specs.Placed.{planned_bases}
use Rattle.mufom_meaning.specs.Stands.{StandsBeforeWalk, StandsInWalk, LocateFactStands, HasZeroDivisor}
use Rattle.mufom_meaning.specs.Steps.{steps}
use Rattle.mufom_meaning.specs.Values.{Setting, setting}
use Rattle.mufom_numbers.proofs.Choices.{some_same}
use Rattle.mufom_meaning.specs.Staging.{AreValid}
use Rattle.mufom_meaning.proofs.Members.{In, In-map, In-Contains}
use Rattle.mufom_meaning.proofs.locations.CellRuns.{HaveOwnAddresses}
use Rattle.mufom_meaning.proofs.locations.Exists.{locations_exist}
use Rattle.mufom_meaning.proofs.facts.AllAnswers.{answers_are_facts}
use Rattle.mufom_meaning.proofs.absolute.Cells.{apart_own}
use Rattle.mufom_meaning.proofs.absolute.Facts.{IsClear, no_counter_divisor, no_field_divisor, no_overflow, none_outside, none_twice}
use Rattle.mufom_titxt.specs.TextModules.{run_section, literals, loads_from, text_parts, EndBelow, HaveModule}
use Rattle.mufom_image_bytes.specs.Chunks.{cell_addresses}
use Rattle.mufom_titxt.proofs.BackLaws.{runs_low}
use Rattle.mufom_titxt.proofs.ModuleValid.{text_is_valid}
use Rattle.mufom_titxt.proofs.LocatedLaws.{text_walk, located_runs}

-- ---- runs by their positions

-- a section of the module is that of a run
record IsRunAt (runs : List Run) (n : ℕ) (section : Section) : Type 0 where
  run : Run
  found : slice_get runs n ≡ Some run
  same : section ≡ run_section run

run_at : (runs : List Run) (n : ℕ) (section : Section) → slice_get (map run_section runs ++ []) n ≡ Some section → IsRunAt runs n section
run_at [] n section e = absurd (cc e)
run_at (run ∷ runs) zero section e = record { run = run; found = refl; same = sym (some_same (run_section run) section e) }
run_at (run ∷ runs) (suc n) section e =
    let r = run_at runs n section e in record { run = r.run; found = r.found; same = r.same }

ends_at : (wide : ℕ) (runs : List Run) (n : ℕ) (run : Run) → EndBelow wide runs → slice_get runs n ≡ Some run → run.address + length run.bytes ≤ 2 ^ wide
ends_at wide [] n run below e = absurd (cc e)
ends_at wide (first ∷ runs) zero run below e =
    subst (λ (r : Run). r.address + length r.bytes ≤ 2 ^ wide) (some_same first run e) below.0
ends_at wide (first ∷ runs) (suc n) run below e = ends_at wide runs n run below.1 e

begins_at : (from : ℕ) (runs : List Run) (n : ℕ) (run : Run) → AreApart from runs → slice_get runs n ≡ Some run → (from ≤ run.address) × (0 < length run.bytes)
begins_at from [] n run apart e = absurd (cc e)
begins_at from (first ∷ runs) zero run apart e =
    subst (λ (r : Run). (from ≤ r.address) × (0 < length r.bytes)) (some_same first run e) (apart.0, apart.1)
begins_at from (first ∷ runs) (suc n) run apart e =
    let later = begins_at (first.address + length first.bytes + 1) runs n run apart.2 e in
    (omega (arith, later.0, apart.0), later.1)

-- a run ends before a later one begins
apart_at : (from : ℕ) (runs : List Run) (m n : ℕ) (p q : Run) → AreApart from runs → slice_get runs m ≡ Some p → slice_get runs n ≡ Some q → m < n
    → p.address + length p.bytes < q.address
apart_at from [] m n p q apart e f less = absurd (cc e)
apart_at from (run ∷ runs) zero zero p q apart e f less = absurd (omega (arith, less))
apart_at from (run ∷ runs) (suc m) zero p q apart e f less = absurd (omega (arith, less))
apart_at from (run ∷ runs) zero (suc n) p q apart e f less =
    let later = (begins_at (run.address + length run.bytes + 1) runs n q apart.2 f).0 in
    let below : run.address + length run.bytes < q.address = omega (arith, later) in
    subst (λ (r : Run). r.address + length r.bytes < q.address) (some_same run p e) below
apart_at from (run ∷ runs) (suc m) (suc n) p q apart e f less =
    apart_at (run.address + length run.bytes + 1) runs m n p q apart.2 e f (omega (arith, less))

-- ---- how much is loaded

literals_loaded : (most : ℕ) (bytes : List ℕ) (loads : List Load) → length bytes ≤ most
    → sum_by length_loaded (literals most bytes ++ loads) ≡ length bytes + sum_by length_loaded loads
literals_loaded zero [] loads few = sym (zero-add (sum_by length_loaded loads))
literals_loaded (suc most) [] loads few = sym (zero-add (sum_by length_loaded loads))
literals_loaded zero (b ∷ bytes) loads few = absurd (omega (arith, few))
literals_loaded (suc most) (b ∷ bytes) loads few =
    sum_by-cons length_loaded (One (Literal (take longest (b ∷ bytes)))) (literals most (drop longest (b ∷ bytes)) ++ loads)
    ∙ (ap (λ n. length (take longest (b ∷ bytes)) + n) (literals_loaded most (drop longest (b ∷ bytes)) loads (left b bytes most few))
    ∙ both (take longest (b ∷ bytes)) (drop longest (b ∷ bytes)) (b ∷ bytes) (sum_by length_loaded loads) (take-append-drop longest (b ∷ bytes))) where
      left : (b : ℕ) (bytes : List ℕ) (most : ℕ) → suc (length bytes) ≤ suc most → length (drop longest (b ∷ bytes)) ≤ most
      left b bytes most few = let rest = length-drop 65534 bytes in omega (arith, few, rest)

      both : (p q whole : List ℕ) (n : ℕ) → p ++ q ≡ whole → length p + (length q + n) ≡ length whole + n
      both p q whole n e = let sum : length p + length q ≡ length whole = sym (length-append p q) ∙ ap length e in omega (arith, sum)

runs_loaded : (n : ℕ) (runs : List Run) → sum_by length_loaded (loads_from n runs) ≡ sum_by (λ (run : Run). length run.bytes) runs
runs_loaded n [] = refl
runs_loaded n (run ∷ runs) =
    sum_by-cons length_loaded (SetSection n) (literals (length run.bytes) run.bytes ++ loads_from (n + 1) runs)
    ∙ (zero-add (sum_by length_loaded (literals (length run.bytes) run.bytes ++ loads_from (n + 1) runs))
    ∙ (literals_loaded (length run.bytes) run.bytes (loads_from (n + 1) runs) (omega arith)
    ∙ (ap (λ k. length run.bytes + k) (runs_loaded (n + 1) runs) ∙ sym (sum_by-cons (λ (run : Run). length run.bytes) run runs))))

-- ---- no fact holds

module _ (maus : ℕ) (runs : List Run) (h : HaveModule (8 * maus) runs) where
  abbrev ms : List Parts
  ms = text_parts maus runs ∷ []

  abbrev s : Setting
  s = setting ms (planned_bases ms no_regions)

  abbrev home : Sited
  home = record { parts = text_parts maus runs; first_section = 0; first_public = 0; first_name = 0 }

  links : link_answer ms ≡ None
  links = refl

  cell_below : (cell : Cell) → In cell (run_cells runs) → cell.0 < s.modulus
  cell_below cell k =
      All-contains (λ (a : ℕ). a < 2 ^ (8 * maus)) (cell_addresses (run_cells runs)) cell.0 (runs_low (8 * maus) runs h.below)
      (In-Contains cell.0 (cell_addresses (run_cells runs)) (In-map (λ (c : Cell). c.0) cell (run_cells runs) k))

  clear : IsClear Most s [] (steps ms)
  clear =
      let walk = text_walk maus runs Most h in record {
        plain = walk.0;
        own = subst HaveOwnAddresses (sym walk.1) (apart_own runs h.apart);
        inside = λ cell k. cell_below cell (subst (In cell) walk.1 k);
        free = λ cell k l. l;
      }

  -- a section is at its address
  not_unplaced : (n : ℕ) → ¬ IsUnplaced no_regions (flat_sections ms) n
  not_unplaced n f =
      let r = run_at runs n f.section f.found in
      let none : Some r.run.address ≡ None = sym (ap (λ (section : Section). section.base) r.same) ∙ f.without in cc

  -- a section or common is that of a run, at its address
  record IsPlaced (n : ℕ) (section : Section) (site : AssignedBase) : Type 0 where
    run : Run
    found : slice_get runs n ≡ Some run
    size : section.size ≡ length run.bytes
    base : site.base ≡ run.address
    free : site.region ≡ None

  placed : (n : ℕ) (section : Section) (site : AssignedBase) → IsAt no_regions (flat_sections ms) [] n section site → IsPlaced n section site
  placed n section site at =
      let found : slice_get (map run_section runs ++ []) n ≡ Some section =
      ap (λ (all : List Section). slice_get all n) (sym (append-nil (map run_section runs ++ []))) ∙ at.found in
      let r = run_at runs n section found in
      let there : site ≡ site_of no_regions (flat_sections ms) [] (n, run_section r.run)
      = at.placed ∙ ap (λ (x : Section). site_of no_regions (flat_sections ms) [] (n, x)) r.same in
      record {
        run = r.run;
        found = r.found;
        size = ap (λ (x : Section). x.size) r.same;
        base = ap (λ (x : AssignedBase). x.base) there;
        free = ap (λ (x : AssignedBase). x.region) there;
      }

  not_misfit : (n : ℕ) (region : Option ℕ) → ¬ IsMisfit (2 ^ width ms) no_regions (flat_sections ms) [] n region
  not_misfit n region f = by_out (placed n f.section f.site f.at) f.out where
    by_out : IsPlaced n f.section f.site → (2 ^ width ms ≤ f.site.base)
        ⊎ ((2 ^ width ms < f.site.base + f.section.size) ⊎ ((r : ℕ) × (region ≡ Some r) × EndsPast no_regions.regions r (f.site.base + f.section.size))) → ⊥
    by_out p (inl out) =
        let end = ends_at (8 * maus) runs n p.run h.below p.found in
        let some = (begins_at 0 runs n p.run h.apart p.found).1 in
        let base = p.base in omega (arith, end, some, base, out)
    by_out p (inr (inl out)) =
        let end = ends_at (8 * maus) runs n p.run h.below p.found in
        let base = p.base in
        let size = p.size in omega (arith, end, base, size, out)
    by_out p (inr (inr out)) = let clash : None ≡ Some out.0 = sym (f.in_region ∙ p.free) ∙ out.1 in cc

  -- a run that is covered by two sections is one
  not_both : (m n address : ℕ) → m < n → Covers no_regions (flat_sections ms) [] m address → Covers no_regions (flat_sections ms) [] n address → ⊥
  not_both m n address less f g =
      let p = placed m f.section f.site f.at in
      let q = placed n g.section g.site g.at in
      let apart = apart_at 0 runs m n p.run q.run h.apart p.found q.found less in
      let base = p.base in
      let size = p.size in
      let later = q.base in
      let below = f.below in
      let above = g.above in omega (arith, apart, base, size, later, below, above)

  not_overlap : (m n : ℕ) → ¬ IsOverlap no_regions (flat_sections ms) [] m n
  not_overlap m n f = by_order (cases_lt m n) where
    by_order : (m < n) ⊎ (n ≤ m) → ⊥
    by_order (inl less) = not_both m n f.address less f.first f.second
    by_order (inr most) =
        let differ = f.differ in
        let less : n < m = omega (arith, most, differ) in not_both n m f.address less f.second f.first

  not_refused : (refusal : PlaceRefusal) → ¬ Stands (width ms) no_regions (flat_sections ms) [] refusal
  not_refused (Unplaced n) f = not_unplaced n f
  not_refused (Misfit n region) f = not_misfit n region f.1
  not_refused (Overlap m n) f = not_overlap m n f.2
  not_refused NoMemory f = f

  few_bytes : loaded_total ms ≤ MOST_IMAGE_BYTES
  few_bytes =
      let total : loaded_total ms ≡ sum_by (λ (run : Run). length run.bytes) runs = zero-add _ ∙ runs_loaded 0 runs in
      let short = h.short in omega (arith, total, short)

  not_before : (fact : LocateFact) → ¬ StandsBeforeWalk ms no_regions s fact
  not_before (placement refusal) f = not_refused refusal f
  not_before (undefined name) f = let e = f.0.1 in cc
  not_before (common_unplaced name) f = let e = f.1.1.1 in cc
  not_before (cycle name) f = let e = f.1 in cc
  not_before (image_limit count) f = let few = few_bytes in omega (arith, few, f.0, f.1)
  not_before (zero_divisor place) f = f
  not_before (load_outside section address) f = f
  not_before (loaded_twice address) f = f
  not_before (overflow section at kind size n) f = f

  no_zero_divisor : (place : Site) → ¬ HasZeroDivisor ms s place
  no_zero_divisor (sites.Public name) f = let e = f.1.1 in cc
  no_zero_divisor (sites.Counter section) f = no_counter_divisor Most s ms clear section f
  no_zero_divisor (sites.Field section at) f = no_field_divisor Most s ms clear section at f
  no_zero_divisor sites.Start f = let e = f.1.1 in cc
  no_zero_divisor (sites.Debug n) f = let e = f.1 in cc

  not_in_walk : (fact : LocateFact) → ¬ StandsInWalk ms s fact
  not_in_walk (zero_divisor place) f = no_zero_divisor place f
  not_in_walk (load_outside section address) f = none_outside Most s ms clear section address f
  not_in_walk (loaded_twice address) f = none_twice Most s ms clear address f
  not_in_walk (overflow section at kind size n) f = no_overflow Most s ms clear section at kind size n f
  not_in_walk (placement refusal) f = f
  not_in_walk (undefined name) f = f
  not_in_walk (common_unplaced name) f = f
  not_in_walk (cycle name) f = f
  not_in_walk (image_limit count) f = f

  locates : locate_answer ms no_regions ≡ None
  locates = by_answer (locate_answer ms no_regions) refl where
    not_stands : (fact : LocateFact) → ¬ LocateFactStands ms no_regions fact
    not_stands fact (inl f) = not_before fact f
    not_stands fact (inr f) = not_in_walk fact f.2

    by_answer : (o : Option LocateFact) → locate_answer ms no_regions ≡ o → o ≡ None
    by_answer None e = refl
    by_answer (Some fact) e = absurd (not_stands fact ((answers_are_facts ms no_regions).locate_sound links fact e))

  -- the module has a location, and that has the runs
  pub text_located : 1 ≤ maus → maus ≤ 8 → (r : LocatedParts) × IsLocation ms no_regions r × (r.runs ≡ runs)
  text_located low high =
      let some : ms ≢ [] = λ e. cc e in
      let valid : AreValid ms = (text_is_valid maus runs low high h.few h.short, tt) in
      let there = locations_exist ms no_regions some valid links locates in
      (there.0, there.1, located_runs maus runs there.0 h there.1)
