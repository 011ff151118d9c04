-- The loads of an absolute module are within the bounds of the types of a module.
use Rattle.std.proofs.Common.{◌≡◌, ℕ, zero, suc, ◌+◌, ◌-◌, ◌/◌, ◌^◌, ◌<◌, ◌≤◌, max, List, [], ◌∷◌, length, map, take, drop, reverse, flat_map}
use Rattle.std.proofs.Common.{Option, Some, None, refl, sym, subst, inl, inr, arith, mod-lt}
use Rattle.std.specs.List.{AllByRecursion, enumerate_from}
use Rattle.std.proofs.lemmas.List.{length-drop, length-take, reverse-append}
use Rattle.mufom_numbers.specs.declared.limits.TheConstants.{MOST_STRING_BYTES}
use Rattle.mufom_numbers.specs.Spelling.{AreBytes}
use Rattle.mufom_numbers.proofs.SpellingLaws.{AreBytes-take}
use Rattle.mufom_sections.specs.declared.section.Section.{Section}
use Rattle.mufom_loads.specs.declared.load.Item.{Item}
use Rattle.mufom_loads.specs.declared.load.Item.TheVariants.{Literal, Field}
use Rattle.mufom_loads.specs.declared.load.Load.{Load}
use Rattle.mufom_loads.specs.declared.load.Load.TheVariants.{SetSection, SetPc, One, Repeat}
use Rattle.mufom_loads.specs.Lengths.{repeated}
use Rattle.mufom_debug.specs.Marks.{marks_of}
use Rattle.mufom_module.specs.declared.module.Order.{Order}
use Rattle.mufom_module.specs.declared.module.Order.TheVariants.{Least, Most}
use Rattle.mufom_module.specs.declared.module.Parts.{Parts}
use Rattle.mufom_module.specs.Made.{IsNumber}
use Rattle.mufom_plan.specs.declared.plan.Plan.{Plan}
use Rattle.mufom_meaning.specs.declared.located.LocatedParts.{LocatedParts}
use Rattle.mufom_meaning.specs.declared.located.Run.{Run}
use Rattle.mufom_meaning.specs.Absolute.{chunks_within, loads_between, loads_of_bytes, loads_of_run, run_within, section_loads, section_loads_at}
use Rattle.mufom_meaning.specs.Absolute.{with_section}
use Rattle.mufom_meaning.specs.AddressMap.{Cell, address_map, cells_from, run_cells, step_cells}
use Rattle.mufom_meaning.specs.Fields.{field_bytes, field_number, in_byte_order, number_bytes}
use Rattle.mufom_meaning.specs.Flat.{Sited, name_count, sited_from}
use Rattle.mufom_meaning.specs.Location.{IsLocation}
use Rattle.mufom_meaning.specs.Placed.{planned_bases}
use Rattle.mufom_meaning.specs.Readings.{readings}
use Rattle.mufom_meaning.specs.Staging.{AreValid}
use Rattle.mufom_meaning.specs.Steps.{Step, StepReading, counter_reading, counter_step, field_reading, item_step, item_steps, literal_reading}
use Rattle.mufom_meaning.specs.Steps.{readings_after, step_reading, steps, steps_of}
use Rattle.mufom_meaning.specs.Values.{Setting, setting}
use Rattle.mufom_meaning.proofs.Members.{Contains-In, In, In-Contains, In-flat_map, flat_map-In}
use Rattle.mufom_meaning.proofs.absolute.Cells.{section_cell, section_cells}
use Rattle.mufom_meaning.proofs.absolute.Sound.{IsSoundLocation}
use Rattle.mufom_bounds.specs.Bounded.{IsBounded, IsBoundedItem, IsBoundedLoad}
use Rattle.mufom_bounds.proofs.Bounded.{all-append}
use Rattle.mufom_bounds.proofs.BoundedLinks.{in-all}
use Rattle.mufom_bounds.proofs.LocatedSections.{in-numbered, section-fits}
use Rattle.mufom_bounds.proofs.LocatedValues.{narrow, one-number}

-- ---- steps

-- an item that is loaded is within its bounds
abbrev IsBoundedStep : Step → Type 0
IsBoundedStep (counter_step site section t) = Unit {0}
IsBoundedStep (item_step site section item) = IsBoundedItem item

item-steps : (site : Sited) (current : Option ℕ) (items : List Item) → AllByRecursion IsBoundedItem items
    → AllByRecursion IsBoundedStep (item_steps site current items)
item-steps site None items are = tt
item-steps site (Some section) [] are = tt
item-steps site (Some section) (item ∷ items) are = (are.0, item-steps site (Some section) items are.1)

repeated-all : {X : Type 0} (Is : X → Type 0) (n : ℕ) (xs : List X) → AllByRecursion Is xs → AllByRecursion Is (repeated n xs)
repeated-all Is zero xs are = tt
repeated-all Is (suc n) xs are = all-append Is xs (repeated n xs) are (repeated-all Is n xs are)

load-steps : (site : Sited) (current : Option ℕ) (loads : List Load) → AllByRecursion IsBoundedLoad loads
    → AllByRecursion IsBoundedStep (steps_of site current loads)
load-steps site current [] are = tt
load-steps site current (SetSection section ∷ loads) are = load-steps site (Some section) loads are.1
load-steps site current (SetPc section value ∷ loads) are = (tt, load-steps site current loads are.1)
load-steps site current (One item ∷ loads) are =
    all-append IsBoundedStep (item_steps site current (item ∷ [])) (steps_of site current loads)
    (item-steps site current (item ∷ []) (are.0, tt)) (load-steps site current loads are.1)
load-steps site current (Repeat count items ∷ loads) are =
    all-append IsBoundedStep (repeated count (item_steps site current items)) (steps_of site current loads)
    (repeated-all IsBoundedStep count (item_steps site current items) (item-steps site current items are.0.1)) (load-steps site current loads are.1)

all-steps : (s p d : ℕ) (ms : List Parts) → AllByRecursion IsBounded ms
    → AllByRecursion IsBoundedStep (flat_map (λ site. steps_of site None site.parts.loads) (sited_from s p d ms))
all-steps s p d [] are = tt
all-steps s p d (m ∷ ms) are =
    let site : Sited = record { parts = m; first_section = s; first_public = p; first_name = d } in
    let first = are.0 in
    let after = sited_from (s + length m.sections) (p + length m.names.publics) (d + name_count (marks_of m.debug)) ms in
    all-append IsBoundedStep (steps_of site None m.loads) (flat_map (λ (next : Sited). steps_of next None next.parts.loads) after)
    (load-steps site None m.loads first.loads)
    (all-steps (s + length m.sections) (p + length m.names.publics) (d + name_count (marks_of m.debug)) ms are.1)

-- ---- the bytes that are loaded

-- a literal consists of bytes
abbrev HasBytes : StepReading → Type 0
HasBytes (counter_reading section v) = Unit {0}
HasBytes (literal_reading section at bytes) = AreBytes bytes
HasBytes (field_reading section at kind size v) = Unit {0}

step-bytes : (s : Setting) (earlier : List Step) (step : Step) → IsBoundedStep step → HasBytes (step_reading s earlier step)
step-bytes s earlier (counter_step site section t) is = tt
step-bytes s earlier (item_step site section (Literal bytes)) is = is
step-bytes s earlier (item_step site section (Field kind size t)) is = tt

readings-bytes : (s : Setting) (earlier more : List Step) → AllByRecursion IsBoundedStep more → AllByRecursion HasBytes (readings_after s earlier more)
readings-bytes s earlier [] are = tt
readings-bytes s earlier (step ∷ more) are = (step-bytes s earlier step are.0, readings-bytes s (step ∷ earlier) more are.1)

-- the byte of a cell is one
abbrev pub IsByteCell : Cell → Type 0
IsByteCell cell = cell.1 < 256

cells-bytes : (a : ℕ) (bytes : List ℕ) → AreBytes bytes → AllByRecursion IsByteCell (cells_from a bytes)
cells-bytes a [] are = tt
cells-bytes a (b ∷ bytes) are = (are.0, cells-bytes (suc a) bytes are.1)

number-bytes : (size v : ℕ) → AreBytes (number_bytes size v)
number-bytes zero v = tt
number-bytes (suc size) v = (mod-lt v {m = 256} (omega arith), number-bytes size (v / 256))

reversed-bytes : (bytes : List ℕ) → AreBytes bytes → AreBytes (reverse bytes)
reversed-bytes [] are = tt
reversed-bytes (b ∷ bytes) are =
    subst AreBytes (sym (reverse-append (b ∷ []) bytes)) (all-append (λ c. c < 256) (reverse bytes) (b ∷ []) (reversed-bytes bytes are.1) (are.0, tt))

ordered-bytes : (order : Order) (bytes : List ℕ) → AreBytes bytes → AreBytes (in_byte_order order bytes)
ordered-bytes Least bytes are = are
ordered-bytes Most bytes are = reversed-bytes bytes are

step-cells : (order : Order) (modulus : ℕ) (x : StepReading) → HasBytes x → AllByRecursion IsByteCell (step_cells order modulus x)
step-cells order modulus (counter_reading section v) is = tt
step-cells order modulus (literal_reading section None bytes) is = tt
step-cells order modulus (literal_reading section (Some at) bytes) is = cells-bytes at bytes is
step-cells order modulus (field_reading section None kind size v) is = tt
step-cells order modulus (field_reading section (Some at) kind size None) is = tt
step-cells order modulus (field_reading section (Some at) kind size (Some v)) is =
    cells-bytes at (field_bytes order modulus kind size v)
    (ordered-bytes order (number_bytes size (field_number modulus kind size v)) (number-bytes size (field_number modulus kind size v)))

module _ (ms : List Parts) (are : AllByRecursion IsBounded ms) (s : Setting) where
  -- a cell of a step of the list
  pub step-byte : (order : Order) (x : StepReading) → In x (readings_after s [] (steps ms)) → (cell : Cell) → In cell (step_cells order s.modulus x)
      → IsByteCell cell
  step-byte order x k cell there =
      let all = readings-bytes s [] (steps ms) (all-steps 0 0 0 ms are) in
      let has = in-all HasBytes (readings_after s [] (steps ms)) all x k in
      in-all IsByteCell (step_cells order s.modulus x) (step-cells order s.modulus x has) cell there

-- the bytes of a location without copies
pub plain-bytes : (ms : List Parts) (plan : Plan) → AllByRecursion IsBounded ms → (r : LocatedParts) → IsLocation ms plan r → (cell : Cell)
    → In cell (run_cells r.runs) → IsByteCell cell
unfolding readings
plain-bytes ms plan are r h cell k =
    let s = setting ms (planned_bases ms plan) in
    let mapped = Contains-In cell (address_map r.order s.modulus (readings_after s [] (steps ms)))
    ((h.rows.same cell).1 (In-Contains cell (run_cells r.runs) k)) in
    let there = flat_map-In (step_cells r.order s.modulus) cell (readings_after s [] (steps ms)) mapped in
    step-byte ms are s r.order there.0 there.1 cell there.2

-- ---- runs

bytes-of-cells : (a : ℕ) (bytes : List ℕ) → ((cell : Cell) → In cell (cells_from a bytes) → IsByteCell cell) → AreBytes bytes
bytes-of-cells a [] each = tt
bytes-of-cells a (b ∷ bytes) each = (each (a, b) (inl refl), bytes-of-cells (suc a) bytes (λ cell there. each cell (inr there)))

-- a run with bytes ends within a limit, if its cells are below it
run-ends : (limit a : ℕ) (bytes : List ℕ) → ((cell : Cell) → In cell (cells_from a bytes) → cell.0 < limit) → 0 < length bytes → a + length bytes ≤ limit
run-ends limit a [] each some = absurd (omega (arith, some))
run-ends limit a (b ∷ []) each some = let below = each (a, b) (inl refl) in omega (arith, below)
run-ends limit a (b ∷ c ∷ bytes) each some =
    let later = run-ends limit (suc a) (c ∷ bytes) (λ cell there. each cell (inr there)) (omega arith) in omega (arith, later)

-- the bytes of the run, and its end, are within their bounds
record IsBoundedRun (run : Run) : Type 0 where
  bytes : AreBytes run.bytes
  ends : 0 < length run.bytes → run.address + length run.bytes ≤ 2 ^ 64

module _ (m : Parts) (more : List Parts) (plan : Plan) (v : AreValid (m ∷ more)) (are : AllByRecursion IsBounded (m ∷ more)) (r : LocatedParts)
    (h : IsSoundLocation (m ∷ more) plan r) (each-byte : (cell : Cell) → In cell (run_cells r.runs) → IsByteCell cell) where
  cell-below : (cell : Cell) → In cell (run_cells r.runs) → cell.0 < 2 ^ 64
  cell-below cell k =
      let there = flat_map-In (section_cells r.runs) cell (enumerate_from 0 r.sections) (h.inside cell k) in
      let lies = (section_cell r.runs there.0 cell there.2).1 in
      let ends = (section-fits m more plan v are r h there.0.1 (in-numbered 0 r.sections there.0 there.1) lies.0 lies.1).ends in
      let most = narrow m more plan v are in
      omega (arith, ends, most, lies.3)

  run-bounded : (run : Run) → In run r.runs → IsBoundedRun run
  run-bounded run k =
      let cell-in : (cell : Cell) → In cell (cells_from run.address run.bytes) → In cell (run_cells r.runs)
      = λ cell there. In-flat_map (λ (row : Run). cells_from row.address row.bytes) run cell r.runs k there in
      record {
        bytes = bytes-of-cells run.address run.bytes (λ cell there. each-byte cell (cell-in cell there));
        ends = run-ends (2 ^ 64) run.address run.bytes (λ cell there. cell-below cell (cell-in cell there));
      }

-- ---- the loads of a run

bytes-drop : (n : ℕ) (bytes : List ℕ) → AreBytes bytes → AreBytes (drop n bytes)
bytes-drop zero bytes are = are
bytes-drop (suc n) [] are = tt
bytes-drop (suc n) (b ∷ bytes) are = bytes-drop n bytes are.1

chunk-loads : (n size : ℕ) (bytes : List ℕ) → AreBytes bytes → AllByRecursion IsBoundedLoad (map (λ chunk. One (Literal chunk)) (chunks_within n size bytes))
chunk-loads zero size bytes are = tt
chunk-loads (suc n) size [] are = tt
chunk-loads (suc n) size (b ∷ bytes) are =
    (AreBytes-take size (b ∷ bytes) are, chunk-loads n size (drop size (b ∷ bytes)) (bytes-drop size (b ∷ bytes) are))

run-loads : (section : ℕ) (row : Run) → IsNumber row.address → AreBytes row.bytes → AllByRecursion IsBoundedLoad (loads_of_run section row)
run-loads section row low are = (one-number row.address low, chunk-loads (length row.bytes) MOST_STRING_BYTES row.bytes are)

part-loads : (section from to : ℕ) (run : Run) → IsBoundedRun run
    → AllByRecursion IsBoundedLoad (loads_of_bytes section (run_within from to run) (run_within from to run).bytes)
part-loads section from to run is = by (run_within from to run).bytes refl where
  few : length (run_within from to run).bytes ≡ length (take (to - run.address) run.bytes) - (from - run.address)
  few = length-drop (from - run.address) (take (to - run.address) run.bytes)

  row-low : 0 < length (run_within from to run).bytes → IsNumber (max from run.address)
  row-low some =
      let whole = length-take (to - run.address) run.bytes in
      let own = few in
      let left : from - run.address < length run.bytes = omega (arith, some, own, whole) in
      let ends = is.ends (omega (arith, left)) in
      omega (arith, left, ends)

  by : (bytes : List ℕ) → (run_within from to run).bytes ≡ bytes → AllByRecursion IsBoundedLoad (loads_of_bytes section (run_within from to run) bytes)
  by [] same = tt
  by (b ∷ bytes) same =
      let some : 0 < length (run_within from to run).bytes = subst (λ (l : List ℕ). 0 < length l) (sym same) (omega arith) in
      run-loads section (run_within from to run) (row-low some)
      (bytes-drop (from - run.address) (take (to - run.address) run.bytes) (AreBytes-take (to - run.address) run.bytes is.bytes))

-- ---- all loads

all-flat : {A B : Type 0} (Is : B → Type 0) (f : A → List B) (xs : List A) → ((x : A) → In x xs → AllByRecursion Is (f x)) → AllByRecursion Is (flat_map f xs)
all-flat Is f [] each = tt
all-flat Is f (x ∷ xs) each = all-append Is (f x) (flat_map f xs) (each x (inl refl)) (all-flat Is f xs (λ y there. each y (inr there)))

begun-loads : (section : ℕ) (loads : List Load) → AllByRecursion IsBoundedLoad loads → AllByRecursion IsBoundedLoad (with_section section loads)
begun-loads section [] are = tt
begun-loads section (load ∷ loads) are = (tt, are)

module _ (runs : List Run) (each : (run : Run) → In run runs → IsBoundedRun run) where
  loads-at : (n : ℕ) (section : Section) (base : Option ℕ) → AllByRecursion IsBoundedLoad (section_loads_at n runs section base)
  loads-at n section None = tt
  loads-at n section (Some base) =
      begun-loads n (loads_between n runs base (base + section.size))
      (all-flat IsBoundedLoad (λ run. let row = run_within base (base + section.size) run in loads_of_bytes n row row.bytes) runs
      (λ run k. part-loads n base (base + section.size) run (each run k)))

  loads-bounded : (sections : List (ℕ × Section)) → AllByRecursion IsBoundedLoad (flat_map (section_loads runs) sections)
  loads-bounded sections = all-flat IsBoundedLoad (section_loads runs) sections (λ s k. loads-at s.0 s.1 s.1.base)

pub located-loads : (m : Parts) (more : List Parts) (plan : Plan) → AreValid (m ∷ more) → AllByRecursion IsBounded (m ∷ more) → (r : LocatedParts)
    → IsSoundLocation (m ∷ more) plan r → ((cell : Cell) → In cell (run_cells r.runs) → IsByteCell cell)
    → AllByRecursion IsBoundedLoad (flat_map (section_loads r.runs) (enumerate_from 0 r.sections))
located-loads m more plan v are r h bytes = loads-bounded r.runs (run-bounded m more plan v are r h bytes) (enumerate_from 0 r.sections)
