-- The module of a location loads as many bytes as there are cells in it, and no more than the list loads.
use Rattle.std.proofs.Common.{◌≡◌, ◌≢◌, ℕ, suc, ◌+◌, ◌≤◌, inl, inr, List, [], ◌∷◌, map, length, Option, Some, None, refl, sym, ◌∙◌, ap, arith}
use Rattle.std.proofs.Common.{length-append, zero-add}
use Rattle.std.specs.Prelude.{flat_map}
use Rattle.std.proofs.lemmas.List.Sums.{sum_by-append, sum_by-cons}
use Rattle.mufom_numbers.specs.declared.limits.TheConstants.{MOST_STRING_BYTES}
use Rattle.mufom_expr.specs.Tree.{number}
use Rattle.mufom_sections.specs.declared.section.Section.{Section}
use Rattle.mufom_loads.specs.declared.load.Item.{Item}
use Rattle.mufom_loads.specs.declared.load.Item.TheVariants.{Literal, Field}
use Rattle.mufom_loads.specs.declared.load.Load.{Load}
use Rattle.mufom_loads.specs.declared.load.Load.TheVariants.{SetSection, SetPc, One}
use Rattle.mufom_loads.specs.Lengths.{byte_count, length_loaded, lengths_loaded}
use Rattle.mufom_module.specs.declared.module.Order.{Order}
use Rattle.mufom_meaning.specs.declared.located.Run.{Run}
use Rattle.mufom_meaning.specs.Flat.{Sited}
use Rattle.mufom_meaning.specs.Values.{Setting, value}
use Rattle.mufom_meaning.specs.Counts.{step_length, lengths_of_steps}
use Rattle.mufom_meaning.specs.Fields.{number_bytes, field_number, field_bytes}
use Rattle.mufom_meaning.specs.Steps.{Step, counter_step, item_step, counter, item_reading, readings_after}
use Rattle.mufom_meaning.specs.AddressMap.{Cell, cells_from, field_cells, step_cells, address_map}
use Rattle.mufom_meaning.specs.Absolute.{chunks, run_within, loads_of_run, loads_of_bytes, loads_between, with_section, section_loads_at}
use Rattle.mufom_meaning.specs.Absolute.{section_loads}
use Rattle.mufom_meaning.proofs.Members.{In}
use Rattle.mufom_meaning.proofs.locations.CellRuns.{HaveOwnAddresses}
use Rattle.mufom_meaning.proofs.locations.OwnAddresses.{length-number_bytes, length-in_byte_order}
use Rattle.mufom_meaning.proofs.absolute.Cells.{cells_within, cells_at, section_cells, absolute_cells}
use Rattle.mufom_meaning.proofs.absolute.Walk.{together, chunks_together}

pub length-cells_from : (a : ℕ) (bytes : List ℕ) → length (cells_from a bytes) ≡ length bytes
length-cells_from a [] = refl
length-cells_from a (byte ∷ bytes) = ap suc (length-cells_from (suc a) bytes)

-- ---- of the module of a location

literals_length : (ps : List (List ℕ)) → lengths_loaded (map (λ p. One (Literal p)) ps) ≡ length (together ps)
literals_length [] = refl
literals_length (p ∷ ps) =
    sum_by-cons length_loaded (One (Literal p)) (map (λ p. One (Literal p)) ps) ∙ ap (λ n. length p + n) (literals_length ps)
    ∙ sym (length-append p (together ps))

row_length : (n : ℕ) (row : Run) → lengths_loaded (loads_of_run n row) ≡ length row.bytes
row_length n row =
    sum_by-cons length_loaded (SetPc n (number row.address)) (map (λ p. One (Literal p)) (chunks MOST_STRING_BYTES row.bytes))
    ∙ (let none = literals_length (chunks MOST_STRING_BYTES row.bytes) in let all =
    ap length (chunks_together 65534 (length row.bytes) row.bytes (omega arith)) in omega (arith, none, all))

run_length : (n : ℕ) (row : Run) → lengths_loaded (loads_of_bytes n row row.bytes) ≡ length row.bytes
run_length n row = by_bytes row.bytes refl where
  by_bytes : (bytes : List ℕ) → row.bytes ≡ bytes → lengths_loaded (loads_of_bytes n row bytes) ≡ length bytes
  by_bytes [] e = refl
  by_bytes (byte ∷ bytes) e = row_length n row ∙ ap length e

runs_length : (n from to : ℕ) (runs : List Run) → lengths_loaded (loads_between n runs from to) ≡ length (cells_within from to runs)
runs_length n from to [] = refl
runs_length n from to (run ∷ runs) =
    let row = run_within from to run in
    let own = run_length n row ∙ sym (length-cells_from row.address row.bytes) in
    let later = runs_length n from to runs in
    sum_by-append length_loaded (loads_of_bytes n row row.bytes) (loads_between n runs from to) ∙ (λ i. own i + later i)
    ∙ sym (length-append (cells_from row.address row.bytes) (cells_within from to runs))

with_length : (n : ℕ) (loads : List Load) → lengths_loaded (with_section n loads) ≡ lengths_loaded loads
with_length n [] = refl
with_length n (load ∷ loads) = sum_by-cons length_loaded (SetSection n) (load ∷ loads) ∙ zero-add (lengths_loaded (load ∷ loads))

section_length : (runs : List Run) (t : ℕ × Section) → lengths_loaded (section_loads runs t) ≡ length (section_cells runs t)
section_length runs t = by_base t.1.base where
  by_base : (o : Option ℕ) → lengths_loaded (section_loads_at t.0 runs t.1 o) ≡ length (cells_at runs t.1.size o)
  by_base None = refl
  by_base (Some base) = with_length t.0 (loads_between t.0 runs base (base + t.1.size)) ∙ runs_length t.0 base (base + t.1.size) runs

-- as many bytes as cells
pub absolute_length : (runs : List Run) (sections : List (ℕ × Section)) → lengths_loaded (flat_map (section_loads runs) sections)
    ≡ length (absolute_cells runs sections)
absolute_length runs [] = refl
absolute_length runs (t ∷ sections) =
    let own = section_length runs t in let later = absolute_length runs sections in
    sum_by-append length_loaded (section_loads runs t) (flat_map (section_loads runs) sections) ∙ (λ i. own i + later i)
    ∙ sym (length-append (section_cells runs t) (absolute_cells runs sections))

-- ---- of any list

module _ (order : Order) (s : Setting) where
  item_cells_count : (site : Sited) (section : ℕ) (o : Option ℕ) (item : Item)
      → length (step_cells order s.modulus (item_reading s site section o item)) ≤ byte_count item
  item_cells_count site section None (Literal bytes) = omega arith
  item_cells_count site section (Some at) (Literal bytes) = let long = length-cells_from at bytes in omega (arith, long)
  item_cells_count site section None (Field kind size t) = omega arith
  item_cells_count site section (Some at) (Field kind size t) = by_value (value s site (Some at) t) where
    by_value : (v : Option ℕ) → length (field_cells order s.modulus (Some at) kind size v) ≤ size
    by_value None = omega arith
    by_value (Some v) =
        let long = length-cells_from at (field_bytes order s.modulus kind size v) in
        let bytes = length-in_byte_order order (number_bytes size (field_number s.modulus kind size v)) in
        let count = length-number_bytes size (field_number s.modulus kind size v) in omega (arith, long, bytes, count)

  -- no more cells than the steps load
  pub cells_count : (earlier more : List Step) → length (address_map order s.modulus (readings_after s earlier more)) ≤ lengths_of_steps more
  cells_count earlier [] = omega arith
  cells_count earlier (counter_step site section t ∷ more) =
      let later = cells_count (counter_step site section t ∷ earlier) more in let whole =
      sum_by-cons step_length (counter_step site section t) more in omega (arith, later, whole)
  cells_count earlier (item_step site section item ∷ more) =
      let later = cells_count (item_step site section item ∷ earlier) more in
      let whole = sum_by-cons step_length (item_step site section item) more in
      let own = item_cells_count site section (counter s earlier section) item in
      let joined = length-append (step_cells order s.modulus (item_reading s site section (counter s earlier section) item))
      (address_map order s.modulus (readings_after s (item_step site section item ∷ earlier) more)) in
      omega (arith, later, whole, own, joined)

-- ---- fewer cells

-- a list without one of its cells has all others
record IsWithout (x : Cell) (ys : List Cell) : Type 0 where
  rest : List Cell
  count : length ys ≡ suc (length rest)
  others : (y : Cell) → In y ys → y.0 ≢ x.0 → In y rest

without : (x : Cell) (ys : List Cell) → In x ys → IsWithout x ys
without x [] h = absurd h
without x (y ∷ ys) (inl e) = record { rest = ys; count = refl; others = others } where
  others : (z : Cell) → In z (y ∷ ys) → z.0 ≢ x.0 → In z ys
  others z (inl f) differ = absurd (differ (ap (λ (c : Cell). c.0) (sym f ∙ e)))
  others z (inr h) differ = h
without x (y ∷ ys) (inr h) = longer (without x ys h) where
  longer : IsWithout x ys → IsWithout x (y ∷ ys)
  longer w = record { rest = y ∷ w.rest; count = ap suc w.count; others = others } where
    others : (z : Cell) → In z (y ∷ ys) → z.0 ≢ x.0 → In z (y ∷ w.rest)
    others z (inl f) differ = inl f
    others z (inr k) differ = inr (w.others z k differ)

-- cells of their own that are all among others are not more than these
pub fewer : (xs ys : List Cell) → HaveOwnAddresses xs → ((x : Cell) → In x xs → In x ys) → length xs ≤ length ys
fewer [] ys h among = omega arith
fewer (x ∷ xs) ys h among =
    let w = without x ys (among x (inl refl)) in
    let later = fewer xs w.rest h.1 (λ y m. w.others y (among y (inr m)) (λ e. h.0 y m (sym e))) in
    let count = w.count in omega (arith, later, count)
