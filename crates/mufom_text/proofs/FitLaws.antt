-- The rows of a location end within the address space, which has 1 to 8 units.
use Rattle.std.proofs.Common.{◌≡◌, inl, inr, ℕ, suc, ◌+◌, ◌-◌, ◌^◌, ◌<◌, ◌≤◌, List, [], ◌∷◌, length, Some, refl, ap, subst, ◌∙◌, arith}
use Rattle.std.specs.Prelude.{All, slice_get, unwrap_or}
use Rattle.std.proofs.Math.Pow.{pow_mono}
use Rattle.mufom_module.specs.declared.module.Parts.{Parts}
use Rattle.mufom_module.specs.Defects.{IsValid}
use Rattle.mufom_plan.specs.declared.plan.Plan.{Plan}
use Rattle.mufom_place.specs.Bases.{site_of}
use Rattle.mufom_meaning.specs.declared.located.Run.{Run}
use Rattle.mufom_meaning.specs.declared.located.LocatedParts.{LocatedParts}
use Rattle.mufom_meaning.specs.AddressMap.{Cell, address_map, cells_from, run_cells, AreApart}
use Rattle.mufom_meaning.specs.Facts.{load_outside, loaded_twice}
use Rattle.mufom_meaning.specs.Flat.{flat_sections, width}
use Rattle.mufom_meaning.specs.Location.{Header, IsLocation}
use Rattle.mufom_meaning.specs.Placed.{placed_commons}
use Rattle.mufom_meaning.specs.Readings.{readings}
use Rattle.mufom_meaning.specs.Steps.{readings_after, steps}
use Rattle.mufom_meaning.specs.Values.{Setting}
use Rattle.mufom_meaning.specs.Walk.{base_number}
use Rattle.mufom_meaning.proofs.CallLaws.{modules_may_be_placed}
use Rattle.mufom_numbers.proofs.Choices.{some_same}
use Rattle.mufom_meaning.proofs.Members.{In, Contains-In, In-Contains, In-flat_map, All-In}
use Rattle.mufom_meaning.proofs.Names.{get-prefix}
use Rattle.mufom_meaning.proofs.Placed.{planned_get}
use Rattle.mufom_meaning.proofs.absolute.Rows.{placement_none}
use Rattle.mufom_meaning.proofs.facts.AllAnswers.{answers_are_facts}
use Rattle.mufom_meaning.proofs.absolute.Cells.{at_cell}
use Rattle.mufom_meaning.proofs.absolute.Places.{base_there, ends_inside}
use Rattle.mufom_meaning.proofs.locations.CellHome.{HasHome, cell_home}
use Rattle.mufom_meaning.proofs.values.ValueLaws.{placed, no_link_fact, no_fact_before}
use Rattle.mufom_located.specs.Located.{IsLocated}
use Rattle.mufom_text.specs.Fitting.{FitsIn, IsUnitCount}

-- the last byte of a row is at the address before its end
last_byte : (bytes : List ℕ) → 0 < length bytes → (b : ℕ) × (slice_get bytes (length bytes - 1) ≡ Some b)
last_byte [] some = absurd (omega (arith, some))
last_byte (b ∷ []) some = (b, refl)
last_byte (b ∷ (c ∷ bytes)) some =
    let later = last_byte (c ∷ bytes) (omega arith) in
    let place : length (b ∷ (c ∷ bytes)) - 1 ≡ suc (length (c ∷ bytes) - 1) = omega arith in
    (later.0, ap (slice_get (b ∷ (c ∷ bytes))) place ∙ later.1)

each_has_byte : (from : ℕ) (runs : List Run) → AreApart from runs → (run : Run) → In run runs → 0 < length run.bytes
each_has_byte from [] apart run h = absurd h
each_has_byte from (first ∷ runs) apart run (inl same) = subst (λ (r : Run). 0 < length r.bytes) same apart.1
each_has_byte from (first ∷ runs) apart run (inr later) = each_has_byte (first.address + length first.bytes + 1) runs apart.2 run later

not_past : (a b : ℕ) → ¬ (b < a) → a ≤ b
not_past a b past = omega (arith, past)

module _ (m : Parts) (plan : Plan) (r : LocatedParts) (valid : IsValid m) (h : IsLocation (m ∷ []) plan r) where
  abbrev ms : List Parts
  ms = m ∷ []

  abbrev s : Setting
  s = placed ms plan

  same_units : m.maus ≡ r.maus
  same_units =
      let header : ◌≡◌ {A = Header} (m.processor, m.name, m.maus, m.order) (r.processor, r.name, r.maus, r.order) = some_same _ _ h.first in
      ap (λ (x : Header). x.2) header

  units : IsUnitCount r.maus
  units =
      let may = modules_may_be_placed m plan valid in
      let low = may.addresses.least in
      let high = may.addresses.most in
      record { some = omega (arith, same_units, low); few = omega (arith, same_units, high) }

  -- a cell lies in the address space
  cell_below : (cell : Cell) → HasHome s cell → cell.0 < 2 ^ width ms
  cell_below cell home =
      let there = get-prefix (flat_sections ms) (placed_commons ms plan) home.place home.section home.found in
      let site = site_of plan (flat_sections ms) (placed_commons ms plan) (home.place, home.section) in
      let based : base_number s home.place ≡ site.base = ap (λ o. unwrap_or o 0) (planned_get ms plan home.place there.1
      ∙ base_there plan (flat_sections ms) (placed_commons ms plan) home.place home.section there.0) in
      let inside = ends_inside plan (flat_sections ms) (placed_commons ms plan) (width ms) (placement_none m [] plan r (valid, tt) h) home.place
      home.section there.0 in
      let ends = not_past (site.base + home.section.size) (2 ^ width ms) (λ past. inside (inr past)) in
      omega (arith, home.high, based, ends)

  cell_there : (cell : Cell) → In cell (run_cells r.runs) → cell.0 < 2 ^ width ms
  unfolding readings
  cell_there cell k =
      let among = Contains-In cell (address_map r.order s.modulus (readings_after s [] (steps ms)))
      ((h.rows.same cell).1 (In-Contains cell (run_cells r.runs) k)) in
      cell_below cell (cell_home r.order ms s
      (λ address f. (answers_are_facts ms plan).locate_complete h.locates (loaded_twice address)
      (inr (no_link_fact ms h.links, no_fact_before ms plan h.locates, f)))
      (λ section address f. (answers_are_facts ms plan).locate_complete h.locates (load_outside section address)
      (inr (no_link_fact ms h.links, no_fact_before ms plan h.locates, f)))
      cell among)

  run_fits : (run : Run) → In run r.runs → FitsIn run
  run_fits run k =
      let some = each_has_byte 0 r.runs h.rows.apart run k in
      let last = last_byte run.bytes some in
      let cell = at_cell run.address run.bytes (length run.bytes - 1) last.0 (run.address + (length run.bytes - 1)) last.1 refl in
      let less = cell_there (run.address + (length run.bytes - 1), last.0) (In-flat_map (λ run. cells_from run.address run.bytes) run _ r.runs k cell) in
      let narrow = (modules_may_be_placed m plan valid).addresses.most in
      let space : 2 ^ width ms ≤ 2 ^ 64 = pow_mono narrow in
      omega (arith, some, less, space)

  all_fit : All FitsIn r.runs
  all_fit = All-In FitsIn r.runs run_fits

pub located-fits : (r : LocatedParts) → IsLocated r → IsUnitCount r.maus × All FitsIn r.runs
located-fits r h = (units h.source h.plan r h.valid h.is, all_fit h.source h.plan r h.valid h.is)
