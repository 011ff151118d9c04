-- If no byte lies outside its section, each cell of the address map lies in a section.
use Rattle.std.proofs.Common.{◌≡◌, ℕ, ◌+◌, ◌<◌, ◌≤◌, inl, inr, List, [], Option, Some, None, refl, sym, ap, subst, arith}
use Rattle.std.specs.Prelude.{slice_get, option_map, unwrap_or, ◌%◌}
use Rattle.mufom_sections.specs.declared.section.Section.{Section}
use Rattle.mufom_loads.specs.declared.load.Item.{Item}
use Rattle.mufom_module.specs.declared.module.Order.{Order}
use Rattle.mufom_module.specs.declared.module.Parts.{Parts}
use Rattle.mufom_meaning.specs.Values.{Setting}
use Rattle.mufom_meaning.specs.Flat.{Sited}
use Rattle.mufom_meaning.specs.Steps.{Step, counter_step, item_step, steps, counter, item_reading, step_reading, readings_after}
use Rattle.mufom_meaning.specs.Walk.{base_number, size_at}
use Rattle.mufom_meaning.specs.AddressMap.{Cell, step_cells, address_map}
use Rattle.mufom_meaning.specs.Facts.{load_outside, loaded_twice}
use Rattle.mufom_meaning.specs.Stands.{IsStepAfter, StandsInWalk}
use Rattle.mufom_meaning.proofs.Members.{In, flat_map-In}
use Rattle.mufom_meaning.proofs.locations.OwnAddresses.{item_cell}
use Rattle.mufom_meaning.proofs.values.ValueLaws.{reading-of}

-- the cell lies in the section at a flat number
pub record HasHome (s : Setting) (cell : Cell) : Type 0 where
  pub place : ℕ
  pub section : Section
  pub found : slice_get s.sections place ≡ Some section
  pub low : base_number s place ≤ cell.0
  pub high : cell.0 < base_number s place + section.size

module _ (order : Order) (ms : List Parts) (s : Setting) (once : (address : ℕ) → ¬ StandsInWalk ms s (loaded_twice address))
    (inside : (section address : ℕ) → ¬ StandsInWalk ms s (load_outside section address)) where
  -- the cell lies in this section
  abbrev pub IsAtHome : ℕ → Cell → Type 0
  IsAtHome section cell = (home : HasHome s cell) × (home.place ≡ section)

  home_at : (section : ℕ) (cell : Cell) → base_number s section ≤ cell.0 → cell.0 < base_number s section + size_at s section → (o : Option Section)
      → slice_get s.sections section ≡ o → IsAtHome section cell
  home_at section cell low high None e =
      absurd (let none : size_at s section ≡ 0 = ap (λ (o : Option Section). unwrap_or (option_map (λ found. found.size) o) 0) e in
      omega (arith, low, high, none))
  home_at section cell low high (Some found) e =
      let size : size_at s section ≡ found.size = ap (λ (o : Option Section). unwrap_or (option_map (λ found. found.size) o) 0) e in
      (record { place = section; section = found; found = e; low = low; high = omega (arith, high, size) }, refl)

  -- a cell of an item lies in the section into which the item is loaded
  pub item_home : (before : List Step) (site : Sited) (section : ℕ) (item : Item) → IsStepAfter ms before (item_step site section item) → (cell : Cell)
      → In cell (step_cells order s.modulus (item_reading s site section (counter s before section) item)) → IsAtHome section cell
  item_home before site section item at cell h =
      let there = item_cell order ms s once site section (counter s before section) item cell h in
      let not_low : ¬ (there.0 + there.1 < base_number s section) =
      λ low. inside section ((there.0 + there.1) % s.modulus) (before, site, there.0, there.1, item, (at, there.2), there.3, inl low, refl) in
      let not_high : ¬ (base_number s section + size_at s section ≤ there.0 + there.1) =
      λ high. inside section ((there.0 + there.1) % s.modulus) (before, site, there.0, there.1, item, (at, there.2), there.3, inr high, refl) in
      home_at section cell (omega (arith, not_low, there.4)) (omega (arith, not_high, there.4)) (slice_get s.sections section) refl

  step_home : (before : List Step) (step : Step) → IsStepAfter ms before step → (cell : Cell)
      → In cell (step_cells order s.modulus (step_reading s before step)) → HasHome s cell
  step_home before (counter_step site section t) at cell h = absurd h
  step_home before (item_step site section item) at cell h = (item_home before site section item at cell h).0

  pub cell_home : (cell : Cell) → In cell (address_map order s.modulus (readings_after s [] (steps ms))) → HasHome s cell
  cell_home cell h =
      let there = flat_map-In (step_cells order s.modulus) cell (readings_after s [] (steps ms)) h in
      let step = reading-of s [] (steps ms) there.0 there.1 in
      step_home step.0 step.1 (step.2, step.3) cell (subst (λ x. In cell (step_cells order s.modulus x)) (sym step.4) there.2)
