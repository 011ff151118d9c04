-- The bytes that the loads of one module put at addresses, given its layout and the values of its expressions, up to the first error.
use Rattle.std.specs.Prelude.{◌≡◌, ℕ, ◌+◌, ◌%◌, ◌^◌, ◌==◌, List, [], ◌∷◌, ◌++◌, Option, Some, None, option_map, unwrap_or, if◌then◌else◌}
use Rattle.std.specs.Prelude.{slice_get, slice_index, slice_set}
use Rattle.mufom_expr.specs.declared.token.FieldKind.{FieldKind}
use Rattle.mufom_expr.specs.Tree.{Tree}
use Rattle.mufom_loads.specs.declared.load.Item.{Item}
use Rattle.mufom_loads.specs.declared.load.Item.TheVariants.{Literal, Field}
use Rattle.mufom_loads.specs.declared.load.Load.{Load}
use Rattle.mufom_loads.specs.declared.load.Load.TheVariants.{SetSection, SetPc, One, Repeat}
use Rattle.mufom_loads.specs.Lengths.{repeated, byte_count}
use Rattle.mufom_module.specs.Contents.{current_after}
use Rattle.mufom_place.specs.Facts.{first_some}
use Rattle.mufom_meaning.specs.declared.located.Site.TheVariants as sites
use Rattle.mufom_meaning.specs.AddressMap.{Cell, cells_from}
use Rattle.mufom_meaning.specs.Facts.{LocateFact, zero_divisor, load_outside, overflow}
use Rattle.mufom_meaning.specs.Fields.{fits, field_number, number_bytes, in_byte_order}
use Rattle.mufom_meaning.specs.Walk.{counted_from, outside_at}
use Rattle.mufom_image_bytes.specs.declared.layout.Layout.{Layout}

-- the value of an expression at a program counter
abbrev pub ValuationAt : Type 0
ValuationAt = ℕ → Tree → Option ℕ

-- the counter of each section, and the bytes that were loaded, in the order of the loads
pub record Progress : Type 0 where
  pub counters : List ℕ
  pub cells : List Cell

-- the progress of the loads, and the error that stopped them, if one did
abbrev pub Outcome : Type 0
Outcome = Progress × Option LocateFact

-- continues if no error stopped the loads
abbrev pub continued : Progress → Option LocateFact → (Progress → Outcome) → Outcome
continued p None next = next p
continued p (Some fact) next = (p, Some fact)

-- the base of a section, or 0 if there is none
abbrev pub base_in : Layout → ℕ → ℕ
base_in layout section = unwrap_or (slice_get layout.bases.now section) 0

-- the size of a section, or 0 if there is none
abbrev pub size_in : Layout → ℕ → ℕ
size_in layout section = unwrap_or (option_map (λ found. found.size) (slice_get layout.sections.now section)) 0

-- an error for the first byte of an item that lies outside its section
abbrev pub outside_in : Layout → ℕ → ℕ → ℕ → Option LocateFact
outside_in layout section at count =
    first_some (outside_at (2 ^ layout.width) section (base_in layout section) (size_in layout section)) (counted_from count at)

-- the first of `count` addresses that lies outside the `size` addresses from `base` on
abbrev pub IsFirstOutside : ℕ → ℕ → ℕ → ℕ → Option ℕ → Type 0
IsFirstOutside base size at count first =
    (modulus section : ℕ)
    → first_some (outside_at modulus section base size) (counted_from count at) ≡ option_map (λ a. load_outside section (a % modulus)) first

-- the number to store in a field, or 0 with an error
abbrev pub field_outcome : ℕ → ℕ → ℕ → FieldKind → ℕ → Option ℕ → ℕ × Option LocateFact
field_outcome modulus section at kind size None = (0, Some (zero_divisor (sites.Field section at)))
field_outcome modulus section at kind size (Some v) =
    if fits modulus kind size v then (field_number modulus kind size v, None) else (0, Some (overflow section at kind size v))

-- the bytes of an item at a counter, and its error, if it has one
abbrev pub item_bytes : Layout → ValuationAt → ℕ → ℕ → Item → List ℕ × Option LocateFact
item_bytes layout valuation section at (Literal bytes) = (bytes, None)
item_bytes layout valuation section at (Field kind size t) =
    let found = field_outcome (2 ^ layout.width) section at kind size (valuation at t) in
    (in_byte_order layout.order (number_bytes size found.0), found.1)

-- bytes are loaded at a counter, and the counter of the section advances
abbrev pub with_bytes : Layout → ℕ → ℕ → List ℕ → ℕ → Progress → Progress
with_bytes layout section at bytes count p =
    record { counters = slice_set p.counters section ((at + count) % 2 ^ layout.width); cells = p.cells ++ cells_from at bytes }

-- the bytes of an item are loaded, if none lies outside its section
abbrev pub placed_outcome : Layout → ValuationAt → ℕ → ℕ → Item → Option LocateFact → Progress → Outcome
placed_outcome layout valuation section at item (Some fact) p = (p, Some fact)
placed_outcome layout valuation section at item None p =
    let found = item_bytes layout valuation section at item in (with_bytes layout section at found.0 (byte_count item) p, found.1)

-- an item is loaded at the counter of a section
unfoldable pub item_outcome : Layout → ValuationAt → ℕ → Item → Progress → Outcome
item_outcome layout valuation section item p =
    if byte_count item == 0 then (p, None)
    else (let at = slice_index p.counters section in placed_outcome layout valuation section at item (outside_in layout section at (byte_count item)) p)

-- items are loaded, one after another
abbrev pub items_outcome : Layout → ValuationAt → ℕ → List Item → Progress → Outcome
items_outcome layout valuation section [] p = (p, None)
items_outcome layout valuation section (item ∷ items) p =
    let first = item_outcome layout valuation section item p in continued first.0 first.1 (λ q. items_outcome layout valuation section items q)

-- items are loaded in the current section; nothing happens if there is none
abbrev pub current_outcome : Layout → ValuationAt → Option ℕ → List Item → Progress → Outcome
current_outcome layout valuation None items p = (p, None)
current_outcome layout valuation (Some section) items p = items_outcome layout valuation section items p

-- the counter of a section is set to a value; without a value, the expression divides by zero
abbrev pub counter_outcome : ℕ → Option ℕ → Progress → Outcome
counter_outcome section None p = (p, Some (zero_divisor (sites.Counter section)))
counter_outcome section (Some v) p = (record { counters = slice_set p.counters section v; cells = p.cells }, None)

-- the outcome of one load
abbrev pub load_outcome : Layout → ValuationAt → Option ℕ → Load → Progress → Outcome
load_outcome layout valuation current (SetSection section) p = (p, None)
load_outcome layout valuation current (SetPc section value) p = counter_outcome section (valuation (slice_index p.counters section) value) p
load_outcome layout valuation current (One item) p = current_outcome layout valuation current (item ∷ []) p
load_outcome layout valuation current (Repeat count items) p = current_outcome layout valuation current (repeated count items) p

-- the outcome of loads, one after another
abbrev pub loads_outcome : Layout → ValuationAt → Option ℕ → List Load → Progress → Outcome
loads_outcome layout valuation current [] p = (p, None)
loads_outcome layout valuation current (load ∷ loads) p =
    let first = load_outcome layout valuation current load p in
    continued first.0 first.1 (λ q. loads_outcome layout valuation (current_after current load) loads q)

-- before all loads each counter is the base of its section
abbrev pub progress_at_first : List ℕ → Progress
progress_at_first counters = record { counters = counters; cells = [] }
