-- The progress of the code's walk, and the outcomes of its steps.
use Rattle.std.specs.Prelude.{◌≡◌, ℕ, ◌≤◌, ◌%◌, ◌^◌, List, map, Option, None, option_map, Result, IfOk, Bool, nat_lt}
use Rattle.std.specs.List.{All}
use Rattle.mufom_loads.specs.declared.load.Item.{Item}
use Rattle.mufom_loads.specs.declared.load.Item.TheVariants.{Literal, Field}
use Rattle.mufom_loads.specs.declared.load.Load.{Load}
use Rattle.mufom_loads.specs.declared.load.Load.TheVariants.{SetSection, SetPc, One, Repeat}
use Rattle.mufom_loads.specs.Lengths.{byte_count, repeated}
use Rattle.mufom_image_bytes.specs.declared.layout.Layout.{Layout}
use Rattle.mufom_image_bytes.specs.declared.walk.Walk.{Walk}
use Rattle.mufom_image_bytes.specs.Loaded.{loaded_cells}
use Rattle.mufom_image_bytes.specs.declared.refusal.LoadRefusal.{LoadRefusal}
use Rattle.mufom_image_bytes.specs.Stops.{fact_of}
use Rattle.mufom_image_bytes.specs.Outcomes.{ValuationAt, Progress, Outcome, placed_outcome, item_outcome, items_outcome}
use Rattle.mufom_image_bytes.specs.Outcomes.{load_outcome, loads_outcome, progress_at_first}

-- the counters and the cells of a walk
abbrev pub progress_of : Walk → Progress
progress_of walk = record { counters = walk.counters.items; cells = loaded_cells walk.loaded }

-- the state that the code's walk has reached, and the error that stopped it, if one did, are this outcome
abbrev pub Reaches : Walk → Option LoadRefusal → Outcome → Type 0
Reaches walk stop outcome = ◌≡◌ {A = Outcome} (progress_of walk, option_map fact_of stop) outcome

-- loading an item has the defined outcome
abbrev pub LoadsItem : Layout → ValuationAt → ℕ → Item → Walk → Walk → Option LoadRefusal → Type 0
LoadsItem layout valuation section item before after stop = Reaches after stop (item_outcome layout valuation section item (progress_of before))

-- loading items, one after another, has the defined outcome, unless memory ran out
abbrev pub LoadsItems : {E : Type 0} → Layout → ValuationAt → ℕ → List Item → Walk → Walk → Result (Option LoadRefusal) E → Type 0
LoadsItems layout valuation section items before after result =
    IfOk result (λ stop. Reaches after stop (items_outcome layout valuation section items (progress_of before)))

-- loading `count` copies of items has the defined outcome, unless memory ran out
abbrev pub Copies : {E : Type 0} → Layout → ValuationAt → ℕ → ℕ → List Item → Walk → Walk → Result (Option LoadRefusal) E → Type 0
Copies layout valuation section count items before after result = LoadsItems layout valuation section (repeated count items) before after result

-- loading an item, no byte of which lies outside its section, has the defined outcome
abbrev pub PutsItem : Layout → ValuationAt → ℕ → ℕ → Item → Walk → Walk → Option LoadRefusal → Type 0
PutsItem layout valuation section at item before after stop = Reaches after stop (placed_outcome layout valuation section at item None (progress_of before))

-- one load has the defined outcome, if this section is the current one
abbrev pub LoadsOne : Layout → ValuationAt → Option ℕ → Load → Walk → Walk → Option LoadRefusal → Type 0
LoadsOne layout valuation current load before after stop = Reaches after stop (load_outcome layout valuation current load (progress_of before))

-- a field has at most eight bytes
abbrev pub IsNarrow : Item → Type 0
IsNarrow (Literal bytes) = Unit {0}
IsNarrow (Field kind size value) = size ≤ 8

-- the fields of a load have at most eight bytes each
abbrev pub HasNarrowItems : Load → Type 0
HasNarrowItems (SetSection section) = Unit {0}
HasNarrowItems (SetPc section value) = Unit {0}
HasNarrowItems (One item) = IsNarrow item
HasNarrowItems (Repeat count items) = All IsNarrow items

-- an item loads at least one byte
abbrev pub has_bytes : Item → Bool
has_bytes item = nat_lt 0 (byte_count item)

-- the counters before all loads: the bases of the sections, as residues
abbrev pub first_counters : Layout → List ℕ
first_counters layout = map (λ base. base % 2 ^ layout.width) layout.bases.now

-- all loads, walked from the first on, have the defined outcome
abbrev pub LoadsAll : Layout → ValuationAt → List Load → Walk → Option LoadRefusal → Type 0
LoadsAll layout valuation loads after stop = Reaches after stop (loads_outcome layout valuation None loads (progress_at_first (first_counters layout)))
