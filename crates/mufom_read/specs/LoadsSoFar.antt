-- The loads that the records read so far state, and the record that may still get items.
use Rattle.std.specs.Prelude.{ℕ, Bool, true, false, List, [], ◌∷◌, ◌++◌, Option, Some, None, unwrap_or, option_map, if◌then◌else◌}
use Rattle.mufom_expr.specs.Spelled.{Indexes}
use Rattle.mufom_records.specs.declared.record.Record.{Record}
use Rattle.mufom_records.specs.declared.record.Record.TheVariants as r
use Rattle.mufom_loads.specs.declared.load.Item.{Item}
use Rattle.mufom_loads.specs.declared.load.Load.{Load}
use Rattle.mufom_loads.specs.declared.load.Load.TheVariants.{One, Repeat}
use Rattle.mufom_module.specs.SpelledRecords.{SpelledRecord}
use Rattle.mufom_module.specs.RecordParts.{data_part, stands_in}
use Rattle.mufom_module.specs.Gathered.{item_by, loads_by}
use Rattle.mufom_read.specs.declared.loads.Loads.{Loads}
use Rattle.mufom_read.specs.declared.loads.OpenLoad.{OpenLoad}
use Rattle.mufom_read.specs.declared.loads.OpenLoad.TheVariants as open_load
use Rattle.mufom_read.specs.declared.header.Addressing.{Addressing}
use Rattle.mufom_read.specs.HeaderSoFar.{layout_in}
use Rattle.mufom_read.specs.Kept.{tables_of, indexes_by}

abbrev pub loads_and : List Load → OpenLoad → Loads
loads_and loads awaiting = record { loads = loads; awaiting = awaiting }

-- no loads, and no record that may get items
abbrev pub no_loads : Loads
no_loads = loads_and [] open_load.Nothing

-- what the record that may get items adds to the loads once it ends: an RE adds its repeat, an LR nothing more
abbrev pub load_of_open : OpenLoad → List Load
load_of_open open_load.Nothing = []
load_of_open open_load.Relocate = []
load_of_open (open_load.Repeat count items) = Repeat count items ∷ []

-- all loads, once no further item can follow
abbrev pub closed : Loads → List Load
closed s = s.loads ++ load_of_open s.awaiting

-- An item after an LR is a load of its own; after an RE it is one more item of the repeat.
abbrev pub with_item : List Load → OpenLoad → Item → Loads
with_item loads open_load.Nothing item = loads_and loads open_load.Nothing
with_item loads open_load.Relocate item = loads_and (loads ++ One item ∷ []) open_load.Relocate
with_item loads (open_load.Repeat count items) item = loads_and loads (open_load.Repeat count (items ++ item ∷ []))

-- the record is an item
abbrev pub is_item : Record → Bool
is_item (r.ConstantItem run) = true
is_item (r.FieldItem kind value size) = true
is_item _ = false

-- what may get items after a record that is not itself an item
abbrev pub opened_by : Record → OpenLoad
opened_by r.Relocate = open_load.Relocate
opened_by (r.RepeatRelocate count) = open_load.Repeat count []
opened_by _ = open_load.Nothing

-- the loads that a record, which is not an item, states at once; a repeat of an LR is added later, once it has its items
abbrev pub loads_at_once : Indexes → SpelledRecord → Record → List Load
loads_at_once ix p (r.RepeatRelocate count) = []
loads_at_once ix p row = loads_by ix p [] row

-- the loads after a record, if it states this item, or no item
abbrev pub with_made : Indexes → Loads → SpelledRecord → Option Item → Loads
with_made ix s p None = loads_and (closed s ++ loads_at_once ix p p.row) (opened_by p.row)
with_made ix s p (Some item) = with_item s.loads s.awaiting item

-- the loads after a record of the data part; `maus` is the number of MAUs in an address
abbrev pub with_load : Indexes → ℕ → Loads → SpelledRecord → Loads
with_load ix maus s p = with_made ix s p (item_by ix maus p p.row)

-- the number of MAUs in an address that these records state
abbrev pub units_in : List SpelledRecord → Option ℕ
units_in records = option_map (λ (l : Addressing). l.maus) (layout_in records)

-- No load comes before a descriptor, so any number would do.
abbrev pub units_or : Option ℕ → ℕ
units_or o = unwrap_or o 2

-- the loads after a record, by the indexes and the MAUs that the records before it state; a record of another part changes nothing
abbrev pub loads_after : List SpelledRecord → Loads → SpelledRecord → Loads
loads_after before s p = if stands_in data_part p.row then with_load (indexes_by (tables_of before)) (units_or (units_in before)) s p else s

abbrev pub loads_from : List SpelledRecord → Loads → List SpelledRecord → Loads
loads_from before s [] = s
loads_from before s (p ∷ records) = loads_from (before ++ p ∷ []) (loads_after before s p) records

-- the loads that these records state
abbrev pub loads_so_far : List SpelledRecord → Loads
loads_so_far records = loads_from [] no_loads records
