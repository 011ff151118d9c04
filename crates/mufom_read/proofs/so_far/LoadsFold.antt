-- The loads gathered record by record, once no further item follows, are those of all records.
use Rattle.std.proofs.Common.{◌≡◌, ℕ, List, [], ◌∷◌, ◌++◌, map, None, refl, sym, ap, ◌∙◌, append-nil, append_assoc}
use Rattle.mufom_expr.specs.Spelled.{Indexes}
use Rattle.mufom_records.specs.declared.record.Record.{Record}
use Rattle.mufom_records.specs.declared.record.Record.TheVariants as r
use Rattle.mufom_loads.specs.declared.load.Item.{Item}
use Rattle.mufom_loads.specs.declared.load.Load.{Load}
use Rattle.mufom_loads.specs.declared.load.Load.TheVariants.{One, Repeat}
use Rattle.mufom_module.specs.SpelledRecords.{SpelledRecord}
use Rattle.mufom_module.specs.Gathered.{item_by, items_at_prefix, loads_by, loads_of}
use Rattle.mufom_read.specs.declared.loads.Loads.{Loads}
use Rattle.mufom_read.specs.declared.loads.OpenLoad.{OpenLoad}
use Rattle.mufom_read.specs.declared.loads.OpenLoad.TheVariants as open_load
use Rattle.mufom_read.specs.Kept.{as_record}
use Rattle.mufom_read.specs.LoadsSoFar.{load_of_open, closed, with_item, opened_by, loads_at_once, with_load, no_loads}

-- all loads, if the record that may get items gets these, and these loads follow it
abbrev shut : List Load → OpenLoad → List Item → List Load → List Load
shut loads open_load.Nothing items rest = loads ++ rest
shut loads open_load.Relocate items rest = loads ++ (map One items ++ rest)
shut loads (open_load.Repeat count before) items rest = loads ++ (Repeat count (before ++ items) ∷ rest)

none_after : (loads : List Load) (opened : OpenLoad) (rest : List Load) → shut loads opened [] rest ≡ (loads ++ load_of_open opened) ++ rest
none_after loads open_load.Nothing rest = ap (λ l. l ++ rest) (sym (append-nil loads))
none_after loads open_load.Relocate rest = ap (λ l. l ++ rest) (sym (append-nil loads))
none_after loads (open_load.Repeat count before) rest =
    ap (λ items. loads ++ (Repeat count items ∷ rest)) (append-nil before) ∙ sym (append_assoc loads (Repeat count before ∷ []) rest)

item_after : (loads : List Load) (opened : OpenLoad) (item : Item) (items : List Item) (rest : List Load)
    → shut (with_item loads opened item).loads (with_item loads opened item).awaiting items rest ≡ shut loads opened (item ∷ items) rest
item_after loads open_load.Nothing item items rest = refl
item_after loads open_load.Relocate item items rest = append_assoc loads (One item ∷ []) (map One items ++ rest)
item_after loads (open_load.Repeat count before) item items rest = ap (λ all. loads ++ (Repeat count all ∷ rest)) (append_assoc before (item ∷ []) items)

module _ (ix : Indexes) (maus : ℕ) where
  -- a record that is not an item: what it states follows all that was stated before
  other_after : (before : List Load) (row : Record) (bytes : List ℕ) (items : List Item) (rest : List Load) → item_by ix maus (as_record row bytes) row ≡ None
      → shut (before ++ loads_at_once ix (as_record row bytes) row) (opened_by row) items rest ≡ before ++ (loads_by ix (as_record row bytes) items row ++ rest)
  other_after before r.Relocate bytes items rest none = ap (λ l. l ++ (map One items ++ rest)) (append-nil before)
  other_after before (r.RepeatRelocate count) bytes items rest none = ap (λ l. l ++ (Repeat count items ∷ rest)) (append-nil before)
  other_after before row bytes items rest none = append_assoc before (loads_by ix (as_record row bytes) [] row) rest

  step : (s : Loads) (row : Record) (bytes : List ℕ) (records : List SpelledRecord) → let now = with_load ix maus s (as_record row bytes) in
      shut now.loads now.awaiting (items_at_prefix ix maus records) (loads_of ix maus records)
      ≡ shut s.loads s.awaiting (items_at_prefix ix maus (as_record row bytes ∷ records)) (loads_of ix maus (as_record row bytes ∷ records))
  step s (r.ConstantItem run) bytes records = item_after s.loads s.awaiting _ (items_at_prefix ix maus records) (loads_of ix maus records)
  step s (r.FieldItem kind value size) bytes records = item_after s.loads s.awaiting _ (items_at_prefix ix maus records) (loads_of ix maus records)
  step s row bytes records =
      other_after (closed s) row bytes (items_at_prefix ix maus records) (loads_of ix maus records) refl
      ∙ sym (none_after s.loads s.awaiting (loads_by ix (as_record row bytes) (items_at_prefix ix maus records) row ++ loads_of ix maus records))

  -- the loads after further records, all by these indexes
  abbrev pub loads_by_all : Loads → List SpelledRecord → Loads
  loads_by_all s [] = s
  loads_by_all s (p ∷ records) = loads_by_all (with_load ix maus s p) records

  all_after : (s : Loads) (records : List SpelledRecord) → closed (loads_by_all s records)
      ≡ shut s.loads s.awaiting (items_at_prefix ix maus records) (loads_of ix maus records)
  all_after s [] = sym (none_after s.loads s.awaiting [] ∙ append-nil (closed s))
  all_after s (p ∷ records) = all_after (with_load ix maus s p) records ∙ step s p.row p.bytes records

  -- The loads so far, closed, are the loads of the records.
  pub loads-closed : (records : List SpelledRecord) → closed (loads_by_all no_loads records) ≡ loads_of ix maus records
  loads-closed records = all_after no_loads records
