-- The records of the data part and the trailer of a written form name no index that is not declared, and load nothing before a section is set.
use Rattle.std.proofs.Common.{◌≡◌, ℕ, ◌+◌, Bool, true, false, ◌||◌, ◌&&◌, not, nat_le, List, [], ◌∷◌, ◌++◌, length, Option, Some, None, refl, sym, ap}
use Rattle.std.proofs.Common.{◌∙◌, arith}
use Rattle.std.specs.Prelude.{is_none}
use Rattle.std.specs.List.{AllByRecursion, list_any, list_all}
use Rattle.std.proofs.lemmas.List.Folds.{list_any-append}
use Rattle.std.proofs.lemmas.Bool.{or_parts, leb-false}
use Rattle.mufom_expr.specs.declared.token.FieldKind.{FieldKind}
use Rattle.mufom_expr.specs.Tree.{Tree}
use Rattle.mufom_records.specs.declared.record.Record.TheVariants as r
use Rattle.mufom_records.specs.Fields.{span_at}
use Rattle.mufom_records.specs.Layouts.{comma, opening, closing}
use Rattle.mufom_loads.specs.declared.load.Item.{Item}
use Rattle.mufom_loads.specs.declared.load.Item.TheVariants.{Literal, Field}
use Rattle.mufom_loads.specs.declared.load.Load.{Load}
use Rattle.mufom_loads.specs.declared.load.Load.TheVariants.{SetSection, SetPc, One, Repeat}
use Rattle.mufom_module.specs.declared.module.Parts.{Parts}
use Rattle.mufom_module.specs.Contents.{any_of, item_any, current_after, placed_from}
use Rattle.mufom_module.specs.SpelledRecords.{SpelledRecord, section, is_declared, named_at_once, start_address, is_assigned}
use Rattle.mufom_module.specs.RecordParts.{is_loading, is_set_section}
use Rattle.mufom_module.specs.Grammar.{Follows, FollowFrom}
use Rattle.mufom_module.specs.Written.{shortest, section_index}
use Rattle.mufom_module.specs.Written as w
use Rattle.mufom_module.specs.Defects as d
use Rattle.mufom_module.specs.Defects.{counts_of, names_outside, has_bad_place, loads_nowhere}
use Rattle.mufom_write.proofs.Rows.{value_at}
use Rattle.mufom_write.proofs.LoadRows.{run_at}
use Rattle.mufom_write.proofs.Laying.{spelled, all-append}
use Rattle.mufom_write.proofs.LoadRecords.{literal_record, field_record, item_records, relocate_record, single_records, repeat_record, repeat_records}
use Rattle.mufom_write.proofs.LoadRecords.{load_records, loads_records, start_records, IsFittingItem, IsFittingLoad, IsFittingStart}
use Rattle.mufom_write.proofs.Texts.{text-between, text-last}
use Rattle.mufom_write.proofs.Naming.{follow-append, index-follows, or_true}
use Rattle.mufom_write.proofs.Known.{DeclareEntries, declare-after, section-known, expression-known, IsPlain, plain-follows}

-- ---- the records of loads declare nothing and state nothing once

items-plain : (items : List Item) → AllByRecursion IsPlain (item_records items)
items-plain [] = tt
items-plain (Literal bytes ∷ items) = (record { declares = refl; states = refl }, items-plain items)
items-plain (Field kind size value ∷ items) = (record { declares = refl; states = refl }, items-plain items)

single-plain : (item : Item) → AllByRecursion IsPlain (single_records item)
single-plain (Literal bytes) = (record { declares = refl; states = refl }, tt)
single-plain (Field kind size value) = (record { declares = refl; states = refl }, (record { declares = refl; states = refl }, tt))

repeat-plain : (count : ℕ) (items : List Item) → AllByRecursion IsPlain (repeat_records count items)
repeat-plain count [] = (record { declares = refl; states = refl }, tt)
repeat-plain count (Literal bytes ∷ []) = (record { declares = refl; states = refl }, tt)
repeat-plain count (Field kind size value ∷ []) = (record { declares = refl; states = refl }, (record { declares = refl; states = refl }, tt))
repeat-plain count (first ∷ second ∷ more) = (record { declares = refl; states = refl }, items-plain (first ∷ second ∷ more))

load-plain : (load : Load) → AllByRecursion IsPlain (load_records load)
load-plain (SetSection place) = (record { declares = refl; states = refl }, tt)
load-plain (SetPc place value) = (record { declares = refl; states = refl }, tt)
load-plain (One item) = single-plain item
load-plain (Repeat count items) = repeat-plain count items

pub loads-plain : (loads : List Load) → AllByRecursion IsPlain (loads_records loads)
loads-plain [] = tt
loads-plain (load ∷ loads) = all-append IsPlain (load_records load) (loads_records loads) (load-plain load) (loads-plain loads)

-- ---- a section is set

abbrev sets_section : List SpelledRecord → Bool
sets_section records = list_any (λ q. is_set_section q.row) records

still-set : (before xs : List SpelledRecord) → sets_section before ≡ true → sets_section (before ++ xs) ≡ true
still-set before xs set = list_any-append (λ q. is_set_section q.row) before xs ∙ ap (λ (b : Bool). b || sets_section xs) set

now-set : (before : List SpelledRecord) (p : SpelledRecord) → is_set_section p.row ≡ true → sets_section (before ++ p ∷ []) ≡ true
now-set before p own =
    list_any-append (λ q. is_set_section q.row) before (p ∷ []) ∙ ap (λ (b : Bool). sets_section before || (b || false)) own ∙ or_true (sets_section before)

-- ---- items

module _ (m : Parts) where
  field-follows : (before : List SpelledRecord) (kind : FieldKind) (value : Tree) (size : ℕ) → DeclareEntries m before
      → IsFittingItem (Field kind size value) → names_outside (counts_of m) value ≡ false
      → Follows before (field_record kind value size)
  field-follows before kind value size its fits inside =
      let e = w.expression shortest value in
      let back = comma ∷ (w.number shortest size ++ closing kind ∷ []) in
      plain-follows before (field_record kind value size) (record { declares = refl; states = refl })
      (expression-known m before its (field_record kind value size) (span_at 1 (length e)) value refl
      (text-between (opening kind ∷ (e ++ back)) (opening kind ∷ []) e back 1 refl refl) fits.0 inside) refl

  items-follow : (before : List SpelledRecord) (items : List Item) → DeclareEntries m before → AllByRecursion IsFittingItem items
      → list_any (item_any (names_outside (counts_of m))) items ≡ false → FollowFrom before (item_records items)
  items-follow before [] its fit inside = tt
  items-follow before (Literal bytes ∷ items) its fit inside = (
    plain-follows before (literal_record bytes) (record { declares = refl; states = refl }) refl refl,
    items-follow (before ++ literal_record bytes ∷ []) items (declare-after m before (literal_record bytes ∷ []) its
        (record { declares = refl; states = refl }, tt)) fit.1 inside,
  )
  items-follow before (Field kind size value ∷ items) its fit inside =
      let parts = or_parts (names_outside (counts_of m) value) (list_any (item_any (names_outside (counts_of m))) items) inside in
      let p = field_record kind value size in (
        field-follows before kind value size its fit.0 parts.0,
        items-follow (before ++ p ∷ []) items (declare-after m before (p ∷ []) its (record { declares = refl; states = refl }, tt)) fit.1 parts.1,
      )

  -- ---- loads

  -- a record that names nothing and loads
  loading-follows : (before : List SpelledRecord) (p : SpelledRecord) → IsPlain p → named_at_once p ≡ [] → sets_section before ≡ true → Follows before p
  loading-follows before p plain names set = plain-follows before p plain (ap (list_all (is_declared before)) names) (under (is_loading p.row)) where
    under : (b : Bool) → (b && not (sets_section before)) ≡ false
    under true = ap not set
    under false = refl

  opened-follow : (before : List SpelledRecord) (p : SpelledRecord) (items : List Item) → IsPlain p → named_at_once p ≡ [] → sets_section before
      ≡ true → DeclareEntries m before → AllByRecursion IsFittingItem items
      → list_any (item_any (names_outside (counts_of m))) items ≡ false → FollowFrom before (p ∷ item_records items)
  opened-follow before p items plain names set its fit inside =
      (loading-follows before p plain names set, items-follow (before ++ p ∷ []) items (declare-after m before (p ∷ []) its (plain, tt)) fit inside)

  single-follows : (before : List SpelledRecord) (item : Item) → DeclareEntries m before → sets_section before ≡ true → IsFittingItem item
      → item_any (names_outside (counts_of m)) item ≡ false → FollowFrom before (single_records item)
  single-follows before (Literal bytes) its set fits inside = (
    loading-follows before (spelled (r.Constant (run_at 1 bytes)) (0xED ∷ w.counted shortest bytes)) (record { declares = refl; states = refl })
        refl set,
    tt,
  )
  single-follows before (Field kind size value) its set fits inside =
      opened-follow before relocate_record (Field kind size value ∷ []) (record { declares = refl; states = refl }) refl set its (fits, tt)
      (ap (λ (b : Bool). b || false) inside)

  repeat-follows : (before : List SpelledRecord) (count : ℕ) (items : List Item) → DeclareEntries m before → sets_section before ≡ true
      → AllByRecursion IsFittingItem items
      → list_any (item_any (names_outside (counts_of m))) items ≡ false → FollowFrom before (repeat_records count items)
  repeat-follows before count [] its set fit inside = opened-follow before (repeat_record count) [] (record { declares = refl; states = refl }) refl
      set its tt refl
  repeat-follows before count (Literal bytes ∷ []) its set fit inside =
      let p = spelled (r.RepeatConstant count (run_at (1 + length (w.number shortest count) + 1) bytes))
      (0xF7 ∷ (w.number shortest count ++ 0xED ∷ w.counted shortest bytes)) in
      (loading-follows before p (record { declares = refl; states = refl }) refl set, tt)
  repeat-follows before count (Field kind size value ∷ []) its set fit inside =
      opened-follow before (repeat_record count) (Field kind size value ∷ []) (record { declares = refl; states = refl }) refl set its fit inside
  repeat-follows before count (first ∷ second ∷ more) its set fit inside =
      opened-follow before (repeat_record count) (first ∷ second ∷ more) (record { declares = refl; states = refl }) refl set its fit inside

  counter-follows : (before : List SpelledRecord) (place : ℕ) (value : Tree) → DeclareEntries m before → IsFittingLoad (SetPc place value)
      → has_bad_place (counts_of m) (SetPc place value) ≡ false → FollowFrom before (load_records (SetPc place value))
  counter-follows before place value its fits inside =
      let parts = or_parts (nat_le (length m.sections) place) (names_outside (counts_of m) value) inside in
      let i = section_index place in
      let a = w.number shortest i in
      let e = w.expression shortest value in
      let p = spelled (r.SetPc i (value_at i e)) (0xE2 ∷ 0xD0 ∷ (a ++ e)) in
      let own = section-known m before its place (leb-false (length m.sections) place parts.0) in
      let tree = expression-known m before its p (value_at i e) value refl
      (text-last (0xE2 ∷ 0xD0 ∷ (a ++ e)) (0xE2 ∷ 0xD0 ∷ a) e (2 + length a) refl (omega arith)) fits.1 parts.1 in
      (plain-follows before p (record { declares = refl; states = refl }) (λ j. own j && tree j) refl, tt)

  load-follows : (before : List SpelledRecord) (load : Load) → DeclareEntries m before → (d.is_loading load ≡ true → sets_section before ≡ true)
      → IsFittingLoad load → has_bad_place (counts_of m) load ≡ false → FollowFrom before (load_records load)
  load-follows before (SetSection place) its set fits inside =
      let parts = or_parts (nat_le (length m.sections) place) false inside in
      let i = section_index place in (
        index-follows before (section, i) (spelled (r.SetSection i) (0xE5 ∷ w.number shortest i)) refl refl refl
            (section-known m before its place (leb-false (length m.sections) place parts.0)) refl,
        tt,
      )
  load-follows before (SetPc place value) its set fits inside = counter-follows before place value its fits inside
  load-follows before (One item) its set fits inside = single-follows before item its (set refl) fits inside
  load-follows before (Repeat count items) its set fits inside = repeat-follows before count items its (set refl) fits.1 inside

  -- a section that is current was set
  abbrev IsSetBy : List SpelledRecord → Option ℕ → Type 0
  IsSetBy before current = is_none current ≡ false → sets_section before ≡ true

  set-after : (before : List SpelledRecord) (current : Option ℕ) (load : Load) → IsSetBy before current
      → IsSetBy (before ++ load_records load) (current_after current load)
  set-after before current (SetSection place) set = λ some. now-set before
      (spelled (r.SetSection (section_index place)) (0xE5 ∷ w.number shortest (section_index place))) refl
  set-after before current (SetPc place value) set = λ some. still-set before (load_records (SetPc place value)) (set some)
  set-after before current (One item) set = λ some. still-set before (load_records (One item)) (set some)
  set-after before current (Repeat count items) set = λ some. still-set before (load_records (Repeat count items)) (set some)

  loads-follow : (before : List SpelledRecord) (current : Option ℕ) (loads : List Load) → DeclareEntries m before → IsSetBy before current
      → AllByRecursion IsFittingLoad loads → list_any (has_bad_place (counts_of m)) loads ≡ false
      → list_any loads_nowhere (placed_from current loads) ≡ false → FollowFrom before (loads_records loads)
  loads-follow before current [] its set fit inside placed = tt
  loads-follow before current (load ∷ loads) its set fit inside placed =
      let parts = or_parts (has_bad_place (counts_of m) load) (list_any (has_bad_place (counts_of m)) loads) inside in
      let places = or_parts (loads_nowhere (current, load)) (list_any loads_nowhere (placed_from (current_after current load) loads)) placed in
      follow-append before (load_records load) (loads_records loads)
      (load-follows before load its (λ loading. set (without (is_none current) (d.is_loading load) loading places.0)) fit.0 parts.0)
      (loads-follow (before ++ load_records load) (current_after current load) loads
      (declare-after m before (load_records load) its (load-plain load)) (set-after before current load set) fit.1 parts.1 places.1)
    where
      without : (b loading : Bool) → loading ≡ true → (b && loading) ≡ false → b ≡ false
      without true loading is h = sym is ∙ h
      without false loading is h = refl

  -- each record of the data part keeps to what is before it
  pub data_part-follows : (before : List SpelledRecord) → DeclareEntries m before → AllByRecursion IsFittingLoad m.loads
      → list_any (has_bad_place (counts_of m)) m.loads ≡ false
      → list_any loads_nowhere (placed_from None m.loads) ≡ false → FollowFrom before (loads_records m.loads)
  data_part-follows before its fit inside placed = loads-follow before None m.loads its (λ none. absurd cc) fit inside placed

  -- so does that of the trailer
  pub trailer-follows : (before : List SpelledRecord) (start : Option Tree) → DeclareEntries m before → is_assigned before start_address ≡ false
      → IsFittingStart start → any_of (names_outside (counts_of m)) start ≡ false
      → FollowFrom before (start_records start)
  trailer-follows before None its unstated fits inside = tt
  trailer-follows before (Some value) its unstated fits inside =
      let e = w.expression shortest value in
      let bytes = 0xE2 ∷ 0xC7 ∷ 0xBE ∷ (e ++ 0xBF ∷ []) in
      let p = spelled (r.Start (span_at 3 (length e))) bytes in
      let tree = expression-known m before its p (span_at 3 (length e)) value refl
      (text-between bytes (0xE2 ∷ 0xC7 ∷ 0xBE ∷ []) e (0xBF ∷ []) 3 refl refl) fits inside in
      (record { new = refl; known = ap not tree; once = unstated; placed = refl }, tt)
