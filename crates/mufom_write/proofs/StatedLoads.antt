-- What the records of the data part and the trailer of a written form state is what the module has.
use Rattle.std.proofs.Common.{◌≡◌, ℕ, ◌+◌, Bool, true, false, ◌||◌, List, [], ◌∷◌, ◌++◌, length, map, Option, Some, None, refl, sym, ap, ◌∙◌, arith}
use Rattle.std.proofs.Common.{append_assoc, length-append}
use Rattle.std.specs.Prelude.{option_to_list}
use Rattle.std.specs.List.{AllByRecursion, list_any}
use Rattle.std.proofs.lemmas.List.{append-nil}
use Rattle.std.proofs.lemmas.Bool.{or_parts, leb-false}
use Rattle.mufom_expr.specs.declared.token.FieldKind.{FieldKind}
use Rattle.mufom_expr.specs.Tree.{Tree}
use Rattle.mufom_records.specs.Fields.{span_at}
use Rattle.mufom_records.specs.Layouts.{comma, opening, closing}
use Rattle.mufom_loads.specs.declared.load.Item.{Item}
use Rattle.mufom_loads.specs.declared.load.Item.TheVariants.{Literal, Field}
use Rattle.mufom_loads.specs.declared.load.Load.{Load}
use Rattle.mufom_loads.specs.declared.load.Load.TheVariants.{SetSection, SetPc, One, Repeat}
use Rattle.mufom_module.specs.declared.module.Parts.{Parts}
use Rattle.mufom_module.specs.Contents.{any_of, item_any}
use Rattle.mufom_module.specs.SpelledRecords.{SpelledRecord, text_in, tree_in, positioned}
use Rattle.mufom_module.specs.Gathered.{items_at_prefix, loads_of, starts_of}
use Rattle.mufom_module.specs.Written.{shortest, section_index}
use Rattle.mufom_module.specs.Written as w
use Rattle.mufom_module.specs.Defects.{counts_of, names_outside, names_no_section, has_bad_place}
use Rattle.mufom_write.proofs.LoadRows.{run_at}
use Rattle.mufom_write.proofs.Indexed.{IsFittingTree, written_indexes, position_in-counting}
use Rattle.mufom_write.proofs.LoadRecords.{literal_record, field_record, item_records, single_records, repeat_records, load_records, loads_records}
use Rattle.mufom_write.proofs.LoadRecords.{start_records, IsFittingItem, IsFittingLoad, IsFittingStart}
use Rattle.mufom_write.proofs.Texts.{text-between, text-last, tree-back}

module _ (m : Parts) (k : ℕ) where
  literal-back : (bytes : List ℕ) → text_in (literal_record bytes) (run_at 0 bytes) ≡ bytes
  literal-back bytes =
      let n = w.number shortest (length bytes) in
      text-last (n ++ bytes) n bytes (0 + length n) refl (omega arith)

  field-back : (kind : FieldKind) (value : Tree) (size : ℕ) → IsFittingTree value → names_outside (counts_of m) value ≡ false
      → positioned (written_indexes m k) (tree_in (field_record kind value size) (span_at 1 (length (w.expression shortest value)))) ≡ value
  field-back kind value size fits inside =
      let e = w.expression shortest value in
      let back = comma ∷ (w.number shortest size ++ closing kind ∷ []) in
      tree-back m k value _ fits inside (text-between (opening kind ∷ (e ++ back)) (opening kind ∷ []) e back 1 refl refl)

  -- items, with what is after them
  items-prefix : (items : List Item) (rest : List SpelledRecord) → AllByRecursion IsFittingItem items
      → list_any (item_any (names_outside (counts_of m))) items ≡ false
      → items_at_prefix (written_indexes m k) m.maus (item_records items ++ rest) ≡ items ++ items_at_prefix (written_indexes m k) m.maus rest
  items-prefix [] rest fit inside = refl
  items-prefix (Literal bytes ∷ items) rest fit inside =
      let first = literal-back bytes in
      let later = items-prefix items rest fit.1 inside in
      λ i. Literal (first i) ∷ later i
  items-prefix (Field kind size value ∷ items) rest fit inside =
      let parts = or_parts (names_outside (counts_of m) value) (list_any (item_any (names_outside (counts_of m))) items) inside in
      let first = field-back kind value size fit.0.0 parts.0 in
      let later = items-prefix items rest fit.1 parts.1 in
      λ i. Field kind size (first i) ∷ later i

  items-silent : (items : List Item) (rest : List SpelledRecord) → loads_of (written_indexes m k) m.maus (item_records items ++ rest)
      ≡ loads_of (written_indexes m k) m.maus rest
  items-silent [] rest = refl
  items-silent (Literal bytes ∷ items) rest = items-silent items rest
  items-silent (Field kind size value ∷ items) rest = items-silent items rest

  -- loads begin with no item
  none-single : (item : Item) (rest : List SpelledRecord) → items_at_prefix (written_indexes m k) m.maus (single_records item ++ rest) ≡ []
  none-single (Literal bytes) rest = refl
  none-single (Field kind size value) rest = refl

  none-repeat : (count : ℕ) (items : List Item) (rest : List SpelledRecord)
      → items_at_prefix (written_indexes m k) m.maus (repeat_records count items ++ rest) ≡ []
  none-repeat count [] rest = refl
  none-repeat count (Literal bytes ∷ []) rest = refl
  none-repeat count (Field kind size value ∷ []) rest = refl
  none-repeat count (first ∷ second ∷ more) rest = refl

  none-first : (loads : List Load) → items_at_prefix (written_indexes m k) m.maus (loads_records loads) ≡ []
  none-first [] = refl
  none-first (SetSection section ∷ loads) = refl
  none-first (SetPc section value ∷ loads) = refl
  none-first (One item ∷ loads) = none-single item (loads_records loads)
  none-first (Repeat count items ∷ loads) = none-repeat count items (loads_records loads)

  -- the items alone
  items-alone : (items : List Item) (rest : List SpelledRecord) → AllByRecursion IsFittingItem items
      → list_any (item_any (names_outside (counts_of m))) items ≡ false
      → items_at_prefix (written_indexes m k) m.maus rest ≡ [] → items_at_prefix (written_indexes m k) m.maus (item_records items ++ rest) ≡ items
  items-alone items rest fit inside none = items-prefix items rest fit inside ∙ ap (λ (l : List Item). items ++ l) none ∙ append-nil items

  single-back : (item : Item) (rest : List SpelledRecord) → IsFittingItem item → item_any (names_outside (counts_of m)) item ≡ false
      → items_at_prefix (written_indexes m k) m.maus rest ≡ []
      → loads_of (written_indexes m k) m.maus (single_records item ++ rest) ≡ One item ∷ loads_of (written_indexes m k) m.maus rest
  single-back (Literal bytes) rest fits inside none =
      let n = w.number shortest (length bytes) in
      ap (λ (l : List ℕ). One (Literal l) ∷ loads_of (written_indexes m k) m.maus rest)
      (text-last (0xED ∷ (n ++ bytes)) (0xED ∷ n) bytes (1 + length n) refl (omega arith))
  single-back (Field kind size value) rest fits inside none =
      let items = items-alone (Field kind size value ∷ []) rest (fits, tt) (or_none (names_outside (counts_of m) value) inside) none in
      ap (λ (l : List Item). map One l ++ loads_of (written_indexes m k) m.maus rest) items
    where
      or_none : (b : Bool) → b ≡ false → (b || false) ≡ false
      or_none true h = h
      or_none false h = refl

  repeat-back : (count : ℕ) (items : List Item) (rest : List SpelledRecord) → AllByRecursion IsFittingItem items
      → list_any (item_any (names_outside (counts_of m))) items ≡ false
      → items_at_prefix (written_indexes m k) m.maus rest ≡ [] → loads_of (written_indexes m k) m.maus (repeat_records count items ++ rest)
      ≡ Repeat count items ∷ loads_of (written_indexes m k) m.maus rest
  repeat-back count [] rest fit inside none = ap (λ (l : List Item). Repeat count l ∷ loads_of (written_indexes m k) m.maus rest) none
  repeat-back count (Literal bytes ∷ []) rest fit inside none =
      let c = w.number shortest count in
      let n = w.number shortest (length bytes) in
      let one = length-append c (0xED ∷ n) in
      ap (λ (l : List ℕ). Repeat count (Literal l ∷ []) ∷ loads_of (written_indexes m k) m.maus rest)
      (text-last (0xF7 ∷ (c ++ 0xED ∷ (n ++ bytes))) (0xF7 ∷ (c ++ 0xED ∷ n)) bytes (1 + length c + 1 + length n)
      (ap (λ (l : List ℕ). 0xF7 ∷ l) (sym (append_assoc c (0xED ∷ n) bytes))) (omega (arith, one)))
  repeat-back count (Field kind size value ∷ []) rest fit inside none =
      let items = items-alone (Field kind size value ∷ []) rest fit inside none in
      ap (λ (l : List Item). Repeat count l ∷ loads_of (written_indexes m k) m.maus rest) items
  repeat-back count (first ∷ second ∷ more) rest fit inside none =
      let items = items-alone (first ∷ second ∷ more) rest fit inside none in
      let silent = items-silent (first ∷ second ∷ more) rest in
      λ i. Repeat count (items i) ∷ silent i

  load-back : (load : Load) (rest : List SpelledRecord) → IsFittingLoad load → has_bad_place (counts_of m) load ≡ false
      → items_at_prefix (written_indexes m k) m.maus rest ≡ []
      → loads_of (written_indexes m k) m.maus (load_records load ++ rest) ≡ load ∷ loads_of (written_indexes m k) m.maus rest
  load-back (SetSection section) rest fits inside none =
      let parts = or_parts (names_no_section (counts_of m) (SetSection section)) false inside in
      let place = position_in-counting 1 (length m.sections) section (leb-false (length m.sections) section parts.0) in
      ap (λ (p : ℕ). SetSection p ∷ loads_of (written_indexes m k) m.maus rest) place
  load-back (SetPc section value) rest fits inside none =
      let parts = or_parts (names_no_section (counts_of m) (SetPc section value)) (names_outside (counts_of m) value) inside in
      let place = position_in-counting 1 (length m.sections) section (leb-false (length m.sections) section parts.0) in
      let i = w.number shortest (section_index section) in
      let e = w.expression shortest value in
      let tree = tree-back m k value _ fits.1 parts.1 (text-last (0xE2 ∷ 0xD0 ∷ (i ++ e)) (0xE2 ∷ 0xD0 ∷ i) e (2 + length i) refl (omega arith)) in
      λ j. SetPc (place j) (tree j) ∷ loads_of (written_indexes m k) m.maus rest
  load-back (One item) rest fits inside none = single-back item rest fits inside none
  load-back (Repeat count items) rest fits inside none = repeat-back count items rest fits.1 inside none

  pub loads-back : (loads : List Load) → AllByRecursion IsFittingLoad loads → list_any (has_bad_place (counts_of m)) loads ≡ false
      → loads_of (written_indexes m k) m.maus (loads_records loads) ≡ loads
  loads-back [] fit inside = refl
  loads-back (load ∷ loads) fit inside =
      let parts = or_parts (has_bad_place (counts_of m) load) (list_any (has_bad_place (counts_of m)) loads) inside in
      load-back load (loads_records loads) fit.0 parts.0 (none-first loads) ∙ ap (λ (l : List Load). load ∷ l) (loads-back loads fit.1 parts.1)

  pub start-back : (start : Option Tree) → IsFittingStart start → any_of (names_outside (counts_of m)) start ≡ false
      → starts_of (written_indexes m k) (start_records start) ≡ option_to_list start
  start-back None fits inside = refl
  start-back (Some value) fits inside =
      let e = w.expression shortest value in
      ap (λ (t : Tree). t ∷ []) (tree-back m k value _ fits inside
      (text-between (0xE2 ∷ 0xC7 ∷ 0xBE ∷ (e ++ 0xBF ∷ [])) (0xE2 ∷ 0xC7 ∷ 0xBE ∷ []) e (0xBF ∷ []) 3 refl refl))
