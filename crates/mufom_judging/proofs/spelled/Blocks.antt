-- The debug blocks of a valid module keep to the rules for blocks, record by record.
use Rattle.std.proofs.Common.{◌≡◌, ℕ, suc, ◌+◌, ◌-◌, ◌≤◌, ◌==◌, ◌&&◌, ◌||◌, nat_le, Bool, true, false, arith, List, [], ◌∷◌, ◌++◌, length, map}
use Rattle.std.proofs.Common.{Option, is_some, refl, sym, ap, subst, ◌∙◌, rules, append_assoc, append-nil}
use Rattle.std.specs.List.{list_any, cons_option, AllByRecursion}
use Rattle.std.proofs.lemmas.Bool.{or_parts}
use Rattle.std.proofs.lemmas.List.Folds.{list_any-append}
use Rattle.mufom_expr.specs.Tree.{Tree}
use Rattle.mufom_expr.specs.Spelled.{Indexes}
use Rattle.mufom_numbers.specs.declared.taken.Span.{Span}
use Rattle.mufom_records.specs.declared.record.BlockTail.{BlockTail}
use Rattle.mufom_records.specs.declared.record.Record.{Record}
use Rattle.mufom_records.specs.declared.record.Record.TheVariants as r
use Rattle.mufom_debug.specs.declared.item.Block.{Block}
use Rattle.mufom_debug.specs.declared.item.BlockHead.{BlockHead}
use Rattle.mufom_debug.specs.declared.item.DebugItem.{DebugItem, the_lemmas, ind-DebugItem}
use Rattle.mufom_debug.specs.declared.item.DebugItem.TheOpen.{Block-F, DebugItem-F}
use Rattle.mufom_debug.specs.declared.item.DebugItem.TheFolds as folds
use Rattle.mufom_debug.specs.declared.item.DebugItem.TheViews.{roll-DebugItem, roll-Block}
use Rattle.mufom_debug.specs.Marks.{DebugMark, block_begin, block_end, name_mark, note_mark, value_mark, joined, item_step, block_step, marks_of_item}
use Rattle.mufom_debug.specs.Marks.{marks_of, depth_from, depth_of, kind_number}
use Rattle.mufom_module.specs.Contents as contents
use Rattle.mufom_module.specs.Contents.{HeadAndEnd, blocks_of_item, blocks_of}
use Rattle.mufom_module.specs.SpelledRecords.{SpelledRecord, tree_in, positioned}
use Rattle.mufom_module.specs.Gathered.{mark_by, marks}
use Rattle.mufom_module.specs.Defects.{ends_plainly, has_bad_end}
use Rattle.mufom_judging.proofs.BlockKinds.{kinds_after, kinds_from, ends_badly_in, is_too_deep_in, NestFrom}
use Rattle.mufom_judging.proofs.ended.Rows.{IsShort}
use Rattle.mufom_judging.proofs.ended.Blocks.{kind_of_head, plain_kind, mapped_some}

-- ---- ends

-- If blocks of these kinds are open, each end in the debug records closes one whose kind allows it, and none is open after them.
abbrev pub EndsWell : List ℕ → List DebugMark → Type 0
EndsWell kinds (block_begin head name ∷ marks) = EndsWell (kind_number head ∷ kinds) marks
EndsWell kinds [] = kinds ≡ []
EndsWell [] (block_end end ∷ marks) = ⊥
EndsWell (k ∷ kinds) (block_end end ∷ marks) = ((is_some end && ((k == 3) || (k == 5))) ≡ false) × EndsWell kinds marks
EndsWell kinds (name_mark name ∷ marks) = EndsWell kinds marks
EndsWell kinds (note_mark name note ∷ marks) = EndsWell kinds marks
EndsWell kinds (value_mark name value ∷ marks) = EndsWell kinds marks

-- the debug records of items with these blocks, none of which ends badly, leave the open blocks as they were
abbrev Well : List DebugMark → List HeadAndEnd → Type 0
Well marks blocks = list_any has_bad_end blocks ≡ false → (kinds : List ℕ) (rest : List DebugMark) → EndsWell kinds rest → EndsWell kinds (marks ++ rest)

none : Well [] []
none h kinds rest g = g

both : (xs ys : List DebugMark) (bs cs : List HeadAndEnd) → Well xs bs → Well ys cs → Well (xs ++ ys) (bs ++ cs)
both xs ys bs cs p q h kinds rest g =
    let parts = or_parts (list_any has_bad_end bs) (list_any has_bad_end cs) (sym (list_any-append has_bad_end bs cs) ∙ h) in
    subst (λ (l : List DebugMark). EndsWell kinds l) (sym (append_assoc xs ys rest)) (p parts.0 kinds (ys ++ rest) (q parts.1 kinds rest g))

commuted : (a b : Bool) → (a && b) ≡ false → (b && a) ≡ false
commuted true true h = h
commuted true false h = refl
commuted false true h = refl
commuted false false h = refl

end_fits : (head : BlockHead) (end : Option Tree) → has_bad_end (head, end) ≡ false
    → (is_some end && ((kind_number head == 3) || (kind_number head == 5))) ≡ false
end_fits head end h = ap (λ a. is_some end && a) (sym (plain_kind head)) ∙ commuted (ends_plainly head) (is_some end) h

in_block : (head : BlockHead) (name : List ℕ) (xs : List DebugMark) (bs : List HeadAndEnd) (end : Option Tree) → Well xs bs
    → Well ((block_begin head name ∷ xs) ++ block_end end ∷ []) ((head, end) ∷ bs)
in_block head name xs bs end p h kinds rest g =
    let parts = or_parts (has_bad_end (head, end)) (list_any has_bad_end bs) h in
    subst (λ (l : List DebugMark). EndsWell (kind_number head ∷ kinds) l) (sym (append_assoc xs (block_end end ∷ []) rest))
    (p parts.1 (kind_number head ∷ kinds) (block_end end ∷ rest) (end_fits head end parts.0, g))

well_by : (xs ys : List DebugMark) (bs cs : List HeadAndEnd) → xs ≡ ys → bs ≡ cs → Well xs bs → Well ys cs
well_by xs ys bs cs same found w = subst (λ (l : List DebugMark). Well l cs) same (subst (λ (l : List HeadAndEnd). Well xs l) found w)

-- ---- items

-- the marks of a block, which a fold gives
abbrev marks_of_block : Block → List DebugMark
marks_of_block b = folds.fold-Block (List DebugMark) (List DebugMark) item_step block_step b

-- the blocks of a block, which a fold gives
abbrev blocks_of_block : Block → List HeadAndEnd
blocks_of_block b = folds.fold-Block (List HeadAndEnd) (List HeadAndEnd) contents.item_step contents.block_step b

module _ (I B : Type 0) (item_of : I → DebugItem) (block_of : B → Block)
    (p : (e : I) → Well (marks_of_item (item_of e)) (blocks_of_item (item_of e)))
    (q : (e : B) → Well (marks_of_block (block_of e)) (blocks_of_block (block_of e))) where
  item_level : (y : DebugItem-F I B) → let item = roll-DebugItem (folds.map-DebugItem I B DebugItem Block item_of block_of y) in
      Well (marks_of_item item) (blocks_of_item item)
  item_level (DebugItem-F.Block e) =
      let same : marks_of_item (roll-DebugItem (DebugItem-F.Block (block_of e))) ≡ marks_of_block (block_of e) = search (rules, the_lemmas) in
      let found : blocks_of_item (roll-DebugItem (DebugItem-F.Block (block_of e))) ≡ blocks_of_block (block_of e) = search (rules, the_lemmas) in
      well_by _ _ _ _ (sym same) (sym found) (q e)
  item_level (DebugItem-F.Name name) =
      let same : marks_of_item (roll-DebugItem (DebugItem-F.Name name)) ≡ name_mark name ∷ [] = search (rules, the_lemmas) in
      let found : blocks_of_item (roll-DebugItem (DebugItem-F.Name name)) ≡ [] = search (rules, the_lemmas) in
      well_by (name_mark name ∷ []) _ [] _ (sym same) (sym found) (λ h kinds rest g. g)
  item_level (DebugItem-F.Note name note) =
      let same : marks_of_item (roll-DebugItem (DebugItem-F.Note name note)) ≡ note_mark name note ∷ [] = search (rules, the_lemmas) in
      let found : blocks_of_item (roll-DebugItem (DebugItem-F.Note name note)) ≡ [] = search (rules, the_lemmas) in
      well_by (note_mark name note ∷ []) _ [] _ (sym same) (sym found) (λ h kinds rest g. g)
  item_level (DebugItem-F.Value name value) =
      let same : marks_of_item (roll-DebugItem (DebugItem-F.Value name value)) ≡ value_mark name value ∷ [] = search (rules, the_lemmas) in
      let found : blocks_of_item (roll-DebugItem (DebugItem-F.Value name value)) ≡ [] = search (rules, the_lemmas) in
      well_by (value_mark name value ∷ []) _ [] _ (sym same) (sym found) (λ h kinds rest g. g)

  items_level : (es : List I) → Well (joined (map marks_of_item (map item_of es))) (joined (map blocks_of_item (map item_of es)))
  items_level [] = none
  items_level (e ∷ es) =
      both (marks_of_item (item_of e)) (joined (map marks_of_item (map item_of es))) (blocks_of_item (item_of e))
      (joined (map blocks_of_item (map item_of es))) (p e) (items_level es)

  block_level : (y : Block-F I B) → let block = roll-Block (folds.map-Block I B DebugItem Block item_of block_of y) in
      Well (marks_of_block block) (blocks_of_block block)
  block_level y =
      let block = roll-Block (folds.map-Block I B DebugItem Block item_of block_of y) in
      let same : marks_of_block block
      ≡ block_step (record { head = y.head; name = y.name; items = map marks_of_item (map item_of y.items); end = y.end }) = search (rules, the_lemmas) in
      let found : blocks_of_block block
      ≡ contents.block_step (record { head = y.head; name = y.name; items = map blocks_of_item (map item_of y.items); end = y.end }) =
      search (rules, the_lemmas) in
      well_by _ _ _ _ (sym same) (sym found)
      (in_block y.head y.name (joined (map marks_of_item (map item_of y.items))) (joined (map blocks_of_item (map item_of y.items))) y.end
      (items_level y.items))

well_item : (item : DebugItem) → Well (marks_of_item item) (blocks_of_item item)
well_item = ind-DebugItem (λ item. Well (marks_of_item item) (blocks_of_item item)) (λ b. Well (marks_of_block b) (blocks_of_block b))
    (λ x y is. subst (λ z. Well (marks_of_item (roll-DebugItem z)) (blocks_of_item (roll-DebugItem z))) is
    (item_level _ _ (λ e. e.0) (λ e. e.0) (λ e. e.1) (λ e. e.1) y))
    (λ x y is. subst (λ z. Well (marks_of_block (roll-Block z)) (blocks_of_block (roll-Block z))) is
    (block_level _ _ (λ e. e.0) (λ e. e.0) (λ e. e.1) (λ e. e.1) y))

well_items : (items : List DebugItem) → Well (marks_of items) (blocks_of items)
well_items [] = none
well_items (item ∷ items) = both (marks_of_item item) (marks_of items) (blocks_of_item item) (blocks_of items) (well_item item) (well_items items)

-- ---- records

-- the records keep to the rules for blocks, and leave none open
abbrev pub NestWell : List ℕ → List SpelledRecord → Type 0
NestWell kinds records = NestFrom kinds records × (kinds_from kinds records ≡ [])

le-depth : (opened : ℕ) (marks : List DebugMark) → opened ≤ depth_from opened marks
le-depth opened [] = omega arith
le-depth opened (mark ∷ marks) = omega arith

not_yet : (n : ℕ) → suc n ≤ 32 → nat_le 32 n ≡ false
not_yet n h = grind arith

next_depth : (n : ℕ) → suc n ≡ n + 1
next_depth n = omega arith

no_end : (kinds : List ℕ) (kind n : ℕ) (name : Span) (block : BlockTail) → ends_badly_in kinds (r.BlockBegin kind n name block) ≡ false
no_end [] kind n name block = refl
no_end (k ∷ kinds) kind n name block = refl

-- what a record that keeps to them leaves to be shown of the records after it
abbrev Onward : List ℕ → List DebugMark → Type 0 → Type 0
Onward kinds rest C = EndsWell kinds rest → depth_from (length kinds) rest ≤ 32 → C

nest_row : (ix : Indexes) (kinds : List ℕ) (p : SpelledRecord) (row : Record) (rest : List DebugMark) (C : Type 0) → IsShort row
    → EndsWell kinds (cons_option (mark_by ix p row) rest)
    → depth_from (length kinds) (cons_option (mark_by ix p row) rest) ≤ 32 → Onward (kinds_after kinds row) rest C → (ends_badly_in kinds row ≡ false)
    × (is_too_deep_in kinds row ≡ false) × C
nest_row ix kinds p (r.BlockBegin kind n name block) rest C short ends deep onward =
    let low = le-depth (length kinds + 1) rest in
    let same = ap (λ (k : ℕ). depth_from k rest) (next_depth (length kinds)) in (
      no_end kinds kind n name block,
      not_yet (length kinds) (omega (arith, low, deep)),
      onward (subst (λ (k : ℕ). EndsWell (k ∷ kinds) rest) (kind_of_head ix p kind block short.1) ends) (omega (arith, low, deep, same)),
    )
nest_row ix [] p (r.BlockEnd value) rest C short ends deep onward = absurd ends
nest_row ix (k ∷ kinds) p (r.BlockEnd value) rest C short ends deep onward =
    let same = ap (λ (n : ℕ). depth_from n rest) (one_less (length kinds)) in (
      ap (λ b. b && ((k == 3) || (k == 5))) (sym (mapped_some (λ span. positioned ix (tree_in p span)) value)) ∙ ends.0,
      refl,
      onward ends.1 (omega (arith, deep, same)),
    )
  where
    one_less : (n : ℕ) → n ≡ suc n - 1
    one_less n = omega arith
nest_row ix [] p (r.DebugName i name) rest C short ends deep onward = (refl, refl, onward ends (omega (arith, deep)))
nest_row ix (k ∷ kinds) p (r.DebugName i name) rest C short ends deep onward = (refl, refl, onward ends (omega (arith, deep)))
nest_row ix [] p (r.DebugValue i value) rest C short ends deep onward = (refl, refl, onward ends (omega (arith, deep)))
nest_row ix (k ∷ kinds) p (r.DebugValue i value) rest C short ends deep onward = (refl, refl, onward ends (omega (arith, deep)))
nest_row ix [] p (r.DebugNote i type_index attribute ns) rest C short ends deep onward = (refl, refl, onward ends (omega (arith, deep)))
nest_row ix (k ∷ kinds) p (r.DebugNote i type_index attribute ns) rest C short ends deep onward = (refl, refl, onward ends (omega (arith, deep)))
nest_row ix [] p row rest C short ends deep onward = (refl, refl, onward ends deep)
nest_row ix (k ∷ kinds) p row rest C short ends deep onward = (refl, refl, onward ends deep)

nest_all : (ix : Indexes) (kinds : List ℕ) (records : List SpelledRecord) → AllByRecursion (λ p. IsShort p.row) records
    → EndsWell kinds (marks ix records) → depth_from (length kinds) (marks ix records) ≤ 32 → NestWell kinds records
nest_all ix kinds [] short ends deep = (tt, ends)
nest_all ix kinds (p ∷ records) short ends deep =
    let both = nest_row ix kinds p p.row (marks ix records) (NestWell (kinds_after kinds p.row) records) short.0 ends deep
    (λ e d. nest_all ix (kinds_after kinds p.row) records short.1 e d) in
    ((both.0, both.1, both.2.0), both.2.1)

-- Records with the debug records of items, whose blocks all end well and are nested at most 32 deep.
pub nest_items : (ix : Indexes) (records : List SpelledRecord) (items : List DebugItem) → marks_of items ≡ marks ix records
    → list_any has_bad_end (blocks_of items) ≡ false → depth_of (marks_of items) ≤ 32
    → AllByRecursion (λ p. IsShort p.row) records → NestWell [] records
nest_items ix records items same good deep short =
    nest_all ix [] records short
    (subst (λ (l : List DebugMark). EndsWell [] l) (append-nil (marks_of items) ∙ same) (well_items items good [] [] refl))
    (subst (λ (l : List DebugMark). depth_from 0 l ≤ 32) same deep)
