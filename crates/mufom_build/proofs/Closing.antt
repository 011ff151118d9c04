-- The marks of items end each block that they begin.
use Rattle.std.proofs.Common.{◌≡◌, ℕ, suc, true, List, [], ◌∷◌, ◌++◌, map, refl, sym, ap, subst, ◌∙◌, rules, append_assoc, append-nil}
use Rattle.mufom_expr.specs.Tree.{Tree}
use Rattle.mufom_names.specs.declared.name.Note.{Note}
use Rattle.mufom_debug.specs.declared.item.Block.{Block}
use Rattle.mufom_debug.specs.declared.item.DebugItem.{DebugItem, the_lemmas, ind-DebugItem}
use Rattle.mufom_debug.specs.declared.item.DebugItem.TheOpen.{Block-F, DebugItem-F}
use Rattle.mufom_debug.specs.declared.item.DebugItem.TheFolds as folds
use Rattle.mufom_debug.specs.declared.item.DebugItem.TheViews.{roll-DebugItem, roll-Block}
use Rattle.mufom_debug.specs.Marks.{DebugMark, block_end, name_mark, note_mark, value_mark, closes, joined, item_step, block_step}
use Rattle.mufom_debug.specs.Marks.{marks_of_item, marks_of}

-- after the marks as many blocks are open as before them
pub record AreClosed (marks : List DebugMark) : Type 0 where
  pub close : (opened : ℕ) (rest : List DebugMark) → closes opened (marks ++ rest) ≡ closes opened rest

-- the marks of a block, which a fold gives
abbrev marks_of_block : Block → List DebugMark
marks_of_block b = folds.fold-Block (List DebugMark) (List DebugMark) item_step block_step b

none : AreClosed []
none = record { close = λ opened rest. refl }

name_closed : (name : List ℕ) → AreClosed (name_mark name ∷ [])
name_closed name = record { close = λ opened rest. refl }

note_closed : (name : ℕ) (note : Note) → AreClosed (note_mark name note ∷ [])
note_closed name note = record { close = λ opened rest. refl }

value_closed : (name : ℕ) (value : Tree) → AreClosed (value_mark name value ∷ [])
value_closed name value = record { close = λ opened rest. refl }

both : (xs ys : List DebugMark) → AreClosed xs → AreClosed ys → AreClosed (xs ++ ys)
both xs ys p q = record { close = λ opened rest. ap (closes opened) (append_assoc xs ys rest) ∙ p.close opened (ys ++ rest) ∙ q.close opened rest }

in_block : (b : Block-F (List DebugMark) (List DebugMark)) → AreClosed (joined b.items) → AreClosed (block_step b)
in_block b p = record {
  close = λ opened rest.
      ap (λ all. closes (suc opened) all) (append_assoc (joined b.items) (block_end b.end ∷ []) rest) ∙ p.close (suc opened) (block_end b.end ∷ rest);
}

module _ (I B : Type 0) (item_of : I → DebugItem) (block_of : B → Block)
    (p : (e : I) → AreClosed (marks_of_item (item_of e))) (q : (e : B) → AreClosed (marks_of_block (block_of e))) where
  item_level : (y : DebugItem-F I B) → AreClosed (marks_of_item (roll-DebugItem (folds.map-DebugItem I B DebugItem Block item_of block_of y)))
  item_level (DebugItem-F.Block e) =
      let same : marks_of_item (roll-DebugItem (DebugItem-F.Block (block_of e))) ≡ marks_of_block (block_of e) = search (rules, the_lemmas) in
      subst AreClosed (sym same) (q e)
  item_level (DebugItem-F.Name name) =
      let same : marks_of_item (roll-DebugItem (DebugItem-F.Name name)) ≡ name_mark name ∷ [] = search (rules, the_lemmas) in
      subst AreClosed (sym same) (name_closed name)
  item_level (DebugItem-F.Note name note) =
      let same : marks_of_item (roll-DebugItem (DebugItem-F.Note name note)) ≡ note_mark name note ∷ [] = search (rules, the_lemmas) in
      subst AreClosed (sym same) (note_closed name note)
  item_level (DebugItem-F.Value name value) =
      let same : marks_of_item (roll-DebugItem (DebugItem-F.Value name value)) ≡ value_mark name value ∷ [] = search (rules, the_lemmas) in
      subst AreClosed (sym same) (value_closed name value)

  items_level : (es : List I) → AreClosed (joined (map marks_of_item (map item_of es)))
  items_level [] = none
  items_level (e ∷ es) = both (marks_of_item (item_of e)) (joined (map marks_of_item (map item_of es))) (p e) (items_level es)

  block_level : (y : Block-F I B) → AreClosed (marks_of_block (roll-Block (folds.map-Block I B DebugItem Block item_of block_of y)))
  block_level y =
      let same : marks_of_block (roll-Block (folds.map-Block I B DebugItem Block item_of block_of y))
      ≡ block_step (record { head = y.head; name = y.name; items = map marks_of_item (map item_of y.items); end = y.end }) = search (rules, the_lemmas) in
      subst AreClosed (sym same) (in_block (record { head = y.head; name = y.name; items = map marks_of_item (map item_of y.items); end = y.end })
      (items_level y.items))

item_closed : (item : DebugItem) → AreClosed (marks_of_item item)
item_closed = ind-DebugItem (λ item. AreClosed (marks_of_item item)) (λ b. AreClosed (marks_of_block b))
    (λ x y is. subst (λ z. AreClosed (marks_of_item (roll-DebugItem z))) is (item_level _ _ (λ e. e.0) (λ e. e.0) (λ e. e.1) (λ e. e.1) y))
    (λ x y is. subst (λ z. AreClosed (marks_of_block (roll-Block z))) is (block_level _ _ (λ e. e.0) (λ e. e.0) (λ e. e.1) (λ e. e.1) y))

items_closed : (items : List DebugItem) → AreClosed (marks_of items)
items_closed [] = none
items_closed (item ∷ items) = both (marks_of_item item) (marks_of items) (item_closed item) (items_closed items)

-- where no block is open, the marks of items end each block that they begin
pub items_close : (items : List DebugItem) → closes 0 (marks_of items) ≡ true
items_close items = ap (closes 0) (sym (append-nil (marks_of items))) ∙ (items_closed items).close 0 []
