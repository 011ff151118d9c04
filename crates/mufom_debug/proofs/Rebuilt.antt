-- Marks determine the items: each end closes the innermost open block.
use Rattle.std.proofs.Common.{◌≡◌, ℕ, List, [], ◌∷◌, ◌++◌, Option, map, refl, sym, ap, ◌∙◌, subst, rules, append_assoc, append-nil}
use Rattle.mufom_expr.specs.Tree.{Tree}
use Rattle.mufom_debug.specs.declared.item.Block.{Block}
use Rattle.mufom_debug.specs.declared.item.BlockHead.{BlockHead}
use Rattle.mufom_debug.specs.declared.item.DebugItem.{DebugItem, the_lemmas, ind-DebugItem}
use Rattle.mufom_debug.specs.declared.item.DebugItem.TheOpen.{Block-F, DebugItem-F}
use Rattle.mufom_debug.specs.declared.item.DebugItem.TheFolds as folds
use Rattle.mufom_debug.specs.declared.item.DebugItem.TheViews.{roll-DebugItem, roll-Block}
use Rattle.mufom_debug.specs.Marks.{DebugMark, block_begin, block_end, name_mark, note_mark, value_mark, joined, item_step, block_step, marks_of_item, marks_of}

-- a block that is begun and not ended, with the items before it at its level
pub record Begun : Type 0 where
  pub before : List DebugItem
  pub head : BlockHead
  pub name : List ℕ

-- the item of a block
abbrev pub block_item : BlockHead → List ℕ → List DebugItem → Option Tree → DebugItem
block_item head name items end = roll-DebugItem (DebugItem-F.Block (roll-Block (record { head = head; name = name; items = items; end = end })))

-- the items that are rebuilt from marks, after those of this level and inside the open blocks, the innermost first
abbrev pub rebuilt : List DebugMark → List DebugItem → List Begun → List DebugItem
rebuilt [] items outer = items
rebuilt (block_begin head name ∷ marks) items outer = rebuilt marks [] (record { before = items; head = head; name = name } ∷ outer)
rebuilt (block_end end ∷ marks) items [] = rebuilt marks items []
rebuilt (block_end end ∷ marks) items (begun ∷ outer) = rebuilt marks (begun.before ++ block_item begun.head begun.name items end ∷ []) outer
rebuilt (name_mark name ∷ marks) items outer = rebuilt marks (items ++ roll-DebugItem (DebugItem-F.Name name) ∷ []) outer
rebuilt (note_mark name note ∷ marks) items outer = rebuilt marks (items ++ roll-DebugItem (DebugItem-F.Note name note) ∷ []) outer
rebuilt (value_mark name value ∷ marks) items outer = rebuilt marks (items ++ roll-DebugItem (DebugItem-F.Value name value) ∷ []) outer

-- the item can be rebuilt from the marks, whatever is before and after them
abbrev Gives : List DebugMark → DebugItem → Type 0
Gives marks item = (rest : List DebugMark) (items : List DebugItem) (outer : List Begun) → rebuilt (marks ++ rest) items outer
    ≡ rebuilt rest (items ++ item ∷ []) outer

-- the same for a list of items
abbrev GiveAll : List DebugMark → List DebugItem → Type 0
GiveAll marks more = (rest : List DebugMark) (items : List DebugItem) (outer : List Begun) → rebuilt (marks ++ rest) items outer
    ≡ rebuilt rest (items ++ more) outer

-- the marks of a block, which a fold gives
abbrev marks_of_block : Block → List DebugMark
marks_of_block b = folds.fold-Block (List DebugMark) (List DebugMark) item_step block_step b

none_given : GiveAll [] []
none_given rest items outer = ap (λ all. rebuilt rest all outer) (sym (append-nil items))

more_given : (marks more : List DebugMark) (item : DebugItem) (others : List DebugItem) → Gives marks item → GiveAll more others
    → GiveAll (marks ++ more) (item ∷ others)
more_given marks more item others p q rest items outer =
    ap (λ all. rebuilt all items outer) (append_assoc marks more rest) ∙ p (more ++ rest) items outer ∙ q rest (items ++ item ∷ []) outer
    ∙ ap (λ all. rebuilt rest all outer) (append_assoc items (item ∷ []) others)

block_given : (head : BlockHead) (name : List ℕ) (marks : List DebugMark) (inner : List DebugItem) (end : Option Tree) → GiveAll marks inner
    → Gives ((block_begin head name ∷ marks) ++ block_end end ∷ []) (block_item head name inner end)
block_given head name marks inner end p rest items outer =
    let begun : Begun = record { before = items; head = head; name = name } in
    ap (λ all. rebuilt all [] (begun ∷ outer)) (append_assoc marks (block_end end ∷ []) rest) ∙ p (block_end end ∷ rest) [] (begun ∷ outer)

module _ (I B : Type 0) (item_of : I → DebugItem) (block_of : B → Block)
    (p : (e : I) → Gives (marks_of_item (item_of e)) (item_of e))
    (q : (e : B) → Gives (marks_of_block (block_of e)) (roll-DebugItem (DebugItem-F.Block (block_of e)))) where
  item_level : (y : DebugItem-F I B) → let item = roll-DebugItem (folds.map-DebugItem I B DebugItem Block item_of block_of y) in Gives (marks_of_item item) item
  item_level (DebugItem-F.Block e) =
      let same : marks_of_item (roll-DebugItem (DebugItem-F.Block (block_of e))) ≡ marks_of_block (block_of e) = search (rules, the_lemmas) in
      subst (λ marks. Gives marks (roll-DebugItem (DebugItem-F.Block (block_of e)))) (sym same) (q e)
  item_level (DebugItem-F.Name name) =
      let same : marks_of_item (roll-DebugItem (DebugItem-F.Name name)) ≡ name_mark name ∷ [] = search (rules, the_lemmas) in
      subst (λ marks. Gives marks (roll-DebugItem (DebugItem-F.Name name))) (sym same) (λ rest items outer. refl)
  item_level (DebugItem-F.Note name note) =
      let same : marks_of_item (roll-DebugItem (DebugItem-F.Note name note)) ≡ note_mark name note ∷ [] = search (rules, the_lemmas) in
      subst (λ marks. Gives marks (roll-DebugItem (DebugItem-F.Note name note))) (sym same) (λ rest items outer. refl)
  item_level (DebugItem-F.Value name value) =
      let same : marks_of_item (roll-DebugItem (DebugItem-F.Value name value)) ≡ value_mark name value ∷ [] = search (rules, the_lemmas) in
      subst (λ marks. Gives marks (roll-DebugItem (DebugItem-F.Value name value))) (sym same) (λ rest items outer. refl)

  items_level : (es : List I) → GiveAll (joined (map marks_of_item (map item_of es))) (map item_of es)
  items_level [] = none_given
  items_level (e ∷ es) = more_given (marks_of_item (item_of e)) (joined (map marks_of_item (map item_of es))) (item_of e) (map item_of es) (p e)
      (items_level es)

  block_level : (y : Block-F I B) → let block = roll-Block (folds.map-Block I B DebugItem Block item_of block_of y) in
      Gives (marks_of_block block) (roll-DebugItem (DebugItem-F.Block block))
  block_level y =
      let block = roll-Block (folds.map-Block I B DebugItem Block item_of block_of y) in
      let same : marks_of_block block
      ≡ block_step (record { head = y.head; name = y.name; items = map marks_of_item (map item_of y.items); end = y.end }) = search (rules, the_lemmas) in
      subst (λ marks. Gives marks (roll-DebugItem (DebugItem-F.Block block))) (sym same)
      (block_given y.head y.name (joined (map marks_of_item (map item_of y.items))) (map item_of y.items) y.end (items_level y.items))

-- an item can be rebuilt from its marks
item_given : (item : DebugItem) → Gives (marks_of_item item) item
item_given = ind-DebugItem (λ item. Gives (marks_of_item item) item) (λ b. Gives (marks_of_block b) (roll-DebugItem (DebugItem-F.Block b)))
    (λ x y is. subst (λ z. Gives (marks_of_item (roll-DebugItem z)) (roll-DebugItem z)) is (item_level _ _ (λ e. e.0) (λ e. e.0) (λ e. e.1) (λ e. e.1) y))
    (λ x y is. subst (λ z. Gives (marks_of_block (roll-Block z)) (roll-DebugItem (DebugItem-F.Block (roll-Block z)))) is
    (block_level _ _ (λ e. e.0) (λ e. e.0) (λ e. e.1) (λ e. e.1) y))

items_given : (items : List DebugItem) → GiveAll (marks_of items) items
items_given [] = none_given
items_given (item ∷ items) = more_given (marks_of_item item) (marks_of items) item items (item_given item) (items_given items)

-- the items can be rebuilt from their marks, read from the first one with no block open
read_back : (items : List DebugItem) → rebuilt (marks_of items) [] [] ≡ items
read_back items = ap (λ marks. rebuilt marks [] []) (sym (append-nil (marks_of items))) ∙ items_given items [] [] []

-- items with the same marks are the same
pub same_items : (a b : List DebugItem) → marks_of a ≡ marks_of b → a ≡ b
same_items a b same = sym (read_back a) ∙ ap (λ marks. rebuilt marks [] []) same ∙ read_back b
