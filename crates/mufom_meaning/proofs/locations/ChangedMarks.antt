-- Debug items with other expressions and numbers, of the same shape.
use Rattle.std.proofs.Common.{◌≡◌, ℕ, List, [], ◌∷◌, ◌++◌, Option, map, refl, sym, ap, ◌∙◌, subst, rules, append_assoc}
use Rattle.std.proofs.lemmas.List.{map-append}
use Rattle.mufom_expr.specs.Tree.{Tree}
use Rattle.mufom_debug.specs.declared.item.Block.{Block}
use Rattle.mufom_debug.specs.declared.item.BlockHead.{BlockHead}
use Rattle.mufom_debug.specs.declared.item.DebugItem.{DebugItem, the_lemmas, ind-DebugItem}
use Rattle.mufom_debug.specs.declared.item.DebugItem.TheOpen.{Block-F, DebugItem-F}
use Rattle.mufom_debug.specs.declared.item.DebugItem.TheFolds as folds
use Rattle.mufom_debug.specs.declared.item.DebugItem.TheViews.{roll-DebugItem, roll-Block}
use Rattle.mufom_debug.specs.Marks.{DebugMark, block_begin, block_end, name_mark, note_mark, value_mark, joined, item_step, block_step, marks_of_item, marks_of}
use Rattle.mufom_module.specs.Contents.{HeadAndEnd, blocks_of_item, blocks_of, block_step as blocks_step, item_step as blocks_item_step}

abbrev marks_of_block : Block → List DebugMark
marks_of_block b = folds.fold-Block (List DebugMark) (List DebugMark) item_step block_step b

pub marks_of-append : (xs ys : List DebugItem) → marks_of (xs ++ ys) ≡ marks_of xs ++ marks_of ys
marks_of-append [] ys = refl
marks_of-append (x ∷ xs) ys = ap (λ rest. marks_of_item x ++ rest) (marks_of-append xs ys) ∙ sym (append_assoc (marks_of_item x) (marks_of xs) (marks_of ys))

abbrev blocks_of_block : Block → List HeadAndEnd
blocks_of_block b = folds.fold-Block (List HeadAndEnd) (List HeadAndEnd) blocks_item_step blocks_step b

pub blocks_of-append : (xs ys : List DebugItem) → blocks_of (xs ++ ys) ≡ blocks_of xs ++ blocks_of ys
blocks_of-append [] ys = refl
blocks_of-append (x ∷ xs) ys = ap (λ rest. blocks_of_item x ++ rest) (blocks_of-append xs ys)
    ∙ sym (append_assoc (blocks_of_item x) (blocks_of xs) (blocks_of ys))

module _ (head : BlockHead → BlockHead) (end : Option Tree → Option Tree) (place : ℕ → ℕ) (tree : Tree → Tree) where
  -- a mark with another head, end, place or expression
  abbrev pub changed : DebugMark → DebugMark
  changed (block_begin h name) = block_begin (head h) name
  changed (block_end e) = block_end (end e)
  changed (name_mark name) = name_mark name
  changed (note_mark name note) = note_mark (place name) note
  changed (value_mark name t) = value_mark (place name) (tree t)

  -- a block with another head and end
  abbrev pub changed_block : HeadAndEnd → HeadAndEnd
  changed_block block = (head block.0, end block.1)

  -- an item whose marks and blocks are the changed ones
  abbrev HasItem : List DebugMark × List HeadAndEnd → Type 0
  HasItem x = (item : DebugItem) × (marks_of_item item ≡ map changed x.0) × (blocks_of_item item ≡ map changed_block x.1)

  abbrev pub HasItems : List DebugMark × List HeadAndEnd → Type 0
  HasItems x = (items : List DebugItem) × (marks_of items ≡ map changed x.0) × (blocks_of items ≡ map changed_block x.1)

  abbrev Changes : DebugItem → Type 0
  Changes item = HasItem (marks_of_item item, blocks_of_item item)

  abbrev ChangesBlock : Block → Type 0
  ChangesBlock b = HasItem (marks_of_block b, blocks_of_block b)

  module _ (I B : Type 0) (item_of : I → DebugItem) (block_of : B → Block)
      (p : (e : I) → Changes (item_of e)) (q : (e : B) → ChangesBlock (block_of e)) where
    item_level : (y : DebugItem-F I B) → Changes (roll-DebugItem (folds.map-DebugItem I B DebugItem Block item_of block_of y))
    item_level (DebugItem-F.Block e) =
        let same : marks_of_item (roll-DebugItem (DebugItem-F.Block (block_of e))) ≡ marks_of_block (block_of e) = search (rules, the_lemmas) in
        let blocks : blocks_of_item (roll-DebugItem (DebugItem-F.Block (block_of e))) ≡ blocks_of_block (block_of e) = search (rules, the_lemmas) in
        subst HasItem (λ i. (sym same i, sym blocks i)) (q e)
    item_level (DebugItem-F.Name name) =
        let same : marks_of_item (roll-DebugItem (DebugItem-F.Name name)) ≡ name_mark name ∷ [] = search (rules, the_lemmas) in
        let blocks : blocks_of_item (roll-DebugItem (DebugItem-F.Name name)) ≡ [] = search (rules, the_lemmas) in
        (roll-DebugItem (DebugItem-F.Name name), same ∙ ap (map changed) (sym same), blocks ∙ ap (map changed_block) (sym blocks))
    item_level (DebugItem-F.Note name note) =
        let same : marks_of_item (roll-DebugItem (DebugItem-F.Note name note)) ≡ note_mark name note ∷ [] = search (rules, the_lemmas) in
        let there : marks_of_item (roll-DebugItem (DebugItem-F.Note (place name) note)) ≡ note_mark (place name) note ∷ [] = search (rules, the_lemmas) in
        let blocks : blocks_of_item (roll-DebugItem (DebugItem-F.Note name note)) ≡ [] = search (rules, the_lemmas) in
        let none : blocks_of_item (roll-DebugItem (DebugItem-F.Note (place name) note)) ≡ [] = search (rules, the_lemmas) in
        (roll-DebugItem (DebugItem-F.Note (place name) note), there ∙ ap (map changed) (sym same), none ∙ ap (map changed_block) (sym blocks))
    item_level (DebugItem-F.Value name t) =
        let same : marks_of_item (roll-DebugItem (DebugItem-F.Value name t)) ≡ value_mark name t ∷ [] = search (rules, the_lemmas) in
        let there : marks_of_item (roll-DebugItem (DebugItem-F.Value (place name) (tree t))) ≡ value_mark (place name) (tree t) ∷ [] =
        search (rules, the_lemmas) in
        let blocks : blocks_of_item (roll-DebugItem (DebugItem-F.Value name t)) ≡ [] = search (rules, the_lemmas) in
        let none : blocks_of_item (roll-DebugItem (DebugItem-F.Value (place name) (tree t))) ≡ [] = search (rules, the_lemmas) in
        (roll-DebugItem (DebugItem-F.Value (place name) (tree t)), there ∙ ap (map changed) (sym same), none ∙ ap (map changed_block) (sym blocks))

    items_level : (es : List I) → HasItems (joined (map marks_of_item (map item_of es)), joined (map blocks_of_item (map item_of es)))
    items_level [] = ([], refl, refl)
    items_level (e ∷ es) =
        let here = p e in let later = items_level es in (
          here.0 ∷ later.0,
          (λ i. here.1 i ++ later.1 i) ∙ sym (map-append changed (marks_of_item (item_of e)) (joined (map marks_of_item (map item_of es)))),
          (λ i. here.2 i ++ later.2 i) ∙ sym (map-append changed_block (blocks_of_item (item_of e)) (joined (map blocks_of_item (map item_of es)))),
        )

    block_level : (y : Block-F I B) → ChangesBlock (roll-Block (folds.map-Block I B DebugItem Block item_of block_of y))
    block_level y =
        let same : marks_of_block (roll-Block (folds.map-Block I B DebugItem Block item_of block_of y))
        ≡ block_step (record { head = y.head; name = y.name; items = map marks_of_item (map item_of y.items); end = y.end }) = search (rules, the_lemmas) in
        let blocks : blocks_of_block (roll-Block (folds.map-Block I B DebugItem Block item_of block_of y))
        ≡ blocks_step (record { head = y.head; name = y.name; items = map blocks_of_item (map item_of y.items); end = y.end }) = search (rules, the_lemmas) in
        let inner = items_level y.items in
        let new = roll-DebugItem (DebugItem-F.Block (roll-Block (record { head = head y.head; name = y.name; items = inner.0; end = end y.end }))) in
        let there : marks_of_item new ≡ block_begin (head y.head) y.name ∷ (marks_of inner.0 ++ block_end (end y.end) ∷ []) = search (rules, the_lemmas) in
        let its_blocks : blocks_of_item new ≡ (head y.head, end y.end) ∷ blocks_of inner.0 = search (rules, the_lemmas) in (
          new,
          there
              ∙ ap (λ marks. block_begin (head y.head) y.name ∷ (marks ++ block_end (end y.end) ∷ [])) inner.1
              ∙ ap (λ marks. block_begin (head y.head) y.name ∷ marks)
              (sym (map-append changed (joined (map marks_of_item (map item_of y.items))) (block_end y.end ∷ [])))
              ∙ ap (map changed) (sym same),
          its_blocks ∙ ap (λ blocks. (head y.head, end y.end) ∷ blocks) inner.2 ∙ ap (map changed_block) (sym blocks),
        )

  changed_item : (item : DebugItem) → Changes item
  changed_item = ind-DebugItem Changes ChangesBlock
      (λ x y is. subst (λ z. Changes (roll-DebugItem z)) is (item_level _ _ (λ e. e.0) (λ e. e.0) (λ e. e.1) (λ e. e.1) y))
      (λ x y is. subst (λ z. ChangesBlock (roll-Block z)) is (block_level _ _ (λ e. e.0) (λ e. e.0) (λ e. e.1) (λ e. e.1) y))

  -- there are items whose marks and blocks are the changed ones of these items
  pub changed_items : (items : List DebugItem) → HasItems (marks_of items, blocks_of items)
  changed_items [] = ([], refl, refl)
  changed_items (item ∷ items) =
      let here = changed_item item in let later = changed_items items in (
        here.0 ∷ later.0,
        (λ i. here.1 i ++ later.1 i) ∙ sym (map-append changed (marks_of_item item) (marks_of items)),
        (λ i. here.2 i ++ later.2 i) ∙ sym (map-append changed_block (blocks_of_item item) (blocks_of items)),
      )
