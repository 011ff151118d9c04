-- After items as many blocks are open as before them, and what follows for their depth.
use Rattle.std.proofs.Common.{◌≡◌, ℕ, ◌+◌, ◌-◌, ◌≤◌, max, List, [], ◌∷◌, ◌++◌, map, length, take, get_or, zero, suc, ◌<◌, sym, ap, ◌∙◌, subst, rules}
use Rattle.std.proofs.Common.{arith, append_assoc}
use Rattle.mufom_debug.specs.declared.item.DebugItem.{DebugItem, Block as block_case, the_lemmas, ind-DebugItem}
use Rattle.mufom_expr.specs.Tree.{Tree}
use Rattle.mufom_names.specs.declared.name.Note.{Note}
use Rattle.mufom_debug.specs.declared.item.Block.{Block}
use Rattle.mufom_debug.specs.declared.item.DebugItem.TheOpen.{Block-F, DebugItem-F}
use Rattle.mufom_debug.specs.declared.item.DebugItem.TheFolds as folds
use Rattle.mufom_debug.specs.declared.item.DebugItem.TheViews.{roll-DebugItem, roll-Block}
use Rattle.mufom_debug.specs.Marks.{DebugMark, block_end, name_mark, note_mark, value_mark, joined, item_step, block_step, marks_of_item, marks_of}
use Rattle.mufom_debug.specs.Marks.{depth_from, depth_of, IsBalanced}
use Rattle.mufom_debug.proofs.MarksLemmas.{marks-Block, marks_of_more}

le-depth_from : (opened : ℕ) (marks : List DebugMark) → opened ≤ depth_from opened marks
le-depth_from opened [] = omega arith
le-depth_from opened (mark ∷ marks) = omega arith

-- the marks of a block, which a fold gives
abbrev marks_of_block : Block → List DebugMark
marks_of_block b = folds.fold-Block (List DebugMark) (List DebugMark) item_step block_step b

none : IsBalanced []
none = record { deep = λ opened rest. let least = le-depth_from opened rest in omega arith }

name_alone : (name : List ℕ) → IsBalanced (name_mark name ∷ [])
name_alone name = record { deep = λ opened rest. let least = le-depth_from opened rest in omega arith }

note_alone : (name : ℕ) (note : Note) → IsBalanced (note_mark name note ∷ [])
note_alone name note = record { deep = λ opened rest. let least = le-depth_from opened rest in omega arith }

value_alone : (name : ℕ) (value : Tree) → IsBalanced (value_mark name value ∷ [])
value_alone name value = record { deep = λ opened rest. let least = le-depth_from opened rest in omega arith }

both : (xs ys : List DebugMark) → IsBalanced xs → IsBalanced ys → IsBalanced (xs ++ ys)
both xs ys p q = record {
  deep = λ opened rest.
      let whole = p.deep 0 ys in
      ap (depth_from opened) (append_assoc xs ys rest) ∙ p.deep opened (ys ++ rest) ∙ ap (max (opened + depth_of xs)) (q.deep opened rest)
      ∙ joined_max opened (depth_of xs) (depth_of ys) (depth_from opened rest)
      ∙ ap (λ n. max (opened + n) (depth_from opened rest)) (sym whole);
}
  where
    joined_max : (n a b c : ℕ) → max (n + a) (max (n + b) c) ≡ max (n + max (0 + a) b) c
    joined_max n a b c = omega arith

in_block : (b : Block-F (List DebugMark) (List DebugMark)) → IsBalanced (joined b.items) → IsBalanced (block_step b)
in_block b p = record {
  deep = λ opened rest.
      let inner = joined b.items in
      let end = block_end b.end in
      let depth = depth_of inner in
      ap (λ all. max opened (depth_from (opened + 1) all)) (append_assoc inner (end ∷ []) rest)
      ∙ ap (max opened) (p.deep (opened + 1) (end ∷ rest))
      ∙ ap (λ n. max opened (max (opened + 1 + depth) (max (opened + 1) (depth_from n rest)))) (back opened)
      ∙ closed opened depth (depth_from opened rest) (depth_from 1 (inner ++ end ∷ [])) (le-depth_from opened rest) (p.deep 1 (end ∷ []));
}
  where
    back : (n : ℕ) → n + 1 - 1 ≡ n
    back n = omega arith

    closed : (n a b whole : ℕ) → n ≤ b → whole ≡ max (1 + a) (max 1 0) → max n (max (n + 1 + a) (max (n + 1) b)) ≡ max (n + max 0 whole) b
    closed n a b whole h e = omega arith

module _ (I B : Type 0) (item_of : I → DebugItem) (block_of : B → Block)
    (p : (e : I) → IsBalanced (marks_of_item (item_of e))) (q : (e : B) → IsBalanced (marks_of_block (block_of e))) where
  item_level : (y : DebugItem-F I B) → IsBalanced (marks_of_item (roll-DebugItem (folds.map-DebugItem I B DebugItem Block item_of block_of y)))
  item_level (DebugItem-F.Block e) =
      let same : marks_of_item (roll-DebugItem (DebugItem-F.Block (block_of e))) ≡ marks_of_block (block_of e) = search (rules, the_lemmas) in
      subst IsBalanced (sym same) (q e)
  item_level (DebugItem-F.Name name) =
      let same : marks_of_item (roll-DebugItem (DebugItem-F.Name name)) ≡ name_mark name ∷ [] = search (rules, the_lemmas) in
      subst IsBalanced (sym same) (name_alone name)
  item_level (DebugItem-F.Note name note) =
      let same : marks_of_item (roll-DebugItem (DebugItem-F.Note name note)) ≡ note_mark name note ∷ [] = search (rules, the_lemmas) in
      subst IsBalanced (sym same) (note_alone name note)
  item_level (DebugItem-F.Value name value) =
      let same : marks_of_item (roll-DebugItem (DebugItem-F.Value name value)) ≡ value_mark name value ∷ [] = search (rules, the_lemmas) in
      subst IsBalanced (sym same) (value_alone name value)

  items_level : (es : List I) → IsBalanced (joined (map marks_of_item (map item_of es)))
  items_level [] = none
  items_level (e ∷ es) = both (marks_of_item (item_of e)) (joined (map marks_of_item (map item_of es))) (p e) (items_level es)

  block_level : (y : Block-F I B) → IsBalanced (marks_of_block (roll-Block (folds.map-Block I B DebugItem Block item_of block_of y)))
  block_level y =
      let same : marks_of_block (roll-Block (folds.map-Block I B DebugItem Block item_of block_of y))
      ≡ block_step (record { head = y.head; name = y.name; items = map marks_of_item (map item_of y.items); end = y.end }) = search (rules, the_lemmas) in
      subst IsBalanced (sym same) (in_block (record { head = y.head; name = y.name; items = map marks_of_item (map item_of y.items); end = y.end })
      (items_level y.items))

-- the marks of any item are balanced
pub item_balanced : (item : DebugItem) → IsBalanced (marks_of_item item)
item_balanced = ind-DebugItem (λ item. IsBalanced (marks_of_item item)) (λ b. IsBalanced (marks_of_block b))
    (λ x y is. subst (λ z. IsBalanced (marks_of_item (roll-DebugItem z))) is (item_level _ _ (λ e. e.0) (λ e. e.0) (λ e. e.1) (λ e. e.1) y))
    (λ x y is. subst (λ z. IsBalanced (marks_of_block (roll-Block z))) is (block_level _ _ (λ e. e.0) (λ e. e.0) (λ e. e.1) (λ e. e.1) y))

-- and so are those of any items
pub items_balanced : (items : List DebugItem) → IsBalanced (marks_of items)
items_balanced [] = none
items_balanced (item ∷ items) = both (marks_of_item item) (marks_of items) (item_balanced item) (items_balanced items)

-- a block is one deeper than its items
pub depth_of-Block : (b : Block-F DebugItem (Unit {0})) → depth_of (marks_of_item (block_case b)) ≡ 1 + depth_of (marks_of b.items)
depth_of-Block b =
    let whole = ap depth_of (marks-Block b) in
    let inner = (items_balanced b.items).deep 1 (block_end b.end ∷ []) in
    omega (arith, whole, inner)

-- items are as deep as the deepest of them
pub depth_of_more : (items : List DebugItem) (i : ℕ) (d : DebugItem) → i < length items
    → depth_of (marks_of (take (i + 1) items)) ≡ max (depth_of (marks_of (take i items))) (depth_of (marks_of_item (get_or items i d)))
depth_of_more items i d inside =
    let whole = ap depth_of (marks_of_more items i d inside) in
    let split = (items_balanced (take i items)).deep 0 (marks_of_item (get_or items i d)) in
    omega (arith, whole, split)

pub item-within : (items : List DebugItem) (i : ℕ) (d : DebugItem) → i < length items → depth_of (marks_of_item (get_or items i d)) ≤ depth_of (marks_of items)
item-within [] i d inside = absurd (omega arith)
item-within (item ∷ items) zero d inside = let split = (item_balanced item).deep 0 (marks_of items) in omega (arith, split)
item-within (item ∷ items) (suc i) d inside =
    let split = (item_balanced item).deep 0 (marks_of items) in
    let inner = item-within items i d (omega arith) in
    omega (arith, split, inner)
