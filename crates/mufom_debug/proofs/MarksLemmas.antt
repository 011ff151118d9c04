-- The marks of items, one after another.
use Rattle.std.proofs.Common.{◌≡◌, ℕ, ◌+◌, ◌<◌, List, [], ◌∷◌, ◌++◌, length, map, take, get_or, refl, sym, ap, ◌∙◌, rules, append_assoc, append-nil}
use Rattle.std.proofs.lemmas.List.{take_more, map-append}
use Rattle.std.proofs.lemmas.Grind.{flat_map-append}
use Rattle.mufom_debug.specs.declared.item.DebugItem.{DebugItem, Block as block_case, the_lemmas}
use Rattle.mufom_debug.specs.declared.item.DebugItem.TheOpen.{Block-F}
use Rattle.mufom_debug.specs.Marks.{block_begin, block_end, joined, marks_of_item, marks_of, mark_expressions, expressions_of}

-- the marks of a block are its start, the marks of its items, and its end
pub marks-Block : (b : Block-F DebugItem (Unit {0})) → marks_of_item (block_case b) ≡ block_begin b.head b.name ∷ (marks_of b.items ++ block_end b.end ∷ [])
marks-Block b = search (rules, the_lemmas)

pub joined-append : {X : Type 0} (xs ys : List (List X)) → joined (xs ++ ys) ≡ joined xs ++ joined ys
joined-append [] ys = refl
joined-append (x ∷ xs) ys = ap (λ rest. x ++ rest) (joined-append xs ys) ∙ sym (append_assoc x (joined xs) (joined ys))

-- one more item adds its marks
pub marks_of_more : (items : List DebugItem) (i : ℕ) (d : DebugItem) → i < length items
    → marks_of (take (i + 1) items) ≡ marks_of (take i items) ++ marks_of_item (get_or items i d)
marks_of_more items i d inside =
    let item = get_or items i d in
    ap marks_of (take_more items i d inside)
    ∙ ap joined (map-append marks_of_item (take i items) (item ∷ []))
    ∙ joined-append (map marks_of_item (take i items)) (marks_of_item item ∷ [])
    ∙ ap (λ marks. marks_of (take i items) ++ marks) (append-nil (marks_of_item item))

-- and its expressions
pub expressions_of_more : (items : List DebugItem) (i : ℕ) (d : DebugItem) → i < length items
    → expressions_of (marks_of (take i items)) ++ expressions_of (marks_of_item (get_or items i d)) ≡ expressions_of (marks_of (take (i + 1) items))
expressions_of_more items i d inside =
    sym (flat_map-append mark_expressions (marks_of (take i items)) (marks_of_item (get_or items i d)))
    ∙ ap expressions_of (sym (marks_of_more items i d inside))
