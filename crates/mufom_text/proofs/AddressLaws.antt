-- The debug addresses and names of items, one after another.
use Rattle.std.proofs.Common.{◌≡◌, ℕ, ◌+◌, ◌<◌, List, [], ◌∷◌, ◌++◌, length, map, take, get_or, sym, ap, ◌∙◌, rules, append-nil}
use Rattle.std.proofs.lemmas.List.{take_more, map-append}
use Rattle.std.proofs.lemmas.Grind.{flat_map-append}
use Rattle.mufom_debug.specs.declared.item.DebugItem.{DebugItem, Block as block_case, the_lemmas}
use Rattle.mufom_debug.specs.declared.item.DebugItem.TheOpen.{Block-F}
use Rattle.mufom_debug.specs.Marks.{block_end, joined, kind_number, marks_of, marks_of_item, offset_of}
use Rattle.mufom_debug.proofs.MarksLemmas.{joined-append, marks-Block, marks_of_more}
use Rattle.mufom_text.specs.Image.{address_in, addresses_of, addresses_of_item, begin_of, end_of, mark_names, names_of}

-- ---- addresses

pub addresses-Block : (names : List (List ℕ)) (b : Block-F DebugItem (Unit {0})) → addresses_of_item names (block_case b)
    ≡ address_in (begin_of (kind_number b.head) b.name) (offset_of b.head)
    ++ (addresses_of names b.items ++ address_in (end_of (kind_number b.head) b.name) b.end)
addresses-Block names b = search (rules, the_lemmas)

pub addresses-more : (names : List (List ℕ)) (items : List DebugItem) (i : ℕ) (x : DebugItem) → i < length items → x ≡ get_or items i x
    → addresses_of names (take (i + 1) items) ≡ addresses_of names (take i items) ++ addresses_of_item names x
addresses-more names items i x inside is =
    let own = addresses_of_item names in
    ap (addresses_of names) (take_more items i x inside)
    ∙ ap joined (map-append own (take i items) (get_or items i x ∷ []))
    ∙ joined-append (map own (take i items)) (own (get_or items i x) ∷ [])
    ∙ ap (λ all. addresses_of names (take i items) ++ all) (append-nil (own (get_or items i x)) ∙ ap own (sym is))

-- ---- names

pub names-Block : (b : Block-F DebugItem (Unit {0})) → names_of (marks_of_item (block_case b)) ≡ names_of (marks_of b.items)
names-Block b =
    ap names_of (marks-Block b)
    ∙ flat_map-append mark_names (marks_of b.items) (block_end b.end ∷ [])
    ∙ append-nil (names_of (marks_of b.items))

pub names-more : (items : List DebugItem) (i : ℕ) (x : DebugItem) → i < length items → x ≡ get_or items i x
    → names_of (marks_of (take (i + 1) items)) ≡ names_of (marks_of (take i items)) ++ names_of (marks_of_item x)
names-more items i x inside is =
    ap names_of (marks_of_more items i x inside)
    ∙ flat_map-append mark_names (marks_of (take i items)) (marks_of_item (get_or items i x))
    ∙ ap (λ y. names_of (marks_of (take i items)) ++ names_of (marks_of_item y)) (sym is)
