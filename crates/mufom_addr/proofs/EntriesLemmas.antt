-- The entries of items, one after another.
use Rattle.std.proofs.Common.{◌≡◌, ℕ, ◌+◌, ◌<◌, List, [], ◌∷◌, ◌++◌, length, map, take, get_or, ap, ◌∙◌, rules, append-nil}
use Rattle.std.proofs.lemmas.List.{take_more, map-append}
use Rattle.mufom_expr.specs.Tree.{Tree}
use Rattle.mufom_names.specs.declared.name.Note.{Note}
use Rattle.mufom_debug.specs.declared.item.DebugItem.{DebugItem, Block as block_case, Name as name_case, Note as note_case, Value as value_case, the_lemmas}
use Rattle.mufom_debug.specs.declared.item.DebugItem.TheOpen.{Block-F}
use Rattle.mufom_debug.specs.Marks.{joined}
use Rattle.mufom_debug.proofs.MarksLemmas.{joined-append}
use Rattle.mufom_addr.specs.Entries.{Around, Placed, Entry, block, note, value, within, entries_of_item, entries_of}

block_is : (b : Block-F DebugItem (Unit {0}))
    → entries_of_item (block_case b) ≡ (λ around. block around.depth b.head b.name b.end ∷ entries_of b.items (within b.head b.name around))
block_is b = search (rules, the_lemmas)

name_is : (name : List ℕ) → entries_of_item (name_case name) ≡ (λ around. [])
name_is name = search (rules, the_lemmas)

note_is : (name : ℕ) (n : Note) → entries_of_item (note_case name n) ≡ (λ around. note name n ∷ [])
note_is name n = search (rules, the_lemmas)

value_is : (name : ℕ) (v : Tree) → entries_of_item (value_case name v) ≡ (λ around. value around.source name v ∷ [])
value_is name v = search (rules, the_lemmas)

-- the entries of a block are itself and those of its items
pub entries-Block : (b : Block-F DebugItem (Unit {0})) (around : Around)
    → entries_of_item (block_case b) around ≡ block around.depth b.head b.name b.end ∷ entries_of b.items (within b.head b.name around)
entries-Block b around = ap (λ (f : Placed). f around) (block_is b)

-- a name has none
pub entries-Name : (name : List ℕ) (around : Around) → entries_of_item (name_case name) around ≡ []
entries-Name name around = ap (λ (f : Placed). f around) (name_is name)

pub entries-Note : (name : ℕ) (n : Note) (around : Around) → entries_of_item (note_case name n) around ≡ note name n ∷ []
entries-Note name n around = ap (λ (f : Placed). f around) (note_is name n)

pub entries-Value : (name : ℕ) (v : Tree) (around : Around) → entries_of_item (value_case name v) around ≡ value around.source name v ∷ []
entries-Value name v around = ap (λ (f : Placed). f around) (value_is name v)

-- one more item adds its entries
pub entries_of_more : (items : List DebugItem) (around : Around) (i : ℕ) (d : DebugItem) → i < length items
    → entries_of (take (i + 1) items) around ≡ entries_of (take i items) around ++ entries_of_item (get_or items i d) around
entries_of_more items around i d inside =
    let item = get_or items i d in
    let at : List Placed → List (List Entry) = map (λ (p : Placed). p around) in
    ap (λ some. entries_of some around) (take_more items i d inside)
    ∙ ap (λ placed. joined (at placed)) (map-append entries_of_item (take i items) (item ∷ []))
    ∙ ap joined (map-append (λ (p : Placed). p around) (map entries_of_item (take i items)) (entries_of_item item ∷ []))
    ∙ joined-append (at (map entries_of_item (take i items))) (entries_of_item item around ∷ [])
    ∙ ap (λ entries. entries_of (take i items) around ++ entries) (append-nil (entries_of_item item around))
