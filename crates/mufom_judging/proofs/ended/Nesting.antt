-- The ends of blocks, found with a stack over debug records, are the ends of the blocks of the items that have these records.
use Rattle.std.proofs.Common.{◌≡◌, ℕ, ◌||◌, Bool, false, List, [], ◌∷◌, ◌++◌, map, Option, refl, ap, ◌∙◌, rules, append-nil}
use Rattle.std.specs.List.{list_any, AllByRecursion}
use Rattle.std.proofs.lemmas.Bool.{or_parts}
use Rattle.std.proofs.lemmas.List.{map-append}
use Rattle.mufom_expr.specs.Tree.{Tree}
use Rattle.mufom_names.specs.declared.name.Note.{Note}
use Rattle.mufom_debug.specs.declared.item.BlockHead.{BlockHead}
use Rattle.mufom_debug.specs.declared.item.DebugItem.{DebugItem, the_lemmas}
use Rattle.mufom_debug.specs.declared.item.DebugItem.TheOpen.{DebugItem-F}
use Rattle.mufom_debug.specs.declared.item.DebugItem.TheViews.{roll-DebugItem}
use Rattle.mufom_debug.specs.Marks.{DebugMark, block_begin, block_end, name_mark, note_mark, value_mark, joined}
use Rattle.mufom_debug.proofs.MarksLemmas.{joined-append}
use Rattle.mufom_debug.proofs.Rebuilt.{Begun, block_item, rebuilt}
use Rattle.mufom_module.specs.Contents.{blocks_of_item, blocks_of}
use Rattle.mufom_module.specs.Defects.{has_bad_end}

-- an end has an expression although the head of its block allows none; `heads` are the open blocks, the innermost first
abbrev pub ends_badly_from : List BlockHead → List DebugMark → Bool
ends_badly_from heads [] = false
ends_badly_from heads (block_begin head name ∷ marks) = ends_badly_from (head ∷ heads) marks
ends_badly_from [] (block_end end ∷ marks) = ends_badly_from [] marks
ends_badly_from (head ∷ heads) (block_end end ∷ marks) = has_bad_end (head, end) || ends_badly_from heads marks
ends_badly_from heads (name_mark name ∷ marks) = ends_badly_from heads marks
ends_badly_from heads (note_mark name note ∷ marks) = ends_badly_from heads marks
ends_badly_from heads (value_mark name value ∷ marks) = ends_badly_from heads marks

-- a block in the items ends badly
abbrev pub some_ends_badly : List DebugItem → Bool
some_ends_badly items = list_any has_bad_end (blocks_of items)

any_append : {X : Type 0} (test : X → Bool) (xs ys : List X) → list_any test xs ≡ false → list_any test ys ≡ false → list_any test (xs ++ ys) ≡ false
any_append test [] ys h k = k
any_append test (x ∷ xs) ys h k = let both = or_parts (test x) (list_any test xs) h in (λ z. both.0 z || any_append test xs ys both.1 k z)

blocks_of-one : (items : List DebugItem) (item : DebugItem) → blocks_of (items ++ item ∷ []) ≡ blocks_of items ++ blocks_of_item item
blocks_of-one items item =
    ap joined (map-append blocks_of_item items (item ∷ [])) ∙ joined-append (map blocks_of_item items) (blocks_of_item item ∷ [])
    ∙ ap (λ blocks. blocks_of items ++ blocks) (append-nil (blocks_of_item item))

blocks_of-block : (head : BlockHead) (name : List ℕ) (items : List DebugItem) (end : Option Tree) → blocks_of_item (block_item head name items end)
    ≡ (head, end) ∷ blocks_of items
blocks_of-block head name items end = search (rules, the_lemmas)

no_name : (name : List ℕ) → blocks_of_item (roll-DebugItem (DebugItem-F.Name name)) ≡ []
no_name name = search (rules, the_lemmas)

no_note : (name : ℕ) (note : Note) → blocks_of_item (roll-DebugItem (DebugItem-F.Note name note)) ≡ []
no_note name note = search (rules, the_lemmas)

no_value : (name : ℕ) (value : Tree) → blocks_of_item (roll-DebugItem (DebugItem-F.Value name value)) ≡ []
no_value name value = search (rules, the_lemmas)

one_more : (items : List DebugItem) (item : DebugItem) → some_ends_badly items ≡ false → list_any has_bad_end (blocks_of_item item) ≡ false
    → some_ends_badly (items ++ item ∷ []) ≡ false
one_more items item h k = ap (list_any has_bad_end) (blocks_of-one items item) ∙ any_append has_bad_end (blocks_of items) (blocks_of_item item) h k

-- Where no end is bad by the stack, no block of the items that the marks give ends badly.
pub rebuilt-ends : (marks : List DebugMark) (items : List DebugItem) (outer : List Begun) → some_ends_badly items ≡ false
    → AllByRecursion (λ (b : Begun). some_ends_badly b.before ≡ false) outer
    → ends_badly_from (map (λ (b : Begun). b.head) outer) marks ≡ false → some_ends_badly (rebuilt marks items outer) ≡ false
rebuilt-ends [] items outer good all h = good
rebuilt-ends (block_begin head name ∷ marks) items outer good all h =
    rebuilt-ends marks [] (record { before = items; head = head; name = name } ∷ outer) refl (good, all) h
rebuilt-ends (block_end end ∷ marks) items [] good all h = rebuilt-ends marks items [] good all h
rebuilt-ends (block_end end ∷ marks) items (b ∷ outer) good all h =
    let both = or_parts (has_bad_end (b.head, end)) (ends_badly_from (map (λ (b : Begun). b.head) outer) marks) h in
    rebuilt-ends marks (b.before ++ block_item b.head b.name items end ∷ []) outer
    (one_more b.before (block_item b.head b.name items end) all.0 (ap (list_any has_bad_end) (blocks_of-block b.head b.name items end)
    ∙ (λ z. both.0 z || good z))) all.1 both.1
rebuilt-ends (name_mark name ∷ marks) items outer good all h =
    rebuilt-ends marks (items ++ roll-DebugItem (DebugItem-F.Name name) ∷ []) outer
    (one_more items (roll-DebugItem (DebugItem-F.Name name)) good (ap (list_any has_bad_end) (no_name name))) all h
rebuilt-ends (note_mark name note ∷ marks) items outer good all h =
    rebuilt-ends marks (items ++ roll-DebugItem (DebugItem-F.Note name note) ∷ []) outer
    (one_more items (roll-DebugItem (DebugItem-F.Note name note)) good (ap (list_any has_bad_end) (no_note name note))) all h
rebuilt-ends (value_mark name value ∷ marks) items outer good all h =
    rebuilt-ends marks (items ++ roll-DebugItem (DebugItem-F.Value name value) ∷ []) outer
    (one_more items (roll-DebugItem (DebugItem-F.Value name value)) good (ap (list_any has_bad_end) (no_value name value))) all h
