-- Marks that end each block that they begin, and no other, are the marks of items.
use Rattle.std.proofs.Common.{◌≡◌, ℕ, true, true≢false, List, [], ◌∷◌, ◌++◌, length, map, Option, sym, ap, ◌∙◌, rules, append_assoc, append-nil}
use Rattle.std.proofs.lemmas.List.{map-append}
use Rattle.mufom_expr.specs.Tree.{Tree}
use Rattle.mufom_names.specs.declared.name.Note.{Note}
use Rattle.mufom_debug.specs.declared.item.BlockHead.{BlockHead}
use Rattle.mufom_debug.specs.declared.item.DebugItem.{DebugItem, the_lemmas}
use Rattle.mufom_debug.specs.declared.item.DebugItem.TheOpen.{DebugItem-F}
use Rattle.mufom_debug.specs.declared.item.DebugItem.TheViews.{roll-DebugItem}
use Rattle.mufom_debug.specs.Marks.{DebugMark, block_begin, block_end, name_mark, note_mark, value_mark, closes, joined, marks_of_item, marks_of}
use Rattle.mufom_debug.proofs.MarksLemmas.{joined-append}
use Rattle.mufom_debug.proofs.Rebuilt.{Begun, block_item, rebuilt}

-- the marks up to the items of the innermost of the begun blocks, which comes first
abbrev pub marks_before : List Begun → List DebugMark
marks_before [] = []
marks_before (b ∷ outer) = marks_before outer ++ (marks_of b.before ++ block_begin b.head b.name ∷ [])

pub marks_of-one : (items : List DebugItem) (item : DebugItem) → marks_of (items ++ item ∷ []) ≡ marks_of items ++ marks_of_item item
marks_of-one items item =
    ap joined (map-append marks_of_item items (item ∷ [])) ∙ joined-append (map marks_of_item items) (marks_of_item item ∷ [])
    ∙ ap (λ marks. marks_of items ++ marks) (append-nil (marks_of_item item))

pub marks_of-block : (head : BlockHead) (name : List ℕ) (items : List DebugItem) (end : Option Tree)
    → marks_of_item (block_item head name items end) ≡ (block_begin head name ∷ marks_of items) ++ block_end end ∷ []
marks_of-block head name items end = search (rules, the_lemmas)

pub name_alone : (name : List ℕ) → marks_of_item (roll-DebugItem (DebugItem-F.Name name)) ≡ name_mark name ∷ []
name_alone name = search (rules, the_lemmas)

pub note_alone : (name : ℕ) (note : Note) → marks_of_item (roll-DebugItem (DebugItem-F.Note name note)) ≡ note_mark name note ∷ []
note_alone name note = search (rules, the_lemmas)

pub value_alone : (name : ℕ) (value : Tree) → marks_of_item (roll-DebugItem (DebugItem-F.Value name value)) ≡ value_mark name value ∷ []
value_alone name value = search (rules, the_lemmas)

pub begun_more : {X : Type 0} (p q : List X) (b : X) (rest : List X) → (((p ++ (q ++ b ∷ [])) ++ []) ++ rest) ≡ (p ++ q) ++ (b ∷ rest)
begun_more p q b rest =
    ap (λ l. l ++ rest) (append-nil (p ++ (q ++ b ∷ []))) ∙ append_assoc p (q ++ b ∷ []) rest ∙ ap (λ l. p ++ l) (append_assoc q (b ∷ []) rest)
    ∙ sym (append_assoc p q (b ∷ rest))

pub ended_more : {X : Type 0} (p q : List X) (b : X) (inner : List X) (e : X) (rest : List X)
    → (p ++ (q ++ ((b ∷ inner) ++ e ∷ []))) ++ rest ≡ ((p ++ (q ++ b ∷ [])) ++ inner) ++ (e ∷ rest)
ended_more p q b inner e rest =
    append_assoc p (q ++ ((b ∷ inner) ++ e ∷ [])) rest
    ∙ ap (λ l. p ++ l) (append_assoc q ((b ∷ inner) ++ e ∷ []) rest ∙ ap (λ l. q ++ (b ∷ l)) (append_assoc inner (e ∷ []) rest))
    ∙ sym (append_assoc (p ++ (q ++ b ∷ [])) inner (e ∷ rest) ∙ append_assoc p (q ++ b ∷ []) (inner ++ (e ∷ rest))
    ∙ ap (λ l. p ++ l) (append_assoc q (b ∷ []) (inner ++ (e ∷ rest))))

-- a mark that is an item of its own
pub alone_more : (p : List DebugMark) (items : List DebugItem) (item : DebugItem) (mark : DebugMark) (rest : List DebugMark) → marks_of_item item ≡ mark ∷ []
    → (p ++ marks_of (items ++ item ∷ [])) ++ rest ≡ (p ++ marks_of items) ++ (mark ∷ rest)
alone_more p items item mark rest same =
    ap (λ l. (p ++ l) ++ rest) (marks_of-one items item ∙ ap (λ l. marks_of items ++ l) same)
    ∙ ap (λ l. l ++ rest) (sym (append_assoc p (marks_of items) (mark ∷ []))) ∙ append_assoc (p ++ marks_of items) (mark ∷ []) rest

-- The items that are rebuilt from marks have these marks, after those before them.
pub rebuilt-marks : (marks : List DebugMark) (items : List DebugItem) (outer : List Begun) → closes (length outer) marks ≡ true
    → marks_of (rebuilt marks items outer) ≡ (marks_before outer ++ marks_of items) ++ marks
rebuilt-marks [] items [] h = sym (append-nil (marks_of items))
rebuilt-marks [] items (b ∷ outer) h = absurd (true≢false (sym h))
rebuilt-marks (block_begin head name ∷ marks) items outer h =
    rebuilt-marks marks [] (record { before = items; head = head; name = name } ∷ outer) h
    ∙ begun_more (marks_before outer) (marks_of items) (block_begin head name) marks
rebuilt-marks (block_end end ∷ marks) items [] h = absurd (true≢false (sym h))
rebuilt-marks (block_end end ∷ marks) items (b ∷ outer) h =
    rebuilt-marks marks (b.before ++ block_item b.head b.name items end ∷ []) outer h
    ∙ ap (λ l. (marks_before outer ++ l) ++ marks) (marks_of-one b.before (block_item b.head b.name items end)
    ∙ ap (λ l. marks_of b.before ++ l) (marks_of-block b.head b.name items end))
    ∙ ended_more (marks_before outer) (marks_of b.before) (block_begin b.head b.name) (marks_of items) (block_end end) marks
rebuilt-marks (name_mark name ∷ marks) items outer h =
    rebuilt-marks marks (items ++ roll-DebugItem (DebugItem-F.Name name) ∷ []) outer h
    ∙ alone_more (marks_before outer) items (roll-DebugItem (DebugItem-F.Name name)) (name_mark name) marks (name_alone name)
rebuilt-marks (note_mark name note ∷ marks) items outer h =
    rebuilt-marks marks (items ++ roll-DebugItem (DebugItem-F.Note name note) ∷ []) outer h
    ∙ alone_more (marks_before outer) items (roll-DebugItem (DebugItem-F.Note name note)) (note_mark name note) marks (note_alone name note)
rebuilt-marks (value_mark name value ∷ marks) items outer h =
    rebuilt-marks marks (items ++ roll-DebugItem (DebugItem-F.Value name value) ∷ []) outer h
    ∙ alone_more (marks_before outer) items (roll-DebugItem (DebugItem-F.Value name value)) (value_mark name value) marks (value_alone name value)

-- Marks that close every block that they open are the marks of items.
pub closed-marks : (marks : List DebugMark) → closes 0 marks ≡ true → (items : List DebugItem) × (marks_of items ≡ marks)
closed-marks marks h = (rebuilt marks [] [], rebuilt-marks marks [] [] h)
