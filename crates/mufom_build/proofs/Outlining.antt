-- Lines of entries that are added one by one, and debug items of which some blocks are open.
use Rattle.std.proofs.Common.{◌≡◌, ℕ, ◌+◌, List, [], ◌∷◌, ◌++◌, length, map, flat_map, Option, refl, sym, ap, ◌∙◌}
use Rattle.std.proofs.Common.{arith, append_assoc, append-nil, add-zero, length-append, ◌-◌, rules}
use Rattle.std.proofs.lemmas.List.{map-append}
use Rattle.mufom_expr.specs.Tree.{Tree}
use Rattle.mufom_names.specs.declared.name.Note.{Note}
use Rattle.mufom_debug.specs.declared.item.BlockHead.{BlockHead}
use Rattle.mufom_debug.specs.declared.item.DebugItem.{DebugItem, Block as block_case, Name as name_case, Note as note_case}
use Rattle.mufom_debug.specs.declared.item.DebugItem.{Value as value_case, the_lemmas}
use Rattle.mufom_debug.specs.Marks.{DebugMark, block_begin, block_end, name_mark, note_mark, value_mark, joined}
use Rattle.mufom_debug.specs.Marks.{marks_of_item, marks_of, open_after, names_after, names_after_all}
use Rattle.mufom_debug.proofs.MarksLemmas.{marks-Block, joined-append}
use Rattle.mufom_text.specs.Show.{depth_after_all}
use Rattle.mufom_build.specs.declared.outline.OpenBlock.{OpenBlock}
use Rattle.mufom_build.specs.Lines.{Line, each_lines, mark_pieces, mark_lines}
use Rattle.mufom_build.specs.declared.outline.Outline.{Outline}
use Rattle.mufom_build.specs.Outlines.{open_marks, outline_marks, marks_so_far, IsKept}
use Rattle.mufom_build_text.proofs.Lists.{flat_map_more}

-- ---- lines

pub each_lines_more : {X : Type 0} (n : ℕ) (lines_of : ℕ → X → List Line) (xs : List X) (x : X)
    → each_lines n lines_of (xs ++ x ∷ []) ≡ each_lines n lines_of xs ++ lines_of (n + length xs) x
each_lines_more n lines_of [] x = append-nil (lines_of n x) ∙ ap (λ k. lines_of k x) (sym (add-zero n))
each_lines_more n lines_of (y ∷ ys) x =
    let same : (n + 1) + length ys ≡ n + length (y ∷ ys) = omega arith in
    ap (λ l. lines_of n y ++ l) (each_lines_more (n + 1) lines_of ys x ∙ ap (λ k. each_lines (n + 1) lines_of ys ++ lines_of k x) same)
    ∙ sym (append_assoc (lines_of n y) (each_lines (n + 1) lines_of ys) (lines_of (n + length (y ∷ ys)) x))

pub mark_lines_more : (depth n : ℕ) (marks : List DebugMark) (mark : DebugMark) → mark_lines depth n (marks ++ mark ∷ [])
    ≡ mark_lines depth n marks ++ mark_pieces (depth_after_all depth marks) (names_after_all n marks) mark ∷ []
mark_lines_more depth n [] mark = refl
mark_lines_more depth n (m ∷ marks) mark = ap (λ l. mark_pieces depth n m ∷ l) (mark_lines_more (open_after depth m) (names_after n m) marks mark)

pub depth_more : (depth : ℕ) (marks : List DebugMark) (mark : DebugMark)
    → depth_after_all depth (marks ++ mark ∷ []) ≡ open_after (depth_after_all depth marks) mark
depth_more depth [] mark = refl
depth_more depth (m ∷ marks) mark = depth_more (open_after depth m) marks mark

pub names_more : (n : ℕ) (marks : List DebugMark) (mark : DebugMark)
    → names_after_all n (marks ++ mark ∷ []) ≡ names_after (names_after_all n marks) mark
names_more n [] mark = refl
names_more n (m ∷ marks) mark = names_more (names_after n m) marks mark

-- ---- items

marks_of_pushed : (items : List DebugItem) (item : DebugItem) → marks_of (items ++ item ∷ []) ≡ marks_of items ++ marks_of_item item
marks_of_pushed items item =
    ap joined (map-append marks_of_item items (item ∷ []))
    ∙ joined-append (map marks_of_item items) (marks_of_item item ∷ [])
    ∙ ap (λ l. marks_of items ++ l) (append-nil (marks_of_item item))

pub outline_added : (open_blocks : List OpenBlock) (items : List DebugItem) (item : DebugItem) (mark : DebugMark) → marks_of_item item ≡ mark ∷ []
    → outline_marks open_blocks (items ++ item ∷ []) ≡ outline_marks open_blocks items ++ mark ∷ []
outline_added open_blocks items item mark is =
    ap (λ l. flat_map open_marks open_blocks ++ l) (marks_of_pushed items item ∙ ap (λ l. marks_of items ++ l) is)
    ∙ sym (append_assoc (flat_map open_marks open_blocks) (marks_of items) (mark ∷ []))

pub outline_begun : (open_blocks : List OpenBlock) (items : List DebugItem) (head : BlockHead) (name : List ℕ)
    → outline_marks (open_blocks ++ record { before = items; head = head; name = name } ∷ []) []
    ≡ outline_marks open_blocks items ++ block_begin head name ∷ []
outline_begun open_blocks items head name =
    append-nil (flat_map open_marks (open_blocks ++ record { before = items; head = head; name = name } ∷ []))
    ∙ flat_map_more open_marks open_blocks (record { before = items; head = head; name = name })
    ∙ sym (append_assoc (flat_map open_marks open_blocks) (marks_of items) (block_begin head name ∷ []))

nested : (a b : List DebugMark) (x : DebugMark) (c : List DebugMark) (y : DebugMark)
    → a ++ (b ++ (x ∷ (c ++ y ∷ []))) ≡ ((a ++ (b ++ x ∷ [])) ++ c) ++ y ∷ []
nested a b x c y = simp append_assoc

pub outline_ended : (open_blocks : List OpenBlock) (b : OpenBlock) (items : List DebugItem) (end : Option Tree)
    → outline_marks open_blocks (b.before ++ block_case (record { head = b.head; name = b.name; items = items; end = end }) ∷ [])
    ≡ outline_marks (open_blocks ++ b ∷ []) items ++ block_end end ∷ []
outline_ended open_blocks b items end =
    let inside = marks_of items in
    let outer = flat_map open_marks open_blocks in
    let begun = block_begin b.head b.name in
    ap (λ l. outer ++ l) (marks_of_pushed b.before _ ∙ ap (λ l. marks_of b.before ++ l) (marks-Block _))
    ∙ nested outer (marks_of b.before) begun inside (block_end end)
    ∙ ap (λ l. (l ++ inside) ++ block_end end ∷ []) (sym (flat_map_more open_marks open_blocks b))

-- the counts after one more mark
pub kept_after : (o p : Outline) (mark : DebugMark) → IsKept o → marks_so_far p ≡ marks_so_far o ++ mark ∷ []
    → length p.blocks.items ≡ open_after (length o.blocks.items) mark → p.names ≡ names_after o.names mark → IsKept p
kept_after o p mark kept added depth names = record {
  depth = ap (λ ms. depth_after_all 0 ms) added ∙ depth_more 0 (marks_so_far o) mark ∙ ap (λ d. open_after d mark) kept.depth ∙ sym depth;
  names = ap (λ ms. names_after_all 0 ms) added ∙ names_more 0 (marks_so_far o) mark ∙ ap (λ n. names_after n mark) kept.names ∙ sym names;
}

-- ---- what changes an outline

pub name_marks : (name : List ℕ) → marks_of_item (name_case name) ≡ name_mark name ∷ []
name_marks name = search (rules, the_lemmas)

pub note_marks : (name : ℕ) (note : Note) → marks_of_item (note_case name note) ≡ note_mark name note ∷ []
note_marks name note = search (rules, the_lemmas)

pub value_marks : (name : ℕ) (value : Tree) → marks_of_item (value_case name value) ≡ value_mark name value ∷ []
value_marks name value = search (rules, the_lemmas)

-- an item without items of its own is added
pub added : (o p : Outline) (item : DebugItem) (mark : DebugMark) → p.blocks.items ≡ o.blocks.items → p.items ≡ o.items ++ item ∷ []
    → marks_of_item item ≡ mark ∷ [] → marks_so_far p ≡ marks_so_far o ++ mark ∷ []
added o p item mark blocks items is =
    ap (λ bs. outline_marks bs p.items) blocks ∙ ap (λ is. outline_marks o.blocks.items is) items ∙ outline_added o.blocks.items o.items item mark is

-- a block begins
pub begun : (o p : Outline) (b : OpenBlock) → b.before ≡ o.items → p.blocks.items ≡ o.blocks.items ++ b ∷ [] → p.items ≡ []
    → marks_so_far p ≡ marks_so_far o ++ block_begin b.head b.name ∷ []
begun o p b before blocks items =
    ap (λ bs. outline_marks bs p.items) blocks ∙ ap (λ is. outline_marks (o.blocks.items ++ b ∷ []) is) items
    ∙ append-nil (flat_map open_marks (o.blocks.items ++ b ∷ []))
    ∙ flat_map_more open_marks o.blocks.items b
    ∙ ap (λ is. flat_map open_marks o.blocks.items ++ (marks_of is ++ block_begin b.head b.name ∷ [])) before
    ∙ sym (append_assoc (flat_map open_marks o.blocks.items) (marks_of o.items) (block_begin b.head b.name ∷ []))

pub begun_kept : (o p : Outline) (b : OpenBlock) → IsKept o → marks_so_far p ≡ marks_so_far o ++ block_begin b.head b.name ∷ []
    → p.blocks.items ≡ o.blocks.items ++ b ∷ [] → p.names ≡ o.names → IsKept p
begun_kept o p b kept marks blocks names =
    kept_after o p (block_begin b.head b.name) kept marks (ap length blocks ∙ length-append o.blocks.items (b ∷ [])) names

-- a block ends
pub ended : (o p : Outline) (outer : List OpenBlock) (b : OpenBlock) (end : Option Tree) → o.blocks.items ≡ outer ++ b ∷ [] → p.blocks.items ≡ outer
    → p.items ≡ b.before ++ block_case (record { head = b.head; name = b.name; items = o.items; end = end }) ∷ []
    → marks_so_far p ≡ marks_so_far o ++ block_end end ∷ []
ended o p outer b end before blocks items =
    ap (λ bs. outline_marks bs p.items) blocks ∙ ap (λ is. outline_marks outer is) items
    ∙ outline_ended outer b o.items end
    ∙ ap (λ bs. outline_marks bs o.items ++ block_end end ∷ []) (sym before)

pub ended_kept : (o p : Outline) (outer : List OpenBlock) (b : OpenBlock) (end : Option Tree) → IsKept o
    → marks_so_far p ≡ marks_so_far o ++ block_end end ∷ [] → o.blocks.items ≡ outer ++ b ∷ [] → p.blocks.items ≡ outer → p.names ≡ o.names → IsKept p
ended_kept o p outer b end kept marks before blocks names =
    let longer = ap length before ∙ length-append outer (b ∷ []) in
    let depth : length p.blocks.items ≡ length o.blocks.items - 1 = ap length blocks ∙ omega (arith, longer) in
    kept_after o p (block_end end) kept marks depth names
