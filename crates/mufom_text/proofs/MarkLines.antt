-- The lines of marks, one list of marks after another.
use Rattle.std.proofs.Common.{◌≡◌, ℕ, zero, suc, ◌+◌, ◌-◌, ◌<◌, ◌≤◌, max, List, [], ◌∷◌, ◌++◌, length, take, get_or, refl, sym, ap, ◌∙◌, arith, rules}
use Rattle.std.proofs.Common.{append_assoc, append-nil}
use Rattle.mufom_expr.specs.Tree.{Tree}
use Rattle.mufom_names.specs.declared.name.Note.{Note}
use Rattle.mufom_debug.specs.declared.item.BlockHead.TheVariants as heads
use Rattle.mufom_debug.specs.declared.item.DebugItem.{DebugItem, Block as block_case, Name as name_case, Note as note_case, Value as value_case, the_lemmas}
use Rattle.mufom_debug.specs.declared.item.DebugItem.TheOpen.{Block-F}
use Rattle.mufom_debug.specs.Marks.{DebugMark, block_begin, block_end, name_mark, note_mark, value_mark, marks_of_item, marks_of, open_after}
use Rattle.mufom_debug.specs.Marks.{depth_from, depth_of, IsBalanced, names_after, names_after_all}
use Rattle.mufom_debug.proofs.MarksLemmas.{marks-Block, marks_of_more}
use Rattle.mufom_debug.proofs.Balance.{items_balanced}
use Rattle.mufom_text.specs.Words.{indent, line}
use Rattle.mufom_text.specs.Show.{mark_line, mark_lines, depth_after_all, end_text}

pub lines-append : (depth n : ℕ) (xs ys : List DebugMark) → mark_lines depth n (xs ++ ys) ≡ mark_lines depth n xs
    ++ mark_lines (depth_after_all depth xs) (names_after_all n xs) ys
lines-append depth n [] ys = refl
lines-append depth n (x ∷ xs) ys =
    let inside = open_after depth x in
    let next = names_after n x in
    ap (λ rest. mark_line depth n x ++ rest) (lines-append inside next xs ys)
    ∙ sym (append_assoc (mark_line depth n x) (mark_lines inside next xs) (mark_lines (depth_after_all inside xs) (names_after_all next xs) ys))

-- ---- after balanced marks as many blocks are open as before them

depth_from-append : (depth : ℕ) (xs ys : List DebugMark) → depth_from depth (xs ++ ys) ≡ max (depth_from depth xs) (depth_from (depth_after_all depth xs) ys)
depth_from-append depth [] ys = let least = le-depth_from depth ys in omega (arith, least) where
  le-depth_from : (opened : ℕ) (marks : List DebugMark) → opened ≤ depth_from opened marks
  le-depth_from opened [] = omega arith
  le-depth_from opened (mark ∷ marks) = omega arith
depth_from-append depth (x ∷ xs) ys = let rest = depth_from-append (open_after depth x) xs ys in omega (arith, rest)

-- the marks that begin `n` blocks
begins : ℕ → List DebugMark
begins zero = []
begins (suc n) = block_begin heads.Module [] ∷ begins n

depth_from-begins : (depth n : ℕ) → depth_from depth (begins n) ≡ depth + n
unfolding begins
depth_from-begins depth zero = omega arith
depth_from-begins depth (suc n) = let rest = depth_from-begins (depth + 1) n in omega (arith, rest)

pub level : (marks : List DebugMark) → IsBalanced marks → (depth : ℕ) → depth_after_all depth marks ≡ depth
level marks balanced depth =
    let n = depth_of marks + 1 in
    let alone = balanced.deep depth [] in
    let whole = balanced.deep depth (begins n) in
    let same = ap (depth_from depth) (append-nil marks) in
    let parts = depth_from-append depth marks (begins n) in
    let on_top = depth_from-begins depth n in
    let after = depth_from-begins (depth_after_all depth marks) n in
    omega (arith, alone, whole, same, parts, on_top, after)

-- ---- items

pub lines-Block : (depth n : ℕ) (b : Block-F DebugItem (Unit {0})) → mark_lines depth n (marks_of_item (block_case b))
    ≡ (mark_line depth n (block_begin b.head b.name) ++ mark_lines (depth + 1) n (marks_of b.items)) ++ line (indent depth ++ end_text b.end)
lines-Block depth n b =
    let begin = mark_line depth n (block_begin b.head b.name) in
    let items = marks_of b.items in
    let inside = mark_lines (depth + 1) n items in
    let still = level items (items_balanced b.items) (depth + 1) in
    let out : depth + 1 - 1 ≡ depth = omega arith in
    ap (mark_lines depth n) (marks-Block b)
    ∙ ap (λ rest. begin ++ rest)
    (lines-append (depth + 1) n items (block_end b.end ∷ [])
    ∙ ap (λ d. inside ++ mark_lines d (names_after_all n items) (block_end b.end ∷ [])) still
    ∙ ap (λ end. inside ++ end) (append-nil (line (indent (depth + 1 - 1) ++ end_text b.end)))
    ∙ ap (λ d. inside ++ line (indent d ++ end_text b.end)) out)
    ∙ sym (append_assoc begin inside (line (indent depth ++ end_text b.end)))

pub lines-Name : (depth n : ℕ) (name : List ℕ) → mark_lines depth n (marks_of_item (name_case name)) ≡ mark_line depth n (name_mark name)
lines-Name depth n name =
    let marks : marks_of_item (name_case name) ≡ name_mark name ∷ [] = search (rules, the_lemmas) in
    ap (mark_lines depth n) marks ∙ append-nil (mark_line depth n (name_mark name))

pub lines-Note : (depth n name : ℕ) (note : Note) → mark_lines depth n (marks_of_item (note_case name note)) ≡ mark_line depth n (note_mark name note)
lines-Note depth n name note =
    let marks : marks_of_item (note_case name note) ≡ note_mark name note ∷ [] = search (rules, the_lemmas) in
    ap (mark_lines depth n) marks ∙ append-nil (mark_line depth n (note_mark name note))

pub lines-Value : (depth n name : ℕ) (value : Tree) → mark_lines depth n (marks_of_item (value_case name value)) ≡ mark_line depth n (value_mark name value)
lines-Value depth n name value =
    let marks : marks_of_item (value_case name value) ≡ value_mark name value ∷ [] = search (rules, the_lemmas) in
    ap (mark_lines depth n) marks ∙ append-nil (mark_line depth n (value_mark name value))

-- ---- one item more

pub lines-more : (depth n : ℕ) (items : List DebugItem) (i : ℕ) (x : DebugItem) → i < length items → x ≡ get_or items i x
    → mark_lines depth n (marks_of (take (i + 1) items)) ≡ mark_lines depth n (marks_of (take i items))
    ++ mark_lines depth (names_after_all n (marks_of (take i items))) (marks_of_item x)
lines-more depth n items i x inside is =
    let before = marks_of (take i items) in
    let names = names_after_all n before in
    ap (mark_lines depth n) (marks_of_more items i x inside)
    ∙ ap (λ y. mark_lines depth n (before ++ marks_of_item y)) (sym is)
    ∙ lines-append depth n before (marks_of_item x)
    ∙ ap (λ d. mark_lines depth n before ++ mark_lines d names (marks_of_item x)) (level before (items_balanced (take i items)) depth)
