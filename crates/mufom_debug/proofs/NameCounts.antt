-- The number of debug names that are declared after marks.
use Rattle.std.proofs.Common.{◌≡◌, ℕ, ◌+◌, ◌<◌, ◌≤◌, List, [], ◌∷◌, ◌++◌, length, take, drop, get_or, refl, sym, ap, ◌∙◌, arith}
use Rattle.std.proofs.lemmas.List.{drop_more}
use Rattle.mufom_debug.specs.declared.item.DebugItem.{DebugItem, Block as block_case}
use Rattle.mufom_debug.specs.declared.item.DebugItem.TheOpen.{Block-F}
use Rattle.mufom_debug.specs.Marks.{DebugMark, block_begin, block_end, name_mark, note_mark, value_mark, marks_of_item, marks_of, names_after, names_after_all}
use Rattle.mufom_debug.proofs.MarksLemmas.{marks-Block, marks_of_more}

pub names-append : (n : ℕ) (xs ys : List DebugMark) → names_after_all n (xs ++ ys) ≡ names_after_all (names_after_all n xs) ys
names-append n [] ys = refl
names-append n (x ∷ xs) ys = names-append (names_after n x) xs ys

names-step : (n : ℕ) (x : DebugMark) → names_after n x ≤ n + 1
names-step n (block_begin head name) = omega arith
names-step n (block_end end) = omega arith
names-step n (name_mark name) = omega arith
names-step n (note_mark name note) = omega arith
names-step n (value_mark name value) = omega arith

-- each mark declares at most one
pub names-bound : (n : ℕ) (xs : List DebugMark) → names_after_all n xs ≤ n + length xs
names-bound n [] = omega arith
names-bound n (x ∷ xs) = let one_more = names-step n x in let rest = names-bound (names_after n x) xs in omega (arith, one_more, rest)

-- a block declares those of its items
pub names-Block : (n : ℕ) (b : Block-F DebugItem (Unit {0})) → names_after_all n (marks_of_item (block_case b)) ≡ names_after_all n (marks_of b.items)
names-Block n b = ap (names_after_all n) (marks-Block b) ∙ names-append n (marks_of b.items) (block_end b.end ∷ [])

-- one item more
pub names-more : (n : ℕ) (items : List DebugItem) (i : ℕ) (x : DebugItem) → i < length items → x ≡ get_or items i x
    → names_after_all n (marks_of (take (i + 1) items)) ≡ names_after_all (names_after_all n (marks_of (take i items))) (marks_of_item x)
names-more n items i x inside is =
    let before = marks_of (take i items) in
    ap (names_after_all n) (marks_of_more items i x inside)
    ∙ ap (λ y. names_after_all n (before ++ marks_of_item y)) (sym is)
    ∙ names-append n before (marks_of_item x)

-- the marks that are left are those of the next item and the rest
pub marks-next : (items : List DebugItem) (i : ℕ) (x : DebugItem) → i < length items → x ≡ get_or items i x → marks_of (drop i items)
    ≡ marks_of_item x ++ marks_of (drop (i + 1) items)
marks-next items i x inside is = ap marks_of (drop_more items i x inside) ∙ ap (λ y. marks_of_item y ++ marks_of (drop (i + 1) items)) (sym is)
