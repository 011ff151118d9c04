-- How many debug items a module has, and the lines of modules one after another.
use Rattle.std.proofs.Common.{◌≡◌, ℕ, ◌+◌, ◌<◌, ◌≤◌, ◌^◌, List, [], ◌∷◌, ◌++◌, length, filter, take, drop, get_or, sym, ap, ◌∙◌, arith, append_assoc}
use Rattle.std.proofs.lemmas.List.{length-append, drop_more}
use Rattle.std.proofs.lemmas.List.Elements.{filter-append}
use Rattle.std.proofs.lemmas.List.Sums.{sum_by-cons}
use Rattle.mufom_debug.specs.declared.item.DebugItem.{DebugItem, Block as block_case}
use Rattle.mufom_debug.specs.declared.item.DebugItem.TheOpen.{Block-F}
use Rattle.mufom_debug.specs.Marks.{DebugMark, block_begin, block_end, name_mark, note_mark, value_mark, marks_of, marks_of_item}
use Rattle.mufom_debug.proofs.MarksLemmas.{marks-Block, marks_of_more}
use Rattle.mufom_module.specs.declared.module.Parts.{Parts}
use Rattle.mufom_module.specs.Defects.{IsValid}
use Rattle.mufom_module.specs.Weights.{mark_weight, marks_weight}
use Rattle.mufom_module.proofs.Valid.{weighs_less}
use Rattle.mufom_module.proofs.WeightLaws.{weight-sum}
use Rattle.mufom_works.specs.Text.{check_line, check_lines, is_item, item_count}

pub item_count-append : (a b : List DebugMark) → item_count (a ++ b) ≡ item_count a + item_count b
item_count-append a b = ap length (filter-append is_item a b) ∙ length-append (filter is_item a) (filter is_item b)

-- a block is an item, and holds its items
pub item_count-Block : (b : Block-F DebugItem (Unit {0})) → item_count (marks_of_item (block_case b)) ≡ 1 + item_count (marks_of b.items)
item_count-Block b =
    let inner = item_count-append (marks_of b.items) (block_end b.end ∷ []) in
    ap item_count (marks-Block b) ∙ omega (arith, inner)

-- one item more adds those inside of it
pub item_count-more : (items : List DebugItem) (i : ℕ) (d : DebugItem) → i < length items
    → item_count (marks_of (take (i + 1) items)) ≡ item_count (marks_of (take i items)) + item_count (marks_of_item (get_or items i d))
item_count-more items i d inside = ap item_count (marks_of_more items i d inside)
    ∙ item_count-append (marks_of (take i items)) (marks_of_item (get_or items i d))

-- ---- a module has fewer than 2^32, since it weighs less

one_weighs : (mark : DebugMark) → item_count (mark ∷ []) ≤ mark_weight mark
one_weighs (block_begin head name) = omega arith
one_weighs (block_end end) = omega arith
one_weighs (name_mark name) = omega arith
one_weighs (note_mark name note) = omega arith
one_weighs (value_mark name value) = omega arith

pub items_weigh : (marks : List DebugMark) → item_count marks ≤ marks_weight marks
items_weigh [] = omega arith
items_weigh (mark ∷ marks) =
    let first = one_weighs mark in
    let rest = items_weigh marks in
    let count = item_count-append (mark ∷ []) marks in
    let sum = sum_by-cons mark_weight mark marks in
    omega (arith, first, rest, count, sum)

pub few_items : (m : Parts) → IsValid m → item_count (marks_of m.debug) < 2 ^ 32
few_items m valid =
    let less = weighs_less m valid in
    let whole = weight-sum m in
    let items = items_weigh (marks_of m.debug) in
    omega (arith, less, whole, items)

-- ---- lines

-- the line of the next module stands after those before it
pub check_lines-next : (done : List ℕ) (ms : List Parts) (i : ℕ) (m : Parts) → i < length ms
    → done ++ check_lines i (drop i ms) ≡ (done ++ check_line i (get_or ms i m)) ++ check_lines (i + 1) (drop (i + 1) ms)
check_lines-next done ms i m inside =
    ap (λ (rest : List Parts). done ++ check_lines i rest) (drop_more ms i m inside)
    ∙ sym (append_assoc done (check_line i (get_or ms i m)) (check_lines (i + 1) (drop (i + 1) ms)))
