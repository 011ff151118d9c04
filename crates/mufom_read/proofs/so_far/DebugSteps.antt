-- What a record of the debug part does to the debug items so far: they get the debug records of one more record.
use Rattle.std.proofs.Common.{◌≡◌, ℕ, zero, suc, ◌+◌, ◌==◌, ◌&&◌, ◌||◌, false, cond, arith, List, [], ◌∷◌, ◌++◌, length, map, drop, get_or, is_some}
use Rattle.std.proofs.Common.{Option, Some, None, option_map, refl, sym, ap, ◌∙◌, append_assoc, append-nil, Result, Ok, Err, OnOk}
use Rattle.std.specs.List.{cons_option}
use Rattle.std.proofs.lemmas.List.{map-append}
use Rattle.mufom_numbers.specs.declared.taken.Span.{Span}
use Rattle.mufom_expr.specs.Tree.{Tree}
use Rattle.mufom_records.specs.declared.record.BlockTail.{BlockTail}
use Rattle.mufom_records.specs.declared.record.BlockTail.TheVariants as tail
use Rattle.mufom_records.specs.declared.record.Record.{Record}
use Rattle.mufom_records.specs.declared.record.Record.TheVariants as r
use Rattle.mufom_debug.specs.declared.item.BlockHead.TheVariants as heads
use Rattle.mufom_debug.specs.declared.item.DebugItem.{DebugItem}
use Rattle.mufom_debug.specs.Marks.{block_begin, block_end, note_mark, value_mark, joined, marks_of, marks_of_item, kind_number}
use Rattle.mufom_debug.proofs.MarksLemmas.{joined-append}
use Rattle.mufom_debug.proofs.Closed.{marks_of-one}
use Rattle.mufom_module.specs.SpelledRecords.{SpelledRecord, section, debug_name, text_in, tree_in}
use Rattle.mufom_module.specs.Gathered.{mark_by, marks, note_of}
use Rattle.mufom_module.specs.Grammar.{names_unknown, FollowFrom}
use Rattle.mufom_read.specs.declared.debug.OpenBlock.{OpenBlock}
use Rattle.mufom_judging.specs.Prefixes.{OffsetRecord}
use Rattle.mufom_judging.specs.Faults.{OpenBlock as Opened, ends_badly, opened_after, open_from, open_blocks}
use Rattle.mufom_judging.specs.Stated.{indexes_in}
use Rattle.mufom_read.specs.Kept.{tables_of, indexes_by, as_record}
use Rattle.mufom_read.specs.DebugSoFar.{as_opened, stacked, marks_to_block, marks_from, marks_so_far}
use Rattle.mufom_judging.proofs.ended.Trees.{named_known, tree_known}
use Rattle.mufom_read.proofs.ended.LoadsWhole.{kind_stays, tree_stays}

-- what follows from a result that holds on success
pub then_ok : {A E : Type 0} (result : Result A E) (P Q : Type 0) → (P → Q) → OnOk result P → OnOk result Q
then_ok (Ok a) P Q f h = f h
then_ok (Err e) P Q f h = tt

-- ---- open blocks

pub stacked-one : (outer : List Opened) (blocks : List OpenBlock) (b : OpenBlock) → stacked outer (blocks ++ b ∷ []) ≡ as_opened b ∷ stacked outer blocks
stacked-one outer [] b = refl
stacked-one outer (x ∷ blocks) b = stacked-one (as_opened x ∷ outer) blocks b

pub stacked-length : (outer : List Opened) (blocks : List OpenBlock) → length (stacked outer blocks) ≡ length outer + length blocks
stacked-length outer [] = omega arith
stacked-length outer (x ∷ blocks) = let rest = stacked-length (as_opened x ∷ outer) blocks in omega (arith, rest)

pub stacked-none : (blocks : List OpenBlock) → stacked [] blocks ≡ [] → blocks ≡ []
stacked-none [] h = refl
stacked-none (b ∷ blocks) h = let count = ap length h in let all = stacked-length [] (b ∷ blocks) in absurd (omega (arith, count, all))

-- the innermost is the last one
pub innermost : (outer : List Opened) (blocks : List OpenBlock) (k : ℕ) (b : OpenBlock) → length blocks ≡ suc k → b ≡ get_or blocks k b
    → (inner : List Opened) × (stacked outer blocks ≡ as_opened b ∷ inner)
innermost outer [] k b count is = absurd (omega (arith, count))
innermost outer (x ∷ []) zero b count is = (outer, ap (λ (y : OpenBlock). as_opened y ∷ outer) (sym is))
innermost outer (x ∷ []) (suc k) b count is = absurd (omega (arith, count))
innermost outer (x ∷ (y ∷ blocks)) zero b count is = absurd (omega (arith, count))
innermost outer (x ∷ (y ∷ blocks)) (suc k) b count is = innermost (as_opened x ∷ outer) (y ∷ blocks) k b (omega (arith, count)) is

-- BE, if this is the innermost open block
pub end-within : (blocks inner : List Opened) (b : OpenBlock) (row : Record) (value : Option Span) → blocks ≡ as_opened b ∷ inner → row ≡ r.BlockEnd value
    → ends_badly blocks row ≡ (is_some value && ((kind_number b.head == 3) || (kind_number b.head == 5)))
end-within blocks inner b row value same is = (λ k. ends_badly (same k) (is k))

-- the blocks around the innermost
pub stacked-inner : (blocks : List OpenBlock) (b : OpenBlock) → stacked [] blocks ≡ drop 1 (stacked [] (blocks ++ b ∷ []))
stacked-inner blocks b = ap (drop 1) (sym (stacked-one [] blocks b))

-- ---- marks

-- the marks up to one more block
to_one : (blocks : List OpenBlock) (b : OpenBlock) → joined (map marks_to_block (blocks ++ b ∷ [])) ≡ joined (map marks_to_block blocks) ++ marks_to_block b
to_one blocks b =
    ap joined (map-append marks_to_block blocks (b ∷ [])) ∙ joined-append (map marks_to_block blocks) (marks_to_block b ∷ [])
    ∙ ap (λ l. joined (map marks_to_block blocks) ++ l) (append-nil (marks_to_block b))

-- BB
pub block-begun : (blocks : List OpenBlock) (b : OpenBlock)
    → joined (map marks_to_block (blocks ++ b ∷ [])) ++ marks_of [] ≡ (joined (map marks_to_block blocks) ++ marks_of b.before)
    ++ block_begin b.head b.name ∷ []
block-begun blocks b =
    append-nil (joined (map marks_to_block (blocks ++ b ∷ []))) ∙ to_one blocks b
    ∙ sym (append_assoc (joined (map marks_to_block blocks)) (marks_of b.before) (block_begin b.head b.name ∷ []))

regrouped : {X : Type 0} (p q m : List X) (b e : X) → p ++ (q ++ (b ∷ (m ++ e ∷ []))) ≡ ((p ++ (q ++ b ∷ [])) ++ m) ++ e ∷ []
regrouped p q m b e = sym (append_assoc (p ++ (q ++ b ∷ [])) m (e ∷ []) ∙ append_assoc p (q ++ b ∷ []) (m ++ e ∷ [])
    ∙ ap (λ l. p ++ l) (append_assoc q (b ∷ []) (m ++ e ∷ [])))

-- BE
pub block-ended : (blocks : List OpenBlock) (b : OpenBlock) (items : List DebugItem) (end : Option Tree) (item : DebugItem) → marks_of_item item
    ≡ block_begin b.head b.name ∷ (marks_of items ++ block_end end ∷ [])
    → joined (map marks_to_block blocks) ++ marks_of (b.before ++ item ∷ []) ≡ (joined (map marks_to_block (blocks ++ b ∷ [])) ++ marks_of items)
    ++ block_end end ∷ []
block-ended blocks b items end item same =
    let p = joined (map marks_to_block blocks) in
    ap (λ l. p ++ l) (marks_of-one b.before item ∙ ap (λ l. marks_of b.before ++ l) same)
    ∙ regrouped p (marks_of b.before) (marks_of items) (block_begin b.head b.name) (block_end end)
    ∙ ap (λ l. (l ++ marks_of items) ++ block_end end ∷ []) (sym (to_one blocks b))

-- NN, ASN and ATN
pub item-added : (blocks : List OpenBlock) (items : List DebugItem) (item : DebugItem)
    → joined (map marks_to_block blocks) ++ marks_of (items ++ item ∷ []) ≡ (joined (map marks_to_block blocks) ++ marks_of items) ++ marks_of_item item
item-added blocks items item =
    let p = joined (map marks_to_block blocks) in
    ap (λ l. p ++ l) (marks_of-one items item) ∙ sym (append_assoc p (marks_of items) (marks_of_item item))

-- ---- expressions

-- an expression with positions, if there is one
pub mapped-twice : {X Y Z : Type 0} (f : Y → Z) (g : X → Y) (o : Option X) → option_map f (option_map g o) ≡ option_map (λ x. f (g x)) o
mapped-twice f g None = refl
mapped-twice f g (Some x) = refl

-- ---- one more record

cons-append : {X : Type 0} (o : Option X) (xs ys : List X) → cons_option o (xs ++ ys) ≡ cons_option o xs ++ ys
cons-append None xs ys = refl
cons-append (Some x) xs ys = refl

marks_more : (before ps : List SpelledRecord) (p : SpelledRecord) → marks_from before (ps ++ p ∷ []) ≡ marks_from before ps
    ++ cons_option (mark_by (indexes_by (tables_of (before ++ ps))) p p.row) []
marks_more before [] p = ap (λ (b : List SpelledRecord). cons_option (mark_by (indexes_by (tables_of b)) p p.row) []) (sym (append-nil before))
marks_more before (q ∷ ps) p =
    ap (cons_option (mark_by (indexes_by (tables_of before)) q q.row))
    (marks_more (before ++ q ∷ []) ps p
    ∙ ap (λ (b : List SpelledRecord). marks_from (before ++ q ∷ []) ps
    ++ cons_option (mark_by (indexes_by (tables_of b)) p p.row) []) (append_assoc before (q ∷ []) ps))
    ∙ cons-append (mark_by (indexes_by (tables_of before)) q q.row) (marks_from (before ++ q ∷ []) ps)
    (cons_option (mark_by (indexes_by (tables_of (before ++ (q ∷ ps)))) p p.row) [])

-- the marks with one more record
pub marks-more : (ps : List SpelledRecord) (p : SpelledRecord) → marks_so_far (ps ++ p ∷ []) ≡ marks_so_far ps
    ++ cons_option (mark_by (indexes_by (tables_of ps)) p p.row) []
marks-more ps p = marks_more [] ps p

open_append : (blocks : List Opened) (a b : List OffsetRecord) → open_from blocks (a ++ b) ≡ open_from (open_from blocks a) b
open_append blocks [] b = refl
open_append blocks (p ∷ a) b = open_append (opened_after blocks p.0 p.1.row) a b

-- the open blocks with one more record
pub open-more : (all : List OffsetRecord) (start : ℕ) (p : SpelledRecord) → open_blocks (all ++ (start, p) ∷ []) ≡ opened_after (open_blocks all) start p.row
open-more all start p = open_append [] all ((start, p) ∷ [])

-- ---- all records

begin_stays : (before more : List SpelledRecord) (kind n : ℕ) (name : Span) (block : BlockTail) (bytes : List ℕ)
    → names_unknown before (as_record (r.BlockBegin kind n name block) bytes) ≡ false
    → mark_by (indexes_by (tables_of before)) (as_record (r.BlockBegin kind n name block) bytes) (r.BlockBegin kind n name block)
    ≡ mark_by (indexes_in (before ++ more)) (as_record (r.BlockBegin kind n name block) bytes) (r.BlockBegin kind n name block)
begin_stays before more kind n name tail.Module bytes known = refl
begin_stays before more kind n name (tail.Source ns) bytes known = refl
begin_stays before more kind n name (tail.Scope stack type_index offset) bytes known =
    let p = as_record (r.BlockBegin kind n name (tail.Scope stack type_index offset)) bytes in
    let tree = tree_stays before more (tree_in p offset) (tree_known before p offset refl refl known) in
    (λ k. Some (block_begin (cond (kind == 4) (heads.Global stack type_index (tree k)) (heads.Local stack type_index (tree k))) (text_in p name)))
begin_stays before more kind n name (tail.Section section_type i offset) bytes known =
    let p = as_record (r.BlockBegin kind n name (tail.Section section_type i offset)) bytes in
    let at = kind_stays section before more i (named_known before p (section, i) refl known) in
    let tree = tree_stays before more (tree_in p offset) (tree_known before p offset refl refl known) in
    (λ k. Some (block_begin (heads.Section section_type (at k) (tree k)) (text_in p name)))

end_stays : (before more : List SpelledRecord) (value : Option Span) (bytes : List ℕ) → names_unknown before (as_record (r.BlockEnd value) bytes) ≡ false
    → mark_by (indexes_by (tables_of before)) (as_record (r.BlockEnd value) bytes) (r.BlockEnd value)
    ≡ mark_by (indexes_in (before ++ more)) (as_record (r.BlockEnd value) bytes) (r.BlockEnd value)
end_stays before more None bytes known = refl
end_stays before more (Some span) bytes known =
    let p = as_record (r.BlockEnd (Some span)) bytes in
    let tree = tree_stays before more (tree_in p span) (tree_known before p span refl refl known) in
    (λ k. Some (block_end (Some (tree k))))

mark_stays : (before more : List SpelledRecord) (row : Record) (bytes : List ℕ) → names_unknown before (as_record row bytes) ≡ false
    → mark_by (indexes_by (tables_of before)) (as_record row bytes) row ≡ mark_by (indexes_in (before ++ more)) (as_record row bytes) row
mark_stays before more (r.BlockBegin kind n name block) bytes known = begin_stays before more kind n name block bytes known
mark_stays before more (r.BlockEnd value) bytes known = end_stays before more value bytes known
mark_stays before more (r.DebugValue i value) bytes known =
    let p = as_record (r.DebugValue i value) bytes in
    let at = kind_stays debug_name before more i (named_known before p (debug_name, i) refl known) in
    let tree = tree_stays before more (tree_in p value) (tree_known before p value refl refl known) in
    (λ k. Some (value_mark (at k) (tree k)))
mark_stays before more (r.DebugNote i type_index attribute ns) bytes known =
    let at = kind_stays debug_name before more i (named_known before (as_record (r.DebugNote i type_index attribute ns) bytes) (debug_name, i) refl known) in
    (λ k. Some (note_mark (at k) (note_of type_index attribute ns)))
mark_stays before more row bytes known = refl

marks_all : (before records : List SpelledRecord) → FollowFrom before records → marks_from before records ≡ marks (indexes_in (before ++ records)) records
marks_all before [] follow = refl
marks_all before (p ∷ records) follow =
    let here = mark_stays before (p ∷ records) p.row p.bytes follow.0.known in
    let rest = marks_all (before ++ p ∷ []) records follow.1 ∙ ap (λ (all : List SpelledRecord). marks (indexes_in all) records)
    (append_assoc before (p ∷ []) records) in
    (λ k. cons_option (here k) (rest k))

-- The debug records so far are those of the records, by the indexes of all of them.
pub marks-whole : (records : List SpelledRecord) → FollowFrom [] records → marks_so_far records ≡ marks (indexes_in records) records
marks-whole records follow = marks_all [] records follow
