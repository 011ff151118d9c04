-- The debug marks, the loads and the start that the records of a part state weigh at most what the records cost.
use Rattle.std.proofs.Common.{◌≡◌, ℕ, ◌+◌, ◌≤◌, Bool, true, false, cond, ◌==◌, List, [], ◌∷◌, ◌++◌, map, sum_by, Option, Some, None, refl, ap, arith}
use Rattle.std.proofs.Common.{filter_map}
use Rattle.std.specs.Prelude.{option_to_list}
use Rattle.std.proofs.lemmas.List.Sums.{sum_by-cons, sum_by-append}
use Rattle.mufom_expr.specs.Tree.{Tree}
use Rattle.mufom_expr.specs.Spelled.{Indexes}
use Rattle.mufom_records.specs.declared.record.Record.{Record}
use Rattle.mufom_records.specs.declared.record.Record.TheVariants as r
use Rattle.mufom_records.specs.declared.record.BlockTail.{BlockTail}
use Rattle.mufom_records.specs.declared.record.BlockTail.TheVariants as tail
use Rattle.mufom_loads.specs.declared.load.Item.{Item}
use Rattle.mufom_loads.specs.declared.load.Load.{Load}
use Rattle.mufom_loads.specs.declared.load.Load.TheVariants.{One}
use Rattle.mufom_debug.specs.declared.item.BlockHead.TheVariants as head
use Rattle.mufom_module.specs.SpelledRecords.{SpelledRecord, tree_in, positioned}
use Rattle.mufom_module.specs.Gathered.{head_by, mark_by, marks, item_by, items_at_prefix, loads_by, loads_of, start_by, starts_of}
use Rattle.mufom_module.specs.Weights.{expression_weight, head_weight, mark_weight, marks_weight, item_weight, items_weight, load_weight, start_weight}
use Rattle.mufom_judging.proofs.weighing.Trees.{weight-positioned}
use Rattle.mufom_judging.proofs.weighing.Records.{tail_cost, cost}
use Rattle.mufom_judging.proofs.weighing.Sums.{costs, value_by, sum_by-option, sum_by-below, always}

-- ---- entries of one record each

own_below : {X : Type 0} (weight : X → ℕ) (ask : SpelledRecord → Option X) → ((p : SpelledRecord) → value_by weight (ask p) ≤ cost p p.row)
    → (spelled_records : List SpelledRecord) → sum_by weight (filter_map ask spelled_records) ≤ costs spelled_records
own_below weight ask below [] = omega arith
own_below weight ask below (p ∷ spelled_records) =
    let own = below p in
    let rest = own_below weight ask below spelled_records in
    let entries = sum_by-option weight (ask p) (filter_map ask spelled_records) in
    let all = sum_by-cons (λ (q : SpelledRecord). cost q q.row) p spelled_records in
    omega (arith, own, rest, entries, all)

-- ---- debug marks

scope_weight : (b : Bool) (stack type_index : ℕ) (value : Tree)
    → head_weight (cond b (head.Global stack type_index value) (head.Local stack type_index value)) ≡ 18 + expression_weight value
scope_weight true stack type_index value = refl
scope_weight false stack type_index value = refl

head_below : (ix : Indexes) (p : SpelledRecord) (kind : ℕ) (block : BlockTail) → head_weight (head_by ix p kind block) ≤ tail_cost p block
head_below ix p kind tail.Module = omega arith
head_below ix p kind (tail.Scope stack type_index offset) =
    let its = scope_weight (kind == 4) stack type_index (positioned ix (tree_in p offset)) in
    let same = weight-positioned ix (tree_in p offset) in
    omega (arith, its, same)
head_below ix p kind (tail.Source ns) = omega arith
head_below ix p kind (tail.Section section_type section offset) = let same = weight-positioned ix (tree_in p offset) in omega (arith, same)

mark_below : (ix : Indexes) (p : SpelledRecord) (row : Record) → value_by mark_weight (mark_by ix p row) ≤ cost p row
mark_below ix p (r.BlockBegin kind n name block) = let its = head_below ix p kind block in omega (arith, its)
mark_below ix p (r.BlockEnd None) = omega arith
mark_below ix p (r.BlockEnd (Some value)) = let same = weight-positioned ix (tree_in p value) in omega (arith, same)
mark_below ix p (r.DebugName i name) = omega arith
mark_below ix p (r.DebugValue i value) = let same = weight-positioned ix (tree_in p value) in omega (arith, same)
mark_below ix p (r.DebugNote i type_index attribute ns) = omega arith
mark_below ix p row = omega arith

pub marks_below : (ix : Indexes) (part : List SpelledRecord) → marks_weight (marks ix part) ≤ costs part
marks_below ix part = own_below mark_weight (λ p. mark_by ix p p.row) (λ p. mark_below ix p p.row) part

-- ---- the start

start_below : (ix : Indexes) (p : SpelledRecord) (row : Record) → value_by (λ (tree : Tree). 4 + expression_weight tree) (start_by ix p row) ≤ cost p row
start_below ix p (r.Start value) = let same = weight-positioned ix (tree_in p value) in omega (arith, same)
start_below ix p row = omega arith

start_alone : (o : Option Tree) → start_weight o ≡ sum_by (λ (tree : Tree). 4 + expression_weight tree) (option_to_list o)
start_alone None = refl
start_alone (Some tree) = omega arith

pub starts_below : (ix : Indexes) (part : List SpelledRecord) (o : Option Tree) → option_to_list o ≡ starts_of ix part → start_weight o ≤ costs part
starts_below ix part o e =
    let all = own_below (λ (tree : Tree). 4 + expression_weight tree) (λ p. start_by ix p p.row) (λ p. start_below ix p p.row) part in
    let alone = start_alone o in
    let same = ap (sum_by (λ (tree : Tree). 4 + expression_weight tree)) e in
    omega (arith, all, alone, same)

-- ---- loads

-- an item on its own
abbrev alone_weight : Item → ℕ
alone_weight item = 1 + item_weight item

item_below : (ix : Indexes) (maus : ℕ) (p : SpelledRecord) (row : Record) → value_by alone_weight (item_by ix maus p row) ≤ cost p row
item_below ix maus p (r.ConstantItem run) = omega arith
item_below ix maus p (r.FieldItem kind value n) = let same = weight-positioned ix (tree_in p value) in omega (arith, same)
item_below ix maus p row = omega arith

weight-ones : (items : List Item) → sum_by load_weight (map One items) ≡ sum_by alone_weight items
weight-ones [] = refl
weight-ones (item ∷ items) =
    let rest = weight-ones items in
    let all = sum_by-cons load_weight (One item) (map One items) in
    let one = sum_by-cons alone_weight item items in
    omega (arith, rest, all, one)

items_alone : (items : List Item) → items_weight items ≤ sum_by alone_weight items
items_alone items = sum_by-below item_weight alone_weight items (always (λ item. item_weight item ≤ alone_weight item) (λ item. omega arith) items)

prefix_none : (ix : Indexes) (maus : ℕ) (p : SpelledRecord) (spelled_records : List SpelledRecord) → item_by ix maus p p.row ≡ None
    → items_at_prefix ix maus (p ∷ spelled_records) ≡ []
prefix_none ix maus p spelled_records e = rw e refl

prefix_some : (ix : Indexes) (maus : ℕ) (p : SpelledRecord) (spelled_records : List SpelledRecord) (item : Item) → item_by ix maus p p.row ≡ Some item
    → items_at_prefix ix maus (p ∷ spelled_records) ≡ item ∷ items_at_prefix ix maus spelled_records
prefix_some ix maus p spelled_records item e = rw e refl

-- an item states no load of its own
no_load : (ix : Indexes) (maus : ℕ) (p : SpelledRecord) (items : List Item) (row : Record) (item : Item) → item_by ix maus p row ≡ Some item
    → loads_by ix p items row ≡ []
no_load ix maus p items (r.ConstantItem run) item e = refl
no_load ix maus p items (r.FieldItem kind value n) item e = refl
no_load ix maus p items row item e = cc

row_below : (ix : Indexes) (p : SpelledRecord) (items : List Item) (row : Record)
    → sum_by load_weight (loads_by ix p items row) ≤ cost p row + sum_by alone_weight items
row_below ix p items (r.SetSection i) = omega arith
row_below ix p items (r.SetPc i value) = let same = weight-positioned ix (tree_in p value) in omega (arith, same)
row_below ix p items (r.Constant run) = omega arith
row_below ix p items r.Relocate = let its = weight-ones items in omega (arith, its)
row_below ix p items (r.RepeatConstant times run) = omega arith
row_below ix p items (r.RepeatRelocate times) = let its = items_alone items in omega (arith, its)
row_below ix p items row = omega arith

-- the loads of records, and the items at their start
loads_and_items : (ix : Indexes) (maus : ℕ) (spelled_records : List SpelledRecord)
    → sum_by load_weight (loads_of ix maus spelled_records) + sum_by alone_weight (items_at_prefix ix maus spelled_records) ≤ costs spelled_records
loads_and_items ix maus [] = omega arith
loads_and_items ix maus (p ∷ spelled_records) = by_answer (item_by ix maus p p.row) refl (loads_and_items ix maus spelled_records) where
  by_answer : (o : Option Item) → item_by ix maus p p.row ≡ o
      → sum_by load_weight (loads_of ix maus spelled_records) + sum_by alone_weight (items_at_prefix ix maus spelled_records) ≤ costs spelled_records
      → sum_by load_weight (loads_of ix maus (p ∷ spelled_records)) + sum_by alone_weight (items_at_prefix ix maus (p ∷ spelled_records)) ≤ costs
      (p ∷ spelled_records)
  by_answer None e rest =
      let items = items_at_prefix ix maus spelled_records in
      let all = sum_by-append load_weight (loads_by ix p items p.row) (loads_of ix maus spelled_records) in
      let own = row_below ix p items p.row in
      let prefix = ap (sum_by alone_weight) (prefix_none ix maus p spelled_records e) in
      let records = sum_by-cons (λ (q : SpelledRecord). cost q q.row) p spelled_records in
      omega (arith, rest, all, own, prefix, records)
  by_answer (Some item) e rest =
      let items = items_at_prefix ix maus spelled_records in
      let none = ap (λ (l : List Load). sum_by load_weight (l ++ loads_of ix maus spelled_records)) (no_load ix maus p items p.row item e) in
      let own = item_below ix maus p p.row in
      let its : value_by alone_weight (item_by ix maus p p.row) ≡ alone_weight item = ap (value_by alone_weight) e in
      let prefix = ap (sum_by alone_weight) (prefix_some ix maus p spelled_records item e) in
      let sum = sum_by-cons alone_weight item items in
      let records = sum_by-cons (λ (q : SpelledRecord). cost q q.row) p spelled_records in
      omega (arith, rest, none, own, its, prefix, sum, records)

pub loads_below : (ix : Indexes) (maus : ℕ) (spelled_records : List SpelledRecord)
    → sum_by load_weight (loads_of ix maus spelled_records) ≤ costs spelled_records
loads_below ix maus spelled_records = let all = loads_and_items ix maus spelled_records in omega (arith, all)
