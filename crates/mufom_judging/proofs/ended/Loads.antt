-- The loads and the start that an ended prefix states have no defect.
use Rattle.std.proofs.Common.{◌≡◌, ◌⊎◌, ℕ, ◌<◌, ◌≤◌, Bool, true, false, not, ◌==◌, ◌&&◌, ◌||◌, nat_lt, nat_le, List, [], ◌∷◌, ◌++◌, length, map}
use Rattle.std.proofs.Common.{slice_get, Option, Some, None, IfSome, is_none, unwrap_or, refl, sym, ap, subst, ◌∙◌, inl, inr, arith, filter_map}
use Rattle.std.specs.List.{list_any, last_or, cons_option, AllByRecursion}
use Rattle.std.proofs.lemmas.Bool.{and_parts, leb-true, or_from, not-false}
use Rattle.std.proofs.lemmas.List.Elements.{filter_map-append}
use Rattle.mufom_numbers.specs.declared.taken.Span.{Span}
use Rattle.mufom_expr.specs.Tree.{Tree}
use Rattle.mufom_expr.specs.Spelled.{Indexes}
use Rattle.mufom_records.specs.declared.record.Record.{Record}
use Rattle.mufom_records.specs.declared.record.Record.TheVariants as r
use Rattle.mufom_records.specs.Parts.{expression_of}
use Rattle.mufom_loads.specs.declared.load.Item.{Item}
use Rattle.mufom_loads.specs.declared.load.Item.TheVariants.{Literal}
use Rattle.mufom_loads.specs.declared.load.Load.{Load}
use Rattle.mufom_loads.specs.declared.load.Load.TheVariants.{One, Repeat}
use Rattle.mufom_module.specs.declared.module.Parts.{Parts}
use Rattle.mufom_module.specs.Contents.{any_of, any_item, item_any, current_after, placed_from}
use Rattle.mufom_module.specs.Defects as d
use Rattle.mufom_module.specs.SpelledRecords.{SpelledRecord, text_in, tree_in, named_by, is_public_value, position_in}
use Rattle.mufom_module.specs.RecordParts.{is_set_section, is_loading}
use Rattle.mufom_module.specs.Gathered.{item_by, items_at_prefix, loads_by, loads_of, start_by, starts_of}
use Rattle.mufom_module.specs.Grammar.{has_no_section}
use Rattle.mufom_judging.specs.Faults.{set_by, current_section, counter_allowed}
use Rattle.mufom_judging.proofs.ended.Rows.{IsFieldSize, IsShort}
use Rattle.mufom_judging.proofs.ended.Trees.{placed_section}
use Rattle.mufom_judging.proofs.ended.Good.{IsGoodTree, IsGood, GoodFrom, text_short}

-- ---- the current section

pub after_one : (before : List SpelledRecord) (p : SpelledRecord) → current_section (before ++ p ∷ [])
    ≡ last_or (current_section before) (cons_option (set_by p.row) [])
after_one before p = ap (last_or None) (filter_map-append (λ q. set_by q.row) before (p ∷ []))
    ∙ last_of None (filter_map (λ q. set_by q.row) before) (cons_option (set_by p.row) []) where
      last_of : (o : Option ℕ) (xs ys : List ℕ) → last_or o (xs ++ ys) ≡ last_or (last_or o xs) ys
      last_of o [] ys = refl
      last_of o (x ∷ xs) ys = last_of (Some x) xs ys

pub same_section : (before : List SpelledRecord) (p : SpelledRecord) → set_by p.row ≡ None → current_section (before ++ p ∷ []) ≡ current_section before
same_section before p e = after_one before p ∙ ap (λ o. last_or (current_section before) (cons_option o [])) e

set_next : (o : Option ℕ) (row : Record) (records : List SpelledRecord)
    → ((n : Option ℕ) → (is_none n ≡ false) ⊎ (list_any (λ q. is_set_section q.row) records ≡ true)
    → is_none (last_or n (filter_map (λ q. set_by q.row) records)) ≡ false)
    → (is_none o ≡ false) ⊎ ((is_set_section row || list_any (λ q. is_set_section q.row) records) ≡ true)
    → is_none (last_or o (cons_option (set_by row) (filter_map (λ q. set_by q.row) records))) ≡ false
set_next o (r.SetSection i) records rest h = rest (Some i) (inl refl)
set_next o row records rest h = rest o h

set_there : (o : Option ℕ) (records : List SpelledRecord) → (is_none o ≡ false) ⊎ (list_any (λ q. is_set_section q.row) records ≡ true)
    → is_none (last_or o (filter_map (λ q. set_by q.row) records)) ≡ false
set_there o [] (inl h) = h
set_there o [] (inr h) = cc
set_there o (p ∷ records) h = set_next o p.row records (λ n e. set_there n records e) h

-- if a record loads, there is a current section
loads_there : (before : List SpelledRecord) (row : Record) → is_loading row ≡ true → has_no_section before row ≡ false
    → is_none (current_section before) ≡ false
loads_there before row loading h = set_there None before (inr
    (not-false (list_any (λ q. is_set_section q.row) before) (subst (λ (b : Bool). (b && not (list_any (λ q. is_set_section q.row) before))
    ≡ false) loading h)))

placed_there : (ix : Indexes) (o : Option ℕ) → is_none o ≡ false → is_none (placed_section ix o) ≡ false
placed_there ix None h = h
placed_there ix (Some i) h = refl

-- ---- items and loads without a defect

pub record IsGoodItem (m : Parts) (current : Option ℕ) (item : Item) : Type 0 where
  pub inside : item_any (d.names_outside (d.counts_of m)) item ≡ false
  pub counter : item_any (d.has_other_counter current) item ≡ false
  pub short : d.is_long_literal item ≡ false
  pub size : d.has_bad_size item ≡ false

pub record IsGoodLoad (m : Parts) (current : Option ℕ) (load : Load) : Type 0 where
  pub place : d.has_bad_place (d.counts_of m) load ≡ false
  pub counter : d.misplaces_counter (current, load) ≡ false
  pub somewhere : d.loads_nowhere (current, load) ≡ false
  pub short : any_item d.is_long_literal load ≡ false
  pub size : any_item d.has_bad_size load ≡ false

abbrev pub AreGoodLoads : Parts → Option ℕ → List Load → Type 0
AreGoodLoads m current [] = Unit {0}
AreGoodLoads m current (load ∷ loads) = IsGoodLoad m current load × AreGoodLoads m (current_after current load) loads

pub no_place : (m : Parts) (current : Option ℕ) (loads : List Load) → AreGoodLoads m current loads → list_any (d.has_bad_place (d.counts_of m)) loads ≡ false
no_place m current [] h = refl
no_place m current (load ∷ loads) h = or_from _ _ h.0.place (no_place m (current_after current load) loads h.1)

pub no_counter : (m : Parts) (current : Option ℕ) (loads : List Load) → AreGoodLoads m current loads
    → list_any d.misplaces_counter (placed_from current loads) ≡ false
no_counter m current [] h = refl
no_counter m current (load ∷ loads) h = or_from _ _ h.0.counter (no_counter m (current_after current load) loads h.1)

pub none_nowhere : (m : Parts) (current : Option ℕ) (loads : List Load) → AreGoodLoads m current loads
    → list_any d.loads_nowhere (placed_from current loads) ≡ false
none_nowhere m current [] h = refl
none_nowhere m current (load ∷ loads) h = or_from _ _ h.0.somewhere (none_nowhere m (current_after current load) loads h.1)

pub none_long : (m : Parts) (current : Option ℕ) (loads : List Load) → AreGoodLoads m current loads → list_any (any_item d.is_long_literal) loads ≡ false
none_long m current [] h = refl
none_long m current (load ∷ loads) h = or_from _ _ h.0.short (none_long m (current_after current load) loads h.1)

pub none_sized : (m : Parts) (current : Option ℕ) (loads : List Load) → AreGoodLoads m current loads → list_any (any_item d.has_bad_size) loads ≡ false
none_sized m current [] h = refl
none_sized m current (load ∷ loads) h = or_from _ _ h.0.size (none_sized m (current_after current load) loads h.1)

-- ---- one record's

nowhere_there : (o : Option ℕ) (b : Bool) → is_none o ≡ false → (is_none o && b) ≡ false
nowhere_there None b h = cc
nowhere_there (Some i) b h = refl

one_item : (m : Parts) (current : Option ℕ) (item : Item) → is_none current ≡ false → IsGoodItem m current item → IsGoodLoad m current (One item)
one_item m current item there h = record { place = h.inside; counter = h.counter; somewhere = nowhere_there current true there; short = h.short; size = h.size }

one_items : (m : Parts) (current : Option ℕ) (items : List Item) → is_none current ≡ false → AllByRecursion (IsGoodItem m current) items
    → AreGoodLoads m current (map One items)
one_items m current [] there h = tt
one_items m current (item ∷ items) there h = (one_item m current item there h.0, one_items m current items there h.1)

none_has : (m : Parts) (current : Option ℕ) (test : Item → Bool) → ((item : Item) → IsGoodItem m current item → test item ≡ false)
    → (items : List Item) → AllByRecursion (IsGoodItem m current) items → list_any test items ≡ false
none_has m current test f [] h = refl
none_has m current test f (item ∷ items) h = or_from (test item) _ (f item h.0) (none_has m current test f items h.1)

repeated : (m : Parts) (current : Option ℕ) (count : ℕ) (items : List Item) → is_none current ≡ false → AllByRecursion (IsGoodItem m current) items
    → IsGoodLoad m current (Repeat count items)
repeated m current count items there h = record {
  place = none_has m current (item_any (d.names_outside (d.counts_of m))) (λ item is. is.inside) items h;
  counter = none_has m current (item_any (d.has_other_counter current)) (λ item is. is.counter) items h;
  somewhere = nowhere_there current true there;
  short = none_has m current d.is_long_literal (λ item is. is.short) items h;
  size = none_has m current d.has_bad_size (λ item is. is.size) items h;
}

literal_good : (m : Parts) (current : Option ℕ) (p : SpelledRecord) (run : Span) → run.len < 65536 → IsGoodItem m current (Literal (text_in p run))
literal_good m current p run h = record { inside = refl; counter = refl; short = text_short p run h; size = refl }

within_size : (n : ℕ) → 1 ≤ n → n ≤ 8 → ((n == 0) || nat_lt 8 n) ≡ false
within_size n a b = grind arith

-- a field without a size has the size of an address
sized : (maus : ℕ) (o : Option ℕ) → d.is_unit_count maus ≡ true → IsFieldSize o → ((unwrap_or o maus == 0) || nat_lt 8 (unwrap_or o maus)) ≡ false
sized maus (Some n) units h = within_size n h.0 h.1
sized maus None units h = let both = and_parts (nat_le 1 maus) (nat_le maus 8) units in within_size maus (leb-true 1 maus both.0) (leb-true maus 8 both.1)

pub below_test : (n position : ℕ) → position < n → nat_le n position ≡ false
below_test n position h = grind arith

-- the tree of a record that may use the program counter of this section
pub its_tree : (m : Parts) (ix : Indexes) (before : List SpelledRecord) (p : SpelledRecord) (row : Record) (span : Span) → p.row ≡ row
    → IsGood m ix before p → expression_of row ≡ Some span → is_public_value row ≡ false → IsGoodTree m ix (counter_allowed before row) (tree_in p span)
its_tree m ix before p row span e is has other =
    subst (λ (it : Record). IsGoodTree m ix (counter_allowed before it) (tree_in p span)) e
    (is.tree span (ap expression_of e ∙ has) (ap is_public_value e ∙ other))

-- an item has no defect, if the record is one
good_item : (m : Parts) (ix : Indexes) (maus : ℕ) → d.is_unit_count maus ≡ true → (before : List SpelledRecord) (p : SpelledRecord) (row : Record)
    → p.row ≡ row → IsGood m ix before p → IfSome (item_by ix maus p row) (IsGoodItem m (placed_section ix (current_section before)))
good_item m ix maus units before p (r.ConstantItem run) e is =
    literal_good m (placed_section ix (current_section before)) p run (subst (λ (row : Record). IsShort row) e is.short)
good_item m ix maus units before p (r.FieldItem kind value n) e is =
    let tree = its_tree m ix before p (r.FieldItem kind value n) value e is refl refl in
    record { inside = tree.inside; counter = tree.counter; short = refl; size = sized maus n units (subst (λ (row : Record). IsShort row) e is.short) }
good_item m ix maus units before p row e is = tt

item_sets_none : (ix : Indexes) (maus : ℕ) (p : SpelledRecord) (row : Record) (item : Item) → item_by ix maus p row ≡ Some item → set_by row ≡ None
item_sets_none ix maus p (r.SetSection i) item h = cc
item_sets_none ix maus p row item h = refl

prefix_none : (ix : Indexes) (maus : ℕ) (p : SpelledRecord) (records : List SpelledRecord) → item_by ix maus p p.row ≡ None
    → items_at_prefix ix maus (p ∷ records) ≡ []
prefix_none ix maus p records e = rw e refl

pub prefix_some : (ix : Indexes) (maus : ℕ) (p : SpelledRecord) (records : List SpelledRecord) (item : Item) → item_by ix maus p p.row ≡ Some item
    → items_at_prefix ix maus (p ∷ records) ≡ item ∷ items_at_prefix ix maus records
prefix_some ix maus p records item e = rw e refl

items_by_answer : (m : Parts) (ix : Indexes) (maus : ℕ) (before : List SpelledRecord) (p : SpelledRecord) (records : List SpelledRecord)
    (o : Option Item) → item_by ix maus p p.row ≡ o
    → IfSome o (IsGoodItem m (placed_section ix (current_section before)))
    → AllByRecursion (IsGoodItem m (placed_section ix (current_section (before ++ p ∷ [])))) (items_at_prefix ix maus records)
    → AllByRecursion (IsGoodItem m (placed_section ix (current_section before))) (items_at_prefix ix maus (p ∷ records))
items_by_answer m ix maus before p records None e its rest =
    subst (λ (l : List Item). AllByRecursion (IsGoodItem m (placed_section ix (current_section before))) l) (sym (prefix_none ix maus p records e)) tt
items_by_answer m ix maus before p records (Some item) e its rest =
    let same = same_section before p (item_sets_none ix maus p p.row item e) in
    subst (λ (l : List Item). AllByRecursion (IsGoodItem m (placed_section ix (current_section before))) l) (sym (prefix_some ix maus p records item e))
    (its, subst (λ (o : Option ℕ). AllByRecursion (IsGoodItem m (placed_section ix o)) (items_at_prefix ix maus records)) same rest)

-- the items at the start of records
good_items : (m : Parts) (ix : Indexes) (maus : ℕ) → d.is_unit_count maus ≡ true → (before records : List SpelledRecord)
    → GoodFrom m ix before records → AllByRecursion (IsGoodItem m (placed_section ix (current_section before))) (items_at_prefix ix maus records)
good_items m ix maus units before [] are = tt
good_items m ix maus units before (p ∷ records) are =
    items_by_answer m ix maus before p records (item_by ix maus p p.row) refl (good_item m ix maus units before p p.row refl are.0)
    (good_items m ix maus units (before ++ p ∷ []) records are.1)

not_loading : (o : Option ℕ) → (is_none o && false) ≡ false
not_loading None = refl
not_loading (Some i) = refl

-- the loads of a record
good_row : (m : Parts) (ix : Indexes) (before : List SpelledRecord) (p : SpelledRecord) (items : List Item) (row : Record) → p.row ≡ row → IsGood m ix before p
    → (set_by row ≡ None → AllByRecursion (IsGoodItem m (placed_section ix (current_section before))) items)
    → AreGoodLoads m (placed_section ix (current_section before)) (loads_by ix p items row)
good_row m ix before p items (r.SetSection i) e is are =
    let below = is.named i (ap named_by e) in (
      record {
        place = or_from _ _ (below_test (length m.sections) (position_in ix.sections i) below) refl;
        counter = refl;
        somewhere =
            not_loading (placed_section ix (current_section before));
        short = refl;
        size = refl;
      },
      tt,
    )
good_row m ix before p items (r.SetPc i value) e is are =
    let below = is.named i (ap named_by e) in
    let tree = its_tree m ix before p (r.SetPc i value) value e is refl refl in (
      record {
        place = or_from _ _ (below_test (length m.sections) (position_in ix.sections i) below) tree.inside;
        counter = tree.counter;
        somewhere =
            not_loading (placed_section ix (current_section before));
        short = refl;
        size = refl;
      },
      tt,
    )
good_row m ix before p items (r.Constant run) e is are =
    let there = placed_there ix (current_section before) (loads_there before p.row (ap is_loading e) is.placed) in (
      one_item m (placed_section ix (current_section before)) (Literal (text_in p run)) there
          (literal_good m (placed_section ix (current_section before)) p run (subst (λ (row : Record). IsShort row) e is.short)),
      tt,
    )
good_row m ix before p items r.Relocate e is are =
    one_items m (placed_section ix (current_section before)) items
    (placed_there ix (current_section before) (loads_there before p.row (ap is_loading e) is.placed)) (are refl)
good_row m ix before p items (r.RepeatConstant times run) e is are =
    let there = placed_there ix (current_section before) (loads_there before p.row (ap is_loading e) is.placed) in (
      repeated m (placed_section ix (current_section before)) times (Literal (text_in p run) ∷ []) there
          (literal_good m (placed_section ix (current_section before)) p run (subst (λ (row : Record). IsShort row) e is.short), tt),
      tt,
    )
good_row m ix before p items (r.RepeatRelocate times) e is are = (
  repeated m (placed_section ix (current_section before)) times items
      (placed_there ix (current_section before) (loads_there before p.row (ap is_loading e) is.placed)) (are refl),
  tt,
)
good_row m ix before p items row e is are = tt

abbrev pub after_all : Option ℕ → List Load → Option ℕ
after_all current [] = current
after_all current (load ∷ loads) = after_all (current_after current load) loads

after_ones : (current : Option ℕ) (items : List Item) → after_all current (map One items) ≡ current
after_ones current [] = refl
after_ones current (item ∷ items) = after_ones current items

pub after_row : (ix : Indexes) (p : SpelledRecord) (items : List Item) (current : Option ℕ) (row : Record)
    → after_all (placed_section ix current) (loads_by ix p items row) ≡ placed_section ix (last_or current (cons_option (set_by row) []))
after_row ix p items current (r.SetSection i) = refl
after_row ix p items current r.Relocate = after_ones (placed_section ix current) items
after_row ix p items current row = refl

loads-append : (m : Parts) (current : Option ℕ) (a b : List Load) → AreGoodLoads m current a → AreGoodLoads m (after_all current a) b
    → AreGoodLoads m current (a ++ b)
loads-append m current [] b x y = y
loads-append m current (load ∷ a) b x y = (x.0, loads-append m (current_after current load) a b x.1 y)

-- the loads of records
pub good_loads : (m : Parts) (ix : Indexes) (maus : ℕ) → d.is_unit_count maus ≡ true → (before records : List SpelledRecord)
    → GoodFrom m ix before records → AreGoodLoads m (placed_section ix (current_section before)) (loads_of ix maus records)
good_loads m ix maus units before [] are = tt
good_loads m ix maus units before (p ∷ records) are =
    let items = items_at_prefix ix maus records in
    let current = placed_section ix (current_section before) in
    let after : placed_section ix (current_section (before ++ p ∷ [])) ≡ after_all current (loads_by ix p items p.row) =
    ap (placed_section ix) (after_one before p) ∙ sym (after_row ix p items (current_section before) p.row) in
    loads-append m current (loads_by ix p items p.row) (loads_of ix maus records)
    (good_row m ix before p items p.row refl are.0 (λ e. subst (λ (o : Option ℕ). AllByRecursion (IsGoodItem m (placed_section ix o)) items)
    (same_section before p e) (good_items m ix maus units (before ++ p ∷ []) records are.1)))
    (subst (λ (o : Option ℕ). AreGoodLoads m o (loads_of ix maus records)) after (good_loads m ix maus units (before ++ p ∷ []) records are.1))

-- ---- the start

first_is : {X : Type 0} (Q : X → Type 0) (ask : SpelledRecord → Option X) (records : List SpelledRecord)
    → AllByRecursion (λ p. IfSome (ask p) Q) records → IfSome (slice_get (filter_map ask records) 0) Q
first_is Q ask [] all = tt
first_is Q ask (p ∷ records) all = first_answer_is Q (ask p) (filter_map ask records) all.0 (first_is Q ask records all.1) where
  first_answer_is : {X : Type 0} (Q : X → Type 0) (o : Option X) (rest : List X) → IfSome o Q → IfSome (slice_get rest 0) Q
      → IfSome (slice_get (cons_option o rest) 0) Q
  first_answer_is Q None rest e h = h
  first_answer_is Q (Some x) rest e h = e

-- a start without a defect
abbrev IsGoodStart : Parts → Tree → Type 0
IsGoodStart m tree = (d.names_outside (d.counts_of m) tree ≡ false) × (d.has_other_counter None tree ≡ false)

good_start : (m : Parts) (ix : Indexes) (before : List SpelledRecord) (p : SpelledRecord) (row : Record) → p.row ≡ row → IsGood m ix before p
    → IfSome (start_by ix p row) (IsGoodStart m)
good_start m ix before p (r.Start value) e is = let tree = its_tree m ix before p (r.Start value) value e is refl refl in (tree.inside, tree.counter)
good_start m ix before p row e is = tt

good_starts : (m : Parts) (ix : Indexes) (before records : List SpelledRecord) → GoodFrom m ix before records
    → AllByRecursion (λ p. IfSome (start_by ix p p.row) (IsGoodStart m)) records
good_starts m ix before [] are = tt
good_starts m ix before (p ∷ records) are = (good_start m ix before p p.row refl are.0, good_starts m ix (before ++ p ∷ []) records are.1)

any_if : {X : Type 0} (test : X → Bool) (o : Option X) → IfSome o (λ x. test x ≡ false) → any_of test o ≡ false
any_if test None h = refl
any_if test (Some x) h = h

both_if : {X : Type 0} (P Q : X → Type 0) (o : Option X) → IfSome o (λ x. P x × Q x) → IfSome o P × IfSome o Q
both_if P Q None h = (tt, tt)
both_if P Q (Some x) h = (h.0, h.1)

pub start_good : (m : Parts) (ix : Indexes) (before records : List SpelledRecord) → GoodFrom m ix before records
    → (any_of (d.names_outside (d.counts_of m)) (slice_get (starts_of ix records) 0) ≡ false)
    × (any_of (d.has_other_counter None) (slice_get (starts_of ix records) 0) ≡ false)
start_good m ix before records are =
    let o = slice_get (starts_of ix records) 0 in
    let both = both_if (λ (tree : Tree). d.names_outside (d.counts_of m) tree ≡ false) (λ (tree : Tree). d.has_other_counter None tree
    ≡ false) o (first_is (IsGoodStart m) (λ p. start_by ix p p.row) records (good_starts m ix before records are)) in
    (any_if (d.names_outside (d.counts_of m)) o both.0, any_if (d.has_other_counter None) o both.1)
