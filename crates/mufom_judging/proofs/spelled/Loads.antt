-- The program counters that the loads of a valid module use are those that its records may use.
use Rattle.std.proofs.Common.{◌≡◌, ℕ, Bool, true, false, ◌==◌, ◌||◌, List, [], ◌∷◌, ◌++◌, map, Option, Some, None, option_map, unwrap_or, refl, sym}
use Rattle.std.proofs.Common.{ap, subst, ◌∙◌, append-nil}
use Rattle.std.specs.List.{list_all, list_any, last_or, cons_option}
use Rattle.std.proofs.lemmas.Bool.{and_parts, and_from, or_parts, both_ways}
use Rattle.std.proofs.lemmas.List.Elements.{filter_map-append}
use Rattle.mufom_numbers.specs.declared.taken.Span.{Span}
use Rattle.mufom_expr.specs.declared.token.Letter.{Letter}
use Rattle.mufom_expr.specs.declared.token.Letter.TheVariants.{I, L, P, R, S, X}
use Rattle.mufom_expr.specs.Tree.{Tree}
use Rattle.mufom_expr.specs.Value.{variables_of}
use Rattle.mufom_expr.specs.Spelled.{Indexes, list_of}
use Rattle.mufom_records.specs.declared.record.Record.{Record}
use Rattle.mufom_records.specs.declared.record.Record.TheVariants as r
use Rattle.mufom_records.specs.Fields.{first_of}
use Rattle.mufom_records.specs.Layouts.{IsWholeRecord}
use Rattle.mufom_loads.specs.declared.load.Item.{Item}
use Rattle.mufom_loads.specs.declared.load.Item.TheVariants.{Literal, Field}
use Rattle.mufom_loads.specs.declared.load.Load.{Load}
use Rattle.mufom_loads.specs.declared.load.Load.TheVariants.{One}
use Rattle.mufom_module.specs.Contents.{any_of, item_any, current_after, placed_from}
use Rattle.mufom_module.specs.Defects as d
use Rattle.mufom_module.specs.SpelledRecords.{SpelledRecord, bytes_of, Kind, section, public, reference, of_kind, declared_by, declared, is_declared}
use Rattle.mufom_module.specs.SpelledRecords.{kind_of_letter, index_of_variable, named_by, is_public_value, text_in, tree_in}
use Rattle.mufom_module.specs.SpelledRecords.{position_in, positioned, are_listed}
use Rattle.mufom_module.specs.RecordParts.{data_part, stands_in, opens_items, mode_of}
use Rattle.mufom_module.specs.Gathered.{item_by, items_at_prefix, loads_by, loads_of}
use Rattle.mufom_module.specs.Grammar.{AreWhole, Follows, FollowFrom}
use Rattle.mufom_judging.specs.Faults.{set_by, current_section, counter_allowed, misplaces_counter}
use Rattle.mufom_judging.proofs.ended.Trees.{IsKnown, placed_section, named_known, tree_known}
use Rattle.mufom_judging.proofs.ended.Loads.{after_one, same_section, after_all, after_row, prefix_some}
use Rattle.mufom_judging.proofs.spelled.Plain.{is_item, body_plain}
use Rattle.mufom_judging.proofs.spelled.Entries.{IsListed, tree_back}
use Rattle.mufom_records.specs.declared.options.ReadOptions.{ReadOptions}
use Rattle.mufom_records.specs.Parts.{expression_of}

-- ---- the index lists

-- the records before declare what the lists have
pub record AreIn (ix : Indexes) (before : List SpelledRecord) : Type 0 where
  pub sections : declared section before ≡ ix.sections
  pub publics : declared public before ≡ ix.publics
  pub references : declared reference before ≡ ix.references

listed_variable : (ix : Indexes) (before : List SpelledRecord) → AreIn ix before → (letter : Letter) (i : ℕ)
    → is_declared before (kind_of_letter letter, i) ≡ true → list_any (λ j. j == i) (list_of ix letter) ≡ true
listed_variable ix before are I i h = ap (list_any (λ j. j == i)) (sym are.publics) ∙ h
listed_variable ix before are X i h = ap (list_any (λ j. j == i)) (sym are.references) ∙ h
listed_variable ix before are L i h = ap (list_any (λ j. j == i)) (sym are.sections) ∙ h
listed_variable ix before are P i h = ap (list_any (λ j. j == i)) (sym are.sections) ∙ h
listed_variable ix before are R i h = ap (list_any (λ j. j == i)) (sym are.sections) ∙ h
listed_variable ix before are S i h = ap (list_any (λ j. j == i)) (sym are.sections) ∙ h

listed_variables : (ix : Indexes) (before : List SpelledRecord) → AreIn ix before → (variables : List (Letter × ℕ))
    → list_all (is_declared before) (map index_of_variable variables) ≡ true
    → list_all (λ v. list_any (λ j. j == v.1) (list_of ix v.0)) variables ≡ true
listed_variables ix before are [] h = refl
listed_variables ix before are (v ∷ variables) h =
    let both = and_parts (is_declared before (index_of_variable v)) _ h in
    and_from _ _ (listed_variable ix before are v.0 v.1 both.0) (listed_variables ix before are variables both.1)

listed_tree : (ix : Indexes) (before : List SpelledRecord) → AreIn ix before → (tree : Tree) → IsKnown before tree → are_listed ix tree ≡ true
listed_tree ix before are tree known = listed_variables ix before are (variables_of tree) known

data_declares : (row : Record) → stands_in data_part row ≡ true → declared_by row ≡ None
data_declares (r.SectionType i a b c x y z) own = cc
data_declares (r.PublicName i name) own = cc
data_declares (r.ReferenceName i name) own = cc
data_declares (r.DebugName i name) own = cc
data_declares row own = refl

same_declared : (kind : Kind) (before : List SpelledRecord) (p : SpelledRecord) → stands_in data_part p.row ≡ true → declared kind (before ++ p ∷ [])
    ≡ declared kind before
same_declared kind before p own =
    filter_map-append (λ q. of_kind kind (declared_by q.row)) before (p ∷ [])
    ∙ ap (λ o. declared kind before ++ cons_option (of_kind kind o) []) (data_declares p.row own) ∙ append-nil (declared kind before)

are_in_next : (ix : Indexes) (before : List SpelledRecord) (p : SpelledRecord) → stands_in data_part p.row ≡ true → AreIn ix before
    → AreIn ix (before ++ p ∷ [])
are_in_next ix before p own are = record {
  sections = same_declared section before p own ∙ are.sections;
  publics = same_declared public before p own ∙ are.publics;
  references = same_declared reference before p own ∙ are.references;
}

-- ---- what holds of loads

-- no load has a program counter that it may not use
abbrev pub NoneMisplaced : Option ℕ → List Load → Type 0
NoneMisplaced current loads = list_any d.misplaces_counter (placed_from current loads) ≡ false

-- nor an item
abbrev pub NoItemMisplaced : Option ℕ → List Item → Type 0
NoItemMisplaced current items = list_any (item_any (d.has_other_counter current)) items ≡ false

placed_parts : (current : Option ℕ) (a b : List Load) → NoneMisplaced current (a ++ b) → NoneMisplaced current a × NoneMisplaced (after_all current a) b
placed_parts current [] b h = (refl, h)
placed_parts current (load ∷ a) b h =
    let both = or_parts (d.misplaces_counter (current, load)) _ h in
    let rest = placed_parts (current_after current load) a b both.1 in
    ((λ i. both.0 i || rest.0 i), rest.1)

ones : (current : Option ℕ) (items : List Item) → NoneMisplaced current (map One items) → NoItemMisplaced current items
ones current [] h = refl
ones current (item ∷ items) h = let both = or_parts (item_any (d.has_other_counter current) item) _ h in (λ i. both.0 i || ones current items both.1 i)

-- the items after a record that opens them
opened : (ix : Indexes) (p : SpelledRecord) (items : List Item) (current : Option ℕ) (row : Record) → opens_items row ≡ true → is_item row ≡ false
    → NoneMisplaced current (loads_by ix p items row) → NoItemMisplaced current items
opened ix p items current r.Relocate opens plain h = ones current items h
opened ix p items current (r.RepeatRelocate times) opens plain h = (or_parts (list_any (item_any (d.has_other_counter current)) items) false h).0
opened ix p items current (r.ConstantItem run) opens plain h = cc
opened ix p items current (r.FieldItem kind value n) opens plain h = cc
opened ix p items current row opens plain h = cc

-- ---- one record

-- what is known before a record of the data part
pub record Known (ix : Indexes) (maus : ℕ) (items : Bool) (before : List SpelledRecord) (p : SpelledRecord) (records : List SpelledRecord) : Type 0 where
  pub are : AreIn ix before
  pub listed : IsListed ix (current_section before)
  pub follows : Follows before p
  pub may : is_item p.row ≡ true → items ≡ true
  pub loads : NoneMisplaced (placed_section ix (current_section before)) (loads_by ix p (items_at_prefix ix maus records) p.row)
  pub its_items : items ≡ true → NoItemMisplaced (placed_section ix (current_section before)) (items_at_prefix ix maus (p ∷ records))

-- the item of a record and those after it
item_here : (ix : Indexes) (maus : ℕ) (items : Bool) (before : List SpelledRecord) (p : SpelledRecord) (records : List SpelledRecord) (item : Item)
    → Known ix maus items before p records → is_item p.row ≡ true → item_by ix maus p p.row ≡ Some item
    → (item_any (d.has_other_counter (placed_section ix (current_section before))) item ≡ false)
    × NoItemMisplaced (placed_section ix (current_section before)) (items_at_prefix ix maus records)
item_here ix maus items before p records item its is same =
    let current = placed_section ix (current_section before) in
    or_parts (item_any (d.has_other_counter current) item) _ (ap (list_any (item_any (d.has_other_counter current)))
    (sym (prefix_some ix maus p records item same)) ∙ its.its_items (its.may is))

its_tree : (ix : Indexes) (maus : ℕ) (items : Bool) (before : List SpelledRecord) (p : SpelledRecord) (records : List SpelledRecord) (row : Record)
    (span : Span) → Known ix maus items before p records → p.row ≡ row → expression_of row ≡ Some span → is_public_value row ≡ false
    → are_listed ix (tree_in p span) ≡ true
its_tree ix maus items before p records row span its is e other =
    listed_tree ix before its.are (tree_in p span) (tree_known before p span (ap expression_of is ∙ e) (ap is_public_value is ∙ other) its.follows.known)

-- the index that it refers to is in the list
its_index : (ix : Indexes) (maus : ℕ) (items : Bool) (before : List SpelledRecord) (p : SpelledRecord) (records : List SpelledRecord) (row : Record)
    (i : ℕ) → Known ix maus items before p records → p.row ≡ row → named_by row ≡ Some (section, i) → list_any (λ k. k == i) ix.sections ≡ true
its_index ix maus items before p records row i its is e = ap (list_any (λ k. k == i)) (sym its.are.sections)
    ∙ named_known before p (section, i) (ap named_by is ∙ e) its.follows.known

own_row : (ix : Indexes) (maus : ℕ) (items : Bool) (before : List SpelledRecord) (p : SpelledRecord) (records : List SpelledRecord) (row : Record)
    → Known ix maus items before p records → p.row ≡ row → stands_in data_part row ≡ true
    → any_of (d.has_other_counter (counter_allowed before row)) (option_map (tree_in p) (expression_of row)) ≡ false
own_row ix maus items before p records (r.FieldItem kind value n) its is own =
    let item = Field kind (unwrap_or n maus) (positioned ix (tree_in p value)) in
    let here = item_here ix maus items before p records item its (ap is_item is) (ap (item_by ix maus p) is) in
    tree_back ix (current_section before) (tree_in p value) its.listed
    (its_tree ix maus items before p records (r.FieldItem kind value n) value its is refl refl) here.0
own_row ix maus items before p records (r.SetPc i value) its is own =
    let listed = its_index ix maus items before p records (r.SetPc i value) i its is refl in
    let loads : NoneMisplaced (placed_section ix (current_section before)) (loads_by ix p (items_at_prefix ix maus records) (r.SetPc i value)) =
    subst (λ (row : Record). NoneMisplaced (placed_section ix (current_section before)) (loads_by ix p (items_at_prefix ix maus records) row)) is its.loads in
    tree_back ix (Some i) (tree_in p value) listed (its_tree ix maus items before p records (r.SetPc i value) value its is refl refl)
    (or_parts (d.has_other_counter (Some (position_in ix.sections i)) (positioned ix (tree_in p value))) false loads).0
own_row ix maus items before p records (r.SetSection i) its is own = refl
own_row ix maus items before p records (r.Constant run) its is own = refl
own_row ix maus items before p records r.Relocate its is own = refl
own_row ix maus items before p records (r.ConstantItem run) its is own = refl
own_row ix maus items before p records (r.RepeatConstant times run) its is own = refl
own_row ix maus items before p records (r.RepeatRelocate times) its is own = refl
own_row ix maus items before p records row its is own = cc

-- the items after a record
next_row : (ix : Indexes) (maus : ℕ) (items : Bool) (before : List SpelledRecord) (p : SpelledRecord) (records : List SpelledRecord) (row : Record)
    → Known ix maus items before p records → p.row ≡ row → opens_items row ≡ true
    → NoItemMisplaced (placed_section ix (current_section (before ++ p ∷ []))) (items_at_prefix ix maus records)
next_row ix maus items before p records (r.FieldItem kind value n) its is opens =
    let item = Field kind (unwrap_or n maus) (positioned ix (tree_in p value)) in
    subst (λ (o : Option ℕ). NoItemMisplaced (placed_section ix o) (items_at_prefix ix maus records)) (sym (same_section before p (ap set_by is)))
    (item_here ix maus items before p records item its (ap is_item is) (ap (item_by ix maus p) is)).1
next_row ix maus items before p records (r.ConstantItem run) its is opens =
    subst (λ (o : Option ℕ). NoItemMisplaced (placed_section ix o) (items_at_prefix ix maus records)) (sym (same_section before p (ap set_by is)))
    (item_here ix maus items before p records (Literal (text_in p run)) its (ap is_item is) (ap (item_by ix maus p) is)).1
next_row ix maus items before p records r.Relocate its is opens =
    subst (λ (o : Option ℕ). NoItemMisplaced (placed_section ix o) (items_at_prefix ix maus records)) (sym (same_section before p (ap set_by is)))
    (opened ix p (items_at_prefix ix maus records) (placed_section ix (current_section before)) p.row (ap opens_items is) (ap is_item is) its.loads)
next_row ix maus items before p records (r.RepeatRelocate times) its is opens =
    subst (λ (o : Option ℕ). NoItemMisplaced (placed_section ix o) (items_at_prefix ix maus records)) (sym (same_section before p (ap set_by is)))
    (opened ix p (items_at_prefix ix maus records) (placed_section ix (current_section before)) p.row (ap opens_items is) (ap is_item is) its.loads)
next_row ix maus items before p records row its is opens = cc

listed_row : (ix : Indexes) (maus : ℕ) (items : Bool) (before : List SpelledRecord) (p : SpelledRecord) (records : List SpelledRecord) (row : Record)
    → Known ix maus items before p records → p.row ≡ row → IsListed ix (current_section (before ++ p ∷ []))
listed_row ix maus items before p records (r.SetSection i) its is =
    subst (IsListed ix) (sym (after_one before p ∙ ap (λ (row : Record). last_or (current_section before) (cons_option (set_by row) [])) is))
    (its_index ix maus items before p records (r.SetSection i) i its is refl)
listed_row ix maus items before p records row its is = subst (IsListed ix) (sym (same_section before p (ap set_by is))) its.listed

-- ---- all records

-- no record uses a program counter that it may not use
abbrev pub CounterFrom : List SpelledRecord → List SpelledRecord → Type 0
CounterFrom before [] = Unit {0}
CounterFrom before (p ∷ records) = (misplaces_counter before p ≡ false) × CounterFrom (before ++ p ∷ []) records

where_items : (options : ReadOptions) (items : Bool) (p : SpelledRecord) (next : Option ℕ) → IsWholeRecord
    (mode_of options items p.bytes) p.row p.bytes next → is_item p.row ≡ true
    → items ≡ true
where_items options true p next is its = refl
where_items options false p next is its = absurd (both_ways (is_item p.row) (body_plain p.row p.bytes next is) its)

pub load_counters : (options : ReadOptions) (ix : Indexes) (maus : ℕ) (items : Bool) (before records : List SpelledRecord) (after : List ℕ)
    → AreWhole options items records after
    → list_all (λ p. stands_in data_part p.row) records ≡ true → FollowFrom before records → AreIn ix before
    → IsListed ix (current_section before) → NoneMisplaced (placed_section ix (current_section before)) (loads_of ix maus records)
    → (items ≡ true → NoItemMisplaced (placed_section ix (current_section before)) (items_at_prefix ix maus records)) → CounterFrom before records
load_counters options ix maus items before [] after whole own follow are listed loads its = tt
load_counters options ix maus items before (p ∷ records) after whole own follow are listed loads its =
    let current = placed_section ix (current_section before) in
    let both = and_parts (stands_in data_part p.row) _ own in
    let split = placed_parts current (loads_by ix p (items_at_prefix ix maus records) p.row) (loads_of ix maus records) loads in
    let known : Known ix maus items before p records = record {
      are = are;
      listed = listed;
      follows = follow.0;
      may = where_items options items p (first_of (bytes_of records ++ after) None) whole.0;
      loads = split.0;
      its_items = its;
    } in
    let next : after_all current (loads_by ix p (items_at_prefix ix maus records) p.row) ≡ placed_section ix (current_section (before ++ p ∷ [])) =
    after_row ix p (items_at_prefix ix maus records) (current_section before) p.row ∙ ap (placed_section ix) (sym (after_one before p)) in (
      own_row ix maus items before p records p.row known refl both.0,
      load_counters options ix maus (opens_items p.row) (before ++ p ∷ []) records after whole.1 both.1 follow.1 (are_in_next ix before p both.0 are)
          (listed_row ix maus items before p records p.row known refl)
          (subst (λ (o : Option ℕ). NoneMisplaced o (loads_of ix maus records)) next split.1) (next_row ix maus items before p records p.row known refl),
    )
