-- The debug items that an ended prefix states have no defect.
use Rattle.std.proofs.Common.{◌≡◌, ℕ, ◌+◌, ◌<◌, Bool, true, false, cond, ◌==◌, nat_lt, List, [], ◌∷◌, ◌++◌, length, Option, Some, None, IfSome}
use Rattle.std.proofs.Common.{is_none, option_map, refl, sym, ap, subst, ◌∙◌, arith, append_assoc, lt-ltb, length-append}
use Rattle.std.specs.Prelude.{option_and_then}
use Rattle.std.specs.List.{list_any, cons_option, AllByRecursion}
use Rattle.std.proofs.lemmas.Bool.{or_from, not_from_true}
use Rattle.std.proofs.lemmas.List.Elements.{filter_map-append}
use Rattle.mufom_numbers.specs.declared.taken.Span.{Span}
use Rattle.mufom_expr.specs.Tree.{Tree}
use Rattle.mufom_expr.specs.Spelled.{Indexes}
use Rattle.mufom_records.specs.declared.record.Record.{Record}
use Rattle.mufom_records.specs.declared.record.Record.TheVariants as r
use Rattle.mufom_records.specs.declared.record.BlockTail.{BlockTail}
use Rattle.mufom_records.specs.declared.record.BlockTail.TheVariants as tail
use Rattle.mufom_records.specs.Fields.{is_one_of}
use Rattle.mufom_records.specs.Layouts.{debug_attributes}
use Rattle.mufom_debug.specs.declared.item.BlockHead.{BlockHead}
use Rattle.mufom_debug.specs.declared.item.BlockHead.TheVariants as heads
use Rattle.mufom_debug.specs.Marks.{DebugMark, block_begin, block_end, offset_of}
use Rattle.mufom_module.specs.declared.module.Parts.{Parts}
use Rattle.mufom_module.specs.Contents.{any_of, any_expression}
use Rattle.mufom_module.specs.Defects as d
use Rattle.mufom_module.specs.SpelledRecords.{SpelledRecord, debug_name, declared_by, of_kind, declared, is_declared, named_by, text_in, tree_in}
use Rattle.mufom_module.specs.SpelledRecords.{position_in, positioned}
use Rattle.mufom_module.specs.RecordParts.{Part}
use Rattle.mufom_module.specs.Gathered.{head_by, mark_by, marks}
use Rattle.mufom_judging.proofs.Stable.{position-stays}
use Rattle.mufom_judging.proofs.ended.Rows.{IsShort}
use Rattle.mufom_judging.proofs.ended.Parts.{KeptFrom}
use Rattle.mufom_judging.proofs.ended.Trees.{named_known, declared_below}
use Rattle.mufom_judging.proofs.ended.Good.{IsGood, GoodFrom, text_short, none_passes, map_all}
use Rattle.mufom_judging.proofs.ended.Loads.{its_tree, below_test}

-- ---- one mark

-- a debug record without a defect of its own
pub record IsGoodMark (m : Parts) (mark : DebugMark) : Type 0 where
  pub short : d.has_long_name mark ≡ false
  pub place : d.has_bad_mark (d.counts_of m) mark ≡ false
  pub counter : any_expression (d.has_other_counter None) mark ≡ false
  pub attribute : d.has_unknown_attribute mark ≡ false

-- the head of a block names no section and no entry that is not there, and no program counter
record IsGoodHead (m : Parts) (head : BlockHead) : Type 0 where
  section : d.names_bad_section (d.counts_of m) head ≡ false
  inside : any_of (d.names_outside (d.counts_of m)) (offset_of head) ≡ false
  counter : any_of (d.has_other_counter None) (offset_of head) ≡ false

scope_good : (m : Parts) (test : Bool) (stack type_index : ℕ) (value : Tree) → d.names_outside (d.counts_of m) value ≡ false
    → d.has_other_counter None value ≡ false
    → IsGoodHead m (cond test (heads.Global stack type_index value) (heads.Local stack type_index value))
scope_good m true stack type_index value inside counter = record { section = refl; inside = inside; counter = counter }
scope_good m false stack type_index value inside counter = record { section = refl; inside = inside; counter = counter }

good_head : (m : Parts) (ix : Indexes) (before : List SpelledRecord) (p : SpelledRecord) (kind n : ℕ) (name : Span) (block : BlockTail) → p.row
    ≡ r.BlockBegin kind n name block → IsGood m ix before p → IsGoodHead m (head_by ix p kind block)
good_head m ix before p kind n name tail.Module e is = record { section = refl; inside = refl; counter = refl }
good_head m ix before p kind n name (tail.Scope stack type_index offset) e is =
    let tree = its_tree m ix before p (r.BlockBegin kind n name (tail.Scope stack type_index offset)) offset e is refl refl in
    scope_good m (kind == 4) stack type_index (positioned ix (tree_in p offset)) tree.inside tree.counter
good_head m ix before p kind n name (tail.Source ns) e is = record { section = refl; inside = refl; counter = refl }
good_head m ix before p kind n name (tail.Section section_type i offset) e is =
    let tree = its_tree m ix before p (r.BlockBegin kind n name (tail.Section section_type i offset)) offset e is refl refl in
    record { section = below_test (length m.sections) (position_in ix.sections i) (is.named i (ap named_by e)); inside = tree.inside; counter = tree.counter }

good_begin : (m : Parts) (ix : Indexes) (p : SpelledRecord) (kind : ℕ) (name : Span) (block : BlockTail) → name.len < 65536
    → (head : IsGoodHead m (head_by ix p kind block)) → IsGoodMark m (block_begin (head_by ix p kind block) (text_in p name))
good_begin m ix p kind name block short head = record {
  short = text_short p name short;
  place = or_from _ _ head.section head.inside;
  counter =
      head.counter;
  attribute = refl;
}

good_end : (m : Parts) (ix : Indexes) (before : List SpelledRecord) (p : SpelledRecord) (value : Option Span) → p.row ≡ r.BlockEnd value
    → IsGood m ix before p → IsGoodMark m (block_end (option_map (λ span. positioned ix (tree_in p span)) value))
good_end m ix before p None e is = record { short = refl; place = refl; counter = refl; attribute = refl }
good_end m ix before p (Some span) e is =
    let tree = its_tree m ix before p (r.BlockEnd (Some span)) span e is refl refl in
    record { short = refl; place = tree.inside; counter = tree.counter; attribute = refl }

its_short : (m : Parts) (ix : Indexes) (before : List SpelledRecord) (p : SpelledRecord) (row : Record) → p.row ≡ row → IsGood m ix before p → IsShort row
its_short m ix before p row e is = subst (λ (it : Record). IsShort it) e is.short

good_mark : (m : Parts) (ix : Indexes) (before : List SpelledRecord) (p : SpelledRecord) (row : Record) → p.row ≡ row → IsGood m ix before p
    → IfSome (mark_by ix p row) (IsGoodMark m)
good_mark m ix before p (r.BlockBegin kind n name block) e is =
    good_begin m ix p kind name block (its_short m ix before p (r.BlockBegin kind n name block) e is).0 (good_head m ix before p kind n name block e is)
good_mark m ix before p (r.BlockEnd value) e is = good_end m ix before p value e is
good_mark m ix before p (r.DebugName i name) e is = record {
  short = text_short p name (its_short m ix before p (r.DebugName i name) e is);
  place =
      refl;
  counter = refl;
  attribute = refl;
}
good_mark m ix before p (r.DebugValue i value) e is =
    let tree = its_tree m ix before p (r.DebugValue i value) value e is refl refl in
    record { short = refl; place = tree.inside; counter = tree.counter; attribute = refl }
good_mark m ix before p (r.DebugNote i type_index attribute ns) e is =
    record {
      short = refl;
      place = refl;
      counter = refl;
      attribute =
          not_from_true (is_one_of debug_attributes attribute) (its_short m ix before p (r.DebugNote i type_index attribute ns) e is);
    }
good_mark m ix before p row e is = tt

-- ---- all marks

-- the records' marks have no defect of their own
abbrev pub AreGoodMarks : Parts → Indexes → List SpelledRecord → Type 0
AreGoodMarks m ix records = AllByRecursion (λ p. IfSome (mark_by ix p p.row) (IsGoodMark m)) records

pub good_marks : (m : Parts) (ix : Indexes) (before records : List SpelledRecord) → GoodFrom m ix before records → AreGoodMarks m ix records
good_marks m ix before [] are = tt
good_marks m ix before (p ∷ records) are = (good_mark m ix before p p.row refl are.0, good_marks m ix (before ++ p ∷ []) records are.1)

any_if : {X : Type 0} (P : X → Type 0) (test : X → Bool) → ((x : X) → P x → test x ≡ false) → (o : Option X) → IfSome o P → any_of test o ≡ false
any_if P test f None h = refl
any_if P test f (Some x) h = f x h

none_marked : (m : Parts) (ix : Indexes) (test : DebugMark → Bool) → ((mark : DebugMark) → IsGoodMark m mark → test mark ≡ false)
    → (records : List SpelledRecord) → AreGoodMarks m ix records → list_any test (marks ix records) ≡ false
none_marked m ix test f records are = none_passes test (λ p. mark_by ix p p.row) records
    (map_all (λ p. IfSome (mark_by ix p p.row) (IsGoodMark m)) (λ p. any_of test (mark_by ix p p.row)
    ≡ false) (λ p h. any_if (IsGoodMark m) test f (mark_by ix p p.row) h) records are)

pub marks_short : (m : Parts) (ix : Indexes) (records : List SpelledRecord) → AreGoodMarks m ix records → list_any d.has_long_name (marks ix records) ≡ false
marks_short m ix records are = none_marked m ix d.has_long_name (λ mark is. is.short) records are

pub marks_inside : (m : Parts) (ix : Indexes) (records : List SpelledRecord) → AreGoodMarks m ix records
    → list_any (d.has_bad_mark (d.counts_of m)) (marks ix records) ≡ false
marks_inside m ix records are = none_marked m ix (d.has_bad_mark (d.counts_of m)) (λ mark is. is.place) records are

pub marks_counter : (m : Parts) (ix : Indexes) (records : List SpelledRecord) → AreGoodMarks m ix records
    → list_any (any_expression (d.has_other_counter None)) (marks ix records) ≡ false
marks_counter m ix records are = none_marked m ix (any_expression (d.has_other_counter None)) (λ mark is. is.counter) records are

pub marks_attribute : (m : Parts) (ix : Indexes) (records : List SpelledRecord) → AreGoodMarks m ix records
    → list_any d.has_unknown_attribute (marks ix records) ≡ false
marks_attribute m ix records are = none_marked m ix d.has_unknown_attribute (λ mark is. is.attribute) records are

-- ---- names are declared before they are used

plus_none : (n : ℕ) → n ≡ n + 0
plus_none n = omega arith

used_below : (n position : ℕ) (rest : List DebugMark) → position < n → is_none (d.declared_after (n + 0) rest) ≡ false
    → is_none (option_and_then (λ k. d.declared_after k rest) (cond (nat_lt position n) (Some n) None)) ≡ false
used_below n position rest below h =
    ap (λ b. is_none (option_and_then (λ k. d.declared_after k rest) (cond b (Some n) None))) (lt-ltb position n below)
    ∙ ap (λ (k : ℕ). is_none (d.declared_after k rest)) (plus_none n) ∙ h

-- the number of names that a record declares
abbrev names_by : Record → ℕ
names_by row = length (cons_option (of_kind debug_name (declared_by row)) [])

declared_row : (ix : Indexes) (p : SpelledRecord) (row : Record) (n : ℕ) (rest : List DebugMark)
    → ((i : ℕ) → named_by row ≡ Some (debug_name, i) → position_in ix.debug_names i < n) → is_none (d.declared_after (n + names_by row) rest) ≡ false
    → is_none (d.declared_after n (cons_option (mark_by ix p row) rest)) ≡ false
declared_row ix p (r.BlockBegin kind size name block) n rest named h = ap (λ (k : ℕ). is_none (d.declared_after k rest)) (plus_none n) ∙ h
declared_row ix p (r.BlockEnd value) n rest named h = ap (λ (k : ℕ). is_none (d.declared_after k rest)) (plus_none n) ∙ h
declared_row ix p (r.DebugName i name) n rest named h = h
declared_row ix p (r.DebugValue i value) n rest named h = used_below n (position_in ix.debug_names i) rest (named i refl) h
declared_row ix p (r.DebugNote i type_index attribute ns) n rest named h = used_below n (position_in ix.debug_names i) rest (named i refl) h
declared_row ix p row n rest named h = ap (λ (k : ℕ). is_none (d.declared_after k rest)) (plus_none n) ∙ h

names-append : (a b : List SpelledRecord) → declared debug_name (a ++ b) ≡ declared debug_name a ++ declared debug_name b
names-append a b = filter_map-append (λ p. of_kind debug_name (declared_by p.row)) a b

-- the position of a name that was declared is below their number
position_known : (ix : Indexes) (before : List SpelledRecord) (more : List ℕ) (i : ℕ) → ix.debug_names ≡ declared debug_name before ++ more
    → is_declared before (debug_name, i) ≡ true → position_in ix.debug_names i < length (declared debug_name before)
position_known ix before more i is known =
    let same : position_in ix.debug_names i ≡ position_in (declared debug_name before) i = ap (λ l. position_in l i) is
    ∙ position-stays (declared debug_name before) more i known in
    let below = declared_below before debug_name i known in
    omega arith

pub names_declared : (ix : Indexes) (part : Part) (before records : List SpelledRecord) → ix.debug_names ≡ declared debug_name (before ++ records)
    → KeptFrom part before records
    → is_none (d.declared_after (length (declared debug_name before)) (marks ix records)) ≡ false
names_declared ix part before [] is own = refl
names_declared ix part before (p ∷ records) is own =
    let n = length (declared debug_name before) in
    let grown : length (declared debug_name (before ++ p ∷ [])) ≡ n + names_by p.row = ap length (names-append before (p ∷ []))
    ∙ length-append (declared debug_name before) (cons_option (of_kind debug_name (declared_by p.row)) []) in
    let rest = names_declared ix part (before ++ p ∷ []) records (is ∙ ap (declared debug_name) (sym (append_assoc before (p ∷ []) records))) own.2 in
    declared_row ix p p.row n (marks ix records)
    (λ i e. position_known ix before (declared debug_name (p ∷ records)) i (is
    ∙ names-append before (p ∷ records)) (named_known before p (debug_name, i) e own.1.known))
    (ap (λ (k : ℕ). is_none (d.declared_after k (marks ix records))) (sym grown) ∙ rest)
