-- The publics and references that the records of a part state weigh at most what the records cost.
use Rattle.std.proofs.Common.{◌≡◌, ℕ, ◌+◌, ◌*◌, ◌≤◌, Bool, true, false, cond, ◌==◌, ◌||◌, List, [], ◌∷◌, length, sum_by, slice_get, Option, Some}
use Rattle.std.proofs.Common.{None, is_none, unwrap_or, refl, arith, filter_map}
use Rattle.std.specs.List.{list_all, list_any, cons_option, AllByRecursion}
use Rattle.std.proofs.lemmas.Bool.{and_parts}
use Rattle.std.proofs.lemmas.List.Sums.{sum_by-cons}
use Rattle.mufom_expr.specs.Tree.{Tree, number}
use Rattle.mufom_expr.specs.Spelled.{Indexes}
use Rattle.mufom_records.specs.declared.record.Record.{Record}
use Rattle.mufom_records.specs.declared.record.Record.TheVariants as r
use Rattle.mufom_records.specs.declared.record.BlockTail.TheVariants as tail
use Rattle.mufom_names.specs.declared.name.Weak.{Weak}
use Rattle.mufom_module.specs.SpelledRecords.{SpelledRecord, public, reference, tree_in, declared_by, named_by, of_kind, declared, Once}
use Rattle.mufom_module.specs.SpelledRecords.{value_of_public, is_same_statement, assigned_by, is_assigned}
use Rattle.mufom_module.specs.Gathered.{answers, first_answer, public_note_for, reference_note_for, weak_for, value_for, public_by, publics_of}
use Rattle.mufom_module.specs.Gathered.{reference_by, references_of}
use Rattle.mufom_module.specs.Weights.{expression_weight, note_weight, public_weight, default_weight, weak_weight, reference_weight}
use Rattle.mufom_judging.proofs.weighing.Trees.{weight-positioned}
use Rattle.mufom_judging.proofs.weighing.Records.{present, cost}
use Rattle.mufom_judging.proofs.weighing.Sums.{costs, value_by, sum_by-option, sum_by-two, sum_by-below, first_below, always, NewFrom, paid_for}
use Rattle.mufom_judging.proofs.weighing.Entries.{declares, speaks, stated_of, declared_below, at_index, unless}

-- ---- publics

-- what the record of a value weighs
abbrev value_weight : Tree → ℕ
value_weight tree = 11 + expression_weight tree

abbrev values_for : ℕ → List SpelledRecord → List Tree
values_for i part = filter_map (λ p. value_for i p p.row) part

-- a public that is given a value has one
value_next : (i : ℕ) (p : SpelledRecord) (row : Record) (rest : List Once) (found : List Tree)
    → (list_any (is_same_statement (value_of_public i)) rest ≡ true → is_none (slice_get found 0) ≡ false)
    → list_any (is_same_statement (value_of_public i)) (cons_option (assigned_by row) rest) ≡ true
    → is_none (slice_get (cons_option (value_for i p row) found) 0) ≡ false
value_next i p (r.PublicValue j value) rest found h e = by_test (i == j) e where
  by_test : (test : Bool) → (test || list_any (is_same_statement (value_of_public i)) rest) ≡ true
      → is_none (slice_get (cons_option (cond test (Some (tree_in p value)) None) found) 0) ≡ false
  by_test true e = refl
  by_test false e = h e
value_next i p row rest found h e = h e

value_found : (i : ℕ) (records : List SpelledRecord) → is_assigned records (value_of_public i) ≡ true → is_none (slice_get (values_for i records) 0) ≡ false
value_found i [] h = cc
value_found i (p ∷ records) h = value_next i p p.row (filter_map (λ q. assigned_by q.row) records) (values_for i records) (value_found i records) h

there : (o : Option Tree) → is_none o ≡ false → 11 + expression_weight (unwrap_or o (number 0)) ≤ value_by value_weight o
there None h = cc
there (Some tree) h = omega arith

stated_public : (i : ℕ) (p : SpelledRecord) (row : Record) → value_by note_weight (public_note_for i row) + value_by value_weight
    (value_for i p row) ≤ paid_for i (of_kind public (named_by row)) (cost p row)
stated_public i p (r.PublicNote j type_index attribute ns) =
    let its = at_index note_weight (i == j) (record { type_index = type_index; attribute = attribute; numbers = ns }) (29 + 9 * length ns.items)
    (omega arith) in omega (arith, its)
stated_public i p (r.PublicValue j value) = let its = at_index value_weight (i == j) (tree_in p value) (11 + expression_weight (tree_in p value))
    (omega arith) in omega (arith, its)
stated_public i p row = omega arith

stated_publics : (i : ℕ) (part : List SpelledRecord) → sum_by note_weight (answers (public_note_for i) part) + sum_by value_weight
    (values_for i part) ≤ stated_of public part i
stated_publics i [] = omega arith
stated_publics i (p ∷ part) =
    let own = stated_public i p p.row in
    let rest = stated_publics i part in
    let a = sum_by-option note_weight (public_note_for i p.row) (answers (public_note_for i) part) in
    let b = sum_by-option value_weight (value_for i p p.row) (values_for i part) in
    let all = sum_by-cons (λ (q : SpelledRecord). paid_for i (of_kind public (named_by q.row)) (cost q q.row)) p part in
    omega (arith, own, rest, a, b, all)

-- the public that the record declares has a value
abbrev HasValue : List SpelledRecord → Option ℕ → Type 0
HasValue part None = Unit {0}
HasValue part (Some i) = is_assigned part (value_of_public i) ≡ true

public_below : (ix : Indexes) (part : List SpelledRecord) (p : SpelledRecord) (row : Record) → HasValue part (of_kind public (declared_by row))
    → value_by public_weight (public_by ix part p row) ≤ value_by (λ _. cost p row) (of_kind public (declared_by row)) + value_by
    (stated_of public part) (of_kind public (declared_by row))
public_below ix part p (r.PublicName i name) has =
    let stated = stated_publics i part in
    let first = first_below value_weight (values_for i part) in
    let its = there (slice_get (values_for i part) 0) (value_found i part has) in
    let same = weight-positioned ix (unwrap_or (slice_get (values_for i part) 0) (number 0)) in
    omega (arith, stated, first, its, same)
public_below ix part p row has = omega arith

all_valued : (part records : List SpelledRecord) → list_all (λ i. is_assigned part (value_of_public i)) (declared public records) ≡ true
    → AllByRecursion (λ p. HasValue part (of_kind public (declared_by p.row))) records
all_valued part [] h = tt
all_valued part (p ∷ records) h = next (of_kind public (declared_by p.row)) h (all_valued part records) where
  next : (o : Option ℕ) → list_all (λ i. is_assigned part (value_of_public i)) (cons_option o (declared public records)) ≡ true
      → (list_all (λ i. is_assigned part (value_of_public i)) (declared public records) ≡ true
      → AllByRecursion (λ p. HasValue part (of_kind public (declared_by p.row))) records)
      → HasValue part o × AllByRecursion (λ p. HasValue part (of_kind public (declared_by p.row))) records
  next None h rest = (tt, rest h)
  next (Some i) h rest = let both = and_parts (is_assigned part (value_of_public i)) _ h in (both.0, rest both.1)

map_all : (P Q : SpelledRecord → Type 0) → ((p : SpelledRecord) → P p → Q p) → (records : List SpelledRecord) → AllByRecursion P records
    → AllByRecursion Q records
map_all P Q f [] are = tt
map_all P Q f (p ∷ records) are = (f p are.0, map_all P Q f records are.1)

-- ---- references

weak_below : (o : Option Weak) → weak_weight o ≤ value_by (λ (w : Weak). 19 + default_weight w.default) o
weak_below None = omega arith
weak_below (Some w) = omega arith

default_below : (default : Option ℕ) → default_weight (unwrap_or default 0) ≤ 9 * present default
default_below None = omega arith
default_below (Some n) = unless (n == 0) 9

stated_reference : (i : ℕ) (p : SpelledRecord) (row : Record)
    → value_by note_weight (reference_note_for i row) + value_by (λ (w : Weak). 19 + default_weight w.default) (weak_for i row) ≤ paid_for i
    (of_kind reference (named_by row)) (cost p row)
stated_reference i p (r.ReferenceNote j type_index attribute ns) =
    let its = at_index note_weight (i == j) (record { type_index = type_index; attribute = attribute; numbers = ns }) (29 + 9 * length ns.items)
    (omega arith) in omega (arith, its)
stated_reference i p (r.WeakReference j n default) =
    let small = default_below default in
    let its = at_index (λ (w : Weak). 19 + default_weight w.default) (i == j) (record { size = n; default = unwrap_or default 0 })
    (19 + 9 * present default) (omega (arith, small)) in omega (arith, its)
stated_reference i p row = omega arith

stated_references : (i : ℕ) (part : List SpelledRecord) → sum_by note_weight (answers (reference_note_for i) part) + sum_by
    (λ (w : Weak). 19 + default_weight w.default) (answers (weak_for i) part) ≤ stated_of reference part i
stated_references i [] = omega arith
stated_references i (p ∷ part) =
    let own = stated_reference i p p.row in
    let rest = stated_references i part in
    let a = sum_by-option note_weight (reference_note_for i p.row) (answers (reference_note_for i) part) in
    let b = sum_by-option (λ (w : Weak). 19 + default_weight w.default) (weak_for i p.row) (answers (weak_for i) part) in
    let all = sum_by-cons (λ (q : SpelledRecord). paid_for i (of_kind reference (named_by q.row)) (cost q q.row)) p part in
    omega (arith, own, rest, a, b, all)

reference_below : (part : List SpelledRecord) (p : SpelledRecord) (row : Record)
    → value_by reference_weight (reference_by part p row) ≤ value_by (λ _. cost p row) (of_kind reference (declared_by row)) + value_by
    (stated_of reference part) (of_kind reference (declared_by row))
reference_below part p (r.ReferenceName i name) =
    let stated = stated_references i part in
    let first = first_below (λ (w : Weak). 19 + default_weight w.default) (answers (weak_for i) part) in
    let its = weak_below (first_answer (weak_for i) part) in
    omega (arith, stated, first, its)
reference_below part p row = omega arith

-- ---- both

-- a record declares or refers to at most one index
external_costs : (row : Record) (n : ℕ) → (value_by (λ _. n) (of_kind public (declared_by row)) + value_by (λ _. n) (of_kind public (named_by row)))
    + (value_by (λ _. n) (of_kind reference (declared_by row)) + value_by (λ _. n) (of_kind reference (named_by row))) ≤ n
external_costs (r.BlockBegin kind m name tail.Module) n = omega arith
external_costs (r.BlockBegin kind m name (tail.Scope stack type_index offset)) n = omega arith
external_costs (r.BlockBegin kind m name (tail.Source ns)) n = omega arith
external_costs (r.BlockBegin kind m name (tail.Section section_type i offset)) n = omega arith
external_costs row n = omega arith

pub names_below : (ix : Indexes) (part : List SpelledRecord) → NewFrom [] (declared public part) → NewFrom [] (declared reference part)
    → list_all (λ i. is_assigned part (value_of_public i)) (declared public part) ≡ true
    → sum_by public_weight (publics_of ix part) + sum_by reference_weight (references_of part) ≤ costs part
names_below ix part new_publics new_references valued =
    let publics = declared_below public_weight (λ p. public_by ix part p p.row) public part new_publics
    (map_all (λ p. HasValue part (of_kind public (declared_by p.row)))
    (λ p. value_by public_weight (public_by ix part p p.row) ≤ declares public p + value_by (stated_of public part) (of_kind public (declared_by p.row)))
    (λ p has. public_below ix part p p.row has) part (all_valued part part valued)) in
    let references = declared_below reference_weight (λ p. reference_by part p p.row) reference part new_references
    (always (λ p. value_by reference_weight (reference_by part p p.row) ≤ declares reference p + value_by (stated_of reference part)
    (of_kind reference (declared_by p.row))) (λ p. reference_below part p p.row) part) in
    let two_p = sum_by-two (declares public) (speaks public) part in
    let two_r = sum_by-two (declares reference) (speaks reference) part in
    let two = sum_by-two (λ (p : SpelledRecord). declares public p + speaks public p) (λ (p : SpelledRecord). declares reference p + speaks reference p) part in
    let all = sum_by-below (λ (p : SpelledRecord). (declares public p + speaks public p) + (declares reference p + speaks reference p))
    (λ (p : SpelledRecord). cost p p.row) part
    (always (λ p. (declares public p + speaks public p) + (declares reference p + speaks reference p) ≤ cost p p.row)
    (λ p. external_costs p.row (cost p p.row)) part) in
    omega (arith, publics, references, two_p, two_r, two, all)
