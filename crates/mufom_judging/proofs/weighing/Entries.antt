-- What a part declares, with what is stated of it, weighs at most what its records cost; and so do its sections.
use Rattle.std.proofs.Common.{◌≡◌, ℕ, ◌+◌, ◌≤◌, Bool, true, false, cond, ◌==◌, List, [], ◌∷◌, ◌++◌, sum_by, Option, Some, None, unwrap_or, refl, sym}
use Rattle.std.proofs.Common.{subst, ◌∙◌, arith, append_assoc, append-nil, filter_map}
use Rattle.std.specs.List.{list_any, cons_option, AllByRecursion}
use Rattle.std.proofs.lemmas.Bool.{or_parts}
use Rattle.std.proofs.lemmas.List.Sums.{sum_by-cons}
use Rattle.std.proofs.lemmas.List.Elements.{filter_map-append}
use Rattle.std.proofs.lemmas.List.Folds.{list_any-append}
use Rattle.mufom_records.specs.declared.record.Record.{Record}
use Rattle.mufom_records.specs.declared.record.Record.TheVariants as r
use Rattle.mufom_records.specs.declared.record.BlockTail.TheVariants as tail
use Rattle.mufom_module.specs.Contents.{any_of}
use Rattle.mufom_module.specs.SpelledRecords.{SpelledRecord, Kind, section, public, reference, debug_name, is_same_kind, FileIndex, declared_by}
use Rattle.mufom_module.specs.SpelledRecords.{named_by, of_kind, declared, is_declared}
use Rattle.mufom_module.specs.Gathered.{answers, first_answer, size_for, alignment_for, base_for, section_by, sections_of}
use Rattle.mufom_module.specs.Grammar.{FollowFrom}
use Rattle.mufom_module.specs.Weights.{alignment_weight, size_weight, base_weight, section_weight}
use Rattle.mufom_judging.proofs.weighing.Records.{cost}
use Rattle.mufom_judging.proofs.weighing.Sums.{costs, value_by, sum_by-option, sum_by-two, sum_by-below, first_below, always, gathered_below, NewFrom}
use Rattle.mufom_judging.proofs.weighing.Sums.{paid_for, shares_below}

-- ---- indexes are declared once

same_kind : (a b : Kind) → is_same_kind a b ≡ true → a ≡ b
same_kind section section h = refl
same_kind public public h = refl
same_kind reference reference h = refl
same_kind debug_name debug_name h = refl
same_kind _ _ h = cc

pub new_by : (kind : Kind) (before records : List SpelledRecord) → FollowFrom before records → NewFrom (declared kind before) (declared kind records)
new_by kind before [] follow = tt
new_by kind before (p ∷ records) follow =
    let rest = new_by kind (before ++ p ∷ []) records follow.1 in
    let split = filter_map-append (λ (q : SpelledRecord). of_kind kind (declared_by q.row)) before (p ∷ []) in
    next (declared_by p.row) (declared kind records) follow.0.new (subst (λ (l : List ℕ). NewFrom l (declared kind records)) split rest)
  where
    next : (o : Option FileIndex) (rest : List ℕ) → any_of (is_declared before) o ≡ false
        → NewFrom (declared kind before ++ cons_option (of_kind kind o) []) rest → NewFrom (declared kind before) (cons_option (of_kind kind o) rest)
    next None rest h new = subst (λ (l : List ℕ). NewFrom l rest) (append-nil (declared kind before)) new
    next (Some index) rest h new = by_kind (is_same_kind kind index.0) refl new where
      by_kind : (b : Bool) → is_same_kind kind index.0 ≡ b → NewFrom (declared kind before ++ cons_option (cond b (Some index.1) None) []) rest
          → NewFrom (declared kind before) (cons_option (cond b (Some index.1) None) rest)
      by_kind true e new = (subst (λ (k : Kind). list_any (λ j. j == index.1) (declared k before) ≡ false) (sym (same_kind kind index.0 e)) h, new)
      by_kind false e new = subst (λ (l : List ℕ). NewFrom l rest) (append-nil (declared kind before)) new

pub follow_split : (before a b : List SpelledRecord) → FollowFrom before (a ++ b) → FollowFrom before a × FollowFrom (before ++ a) b
follow_split before [] b follow = (tt, subst (λ (l : List SpelledRecord). FollowFrom l b) (sym (append-nil before)) follow)
follow_split before (p ∷ a) b follow =
    let rest = follow_split (before ++ p ∷ []) a b follow.1 in
    ((follow.0, rest.0), subst (λ (l : List SpelledRecord). FollowFrom l b) (append_assoc before (p ∷ []) a) rest.1)

new_after : (a b is : List ℕ) → NewFrom (a ++ b) is → NewFrom b is
new_after a b [] new = tt
new_after a b (i ∷ is) new = (
  (or_parts (list_any (λ j. j == i) a) (list_any (λ j. j == i) b) (sym (list_any-append (λ j. j == i) a b) ∙ new.0)).1,
  new_after a (b ++ i ∷ []) is (subst (λ (l : List ℕ). NewFrom l is) (append_assoc a b (i ∷ [])) new.1),
)

-- the records of a part declare no index twice
pub new_in : (kind : Kind) (before records : List SpelledRecord) → FollowFrom before records → NewFrom [] (declared kind records)
new_in kind before records follow = new_after (declared kind before) [] (declared kind records)
    (subst (λ (l : List ℕ). NewFrom l (declared kind records)) (sym (append-nil (declared kind before))) (new_by kind before records follow))

-- ---- what records cost, by the index that they declare or refer to

-- the cost of the record, if it declares an index of the kind
abbrev pub declares : Kind → SpelledRecord → ℕ
declares kind p = value_by (λ _. cost p p.row) (of_kind kind (declared_by p.row))

-- the cost of the record, if it refers to such an index
abbrev pub speaks : Kind → SpelledRecord → ℕ
speaks kind p = value_by (λ _. cost p p.row) (of_kind kind (named_by p.row))

-- the cost of the records that refer to this index
abbrev pub stated_of : Kind → List SpelledRecord → ℕ → ℕ
stated_of kind part i = sum_by (λ (p : SpelledRecord). paid_for i (of_kind kind (named_by p.row)) (cost p p.row)) part

-- the entries that a part declares, each with what is stated of it
pub declared_below : {X : Type 0} (weight : X → ℕ) (ask : SpelledRecord → Option X) (kind : Kind) (part : List SpelledRecord) → NewFrom [] (declared kind part)
    → AllByRecursion (λ p. value_by weight (ask p) ≤ declares kind p + value_by (stated_of kind part) (of_kind kind (declared_by p.row))) part
    → sum_by weight (filter_map ask part) ≤ sum_by (declares kind) part + sum_by (speaks kind) part
declared_below weight ask kind part new are =
    let all = gathered_below weight ask (λ p. of_kind kind (declared_by p.row)) (declares kind) (stated_of kind part) part are in
    let shares = shares_below (declared kind part) new (λ p. of_kind kind (named_by p.row)) (λ p. cost p p.row) part in
    omega (arith, all, shares)

pub at_index : {X : Type 0} (weight : X → ℕ) (b : Bool) (x : X) (n : ℕ) → weight x ≤ n → value_by weight (cond b (Some x) None) ≤ cond b n 0
at_index weight true x n h = h
at_index weight false x n h = omega arith

-- ---- sections

stated_section : (i : ℕ) (p : SpelledRecord) (row : Record) → value_by (λ _. 19) (alignment_for i row) + value_by (λ _. 20)
    (size_for i row) + value_by (λ _. 20) (base_for i row) ≤ paid_for i (of_kind section (named_by row)) (cost p row)
stated_section i p (r.Alignment j n other) = let its = at_index (λ _. 19) (i == j) n 19 (omega arith) in omega (arith, its)
stated_section i p (r.SectionSize j n) = let its = at_index (λ _. 20) (i == j) n 20 (omega arith) in omega (arith, its)
stated_section i p (r.SectionBase j n) = let its = at_index (λ _. 20) (i == j) n 20 (omega arith) in omega (arith, its)
stated_section i p row = omega arith

stated_sections : (i : ℕ) (part : List SpelledRecord) → sum_by (λ _. 19) (answers (alignment_for i) part) + sum_by (λ _. 20)
    (answers (size_for i) part) + sum_by (λ _. 20) (answers (base_for i) part) ≤ stated_of section part i
stated_sections i [] = omega arith
stated_sections i (p ∷ part) =
    let own = stated_section i p p.row in
    let rest = stated_sections i part in
    let a = sum_by-option (λ _. 19) (alignment_for i p.row) (answers (alignment_for i) part) in
    let b = sum_by-option (λ _. 20) (size_for i p.row) (answers (size_for i) part) in
    let c = sum_by-option (λ _. 20) (base_for i p.row) (answers (base_for i) part) in
    let all = sum_by-cons (λ (q : SpelledRecord). paid_for i (of_kind section (named_by q.row)) (cost q q.row)) p part in
    omega (arith, own, rest, a, b, c, all)

pub unless : (b : Bool) (n : ℕ) → cond b 0 n ≤ n
unless true n = omega arith
unless false n = omega arith

alignment_below : (o : Option ℕ) → alignment_weight (unwrap_or o 1) ≤ value_by (λ _. 19) o
alignment_below None = omega arith
alignment_below (Some n) = unless (n == 1) 19

size_below : (o : Option ℕ) → size_weight (unwrap_or o 0) ≤ value_by (λ _. 20) o
size_below None = omega arith
size_below (Some n) = unless (n == 0) 20

base_below : (o : Option ℕ) → base_weight o ≤ value_by (λ _. 20) o
base_below None = omega arith
base_below (Some n) = omega arith

section_below : (part : List SpelledRecord) (p : SpelledRecord) (row : Record)
    → value_by section_weight (section_by part p row) ≤ value_by (λ _. cost p row) (of_kind section (declared_by row)) + value_by
    (stated_of section part) (of_kind section (declared_by row))
section_below part p (r.SectionType i absolute letter name a b c) =
    let stated = stated_sections i part in
    let first_a = first_below (λ _. 19) (answers (alignment_for i) part) in
    let first_b = first_below (λ _. 20) (answers (size_for i) part) in
    let first_c = first_below (λ _. 20) (answers (base_for i) part) in
    let its_a = alignment_below (first_answer (alignment_for i) part) in
    let its_b = size_below (first_answer (size_for i) part) in
    let its_c = base_below (first_answer (base_for i) part) in
    omega (arith, stated, first_a, first_b, first_c, its_a, its_b, its_c)
section_below part p row = omega arith

section_costs : (row : Record) (n : ℕ) → value_by (λ _. n) (of_kind section (declared_by row)) + value_by (λ _. n) (of_kind section (named_by row)) ≤ n
section_costs (r.BlockBegin kind m name tail.Module) n = omega arith
section_costs (r.BlockBegin kind m name (tail.Scope stack type_index offset)) n = omega arith
section_costs (r.BlockBegin kind m name (tail.Source ns)) n = omega arith
section_costs (r.BlockBegin kind m name (tail.Section section_type i offset)) n = omega arith
section_costs row n = omega arith

pub sections_below : (part : List SpelledRecord) → NewFrom [] (declared section part) → sum_by section_weight (sections_of part) ≤ costs part
sections_below part new =
    let all = declared_below section_weight (λ p. section_by part p p.row) section part new
    (always (λ p. value_by section_weight (section_by part p p.row) ≤ declares section p + value_by (stated_of section part)
    (of_kind section (declared_by p.row))) (λ p. section_below part p p.row) part) in
    let two = sum_by-two (declares section) (speaks section) part in
    let costs_ = sum_by-below (λ (p : SpelledRecord). declares section p + speaks section p) (λ (p : SpelledRecord). cost p p.row) part
    (always (λ p. declares section p + speaks section p ≤ cost p p.row) (λ p. section_costs p.row (cost p p.row)) part) in
    omega (arith, all, two, costs_)
