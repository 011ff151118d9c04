-- The mark of each public, as records are read: the offset of its declaration, then that of its value.
use Rattle.std.proofs.Common.{◌≡◌, ℕ, length, ◌==◌, ◌||◌, Bool, true, false, cond, nat_eq, List, [], ◌∷◌, ◌++◌, filter_map, slice_get, Option, Some}
use Rattle.std.proofs.Common.{None, is_some, refl, sym, ap, ◌∙◌, append-nil, true≢false}
use Rattle.std.specs.Prelude.{slice_set}
use Rattle.std.specs.List.{cons_option, IsDistinct, list_any}
use Rattle.std.proofs.lemmas.List.Elements.{filter_map-append}
use Rattle.mufom_numbers.specs.declared.taken.Span.{Span}
use Rattle.mufom_expr.specs.Tree.{Tree}
use Rattle.mufom_records.specs.declared.record.Record.{Record}
use Rattle.mufom_records.specs.declared.record.Record.TheVariants as r
use Rattle.mufom_module.specs.SpelledRecords.{SpelledRecord, tree_in, public, declared, declared_by, of_kind, Once, value_of_public}
use Rattle.mufom_module.specs.SpelledRecords.{is_same_statement, assigned_by, is_assigned}
use Rattle.mufom_module.specs.Gathered.{value_for}
use Rattle.mufom_read.specs.declared.publics.PublicMark.{PublicMark}
use Rattle.mufom_read.specs.declared.publics.PublicMark.TheVariants.{Valued}
use Rattle.mufom_judging.specs.Prefixes.{OffsetRecord}
use Rattle.mufom_read.specs.Kept.{as_record}
use Rattle.mufom_read.specs.NamesSoFar.{value_start_for, mark_of, public_mark_by, public_marks, records_in}
use Rattle.mufom_read.proofs.so_far.InPlace.{changed_at, changed-there}
use Rattle.mufom_read.proofs.so_far.ReferenceSteps.{one_more_none, same_each, same_count, same_index}
use Rattle.mufom_read.proofs.so_far.PublicSteps.{is_of_public}

abbrev key : OffsetRecord → Option ℕ
key p = of_kind public (declared_by p.1.row)

map_asks : {X : Type 0} (ask : SpelledRecord → Option X) (placed : List OffsetRecord) → filter_map ask (records_in placed)
    ≡ filter_map (λ (p : OffsetRecord). ask p.1) placed
map_asks ask [] = refl
map_asks ask (p ∷ placed) = ap (cons_option (ask p.1)) (map_asks ask placed)

keyed : (all : List OffsetRecord) (p : OffsetRecord) (row : Record) → is_some (of_kind public (declared_by row)) ≡ is_some (public_mark_by all p row)
keyed all p (r.PublicName i name) = refl
keyed all p (r.SectionType a b c d e f g) = refl
keyed all p (r.ReferenceName i name) = refl
keyed all p (r.DebugName i name) = refl
keyed all p row = refl

pub marks-count : (placed : List OffsetRecord) → length (public_marks placed) ≡ length (declared public (records_in placed))
marks-count placed = sym (same_count key (λ p. public_mark_by placed p p.1.row) (λ p. keyed placed p p.1.row) placed)
    ∙ sym (ap length (map_asks (λ p. of_kind public (declared_by p.row)) placed))

-- ---- the offsets at which values were stated

start_row : (i : ℕ) (p : OffsetRecord) (row : Record) (vs : List Tree) (starts : List ℕ) → cons_option (value_for i p.1 row) vs ≡ []
    → (vs ≡ [] → starts ≡ []) → cons_option (value_start_for i p row) starts ≡ []
start_row i p (r.PublicValue j value) vs starts = by_test (i == j) where
  by_test : (test : Bool) → cons_option (cond test (Some (tree_in p.1 value)) None) vs ≡ [] → (vs ≡ [] → starts ≡ [])
      → cons_option (cond test (Some p.0) None) starts ≡ []
  by_test true h more = absurd cc
  by_test false h more = more h
start_row i p row vs starts = λ h more. more h

-- there is no offset of a value if no value was stated
pub no-start : (i : ℕ) (placed : List OffsetRecord) → filter_map (λ p. value_for i p p.row) (records_in placed) ≡ []
    → filter_map (λ p. value_start_for i p p.1.row) placed ≡ []
no-start i [] h = refl
no-start i (p ∷ placed) h = start_row i p p.1.row _ _ h (no-start i placed)

stated_row : (i start : ℕ) (p : SpelledRecord) (row : Record) (later : List Once) (starts : List ℕ)
    → list_any (is_same_statement (value_of_public i)) later ≡ is_some (slice_get starts 0)
    → list_any (is_same_statement (value_of_public i)) (cons_option (assigned_by row) later)
    ≡ is_some (slice_get (cons_option (value_start_for i (start, p) row) starts) 0)
stated_row i start p (r.PublicValue j value) later starts h = by_test (i == j) where
  by_test : (test : Bool) → (test || list_any (is_same_statement (value_of_public i)) later)
      ≡ is_some (slice_get (cons_option (cond test (Some start) None) starts) 0)
  by_test true = refl
  by_test false = h
stated_row i start p (r.WeakReference j n other) later starts h = h
stated_row i start p (r.Alignment j n other) later starts h = h
stated_row i start p (r.SectionSize j n) later starts h = h
stated_row i start p (r.SectionBase j n) later starts h = h
stated_row i start p (r.Start value) later starts h = h
stated_row i start p row later starts h = h

-- a value was stated of the public if there is an offset of one
pub value-started : (i : ℕ) (placed : List OffsetRecord) → is_assigned (records_in placed) (value_of_public i)
    ≡ is_some (slice_get (filter_map (λ p. value_start_for i p p.1.row) placed) 0)
value-started i [] = refl
value-started i (p ∷ placed) = stated_row i p.0 p.1 p.1.row _ _ (value-started i placed)

-- ---- a public more

module _ (placed : List OffsetRecord) (start i : ℕ) (name : Span) (bytes : List ℕ) where
  abbrev added : OffsetRecord
  added = (start, as_record (r.PublicName i name) bytes)

  abbrev mark_with : List ℕ → PublicMark
  mark_with starts = mark_of start (slice_get starts 0)

  same_starts : (j : ℕ) → filter_map (λ p. value_start_for j p p.1.row) (placed ++ added ∷ []) ≡ filter_map (λ p. value_start_for j p p.1.row) placed
  same_starts j = one_more_none (λ p. value_start_for j p p.1.row) placed added refl

  same : (p : OffsetRecord) (row : Record) → public_mark_by (placed ++ added ∷ []) p row ≡ public_mark_by placed p row
  same p (r.PublicName j other) = (λ k. Some (mark_of p.0 (slice_get (same_starts j k) 0)))
  same p row = refl

  pub mark-added : filter_map (λ p. value_for i p p.row) (records_in placed) ≡ [] → public_marks (placed ++ added ∷ []) ≡ public_marks placed
      ++ mark_with [] ∷ []
  mark-added unvalued =
      filter_map-append (λ p. public_mark_by (placed ++ added ∷ []) p p.1.row) placed (added ∷ [])
      ∙ (λ k. same_each (λ p. public_mark_by placed p p.1.row) (λ p. public_mark_by (placed ++ added ∷ []) p p.1.row) (λ p. same p p.1.row) placed k
      ++ mark_with ((same_starts i ∙ no-start i placed unvalued) k) ∷ [])

-- ---- its value

chosen_mark : (b : Bool) (start valued : ℕ) (v : Option ℕ) → Some (mark_of start (cond b (Some valued) v))
    ≡ Some (cond b (Valued valued) (mark_of start v))
chosen_mark true start valued v = refl
chosen_mark false start valued v = refl

first_start : (b : Bool) (starts : List ℕ) (start : ℕ) → (b ≡ true → starts ≡ []) → slice_get (starts ++ cons_option (cond b (Some start) None) []) 0
    ≡ cond b (Some start) (slice_get starts 0)
first_start true starts start none = ap (λ l. slice_get (l ++ start ∷ []) 0) (none refl)
first_start false starts start none = ap (λ l. slice_get l 0) (append-nil starts)

module _ (placed : List OffsetRecord) (start i : ℕ) (span : Span) (bytes : List ℕ)
    (unvalued : filter_map (λ p. value_for i p p.row) (records_in placed) ≡ []) where
  abbrev given : OffsetRecord
  given = (start, as_record (r.PublicValue i span) bytes)

  abbrev with_start : PublicMark → PublicMark
  with_start old = Valued start

  stated : (j : ℕ) → slice_get (filter_map (λ p. value_start_for j p p.1.row) (placed ++ given ∷ [])) 0
      ≡ cond (j == i) (Some start) (slice_get (filter_map (λ p. value_start_for j p p.1.row) placed) 0)
  stated j = ap (λ vs. slice_get vs 0) (filter_map-append (λ p. value_start_for j p p.1.row) placed (given ∷ []))
      ∙ first_start (j == i) (filter_map (λ p. value_start_for j p p.1.row) placed) start
      (λ e. ap (λ k. filter_map (λ p. value_start_for k p p.1.row) placed) (same_index j i e) ∙ no-start i placed unvalued)

  changed : (p : OffsetRecord) (row : Record) → public_mark_by (placed ++ given ∷ []) p row
      ≡ changed_at i with_start (of_kind public (declared_by row)) (public_mark_by placed p row)
  changed p (r.PublicName j name) = (λ k. Some (mark_of p.0 (stated j k)))
      ∙ chosen_mark (j == i) p.0 start (slice_get (filter_map (λ q. value_start_for j q q.1.row) placed) 0)
  changed p row = refl

  pub mark-in-place : (place : ℕ) (old : PublicMark) → IsDistinct nat_eq (declared public (records_in placed))
      → slice_get (declared public (records_in placed)) place ≡ Some i → slice_get (public_marks placed) place ≡ Some old
      → public_marks (placed ++ given ∷ []) ≡ slice_set (public_marks placed) place (Valued start)
  mark-in-place place old distinct there is_old =
      let keys = map_asks (λ p. of_kind public (declared_by p.row)) placed in
      one_more_none (λ p. public_mark_by (placed ++ given ∷ []) p p.1.row) placed given refl
      ∙ changed-there key (λ p. public_mark_by placed p p.1.row) (λ p. public_mark_by (placed ++ given ∷ []) p p.1.row) i with_start
      (record { keyed = λ p. keyed placed p p.1.row; changed = λ p. changed p p.1.row }) placed place old
      (subst_ keys distinct) (sym (ap (λ l. slice_get l place) keys) ∙ there) is_old
    where
      subst_ : {a b : List ℕ} → a ≡ b → IsDistinct nat_eq a → IsDistinct nat_eq b
      subst_ e h = rw (← e) h

-- ---- other records

unstarted : (j : ℕ) (q : OffsetRecord) (row : Record) → is_of_public row ≡ false → value_start_for j q row ≡ None
unstarted j q (r.PublicValue i value) h = absurd (true≢false h)
unstarted j q row h = refl

no_mark : (all : List OffsetRecord) (p : OffsetRecord) (row : Record) → is_of_public row ≡ false → public_mark_by all p row ≡ None
no_mark all p (r.PublicName i name) h = absurd (true≢false h)
no_mark all p row h = refl

marks_same : (placed : List OffsetRecord) (q : OffsetRecord) → ((j : ℕ) → value_start_for j q q.1.row ≡ None)
    → public_mark_by (placed ++ q ∷ []) q q.1.row ≡ None → public_marks (placed ++ q ∷ []) ≡ public_marks placed
marks_same placed q silent none =
    one_more_none (λ p. public_mark_by (placed ++ q ∷ []) p p.1.row) placed q none
    ∙ same_each (λ p. public_mark_by placed p p.1.row) (λ p. public_mark_by (placed ++ q ∷ []) p p.1.row) (λ p. same_by p p.1.row) placed
  where
    same_by : (p : OffsetRecord) (row : Record) → public_mark_by (placed ++ q ∷ []) p row ≡ public_mark_by placed p row
    same_by p (r.PublicName j name) =
        (λ k. Some (mark_of p.0 (slice_get (one_more_none (λ x. value_start_for j x x.1.row) placed q (silent j) k) 0)))
    same_by p row = refl

-- a record that refers to no public leaves the marks as they are
pub marks-stay : (placed : List OffsetRecord) (q : OffsetRecord) → is_of_public q.1.row ≡ false → public_marks (placed ++ q ∷ []) ≡ public_marks placed
marks-stay placed q other = marks_same placed q (λ j. unstarted j q q.1.row other) (no_mark (placed ++ q ∷ []) q q.1.row other)

-- and so does a note
pub marks-stay-noted : (placed : List OffsetRecord) (start i a b : ℕ) (ns : _) (bytes : List ℕ)
    → public_marks (placed ++ (start, as_record (r.PublicNote i a b ns) bytes) ∷ []) ≡ public_marks placed
marks-stay-noted placed start i a b ns bytes = marks_same placed (start, as_record (r.PublicNote i a b ns) bytes) (λ j. refl) refl
