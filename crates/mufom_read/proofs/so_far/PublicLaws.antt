-- What the code does to the publics with a record is what the record states of them.
use Rattle.std.proofs.Common.{◌≡◌, ℕ, ◌<◌, ◌==◌, true, false, nat_eq, List, [], ◌∷◌, ◌++◌, length, slice_get, Option, Some, None, option_map, refl}
use Rattle.std.proofs.Common.{sym, ap, subst, ◌∙◌, Result, Ok, Err, OnOk}
use Rattle.std.specs.Prelude.{unwrap_or, slice_set}
use Rattle.std.specs.List.{list_any, IsDistinct}
use Rattle.arrayvec.specs.ArrayVec.{ArrayVec}
use Rattle.mufom_numbers.specs.declared.taken.Span.{Span}
use Rattle.mufom_expr.specs.Tree.{Tree, number}
use Rattle.mufom_records.specs.declared.record.Record.{Record}
use Rattle.mufom_records.specs.declared.record.Record.TheVariants as r
use Rattle.mufom_records.specs.Parts.{expression_of}
use Rattle.mufom_names.specs.declared.name.Note.{Note}
use Rattle.mufom_names.specs.declared.name.Public.{Public}
use Rattle.mufom_names.specs.declared.name.Reference.{Reference}
use Rattle.mufom_names.specs.declared.name.Weak.{Weak}
use Rattle.mufom_module.specs.SpelledRecords.{SpelledRecord, text_in, tree_in, tree_of_record, named_by, public, reference, is_declared}
use Rattle.mufom_module.specs.Grammar.{declares_again, states_again}
use Rattle.mufom_module.specs.Gathered.{note_of, value_for, public_note_for, weak_for, reference_note_for, references_of}
use Rattle.mufom_read.specs.declared.publics.PublicMark.TheVariants.{Declared, Valued}
use Rattle.mufom_read.specs.declared.publics.Publics.{Publics}
use Rattle.mufom_judging.specs.Prefixes.{OffsetRecord}
use Rattle.mufom_read.specs.Kept.{as_record}
use Rattle.mufom_read.specs.NamesSoFar.{unplaced_publics, public_marks, records_in, ArePublicsOf, IsBefore, AreBefore}
use Rattle.mufom_judging.proofs.ended.Trees.{named_known}
use Rattle.mufom_read.proofs.so_far.FollowLaws.{nothing-stated, value_silent, public_note_silent, weak_silent, reference_note_silent, value-unstated}
use Rattle.mufom_read.proofs.so_far.FollowLaws.{weak-unstated}
use Rattle.mufom_read.proofs.so_far.ReferenceSteps as reference_steps
use Rattle.mufom_read.proofs.so_far.ReferenceSteps.{within-some, references-count, is_of_reference}
use Rattle.mufom_read.proofs.so_far.PublicSteps as public_steps
use Rattle.mufom_read.proofs.so_far.PublicSteps.{publics-count, is_of_public}
use Rattle.mufom_read.proofs.so_far.MarkSteps.{marks-count, mark-added, mark-in-place, marks-stay, marks-stay-noted}

pub on_ok : {A E : Type 0} (P Q : Type 0) (r : Result A E) → (P → Q) → OnOk r P → OnOk r Q
on_ok P Q (Ok a) h p = h p
on_ok P Q (Err e) h p = tt

pub on_ok_both : {A E : Type 0} (P Q R : Type 0) (r : Result A E) → (P → Q → R) → OnOk r P → OnOk r Q → OnOk r R
on_ok_both P Q R (Ok a) h p q = h p q
on_ok_both P Q R (Err e) h p q = tt

-- a record of another kind than these three refers to no public
pub no-public-row : (row : Record) → ((i : ℕ) (name : Span) → row ≡ r.PublicName i name → ⊥)
    → ((i : ℕ) (value : Span) → row ≡ r.PublicValue i value → ⊥) → ((i a b : ℕ) (ns : ArrayVec ℕ) → row ≡ r.PublicNote i a b ns → ⊥) → is_of_public row ≡ false
no-public-row (r.PublicName i name) x y z = absurd (x i name refl)
no-public-row (r.PublicValue i value) x y z = absurd (y i value refl)
no-public-row (r.PublicNote i a b ns) x y z = absurd (z i a b ns refl)
no-public-row row x y z = refl

-- the same for references: a record of another kind than these three refers to none
pub no-reference-row : (row : Record) → ((i : ℕ) (name : Span) → row ≡ r.ReferenceName i name → ⊥)
    → ((i n : ℕ) (default : Option ℕ) → row ≡ r.WeakReference i n default → ⊥) → ((i a b : ℕ) (ns : ArrayVec ℕ) → row ≡ r.ReferenceNote i a b ns → ⊥)
    → is_of_reference row ≡ false
no-reference-row (r.ReferenceName i name) x y z = absurd (x i name refl)
no-reference-row (r.WeakReference i n default) x y z = absurd (y i n default refl)
no-reference-row (r.ReferenceNote i a b ns) x y z = absurd (z i a b ns refl)
no-reference-row row x y z = refl

pub same_record : (p : SpelledRecord) (row : Record) → p.row ≡ row → p ≡ as_record row p.bytes
same_record p row is = (λ k. as_record (is k) p.bytes)

pub records-more : (all : List OffsetRecord) (q : OffsetRecord) → records_in (all ++ q ∷ []) ≡ records_in all ++ q.1 ∷ []
records-more [] q = refl
records-more (x ∷ all) q = ap (λ l. x.1 ∷ l) (records-more all q)

-- there are as many publics as marks
pub publics-even : (n : Publics) (all : List OffsetRecord) → ArePublicsOf n all → length n.list.items ≡ length n.marks.items
publics-even n all are = ap length are.list ∙ publics-count (records_in all) ∙ sym (marks-count all) ∙ sym (ap length are.marks)

module _ (n new : Publics) (table : List ℕ) (all : List OffsetRecord) (start : ℕ) (p : SpelledRecord) (before : IsBefore n table all p) where
  abbrev ps : List SpelledRecord
  ps = records_in all

  grown : (row : Record) → p.row ≡ row → new.list.items ≡ unplaced_publics (ps ++ as_record row p.bytes ∷ []) → new.marks.items
      ≡ public_marks (all ++ (start, as_record row p.bytes) ∷ []) → ArePublicsOf new (all ++ (start, p) ∷ [])
  grown row is list marks =
      let same = same_record p row is in
      record {
        list = list ∙ ap unplaced_publics ((λ k. ps ++ sym same k ∷ []) ∙ sym (records-more all (start, p)));
        marks = marks ∙ (λ k. public_marks (all ++ (start, sym same k) ∷ []));
      }

  -- a position in the table is that of a public and of its mark
  pub list-within : (position : ℕ) → position < length table → position < length n.list.items
  list-within position within = subst (λ k. position < k) (ap length before.table ∙ sym (publics-count ps) ∙ sym (ap length before.publics.list)) within

  pub marks-within : (position : ℕ) → position < length table → position < length n.marks.items
  marks-within position within = subst (λ k. position < k) (ap length before.table ∙ sym (marks-count all) ∙ sym (ap length before.publics.marks)) within

  -- the index that a record names is in the table
  pub value-named : (i : ℕ) (span : Span) → p.row ≡ r.PublicValue i span → list_any (λ j. j == i) table ≡ true
  value-named i span is = ap (list_any (λ j. j == i)) before.table ∙ named_known ps p (public, i) (ap named_by is) before.next.known

  pub note-named : (i a b : ℕ) (ns : ArrayVec ℕ) → p.row ≡ r.PublicNote i a b ns → list_any (λ j. j == i) table ≡ true
  note-named i a b ns is = ap (list_any (λ j. j == i)) before.table ∙ named_known ps p (public, i) (ap named_by is) before.next.known

  pub name-taken : (i : ℕ) (name : Span) (text : List ℕ) → p.row ≡ r.PublicName i name → text ≡ text_in p name
      → new.list.items ≡ n.list.items ++ record { name = text; value = number 0; notes = [] } ∷ [] → new.marks.items ≡ n.marks.items
      ++ Declared start ∷ [] → ArePublicsOf new (all ++ (start, p) ∷ [])
  name-taken i name text is same list marks =
      let undeclared : is_declared ps (public, i) ≡ false = ap (declares_again ps) (sym is) ∙ before.next.new in
      let unvalued = nothing-stated public i (λ q. value_for i q q.row) (λ q no_. value_silent i q q.row no_) [] ps before.follow undeclared in
      let unnoted = nothing-stated public i (λ q. public_note_for i q.row) (λ q no_. public_note_silent i q q.row no_) [] ps before.follow undeclared in
      grown (r.PublicName i name) is
      (list ∙ (λ k. before.publics.list k ++ record { name = same k; value = number 0; notes = [] } ∷ [])
      ∙ sym (public_steps.public-added ps i name p.bytes unvalued unnoted))
      (marks ∙ (λ k. before.publics.marks k ++ Declared start ∷ []) ∙ sym (mark-added all start i name p.bytes unvalued))

  pub value-taken : (i : ℕ) (span : Span) (value : Tree) (position : ℕ) → p.row ≡ r.PublicValue i span → tree_of_record p ≡ Some value
      → slice_get table position ≡ Some i → IsDistinct nat_eq table → position < length table
      → ((public : Public) → slice_get n.list.items position ≡ Some public → new.list.items ≡ slice_set n.list.items position (record public { value = value }))
      → new.marks.items ≡ slice_set n.marks.items position (Valued start) → ArePublicsOf new (all ++ (start, p) ∷ [])
  value-taken i span value position is tree there distinct within list marks =
      let unvalued = value-unstated i ps (ap (states_again ps) (sym is) ∙ before.next.once) in
      let its : value ≡ tree_in p span = ap (λ (o : Option Tree). unwrap_or o value) (sym tree
      ∙ ap (λ (row : Record). option_map (tree_in p) (expression_of row)) is) in
      let public_ = within-some n.list.items position (list-within position within) in
      let mark_ = within-some n.marks.items position (marks-within position within) in
      let at = sym (ap (λ l. slice_get l position) before.table) ∙ there in
      let apart = subst (IsDistinct nat_eq) before.table distinct in
      grown (r.PublicValue i span) is
      (list public_.0 public_.1 ∙ (λ k. slice_set (before.publics.list k) position (record public_.0 { value = its k }))
      ∙ sym (public_steps.value-in-place ps i span p.bytes unvalued position public_.0 apart at
      (sym (ap (λ l. slice_get l position) before.publics.list) ∙ public_.1)))
      (marks ∙ (λ k. slice_set (before.publics.marks k) position (Valued start))
      ∙ sym (mark-in-place all start i span p.bytes unvalued position mark_.0 apart at (sym (ap (λ l. slice_get l position) before.publics.marks) ∙ mark_.1)))

  pub note-taken : (i a b : ℕ) (ns : ArrayVec ℕ) (note : Note) (position : ℕ) → p.row ≡ r.PublicNote i a b ns → note ≡ note_of a b ns
      → slice_get table position ≡ Some i → IsDistinct nat_eq table → position < length table
      → ((public : Public) → slice_get n.list.items position ≡ Some public → new.list.items
      ≡ slice_set n.list.items position (record public { notes = public.notes ++ note ∷ [] })) → new.marks ≡ n.marks → ArePublicsOf new (all ++ (start, p) ∷ [])
  note-taken i a b ns note position is same there distinct within list marks =
      let public_ = within-some n.list.items position (list-within position within) in
      let at = sym (ap (λ l. slice_get l position) before.table) ∙ there in
      let apart = subst (IsDistinct nat_eq) before.table distinct in
      grown (r.PublicNote i a b ns) is
      (list public_.0 public_.1 ∙ (λ k. slice_set (before.publics.list k) position (record public_.0 { notes = public_.0.notes ++ same k ∷ [] }))
      ∙ sym (public_steps.note-in-place ps i a b ns p.bytes position public_.0 apart at (sym (ap (λ l. slice_get l position) before.publics.list) ∙ public_.1)))
      (ap (λ m. m.items) marks ∙ before.publics.marks ∙ sym (marks-stay-noted all start i a b ns p.bytes))

  pub other-taken : is_of_public p.row ≡ false → new ≡ n → ArePublicsOf new (all ++ (start, p) ∷ [])
  other-taken other same = record {
    list = ap (λ (x : Publics). x.list.items) same ∙ before.publics.list ∙ sym (public_steps.publics-stay ps p other)
        ∙ ap unplaced_publics (sym (records-more all (start, p)));
    marks = ap (λ (x : Publics). x.marks.items) same ∙ before.publics.marks ∙ sym (marks-stay all (start, p) other);
  }

module _ (all new : List Reference) (table : List ℕ) (ps : List SpelledRecord) (p : SpelledRecord) (before : AreBefore all table ps p) where
  grown_by : (row : Record) → p.row ≡ row → new ≡ references_of (ps ++ as_record row p.bytes ∷ []) → new ≡ references_of (ps ++ p ∷ [])
  grown_by row is list = list ∙ (λ k. references_of (ps ++ sym (same_record p row is) k ∷ []))

  pub reference-within : (position : ℕ) → position < length table → position < length all
  reference-within position within = subst (λ k. position < k) (ap length before.table ∙ sym (references-count ps) ∙ sym (ap length before.same)) within

  pub weak-named : (i n : ℕ) (default : Option ℕ) → p.row ≡ r.WeakReference i n default → list_any (λ j. j == i) table ≡ true
  weak-named i n default is = ap (list_any (λ j. j == i)) before.table ∙ named_known ps p (reference, i) (ap named_by is) before.next.known

  pub reference-note-named : (i a b : ℕ) (ns : ArrayVec ℕ) → p.row ≡ r.ReferenceNote i a b ns → list_any (λ j. j == i) table ≡ true
  reference-note-named i a b ns is = ap (list_any (λ j. j == i)) before.table ∙ named_known ps p (reference, i) (ap named_by is) before.next.known

  pub reference-taken : (i : ℕ) (name : Span) (text : List ℕ) → p.row ≡ r.ReferenceName i name → text ≡ text_in p name → new ≡ all
      ++ record { name = text; weak = None; notes = [] } ∷ [] → new ≡ references_of (ps ++ p ∷ [])
  reference-taken i name text is same list =
      let undeclared : is_declared ps (reference, i) ≡ false = ap (declares_again ps) (sym is) ∙ before.next.new in
      let strong = nothing-stated reference i (λ q. weak_for i q.row) (λ q no_. weak_silent i q q.row no_) [] ps before.follow undeclared in
      let unnoted = nothing-stated reference i (λ q. reference_note_for i q.row) (λ q no_. reference_note_silent i q q.row no_) [] ps before.follow
      undeclared in
      grown_by (r.ReferenceName i name) is
      (list ∙ (λ k. before.same k ++ record { name = same k; weak = None; notes = [] } ∷ [])
      ∙ sym (reference_steps.reference-added ps i name p.bytes strong unnoted))

  pub weak-taken : (i n : ℕ) (default : Option ℕ) (weak : Weak) (position : ℕ) → p.row ≡ r.WeakReference i n default → weak
      ≡ record { size = n; default = unwrap_or default 0 } → slice_get table position ≡ Some i → IsDistinct nat_eq table
      → position < length table → ((old : Reference) → slice_get all position ≡ Some old → new
      ≡ slice_set all position (record old { weak = Some weak })) → new ≡ references_of (ps ++ p ∷ [])
  weak-taken i n default weak position is same there distinct within list =
      let strong = weak-unstated i ps (ap (states_again ps) (sym is) ∙ before.next.once) in
      let old = within-some all position (reference-within position within) in
      grown_by (r.WeakReference i n default) is
      (list old.0 old.1 ∙ (λ k. slice_set (before.same k) position (record old.0 { weak = Some (same k) }))
      ∙ sym (reference_steps.weak-in-place ps i n default p.bytes strong position old.0 (subst (IsDistinct nat_eq) before.table distinct)
      (sym (ap (λ l. slice_get l position) before.table) ∙ there)
      (sym (ap (λ l. slice_get l position) before.same) ∙ old.1)))

  pub reference-note-taken : (i a b : ℕ) (ns : ArrayVec ℕ) (note : Note) (position : ℕ) → p.row ≡ r.ReferenceNote i a b ns → note ≡ note_of a b ns
      → slice_get table position ≡ Some i → IsDistinct nat_eq table → position < length table
      → ((old : Reference) → slice_get all position ≡ Some old → new ≡ slice_set all position (record old { notes = old.notes ++ note ∷ [] })) → new
      ≡ references_of (ps ++ p ∷ [])
  reference-note-taken i a b ns note position is same there distinct within list =
      let old = within-some all position (reference-within position within) in
      grown_by (r.ReferenceNote i a b ns) is
      (list old.0 old.1 ∙ (λ k. slice_set (before.same k) position (record old.0 { notes = old.0.notes ++ same k ∷ [] }))
      ∙ sym (reference_steps.note-in-place ps i a b ns p.bytes position old.0 (subst (IsDistinct nat_eq) before.table distinct)
      (sym (ap (λ l. slice_get l position) before.table) ∙ there)
      (sym (ap (λ l. slice_get l position) before.same) ∙ old.1)))

  pub other-reference-taken : is_of_reference p.row ≡ false → new ≡ all → new ≡ references_of (ps ++ p ∷ [])
  other-reference-taken other same = same ∙ before.same ∙ sym (reference_steps.references-stay ps p other)
