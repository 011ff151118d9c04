-- What a record of the external part does to the references: one more, or what it states of one, in its place.
use Rattle.std.proofs.Common.{◌≡◌, ℕ, zero, suc, ◌<◌, length, arith, ◌==◌, Bool, true, false, cond, nat_eq, List, [], ◌∷◌, ◌++◌, filter_map}
use Rattle.std.proofs.Common.{slice_get, Option, Some, None, is_some, refl, sym, ap, ◌∙◌, append-nil, true≢false, eqb-true}
use Rattle.std.specs.Prelude.{unwrap_or, slice_set}
use Rattle.std.specs.List.{cons_option, IsDistinct}
use Rattle.std.proofs.lemmas.List.Elements.{filter_map-append}
use Rattle.arrayvec.specs.ArrayVec.{ArrayVec}
use Rattle.mufom_numbers.specs.declared.taken.Span.{Span}
use Rattle.mufom_records.specs.declared.record.Record.{Record}
use Rattle.mufom_records.specs.declared.record.Record.TheVariants as r
use Rattle.mufom_names.specs.declared.name.Note.{Note}
use Rattle.mufom_names.specs.declared.name.Weak.{Weak}
use Rattle.mufom_names.specs.declared.name.Reference.{Reference}
use Rattle.mufom_module.specs.SpelledRecords.{SpelledRecord, text_in, reference, declared, declared_by, of_kind}
use Rattle.mufom_module.specs.Gathered.{answers, first_answer, note_of, weak_for, reference_note_for, reference_by, references_of}
use Rattle.mufom_read.specs.Kept.{as_record}
use Rattle.mufom_read.proofs.so_far.InPlace.{changed_at, changed-there}

-- the index of the reference that a record declares
abbrev key : SpelledRecord → Option ℕ
key p = of_kind reference (declared_by p.row)

keyed : (part : List SpelledRecord) (p : SpelledRecord) (row : Record) → is_some (of_kind reference (declared_by row)) ≡ is_some (reference_by part p row)
keyed part p (r.ReferenceName i name) = refl
keyed part p (r.SectionType a b c d e f g) = refl
keyed part p (r.PublicName i name) = refl
keyed part p (r.DebugName i name) = refl
keyed part p row = refl

-- a record that an ask says nothing of changes nothing
pub one_more_none : {P X : Type 0} (ask : P → Option X) (ps : List P) (q : P) → ask q ≡ None → filter_map ask (ps ++ q ∷ []) ≡ filter_map ask ps
one_more_none ask ps q none = filter_map-append ask ps (q ∷ []) ∙ ap (λ o. filter_map ask ps ++ cons_option o []) none ∙ append-nil (filter_map ask ps)

pub same_each : {P E : Type 0} (by after : P → Option E) → ((p : P) → after p ≡ by p) → (ps : List P) → filter_map after ps ≡ filter_map by ps
same_each by after same [] = refl
same_each by after same (p ∷ ps) = (λ k. cons_option (same p k) (same_each by after same ps k))

-- there is an entry at each place
pub within-some : {X : Type 0} (xs : List X) (n : ℕ) → n < length xs → (x : X) × (slice_get xs n ≡ Some x)
within-some [] n h = absurd (omega (arith, h))
within-some (x ∷ xs) zero h = (x, refl)
within-some (x ∷ xs) (suc n) h = within-some xs n (omega (arith, h))

-- there are as many entries as keys
pub same_count : {P X Y : Type 0} (f : P → Option X) (g : P → Option Y) → ((p : P) → is_some (f p) ≡ is_some (g p)) → (ps : List P)
    → length (filter_map f ps) ≡ length (filter_map g ps)
same_count f g same [] = refl
same_count {X = X} {Y = Y} f g same (p ∷ ps) = one (f p) (g p) (filter_map f ps) (filter_map g ps) (same p) (same_count f g same ps) where
  one : (a : Option X) (b : Option Y) (xs : List X) (ys : List Y) → is_some a ≡ is_some b → length xs ≡ length ys → length (cons_option a xs)
      ≡ length (cons_option b ys)
  one None None xs ys e h = h
  one (Some a) (Some b) xs ys e h = ap suc h
  one None (Some b) xs ys e h = absurd (true≢false (sym e))
  one (Some a) None xs ys e h = absurd (true≢false e)

pub references-count : (ps : List SpelledRecord) → length (references_of ps) ≡ length (declared reference ps)
references-count ps = sym (same_count key (λ p. reference_by ps p p.row) (λ p. keyed ps p p.row) ps)

-- ---- a reference more

module _ (ps : List SpelledRecord) (i : ℕ) (name : Span) (bytes : List ℕ) where
  abbrev added : SpelledRecord
  added = as_record (r.ReferenceName i name) bytes

  abbrev with_stated : List Weak → List Note → Reference
  with_stated weaks notes = record { name = text_in added name; weak = slice_get weaks 0; notes = notes }

  no_weak : (j : ℕ) → answers (weak_for j) (ps ++ added ∷ []) ≡ answers (weak_for j) ps
  no_weak j = one_more_none (λ p. weak_for j p.row) ps added refl

  no_note : (j : ℕ) → answers (reference_note_for j) (ps ++ added ∷ []) ≡ answers (reference_note_for j) ps
  no_note j = one_more_none (λ p. reference_note_for j p.row) ps added refl

  same : (p : SpelledRecord) (row : Record) → reference_by (ps ++ added ∷ []) p row ≡ reference_by ps p row
  same p (r.ReferenceName j other) = (λ k. Some (record { name = text_in p other; weak = slice_get (no_weak j k) 0; notes = no_note j k }))
  same p row = refl

  -- NX: one more reference, of which nothing was stated
  pub reference-added : answers (weak_for i) ps ≡ [] → answers (reference_note_for i) ps ≡ [] → references_of (ps ++ added ∷ []) ≡ references_of ps
      ++ with_stated [] [] ∷ []
  reference-added strong unnoted =
      filter_map-append (λ p. reference_by (ps ++ added ∷ []) p p.row) ps (added ∷ [])
      ∙ (λ k. same_each (λ p. reference_by ps p p.row) (λ p. reference_by (ps ++ added ∷ []) p p.row) (λ p. same p p.row) ps k
      ++ with_stated ((no_weak i ∙ strong) k) ((no_note i ∙ unnoted) k) ∷ [])

-- ---- what makes one weak

-- the first weakness, if none was stated of the index before
first_weak : (b : Bool) (ws : List Weak) (w : Weak) → (b ≡ true → ws ≡ []) → slice_get (ws ++ cons_option (cond b (Some w) None) []) 0
    ≡ cond b (Some w) (slice_get ws 0)
first_weak true ws w none = ap (λ l. slice_get (l ++ w ∷ []) 0) (none refl)
first_weak false ws w none = ap (λ l. slice_get l 0) (append-nil ws)

chosen_weak : (b : Bool) (name : List ℕ) (t v : Option Weak) (ns : List Note) → let old : Reference = record { name = name; weak = v; notes = ns } in
    let new : Reference = record { name = name; weak = t; notes = ns } in
    let both : Reference = record { name = name; weak = cond b t v; notes = ns } in Some both ≡ Some (cond b new old)
chosen_weak true name t v ns = refl
chosen_weak false name t v ns = refl

pub same_index : (j i : ℕ) → (j == i) ≡ true → j ≡ i
same_index j i e = eqb-true j i e

module _ (ps : List SpelledRecord) (i n : ℕ) (default : Option ℕ) (bytes : List ℕ) (strong : answers (weak_for i) ps ≡ []) where
  abbrev weakened : SpelledRecord
  weakened = as_record (r.WeakReference i n default) bytes

  abbrev weak : Weak
  weak = record { size = n; default = unwrap_or default 0 }

  abbrev with_weak : Reference → Reference
  with_weak old = record old { weak = Some weak }

  stated : (j : ℕ) → first_answer (weak_for j) (ps ++ weakened ∷ []) ≡ cond (j == i) (Some weak) (first_answer (weak_for j) ps)
  stated j = ap (λ ws. slice_get ws 0) (filter_map-append (λ p. weak_for j p.row) ps (weakened ∷ []))
      ∙ first_weak (j == i) (answers (weak_for j) ps) weak (λ e. ap (λ k. answers (weak_for k) ps) (same_index j i e) ∙ strong)

  changed : (p : SpelledRecord) (row : Record) → reference_by (ps ++ weakened ∷ []) p row
      ≡ changed_at i with_weak (of_kind reference (declared_by row)) (reference_by ps p row)
  changed p (r.ReferenceName j name) =
      (λ k. Some (record { name = text_in p name; weak = stated j k; notes = one_more_none (λ p. reference_note_for j p.row) ps weakened refl k }))
      ∙ chosen_weak (j == i) (text_in p name) (Some weak) (first_answer (weak_for j) ps) (answers (reference_note_for j) ps)
  changed p row = refl

  -- WX: the reference with the index is weak, in its place
  pub weak-in-place : (place : ℕ) (old : Reference) → IsDistinct nat_eq (declared reference ps) → slice_get (declared reference ps) place ≡ Some i
      → slice_get (references_of ps) place ≡ Some old
      → references_of (ps ++ weakened ∷ []) ≡ slice_set (references_of ps) place (record old { weak = Some weak })
  weak-in-place place old distinct there is_old =
      one_more_none (λ p. reference_by (ps ++ weakened ∷ []) p p.row) ps weakened refl
      ∙ changed-there key (λ p. reference_by ps p p.row) (λ p. reference_by (ps ++ weakened ∷ []) p p.row) i with_weak
      (record { keyed = λ p. keyed ps p p.row; changed = λ p. changed p p.row }) ps place old distinct there is_old

-- ---- a note

pub more_notes : (b : Bool) (ns : List Note) (note : Note) → ns ++ cons_option (cond b (Some note) None) [] ≡ cond b (ns ++ note ∷ []) ns
more_notes true ns note = refl
more_notes false ns note = append-nil ns

chosen_note : (b : Bool) (name : List ℕ) (w : Option Weak) (more ns : List Note) → let old : Reference =
    record { name = name; weak = w; notes = ns } in let new : Reference = record { name = name; weak = w; notes = more } in
    let both : Reference = record { name = name; weak = w; notes = cond b more ns } in Some both ≡ Some (cond b new old)
chosen_note true name w more ns = refl
chosen_note false name w more ns = refl

module _ (ps : List SpelledRecord) (i type_index attribute : ℕ) (ns : ArrayVec ℕ) (bytes : List ℕ) where
  abbrev noted : SpelledRecord
  noted = as_record (r.ReferenceNote i type_index attribute ns) bytes

  abbrev its_note : Note
  its_note = note_of type_index attribute ns

  abbrev with_note : Reference → Reference
  with_note old = record old { notes = old.notes ++ its_note ∷ [] }

  all_notes : (j : ℕ) → answers (reference_note_for j) (ps ++ noted ∷ [])
      ≡ cond (j == i) (answers (reference_note_for j) ps ++ its_note ∷ []) (answers (reference_note_for j) ps)
  all_notes j = filter_map-append (λ p. reference_note_for j p.row) ps (noted ∷ []) ∙ more_notes (j == i) (answers (reference_note_for j) ps) its_note

  note_changed : (p : SpelledRecord) (row : Record) → reference_by (ps ++ noted ∷ []) p row
      ≡ changed_at i with_note (of_kind reference (declared_by row)) (reference_by ps p row)
  note_changed p (r.ReferenceName j name) =
      (λ k. Some (record { name = text_in p name; weak = slice_get (one_more_none (λ p. weak_for j p.row) ps noted refl k) 0; notes = all_notes j k }))
      ∙ chosen_note (j == i) (text_in p name) (first_answer (weak_for j) ps) (answers (reference_note_for j) ps
      ++ its_note ∷ []) (answers (reference_note_for j) ps)
  note_changed p row = refl

  -- ATX: the reference with the index has a note more, in its place
  pub note-in-place : (place : ℕ) (old : Reference) → IsDistinct nat_eq (declared reference ps) → slice_get (declared reference ps) place ≡ Some i
      → slice_get (references_of ps) place ≡ Some old
      → references_of (ps ++ noted ∷ []) ≡ slice_set (references_of ps) place (record old { notes = old.notes ++ its_note ∷ [] })
  note-in-place place old distinct there is_old =
      one_more_none (λ p. reference_by (ps ++ noted ∷ []) p p.row) ps noted refl
      ∙ changed-there key (λ p. reference_by ps p p.row) (λ p. reference_by (ps ++ noted ∷ []) p p.row) i with_note
      (record { keyed = λ p. keyed ps p p.row; changed = λ p. note_changed p p.row }) ps place old distinct there is_old

-- ---- other records

-- the record refers to a reference
abbrev pub is_of_reference : Record → Bool
is_of_reference (r.ReferenceName i name) = true
is_of_reference (r.WeakReference i n default) = true
is_of_reference (r.ReferenceNote i a b ns) = true
is_of_reference row = false

module _ (ps : List SpelledRecord) where
  unweak : (j : ℕ) (row : Record) → is_of_reference row ≡ false → weak_for j row ≡ None
  unweak j (r.WeakReference i n default) h = absurd (true≢false h)
  unweak j row h = refl

  unnoting : (j : ℕ) (row : Record) → is_of_reference row ≡ false → reference_note_for j row ≡ None
  unnoting j (r.ReferenceNote i a b ns) h = absurd (true≢false h)
  unnoting j row h = refl

  no_reference : (part : List SpelledRecord) (p : SpelledRecord) (row : Record) → is_of_reference row ≡ false → reference_by part p row ≡ None
  no_reference part p (r.ReferenceName i name) h = absurd (true≢false h)
  no_reference part p row h = refl

  -- a record that refers to none leaves the references as they are
  pub references-stay : (q : SpelledRecord) → is_of_reference q.row ≡ false → references_of (ps ++ q ∷ []) ≡ references_of ps
  references-stay q other =
      one_more_none (λ p. reference_by (ps ++ q ∷ []) p p.row) ps q (no_reference (ps ++ q ∷ []) q q.row other)
      ∙ same_each (λ p. reference_by ps p p.row) (λ p. reference_by (ps ++ q ∷ []) p p.row) (λ p. same_by p p.row) ps
    where
      same_by : (p : SpelledRecord) (row : Record) → reference_by (ps ++ q ∷ []) p row ≡ reference_by ps p row
      same_by p (r.ReferenceName j name) = (λ k. Some (record {
        name = text_in p name;
        weak = slice_get (one_more_none (λ p. weak_for j p.row) ps q (unweak j q.row other) k) 0;
        notes = one_more_none (λ p. reference_note_for j p.row) ps q (unnoting j q.row other) k;
      }))
      same_by p row = refl
