-- What a record of the external part does to the publics: one more, or what it states of one, in its place.
use Rattle.std.proofs.Common.{◌≡◌, ℕ, length, ◌==◌, Bool, true, false, cond, nat_eq, List, [], ◌∷◌, ◌++◌, map, filter_map, slice_get, Option, Some}
use Rattle.std.proofs.Common.{None, option_map, is_some, refl, sym, ap, ◌∙◌, append-nil, true≢false}
use Rattle.std.specs.Prelude.{unwrap_or, slice_set}
use Rattle.std.specs.List.{cons_option, IsDistinct}
use Rattle.std.proofs.lemmas.List.Elements.{filter_map-append}
use Rattle.arrayvec.specs.ArrayVec.{ArrayVec}
use Rattle.mufom_numbers.specs.declared.taken.Span.{Span}
use Rattle.mufom_expr.specs.Tree.{Tree, number}
use Rattle.mufom_expr.specs.Spelled.{Indexes}
use Rattle.mufom_records.specs.declared.record.Record.{Record}
use Rattle.mufom_records.specs.declared.record.Record.TheVariants as r
use Rattle.mufom_names.specs.declared.name.Note.{Note}
use Rattle.mufom_names.specs.declared.name.Public.{Public}
use Rattle.mufom_module.specs.SpelledRecords.{SpelledRecord, text_in, tree_in, public, declared, declared_by, of_kind}
use Rattle.mufom_module.specs.Gathered.{answers, note_of, value_for, public_note_for, public_by, publics_of}
use Rattle.mufom_read.specs.Kept.{as_record}
use Rattle.mufom_read.specs.NamesSoFar.{unplaced_value, unplaced_by, unplaced_publics, placed_public}
use Rattle.mufom_read.proofs.so_far.InPlace.{changed_at, changed-there}
use Rattle.mufom_read.proofs.so_far.ReferenceSteps.{one_more_none, same_each, same_count, same_index, more_notes}

-- the index of the public that a record declares
abbrev key : SpelledRecord → Option ℕ
key p = of_kind public (declared_by p.row)

map_cons : {X Y : Type 0} (f : X → Y) (o : Option X) (xs : List X) → map f (cons_option o xs) ≡ cons_option (option_map f o) (map f xs)
map_cons f None xs = refl
map_cons f (Some x) xs = refl

fused : {P X Y : Type 0} (f : P → Option Y) (g : X → Y) (h : P → Option X) → ((p : P) → f p ≡ option_map g (h p)) → (ps : List P) → filter_map f ps
    ≡ map g (filter_map h ps)
fused f g h same [] = refl
fused f g h same (p ∷ ps) = (λ k. cons_option (same p k) (fused f g h same ps k)) ∙ sym (map_cons g (h p) (filter_map h ps))

-- The publics of a file are those that are kept, with positions in place of its indexes.
pub publics-placed : (ix : Indexes) (part : List SpelledRecord) → publics_of ix part ≡ map (placed_public ix) (unplaced_publics part)
publics-placed ix part = fused (λ p. public_by ix part p p.row) (placed_public ix) (λ p. unplaced_by part p p.row) (λ p. same p p.row) part where
  same : (p : SpelledRecord) (row : Record) → public_by ix part p row ≡ option_map (placed_public ix) (unplaced_by part p row)
  same p (r.PublicName i name) = refl
  same p row = refl

keyed : (part : List SpelledRecord) (p : SpelledRecord) (row : Record) → is_some (of_kind public (declared_by row)) ≡ is_some (unplaced_by part p row)
keyed part p (r.PublicName i name) = refl
keyed part p (r.SectionType a b c d e f g) = refl
keyed part p (r.ReferenceName i name) = refl
keyed part p (r.DebugName i name) = refl
keyed part p row = refl

pub publics-count : (ps : List SpelledRecord) → length (unplaced_publics ps) ≡ length (declared public ps)
publics-count ps = sym (same_count key (λ p. unplaced_by ps p p.row) (λ p. keyed ps p p.row) ps)

-- ---- a public more

module _ (ps : List SpelledRecord) (i : ℕ) (name : Span) (bytes : List ℕ) where
  abbrev added : SpelledRecord
  added = as_record (r.PublicName i name) bytes

  abbrev with_stated : List Tree → List Note → Public
  with_stated values notes = record { name = text_in added name; value = unwrap_or (slice_get values 0) (number 0); notes = notes }

  no_value : (j : ℕ) → filter_map (λ p. value_for j p p.row) (ps ++ added ∷ []) ≡ filter_map (λ p. value_for j p p.row) ps
  no_value j = one_more_none (λ p. value_for j p p.row) ps added refl

  no_note : (j : ℕ) → answers (public_note_for j) (ps ++ added ∷ []) ≡ answers (public_note_for j) ps
  no_note j = one_more_none (λ p. public_note_for j p.row) ps added refl

  same : (p : SpelledRecord) (row : Record) → unplaced_by (ps ++ added ∷ []) p row ≡ unplaced_by ps p row
  same p (r.PublicName j other) = (λ k. Some (record {
    name = text_in p other;
    value = unwrap_or (slice_get (no_value j k) 0) (number 0);
    notes =
        no_note j k;
  }))
  same p row = refl

  -- NI: one more public, of which nothing was stated
  pub public-added : filter_map (λ p. value_for i p p.row) ps ≡ [] → answers (public_note_for i) ps ≡ [] → unplaced_publics (ps ++ added ∷ [])
      ≡ unplaced_publics ps ++ with_stated [] [] ∷ []
  public-added unvalued unnoted =
      filter_map-append (λ p. unplaced_by (ps ++ added ∷ []) p p.row) ps (added ∷ [])
      ∙ (λ k. same_each (λ p. unplaced_by ps p p.row) (λ p. unplaced_by (ps ++ added ∷ []) p p.row) (λ p. same p p.row) ps k
      ++ with_stated ((no_value i ∙ unvalued) k) ((no_note i ∙ unnoted) k) ∷ [])

-- ---- its value

chosen_value : (b : Bool) (name : List ℕ) (t v : Tree) (ns : List Note) → let old : Public = record { name = name; value = v; notes = ns } in
    let new : Public = record { name = name; value = t; notes = ns } in
    let both : Public = record { name = name; value = cond b t v; notes = ns } in Some both ≡ Some (cond b new old)
chosen_value true name t v ns = refl
chosen_value false name t v ns = refl

-- the first value, if none was stated of the index before
first_value : (b : Bool) (vs : List Tree) (t : Tree) → (b ≡ true → vs ≡ [])
    → unwrap_or (slice_get (vs ++ cons_option (cond b (Some t) None) []) 0) (number 0) ≡ cond b t (unwrap_or (slice_get vs 0) (number 0))
first_value true vs t none = ap (λ l. unwrap_or (slice_get (l ++ t ∷ []) 0) (number 0)) (none refl)
first_value false vs t none = ap (λ l. unwrap_or (slice_get l 0) (number 0)) (append-nil vs)

module _ (ps : List SpelledRecord) (i : ℕ) (span : Span) (bytes : List ℕ) (unstated : filter_map (λ p. value_for i p p.row) ps ≡ []) where
  abbrev given : SpelledRecord
  given = as_record (r.PublicValue i span) bytes

  abbrev with_value : Public → Public
  with_value old = record old { value = tree_in given span }

  stated : (j : ℕ) → unplaced_value j (ps ++ given ∷ []) ≡ cond (j == i) (tree_in given span) (unplaced_value j ps)
  stated j = ap (λ vs. unwrap_or (slice_get vs 0) (number 0)) (filter_map-append (λ p. value_for j p p.row) ps (given ∷ []))
      ∙ first_value (j == i) (filter_map (λ p. value_for j p p.row) ps) (tree_in given span)
      (λ e. ap (λ k. filter_map (λ p. value_for k p p.row) ps) (same_index j i e) ∙ unstated)

  changed : (p : SpelledRecord) (row : Record) → unplaced_by (ps ++ given ∷ []) p row
      ≡ changed_at i with_value (of_kind public (declared_by row)) (unplaced_by ps p row)
  changed p (r.PublicName j name) =
      (λ k. Some (record { name = text_in p name; value = stated j k; notes = one_more_none (λ p. public_note_for j p.row) ps given refl k }))
      ∙ chosen_value (j == i) (text_in p name) (tree_in given span) (unplaced_value j ps) (answers (public_note_for j) ps)
  changed p row = refl

  -- ASI: the public with the index has the value, in its place
  pub value-in-place : (place : ℕ) (old : Public) → IsDistinct nat_eq (declared public ps) → slice_get (declared public ps) place ≡ Some i
      → slice_get (unplaced_publics ps) place ≡ Some old
      → unplaced_publics (ps ++ given ∷ []) ≡ slice_set (unplaced_publics ps) place (record old { value = tree_in given span })
  value-in-place place old distinct there is_old =
      one_more_none (λ p. unplaced_by (ps ++ given ∷ []) p p.row) ps given refl
      ∙ changed-there key (λ p. unplaced_by ps p p.row) (λ p. unplaced_by (ps ++ given ∷ []) p p.row) i with_value
      (record { keyed = λ p. keyed ps p p.row; changed = λ p. changed p p.row }) ps place old distinct there is_old

-- ---- a note

chosen_note : (b : Bool) (name : List ℕ) (v : Tree) (more ns : List Note) → let old : Public = record { name = name; value = v; notes = ns } in
    let new : Public = record { name = name; value = v; notes = more } in
    let both : Public = record { name = name; value = v; notes = cond b more ns } in Some both ≡ Some (cond b new old)
chosen_note true name v more ns = refl
chosen_note false name v more ns = refl

module _ (ps : List SpelledRecord) (i type_index attribute : ℕ) (ns : ArrayVec ℕ) (bytes : List ℕ) where
  abbrev noted : SpelledRecord
  noted = as_record (r.PublicNote i type_index attribute ns) bytes

  abbrev its_note : Note
  its_note = note_of type_index attribute ns

  abbrev with_note : Public → Public
  with_note old = record old { notes = old.notes ++ its_note ∷ [] }

  all_notes : (j : ℕ) → answers (public_note_for j) (ps ++ noted ∷ [])
      ≡ cond (j == i) (answers (public_note_for j) ps ++ its_note ∷ []) (answers (public_note_for j) ps)
  all_notes j = filter_map-append (λ p. public_note_for j p.row) ps (noted ∷ []) ∙ more_notes (j == i) (answers (public_note_for j) ps) its_note

  note_changed : (p : SpelledRecord) (row : Record) → unplaced_by (ps ++ noted ∷ []) p row
      ≡ changed_at i with_note (of_kind public (declared_by row)) (unplaced_by ps p row)
  note_changed p (r.PublicName j name) =
      (λ k. Some (record {
        name = text_in p name;
        value = unwrap_or (slice_get (one_more_none (λ p. value_for j p p.row) ps noted refl k) 0)
            (number 0);
        notes = all_notes j k;
      }))
      ∙ chosen_note (j == i) (text_in p name) (unplaced_value j ps) (answers (public_note_for j) ps ++ its_note ∷ []) (answers (public_note_for j) ps)
  note_changed p row = refl

  -- ATI: the public with the index has a note more, in its place
  pub note-in-place : (place : ℕ) (old : Public) → IsDistinct nat_eq (declared public ps) → slice_get (declared public ps) place ≡ Some i
      → slice_get (unplaced_publics ps) place ≡ Some old
      → unplaced_publics (ps ++ noted ∷ []) ≡ slice_set (unplaced_publics ps) place (record old { notes = old.notes ++ its_note ∷ [] })
  note-in-place place old distinct there is_old =
      one_more_none (λ p. unplaced_by (ps ++ noted ∷ []) p p.row) ps noted refl
      ∙ changed-there key (λ p. unplaced_by ps p p.row) (λ p. unplaced_by (ps ++ noted ∷ []) p p.row) i with_note
      (record { keyed = λ p. keyed ps p p.row; changed = λ p. note_changed p p.row }) ps place old distinct there is_old

-- ---- other records

-- the record refers to a public
abbrev pub is_of_public : Record → Bool
is_of_public (r.PublicName i name) = true
is_of_public (r.PublicValue i value) = true
is_of_public (r.PublicNote i a b ns) = true
is_of_public row = false

unvaluing : (j : ℕ) (p : SpelledRecord) (row : Record) → is_of_public row ≡ false → value_for j p row ≡ None
unvaluing j p (r.PublicValue i value) h = absurd (true≢false h)
unvaluing j p row h = refl

unnoting : (j : ℕ) (row : Record) → is_of_public row ≡ false → public_note_for j row ≡ None
unnoting j (r.PublicNote i a b ns) h = absurd (true≢false h)
unnoting j row h = refl

no_public : (part : List SpelledRecord) (p : SpelledRecord) (row : Record) → is_of_public row ≡ false → unplaced_by part p row ≡ None
no_public part p (r.PublicName i name) h = absurd (true≢false h)
no_public part p row h = refl

-- a record that refers to none leaves the publics as they are
pub publics-stay : (ps : List SpelledRecord) (q : SpelledRecord) → is_of_public q.row ≡ false → unplaced_publics (ps ++ q ∷ []) ≡ unplaced_publics ps
publics-stay ps q other =
    one_more_none (λ p. unplaced_by (ps ++ q ∷ []) p p.row) ps q (no_public (ps ++ q ∷ []) q q.row other)
    ∙ same_each (λ p. unplaced_by ps p p.row) (λ p. unplaced_by (ps ++ q ∷ []) p p.row) (λ p. same_by p p.row) ps
  where
    same_by : (p : SpelledRecord) (row : Record) → unplaced_by (ps ++ q ∷ []) p row ≡ unplaced_by ps p row
    same_by p (r.PublicName j name) = (λ k. Some (record {
      name = text_in p name;
      value = unwrap_or (slice_get (one_more_none (λ p. value_for j p p.row) ps q (unvaluing j q q.row other) k) 0) (number 0);
      notes = one_more_none (λ p. public_note_for j p.row) ps q (unnoting j q.row other) k;
    }))
    same_by p row = refl
