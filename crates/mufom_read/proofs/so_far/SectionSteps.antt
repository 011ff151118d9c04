-- What a record of the section part does to the sections: one more, or what it states of one, in its place.
use Rattle.std.proofs.Common.{◌≡◌, ℕ, length, ◌==◌, Bool, true, false, cond, nat_eq, List, [], ◌∷◌, ◌++◌, filter_map, slice_get, Option, Some, None}
use Rattle.std.proofs.Common.{option_map, is_some, refl, sym, ap, ◌∙◌, append-nil, true≢false}
use Rattle.std.specs.Prelude.{unwrap_or, slice_set}
use Rattle.std.specs.List.{cons_option, IsDistinct}
use Rattle.std.proofs.lemmas.List.Elements.{filter_map-append}
use Rattle.mufom_numbers.specs.declared.taken.Span.{Span}
use Rattle.mufom_records.specs.declared.record.Record.{Record}
use Rattle.mufom_records.specs.declared.record.Record.TheVariants as r
use Rattle.mufom_sections.specs.declared.section.Section.{Section}
use Rattle.mufom_module.specs.SpelledRecords.{SpelledRecord, text_in, section, declared, declared_by, of_kind}
use Rattle.mufom_module.specs.RecordParts.{section_part, stands_in}
use Rattle.mufom_module.specs.Gathered.{answers, first_answer, size_for, alignment_for, base_for, purpose_of, section_by, sections_of}
use Rattle.mufom_judging.specs.Prefixes.{OffsetRecord}
use Rattle.mufom_read.specs.Kept.{as_record}
use Rattle.mufom_read.specs.NamesSoFar.{records_in}
use Rattle.mufom_read.specs.SectionsSoFar.{section_start_by, section_starts}
use Rattle.mufom_read.proofs.so_far.InPlace.{changed_at, changed-there}
use Rattle.mufom_read.proofs.so_far.ReferenceSteps.{one_more_none, same_each, same_count, same_index}

-- the index of the section that a record declares
abbrev key : SpelledRecord → Option ℕ
key p = of_kind section (declared_by p.row)

keyed : (part : List SpelledRecord) (p : SpelledRecord) (row : Record) → is_some (of_kind section (declared_by row)) ≡ is_some (section_by part p row)
keyed part p (r.SectionType a b c d e f g) = refl
keyed part p (r.PublicName i name) = refl
keyed part p (r.ReferenceName i name) = refl
keyed part p (r.DebugName i name) = refl
keyed part p row = refl

pub sections-count : (ps : List SpelledRecord) → length (sections_of ps) ≡ length (declared section ps)
sections-count ps = sym (same_count key (λ p. section_by ps p p.row) (λ p. keyed ps p p.row) ps)

-- the section of a declaration with this name, of which these are stated
abbrev pub section_with : List ℕ → Bool → Option ℕ → Option ℕ → Option ℕ → Option ℕ → Section
section_with name absolute letter size align base = record {
  name = name;
  absolute = absolute;
  purpose = option_map purpose_of letter;
  size = unwrap_or size 0;
  align = unwrap_or align 1;
  base = base;
}

-- the first value, if none was stated of the index before
first_one : (b : Bool) (xs : List ℕ) (x : ℕ) → (b ≡ true → xs ≡ []) → slice_get (xs ++ cons_option (cond b (Some x) None) []) 0
    ≡ cond b (Some x) (slice_get xs 0)
first_one true xs x none = ap (λ l. slice_get (l ++ x ∷ []) 0) (none refl)
first_one false xs x none = ap (λ l. slice_get l 0) (append-nil xs)

module _ (ps : List SpelledRecord) (q : SpelledRecord) where
  -- what a record that states nothing of it leaves as it is
  same_answer : (ask : Record → Option ℕ) → ask q.row ≡ None → first_answer ask (ps ++ q ∷ []) ≡ first_answer ask ps
  same_answer ask none = ap (λ xs. slice_get xs 0) (one_more_none (λ p. ask p.row) ps q none)

  -- what a record states of the section with this index
  new_answer : (ask : ℕ → Record → Option ℕ) (i n : ℕ) → ((j : ℕ) → ask j q.row ≡ cond (j == i) (Some n) None) → answers (ask i) ps ≡ [] → (j : ℕ)
      → first_answer (ask j) (ps ++ q ∷ []) ≡ cond (j == i) (Some n) (first_answer (ask j) ps)
  new_answer ask i n states unstated j =
      ap (λ xs. slice_get xs 0) (filter_map-append (λ p. ask j p.row) ps (q ∷ []) ∙ ap (λ o. answers (ask j) ps ++ cons_option o []) (states j))
      ∙ first_one (j == i) (answers (ask j) ps) n (λ e. ap (λ k. answers (ask k) ps) (same_index j i e) ∙ unstated)

  -- in place
  in-place : (i : ℕ) (change : Section → Section) → section_by (ps ++ q ∷ []) q q.row ≡ None
      → ((p : SpelledRecord) → section_by (ps ++ q ∷ []) p p.row ≡ changed_at i change (key p) (section_by ps p p.row))
      → (place : ℕ) (old : Section) → IsDistinct nat_eq (declared section ps) → slice_get (declared section ps) place ≡ Some i
      → slice_get (sections_of ps) place ≡ Some old
      → sections_of (ps ++ q ∷ []) ≡ slice_set (sections_of ps) place (change old)
  in-place i change none changed place old distinct there is_old =
      one_more_none (λ p. section_by (ps ++ q ∷ []) p p.row) ps q none
      ∙ changed-there key (λ p. section_by ps p p.row) (λ p. section_by (ps ++ q ∷ []) p p.row) i change
      (record { keyed = λ p. keyed ps p p.row; changed = changed }) ps place old distinct there is_old

-- ---- a section more

module _ (ps : List SpelledRecord) (i : ℕ) (absolute : Bool) (letter : Option ℕ) (name : Span) (a b c : Option ℕ) (bytes : List ℕ) where
  abbrev added : SpelledRecord
  added = as_record (r.SectionType i absolute letter name a b c) bytes

  same : (p : SpelledRecord) (row : Record) → section_by (ps ++ added ∷ []) p row ≡ section_by ps p row
  same p (r.SectionType j absolute_ letter_ name_ x y z) =
      (λ k. Some (section_with (text_in p name_) absolute_ letter_ (same_answer ps added (size_for j) refl k)
      (same_answer ps added (alignment_for j) refl k) (same_answer ps added (base_for j) refl k)))
  same p row = refl

  -- ST: one more section, of which nothing was stated
  pub section-added : answers (size_for i) ps ≡ [] → answers (alignment_for i) ps ≡ [] → answers (base_for i) ps ≡ []
      → sections_of (ps ++ added ∷ []) ≡ sections_of ps ++ section_with (text_in added name) absolute letter None None None ∷ []
  section-added unsized unaligned unbased =
      let none = λ (ask : Record → Option ℕ) (silent : ask added.row ≡ None) (unstated : answers ask ps ≡ []). same_answer ps added ask silent
      ∙ ap (λ xs. slice_get xs 0) unstated in
      filter_map-append (λ p. section_by (ps ++ added ∷ []) p p.row) ps (added ∷ [])
      ∙ (λ k. same_each (λ p. section_by ps p p.row) (λ p. section_by (ps ++ added ∷ []) p p.row) (λ p. same p p.row) ps k
      ++ section_with (text_in added name) absolute letter (none (size_for i) refl unsized k) (none (alignment_for i) refl unaligned k)
      (none (base_for i) refl unbased k) ∷ [])

-- ---- its size

chosen_size : (t : Bool) (name : List ℕ) (absolute : Bool) (letter size align base : Option ℕ) (n : ℕ) → let old =
    section_with name absolute letter size align base in
    Some (section_with name absolute letter (cond t (Some n) size) align base) ≡ Some (cond t (record old { size = n }) old)
chosen_size true name absolute letter size align base n = refl
chosen_size false name absolute letter size align base n = refl

module _ (ps : List SpelledRecord) (i n : ℕ) (bytes : List ℕ) (unsized : answers (size_for i) ps ≡ []) where
  abbrev sized : SpelledRecord
  sized = as_record (r.SectionSize i n) bytes

  abbrev with_size : Section → Section
  with_size old = record old { size = n }

  size_changed : (p : SpelledRecord) (row : Record) → section_by (ps ++ sized ∷ []) p row
      ≡ changed_at i with_size (of_kind section (declared_by row)) (section_by ps p row)
  size_changed p (r.SectionType j absolute letter name x y z) =
      (λ k. Some (section_with (text_in p name) absolute letter (new_answer ps sized size_for i n (λ m. refl) unsized j k)
      (same_answer ps sized (alignment_for j) refl k) (same_answer ps sized (base_for j) refl k)))
      ∙ chosen_size (j == i) (text_in p name) absolute letter (first_answer (size_for j) ps) (first_answer (alignment_for j) ps)
      (first_answer (base_for j) ps) n
  size_changed p row = refl

  -- ASS: the section with the index has the size, in its place
  pub size-in-place : (place : ℕ) (old : Section) → IsDistinct nat_eq (declared section ps) → slice_get (declared section ps) place ≡ Some i
      → slice_get (sections_of ps) place ≡ Some old
      → sections_of (ps ++ sized ∷ []) ≡ slice_set (sections_of ps) place (record old { size = n })
  size-in-place = in-place ps sized i with_size refl (λ p. size_changed p p.row)

-- ---- its alignment

chosen_align : (t : Bool) (name : List ℕ) (absolute : Bool) (letter size align base : Option ℕ) (n : ℕ) → let old =
    section_with name absolute letter size align base in
    Some (section_with name absolute letter size (cond t (Some n) align) base) ≡ Some (cond t (record old { align = n }) old)
chosen_align true name absolute letter size align base n = refl
chosen_align false name absolute letter size align base n = refl

module _ (ps : List SpelledRecord) (i n : ℕ) (other : Option ℕ) (bytes : List ℕ) (unaligned : answers (alignment_for i) ps ≡ []) where
  abbrev aligned : SpelledRecord
  aligned = as_record (r.Alignment i n other) bytes

  abbrev with_align : Section → Section
  with_align old = record old { align = n }

  align_changed : (p : SpelledRecord) (row : Record) → section_by (ps ++ aligned ∷ []) p row
      ≡ changed_at i with_align (of_kind section (declared_by row)) (section_by ps p row)
  align_changed p (r.SectionType j absolute letter name x y z) =
      (λ k. Some (section_with (text_in p name) absolute letter (same_answer ps aligned (size_for j) refl k)
      (new_answer ps aligned alignment_for i n (λ m. refl) unaligned j k) (same_answer ps aligned (base_for j) refl k)))
      ∙ chosen_align (j == i) (text_in p name) absolute letter (first_answer (size_for j) ps) (first_answer (alignment_for j) ps)
      (first_answer (base_for j) ps) n
  align_changed p row = refl

  -- SA: the section with the index has the alignment, in its place
  pub align-in-place : (place : ℕ) (old : Section) → IsDistinct nat_eq (declared section ps) → slice_get (declared section ps) place ≡ Some i
      → slice_get (sections_of ps) place ≡ Some old
      → sections_of (ps ++ aligned ∷ []) ≡ slice_set (sections_of ps) place (record old { align = n })
  align-in-place = in-place ps aligned i with_align refl (λ p. align_changed p p.row)

-- ---- its base

chosen_base : (t : Bool) (name : List ℕ) (absolute : Bool) (letter size align base : Option ℕ) (n : ℕ) → let old =
    section_with name absolute letter size align base in
    Some (section_with name absolute letter size align (cond t (Some n) base)) ≡ Some (cond t (record old { base = Some n }) old)
chosen_base true name absolute letter size align base n = refl
chosen_base false name absolute letter size align base n = refl

module _ (ps : List SpelledRecord) (i n : ℕ) (bytes : List ℕ) (unbased : answers (base_for i) ps ≡ []) where
  abbrev based : SpelledRecord
  based = as_record (r.SectionBase i n) bytes

  abbrev with_base : Section → Section
  with_base old = record old { base = Some n }

  base_changed : (p : SpelledRecord) (row : Record) → section_by (ps ++ based ∷ []) p row
      ≡ changed_at i with_base (of_kind section (declared_by row)) (section_by ps p row)
  base_changed p (r.SectionType j absolute letter name x y z) =
      (λ k. Some (section_with (text_in p name) absolute letter (same_answer ps based (size_for j) refl k)
      (same_answer ps based (alignment_for j) refl k) (new_answer ps based base_for i n (λ m. refl) unbased j k)))
      ∙ chosen_base (j == i) (text_in p name) absolute letter (first_answer (size_for j) ps) (first_answer (alignment_for j) ps)
      (first_answer (base_for j) ps) n
  base_changed p row = refl

  -- ASL: the section with the index has the base, in its place
  pub base-in-place : (place : ℕ) (old : Section) → IsDistinct nat_eq (declared section ps) → slice_get (declared section ps) place ≡ Some i
      → slice_get (sections_of ps) place ≡ Some old
      → sections_of (ps ++ based ∷ []) ≡ slice_set (sections_of ps) place (record old { base = Some n })
  base-in-place = in-place ps based i with_base refl (λ p. base_changed p p.row)

-- ---- other records

unsizing : (j : ℕ) (row : Record) → stands_in section_part row ≡ false → size_for j row ≡ None
unsizing j (r.SectionSize i n) h = absurd (true≢false h)
unsizing j row h = refl

unaligning : (j : ℕ) (row : Record) → stands_in section_part row ≡ false → alignment_for j row ≡ None
unaligning j (r.Alignment i n other) h = absurd (true≢false h)
unaligning j row h = refl

unbasing : (j : ℕ) (row : Record) → stands_in section_part row ≡ false → base_for j row ≡ None
unbasing j (r.SectionBase i n) h = absurd (true≢false h)
unbasing j row h = refl

no_section : (part : List SpelledRecord) (p : SpelledRecord) (row : Record) → stands_in section_part row ≡ false → section_by part p row ≡ None
no_section part p (r.SectionType a b c d e f g) h = absurd (true≢false h)
no_section part p row h = refl

-- a record of another part leaves the sections as they are
pub sections-stay : (ps : List SpelledRecord) (q : SpelledRecord) → stands_in section_part q.row ≡ false → sections_of (ps ++ q ∷ []) ≡ sections_of ps
sections-stay ps q other =
    one_more_none (λ p. section_by (ps ++ q ∷ []) p p.row) ps q (no_section (ps ++ q ∷ []) q q.row other)
    ∙ same_each (λ p. section_by ps p p.row) (λ p. section_by (ps ++ q ∷ []) p p.row) (λ p. same_by p p.row) ps
  where
    same_by : (p : SpelledRecord) (row : Record) → section_by (ps ++ q ∷ []) p row ≡ section_by ps p row
    same_by p (r.SectionType j absolute letter name x y z) =
        (λ k. Some (section_with (text_in p name) absolute letter (same_answer ps q (size_for j) (unsizing j q.row other) k)
        (same_answer ps q (alignment_for j) (unaligning j q.row other) k) (same_answer ps q (base_for j) (unbasing j q.row other) k)))
    same_by p row = refl

-- ---- the offsets of declarations

-- a record that declares no section leaves them as they are
pub starts-stay : (all : List OffsetRecord) (start : ℕ) (p : SpelledRecord) → section_start_by (start, p) p.row ≡ None
    → section_starts (all ++ (start, p) ∷ []) ≡ section_starts all
starts-stay all start p none = one_more_none (λ q. section_start_by q q.1.row) all (start, p) none

pub no-start : (q : OffsetRecord) (row : Record) → stands_in section_part row ≡ false → section_start_by q row ≡ None
no-start q (r.SectionType a b c d e f g) h = absurd (true≢false h)
no-start q row h = refl

-- as many as sections
pub starts-count : (all : List OffsetRecord) → length (section_starts all) ≡ length (sections_of (records_in all))
starts-count all = same_count (λ q. section_start_by q q.1.row) (λ q. section_by (records_in all) q.1 q.1.row) (λ q. paired q q.1.row) all
    ∙ sym (ap length (map_asks (records_in all) all)) where
      paired : (q : OffsetRecord) (row : Record) → is_some (section_start_by q row) ≡ is_some (section_by (records_in all) q.1 row)
      paired q (r.SectionType a b c d e f g) = refl
      paired q row = refl

      map_asks : (part : List SpelledRecord) (placed : List OffsetRecord) → filter_map (λ p. section_by part p p.row) (records_in placed)
          ≡ filter_map (λ (q : OffsetRecord). section_by part q.1 q.1.row) placed
      map_asks part [] = refl
      map_asks part (q ∷ placed) = ap (cons_option (section_by part q.1 q.1.row)) (map_asks part placed)
