-- What the code does to the sections with a record is what the record states of them.
use Rattle.std.proofs.Common.{◌≡◌, ℕ, ◌<◌, ◌==◌, Bool, true, false, nat_eq, List, [], ◌∷◌, ◌++◌, length, slice_get, Option, Some, None, refl, sym, ap}
use Rattle.std.proofs.Common.{subst, ◌∙◌}
use Rattle.std.specs.Prelude.{slice_set}
use Rattle.std.specs.List.{list_any, IsDistinct}
use Rattle.std.proofs.lemmas.List.Elements.{filter_map-append}
use Rattle.mufom_numbers.specs.declared.taken.Span.{Span}
use Rattle.mufom_records.specs.declared.record.Record.{Record}
use Rattle.mufom_records.specs.declared.record.Record.TheVariants as r
use Rattle.mufom_sections.specs.declared.section.Section.{Section}
use Rattle.mufom_module.specs.SpelledRecords.{SpelledRecord, text_in, named_by, section, declared, is_declared}
use Rattle.mufom_module.specs.RecordParts.{section_part, stands_in}
use Rattle.mufom_module.specs.Grammar.{declares_again, states_again}
use Rattle.mufom_module.specs.Gathered.{size_for, alignment_for, base_for, sections_of}
use Rattle.mufom_read.specs.declared.sections.Sections.{Sections}
use Rattle.mufom_judging.specs.Prefixes.{OffsetRecord}
use Rattle.mufom_read.specs.Kept.{as_record}
use Rattle.mufom_read.specs.NamesSoFar.{records_in}
use Rattle.mufom_read.specs.SectionsSoFar.{section_start_by, section_starts, AreSectionsOf, AreSectionsBefore}
use Rattle.mufom_judging.proofs.ended.Trees.{named_known}
use Rattle.mufom_read.proofs.so_far.FollowLaws.{nothing-stated, size_silent, alignment_silent, base_silent, size-unstated, alignment-unstated, base-unstated}
use Rattle.mufom_read.proofs.so_far.ReferenceSteps.{within-some}
use Rattle.mufom_read.proofs.so_far.SectionSteps as section_steps
use Rattle.mufom_read.proofs.so_far.SectionSteps.{section_with, sections-count, starts-count, starts-stay, no-start}
use Rattle.mufom_read.proofs.so_far.PublicLaws.{records-more, same_record}

-- a record of none of the four rows is none of the section part
pub no-section-row : (row : Record) → ((i : ℕ) (absolute : Bool) (letter : Option ℕ) (name : Span) (a b c : Option ℕ) → row
    ≡ r.SectionType i absolute letter name a b c → ⊥) → ((i n : ℕ) → row ≡ r.SectionSize i n → ⊥)
    → ((i n : ℕ) (other : Option ℕ) → row ≡ r.Alignment i n other → ⊥) → ((i n : ℕ) → row ≡ r.SectionBase i n → ⊥) → stands_in section_part row ≡ false
no-section-row (r.SectionType i absolute letter name a b c) x y z w = absurd (x i absolute letter name a b c refl)
no-section-row (r.SectionSize i n) x y z w = absurd (y i n refl)
no-section-row (r.Alignment i n other) x y z w = absurd (z i n other refl)
no-section-row (r.SectionBase i n) x y z w = absurd (w i n refl)
no-section-row row x y z w = refl

-- there are as many sections as offsets of declarations
pub sections-even : (s : Sections) (all : List OffsetRecord) → AreSectionsOf s all → length s.list.items ≡ length s.starts.items
sections-even s all are = ap length are.list ∙ sym (starts-count all) ∙ sym (ap length are.starts)

module _ (s new : Sections) (table : List ℕ) (all : List OffsetRecord) (start : ℕ) (p : SpelledRecord) (before : AreSectionsBefore s table all p) where
  abbrev ps : List SpelledRecord
  ps = records_in all

  grown : (row : Record) → p.row ≡ row → new.list.items ≡ sections_of (ps ++ as_record row p.bytes ∷ []) → new.starts.items
      ≡ section_starts (all ++ (start, as_record row p.bytes) ∷ []) → AreSectionsOf new (all ++ (start, p) ∷ [])
  grown row is list starts =
      let same = same_record p row is in
      record {
        list = list ∙ ap sections_of ((λ k. ps ++ sym same k ∷ []) ∙ sym (records-more all (start, p)));
        starts = starts ∙ (λ k. section_starts (all ++ (start, sym same k) ∷ []));
      }

  -- a position of the table is that of a section
  pub section-within : (position : ℕ) → position < length table → position < length s.list.items
  section-within position within = subst (λ k. position < k) (ap length before.table ∙ sym (sections-count ps) ∙ sym (ap length before.sections.list)) within

  -- the index that a record names is in the table
  pub section-named : (row : Record) (i : ℕ) → p.row ≡ row → named_by row ≡ Some (section, i) → list_any (λ j. j == i) table ≡ true
  section-named row i is named = ap (list_any (λ j. j == i)) before.table ∙ named_known ps p (section, i) (ap named_by is ∙ named) before.next.known

  -- a section is changed in place by a record that declares none
  placed_there : (row : Record) (i : ℕ) (change : Section → Section) (position : ℕ) → p.row ≡ row
      → section_start_by (start, as_record row p.bytes) row ≡ None → slice_get table position ≡ Some i → IsDistinct nat_eq table → position < length table
      → ((place : ℕ) (old : Section) → IsDistinct nat_eq (declared section ps) → slice_get (declared section ps) place ≡ Some i
      → slice_get (sections_of ps) place ≡ Some old
      → sections_of (ps ++ as_record row p.bytes ∷ []) ≡ slice_set (sections_of ps) place (change old))
      → ((old : Section) → slice_get s.list.items position ≡ Some old → new.list.items ≡ slice_set s.list.items position (change old)) → new.starts
      ≡ s.starts → AreSectionsOf new (all ++ (start, p) ∷ [])
  placed_there row i change position is silent there distinct within in_place list starts =
      let old = within-some s.list.items position (section-within position within) in
      grown row is
      (list old.0 old.1 ∙ (λ k. slice_set (before.sections.list k) position (change old.0))
      ∙ sym (in_place position old.0 (subst (IsDistinct nat_eq) before.table distinct) (sym (ap (λ l. slice_get l position) before.table)
      ∙ there) (sym (ap (λ l. slice_get l position) before.sections.list) ∙ old.1)))
      (ap (λ m. m.items) starts ∙ before.sections.starts ∙ sym (starts-stay all start (as_record row p.bytes) silent))

  pub type-taken : (i : ℕ) (absolute : Bool) (letter : Option ℕ) (name : Span) (a b c : Option ℕ) (section_ : Section) → p.row
      ≡ r.SectionType i absolute letter name a b c
      → section_ ≡ section_with (text_in p name) absolute letter None None None → new.list.items ≡ s.list.items ++ section_ ∷ [] → new.starts.items
      ≡ s.starts.items ++ start ∷ [] → AreSectionsOf new (all ++ (start, p) ∷ [])
  type-taken i absolute letter name a b c section_ is same list starts =
      let undeclared : is_declared ps (section, i) ≡ false = ap (declares_again ps) (sym is) ∙ before.next.new in
      let unsized = nothing-stated section i (λ q. size_for i q.row) (λ q no_. size_silent i q q.row no_) [] ps before.follow undeclared in
      let unaligned = nothing-stated section i (λ q. alignment_for i q.row) (λ q no_. alignment_silent i q q.row no_) [] ps before.follow undeclared in
      let unbased = nothing-stated section i (λ q. base_for i q.row) (λ q no_. base_silent i q q.row no_) [] ps before.follow undeclared in
      let more = filter_map-append (λ q. section_start_by q q.1.row) all ((start, as_record (r.SectionType i absolute letter name a b c) p.bytes) ∷ []) in
      grown (r.SectionType i absolute letter name a b c) is
      (list ∙ (λ k. before.sections.list k ++ same k ∷ []) ∙ sym
      (section_steps.section-added ps i absolute letter name a b c p.bytes unsized unaligned unbased))
      (starts ∙ ap (λ l. l ++ start ∷ []) before.sections.starts ∙ sym more)

  pub size-taken : (i n position : ℕ) → p.row ≡ r.SectionSize i n → slice_get table position ≡ Some i → IsDistinct nat_eq table → position < length table
      → ((old : Section) → slice_get s.list.items position ≡ Some old → new.list.items ≡ slice_set s.list.items position (record old { size = n }))
      → new.starts ≡ s.starts → AreSectionsOf new (all ++ (start, p) ∷ [])
  size-taken i n position is there distinct within list starts =
      let unsized = size-unstated i ps (ap (states_again ps) (sym is) ∙ before.next.once) in
      placed_there (r.SectionSize i n) i (λ old. record old { size = n }) position is refl there distinct within
      (section_steps.size-in-place ps i n p.bytes unsized) list starts

  pub align-taken : (i n : ℕ) (other : Option ℕ) (position : ℕ) → p.row ≡ r.Alignment i n other → slice_get table position ≡ Some i
      → IsDistinct nat_eq table → position < length table
      → ((old : Section) → slice_get s.list.items position ≡ Some old → new.list.items ≡ slice_set s.list.items position (record old { align = n }))
      → new.starts ≡ s.starts → AreSectionsOf new (all ++ (start, p) ∷ [])
  align-taken i n other position is there distinct within list starts =
      let unaligned = alignment-unstated i ps (ap (states_again ps) (sym is) ∙ before.next.once) in
      placed_there (r.Alignment i n other) i (λ old. record old { align = n }) position is refl there distinct within
      (section_steps.align-in-place ps i n other p.bytes unaligned) list starts

  pub base-taken : (i n position : ℕ) → p.row ≡ r.SectionBase i n → slice_get table position ≡ Some i → IsDistinct nat_eq table → position < length table
      → ((old : Section) → slice_get s.list.items position ≡ Some old → new.list.items
      ≡ slice_set s.list.items position (record old { base = Some n })) → new.starts ≡ s.starts → AreSectionsOf new (all ++ (start, p) ∷ [])
  base-taken i n position is there distinct within list starts =
      let unbased = base-unstated i ps (ap (states_again ps) (sym is) ∙ before.next.once) in
      placed_there (r.SectionBase i n) i (λ old. record old { base = Some n }) position is refl there distinct within
      (section_steps.base-in-place ps i n p.bytes unbased) list starts

  -- a record of another part leaves them as they are
  pub others-taken : stands_in section_part p.row ≡ false → new ≡ s → AreSectionsOf new (all ++ (start, p) ∷ [])
  others-taken other same = record {
    list = ap (λ (x : Sections). x.list.items) same ∙ before.sections.list ∙ sym (section_steps.sections-stay ps p other)
        ∙ ap sections_of (sym (records-more all (start, p)));
    starts = ap (λ (x : Sections). x.starts.items) same ∙ before.sections.starts ∙ sym (starts-stay all start p (no-start (start, p) p.row other));
  }
