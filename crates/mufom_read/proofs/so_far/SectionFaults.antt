-- The error of the first absolute section without a base, found among the sections that are kept.
use Rattle.std.proofs.Common.{◌≡◌, ℕ, suc, ◌+◌, ◌≤◌, ◌<◌, ◌==◌, ◌||◌, Bool, true, false, not, cond, List, [], ◌∷◌, filter_map, slice_get, Option}
use Rattle.std.proofs.Common.{Some, None, is_some, is_none, refl, sym, ap, ◌∙◌, arith, length, drop, get_or}
use Rattle.std.proofs.Math.Seq.{drop-cons}
use Rattle.std.proofs.lemmas.List.{drop_all}
use Rattle.std.specs.Option.{option_or}
use Rattle.std.specs.List.{cons_option, list_any}
use Rattle.mufom_numbers.specs.declared.reason.Reason.TheVariants as why
use Rattle.mufom_records.specs.declared.record.Record.{Record}
use Rattle.mufom_records.specs.declared.record.Record.TheVariants as r
use Rattle.mufom_sections.specs.declared.section.Section.{Section}
use Rattle.mufom_module.specs.SpelledRecords.{SpelledRecord, Once, section_base, is_same_statement, assigned_by, is_assigned}
use Rattle.mufom_module.specs.Gathered.{answers, first_answer, base_for, section_by, sections_of}
use Rattle.mufom_judging.specs.Prefixes.{OffsetRecord}
use Rattle.mufom_judging.specs.Faults.{Fault, fault_if, first_fault, section_fault}
use Rattle.mufom_read.specs.NamesSoFar.{records_in}
use Rattle.mufom_read.specs.SectionsSoFar.{section_start_by, section_starts, is_unbased, first_unbased}

-- ---- of records

based_row : (i : ℕ) (row : Record) (later : List Once) (bases : List ℕ) → list_any (is_same_statement (section_base i)) later ≡ is_some (slice_get bases 0)
    → list_any (is_same_statement (section_base i)) (cons_option (assigned_by row) later) ≡ is_some (slice_get (cons_option (base_for i row) bases) 0)
based_row i (r.SectionBase j n) later bases h = by_test (i == j) where
  by_test : (test : Bool) → (test || list_any (is_same_statement (section_base i)) later) ≡ is_some (slice_get (cons_option (cond test (Some n) None) bases) 0)
  by_test true = refl
  by_test false = h
based_row i (r.PublicValue j value) later bases h = h
based_row i (r.WeakReference j n other) later bases h = h
based_row i (r.Alignment j n other) later bases h = h
based_row i (r.SectionSize j n) later bases h = h
based_row i (r.Start value) later bases h = h
based_row i row later bases h = h

-- a base was stated of the section if it has one
is_based : (i : ℕ) (ps : List SpelledRecord) → is_assigned ps (section_base i) ≡ is_some (first_answer (base_for i) ps)
is_based i [] = refl
is_based i (p ∷ ps) = based_row i p.row (filter_map (λ q. assigned_by q.row) ps) (answers (base_for i) ps) (is_based i ps)

lacks : {X : Type 0} (o : Option X) → is_none o ≡ not (is_some o)
lacks None = refl
lacks (Some x) = refl

listed_row : (part : List SpelledRecord) (start : ℕ) (row : Record) (bytes : List ℕ) (starts : List ℕ) (sections : List Section)
    (fault : Option Fault) → let p : SpelledRecord = record { row = row; bytes = bytes } in
    first_unbased starts sections ≡ fault → first_unbased (cons_option (section_start_by (start, p) row) starts)
    (cons_option (section_by part p row) sections) ≡ option_or (section_fault part (start, p)) fault
listed_row part start (r.SectionType i true letter name a b c) bytes starts sections fault h =
    (λ k. option_or (fault_if ((lacks (first_answer (base_for i) part) ∙ ap not (sym (is_based i part))) k) start why.MissingBase) (h k))
listed_row part start (r.SectionType i false letter name a b c) bytes starts sections fault h = h
listed_row part start row bytes starts sections fault h = h

listed : (part : List SpelledRecord) (placed : List OffsetRecord)
    → first_unbased (section_starts placed) (filter_map (λ p. section_by part p p.row) (records_in placed)) ≡ first_fault (section_fault part) placed
listed part [] = refl
listed part (p ∷ placed) = listed_row part p.0 p.1.row p.1.bytes _ _ _ (listed part placed)

-- the error of the first section without a base is that of the first declaration of such a section
pub unbased-first : (all : List OffsetRecord) → first_unbased (section_starts all) (sections_of (records_in all))
    ≡ first_fault (section_fault (records_in all)) all
unbased-first all = listed (records_in all) all

-- ---- one by one

module _ (starts : List ℕ) (sections : List Section) (i start : ℕ) (s : Section) (in_starts : i < length starts) (in_sections : i < length sections)
    (is_start : start ≡ get_or starts i start) (is_section : s ≡ get_or sections i s) where
  next : suc i ≡ i + 1
  next = omega arith

  from_start : drop i starts ≡ start ∷ drop (i + 1) starts
  from_start = drop-cons starts i start in_starts ∙ (λ j. sym is_start j ∷ drop (next j) starts)

  from_section : drop i sections ≡ s ∷ drop (i + 1) sections
  from_section = drop-cons sections i s in_sections ∙ (λ j. sym is_section j ∷ drop (next j) sections)

  -- if this section has no base, the first one is found
  pub unbased-here : is_unbased s ≡ true → Some (start, why.MissingBase) ≡ first_unbased (drop i starts) (drop i sections)
  unbased-here e =
      sym (ap (λ b. option_or (fault_if b start why.MissingBase) (first_unbased (drop (i + 1) starts) (drop (i + 1) sections))) e)
      ∙ sym (λ k. first_unbased (from_start k) (from_section k))

-- if it has one, or needs none, the first one comes later
pub unbased-later : (starts : List ℕ) (sections : List Section) (i : ℕ) (s : Section) → i < length starts → i < length sections → s
    ≡ get_or sections i s → is_unbased s ≡ false
    → first_unbased (drop (i + 1) starts) (drop (i + 1) sections) ≡ first_unbased (drop i starts) (drop i sections)
unbased-later starts sections i s in_starts in_sections is_section e =
    let start = get_or starts i 0 in
    sym (ap (λ b. option_or (fault_if b start why.MissingBase) (first_unbased (drop (i + 1) starts) (drop (i + 1) sections))) e)
    ∙ sym (λ k. first_unbased (from_start k) (from_section k))
  where
    next : suc i ≡ i + 1
    next = omega arith

    from_start : drop i starts ≡ get_or starts i 0 ∷ drop (i + 1) starts
    from_start = drop-cons starts i 0 in_starts ∙ (λ j. get_or starts i 0 ∷ drop (next j) starts)

    from_section : drop i sections ≡ s ∷ drop (i + 1) sections
    from_section = drop-cons sections i s in_sections ∙ (λ j. sym is_section j ∷ drop (next j) sections)

-- no section without a base follows the last one
pub unbased-end : (starts : List ℕ) (sections : List Section) (n : ℕ) → length starts ≤ n → length sections ≤ n
    → first_unbased (drop n starts) (drop n sections) ≡ None
unbased-end starts sections n few less = (λ k. first_unbased (drop_all n starts few k) (drop_all n sections less k))
