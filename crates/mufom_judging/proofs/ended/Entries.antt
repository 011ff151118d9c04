-- The sections, publics and references that an ended prefix states have no defect.
use Rattle.std.proofs.Common.{◌≡◌, ℕ, suc, Bool, true, false, cond, not, ◌==◌, ◌&&◌, ◌||◌, nat_lt, List, [], ◌∷◌, ◌++◌, length, slice_get, Option}
use Rattle.std.proofs.Common.{Some, None, IfSome, is_none, unwrap_or, refl, sym, ap, subst, ◌∙◌, filter_map}
use Rattle.std.specs.List.{list_all, list_any, cons_option, AllByRecursion}
use Rattle.std.proofs.lemmas.Bool.{not-false}
use Rattle.mufom_numbers.specs.declared.limits.TheConstants.{MOST_ALIGNMENT}
use Rattle.mufom_numbers.specs.declared.taken.Span.{Span}
use Rattle.mufom_expr.specs.Tree.{number}
use Rattle.mufom_expr.specs.Spelled.{Indexes}
use Rattle.mufom_records.specs.declared.record.Record.{Record}
use Rattle.mufom_records.specs.declared.record.Record.TheVariants as r
use Rattle.mufom_records.specs.Parts.{expression_of}
use Rattle.mufom_sections.specs.declared.section.Section.{Section}
use Rattle.mufom_names.specs.declared.name.Public.{Public}
use Rattle.mufom_names.specs.declared.name.Reference.{Reference}
use Rattle.mufom_module.specs.declared.module.Parts.{Parts}
use Rattle.mufom_module.specs.Contents.{any_of}
use Rattle.mufom_module.specs.Defects as d
use Rattle.mufom_module.specs.SpelledRecords.{SpelledRecord, section, public, reference, declared_by, of_kind, declared, is_declared}
use Rattle.mufom_module.specs.SpelledRecords.{named_in_expression, tree_in, is_public_value, Once, section_base, is_same_statement}
use Rattle.mufom_module.specs.SpelledRecords.{assigned_by, is_assigned}
use Rattle.mufom_module.specs.RecordParts.{Part}
use Rattle.mufom_module.specs.Gathered.{answers, first_answer, alignment_for, base_for, section_by, sections_of, value_for, public_by, publics_of}
use Rattle.mufom_module.specs.Gathered.{reference_by, references_of}
use Rattle.mufom_judging.specs.Faults.{has_bad_alignment, has_unknown_variable, lacks_base, counter_allowed, misplaces_counter}
use Rattle.mufom_judging.specs.Stated.{indexes_in}
use Rattle.mufom_judging.proofs.ended.Rows.{IsShort}
use Rattle.mufom_judging.proofs.ended.Parts.{KeptFrom}
use Rattle.mufom_judging.proofs.ended.Sliced.{IsGiven}
use Rattle.mufom_judging.proofs.ended.Names.{IsSilent, assigned_after}
use Rattle.mufom_judging.proofs.ended.Trees.{AreCounts, all_declared-append, known_named, tree_counter}
use Rattle.mufom_judging.proofs.ended.Good.{IsGoodTree, good_tree, text_short, none_passes, first_has, for_index_has, map_all}

-- ---- as many as are declared

same_length : {X Y : Type 0} (f : SpelledRecord → Option X) (g : SpelledRecord → Option Y) → ((p : SpelledRecord) → is_none (f p) ≡ is_none (g p))
    → (records : List SpelledRecord) → length (filter_map f records) ≡ length (filter_map g records)
same_length f g same [] = refl
same_length f g same (p ∷ records) = next (f p) (g p) (filter_map f records) (filter_map g records) (same p) (same_length f g same records) where
  next : {X Y : Type 0} (a : Option X) (b : Option Y) (xs : List X) (ys : List Y) → is_none a ≡ is_none b → length xs ≡ length ys
      → length (cons_option a xs) ≡ length (cons_option b ys)
  next None None xs ys e h = h
  next None (Some y) xs ys e h = cc
  next (Some x) None xs ys e h = cc
  next (Some x) (Some y) xs ys e h = ap suc h

section_counted : (part : List SpelledRecord) (p : SpelledRecord) (row : Record) → is_none (section_by part p row) ≡ is_none (of_kind section (declared_by row))
section_counted part p (r.SectionType i absolute letter name a b c) = refl
section_counted part p row = refl

public_counted : (ix : Indexes) (part : List SpelledRecord) (p : SpelledRecord) (row : Record) → is_none (public_by ix part p row)
    ≡ is_none (of_kind public (declared_by row))
public_counted ix part p (r.PublicName i name) = refl
public_counted ix part p row = refl

reference_counted : (part : List SpelledRecord) (p : SpelledRecord) (row : Record) → is_none (reference_by part p row)
    ≡ is_none (of_kind reference (declared_by row))
reference_counted part p (r.ReferenceName i name) = refl
reference_counted part p row = refl

pub sections_counted : (part : List SpelledRecord) → length (sections_of part) ≡ length (declared section part)
sections_counted part = same_length (λ p. section_by part p p.row) (λ p. of_kind section (declared_by p.row)) (λ p. section_counted part p p.row) part

pub publics_counted : (ix : Indexes) (part : List SpelledRecord) → length (publics_of ix part) ≡ length (declared public part)
publics_counted ix part = same_length (λ p. public_by ix part p p.row) (λ p. of_kind public (declared_by p.row)) (λ p. public_counted ix part p p.row) part

pub references_counted : (part : List SpelledRecord) → length (references_of part) ≡ length (declared reference part)
references_counted part = same_length (λ p. reference_by part p p.row) (λ p. of_kind reference (declared_by p.row)) (λ p. reference_counted part p p.row) part

-- ---- sections

short_section : (part : List SpelledRecord) (p : SpelledRecord) (row : Record) → IsShort row
    → any_of (λ (s : Section). d.is_long s.name) (section_by part p row) ≡ false
short_section part p (r.SectionType i absolute letter name a b c) h = text_short p name h
short_section part p row h = refl

pub sections_short : (part : List SpelledRecord) → AllByRecursion (λ p. IsShort p.row) part
    → list_any (λ (s : Section). d.is_long s.name) (sections_of part) ≡ false
sections_short part h = none_passes (λ (s : Section). d.is_long s.name) (λ p. section_by part p p.row) part
    (map_all (λ p. IsShort p.row) (λ p. any_of (λ (s : Section). d.is_long s.name) (section_by part p p.row) ≡ false) (λ p. short_section part p p.row) part h)

-- an alignment that is allowed
abbrev IsAligned : ℕ → Type 0
IsAligned n = ((n == 0) || nat_lt MOST_ALIGNMENT n) ≡ false

answer_aligned : (i : ℕ) (row : Record) → has_bad_alignment row ≡ false → IfSome (alignment_for i row) IsAligned
answer_aligned i (r.Alignment j n other) h = for_index_has IsAligned i j n h
answer_aligned i row h = tt

aligned_section : (part : List SpelledRecord) → AllByRecursion (λ p. has_bad_alignment p.row ≡ false) part → (p : SpelledRecord) (row : Record)
    → any_of d.has_bad_alignment (section_by part p row) ≡ false
aligned_section part all p (r.SectionType i absolute letter name a b c) =
    first_has IsAligned (λ q. alignment_for i q.row) 1 refl part
    (map_all (λ q. has_bad_alignment q.row ≡ false) (λ q. IfSome (alignment_for i q.row) IsAligned) (λ q. answer_aligned i q.row) part all)
aligned_section part all p row = refl

always : (P : SpelledRecord → Type 0) → ((p : SpelledRecord) → P p) → (records : List SpelledRecord) → AllByRecursion P records
always P f [] = tt
always P f (p ∷ records) = (f p, always P f records)

pub sections_aligned : (part : List SpelledRecord) → AllByRecursion (λ p. has_bad_alignment p.row ≡ false) part
    → list_any d.has_bad_alignment (sections_of part) ≡ false
sections_aligned part all = none_passes d.has_bad_alignment (λ p. section_by part p p.row) part
    (always (λ p. any_of d.has_bad_alignment (section_by part p p.row) ≡ false) (λ p. aligned_section part all p p.row) part)

-- a section whose base is stated has one
base_next : (i : ℕ) (row : Record) (rest : List Once) (found : List ℕ)
    → (list_any (is_same_statement (section_base i)) rest ≡ true → is_none (slice_get found 0) ≡ false)
    → list_any (is_same_statement (section_base i)) (cons_option (assigned_by row) rest) ≡ true
    → is_none (slice_get (cons_option (base_for i row) found) 0) ≡ false
base_next i (r.SectionBase j n) rest found h e = by_test (i == j) e where
  by_test : (test : Bool) → (test || list_any (is_same_statement (section_base i)) rest) ≡ true
      → is_none (slice_get (cons_option (cond test (Some n) None) found) 0) ≡ false
  by_test true e = refl
  by_test false e = h e
base_next i row rest found h e = h e

base_found : (i : ℕ) (records : List SpelledRecord) → is_assigned records (section_base i) ≡ true → is_none (first_answer (base_for i) records) ≡ false
base_found i [] h = cc
base_found i (p ∷ records) h = base_next i p.row (filter_map (λ q. assigned_by q.row) records) (answers (base_for i) records) (base_found i records) h

based_section : (header part : List SpelledRecord) → IsSilent header → (p : SpelledRecord) (row : Record) → lacks_base (header ++ part) row ≡ false
    → any_of d.lacks_base (section_by part p row) ≡ false
based_section header part quiet p (r.SectionType i true letter name a b c) h =
    base_found i part ((λ k. sym (assigned_after header part quiet) k (section_base i)) ∙ not-false (is_assigned (header ++ part) (section_base i)) h)
based_section header part quiet p (r.SectionType i false letter name a b c) h = refl
based_section header part quiet p row h = refl

pub sections_based : (header part : List SpelledRecord) → IsSilent header → AllByRecursion (λ p. lacks_base (header ++ part) p.row ≡ false) part
    → list_any d.lacks_base (sections_of part) ≡ false
sections_based header part quiet h = none_passes d.lacks_base (λ p. section_by part p p.row) part
    (map_all (λ p. lacks_base (header ++ part) p.row ≡ false) (λ p. any_of d.lacks_base (section_by part p p.row)
    ≡ false) (λ p. based_section header part quiet p p.row) part h)

-- ---- publics and references

short_public : (ix : Indexes) (part : List SpelledRecord) (p : SpelledRecord) (row : Record) → IsShort row
    → any_of (λ (s : Public). d.is_long s.name) (public_by ix part p row) ≡ false
short_public ix part p (r.PublicName i name) h = text_short p name h
short_public ix part p row h = refl

pub publics_short : (ix : Indexes) (part : List SpelledRecord) → AllByRecursion (λ p. IsShort p.row) part
    → list_any (λ (s : Public). d.is_long s.name) (publics_of ix part) ≡ false
publics_short ix part h = none_passes (λ (s : Public). d.is_long s.name) (λ p. public_by ix part p p.row) part
    (map_all (λ p. IsShort p.row) (λ p. any_of (λ (s : Public). d.is_long s.name) (public_by ix part p p.row)
    ≡ false) (λ p. short_public ix part p p.row) part h)

short_reference : (part : List SpelledRecord) (p : SpelledRecord) (row : Record) → IsShort row
    → any_of (λ (s : Reference). d.is_long s.name) (reference_by part p row) ≡ false
short_reference part p (r.ReferenceName i name) h = text_short p name h
short_reference part p row h = refl

pub references_short : (part : List SpelledRecord) → AllByRecursion (λ p. IsShort p.row) part
    → list_any (λ (s : Reference). d.is_long s.name) (references_of part) ≡ false
references_short part h = none_passes (λ (s : Reference). d.is_long s.name) (λ p. reference_by part p p.row) part
    (map_all (λ p. IsShort p.row) (λ p. any_of (λ (s : Reference). d.is_long s.name) (reference_by part p p.row)
    ≡ false) (λ p. short_reference part p p.row) part h)

-- the value of a public, if the record gives one, is a good tree
abbrev pub HasGoodValue : Parts → Indexes → SpelledRecord → Type 0
HasGoodValue m ix p = (span : Span) → expression_of p.row ≡ Some span → is_public_value p.row ≡ true → IsGoodTree m ix None (tree_in p span)

allowed_none : (before : List SpelledRecord) (row : Record) → is_public_value row ≡ true → counter_allowed before row ≡ None
allowed_none before (r.PublicValue i value) h = refl
allowed_none before row h = cc

good_value : (m : Parts) (all more : List SpelledRecord) (ix : Indexes) → indexes_in (all ++ more) ≡ ix → AreCounts m (indexes_in (all ++ more))
    → (before : List SpelledRecord) (p : SpelledRecord) → has_unknown_variable all p ≡ false → misplaces_counter before p ≡ false → HasGoodValue m ix p
good_value m all more ix same are before p known counter span e is =
    let its : list_all (is_declared all) (named_in_expression p) ≡ true =
    not-false _ (subst (λ (b : Bool). (b && not (list_all (is_declared all) (named_in_expression p))) ≡ false) is known) in
    good_tree m (all ++ more) ix same are None (tree_in p span) (all_declared-append all more _ (known_named all p span e its))
    (subst (λ (o : Option ℕ). d.has_other_counter o (tree_in p span) ≡ false) (allowed_none before p.row is) (tree_counter before p span e counter))

pub good_values : (m : Parts) (all more : List SpelledRecord) (ix : Indexes) → indexes_in (all ++ more) ≡ ix → AreCounts m (indexes_in (all ++ more))
    → (part : Part) (before records : List SpelledRecord) → KeptFrom part before records → AllByRecursion (IsGiven all) records
    → AllByRecursion (HasGoodValue m ix) records
good_values m all more ix same are part before [] own given = tt
good_values m all more ix same are part before (p ∷ records) own given =
    (good_value m all more ix same are before p given.0.0 own.1.counter, good_values m all more ix same are part (before ++ p ∷ []) records own.2 given.1)

answer_value : (m : Parts) (ix : Indexes) (i : ℕ) (p : SpelledRecord) (row : Record)
    → ((span : Span) → expression_of row ≡ Some span → is_public_value row ≡ true → IsGoodTree m ix None (tree_in p span))
    → IfSome (value_for i p row) (IsGoodTree m ix None)
answer_value m ix i p (r.PublicValue j value) h = for_index_has (IsGoodTree m ix None) i j (tree_in p value) (h value refl refl)
answer_value m ix i p row h = tt

number_good : (m : Parts) (ix : Indexes) → IsGoodTree m ix None (number 0)
number_good m ix = record { inside = refl; counter = refl }

-- the value of each public is a good tree
pub value_good : (m : Parts) (ix : Indexes) (i : ℕ) (part : List SpelledRecord) → AllByRecursion (HasGoodValue m ix) part
    → IsGoodTree m ix None (unwrap_or (slice_get (filter_map (λ p. value_for i p p.row) part) 0) (number 0))
value_good m ix i part h = first_has (IsGoodTree m ix None) (λ p. value_for i p p.row) (number 0) (number_good m ix) part
    (map_all (HasGoodValue m ix) (λ p. IfSome (value_for i p p.row) (IsGoodTree m ix None)) (λ p. answer_value m ix i p p.row) part h)

inside_public : (m : Parts) (ix : Indexes) (part : List SpelledRecord) → AllByRecursion (HasGoodValue m ix) part → (p : SpelledRecord) (row : Record)
    → any_of (λ (s : Public). d.names_outside (d.counts_of m) s.value) (public_by ix part p row) ≡ false
inside_public m ix part h p (r.PublicName i name) = (value_good m ix i part h).inside
inside_public m ix part h p row = refl

pub publics_inside : (m : Parts) (ix : Indexes) (part : List SpelledRecord) → AllByRecursion (HasGoodValue m ix) part
    → list_any (λ (s : Public). d.names_outside (d.counts_of m) s.value) (publics_of ix part) ≡ false
publics_inside m ix part h = none_passes (λ (s : Public). d.names_outside (d.counts_of m) s.value) (λ p. public_by ix part p p.row) part
    (always (λ p. any_of (λ (s : Public). d.names_outside (d.counts_of m) s.value) (public_by ix part p p.row)
    ≡ false) (λ p. inside_public m ix part h p p.row) part)

counter_public : (m : Parts) (ix : Indexes) (part : List SpelledRecord) → AllByRecursion (HasGoodValue m ix) part → (p : SpelledRecord) (row : Record)
    → any_of (λ (s : Public). d.has_other_counter None s.value) (public_by ix part p row) ≡ false
counter_public m ix part h p (r.PublicName i name) = (value_good m ix i part h).counter
counter_public m ix part h p row = refl

pub publics_counter : (m : Parts) (ix : Indexes) (part : List SpelledRecord) → AllByRecursion (HasGoodValue m ix) part
    → list_any (λ (s : Public). d.has_other_counter None s.value) (publics_of ix part) ≡ false
publics_counter m ix part h = none_passes (λ (s : Public). d.has_other_counter None s.value) (λ p. public_by ix part p p.row) part
    (always (λ p. any_of (λ (s : Public). d.has_other_counter None s.value) (public_by ix part p p.row) ≡ false) (λ p. counter_public m ix part h p p.row) part)
