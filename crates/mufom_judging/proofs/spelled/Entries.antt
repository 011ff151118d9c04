-- Why the sections and publics of a valid module have no errors in its file.
use Rattle.std.proofs.Common.{◌≡◌, ℕ, Bool, true, false, cond, not, ◌==◌, ◌||◌, nat_lt, List, [], ◌∷◌, ◌++◌, map, slice_get, Option, Some, None}
use Rattle.std.proofs.Common.{is_none, option_map, unwrap_or, refl, sym, ap, subst, ◌∙◌, filter_map, eqb-true, eq-eqb}
use Rattle.std.specs.List.{list_all, list_any, cons_option, AllByRecursion}
use Rattle.std.proofs.lemmas.Bool.{and_parts, or_parts, or_from, and_from, not-false, not_from_true}
use Rattle.std.proofs.lemmas.List.Elements.{filter_map-append}
use Rattle.std.proofs.lemmas.List.Folds.{list_any-append}
use Rattle.mufom_numbers.specs.declared.limits.TheConstants.{MOST_ALIGNMENT}
use Rattle.mufom_numbers.specs.declared.taken.Span.{Span}
use Rattle.mufom_expr.specs.declared.token.Letter.{Letter}
use Rattle.mufom_expr.specs.declared.token.Letter.TheVariants.{I, L, P, R, S, X}
use Rattle.mufom_expr.specs.Tree.{Tree, number, variable}
use Rattle.mufom_expr.specs.Value.{variables_of}
use Rattle.mufom_expr.specs.Spelled.{Indexes, list_of}
use Rattle.mufom_records.specs.declared.record.Record.{Record}
use Rattle.mufom_records.specs.declared.record.Record.TheVariants as r
use Rattle.mufom_records.specs.Parts.{expression_of}
use Rattle.mufom_names.specs.declared.name.Public.{Public}
use Rattle.mufom_module.specs.Contents.{any_of}
use Rattle.mufom_module.specs.Defects as d
use Rattle.mufom_module.specs.SpelledRecords.{SpelledRecord, Kind, section, public, of_kind, declared_by, declared, is_declared, named_by}
use Rattle.mufom_module.specs.SpelledRecords.{tree_in, position_in, positioned_variable, positioned, are_listed, Once, alignment}
use Rattle.mufom_module.specs.SpelledRecords.{section_base, value_of_public, is_same_statement, assigned_by, is_assigned}
use Rattle.mufom_module.specs.RecordParts.{section_part, external_part, trailer_part, stands_in}
use Rattle.mufom_module.specs.Gathered.{answers, first_answer, alignment_for, base_for, section_by, sections_of, value_for, value_of, public_by}
use Rattle.mufom_module.specs.Gathered.{publics_of, start_by}
use Rattle.mufom_module.specs.Grammar.{Follows}
use Rattle.mufom_module.proofs.SpelledLaws.{IsIndexed-positioned}
use Rattle.mufom_judging.specs.Faults.{has_bad_alignment, lacks_base, counter_allowed, misplaces_counter}
use Rattle.mufom_judging.proofs.ended.Names.{IsSilent, any-cons_option, assigned-append, assigned_after}
use Rattle.mufom_judging.proofs.ended.Gathered.{not_asked, public_declared}
use Rattle.mufom_judging.proofs.ended.Trees.{renamed, placed_section, named_known}
use Rattle.mufom_judging.proofs.ended.Good.{map_all}

-- ---- what is gathered

-- no record's entry passes a test that none of the gathered passes
pub none_each : {X : Type 0} (test : X → Bool) (ask : SpelledRecord → Option X) (records : List SpelledRecord)
    → list_any test (filter_map ask records) ≡ false → AllByRecursion (λ p. any_of test (ask p) ≡ false) records
none_each test ask [] h = tt
none_each test ask (p ∷ records) h =
    let both = or_parts (any_of test (ask p)) (list_any test (filter_map ask records)) (sym (any-cons_option test (ask p) (filter_map ask records)) ∙ h) in
    (both.0, none_each test ask records both.1)

-- what holds of each index that a record declares holds of one that is declared
pub declared_has : (kind : Kind) (Q : ℕ → Type 0) (records : List SpelledRecord)
    → AllByRecursion (λ p. (j : ℕ) → of_kind kind (declared_by p.row) ≡ Some j → Q j) records → (i : ℕ)
    → list_any (λ j. j == i) (declared kind records) ≡ true → Q i
declared_has kind Q [] all i h = cc
declared_has kind Q (p ∷ records) all i h = next (of_kind kind (declared_by p.row)) (declared kind records) all.0 (declared_has kind Q records all.1 i) h where
  next : (o : Option ℕ) (rest : List ℕ) → ((j : ℕ) → o ≡ Some j → Q j) → (list_any (λ j. j == i) rest ≡ true → Q i)
      → list_any (λ j. j == i) (cons_option o rest) ≡ true → Q i
  next None rest one more h = more h
  next (Some j) rest one more h = by_test (j == i) refl h where
    by_test : (test : Bool) → (j == i) ≡ test → (test || list_any (λ k. k == i) rest) ≡ true → Q i
    by_test true e h = subst Q (eqb-true j i e) (one j refl)
    by_test false e h = more h

-- what is not stated yet is not found
pub no_answer : {X : Type 0} (once : Once) (ask : SpelledRecord → Option X)
    → ((p : SpelledRecord) → any_of (is_same_statement once) (assigned_by p.row) ≡ false → ask p ≡ None) → (records : List SpelledRecord)
    → is_assigned records once ≡ false → filter_map ask records ≡ []
no_answer once ask quiet [] h = refl
no_answer once ask quiet (p ∷ records) h =
    let both = or_parts (any_of (is_same_statement once) (assigned_by p.row)) (is_assigned records once)
    (sym (any-cons_option (is_same_statement once) (assigned_by p.row) (filter_map (λ q. assigned_by q.row) records)) ∙ h) in
    (λ i. cons_option (quiet p both.0 i) (no_answer once ask quiet records both.1 i))

-- the first value found is that of the first record that states it
pub first_stated : {X : Type 0} (ask : SpelledRecord → Option X) (before : List SpelledRecord) (p : SpelledRecord) (after : List SpelledRecord)
    (x : X) → filter_map ask before ≡ [] → ask p ≡ Some x → slice_get (filter_map ask (before ++ p ∷ after)) 0 ≡ Some x
first_stated ask before p after x none its = ap (λ l. slice_get l 0) (filter_map-append ask before (p ∷ after)
    ∙ (λ i. none i ++ cons_option (its i) (filter_map ask after)))

-- ---- trees

-- the variable is the same if its position is the same
pub same_index : (ix : Indexes) (i j : ℕ) → list_any (λ k. k == i) ix.sections ≡ true → list_any (λ k. k == j) ix.sections ≡ true
    → position_in ix.sections i ≡ position_in ix.sections j → i ≡ j
same_index ix i j here there same =
    let one = (IsIndexed-positioned ix (variable P i) (and_from (list_any (λ k. k == i) ix.sections) true here refl)).1 in
    let other = (IsIndexed-positioned ix (variable P j) (and_from (list_any (λ k. k == j) ix.sections) true there refl)).1 in
    let e : Some i ≡ Some j = sym one ∙ ap (slice_get ix.sections) same ∙ other in cc

-- the current section, or the one that is set, is in the list
abbrev pub IsListed : Indexes → Option ℕ → Type 0
IsListed ix None = Unit {0}
IsListed ix (Some s) = list_any (λ k. k == s) ix.sections ≡ true

counter_of_P : (ix : Indexes) (allowed : Option ℕ) (i : ℕ) → IsListed ix allowed → list_any (λ k. k == i) ix.sections ≡ true
    → not (d.is_this (placed_section ix allowed) (position_in ix.sections i)) ≡ false → not (d.is_this allowed i) ≡ false
counter_of_P ix None i listed its h = h
counter_of_P ix (Some s) i listed its h =
    let offset = eqb-true (position_in ix.sections s) (position_in ix.sections i) (not-false (position_in ix.sections s == position_in ix.sections i) h) in
    not_from_true (s == i) (eq-eqb s i (same_index ix s i listed its offset))

counter_back : (ix : Indexes) (allowed : Option ℕ) (letter : Letter) (i : ℕ) → IsListed ix allowed → list_any (λ k. k == i) (list_of ix letter) ≡ true
    → d.is_other_counter (placed_section ix allowed) (positioned_variable ix letter i) ≡ false → d.is_other_counter allowed (letter, i) ≡ false
counter_back ix allowed I i listed its h = refl
counter_back ix allowed L i listed its h = refl
counter_back ix allowed P i listed its h = counter_of_P ix allowed i listed its h
counter_back ix allowed R i listed its h = refl
counter_back ix allowed S i listed its h = refl
counter_back ix allowed X i listed its h = refl

counters_back : (ix : Indexes) (allowed : Option ℕ) (variables : List (Letter × ℕ)) → IsListed ix allowed
    → list_all (λ v. list_any (λ k. k == v.1) (list_of ix v.0)) variables ≡ true
    → list_any (d.is_other_counter (placed_section ix allowed)) (map (λ v. positioned_variable ix v.0 v.1) variables) ≡ false
    → list_any (d.is_other_counter allowed) variables ≡ false
counters_back ix allowed [] listed its h = refl
counters_back ix allowed (v ∷ variables) listed its h =
    let known = and_parts (list_any (λ k. k == v.1) (list_of ix v.0)) _ its in
    let both = or_parts (d.is_other_counter (placed_section ix allowed) (positioned_variable ix v.0 v.1)) _ h in
    or_from _ _ (counter_back ix allowed v.0 v.1 listed known.0 both.0) (counters_back ix allowed variables listed known.1 both.1)

-- a tree whose positions have no other counter has none
pub tree_back : (ix : Indexes) (allowed : Option ℕ) (tree : Tree) → IsListed ix allowed → are_listed ix tree ≡ true
    → d.has_other_counter (placed_section ix allowed) (positioned ix tree) ≡ false → d.has_other_counter allowed tree ≡ false
tree_back ix allowed tree listed its h =
    counters_back ix allowed (variables_of tree) listed its (ap (list_any (d.is_other_counter (placed_section ix allowed)))
    (sym (renamed (positioned_variable ix) tree)) ∙ h)

none_back : (ix : Indexes) (letter : Letter) (i : ℕ) → d.is_other_counter None (positioned_variable ix letter i) ≡ d.is_other_counter None (letter, i)
none_back ix I i = refl
none_back ix L i = refl
none_back ix P i = refl
none_back ix R i = refl
none_back ix S i = refl
none_back ix X i = refl

nones_back : (ix : Indexes) (variables : List (Letter × ℕ)) → list_any (d.is_other_counter None) (map (λ v. positioned_variable ix v.0 v.1) variables)
    ≡ list_any (d.is_other_counter None) variables
nones_back ix [] = refl
nones_back ix (v ∷ variables) = (λ i. none_back ix v.0 v.1 i || nones_back ix variables i)

pub none_tree_back : (ix : Indexes) (tree : Tree) → d.has_other_counter None (positioned ix tree) ≡ false → d.has_other_counter None tree ≡ false
none_tree_back ix tree h = sym (ap (list_any (d.is_other_counter None)) (renamed (positioned_variable ix) tree) ∙ nones_back ix (variables_of tree)) ∙ h

-- ---- alignments and bases

-- neither 0 nor above 2^31
abbrev is_bad : ℕ → Bool
is_bad n = (n == 0) || nat_lt MOST_ALIGNMENT n

entry_aligned : (part : List SpelledRecord) (p : SpelledRecord) (row : Record) → any_of d.has_bad_alignment (section_by part p row) ≡ false → (j : ℕ)
    → of_kind section (declared_by row) ≡ Some j → is_bad (unwrap_or (first_answer (alignment_for j) part) 1) ≡ false
entry_aligned part p (r.SectionType i absolute letter name a b c) h j e = let same : i ≡ j = cc in
    subst (λ (k : ℕ). is_bad (unwrap_or (first_answer (alignment_for k) part) 1) ≡ false) same h
entry_aligned part p row h j e = absurd cc

alignment_quiet : (i : ℕ) (row : Record) → any_of (is_same_statement (alignment i)) (assigned_by row) ≡ false → alignment_for i row ≡ None
alignment_quiet i (r.Alignment j n other) h = ap (λ b. cond b (Some n) None) h
alignment_quiet i row h = refl

-- the alignment that a record states is that of its section
stated_alignment : (sections before after : List SpelledRecord) (p : SpelledRecord) (i n : ℕ) (other : Option ℕ) → sections ≡ before ++ p ∷ after
    → list_any d.has_bad_alignment (sections_of sections) ≡ false
    → p.row ≡ r.Alignment i n other → is_declared before (section, i) ≡ true → is_assigned before (alignment i) ≡ false → is_bad n ≡ false
stated_alignment sections before after p i n other split good row known once =
    let none = no_answer (alignment i) (λ q. alignment_for i q.row) (λ q h. alignment_quiet i q.row h) before once in
    let its : alignment_for i p.row ≡ Some n = ap (alignment_for i) row ∙ ap (λ b. cond b (Some n) None) (eq-eqb i i refl) in
    let first : first_answer (alignment_for i) sections ≡ Some n = ap (first_answer (alignment_for i)) split
    ∙ first_stated (λ q. alignment_for i q.row) before p after n none its in
    let here : list_any (λ k. k == i) (declared section sections) ≡ true =
    ap (λ l. list_any (λ k. k == i) (declared section l)) split
    ∙ ap (list_any (λ k. k == i)) (filter_map-append (λ q. of_kind section (declared_by q.row)) before (p ∷ after))
    ∙ list_any-append (λ k. k == i) (declared section before) (declared section (p ∷ after))
    ∙ ap (λ b. b || list_any (λ k. k == i) (declared section (p ∷ after))) known in
    let all = map_all (λ q. any_of d.has_bad_alignment (section_by sections q q.row) ≡ false) (λ q. (j : ℕ) → of_kind section (declared_by q.row)
    ≡ Some j → is_bad (unwrap_or (first_answer (alignment_for j) sections) 1) ≡ false)
    (λ q h. entry_aligned sections q q.row h) sections (none_each d.has_bad_alignment (λ q. section_by sections q q.row) sections good) in
    ap (λ o. is_bad (unwrap_or o 1)) (sym first) ∙ declared_has section (λ j. is_bad (unwrap_or (first_answer (alignment_for j) sections) 1)
    ≡ false) sections all i here

aligned_row : (sections before after : List SpelledRecord) (p : SpelledRecord) (row : Record) → p.row ≡ row → sections ≡ before ++ p ∷ after
    → list_any d.has_bad_alignment (sections_of sections) ≡ false → Follows before p → has_bad_alignment row ≡ false
aligned_row sections before after p (r.Alignment i n other) is split good follows =
    stated_alignment sections before after p i n other split good is (named_known before p (section, i) (ap named_by is) follows.known)
    (ap (λ o. any_of (is_assigned before) o) (sym (ap assigned_by is)) ∙ follows.once)
aligned_row sections before after p row is split good follows = refl

pub aligned : (sections before after : List SpelledRecord) (p : SpelledRecord) → sections ≡ before ++ p ∷ after
    → list_any d.has_bad_alignment (sections_of sections) ≡ false → Follows before p → has_bad_alignment p.row ≡ false
aligned sections before after p split good follows = aligned_row sections before after p p.row refl split good follows

-- a base that is found was stated
base_stated_next : (i : ℕ) (row : Record) (rest : List Once) (found : List ℕ)
    → (is_none (slice_get found 0) ≡ false → list_any (is_same_statement (section_base i)) rest ≡ true)
    → is_none (slice_get (cons_option (base_for i row) found) 0) ≡ false
    → list_any (is_same_statement (section_base i)) (cons_option (assigned_by row) rest) ≡ true
base_stated_next i (r.SectionBase j n) rest found more h = by_test (i == j) h where
  by_test : (test : Bool) → is_none (slice_get (cons_option (cond test (Some n) None) found) 0) ≡ false
      → (test || list_any (is_same_statement (section_base i)) rest) ≡ true
  by_test true h = refl
  by_test false h = more h
base_stated_next i (r.PublicValue j value) rest found more h = more h
base_stated_next i (r.WeakReference j n default) rest found more h = more h
base_stated_next i (r.Alignment j n other) rest found more h = more h
base_stated_next i (r.SectionSize j n) rest found more h = more h
base_stated_next i (r.Start value) rest found more h = more h
base_stated_next i row rest found more h = more h

base_stated : (i : ℕ) (records : List SpelledRecord) → is_none (first_answer (base_for i) records) ≡ false → is_assigned records (section_base i) ≡ true
base_stated i [] h = cc
base_stated i (p ∷ records) h = base_stated_next i p.row (filter_map (λ q. assigned_by q.row) records) (answers (base_for i) records) (base_stated i records) h

based_row : (header part : List SpelledRecord) → IsSilent header → (p : SpelledRecord) (row : Record) → any_of d.lacks_base (section_by part p row)
    ≡ false → lacks_base (header ++ part) row ≡ false
based_row header part quiet p (r.SectionType i true letter name a b c) h =
    not_from_true (is_assigned (header ++ part) (section_base i)) ((λ k. assigned_after header part quiet k (section_base i)) ∙ base_stated i part h)
based_row header part quiet p (r.SectionType i false letter name a b c) h = refl
based_row header part quiet p row h = refl

pub all_have_bases : (header part : List SpelledRecord) → IsSilent header → list_any d.lacks_base (sections_of part) ≡ false
    → AllByRecursion (λ p. lacks_base (header ++ part) p.row ≡ false) part
all_have_bases header part quiet good =
    map_all (λ p. any_of d.lacks_base (section_by part p p.row) ≡ false) (λ p. lacks_base (header ++ part) p.row
    ≡ false) (λ p h. based_row header part quiet p p.row h) part
    (none_each d.lacks_base (λ p. section_by part p p.row) part good)

-- ---- the value of a public

entry_counted : (ix : Indexes) (part : List SpelledRecord) (p : SpelledRecord) (row : Record)
    → any_of (λ (s : Public). d.has_other_counter None s.value) (public_by ix part p row) ≡ false → (j : ℕ) → of_kind public (declared_by row) ≡ Some j
    → d.has_other_counter None (value_of ix j part) ≡ false
entry_counted ix part p (r.PublicName i name) h j e = let same : i ≡ j = cc in subst (λ (k : ℕ). d.has_other_counter None (value_of ix k part) ≡ false) same h
entry_counted ix part p row h j e = absurd cc

value_quiet : (i : ℕ) (p : SpelledRecord) (row : Record) → any_of (is_same_statement (value_of_public i)) (assigned_by row) ≡ false → value_for i p row ≡ None
value_quiet i p (r.PublicValue j value) h = ap (λ b. cond b (Some (tree_in p value)) None) h
value_quiet i p row h = refl

stated_value : (ix : Indexes) (externals before after : List SpelledRecord) (p : SpelledRecord) (i : ℕ) (value : Span) → externals ≡ before
    ++ p ∷ after → list_any (λ (s : Public). d.has_other_counter None s.value) (publics_of ix externals) ≡ false
    → p.row ≡ r.PublicValue i value → is_declared before (public, i) ≡ true → is_assigned before (value_of_public i) ≡ false
    → d.has_other_counter None (tree_in p value) ≡ false
stated_value ix externals before after p i value split good row known once =
    let none = no_answer (value_of_public i) (λ q. value_for i q q.row) (λ q h. value_quiet i q q.row h) before once in
    let its : value_for i p p.row ≡ Some (tree_in p value) = ap (value_for i p) row ∙ ap (λ b. cond b (Some (tree_in p value)) None) (eq-eqb i i refl) in
    let first : slice_get (filter_map (λ q. value_for i q q.row) externals) 0 ≡ Some (tree_in p value) =
    ap (λ l. slice_get (filter_map (λ q. value_for i q q.row) l) 0) split ∙ first_stated (λ q. value_for i q q.row) before p after (tree_in p value) none its in
    let here : list_any (λ k. k == i) (declared public externals) ≡ true =
    ap (λ l. list_any (λ k. k == i) (declared public l)) split
    ∙ ap (list_any (λ k. k == i)) (filter_map-append (λ q. of_kind public (declared_by q.row)) before (p ∷ after))
    ∙ list_any-append (λ k. k == i) (declared public before) (declared public (p ∷ after))
    ∙ ap (λ b. b || list_any (λ k. k == i) (declared public (p ∷ after))) known in
    let all = map_all (λ q. any_of (λ (s : Public). d.has_other_counter None s.value) (public_by ix externals q q.row) ≡ false) (λ q. (j : ℕ)
    → of_kind public (declared_by q.row) ≡ Some j → d.has_other_counter None (value_of ix j externals) ≡ false)
    (λ q h. entry_counted ix externals q q.row h) externals (none_each (λ (s : Public). d.has_other_counter None s.value)
    (λ q. public_by ix externals q q.row) externals good) in
    none_tree_back ix (tree_in p value) (ap (λ o. d.has_other_counter None (positioned ix (unwrap_or o (number 0)))) (sym first)
    ∙ declared_has public (λ j. d.has_other_counter None (value_of ix j externals) ≡ false) externals all i here)

-- publics are declared in the external part alone
public_there : (sections before : List SpelledRecord) (i : ℕ) → list_all (λ p. stands_in section_part p.row) sections ≡ true
    → is_declared (sections ++ before) (public, i) ≡ true → is_declared before (public, i) ≡ true
public_there sections before i own h =
    let none = not_asked external_part section_part (λ p. of_kind public (declared_by p.row)) (λ p x. public_declared p.row x) refl sections own in
    sym (ap (list_any (λ k. k == i)) (filter_map-append (λ q. of_kind public (declared_by q.row)) sections before
    ∙ ap (λ l. l ++ declared public before) none)) ∙ h

counter_row : (ix : Indexes) (sections externals before after : List SpelledRecord) (p : SpelledRecord) (row : Record) → p.row ≡ row
    → stands_in external_part row ≡ true → list_all (λ q. stands_in section_part q.row) sections ≡ true → externals ≡ before ++ p ∷ after
    → list_any (λ (s : Public). d.has_other_counter None s.value) (publics_of ix externals) ≡ false → Follows (sections ++ before) p
    → any_of (d.has_other_counter (counter_allowed (sections ++ before) row)) (option_map (tree_in p) (expression_of row)) ≡ false
counter_row ix sections externals before after p (r.PublicValue i value) is own others split good follows =
    stated_value ix externals before after p i value split good is
    (public_there sections before i others (named_known (sections ++ before) p (public, i) (ap named_by is) follows.known))
    (or_parts (is_assigned sections (value_of_public i)) (is_assigned before (value_of_public i))
    (sym (assigned-append sections before (value_of_public i)) ∙ ap (λ o. any_of (is_assigned (sections ++ before)) o) (sym (ap assigned_by is))
    ∙ follows.once)).1
counter_row ix sections externals before after p (r.PublicName i name) is own others split good follows = refl
counter_row ix sections externals before after p (r.PublicNote i a b ns) is own others split good follows = refl
counter_row ix sections externals before after p (r.ReferenceName i name) is own others split good follows = refl
counter_row ix sections externals before after p (r.WeakReference i n default) is own others split good follows = refl
counter_row ix sections externals before after p (r.ReferenceNote i a b ns) is own others split good follows = refl
counter_row ix sections externals before after p row is own others split good follows = cc

pub public_counter : (ix : Indexes) (sections externals before after : List SpelledRecord) (p : SpelledRecord) → stands_in external_part p.row ≡ true
    → list_all (λ q. stands_in section_part q.row) sections ≡ true → externals ≡ before ++ p ∷ after
    → list_any (λ (s : Public). d.has_other_counter None s.value) (publics_of ix externals) ≡ false → Follows (sections ++ before) p
    → misplaces_counter (sections ++ before) p ≡ false
public_counter ix sections externals before after p own others split good follows =
    counter_row ix sections externals before after p p.row refl own others split good follows

-- records of the section part have no expression
no_tree : (before : List SpelledRecord) (p : SpelledRecord) (row : Record) → stands_in section_part row ≡ true
    → any_of (d.has_other_counter (counter_allowed before row)) (option_map (tree_in p) (expression_of row)) ≡ false
no_tree before p (r.SectionType i a b c x y z) own = refl
no_tree before p (r.Alignment i n other) own = refl
no_tree before p (r.SectionSize i n) own = refl
no_tree before p (r.SectionBase i n) own = refl
no_tree before p row own = cc

pub section_counter : (before : List SpelledRecord) (p : SpelledRecord) → stands_in section_part p.row ≡ true → misplaces_counter before p ≡ false
section_counter before p own = no_tree before p p.row own

-- ---- the start

start_row : (ix : Indexes) (before : List SpelledRecord) (p : SpelledRecord) (row : Record) → stands_in trailer_part row ≡ true
    → any_of (d.has_other_counter None) (start_by ix p row) ≡ false
    → any_of (d.has_other_counter (counter_allowed before row)) (option_map (tree_in p) (expression_of row)) ≡ false
start_row ix before p (r.Start value) own h = none_tree_back ix (tree_in p value) h
start_row ix before p row own h = cc

pub start_counter : (ix : Indexes) (before : List SpelledRecord) (p : SpelledRecord) → stands_in trailer_part p.row ≡ true
    → any_of (d.has_other_counter None) (start_by ix p p.row) ≡ false → misplaces_counter before p ≡ false
start_counter ix before p own h = start_row ix before p p.row own h
