-- The records of a valid module's file keep to the rules of their parts, and so do the parts as wholes.
use Rattle.std.proofs.Common.{◌≡◌, ℕ, Bool, true, false, cond, not, ◌==◌, ◌&&◌, List, [], ◌∷◌, ◌++◌, Option, Some, None, is_none, option_map, refl}
use Rattle.std.proofs.Common.{sym, ap, subst, ◌∙◌, append_assoc, append-nil}
use Rattle.std.specs.List.{list_all, list_any, last_or, cons_option, AllByRecursion}
use Rattle.std.specs.Option.{option_or}
use Rattle.std.proofs.lemmas.Bool.{and_parts, or_right, both_ways, not_from_true}
use Rattle.mufom_numbers.specs.declared.reason.Reason.TheVariants as why
use Rattle.mufom_numbers.specs.declared.taken.Span.{Span}
use Rattle.mufom_expr.specs.Tree.{Tree}
use Rattle.mufom_expr.specs.Spelled.{Indexes}
use Rattle.mufom_records.specs.declared.record.BlockTail.{BlockTail}
use Rattle.mufom_records.specs.declared.record.BlockTail.TheVariants as tail
use Rattle.mufom_records.specs.declared.record.Record.{Record}
use Rattle.mufom_records.specs.declared.record.Record.TheVariants as r
use Rattle.mufom_records.specs.Parts.{offset_of_block, expression_of}
use Rattle.mufom_names.specs.declared.name.Public.{Public}
use Rattle.mufom_debug.specs.declared.item.BlockHead.TheVariants as heads
use Rattle.mufom_debug.specs.Marks.{offset_of}
use Rattle.mufom_module.specs.Contents.{any_of, any_expression}
use Rattle.mufom_module.specs.Defects as d
use Rattle.mufom_module.specs.SpelledRecords.{SpelledRecord, public, declared_by, declared, is_declared, named_at_once, named_in_expression}
use Rattle.mufom_module.specs.SpelledRecords.{is_public_value, tree_in, tree_of_record, positioned, value_of_public}
use Rattle.mufom_module.specs.SpelledRecords.{assigned_by, is_assigned}
use Rattle.mufom_module.specs.RecordParts.{Part, section_part, external_part, debug_part, trailer_part, number_of, part_of, stands_in, is_loading}
use Rattle.mufom_module.specs.Gathered.{sections_of, publics_of, head_by, mark_by, marks, start_by, starts_of}
use Rattle.mufom_module.specs.Grammar.{Follows, FollowFrom}
use Rattle.mufom_judging.specs.Prefixes.{Step, raw, read, records_of, OffsetRecord, offset_records_of}
use Rattle.mufom_judging.specs.Faults.{Fault, fault_if, has_bad_alignment, set_by, counter_allowed, misplaces_counter, public_declared, lacks_value}
use Rattle.mufom_judging.specs.Faults.{external_fault, lacks_base, section_fault, first_fault, OpenBlock, open_blocks, open_fault, whole_fault}
use Rattle.mufom_judging.proofs.BlockKinds.{kinds_from, open_kinds, ends_badly_in, is_too_deep_in, kinds_of, kinds-open, kinds-append, kinds-next}
use Rattle.mufom_judging.proofs.BlockKinds.{kinds-silent, NestFrom}
use Rattle.mufom_judging.proofs.ended.Parts.{IsKept, KeptFrom}
use Rattle.mufom_judging.proofs.ended.Sliced.{IsGiven}
use Rattle.mufom_judging.proofs.ended.Names.{IsSilent, after_silent, declared_after, assigned_after, set_after, declares_public, assigned-append}
use Rattle.mufom_judging.proofs.spelled.Entries.{aligned, all_have_bases, public_counter, section_counter, start_counter, none_each, none_tree_back}
use Rattle.mufom_judging.proofs.spelled.Loads.{CounterFrom}

-- ---- records in order

pub follow-parts : (before a b : List SpelledRecord) → FollowFrom before (a ++ b) → FollowFrom before a × FollowFrom (before ++ a) b
follow-parts before [] b h = (tt, subst (λ (l : List SpelledRecord). FollowFrom l b) (sym (append-nil before)) h)
follow-parts before (p ∷ a) b h =
    let rest = follow-parts (before ++ p ∷ []) a b h.1 in
    ((h.0, rest.0), subst (λ (l : List SpelledRecord). FollowFrom l b) (append_assoc before (p ∷ []) a) rest.1)

sets_none : (row : Record) → is_none (part_of row) ≡ true → set_by row ≡ None
sets_none (r.ModuleBegin a b) h = refl
sets_none (r.Descriptor a b c) h = refl
sets_none (r.Offset a b) h = refl
sets_none row h = cc

same_allowed : (header before : List SpelledRecord) (row : Record) → IsSilent header → counter_allowed (header ++ before) row ≡ counter_allowed before row
same_allowed header before (r.FieldItem kind value n) quiet = ap (last_or None) (after_silent set_by sets_none header before quiet)
same_allowed header before (r.SetPc i value) quiet = refl
same_allowed header before row quiet = refl

same_kinds : (header before : List SpelledRecord) → IsSilent header → open_kinds (header ++ before) ≡ open_kinds before
same_kinds header before quiet = kinds-append [] header before ∙ ap (λ (k : List ℕ). kinds_from k before) (kinds-silent [] header quiet)

kept_one : (header before : List SpelledRecord) (p : SpelledRecord) → IsSilent header → Follows before p → has_bad_alignment p.row ≡ false
    → misplaces_counter before p ≡ false → ends_badly_in (open_kinds before) p.row ≡ false
    → is_too_deep_in (open_kinds before) p.row ≡ false → IsKept (header ++ before) p
kept_one header before p quiet h fits counter nested shallow = record {
  new = ap (λ test. any_of test (declared_by p.row)) (declared_after header before quiet) ∙ h.new;
  known = ap (λ test. not (list_all test (named_at_once p))) (declared_after header before quiet) ∙ h.known;
  once = ap (λ test. any_of test (assigned_by p.row)) (assigned_after header before quiet) ∙ h.once;
  aligned = fits;
  placed = ap (λ b. is_loading p.row && not b) (set_after header before quiet) ∙ h.placed;
  counter = ap (λ o. any_of (d.has_other_counter o) (tree_of_record p)) (same_allowed header before p.row quiet) ∙ counter;
  nested = ap (λ (k : List ℕ). ends_badly_in k p.row) (same_kinds header before quiet) ∙ nested;
  shallow = ap (λ (k : List ℕ). is_too_deep_in k p.row) (same_kinds header before quiet) ∙ shallow;
}

-- the records of a part keep to the rules
pub keep_part : (part : Part) (header before records : List SpelledRecord) → IsSilent header → list_all (λ p. stands_in part p.row) records ≡ true
    → FollowFrom before records → AllByRecursion (λ p. has_bad_alignment p.row ≡ false) records → CounterFrom before records
    → NestFrom (open_kinds before) records → KeptFrom part (header ++ before) records
keep_part part header before [] quiet own follow fit counters nest = tt
keep_part part header before (p ∷ records) quiet own follow fit counters nest =
    let both = and_parts (stands_in part p.row) _ own in (
      both.0,
      kept_one header before p quiet follow.0 fit.0 counters.0 nest.0 nest.1,
      subst (λ (l : List SpelledRecord). KeptFrom part l records) (sym (append_assoc header before (p ∷ [])))
          (keep_part part header (before ++ p ∷ []) records quiet both.1 follow.1 fit.1 counters.1
          (subst (λ (k : List ℕ). NestFrom k records) (sym (kinds-next before p)) nest.2)),
    )

-- ---- alignments

pub all_aligned : (sections before records : List SpelledRecord) → sections ≡ before ++ records → list_any d.has_bad_alignment (sections_of sections)
    ≡ false → FollowFrom before records → AllByRecursion (λ p. has_bad_alignment p.row ≡ false) records
all_aligned sections before [] split good follow = tt
all_aligned sections before (p ∷ records) split good follow = (
  aligned sections before records p split good follow.0,
  all_aligned sections (before ++ p ∷ []) records (split
      ∙ sym (append_assoc before (p ∷ []) records)) good follow.1,
)

no_alignment : (part : Part) (row : Record) → (number_of part == 2) ≡ false → stands_in part row ≡ true → has_bad_alignment row ≡ false
no_alignment part (r.Alignment i n other) differ own = absurd (both_ways (number_of part == 2) differ own)
no_alignment part row differ own = refl

pub none_aligned : (part : Part) (records : List SpelledRecord) → (number_of part == 2) ≡ false → list_all (λ p. stands_in part p.row) records ≡ true
    → AllByRecursion (λ p. has_bad_alignment p.row ≡ false) records
none_aligned part [] differ own = tt
none_aligned part (p ∷ records) differ own = let both = and_parts (stands_in part p.row) _ own in
    (no_alignment part p.row differ both.0, none_aligned part records differ both.1)

-- ---- program counters

pub section_counters : (before records : List SpelledRecord) → list_all (λ p. stands_in section_part p.row) records ≡ true → CounterFrom before records
section_counters before [] own = tt
section_counters before (p ∷ records) own = let both = and_parts (stands_in section_part p.row) _ own in
    (section_counter before p both.0, section_counters (before ++ p ∷ []) records both.1)

pub public_counters : (ix : Indexes) (sections externals before records : List SpelledRecord) → externals ≡ before ++ records
    → list_all (λ p. stands_in section_part p.row) sections ≡ true → list_all (λ p. stands_in external_part p.row) records ≡ true
    → list_any (λ (s : Public). d.has_other_counter None s.value) (publics_of ix externals) ≡ false → FollowFrom (sections ++ before) records
    → CounterFrom (sections ++ before) records
public_counters ix sections externals before [] split others own good follow = tt
public_counters ix sections externals before (p ∷ records) split others own good follow =
    let both = and_parts (stands_in external_part p.row) _ own in
    let same = append_assoc sections before (p ∷ []) in (
      public_counter ix sections externals before records p both.0 others split good follow.0,
      subst (λ (l : List SpelledRecord). CounterFrom l records) (sym same)
          (public_counters ix sections externals (before ++ p ∷ []) records (split
          ∙ sym (append_assoc before (p ∷ []) records)) others both.1 good (subst (λ (l : List SpelledRecord). FollowFrom l records) same follow.1)),
    )

start_counters_by : (ix : Indexes) (before records : List SpelledRecord) → list_all (λ p. stands_in trailer_part p.row) records ≡ true
    → AllByRecursion (λ p. any_of (d.has_other_counter None) (start_by ix p p.row) ≡ false) records → CounterFrom before records
start_counters_by ix before [] own all = tt
start_counters_by ix before (p ∷ records) own all = let both = and_parts (stands_in trailer_part p.row) _ own in
    (start_counter ix before p both.0 all.0, start_counters_by ix (before ++ p ∷ []) records both.1 all.1)

pub start_counters : (ix : Indexes) (before records : List SpelledRecord) → list_all (λ p. stands_in trailer_part p.row) records ≡ true
    → list_any (d.has_other_counter None) (starts_of ix records) ≡ false → CounterFrom before records
start_counters ix before records own good = start_counters_by ix before records own
    (none_each (d.has_other_counter None) (λ p. start_by ix p p.row) records good)

scope_counter : (test : Bool) (stack type_index : ℕ) (value : Tree)
    → any_of (d.has_other_counter None) (offset_of (cond test (heads.Global stack type_index value) (heads.Local stack type_index value))) ≡ false
    → d.has_other_counter None value ≡ false
scope_counter true stack type_index value h = h
scope_counter false stack type_index value h = h

block_counter : (ix : Indexes) (p : SpelledRecord) (kind : ℕ) (block : BlockTail)
    → any_of (d.has_other_counter None) (offset_of (head_by ix p kind block)) ≡ false
    → any_of (d.has_other_counter None) (option_map (tree_in p) (offset_of_block block)) ≡ false
block_counter ix p kind tail.Module h = refl
block_counter ix p kind (tail.Scope stack type_index offset) h =
    none_tree_back ix (tree_in p offset) (scope_counter (kind == 4) stack type_index (positioned ix (tree_in p offset)) h)
block_counter ix p kind (tail.Source ns) h = refl
block_counter ix p kind (tail.Section section_type section offset) h = none_tree_back ix (tree_in p offset) h

end_counter : (ix : Indexes) (p : SpelledRecord) (value : Option Span)
    → any_of (d.has_other_counter None) (option_map (λ span. positioned ix (tree_in p span)) value) ≡ false
    → any_of (d.has_other_counter None) (option_map (tree_in p) value) ≡ false
end_counter ix p None h = refl
end_counter ix p (Some span) h = none_tree_back ix (tree_in p span) h

debug_row : (ix : Indexes) (before : List SpelledRecord) (p : SpelledRecord) (row : Record) → stands_in debug_part row ≡ true
    → any_of (any_expression (d.has_other_counter None)) (mark_by ix p row) ≡ false
    → any_of (d.has_other_counter (counter_allowed before row)) (option_map (tree_in p) (expression_of row)) ≡ false
debug_row ix before p (r.BlockBegin kind n name block) own h = block_counter ix p kind block h
debug_row ix before p (r.BlockEnd value) own h = end_counter ix p value h
debug_row ix before p (r.DebugName i name) own h = refl
debug_row ix before p (r.DebugValue i value) own h = none_tree_back ix (tree_in p value) h
debug_row ix before p (r.DebugNote i type_index attribute ns) own h = refl
debug_row ix before p row own h = cc

debug_counters_by : (ix : Indexes) (before records : List SpelledRecord) → list_all (λ p. stands_in debug_part p.row) records ≡ true
    → AllByRecursion (λ p. any_of (any_expression (d.has_other_counter None)) (mark_by ix p p.row) ≡ false) records → CounterFrom before records
debug_counters_by ix before [] own all = tt
debug_counters_by ix before (p ∷ records) own all = let both = and_parts (stands_in debug_part p.row) _ own in
    (debug_row ix before p p.row both.0 all.0, debug_counters_by ix (before ++ p ∷ []) records both.1 all.1)

pub debug_counters : (ix : Indexes) (before records : List SpelledRecord) → list_all (λ p. stands_in debug_part p.row) records ≡ true
    → list_any (any_expression (d.has_other_counter None)) (marks ix records) ≡ false → CounterFrom before records
debug_counters ix before records own good = debug_counters_by ix before records own
    (none_each (any_expression (d.has_other_counter None)) (λ p. mark_by ix p p.row) records good)

-- ---- parts as wholes

first_all : (fault : OffsetRecord → Option Fault) (Q : SpelledRecord → Type 0) → ((q : OffsetRecord) → Q q.1 → fault q ≡ None) → (prefix : List Step)
    → AllByRecursion Q (records_of prefix) → first_fault fault (offset_records_of prefix) ≡ None
first_all fault Q states [] all = refl
first_all fault Q states (raw b ∷ prefix) all = first_all fault Q states prefix all
first_all fault Q states (read start p ∷ prefix) all = (λ i. option_or (states (start, p) all.0 i) (first_all fault Q states prefix all.1 i))

all-append : (Q : SpelledRecord → Type 0) (a b : List SpelledRecord) → AllByRecursion Q a → AllByRecursion Q b → AllByRecursion Q (a ++ b)
all-append Q [] b x y = y
all-append Q (p ∷ a) b x y = (x.0, all-append Q a b x.1 y)

all_silent : (Q : SpelledRecord → Type 0) → ((p : SpelledRecord) → is_none (part_of p.row) ≡ true → Q p) → (header : List SpelledRecord)
    → IsSilent header → AllByRecursion Q header
all_silent Q states [] quiet = tt
all_silent Q states (p ∷ header) quiet = let both = and_parts (is_none (part_of p.row)) _ quiet in (states p both.0, all_silent Q states header both.1)

all_own : (part : Part) (Q : SpelledRecord → Type 0) → ((p : SpelledRecord) → stands_in part p.row ≡ true → Q p) → (records : List SpelledRecord)
    → list_all (λ p. stands_in part p.row) records ≡ true → AllByRecursion Q records
all_own part Q states [] own = tt
all_own part Q states (p ∷ records) own = let both = and_parts (stands_in part p.row) _ own in (states p both.0, all_own part Q states records both.1)

-- sections

silent_base : (all : List SpelledRecord) (row : Record) → is_none (part_of row) ≡ true → lacks_base all row ≡ false
silent_base all (r.ModuleBegin a b) h = refl
silent_base all (r.Descriptor a b c) h = refl
silent_base all (r.Offset a b) h = refl
silent_base all row h = cc

pub section_whole : (prefix : List Step) (header sections : List SpelledRecord) → records_of prefix ≡ header ++ sections → IsSilent header
    → list_any d.lacks_base (sections_of sections) ≡ false → whole_fault section_part prefix ≡ None
section_whole prefix header sections are quiet good =
    let all = records_of prefix in
    let both = all-append (λ p. lacks_base (header ++ sections) p.row
    ≡ false) header sections (all_silent (λ p. lacks_base (header ++ sections) p.row
    ≡ false) (λ p h. silent_base (header ++ sections) p.row h) header quiet) (all_have_bases header sections quiet good) in
    first_all (section_fault all) (λ p. lacks_base all p.row ≡ false) (λ q h. ap (λ b. fault_if b q.0 why.MissingBase) h) prefix
    (subst (λ (l : List SpelledRecord). AllByRecursion (λ p. lacks_base l p.row ≡ false) l) (sym are) both)

-- externals

silent_given : (all : List SpelledRecord) (p : SpelledRecord) (row : Record) → is_none (part_of row) ≡ true
    → ((is_public_value row && not (list_all (is_declared all) (named_in_expression p))) ≡ false) × (lacks_value all row ≡ false)
silent_given all p (r.ModuleBegin a b) h = (refl, refl)
silent_given all p (r.Descriptor a b c) h = (refl, refl)
silent_given all p (r.Offset a b) h = (refl, refl)
silent_given all p row h = cc

section_given : (all : List SpelledRecord) (p : SpelledRecord) (row : Record) → stands_in section_part row ≡ true
    → ((is_public_value row && not (list_all (is_declared all) (named_in_expression p))) ≡ false) × (lacks_value all row ≡ false)
section_given all p (r.SectionType i a b c x y z) h = (refl, refl)
section_given all p (r.Alignment i n other) h = (refl, refl)
section_given all p (r.SectionSize i n) h = (refl, refl)
section_given all p (r.SectionBase i n) h = (refl, refl)
section_given all p row h = cc

and_off : (a b : Bool) → b ≡ true → (a && not b) ≡ false
and_off true true h = refl
and_off true false h = cc
and_off false b h = refl

valued_next : (test : ℕ → Bool) (o : Option ℕ) (rest : List ℕ) → list_all test (cons_option o rest) ≡ true → (any_of (λ i. not (test i)) o ≡ false)
    × (list_all test rest ≡ true)
valued_next test None rest h = (refl, h)
valued_next test (Some i) rest h = let both = and_parts (test i) _ h in (not_from_true (test i) both.0, both.1)

externals_given : (all externals records : List SpelledRecord)
    → ((i : ℕ) → is_assigned externals (value_of_public i) ≡ true → is_assigned all (value_of_public i) ≡ true)
    → list_all (λ p. list_all (is_declared all) (named_in_expression p)) records ≡ true
    → list_all (λ i. is_assigned externals (value_of_public i)) (declared public records) ≡ true → AllByRecursion (IsGiven all) records
externals_given all externals [] grows values valued = tt
externals_given all externals (p ∷ records) grows values valued =
    let test : ℕ → Bool = λ i. is_assigned externals (value_of_public i) in
    let both = and_parts (list_all (is_declared all) (named_in_expression p)) _ values in
    let next = valued_next test (public_declared p.row) (declared public records)
    (ap (λ o. list_all test (cons_option o (declared public records))) (sym (declares_public p.row)) ∙ valued) in (
      (and_off (is_public_value p.row) (list_all (is_declared all) (named_in_expression p)) both.0, more (public_declared p.row) next.0),
      externals_given all externals records grows both.1 next.1,
    )
  where
    more : (o : Option ℕ) → any_of (λ i. not (is_assigned externals (value_of_public i))) o ≡ false
        → any_of (λ i. not (is_assigned all (value_of_public i))) o ≡ false
    more None h = refl
    more (Some i) h = grown (is_assigned externals (value_of_public i)) (is_assigned all (value_of_public i)) (grows i) h where
      grown : (a b : Bool) → (a ≡ true → b ≡ true) → not a ≡ false → not b ≡ false
      grown true b f h = not_from_true b (f refl)
      grown false b f h = cc

pub external_whole : (prefix : List Step) (header sections externals : List SpelledRecord) → records_of prefix ≡ (header ++ sections) ++ externals
    → IsSilent header → list_all (λ p. stands_in section_part p.row) sections ≡ true
    → list_all (λ p. list_all (is_declared (sections ++ externals)) (named_in_expression p)) externals ≡ true
    → list_all (λ i. is_assigned externals (value_of_public i)) (declared public externals) ≡ true
    → whole_fault external_part prefix ≡ None
external_whole prefix header sections externals are quiet own values valued =
    let all = (header ++ sections) ++ externals in
    let same : is_declared all ≡ is_declared (sections ++ externals) = ap (λ l. is_declared l) (append_assoc header sections externals)
    ∙ declared_after header (sections ++ externals) quiet in
    let given = externals_given all externals externals
    (λ i h. assigned-append (header ++ sections) externals (value_of_public i)
    ∙ or_right (is_assigned (header ++ sections) (value_of_public i)) (is_assigned externals (value_of_public i)) h)
    (ap (λ test. list_all (λ p. list_all test (named_in_expression p)) externals) same ∙ values) valued in
    let every = all-append (IsGiven all) (header ++ sections) externals (all-append (IsGiven all) header sections
    (all_silent (IsGiven all) (λ p h. silent_given all p p.row h) header quiet)
    (all_own section_part (IsGiven all) (λ p h. section_given all p p.row h) sections own)) given in
    first_all (external_fault (records_of prefix)) (IsGiven (records_of prefix))
    (λ q h. (λ i. option_or (fault_if (h.0 i) q.0 why.UnknownIndex) (fault_if (h.1 i) q.0 why.MissingValue))) prefix
    (subst (λ (l : List SpelledRecord). AllByRecursion (IsGiven l) l) (sym are) every)

-- debug blocks

no_blocks : (blocks : List OpenBlock) → kinds_of blocks ≡ [] → open_fault blocks ≡ None
no_blocks [] h = refl
no_blocks (b ∷ blocks) h = absurd cc

pub debug_whole : (prefix : List Step) → open_kinds (records_of prefix) ≡ [] → whole_fault debug_part prefix ≡ None
debug_whole prefix none = no_blocks (open_blocks (offset_records_of prefix)) (kinds-open prefix ∙ none)
