-- The parts of an ended prefix are cut as a file is, and have its names.
use Rattle.std.proofs.Common.{◌≡◌, ℕ, ◌≤◌, Bool, true, false, not, ◌&&◌, ◌||◌, List, [], ◌∷◌, ◌++◌, length, map, Option, Some, None, is_none}
use Rattle.std.proofs.Common.{option_map, option_to_list, ◌==◌, refl, sym, ap, subst, ◌∙◌, append_assoc, append-nil, filter_map}
use Rattle.std.specs.List.{list_all, list_any, cons_option, AllByRecursion}
use Rattle.std.proofs.lemmas.Bool.{and_parts, and_from, or_from, not-false}
use Rattle.std.proofs.lemmas.List.Elements.{filter_map-append}
use Rattle.std.proofs.lemmas.List.Folds.{list_any-append}
use Rattle.mufom_numbers.specs.declared.taken.Span.{Span}
use Rattle.mufom_expr.specs.Value.{variables_of}
use Rattle.mufom_debug.specs.Marks.{joined}
use Rattle.mufom_records.specs.declared.record.Record.{Record}
use Rattle.mufom_records.specs.declared.record.Record.TheVariants as r
use Rattle.mufom_module.specs.Contents.{any_of}
use Rattle.mufom_module.specs.SpelledRecords.{SpelledRecord, Kind, public, FileIndex, declared_by, of_kind, declared, is_declared}
use Rattle.mufom_module.specs.SpelledRecords.{named_in_expression, named_at_once, index_of_variable, tree_in, is_public_value, Once}
use Rattle.mufom_module.specs.SpelledRecords.{value_of_public, is_same_statement, assigned_by, is_assigned}
use Rattle.mufom_module.specs.RecordParts.{Part, section_part, external_part, debug_part, data_part, trailer_part, part_of, stands_in, is_set_section}
use Rattle.mufom_module.specs.RecordParts.{is_loading}
use Rattle.mufom_module.specs.Grammar.{header_of, file_limit, IsCutInto, Follows, FollowFrom, HasNames}
use Rattle.mufom_judging.specs.Prefixes.{Step, prefix_bytes}
use Rattle.mufom_judging.specs.Faults.{public_declared, has_unknown_variable}
use Rattle.mufom_judging.proofs.ended.Parts.{IsKept, KeptFrom, own_of}
use Rattle.mufom_judging.proofs.ended.Sliced.{IsGiven, Sliced}
use Rattle.mufom_records.specs.declared.options.ReadOptions.{ReadOptions}
use Rattle.mufom_records.specs.Parts.{expression_of}

-- ---- cut

pub cut_into : (options : ReadOptions) (prefix : List Step) (s : Sliced options prefix) → length (prefix_bytes prefix) ≤ file_limit
    → IsCutInto (prefix_bytes prefix) options s.f
cut_into options prefix s limit = record {
  all = s.bytes;
  limit = limit;
  header = s.header;
  offsets = s.stand;
  sections = record { are_whole = s.sections; own = own_of section_part (header_of s.f) s.f.sections s.keep_sections };
  externals = record { are_whole = s.externals; own = own_of external_part _ s.f.externals s.keep_externals };
  debug = record { are_whole = s.debug; own = own_of debug_part _ s.f.debug s.keep_debug };
  debug_read = s.debug_read;
  loads = record { are_whole = s.loads; own = own_of data_part _ s.f.loads s.keep_loads };
  trailer = record { are_whole = s.trailer; own = own_of trailer_part _ s.f.trailer s.keep_trailer };
}

-- ---- the header states nothing of what the parts state

-- no record of the header is one of a part
abbrev pub IsSilent : List SpelledRecord → Type 0
IsSilent records = list_all (λ p. is_none (part_of p.row)) records ≡ true

pub silent_none : {X : Type 0} (ask : Record → Option X) → ((row : Record) → is_none (part_of row) ≡ true → ask row ≡ None)
    → (records : List SpelledRecord) → IsSilent records → filter_map (λ p. ask p.row) records ≡ []
silent_none ask quiet [] h = refl
silent_none ask quiet (p ∷ records) h = let both = and_parts (is_none (part_of p.row)) _ h in
    (λ i. cons_option (quiet p.row both.0 i) (silent_none ask quiet records both.1 i))

pub after_silent : {X : Type 0} (ask : Record → Option X) → ((row : Record) → is_none (part_of row) ≡ true → ask row ≡ None)
    → (header records : List SpelledRecord) → IsSilent header
    → filter_map (λ p. ask p.row) (header ++ records) ≡ filter_map (λ p. ask p.row) records
after_silent ask quiet header records h = filter_map-append (λ p. ask p.row) header records
    ∙ ap (λ l. l ++ filter_map (λ p. ask p.row) records) (silent_none ask quiet header h)

declares_none : (kind : Kind) (row : Record) → is_none (part_of row) ≡ true → of_kind kind (declared_by row) ≡ None
declares_none kind (r.ModuleBegin a b) h = refl
declares_none kind (r.Descriptor a b c) h = refl
declares_none kind (r.Offset a b) h = refl
declares_none kind row h = cc

assigns_none : (row : Record) → is_none (part_of row) ≡ true → assigned_by row ≡ None
assigns_none (r.ModuleBegin a b) h = refl
assigns_none (r.Descriptor a b c) h = refl
assigns_none (r.Offset a b) h = refl
assigns_none row h = cc

sets_none : (row : Record) → is_none (part_of row) ≡ true → is_set_section row ≡ false
sets_none (r.ModuleBegin a b) h = refl
sets_none (r.Descriptor a b c) h = refl
sets_none (r.Offset a b) h = refl
sets_none row h = cc

pub declared_after : (header records : List SpelledRecord) → IsSilent header → is_declared (header ++ records) ≡ is_declared records
declared_after header records h = λ i index. list_any (λ n. n == index.1)
    (after_silent (λ row. of_kind index.0 (declared_by row)) (declares_none index.0) header records h i)

pub assigned_after : (header records : List SpelledRecord) → IsSilent header → is_assigned (header ++ records) ≡ is_assigned records
assigned_after header records h = λ i once. list_any (is_same_statement once) (after_silent assigned_by assigns_none header records h i)

none_set : (header : List SpelledRecord) → IsSilent header → list_any (λ q. is_set_section q.row) header ≡ false
none_set [] h = refl
none_set (p ∷ header) h = let both = and_parts (is_none (part_of p.row)) _ h in
    or_from (is_set_section p.row) _ (sets_none p.row both.0) (none_set header both.1)

pub set_after : (header records : List SpelledRecord) → IsSilent header → list_any (λ q. is_set_section q.row) (header ++ records)
    ≡ list_any (λ q. is_set_section q.row) records
set_after header records h = list_any-append (λ q. is_set_section q.row) header records
    ∙ ap (λ b. b || list_any (λ q. is_set_section q.row) records) (none_set header h)

pub follows : (header before : List SpelledRecord) (p : SpelledRecord) → IsSilent header → IsKept (header ++ before) p → Follows before p
follows header before p quiet h = record {
  new = ap (λ test. any_of test (declared_by p.row)) (sym (declared_after header before quiet)) ∙ h.new;
  known = ap (λ test. not (list_all test (named_at_once p))) (sym (declared_after header before quiet)) ∙ h.known;
  once = ap (λ test. any_of test (assigned_by p.row)) (sym (assigned_after header before quiet)) ∙ h.once;
  placed = ap (λ b. is_loading p.row && not b) (sym (set_after header before quiet)) ∙ h.placed;
}

follow_part : (part : Part) (header before records : List SpelledRecord) → IsSilent header → KeptFrom part (header ++ before) records
    → FollowFrom before records
follow_part part header before [] quiet h = tt
follow_part part header before (p ∷ records) quiet h = (
  follows header before p quiet h.1,
  follow_part part header (before
      ++ p ∷ []) records quiet (subst (λ (l : List SpelledRecord). KeptFrom part l records) (append_assoc header before (p ∷ [])) h.2),
)

follow-append : (before a b : List SpelledRecord) → FollowFrom before a → FollowFrom (before ++ a) b → FollowFrom before (a ++ b)
follow-append before [] b x y = subst (λ (l : List SpelledRecord). FollowFrom l b) (append-nil before) y
follow-append before (p ∷ a) b x y = (
  x.0,
  follow-append (before
      ++ p ∷ []) a b x.1 (subst (λ (l : List SpelledRecord). FollowFrom l b) (sym (append_assoc before (p ∷ []) a)) y),
)

-- ---- publics

pub no_expression : (row : Record) → stands_in external_part row ≡ true → is_public_value row ≡ false → expression_of row ≡ None
no_expression (r.PublicValue i value) h e = cc
no_expression (r.BlockBegin kind n name block) h e = cc
no_expression (r.BlockEnd value) h e = cc
no_expression (r.DebugValue i value) h e = cc
no_expression (r.SetPc i value) h e = cc
no_expression (r.FieldItem kind value n) h e = cc
no_expression (r.Start value) h e = cc
no_expression row h e = refl

nothing_named : (test : FileIndex → Bool) (p : SpelledRecord) → expression_of p.row ≡ None → list_all test (named_in_expression p) ≡ true
nothing_named test p none = ap (λ (o : Option Span). list_all test
    (map index_of_variable (joined (map variables_of (option_to_list (option_map (tree_in p) o)))))) none

value_named : (all : List SpelledRecord) (p : SpelledRecord) → stands_in external_part p.row ≡ true → has_unknown_variable all p ≡ false
    → list_all (is_declared all) (named_in_expression p) ≡ true
value_named all p own h = by_row (is_public_value p.row) refl where
  by_row : (test : Bool) → is_public_value p.row ≡ test → list_all (is_declared all) (named_in_expression p) ≡ true
  by_row true e = not-false (list_all (is_declared all) (named_in_expression p))
      (subst (λ (b : Bool). (b && not (list_all (is_declared all) (named_in_expression p))) ≡ false) e h)
  by_row false e = nothing_named (is_declared all) p (no_expression p.row own e)

all_named : (all before externals : List SpelledRecord) → KeptFrom external_part before externals → AllByRecursion (IsGiven all) externals
    → list_all (λ p. list_all (is_declared all) (named_in_expression p)) externals ≡ true
all_named all before [] own given = refl
all_named all before (p ∷ externals) own given = and_from _ _ (value_named all p own.0 given.0.0) (all_named all (before ++ p ∷ []) externals own.2 given.1)

pub declares_public : (row : Record) → of_kind public (declared_by row) ≡ public_declared row
declares_public (r.PublicName i name) = refl
declares_public row = refl

has_value : (test : ℕ → Bool) (o : Option ℕ) (rest : List ℕ) → any_of (λ i. not (test i)) o ≡ false → list_all test rest ≡ true
    → list_all test (cons_option o rest) ≡ true
has_value test None rest h all = all
has_value test (Some i) rest h all = and_from (test i) _ (not-false (test i) h) all

all_valued : (all externals : List SpelledRecord) → AllByRecursion (IsGiven all) externals
    → list_all (λ i. is_assigned all (value_of_public i)) (declared public externals) ≡ true
all_valued all [] given = refl
all_valued all (p ∷ externals) given =
    let test : ℕ → Bool = λ i. is_assigned all (value_of_public i) in
    ap (λ o. list_all test (cons_option o (declared public externals))) (declares_public p.row)
    ∙ has_value test (public_declared p.row) (declared public externals) given.0.1 (all_valued all externals given.1)

-- records of the section part give no public a value
no_value_here : (i : ℕ) (row : Record) → stands_in section_part row ≡ true → any_of (is_same_statement (value_of_public i)) (assigned_by row) ≡ false
no_value_here i (r.PublicValue j value) h = cc
no_value_here i row h = refl

pub any-cons_option : {X : Type 0} (test : X → Bool) (o : Option X) (rest : List X) → list_any test (cons_option o rest) ≡ (any_of test o || list_any test rest)
any-cons_option test None rest = refl
any-cons_option test (Some x) rest = refl

no_values : (i : ℕ) (before sections : List SpelledRecord) → KeptFrom section_part before sections → is_assigned sections (value_of_public i) ≡ false
no_values i before [] own = refl
no_values i before (p ∷ sections) own =
    any-cons_option (is_same_statement (value_of_public i)) (assigned_by p.row) (filter_map (λ q. assigned_by q.row) sections)
    ∙ or_from _ _ (no_value_here i p.row own.0) (no_values i (before ++ p ∷ []) sections own.2)

pub assigned-append : (a b : List SpelledRecord) (once : Once) → is_assigned (a ++ b) once ≡ (is_assigned a once || is_assigned b once)
assigned-append a b once = ap (list_any (is_same_statement once)) (filter_map-append (λ p. assigned_by p.row) a b)
    ∙ list_any-append (is_same_statement once) (filter_map (λ p. assigned_by p.row) a) (filter_map (λ p. assigned_by p.row) b)

only_there : (header sections externals : List SpelledRecord) (i : ℕ) → IsSilent header → KeptFrom section_part header sections
    → is_assigned ((header ++ sections) ++ externals) (value_of_public i) ≡ is_assigned externals (value_of_public i)
only_there header sections externals i quiet own =
    assigned-append (header ++ sections) externals (value_of_public i)
    ∙ ap (λ b. b || is_assigned externals (value_of_public i)) ((λ k. assigned_after header sections quiet k (value_of_public i))
    ∙ no_values i header sections own)

-- ---- names

pub has_names : (options : ReadOptions) (prefix : List Step) (s : Sliced options prefix) → HasNames s.f
has_names options prefix s =
    let f = s.f in
    let header = header_of f in
    let all = (header ++ f.sections) ++ f.externals in
    let same : all ≡ header ++ (f.sections ++ f.externals) = append_assoc header f.sections f.externals in
    let before = f.sections ++ f.externals in
    let debug_at : all ++ f.debug ≡ header ++ (before ++ f.debug) = ap (λ l. l ++ f.debug) same ∙ append_assoc header before f.debug in
    let loads_at : (all ++ f.debug) ++ f.loads ≡ header ++ ((before ++ f.debug) ++ f.loads) = ap (λ l. l ++ f.loads) debug_at
    ∙ append_assoc header (before ++ f.debug) f.loads in
    let sections = follow_part section_part header [] f.sections s.silent
    (subst (λ (l : List SpelledRecord). KeptFrom section_part l f.sections) (sym (append-nil header)) s.keep_sections) in
    let externals = follow_part external_part header f.sections f.externals s.silent s.keep_externals in
    let debug = follow_part debug_part header before f.debug s.silent (subst (λ (l : List SpelledRecord). KeptFrom debug_part l f.debug) same s.keep_debug) in
    let loads = follow_part data_part header (before ++ f.debug) f.loads s.silent
    (subst (λ (l : List SpelledRecord). KeptFrom data_part l f.loads) debug_at s.keep_loads) in
    let trailer = follow_part trailer_part header ((before ++ f.debug)
    ++ f.loads) f.trailer s.silent (subst (λ (l : List SpelledRecord). KeptFrom trailer_part l f.trailer) loads_at s.keep_trailer) in
    let last = follow-append before f.debug (f.loads ++ f.trailer) debug (follow-append (before ++ f.debug) f.loads f.trailer loads trailer) in
    record {
      follow = follow-append [] f.sections (f.externals ++ (f.debug ++ (f.loads ++ f.trailer))) sections
          (follow-append f.sections f.externals (f.debug ++ (f.loads ++ f.trailer)) externals last);
      values = ap (λ test. list_all (λ p. list_all test (named_in_expression p)) f.externals)
          (sym (ap (λ l. is_declared l) same ∙ declared_after header (f.sections ++ f.externals) s.silent))
          ∙ all_named all (header ++ f.sections) f.externals s.keep_externals s.given;
      valued = sym (λ k. list_all (λ i. only_there header f.sections f.externals i s.silent s.keep_sections k) (declared public f.externals))
          ∙ all_valued all f.externals s.given;
    }
