-- A valid module's file keeps to the rules of all its parts.
use Rattle.std.proofs.Common.{◌≡◌, ℕ, ◌≤◌, Bool, true, false, ◌==◌, ◌&&◌, ◌||◌, List, [], ◌++◌, Option, Some, None, option_to_list, refl, sym, ap}
use Rattle.std.proofs.Common.{subst, ◌∙◌, append_assoc, append-nil, eq-eqb, ltb-false}
use Rattle.std.specs.List.{list_all, list_any, last_or}
use Rattle.std.proofs.lemmas.Bool.{and_from, or_parts, not-false, not_from_true, true≢false}
use Rattle.std.proofs.lemmas.List.Elements.{filter_map-append}
use Rattle.mufom_records.specs.declared.record.Record.{Record}
use Rattle.mufom_records.specs.declared.record.Record.TheVariants as r
use Rattle.mufom_names.specs.declared.name.Public.{Public}
use Rattle.mufom_loads.specs.declared.load.Load.{Load}
use Rattle.mufom_debug.specs.Marks.{marks_of, depth_of}
use Rattle.mufom_module.specs.declared.module.Parts.{Parts}
use Rattle.mufom_module.specs.declared.module.Defect.TheVariants as defect
use Rattle.mufom_module.specs.Contents.{any_of, any_expression, debug_marks, placed_loads, blocks_of}
use Rattle.mufom_module.specs.Defects as d
use Rattle.mufom_module.specs.SpelledRecords.{SpelledRecord, section, public, reference, of_kind, declared_by, declared}
use Rattle.mufom_module.specs.RecordParts.{section_part, external_part, debug_part, data_part, trailer_part, stands_in}
use Rattle.mufom_module.specs.Gathered.{sections_of, publics_of, marks, loads_of, starts_of}
use Rattle.mufom_module.specs.Grammar.{FileParts, header_of, from_loads, from_trailer, IsCutInto, indexes_of, records_of, FollowFrom, HasNames}
use Rattle.mufom_module.specs.Grammar.{Describes, States}
use Rattle.mufom_judging.specs.Faults.{set_by, current_section, is_bad_descriptor}
use Rattle.mufom_judging.proofs.BlockKinds.{kinds_from, open_kinds, kinds-append, none_before, NestFrom, nest-other}
use Rattle.mufom_judging.proofs.ended.Rows.{IsDescriptor}
use Rattle.mufom_judging.proofs.ended.Parts.{KeptFrom, cond_none}
use Rattle.mufom_judging.proofs.ended.Names.{IsSilent}
use Rattle.mufom_judging.proofs.ended.Gathered.{not_asked, section_declared, public_declared, reference_declared}
use Rattle.mufom_judging.proofs.ended.Trees.{placed_section}
use Rattle.mufom_judging.proofs.ended.Good.{part_short}
use Rattle.mufom_judging.proofs.spelled.Entries.{IsListed}
use Rattle.mufom_judging.proofs.spelled.Loads.{AreIn, NoneMisplaced, CounterFrom, load_counters}
use Rattle.mufom_judging.proofs.spelled.Kept.{follow-parts, keep_part, all_aligned, none_aligned, section_counters, public_counters, debug_counters}
use Rattle.mufom_judging.proofs.spelled.Kept.{start_counters}
use Rattle.mufom_judging.proofs.spelled.Blocks.{NestWell, nest_items}
use Rattle.mufom_records.specs.declared.options.ReadOptions.{ReadOptions}

-- ---- a valid module

-- the defects that it does not have, as far as they would be errors in its file
pub record IsSound (m : Parts) : Type 0 where
  pub units : d.is_unit_count m.maus ≡ true
  pub aligned : list_any d.has_bad_alignment m.sections ≡ false
  pub based : list_any d.lacks_base m.sections ≡ false
  pub publics : list_any (λ (s : Public). d.has_other_counter None s.value) m.names.publics ≡ false
  pub start : any_of (d.has_other_counter None) m.start ≡ false
  pub debug : list_any (any_expression (d.has_other_counter None)) (debug_marks m) ≡ false
  pub loads : list_any d.misplaces_counter (placed_loads m) ≡ false
  pub deep : depth_of (debug_marks m) ≤ 32
  pub ends : list_any d.has_bad_end (blocks_of m.debug) ≡ false

pub sound_module : (m : Parts) → d.IsValid m → IsSound m
sound_module m h =
    let has = d.has_defect m in
    let deep = cond_none (has defect.Depth) _ _ h in
    let long = cond_none (has defect.LongId) _ _ deep.1 in
    let maus = cond_none (has defect.BadMaus) _ _ long.1 in
    let align = cond_none (has defect.BadAlign) _ _ maus.1 in
    let base = cond_none (has defect.MissingBase) _ _ align.1 in
    let offset = cond_none (has defect.Position) _ _ base.1 in
    let counter = cond_none (has defect.MisplacedP) _ _ offset.1 in
    let somewhere = cond_none (has defect.NoSection) _ _ counter.1 in
    let run = cond_none (has defect.LongRun) _ _ somewhere.1 in
    let size = cond_none (has defect.FieldSize) _ _ run.1 in
    let attribute = cond_none (has defect.Attribute) _ _ size.1 in
    let nesting = cond_none (has defect.Nesting) _ _ attribute.1 in
    let first = or_parts (list_any (λ (s : Public). d.has_other_counter None s.value) m.names.publics) _ counter.0 in
    let second = or_parts (any_of (d.has_other_counter None) m.start) _ first.1 in
    let third = or_parts (list_any (any_expression (d.has_other_counter None)) (debug_marks m)) _ second.1 in
    record {
      units = not-false (d.is_unit_count m.maus) maus.0;
      aligned = align.0;
      based = base.0;
      publics = first.0;
      start = second.0;
      debug = third.0;
      loads = third.1;
      deep = ltb-false 32 (depth_of (debug_marks m)) deep.0;
      ends = nesting.0;
    }

good_descriptor : (m : Parts) (row : Record) → d.is_unit_count m.maus ≡ true → IsDescriptor row → Describes m row → is_bad_descriptor row ≡ false
good_descriptor m row units (bits, maus, letter, is, known) states =
    let its : Describes m (r.Descriptor bits maus letter) = subst (λ (s : Record). Describes m s) is states in
    ap is_bad_descriptor is ∙ not_from_true ((bits == 8) && d.is_unit_count maus)
    (and_from (bits == 8) (d.is_unit_count maus) (eq-eqb bits 8 its.0) (ap d.is_unit_count its.1 ∙ units))

pub no_bad_descriptor : (f : FileParts) (m : Parts) → IsSound m → IsDescriptor f.descriptor.row → Describes m f.descriptor.row
    → is_bad_descriptor f.descriptor.row ≡ false
no_bad_descriptor f m good is states = good_descriptor m f.descriptor.row good.units is states

-- ---- its records

-- the records keep to the rules of their parts
pub record AreKept (f : FileParts) : Type 0 where
  pub sections : KeptFrom section_part (header_of f) f.sections
  pub externals : KeptFrom external_part (header_of f ++ f.sections) f.externals
  pub debug : KeptFrom debug_part ((header_of f ++ f.sections) ++ f.externals) f.debug
  pub loads : KeptFrom data_part (((header_of f ++ f.sections) ++ f.externals) ++ f.debug) f.loads
  pub trailer : KeptFrom trailer_part ((((header_of f ++ f.sections) ++ f.externals) ++ f.debug) ++ f.loads) f.trailer
  -- no block is open after the debug part
  pub closed : open_kinds (((header_of f ++ f.sections) ++ f.externals) ++ f.debug) ≡ []

-- what follows what
record InTurn (f : FileParts) : Type 0 where
  sections : FollowFrom [] f.sections
  externals : FollowFrom f.sections f.externals
  debug : FollowFrom (f.sections ++ f.externals) f.debug
  loads : FollowFrom ((f.sections ++ f.externals) ++ f.debug) f.loads
  trailer : FollowFrom (((f.sections ++ f.externals) ++ f.debug) ++ f.loads) f.trailer

in_turn : (f : FileParts) → FollowFrom [] (records_of f) → InTurn f
in_turn f follow =
    let one = follow-parts [] f.sections (f.externals ++ (f.debug ++ (f.loads ++ f.trailer))) follow in
    let two = follow-parts f.sections f.externals (f.debug ++ (f.loads ++ f.trailer)) one.1 in
    let three = follow-parts (f.sections ++ f.externals) f.debug (f.loads ++ f.trailer) two.1 in
    let four = follow-parts ((f.sections ++ f.externals) ++ f.debug) f.loads f.trailer three.1 in
    record { sections = one.0; externals = two.0; debug = three.0; loads = four.0; trailer = four.1 }

sets_here : (row : Record) → stands_in data_part row ≡ false → set_by row ≡ None
sets_here (r.SetSection i) h = cc
sets_here row h = refl

no_current : (sections externals debug : List SpelledRecord) → list_all (λ p. stands_in section_part p.row) sections ≡ true
    → list_all (λ p. stands_in external_part p.row) externals ≡ true
    → list_all (λ p. stands_in debug_part p.row) debug ≡ true → current_section ((sections ++ externals) ++ debug) ≡ None
no_current sections externals debug own_sections own_externals own_debug =
    let a = not_asked data_part section_part (λ p. set_by p.row) (λ p x. sets_here p.row x) refl sections own_sections in
    let b = not_asked data_part external_part (λ p. set_by p.row) (λ p x. sets_here p.row x) refl externals own_externals in
    let c = not_asked data_part debug_part (λ p. set_by p.row) (λ p x. sets_here p.row x) refl debug own_debug in
    let named = filter_map-append (λ p. set_by p.row) sections externals ∙ (λ i. a i ++ b i) in
    ap (last_or None) (filter_map-append (λ p. set_by p.row) (sections ++ externals) debug ∙ (λ i. named i ++ c i))

are_in : (f : FileParts) → list_all (λ p. stands_in section_part p.row) f.sections ≡ true → list_all (λ p. stands_in external_part p.row) f.externals
    ≡ true → AreIn (indexes_of f) (f.sections ++ f.externals)
are_in f own_sections own_externals =
    let s = f.sections in
    let e = f.externals in
    let a = not_asked section_part external_part (λ p. of_kind section (declared_by p.row)) (λ p x. section_declared p.row x) refl e own_externals in
    let b = not_asked external_part section_part (λ p. of_kind public (declared_by p.row)) (λ p x. public_declared p.row x) refl s own_sections in
    let c = not_asked external_part section_part (λ p. of_kind reference (declared_by p.row)) (λ p x. reference_declared p.row x) refl s own_sections in
    record {
      sections = filter_map-append (λ p. of_kind section (declared_by p.row)) s e ∙ ap (λ l. declared section s ++ l) a ∙ append-nil (declared section s);
      publics = filter_map-append (λ p. of_kind public (declared_by p.row)) s e ∙ ap (λ l. l ++ declared public e) b;
      references = filter_map-append (λ p. of_kind reference (declared_by p.row)) s e ∙ ap (λ l. l ++ declared reference e) c;
    }

-- the records of the debug part declare none of them
are_still_in : (f : FileParts) → list_all (λ p. stands_in debug_part p.row) f.debug ≡ true → AreIn (indexes_of f) (f.sections ++ f.externals)
    → AreIn (indexes_of f) ((f.sections ++ f.externals) ++ f.debug)
are_still_in f own are =
    let before = f.sections ++ f.externals in
    let a = not_asked section_part debug_part (λ p. of_kind section (declared_by p.row)) (λ p x. section_declared p.row x) refl f.debug own in
    let b = not_asked external_part debug_part (λ p. of_kind public (declared_by p.row)) (λ p x. public_declared p.row x) refl f.debug own in
    let c = not_asked external_part debug_part (λ p. of_kind reference (declared_by p.row)) (λ p x. reference_declared p.row x) refl f.debug own in
    record {
      sections = filter_map-append (λ p. of_kind section (declared_by p.row)) before f.debug ∙ ap (λ l. declared section before ++ l) a
          ∙ append-nil (declared section before) ∙ are.sections;
      publics = filter_map-append (λ p. of_kind public (declared_by p.row)) before f.debug ∙ ap (λ l. declared public before ++ l) b
          ∙ append-nil (declared public before) ∙ are.publics;
      references = filter_map-append (λ p. of_kind reference (declared_by p.row)) before f.debug ∙ ap (λ l. declared reference before ++ l) c
          ∙ append-nil (declared reference before) ∙ are.references;
    }

any_list : {X : Type 0} (test : X → Bool) (o : Option X) → any_of test o ≡ false → list_any test (option_to_list o) ≡ false
any_list test None h = refl
any_list test (Some x) h = ap (λ b. b || false) h

keep_sections : (f : FileParts) (m : Parts) → IsSound m → m.sections ≡ sections_of f.sections → IsSilent (header_of f)
    → list_all (λ p. stands_in section_part p.row) f.sections ≡ true → FollowFrom [] f.sections → KeptFrom section_part (header_of f) f.sections
keep_sections f m good states quiet own follow =
    subst (λ (l : List SpelledRecord). KeptFrom section_part l f.sections) (append-nil (header_of f))
    (keep_part section_part (header_of f) [] f.sections quiet own follow
    (all_aligned f.sections [] f.sections refl (ap (list_any d.has_bad_alignment) (sym states) ∙ good.aligned) follow) (section_counters [] f.sections own)
    (nest-other section_part [] f.sections refl own))

keep_externals : (f : FileParts) (m : Parts) → IsSound m → m.names.publics ≡ publics_of (indexes_of f) f.externals → IsSilent (header_of f)
    → list_all (λ p. stands_in section_part p.row) f.sections ≡ true
    → list_all (λ p. stands_in external_part p.row) f.externals ≡ true → FollowFrom f.sections f.externals
    → KeptFrom external_part (header_of f ++ f.sections) f.externals
keep_externals f m good states quiet others own follow =
    let same = append-nil f.sections in
    let counters = public_counters (indexes_of f) f.sections f.externals [] f.externals refl others own
    (ap (list_any (λ (s : Public). d.has_other_counter None s.value)) (sym states) ∙ good.publics)
    (subst (λ (l : List SpelledRecord). FollowFrom l f.externals) (sym same) follow) in
    keep_part external_part (header_of f) f.sections f.externals quiet own follow (none_aligned external_part f.externals refl own)
    (subst (λ (l : List SpelledRecord). CounterFrom l f.externals) same counters)
    (nest-other external_part (open_kinds f.sections) f.externals refl own)

-- before the debug part no block is open
none_open : (f : FileParts) → list_all (λ p. stands_in section_part p.row) f.sections ≡ true
    → list_all (λ p. stands_in external_part p.row) f.externals ≡ true → open_kinds (f.sections ++ f.externals) ≡ []
none_open f own_sections own_externals = none_before [] f.sections f.externals refl own_sections own_externals

-- the debug blocks keep to their rules
nest_debug : (bytes : List ℕ) (options : ReadOptions) (f : FileParts) (m : Parts) → IsCutInto bytes options f → IsSound m → marks_of m.debug
    ≡ marks (indexes_of f) f.debug → NestWell [] f.debug
nest_debug bytes options f m cut good states =
    nest_items (indexes_of f) f.debug m.debug states good.ends good.deep
    (part_short options debug_part false f.debug (from_loads f) refl cut.debug.own cut.debug.are_whole)

keep_debug : (bytes : List ℕ) (options : ReadOptions) (f : FileParts) (m : Parts) → IsCutInto bytes options f → IsSound m → marks_of m.debug
    ≡ marks (indexes_of f) f.debug → IsSilent (header_of f) → FollowFrom (f.sections ++ f.externals) f.debug
    → KeptFrom debug_part ((header_of f ++ f.sections) ++ f.externals) f.debug
keep_debug bytes options f m cut good states quiet follow =
    let before = f.sections ++ f.externals in
    let counters = debug_counters (indexes_of f) before f.debug cut.debug.own (ap (list_any (any_expression (d.has_other_counter None))) (sym states)
    ∙ good.debug) in
    let nest = subst (λ (k : List ℕ). NestFrom k f.debug) (sym (none_open f cut.sections.own cut.externals.own))
    (nest_debug bytes options f m cut good states).0 in
    subst (λ (l : List SpelledRecord). KeptFrom debug_part l f.debug) (sym (append_assoc (header_of f) f.sections f.externals))
    (keep_part debug_part (header_of f) before f.debug quiet cut.debug.own follow (none_aligned debug_part f.debug refl cut.debug.own) counters nest)

-- the records up to the data part, and up to the trailer part
to_loads : (f : FileParts) → header_of f ++ ((f.sections ++ f.externals) ++ f.debug) ≡ ((header_of f ++ f.sections) ++ f.externals) ++ f.debug
to_loads f = sym (ap (λ l. l ++ f.debug) (append_assoc (header_of f) f.sections f.externals) ∙ append_assoc (header_of f) (f.sections ++ f.externals) f.debug)

to_trailer : (f : FileParts) → header_of f ++ (((f.sections ++ f.externals) ++ f.debug) ++ f.loads)
    ≡ (((header_of f ++ f.sections) ++ f.externals) ++ f.debug) ++ f.loads
to_trailer f = sym (append_assoc (header_of f) ((f.sections ++ f.externals) ++ f.debug) f.loads) ∙ ap (λ l. l ++ f.loads) (to_loads f)

keep_loads : (bytes : List ℕ) (options : ReadOptions) (f : FileParts) (m : Parts) → IsCutInto bytes options f → IsSound m → m.loads
    ≡ loads_of (indexes_of f) m.maus f.loads → IsSilent (header_of f) → FollowFrom ((f.sections ++ f.externals) ++ f.debug) f.loads
    → KeptFrom data_part (((header_of f ++ f.sections) ++ f.externals) ++ f.debug) f.loads
keep_loads bytes options f m cut good states quiet follow =
    let ix = indexes_of f in
    let before = (f.sections ++ f.externals) ++ f.debug in
    let none = no_current f.sections f.externals f.debug cut.sections.own cut.externals.own cut.debug.own in
    let loads : NoneMisplaced None (loads_of ix m.maus f.loads) = subst (λ (l : List Load). NoneMisplaced None l) states good.loads in
    let counters = load_counters options ix m.maus false before f.loads (from_trailer f) cut.loads.are_whole cut.loads.own follow
    (are_still_in f cut.debug.own (are_in f cut.sections.own cut.externals.own))
    (subst (IsListed ix) (sym none) tt) (subst (λ (o : Option ℕ). NoneMisplaced (placed_section ix o) (loads_of ix m.maus f.loads)) (sym none) loads)
    (λ e. absurd (true≢false (sym e))) in
    subst (λ (l : List SpelledRecord). KeptFrom data_part l f.loads) (to_loads f)
    (keep_part data_part (header_of f) before f.loads quiet cut.loads.own follow (none_aligned data_part f.loads refl cut.loads.own) counters
    (nest-other data_part (open_kinds before) f.loads refl cut.loads.own))

keep_trailer : (bytes : List ℕ) (options : ReadOptions) (f : FileParts) (m : Parts) → IsCutInto bytes options f → IsSound m → option_to_list m.start
    ≡ starts_of (indexes_of f) f.trailer → IsSilent (header_of f)
    → FollowFrom (((f.sections ++ f.externals) ++ f.debug) ++ f.loads) f.trailer
    → KeptFrom trailer_part ((((header_of f ++ f.sections) ++ f.externals) ++ f.debug) ++ f.loads) f.trailer
keep_trailer bytes options f m cut good states quiet follow =
    let before = ((f.sections ++ f.externals) ++ f.debug) ++ f.loads in
    let counters = start_counters (indexes_of f) before f.trailer cut.trailer.own (ap (list_any (d.has_other_counter None)) (sym states)
    ∙ any_list (d.has_other_counter None) m.start good.start) in
    subst (λ (l : List SpelledRecord). KeptFrom trailer_part l f.trailer) (to_trailer f)
    (keep_part trailer_part (header_of f) before f.trailer quiet cut.trailer.own follow (none_aligned trailer_part f.trailer refl cut.trailer.own)
    counters (nest-other trailer_part (open_kinds before) f.trailer refl cut.trailer.own))

all_closed : (bytes : List ℕ) (options : ReadOptions) (f : FileParts) (m : Parts) → IsCutInto bytes options f → IsSound m → marks_of m.debug
    ≡ marks (indexes_of f) f.debug → IsSilent (header_of f)
    → open_kinds (((header_of f ++ f.sections) ++ f.externals) ++ f.debug) ≡ []
all_closed bytes options f m cut good states quiet =
    kinds-append [] ((header_of f ++ f.sections) ++ f.externals) f.debug
    ∙ ap (λ (k : List ℕ). kinds_from k f.debug) (none_before (header_of f) f.sections f.externals quiet cut.sections.own cut.externals.own)
    ∙ (nest_debug bytes options f m cut good states).1

pub are_kept : (bytes : List ℕ) (options : ReadOptions) (f : FileParts) (m : Parts) → IsCutInto bytes options f → HasNames f
    → States f (indexes_of f) m → IsSound m → IsSilent (header_of f) → AreKept f
are_kept bytes options f m cut names states good quiet =
    let turn = in_turn f names.follow in
    record {
      sections = keep_sections f m good states.sections quiet cut.sections.own turn.sections;
      externals = keep_externals f m good states.publics quiet cut.sections.own cut.externals.own turn.externals;
      debug = keep_debug bytes options f m cut good states.debug quiet turn.debug;
      loads = keep_loads bytes options f m cut good states.loads quiet turn.loads;
      trailer = keep_trailer bytes options f m cut good states.start quiet turn.trailer;
      closed = all_closed bytes options f m cut good states.debug quiet;
    }
