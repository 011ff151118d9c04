-- A sound prefix that ends, and that is the whole stream, is a module's file.
use Rattle.std.proofs.Common.{◌≡◌, ℕ, ◌*◌, ◌^◌, ◌<◌, ◌≤◌, Bool, true, false, cond, nat_lt, nat_le, List, [], ◌∷◌, ◌++◌, length, Option, Some, None}
use Rattle.std.proofs.Common.{is_none, refl, sym, ap, subst, ◌∙◌, arith, append_assoc, le-ltb, filter_map}
use Rattle.std.specs.List.{last_or, list_any, AllByRecursion}
use Rattle.std.proofs.lemmas.Bool.{or_from, not_from_true}
use Rattle.std.proofs.lemmas.List.Elements.{filter_map-append}
use Rattle.mufom_numbers.specs.Spelling.{AreBytes}
use Rattle.mufom_expr.specs.Spelled.{Indexes}
use Rattle.mufom_records.specs.declared.record.Record.{Record}
use Rattle.mufom_records.specs.declared.record.Record.TheVariants as r
use Rattle.mufom_module.specs.declared.module.Parts.{Parts}
use Rattle.mufom_module.specs.declared.module.Defect.{Defect}
use Rattle.mufom_module.specs.declared.module.Defect.TheVariants as defect
use Rattle.mufom_debug.specs.Marks.{DebugMark, depth_of}
use Rattle.mufom_module.specs.Contents.{any_of, any_expression, debug_marks}
use Rattle.mufom_module.specs.Defects as d
use Rattle.mufom_module.specs.Written.{weight}
use Rattle.mufom_module.specs.SpelledRecords.{SpelledRecord, debug_name, of_kind, declared_by, declared}
use Rattle.mufom_module.specs.RecordParts.{Part, section_part, external_part, debug_part, data_part, trailer_part, stands_in}
use Rattle.mufom_module.specs.Gathered.{marks}
use Rattle.mufom_module.specs.Grammar.{header_of, from_loads, from_trailer, module_end, file_limit, IsCutInto, indexes_of}
use Rattle.mufom_module.specs.Grammar.{SpellsModule, seen_from_debug, seen_from_externals}
use Rattle.mufom_judging.specs.Prefixes.{Step, prefix_bytes, records_of, size_of, is_ended}
use Rattle.mufom_judging.specs.Faults.{has_bad_alignment, is_bad_descriptor, set_by, current_section}
use Rattle.mufom_judging.specs.Judging.{IsSoundFrom, IsSoundPrefix}
use Rattle.mufom_judging.specs.Stated.{indexes_in, IsStatedBy}
use Rattle.mufom_judging.specs.Laws.{FilesWeighTenfold, EndedPrefixIsModule}
use Rattle.mufom_judging.proofs.BlockKinds.{open_kinds, none_before}
use Rattle.mufom_judging.proofs.ended.Walk.{all_bytes, walk_of}
use Rattle.mufom_judging.proofs.ended.Rows.{IsShort}
use Rattle.mufom_judging.proofs.ended.Parts.{KeptFrom}
use Rattle.mufom_judging.proofs.ended.Sliced.{Sliced}
use Rattle.mufom_judging.proofs.ended.Slicing.{sliced_of}
use Rattle.mufom_judging.proofs.ended.Names.{cut_into, has_names}
use Rattle.mufom_judging.proofs.ended.Gathered.{IsAskedOf, not_asked, not_silent, debug_declared}
use Rattle.mufom_judging.proofs.ended.Stated.{stated_by, its_marks, units_of, states, sorted, same_ix, is_stated}
use Rattle.mufom_judging.proofs.ended.Trees.{AreCounts, placed_section}
use Rattle.mufom_judging.proofs.ended.Good.{all_short, good_from, text_short}
use Rattle.mufom_judging.proofs.ended.Entries.{sections_counted, publics_counted, references_counted, sections_short, sections_aligned, sections_based}
use Rattle.mufom_judging.proofs.ended.Entries.{publics_short, references_short, HasGoodValue, good_values, publics_inside, publics_counter}
use Rattle.mufom_judging.proofs.ended.Blocks.{debug_ends, debug_depth}
use Rattle.mufom_judging.proofs.ended.Debug.{AreGoodMarks, good_marks, marks_short, marks_inside, marks_counter, marks_attribute, names_declared}
use Rattle.mufom_judging.proofs.ended.Loads.{AreGoodLoads, no_place, no_counter, none_nowhere, none_long, none_sized, good_loads, start_good}
use Rattle.mufom_records.specs.declared.options.ReadOptions.{ReadOptions}

-- ---- the records before and after a part

-- the records of an ended prefix with the part's after those before it
loads_within : (options : ReadOptions) (prefix : List Step) (s : Sliced options prefix)
    → (((((header_of s.f ++ s.f.sections) ++ s.f.externals) ++ s.f.debug) ++ s.f.loads) ++ (s.f.trailer ++ s.end ∷ [])) ≡ records_of prefix
loads_within options prefix s = sym (append_assoc ((((header_of s.f ++ s.f.sections) ++ s.f.externals) ++ s.f.debug)
    ++ s.f.loads) s.f.trailer (s.end ∷ [])) ∙ sym s.records

debug_within : (options : ReadOptions) (prefix : List Step) (s : Sliced options prefix)
    → ((((header_of s.f ++ s.f.sections) ++ s.f.externals) ++ s.f.debug) ++ (s.f.loads ++ (s.f.trailer ++ s.end ∷ []))) ≡ records_of prefix
debug_within options prefix s = sym (append_assoc (((header_of s.f ++ s.f.sections) ++ s.f.externals) ++ s.f.debug) s.f.loads (s.f.trailer
    ++ s.end ∷ [])) ∙ loads_within options prefix s

externals_within : (options : ReadOptions) (prefix : List Step) (s : Sliced options prefix)
    → (((header_of s.f ++ s.f.sections) ++ s.f.externals) ++ (s.f.debug ++ (s.f.loads ++ (s.f.trailer ++ s.end ∷ [])))) ≡ records_of prefix
externals_within options prefix s = sym (append_assoc ((header_of s.f ++ s.f.sections) ++ s.f.externals) s.f.debug (s.f.loads
    ++ (s.f.trailer ++ s.end ∷ []))) ∙ debug_within options prefix s

counted : (options : ReadOptions) (prefix : List Step) (s : Sliced options prefix)
    → AreCounts (stated_by options prefix s) (indexes_in (records_of prefix))
counted options prefix s = subst (λ (ix : Indexes). AreCounts (stated_by options prefix s) ix) (sym (same_ix options prefix s)) (record {
  sections = sections_counted s.f.sections;
  publics = publics_counted (indexes_of s.f) s.f.externals;
  references = references_counted s.f.externals;
})

-- no section is set before the data part
set_asked : (row : Record) → stands_in data_part row ≡ false → set_by row ≡ None
set_asked (r.SetSection i) h = cc
set_asked row h = refl

none_set : (options : ReadOptions) (prefix : List Step) (s : Sliced options prefix)
    → current_section (((header_of s.f ++ s.f.sections) ++ s.f.externals) ++ s.f.debug) ≡ None
none_set options prefix s =
    let h = header_of s.f in
    let are = sorted options prefix s in
    let ask : SpelledRecord → Option ℕ = λ p. set_by p.row in
    let only : IsAskedOf data_part ask = λ p e. set_asked p.row e in
    let none_h = not_silent data_part ask only h are.header in
    let none_s = not_asked data_part section_part ask only refl s.f.sections are.sections in
    let none_e = not_asked data_part external_part ask only refl s.f.externals are.externals in
    let none_d = not_asked data_part debug_part ask only refl s.f.debug are.debug in
    let named = filter_map-append ask (h ++ s.f.sections) s.f.externals
    ∙ ap (λ l. l ++ filter_map ask s.f.externals) (filter_map-append ask h s.f.sections) ∙ (λ i. (none_h i ++ none_s i) ++ none_e i) in
    ap (last_or None) (filter_map-append ask ((h ++ s.f.sections) ++ s.f.externals) s.f.debug ∙ (λ i. named i ++ none_d i))

-- ---- what each part has

all_aligned : (part : Part) (before records : List SpelledRecord) → KeptFrom part before records → AllByRecursion (λ p. has_bad_alignment p.row ≡ false) records
all_aligned part before [] own = tt
all_aligned part before (p ∷ records) own = (own.1.aligned, all_aligned part (before ++ p ∷ []) records own.2)

maus_of : (options : ReadOptions) (prefix : List Step) (s : Sliced options prefix) → d.is_unit_count s.describes.1 ≡ true
maus_of options prefix s = (units_of s.describes.0 s.describes.1 s.describes.2
    (subst (λ (row : Record). is_bad_descriptor row ≡ false) s.describes.3 s.no_bad)).1

short_sections : (options : ReadOptions) (prefix : List Step) (s : Sliced options prefix) → AllByRecursion (λ p. IsShort p.row) s.f.sections
short_sections options prefix s = all_short options section_part _ false s.f.sections (seen_from_externals options s.f) refl s.keep_sections s.sections

short_externals : (options : ReadOptions) (prefix : List Step) (s : Sliced options prefix) → AllByRecursion (λ p. IsShort p.row) s.f.externals
short_externals options prefix s = all_short options external_part _ false s.f.externals (seen_from_debug options s.f) refl s.keep_externals s.externals

values_good : (options : ReadOptions) (prefix : List Step) (s : Sliced options prefix)
    → AllByRecursion (HasGoodValue (stated_by options prefix s) (indexes_of s.f)) s.f.externals
values_good options prefix s =
    let m = stated_by options prefix s in
    let within = externals_within options prefix s in
    good_values m ((header_of s.f ++ s.f.sections) ++ s.f.externals) (s.f.debug ++ (s.f.loads ++ (s.f.trailer ++ s.end ∷ []))) (indexes_of s.f)
    (ap (λ l. indexes_in l) within ∙ same_ix options prefix s)
    (subst (λ (l : List SpelledRecord). AreCounts m (indexes_in l)) (sym within) (counted options prefix s))
    external_part (header_of s.f ++ s.f.sections) s.f.externals s.keep_externals s.given

loads_good : (options : ReadOptions) (prefix : List Step) (s : Sliced options prefix)
    → AreGoodLoads (stated_by options prefix s) None (stated_by options prefix s).loads
loads_good options prefix s =
    let m = stated_by options prefix s in
    let ix = indexes_of s.f in
    let before = ((header_of s.f ++ s.f.sections) ++ s.f.externals) ++ s.f.debug in
    let short = all_short options data_part before false s.f.loads (from_trailer s.f) refl s.keep_loads s.loads in
    let are = good_from m (records_of prefix) ix (same_ix options prefix s) (counted options prefix s) data_part before s.f.loads (s.f.trailer
    ++ s.end ∷ []) (loads_within options prefix s) short s.keep_loads in
    subst (λ (o : Option ℕ). AreGoodLoads m (placed_section ix o) m.loads) (none_set options prefix s)
    (good_loads m ix s.describes.1 (maus_of options prefix s) before s.f.loads are)

-- debug items

short_debug : (options : ReadOptions) (prefix : List Step) (s : Sliced options prefix) → AllByRecursion (λ p. IsShort p.row) s.f.debug
short_debug options prefix s = all_short options debug_part _ false s.f.debug (from_loads s.f) refl s.keep_debug s.debug

debug_good : (options : ReadOptions) (prefix : List Step) (s : Sliced options prefix)
    → AreGoodMarks (stated_by options prefix s) (indexes_of s.f) s.f.debug
debug_good options prefix s =
    let m = stated_by options prefix s in
    let before = (header_of s.f ++ s.f.sections) ++ s.f.externals in
    good_marks m (indexes_of s.f) before s.f.debug (good_from m (records_of prefix) (indexes_of s.f) (same_ix options prefix s)
    (counted options prefix s) debug_part before s.f.debug
    (s.f.loads ++ (s.f.trailer ++ s.end ∷ [])) (debug_within options prefix s) (short_debug options prefix s) s.keep_debug)

none_open : (options : ReadOptions) (prefix : List Step) (s : Sliced options prefix) → open_kinds ((header_of s.f ++ s.f.sections) ++ s.f.externals) ≡ []
none_open options prefix s = let are = sorted options prefix s in
    none_before (header_of s.f) s.f.sections s.f.externals are.header are.sections are.externals

-- what no mark of the records is, no mark of the module is
of_marks : (options : ReadOptions) (prefix : List Step) (s : Sliced options prefix) (test : DebugMark → Bool)
    → list_any test (marks (indexes_of s.f) s.f.debug) ≡ false → list_any test (debug_marks (stated_by options prefix s)) ≡ false
of_marks options prefix s test h = ap (list_any test) (its_marks options prefix s) ∙ h

no_name : (options : ReadOptions) (prefix : List Step) (s : Sliced options prefix)
    → declared debug_name ((header_of s.f ++ s.f.sections) ++ s.f.externals) ≡ []
no_name options prefix s =
    let h = header_of s.f in
    let are = sorted options prefix s in
    let ask : SpelledRecord → Option ℕ = λ p. of_kind debug_name (declared_by p.row) in
    let only : IsAskedOf debug_part ask = λ p e. debug_declared p.row e in
    let none_h = not_silent debug_part ask only h are.header in
    let none_s = not_asked debug_part section_part ask only refl s.f.sections are.sections in
    let none_e = not_asked debug_part external_part ask only refl s.f.externals are.externals in
    filter_map-append ask (h ++ s.f.sections) s.f.externals ∙ ap (λ l. l ++ filter_map ask s.f.externals) (filter_map-append ask h s.f.sections)
    ∙ (λ i. (none_h i ++ none_s i) ++ none_e i)

names_used : (options : ReadOptions) (prefix : List Step) (s : Sliced options prefix)
    → is_none (d.declared_after 0 (debug_marks (stated_by options prefix s))) ≡ false
names_used options prefix s =
    let before = (header_of s.f ++ s.f.sections) ++ s.f.externals in
    let none = no_name options prefix s in
    let all : declared debug_name s.f.debug ≡ declared debug_name (before ++ s.f.debug) =
    ap (λ l. l ++ declared debug_name s.f.debug) (sym none) ∙ sym (filter_map-append (λ p. of_kind debug_name (declared_by p.row)) before s.f.debug) in
    ap (λ l. is_none (d.declared_after 0 l)) (its_marks options prefix s)
    ∙ ap (λ (l : List ℕ). is_none (d.declared_after (length l) (marks (indexes_of s.f) s.f.debug))) (sym none)
    ∙ names_declared (indexes_of s.f) debug_part before s.f.debug all s.keep_debug

depth_fits : (options : ReadOptions) (prefix : List Step) (s : Sliced options prefix) → d.has_defect (stated_by options prefix s) defect.Depth ≡ false
depth_fits options prefix s =
    ap (λ l. nat_lt 32 (depth_of l)) (its_marks options prefix s)
    ∙ le-ltb _ _ (debug_depth (indexes_of s.f) debug_part ((header_of s.f ++ s.f.sections)
    ++ s.f.externals) s.f.debug (none_open options prefix s) s.keep_debug)

ends_fit : (options : ReadOptions) (prefix : List Step) (s : Sliced options prefix) → d.has_defect (stated_by options prefix s) defect.Nesting ≡ false
ends_fit options prefix s =
    debug_ends (indexes_of s.f) debug_part ((header_of s.f ++ s.f.sections)
    ++ s.f.externals) s.f.debug (none_open options prefix s) (short_debug options prefix s) s.keep_debug

-- the start has no position that is not there, and no counter
record StartIsGood (m : Parts) : Type 0 where
  inside : any_of (d.names_outside (d.counts_of m)) m.start ≡ false
  counter : any_of (d.has_other_counter None) m.start ≡ false

start_is_good : (options : ReadOptions) (prefix : List Step) (s : Sliced options prefix) → StartIsGood (stated_by options prefix s)
start_is_good options prefix s =
    let m = stated_by options prefix s in
    let ix = indexes_of s.f in
    let before = (((header_of s.f ++ s.f.sections) ++ s.f.externals) ++ s.f.debug) ++ s.f.loads in
    let short = all_short options trailer_part before false s.f.trailer module_end refl s.keep_trailer s.trailer in
    let are = good_from m (records_of prefix) ix (same_ix options prefix s) (counted options prefix s) trailer_part before s.f.trailer
    (s.end ∷ []) (sym s.records) short s.keep_trailer in
    let both = start_good m ix before s.f.trailer are in
    record { inside = both.0; counter = both.1 }

-- ---- without a defect

passed : (b : Bool) (it : Defect) (o : Option Defect) → b ≡ false → o ≡ None → cond b (Some it) o ≡ None
passed true it o e h = cc
passed false it o e h = h

no_defect : (m : Parts) (it : Defect) (o : Option Defect) → d.has_defect m it ≡ false → o ≡ None → cond (d.has_defect m it) (Some it) o ≡ None
no_defect m it o e h = passed (d.has_defect m it) it o e h

light : (n size : ℕ) → n ≤ 10 * size → size ≤ 67108864 → nat_le (2 ^ 32) n ≡ false
light n size h limit = heavy n (omega arith) where
  heavy : (n : ℕ) → n < 4294967296 → nat_le 4294967296 n ≡ false
  heavy n h = grind arith

long_string : (options : ReadOptions) (prefix : List Step) (s : Sliced options prefix) → d.has_long_string (stated_by options prefix s) ≡ false
long_string options prefix s =
    or_from _ _ (text_short s.f.begin s.begins.0 s.begins.3) (or_from _ _ (text_short s.f.begin s.begins.1 s.begins.4)
    (or_from _ _ (sections_short s.f.sections (short_sections options prefix s))
    (or_from _ _ (publics_short (indexes_of s.f) s.f.externals (short_externals options prefix s))
    (or_from _ _ (references_short s.f.externals (short_externals options prefix s))
    (of_marks options prefix s d.has_long_name (marks_short (stated_by options prefix s) (indexes_of s.f) s.f.debug
    (debug_good options prefix s)))))))

bad_position : (options : ReadOptions) (prefix : List Step) (s : Sliced options prefix) → d.has_bad_position (stated_by options prefix s) ≡ false
bad_position options prefix s =
    let m = stated_by options prefix s in
    or_from _ _ (publics_inside m (indexes_of s.f) s.f.externals (values_good options prefix s))
    (or_from _ _ (no_place m None m.loads (loads_good options prefix s))
    (or_from _ _ (of_marks options prefix s (d.has_bad_mark (d.counts_of m)) (marks_inside m (indexes_of s.f) s.f.debug (debug_good options prefix s)))
    (or_from _ _ (start_is_good options prefix s).inside (names_used options prefix s))))

misplaced : (options : ReadOptions) (prefix : List Step) (s : Sliced options prefix) → d.has_misplaced_counter (stated_by options prefix s) ≡ false
misplaced options prefix s =
    let m = stated_by options prefix s in
    or_from _ _ (publics_counter m (indexes_of s.f) s.f.externals (values_good options prefix s)) (or_from _ _ (start_is_good options prefix s).counter
    (or_from _ _ (of_marks options prefix s (any_expression (d.has_other_counter None))
    (marks_counter m (indexes_of s.f) s.f.debug (debug_good options prefix s))) (no_counter m None m.loads (loads_good options prefix s))))

pub is_valid : (options : ReadOptions) (prefix : List Step) (s : Sliced options prefix) → d.has_defect (stated_by options prefix s) defect.Weight
    ≡ false → d.IsValid (stated_by options prefix s)
is_valid options prefix s small =
    let m = stated_by options prefix s in
    let loads = loads_good options prefix s in
    no_defect m defect.Depth _ (depth_fits options prefix s)
    (no_defect m defect.LongId _ (long_string options prefix s)
    (no_defect m defect.BadMaus _ (not_from_true (d.is_unit_count s.describes.1) (maus_of options prefix s))
    (no_defect m defect.BadAlign _ (sections_aligned s.f.sections (all_aligned section_part _ s.f.sections s.keep_sections))
    (no_defect m defect.MissingBase _ (sections_based (header_of s.f) s.f.sections s.silent s.based)
    (no_defect m defect.Position _ (bad_position options prefix s)
    (no_defect m defect.MisplacedP _ (misplaced options prefix s)
    (no_defect m defect.NoSection _ (none_nowhere m None m.loads loads)
    (no_defect m defect.LongRun _ (none_long m None m.loads loads)
    (no_defect m defect.FieldSize _ (none_sized m None m.loads loads)
    (no_defect m defect.Attribute _ (of_marks options prefix s d.has_unknown_attribute
    (marks_attribute m (indexes_of s.f) s.f.debug (debug_good options prefix s)))
    (no_defect m defect.Nesting _ (ends_fit options prefix s)
    (no_defect m defect.Weight _ small refl))))))))))))

-- ---- the law

-- The bytes of a prefix that is cut into its parts are the file of the module that these parts state, provided that what a file
-- states weighs at most ten times the file.
spelled_by : FilesWeighTenfold → (options : ReadOptions) (prefix : List Step) (bytes : List ℕ) → AreBytes bytes → length bytes ≤ file_limit → bytes
    ≡ prefix_bytes prefix
    → (s : Sliced options prefix) → SpellsModule (stated_by options prefix s) bytes options
spelled_by weigh options prefix bytes fits limit same s =
    let m = stated_by options prefix s in
    let cut = subst (λ (l : List ℕ). IsCutInto l options s.f) (sym same)
    (cut_into options prefix s (subst (λ (l : List ℕ). length l ≤ file_limit) same limit)) in
    let names = has_names options prefix s in
    let tenfold : weight m ≤ 10 * length bytes = weigh options bytes s.f m fits cut names (states options prefix s) in
    (s.f, cut, names, states options prefix s, is_valid options prefix s (light (weight m) (length bytes) tenfold limit))

sliced_from : (options : ReadOptions) (prefix : List Step) (bytes : List ℕ) → AreBytes bytes → IsSoundPrefix options prefix bytes → is_ended prefix
    ≡ true → bytes ≡ prefix_bytes prefix → Sliced options prefix
sliced_from options prefix bytes fits sound ends same =
    sliced_of options prefix ends (walk_of options [] prefix (subst (λ (l : List ℕ). AreBytes l) same fits)
    (subst (λ (l : List ℕ). IsSoundFrom options [] prefix l) same sound))

-- A sound prefix that ends with the stream is cut into its parts, and is the file of what they state.
pub ended_sliced : FilesWeighTenfold → (options : ReadOptions) (prefix : List Step) (bytes : List ℕ) → AreBytes bytes → length bytes ≤ file_limit
    → IsSoundPrefix options prefix bytes
    → is_ended prefix ≡ true → size_of prefix ≡ length bytes → (s : Sliced options prefix) × SpellsModule (stated_by options prefix s) bytes options
ended_sliced weigh options prefix bytes fits limit sound ends size =
    let same = all_bytes options prefix bytes fits sound size in (
      sliced_from options prefix bytes fits sound ends same,
      spelled_by weigh options prefix bytes fits limit same (sliced_from options prefix bytes fits sound ends same),
    )

stated_prefix : (options : ReadOptions) (prefix : List Step) (bytes : List ℕ) → (s : Sliced options prefix)
    → SpellsModule (stated_by options prefix s) bytes options → (m : Parts) × SpellsModule m bytes options × IsStatedBy prefix m
stated_prefix options prefix bytes s spells = (stated_by options prefix s, spells, is_stated options prefix s)

-- It is a module's file.
pub ended_prefix : FilesWeighTenfold → EndedPrefixIsModule
ended_prefix weigh options prefix bytes fits limit sound ends size =
    let both = ended_sliced weigh options prefix bytes fits limit sound ends size in
    stated_prefix options prefix bytes both.0 both.1
