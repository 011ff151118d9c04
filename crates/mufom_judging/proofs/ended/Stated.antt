-- The module that the parts of an ended prefix state; the prefix states it too.
use Rattle.std.proofs.Common.{◌≡◌, ◌⊎◌, ℕ, zero, suc, ◌+◌, ◌-◌, ◌≤◌, Bool, true, false, cond, ◌==◌, ◌&&◌, ◌||◌, List, [], ◌∷◌, ◌++◌, length, take}
use Rattle.std.proofs.Common.{drop, slice_get, slice_range, Option, Some, None, option_to_list, refl, sym, ap, subst, ◌∙◌, inl, inr, arith}
use Rattle.std.proofs.Common.{append_assoc, eqb-true, length-append}
use Rattle.std.specs.List.{list_any, cons_option}
use Rattle.std.proofs.lemmas.Bool.{and_parts, or_right, both_ways, not-false}
use Rattle.std.proofs.lemmas.List.{take_at, drop_at}
use Rattle.mufom_numbers.specs.declared.taken.Span.{Span}
use Rattle.mufom_expr.specs.Tree.{Tree}
use Rattle.mufom_expr.specs.Spelled.{Indexes}
use Rattle.mufom_debug.specs.Marks.{marks_of}
use Rattle.mufom_debug.proofs.Rebuilt.{rebuilt}
use Rattle.mufom_debug.proofs.Closed.{rebuilt-marks}
use Rattle.mufom_records.specs.declared.record.Mode.TheVariants as mode
use Rattle.mufom_records.specs.declared.record.Record.{Record}
use Rattle.mufom_records.specs.declared.record.Record.TheVariants as r
use Rattle.mufom_records.specs.Layouts.{IsWholeRecord}
use Rattle.mufom_module.specs.declared.module.Order.TheVariants.{Least, Most}
use Rattle.mufom_module.specs.declared.module.Parts.{Parts}
use Rattle.mufom_module.specs.Contents.{any_of}
use Rattle.mufom_module.specs.Defects.{is_unit_count}
use Rattle.mufom_module.specs.SpelledRecords.{SpelledRecord, bytes_of, text_in, start_address, is_same_statement, assigned_by, is_assigned}
use Rattle.mufom_module.specs.RecordParts.{section_part, external_part, debug_part, data_part, trailer_part, stands_in}
use Rattle.mufom_module.specs.Gathered.{sections_of, publics_of, references_of, marks, loads_of, start_by, starts_of}
use Rattle.mufom_module.specs.Grammar.{FileParts, header_of, parts_of, after_header, from_sections, indexes_of, offsets_in, StandAt, IsLetterOf}
use Rattle.mufom_module.specs.Grammar.{NamesModule, Describes, States}
use Rattle.mufom_judging.specs.Prefixes.{Step, prefix_bytes, records_of, first_present}
use Rattle.mufom_judging.specs.Faults.{is_bad_descriptor}
use Rattle.mufom_judging.specs.Stated.{indexes_in, bytes_between, IsStatedBy}
use Rattle.mufom_judging.specs.RecordFields.{order_of}
use Rattle.mufom_judging.proofs.ended.Rows.{IsOrder}
use Rattle.mufom_judging.proofs.BlockKinds.{none_before}
use Rattle.mufom_judging.proofs.ended.Parts.{KeptFrom, own_of}
use Rattle.mufom_judging.proofs.ended.Sliced.{Sliced}
use Rattle.mufom_judging.proofs.ended.Names.{assigned-append}
use Rattle.mufom_judging.proofs.ended.Blocks.{debug_closes}
use Rattle.mufom_judging.proofs.ended.Gathered.{AreSorted, same_sections, same_indexes, same_publics, same_references, same_marks, same_loads, same_starts}
use Rattle.mufom_records.specs.declared.options.ReadOptions.{ReadOptions}

-- ---- the order of bytes

letter_by_test : (b : ℕ) (least most : Bool) → (0xCC == b) ≡ least → (0xCD == b) ≡ most → (least || (most || false)) ≡ true
    → IsLetterOf (cond least Least Most) (Some b)
letter_by_test b true most e d h = ap (λ (n : ℕ). Some n) (sym (eqb-true 0xCC b e))
letter_by_test b false true e d h = inl (ap (λ (n : ℕ). Some n) (sym (eqb-true 0xCD b d)))
letter_by_test b false false e d h = cc

letter_of : (o : Option ℕ) → IsOrder o → IsLetterOf (order_of o) o
letter_of None h = inr refl
letter_of (Some b) h = letter_by_test b (0xCC == b) (0xCD == b) refl refl h

-- ---- at most one start

is_start : (row : Record) → stands_in trailer_part row ≡ true → assigned_by row ≡ Some start_address
is_start (r.Start value) h = refl
is_start row h = cc

started : (before : List SpelledRecord) (p : SpelledRecord) → stands_in trailer_part p.row ≡ true → is_assigned (before ++ p ∷ []) start_address ≡ true
started before p h =
    assigned-append before (p ∷ []) start_address
    ∙ or_right (is_assigned before start_address) (is_assigned (p ∷ []) start_address)
    (ap (λ o. list_any (is_same_statement start_address) (cons_option o [])) (is_start p.row h))

no_more : (before records : List SpelledRecord) → KeptFrom trailer_part before records → is_assigned before start_address ≡ true → records ≡ []
no_more before [] own h = refl
no_more before (p ∷ records) own h =
    absurd (both_ways (is_assigned before start_address) (ap (λ o. any_of (is_assigned before) o) (sym (is_start p.row own.0)) ∙ own.1.once) h)

one_start : (ix : Indexes) (before records : List SpelledRecord) → KeptFrom trailer_part before records
    → option_to_list (slice_get (starts_of ix records) 0) ≡ starts_of ix records
one_start ix before [] own = refl
one_start ix before (p ∷ records) own =
    let none = no_more (before ++ p ∷ []) records own.2 (started before p own.0) in
    subst (λ (l : List SpelledRecord). option_to_list (slice_get (starts_of ix (p ∷ l)) 0) ≡ starts_of ix (p ∷ l)) (sym none) (alone (start_by ix p p.row))
  where
    alone : (o : Option Tree) → option_to_list (slice_get (cons_option o []) 0) ≡ cons_option o []
    alone None = refl
    alone (Some tree) = refl

-- ---- the module

abbrev pub module_by : FileParts → Span → Span → ℕ → Option ℕ → Parts
module_by f processor name maus letter = record {
  processor = text_in f.begin processor;
  name = text_in f.begin name;
  maus = maus;
  order = order_of letter;
  ext = f.extension;
  env = f.environment;
  sections = sections_of f.sections;
  names = record { publics = publics_of (indexes_of f) f.externals; references = references_of f.externals };
  debug = rebuilt (marks (indexes_of f) f.debug) [] [];
  loads = loads_of (indexes_of f) maus f.loads;
  start = slice_get (starts_of (indexes_of f) f.trailer) 0;
}

abbrev pub stated_by : (options : ReadOptions) (prefix : List Step) → Sliced options prefix → Parts
stated_by options prefix s = module_by s.f s.begins.0 s.begins.1 s.describes.1 s.describes.2

-- what a descriptor without an error states
pub units_of : (bits maus : ℕ) (letter : Option ℕ) → is_bad_descriptor (r.Descriptor bits maus letter) ≡ false → (bits ≡ 8) × (is_unit_count maus ≡ true)
units_of bits maus letter h = let both = and_parts (bits == 8) (is_unit_count maus) (not-false ((bits == 8) && is_unit_count maus) h) in
    (eqb-true bits 8 both.0, both.1)

-- its debug items have the marks of the records
pub its_marks : (options : ReadOptions) (prefix : List Step) (s : Sliced options prefix) → marks_of (stated_by options prefix s).debug
    ≡ marks (indexes_of s.f) s.f.debug
its_marks options prefix s = rebuilt-marks (marks (indexes_of s.f) s.f.debug) [] []
    (debug_closes (indexes_of s.f) debug_part ((header_of s.f ++ s.f.sections) ++ s.f.externals) s.f.debug
    (none_before (header_of s.f) s.f.sections s.f.externals s.silent (own_of section_part _ s.f.sections s.keep_sections)
    (own_of external_part _ s.f.externals s.keep_externals)) s.keep_debug s.closed)

named : (options : ReadOptions) (prefix : List Step) (s : Sliced options prefix) → NamesModule (stated_by options prefix s) s.f.begin s.f.begin.row
named options prefix s = subst (λ (row : Record). NamesModule (stated_by options prefix s) s.f.begin row) (sym s.begins.2) (refl, refl)

described : (options : ReadOptions) (prefix : List Step) (s : Sliced options prefix) → Describes (stated_by options prefix s) s.f.descriptor.row
described options prefix s =
    let kept = units_of s.describes.0 s.describes.1 s.describes.2 (subst (λ (row : Record). is_bad_descriptor row ≡ false) s.describes.3 s.no_bad) in
    subst (λ (row : Record). Describes (stated_by options prefix s) row) (sym s.describes.3) (kept.0, refl, letter_of s.describes.2 s.describes.4)

pub states : (options : ReadOptions) (prefix : List Step) (s : Sliced options prefix) → States s.f (indexes_of s.f) (stated_by options prefix s)
states options prefix s = record {
  begin = named options prefix s;
  descriptor = described options prefix s;
  extension = refl;
  environment = refl;
  sections = refl;
  publics = refl;
  references = refl;
  debug = its_marks options prefix s;
  loads = refl;
  start = one_start (indexes_of s.f) _ s.f.trailer s.keep_trailer;
}

-- ---- the bytes of parts that are not read as records

pub stand_parts : (w : ℕ) (offsets : List ℕ) (n : ℕ) (x : List ℕ) (parts : List (List ℕ)) → StandAt (w ∷ offsets) n (x ∷ parts)
    → ((w ≡ n) ⊎ ((w ≡ 0) × (x ≡ []))) × StandAt offsets (n + length x) parts
stand_parts w offsets n x parts h = h

pub first_at : (offsets : List ℕ) (n : ℕ) (parts : List (List ℕ)) → 1 ≤ n → StandAt offsets n parts → first_present offsets ≡ n
first_at offsets n [] some h = ap first_present h ∙ present n some where
  present : (n : ℕ) → 1 ≤ n → first_present (n ∷ []) ≡ n
  present zero some = absurd (omega arith)
  present (suc n) some = refl
first_at [] n (x ∷ parts) some h = absurd h
first_at (zero ∷ offsets) n (x ∷ parts) some h = let both = stand_parts 0 offsets n x parts h in elim both.0 [
  | inl here ↦ absurd (omega arith)
  | inr none ↦ first_at offsets (n + length x) parts (omega arith) both.1 ∙ ap (λ (l : List ℕ). n + length l) none.1 ∙ omega arith
]
first_at (suc w ∷ offsets) n (x ∷ parts) some h = elim (stand_parts (suc w) offsets n x parts h).0 [
  | inl here ↦ here
  | inr none ↦
      absurd (omega (arith, none.0))
]

between : (w : ℕ) (offsets pre x rest : List ℕ) (parts : List (List ℕ)) → 1 ≤ length pre → StandAt (w ∷ offsets) (length pre) (x ∷ parts) → x
    ≡ bytes_between (w ∷ offsets) (pre ++ (x ++ rest))
between zero offsets pre x rest parts some h = elim (stand_parts 0 offsets (length pre) x parts h).0 [ inl here ↦ absurd (omega arith) | inr none ↦ none.1 ]
between (suc w) offsets pre x rest parts some h = let both = stand_parts (suc w) offsets (length pre) x parts h in elim both.0 [
  | inl here ↦ between_at (suc w) (first_present offsets) pre x rest here (first_at offsets (length pre + length x) parts (omega arith) both.1)
  | inr none ↦ absurd (omega (arith, none.0))
]
  where
    between_at : (from to : ℕ) (pre x rest : List ℕ) → from ≡ length pre → to ≡ length pre + length x → x ≡ slice_range (pre ++ (x ++ rest)) from to
    between_at from to pre x rest a b = sym (ap (take (to - from)) (drop_at pre (x ++ rest) from (sym a)) ∙ take_at x rest (to - from) (omega arith))

pub extension_between : (f : FileParts) (offsets : List ℕ) (all : List ℕ) → all ≡ bytes_of (header_of f) ++ after_header f
    → 1 ≤ length (bytes_of (header_of f)) → StandAt offsets (length (bytes_of (header_of f))) (parts_of f)
    → f.extension ≡ bytes_between offsets all
extension_between f [] all split some h = absurd h
extension_between f (w ∷ offsets) all split some h =
    between w offsets (bytes_of (header_of f)) f.extension (f.environment ++ from_sections f) (drop 1 (parts_of f)) some h
    ∙ ap (bytes_between (w ∷ offsets)) (sym split)

pub environment_between : (f : FileParts) (offsets : List ℕ) (all : List ℕ) → all ≡ bytes_of (header_of f) ++ after_header f
    → 1 ≤ length (bytes_of (header_of f)) → StandAt offsets (length (bytes_of (header_of f))) (parts_of f)
    → f.environment ≡ bytes_between (drop 1 offsets) all
environment_between f [] all split some h = absurd h
environment_between f (w ∷ []) all split some h = absurd h.1
environment_between f (w ∷ v ∷ offsets) all split some h =
    let header = bytes_of (header_of f) in
    let long = length-append header f.extension in
    let there : StandAt (v ∷ offsets) (length (header ++ f.extension)) (drop 1 (parts_of f)) =
    subst (λ (n : ℕ). StandAt (v ∷ offsets) n (drop 1 (parts_of f))) (sym long) h.1 in
    between v offsets (header ++ f.extension) f.environment (from_sections f) (drop 2 (parts_of f)) (omega arith) there
    ∙ ap (bytes_between (v ∷ offsets)) (append_assoc header f.extension (f.environment ++ from_sections f) ∙ sym split)

pub begun : (row : Record) (bytes : List ℕ) (next : Option ℕ) → IsWholeRecord mode.Begin row bytes next → 1 ≤ length bytes
begun row bytes next is = let e = ap length is.5 ∙ length-append is.1 is.2 in let one = ap length is.3 in omega arith

-- ---- the prefix states the module

pub sorted : (options : ReadOptions) (prefix : List Step) (s : Sliced options prefix)
    → AreSorted (header_of s.f) s.f.sections s.f.externals s.f.debug s.f.loads s.f.trailer s.end
sorted options prefix s = record {
  header = s.silent;
  sections = own_of section_part _ s.f.sections s.keep_sections;
  externals = own_of external_part _ s.f.externals s.keep_externals;
  debug = own_of debug_part _ s.f.debug s.keep_debug;
  loads = own_of data_part _ s.f.loads s.keep_loads;
  trailer = own_of trailer_part _ s.f.trailer s.keep_trailer;
  end_ = s.ends;
}

-- the index lists of the file
pub same_ix : (options : ReadOptions) (prefix : List Step) (s : Sliced options prefix) → indexes_in (records_of prefix) ≡ indexes_of s.f
same_ix options prefix s =
    ap (λ l. indexes_in l) s.records ∙ same_indexes (header_of s.f) s.f.sections s.f.externals s.f.debug s.f.loads s.f.trailer s.end
    (sorted options prefix s)

pub is_stated : (options : ReadOptions) (prefix : List Step) (s : Sliced options prefix) → IsStatedBy prefix (stated_by options prefix s)
is_stated options prefix s =
    let f = s.f in
    let h = header_of f in
    let are = sorted options prefix s in
    let ix = same_ix options prefix s in
    let some : 1 ≤ length (bytes_of h) = let e = length-append f.begin.bytes (bytes_of (f.descriptor ∷ f.offsets)) in let one =
    begun f.begin.row f.begin.bytes _ s.header.0 in omega arith in
    record {
      begin = f.begin;
      descriptor = f.descriptor;
      after = (((((f.offsets ++ f.sections) ++ f.externals) ++ f.debug) ++ f.loads) ++ f.trailer) ++ s.end ∷ [];
      records = s.records;
      begins = named options prefix s;
      describes = described options prefix s;
      extension = extension_between f (offsets_in f.offsets) (prefix_bytes prefix) s.bytes some s.stand
          ∙ ap (λ ws. bytes_between ws (prefix_bytes prefix)) (sym s.offsets);
      environment = environment_between f (offsets_in f.offsets) (prefix_bytes prefix) s.bytes some s.stand
          ∙ ap (λ ws. bytes_between (drop 1 ws) (prefix_bytes prefix)) (sym s.offsets);
      sections = sym (ap (λ l. sections_of l) s.records ∙ same_sections h f.sections f.externals f.debug f.loads f.trailer s.end are);
      publics = sym ((λ i. publics_of (ix i) (s.records i)) ∙ same_publics (indexes_of f) h f.sections f.externals f.debug f.loads f.trailer s.end are);
      references = sym (ap (λ l. references_of l) s.records ∙ same_references h f.sections f.externals f.debug f.loads f.trailer s.end are);
      debug = its_marks options prefix s ∙ sym ((λ i. marks (ix i) (s.records i))
          ∙ same_marks (indexes_of f) h f.sections f.externals f.debug f.loads f.trailer s.end are);
      loads = sym ((λ i. loads_of (ix i) s.describes.1 (s.records i))
          ∙ same_loads (indexes_of f) s.describes.1 h f.sections f.externals f.debug f.loads f.trailer s.end are);
      start = one_start (indexes_of f) _ f.trailer s.keep_trailer
          ∙ sym ((λ i. starts_of (ix i) (s.records i)) ∙ same_starts (indexes_of f) h f.sections f.externals f.debug f.loads f.trailer s.end are);
    }
