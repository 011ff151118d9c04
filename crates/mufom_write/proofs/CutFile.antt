-- A written form is cut into the records of its header and its parts.
use Rattle.std.proofs.Common.{◌≡◌, ℕ, zero, suc, ◌+◌, ◌^◌, ◌<◌, ◌≤◌, true, false, List, [], ◌∷◌, ◌++◌, length, Some, None, refl, sym, subst, ap, ◌∙◌}
use Rattle.std.proofs.Common.{inl, inr, arith, append_assoc, length-append}
use Rattle.std.specs.List.{AllByRecursion}
use Rattle.std.proofs.lemmas.List.{append-nil}
use Rattle.mufom_numbers.specs.Spelling.{AreBytes}
use Rattle.mufom_records.specs.declared.record.Mode.{Mode}
use Rattle.mufom_records.specs.declared.record.Mode.TheVariants as mode
use Rattle.mufom_records.specs.declared.record.Record.TheVariants as r
use Rattle.mufom_records.specs.Fields.{first_of}
use Rattle.mufom_debug.specs.Marks.{joined, marks_of}
use Rattle.mufom_module.proofs.GnuLaws.{plainly}
use Rattle.mufom_module.specs.declared.module.Parts.{Parts}
use Rattle.mufom_module.specs.SpelledRecords.{SpelledRecord, bytes_of}
use Rattle.mufom_module.specs.RecordParts.{section_part, external_part, debug_part, trailer_part}
use Rattle.mufom_module.specs.Grammar.{FileParts, header_of, parts_of, module_end, from_trailer, from_loads, from_debug, from_externals, after_header}
use Rattle.mufom_module.specs.Grammar.{AreOfModes, offsets_in, StandAt, file_limit, IsCutInto}
use Rattle.mufom_module.specs.Written.{shortest, written, each_from}
use Rattle.mufom_module.specs.Written as w
use Rattle.mufom_module.specs.Defects.{is_long}
use Rattle.mufom_write.proofs.Placing.{zeros, length-offset_records}
use Rattle.mufom_write.proofs.Rows.{IsCode, text_at}
use Rattle.mufom_write.proofs.HeaderRows.{module_name_at, begin-whole, descriptor-whole, offset-whole}
use Rattle.mufom_write.proofs.Laying.{spelled, records_from, is_part, part-code}
use Rattle.mufom_write.proofs.SectionRecords.{section_records, IsFittingSection, sections-bytes, sections-records}
use Rattle.mufom_write.proofs.NameRecords.{external_records, IsFittingPublic, IsFittingReference, externals-bytes, externals-records}
use Rattle.mufom_write.proofs.DebugRecords.{mark_records, AreFittingMarks, marks-bytes, marks-records}
use Rattle.mufom_write.proofs.LoadRecords.{loads_records, start_records, IsFittingLoad, IsFittingStart, loads-bytes, loads-part, loads-code}
use Rattle.mufom_write.proofs.LoadRecords.{start-bytes, start-records}

-- ---- the file

abbrev pub offset_spellings : ℕ → List ℕ → List SpelledRecord
offset_spellings k [] = []
offset_spellings k (offset ∷ offsets) = spelled (r.Offset k offset) (w.offset_record shortest k offset) ∷ offset_spellings (k + 1) offsets

-- the written form as records
abbrev pub file_of : Parts → FileParts
file_of m = record {
  begin = spelled (r.ModuleBegin (text_at 1 m.processor) (module_name_at m.processor m.name))
      (0xE0 ∷ (w.string shortest m.processor ++ w.string shortest m.name));
  descriptor = spelled (r.Descriptor 8 m.maus (Some (w.order_letter m.order)))
      (0xEC ∷ (w.number shortest 8 ++ (w.number shortest m.maus ++ w.order_letter m.order ∷ [])));
  offsets = offset_spellings 0 (w.offsets shortest m);
  extension = m.ext;
  environment = m.env;
  sections = records_from 0 section_records m.sections;
  externals = external_records m.names.publics m.names.references;
  debug = mark_records 0 (marks_of m.debug);
  skipped = [];
  loads = loads_records m.loads;
  trailer = start_records m.start;
}

-- what keeps a module within the bounds of the form
pub record IsFittingModule (m : Parts) : Type 0 where
  pub short_processor : is_long m.processor ≡ false
  pub processor : AreBytes m.processor
  pub short_name : is_long m.name ≡ false
  pub name : AreBytes m.name
  pub maus : m.maus < 2 ^ 64
  pub few_sections : length m.sections < 2 ^ 32
  pub sections : AllByRecursion IsFittingSection m.sections
  pub few_publics : length m.names.publics + 32 ≤ 2 ^ 32
  pub few_references : length m.names.references + 11 ≤ 2 ^ 32
  pub publics : AllByRecursion IsFittingPublic m.names.publics
  pub references : AllByRecursion IsFittingReference m.names.references
  pub debug : AreFittingMarks 0 (marks_of m.debug)
  pub loads : AllByRecursion IsFittingLoad m.loads
  pub start : IsFittingStart m.start
  pub offsets : AllByRecursion (λ offset. offset < 2 ^ 32) (w.offsets shortest m)
  pub eight : length (w.offsets shortest m) ≡ 8

-- ---- the bytes

-- lists one after another, and an end after them
abbrev chained : List (List ℕ) → List ℕ → List ℕ
chained [] end = end
chained (x ∷ xs) end = x ++ chained xs end

joined-after : (xs : List (List ℕ)) (end : List ℕ) → joined xs ++ end ≡ chained xs end
joined-after [] end = refl
joined-after (x ∷ xs) end = append_assoc x (joined xs) end ∙ ap (λ (l : List ℕ). x ++ l) (joined-after xs end)

offsets-bytes : (k : ℕ) (offsets : List ℕ) → bytes_of (offset_spellings k offsets) ≡ each_from k (w.offset_record shortest) offsets
offsets-bytes k [] = refl
offsets-bytes k (offset ∷ offsets) = ap (λ (l : List ℕ). w.offset_record shortest k offset ++ l) (offsets-bytes (k + 1) offsets)

module _ (m : Parts) where
  parts-same : w.parts shortest m ≡ parts_of (file_of m)
  parts-same =
      let s = sections-bytes 0 m.sections in
      let e = externals-bytes m.names.publics m.names.references in
      let d = append-nil (bytes_of (mark_records 0 (marks_of m.debug))) ∙ marks-bytes 0 (marks_of m.debug) in
      let l = loads-bytes 0 m.loads in
      let t = start-bytes m.start in
      λ i. m.ext ∷ m.env ∷ sym s i ∷ sym e i ∷ sym d i ∷ sym l i ∷ sym t i ∷ []

  after-same : joined (w.parts shortest m) ++ module_end ≡ after_header (file_of m)
  after-same = ap (λ (ps : List (List ℕ)). joined ps ++ module_end) parts-same ∙ joined-after (parts_of (file_of m)) module_end

  header-same : w.module_begin shortest m ++ each_from 0 (w.offset_record shortest) (w.offsets shortest m) ≡ bytes_of (header_of (file_of m))
  header-same =
      let f = file_of m in
      append_assoc f.begin.bytes f.descriptor.bytes (each_from 0 (w.offset_record shortest) (w.offsets shortest m))
      ∙ ap (λ (l : List ℕ). f.begin.bytes ++ (f.descriptor.bytes ++ l)) (sym (offsets-bytes 0 (w.offsets shortest m)))

  all-same : written m ≡ bytes_of (header_of (file_of m)) ++ after_header (file_of m)
  all-same =
      let o = each_from 0 (w.offset_record shortest) (w.offsets shortest m) in
      sym (append_assoc (w.module_begin shortest m) o (joined (w.parts shortest m) ++ module_end))
      ∙ (λ i. header-same i ++ after-same i)

-- ---- the header

abbrev modes_from : ℕ → ℕ → List Mode
modes_from k zero = []
modes_from k (suc n) = mode.Offset k ∷ modes_from (k + 1) n

offsets-modes : (k n : ℕ) (offsets : List ℕ) (after : List ℕ) → length offsets ≡ n → k + n < 2 ^ 64
    → AllByRecursion (λ offset. offset < 2 ^ 32) offsets → AreOfModes (modes_from k n) (offset_spellings k offsets) after
offsets-modes k zero [] after count few fit = tt
offsets-modes k zero (offset ∷ offsets) after count few fit = absurd (omega (arith, count))
offsets-modes k (suc n) [] after count few fit = absurd (omega (arith, count))
offsets-modes k (suc n) (offset ∷ offsets) after count few fit = (
  offset-whole k offset (first_of (bytes_of (offset_spellings (k + 1) offsets) ++ after) None) (omega (arith, few)) fit.0,
  offsets-modes (k + 1) n offsets after (omega (arith, count)) (omega (arith, few)) fit.1,
)

-- ---- the offsets

pub offsets_in-records : (k : ℕ) (offsets : List ℕ) → offsets_in (offset_spellings k offsets) ≡ offsets
offsets_in-records k [] = refl
offsets_in-records k (offset ∷ offsets) = ap (λ (l : List ℕ). offset ∷ l) (offsets_in-records (k + 1) offsets)

stand-at : (at : ℕ) (parts : List (List ℕ)) → StandAt (w.offsets_from at parts) at parts
stand-at at [] = refl
stand-at at ([] ∷ parts) = (inr (refl, refl), subst (λ (n : ℕ). StandAt (w.offsets_from at parts) n parts) (omega arith) (stand-at at parts))
stand-at at ((b ∷ bytes) ∷ parts) = (inl refl, stand-at (at + length (b ∷ bytes)) parts)

module _ (m : Parts) (fits : IsFittingModule m) where
  header-length : w.header_length shortest m ≡ length (bytes_of (header_of (file_of m)))
  header-length =
      let b = w.module_begin shortest m in
      let o = each_from 0 (w.offset_record shortest) (w.offsets shortest m) in
      let z = each_from 0 (w.offset_record shortest) zeros in
      let first = length-append b z in
      let second = length-append b o in
      let same = length-offset_records 0 (w.offsets shortest m) zeros fits.eight in
      let whole = ap length (header-same m) in
      omega (arith, first, second, same, whole)

  offsets-stand : StandAt (offsets_in (file_of m).offsets) (length (bytes_of (header_of (file_of m)))) (parts_of (file_of m))
  offsets-stand =
      subst (λ (offsets : List ℕ). StandAt offsets (length (bytes_of (header_of (file_of m)))) (parts_of (file_of m)))
      (sym (offsets_in-records 0 (w.offsets shortest m)))
      (subst (λ (at : ℕ). StandAt (w.offsets shortest m) at (parts_of (file_of m))) header-length
      (subst (λ (parts : List (List ℕ)). StandAt (w.offsets shortest m) (w.header_length shortest m) parts) (parts-same m)
      (stand-at (w.header_length shortest m) (w.parts shortest m))))

  -- ---- what is after each part

  after_trailer : IsCode (first_of (from_trailer (file_of m)) None)
  after_trailer = part-code trailer_part (start_records m.start) module_end (start-records m.start fits.start) (omega arith)

  after_loads : IsCode (first_of (from_loads (file_of m)) None)
  after_loads = loads-code m.loads (from_trailer (file_of m)) fits.loads after_trailer

  after_debug : IsCode (first_of (from_debug (file_of m)) None)
  after_debug =
      let marks = mark_records 0 (marks_of m.debug) in
      subst (λ (l : List ℕ). IsCode (first_of (l ++ from_loads (file_of m)) None)) (sym (append-nil (bytes_of marks)))
      (part-code debug_part marks (from_loads (file_of m)) (marks-records 0 (marks_of m.debug) fits.debug) after_loads)

  after_externals : IsCode (first_of (from_externals (file_of m)) None)
  after_externals =
      part-code external_part (external_records m.names.publics m.names.references) (from_debug (file_of m))
      (externals-records m.names.publics m.names.references fits.few_publics fits.few_references fits.publics fits.references) after_debug

  -- what is written is a file that is cut into these parts
  pub cut : length (written m) ≤ file_limit → IsCutInto (written m) (plainly true) (file_of m)
  cut few = record {
    all = all-same m;
    limit = few;
    header = (
      begin-whole m.processor m.name (first_of (bytes_of ((file_of m).descriptor ∷ (file_of m).offsets) ++ after_header (file_of m)) None)
          fits.short_processor fits.processor fits.short_name fits.name,
      (
        descriptor-whole m.maus m.order (first_of (bytes_of (file_of m).offsets ++ after_header (file_of m)) None) fits.maus,
        offsets-modes 0 8 (w.offsets shortest m) (after_header (file_of m)) fits.eight (omega arith) fits.offsets,
      ),
    );
    offsets = offsets-stand;
    sections = is_part section_part (records_from 0 section_records m.sections) (from_externals (file_of m))
        (sections-records 0 m.sections (omega (arith, fits.few_sections)) fits.sections) after_externals;
    externals = is_part external_part (external_records m.names.publics m.names.references) (from_debug (file_of m))
        (externals-records m.names.publics m.names.references fits.few_publics fits.few_references fits.publics fits.references) after_debug;
    debug = is_part debug_part (mark_records 0 (marks_of m.debug)) (from_loads (file_of m)) (marks-records 0 (marks_of m.debug) fits.debug) after_loads;
    debug_read = refl;
    loads = loads-part m.loads (from_trailer (file_of m)) fits.loads after_trailer;
    trailer = is_part trailer_part (start_records m.start) module_end (start-records m.start fits.start) (omega arith);
  }
