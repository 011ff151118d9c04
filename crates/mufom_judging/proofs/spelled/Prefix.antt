-- A module's file is one sound prefix, which ends with the stream and states the module.
use Rattle.std.proofs.Common.{◌≡◌, ℕ, ◌≤◌, Bool, true, false, List, [], ◌∷◌, ◌++◌, length, map, drop, None, MatchBool, refl, sym, ap, subst, ◌∙◌, ◌+◌}
use Rattle.std.proofs.Common.{arith, append_assoc, append-nil, ne_eqb, cond, inr, eq-eqb, inl, length-append, not, ◌⊎◌, ◌<◌, ◌==◌, ◌&&◌}
use Rattle.std.specs.List.{list_any}
use Rattle.std.proofs.lemmas.List.{take_all}
use Rattle.mufom_records.specs.declared.record.Mode.TheVariants as mode
use Rattle.mufom_records.specs.declared.record.Record.TheVariants as r
use Rattle.mufom_records.specs.Layouts.{IsWholeRecord}
use Rattle.mufom_debug.specs.Marks.{joined}
use Rattle.mufom_module.specs.declared.module.Parts.{Parts}
use Rattle.mufom_module.specs.Defects as d
use Rattle.mufom_module.specs.SpelledRecords.{SpelledRecord, bytes_of}
use Rattle.mufom_module.specs.RecordParts.{extension_part, environment_part, section_part, external_part, debug_part, data_part, trailer_part}
use Rattle.mufom_module.specs.Gathered.{sections_of, publics_of, references_of, marks, loads_of, starts_of}
use Rattle.mufom_module.specs.Grammar.{file_limit, FileParts, header_of, debug_bytes, module_end, from_trailer, from_loads, from_debug}
use Rattle.mufom_module.specs.Grammar.{from_externals, after_header, AreWhole, offsets_in, StandAt, IsCutInto, indexes_of, HasNames, States}
use Rattle.mufom_judging.specs.Prefixes.{Step, read, prefix_bytes, size_of, records_of, offsets_of, Location, at_end, location_after, parts_in_order, is_ended}
use Rattle.mufom_judging.specs.Faults.{record_fault, whole_fault}
use Rattle.mufom_judging.specs.Judging.{IsSoundFrom, within_limit}
use Rattle.mufom_judging.specs.Stated.{indexes_in, bytes_between, IsStatedBy}
use Rattle.mufom_judging.specs.Laws.{ModuleIsEndedPrefix}
use Rattle.mufom_judging.proofs.BlockKinds.{open_kinds}
use Rattle.mufom_judging.proofs.ended.Walk.{bytes-append, records-append, size-append}
use Rattle.mufom_judging.proofs.ended.Header.{ended-read, offsets-append}
use Rattle.mufom_judging.proofs.ended.Parts.{KeptFrom}
use Rattle.mufom_judging.proofs.ended.Gathered.{AreSorted, all_records, same_sections, same_indexes, same_publics, same_references, same_marks}
use Rattle.mufom_judging.proofs.ended.Gathered.{same_loads, same_starts}
use Rattle.mufom_judging.proofs.ended.Slicing.{grown, same_records}
use Rattle.mufom_judging.proofs.ended.Stated.{extension_between, environment_between}
use Rattle.mufom_judging.proofs.spelled.Walk.{steps_of, raw_steps, steps_bytes, steps_records, raw_none, IsStep, sound_step, sound-append, next_read}
use Rattle.mufom_judging.proofs.ended.Seen.{not_zero_offset, first_same, empty_of}
use Rattle.mufom_judging.proofs.spelled.Parts.{Joint, Content, Around, raw_content, read_content, Contents, walk_contents}
use Rattle.mufom_judging.proofs.spelled.Kept.{section_whole, external_whole, debug_whole}
use Rattle.mufom_judging.proofs.spelled.Offsets.{HeaderRows, header_rows, header_prefix, header_joint, header_size}
use Rattle.mufom_judging.proofs.spelled.File.{IsSound, sound_module, no_bad_descriptor, AreKept, are_kept}
use Rattle.mufom_records.specs.declared.options.ReadOptions.{ReadOptions}
use Rattle.mufom_module.specs.Grammar.{ends_before_debug, debug_offset, seen_from_debug, seen_from_externals}
use Rattle.mufom_records.specs.Fields.{first_of}
use Rattle.mufom_judging.proofs.spelled.Walk.{raw_bytes}
use Rattle.std.proofs.lemmas.Bool.{cases_eq}

-- ---- the prefix

-- the record that ends the module
abbrev the_end : SpelledRecord
the_end = record { row = r.ModuleEnd; bytes = 0xE1 ∷ [] }

-- the steps of the file up to each part
abbrev up_to_extension : FileParts → List Step
up_to_extension f = steps_of 0 (header_of f)

abbrev up_to_environment : FileParts → List Step
up_to_environment f = up_to_extension f ++ raw_steps f.extension

abbrev up_to_sections : FileParts → List Step
up_to_sections f = up_to_environment f ++ raw_steps f.environment

abbrev section_steps : FileParts → List Step
section_steps f = steps_of (size_of (up_to_sections f)) f.sections

abbrev up_to_externals : FileParts → List Step
up_to_externals f = up_to_sections f ++ section_steps f

abbrev external_steps : FileParts → List Step
external_steps f = steps_of (size_of (up_to_externals f)) f.externals

abbrev up_to_debug : FileParts → List Step
up_to_debug f = up_to_externals f ++ external_steps f

-- of the debug part, its records, or the bytes that are skipped
abbrev debug_steps : FileParts → List Step
debug_steps f = steps_of (size_of (up_to_debug f)) f.debug ++ raw_steps f.skipped

abbrev up_to_loads : FileParts → List Step
up_to_loads f = up_to_debug f ++ debug_steps f

abbrev load_steps : FileParts → List Step
load_steps f = steps_of (size_of (up_to_loads f)) f.loads

abbrev up_to_trailer : FileParts → List Step
up_to_trailer f = up_to_loads f ++ load_steps f

abbrev trailer_steps : FileParts → List Step
trailer_steps f = steps_of (size_of (up_to_trailer f)) f.trailer

-- the steps of the parts, and their bytes
abbrev contents_of : FileParts → List (List Step)
contents_of f = raw_steps f.extension ∷ raw_steps f.environment ∷ section_steps f ∷ external_steps f ∷ debug_steps f ∷ load_steps f ∷ trailer_steps f ∷ []

abbrev texts_of : FileParts → List (List ℕ)
texts_of f = f.extension ∷ f.environment ∷ bytes_of f.sections ∷ bytes_of f.externals ∷ debug_bytes f ∷ bytes_of f.loads ∷ bytes_of f.trailer ∷ []

-- all steps
abbrev up_to_end : FileParts → List Step
up_to_end f = steps_of 0 (header_of f) ++ joined (contents_of f)

abbrev prefix_of : FileParts → List Step
prefix_of f = steps_of 0 (header_of f) ++ (joined (contents_of f) ++ read (size_of (up_to_end f)) the_end ∷ [])

-- ---- the bytes after a part

abbrev chained : List (List ℕ) → List ℕ → List ℕ
chained [] end = end
chained (x ∷ xs) end = x ++ chained xs end

joined-chained : (xs : List (List ℕ)) (end : List ℕ) → joined xs ++ end ≡ chained xs end
joined-chained [] end = refl
joined-chained (x ∷ xs) end = append_assoc x (joined xs) end ∙ ap (λ l. x ++ l) (joined-chained xs end)

-- ---- contents

-- no bytes are skipped
read_alone : (options : ReadOptions) (all : List ℕ) (before : List Step) (records : List SpelledRecord) (skipped after : List ℕ) → skipped ≡ []
    → Content options all debug_part before (steps_of (size_of before) records) (bytes_of records) after
    → Content options all debug_part before (steps_of (size_of before) records ++ raw_steps skipped) (bytes_of records ++ skipped) after
read_alone options all before records skipped after none content =
    let steps = steps_of (size_of before) records in
    let bytes = bytes_of records in
    let whole : Content options all debug_part before (steps ++ []) (bytes ++ []) after =
    subst (λ (x : List Step × List ℕ). Content options all debug_part before x.0 x.1 after)
    (λ i. (sym (append-nil steps) i, sym (append-nil bytes) i)) content in
    subst (λ (l : List ℕ). Content options all debug_part before (steps ++ raw_steps l) (bytes ++ l) after) (sym none) whole

-- no record is read
raw_alone : (options : ReadOptions) (all : List ℕ) (before : List Step) (records : List SpelledRecord) (skipped after : List ℕ) → records ≡ []
    → Content options all debug_part before (raw_steps skipped) skipped after
    → Content options all debug_part before (steps_of (size_of before) records ++ raw_steps skipped) (bytes_of records ++ skipped) after
raw_alone options all before records skipped after none content =
    subst (λ (l : List SpelledRecord). Content options all debug_part before (steps_of (size_of before) l ++ raw_steps skipped) (bytes_of l
    ++ skipped) after) (sym none) content

-- if no bytes are skipped, or no records are read, the steps are the others
no_raws : (before : List Step) (records : List SpelledRecord) (skipped : List ℕ) → skipped ≡ []
    → whole_fault debug_part (before ++ (steps_of (size_of before) records ++ raw_steps skipped)) ≡ None
    → whole_fault debug_part (before ++ steps_of (size_of before) records) ≡ None
no_raws before records skipped none h =
    let steps = steps_of (size_of before) records in
    ap (λ (l : List Step). whole_fault debug_part (before ++ l)) (sym (append-nil steps) ∙ ap (λ (l : List ℕ). steps ++ raw_steps l) (sym none)) ∙ h

no_reads : (before : List Step) (records : List SpelledRecord) (skipped : List ℕ) → records ≡ []
    → whole_fault debug_part (before ++ (steps_of (size_of before) records ++ raw_steps skipped)) ≡ None
    → whole_fault debug_part (before ++ raw_steps skipped) ≡ None
no_reads before records skipped none h = ap (λ (l : List SpelledRecord). whole_fault debug_part (before
    ++ (steps_of (size_of before) l ++ raw_steps skipped))) (sym none) ∙ h

debug_content : (options : ReadOptions) (all : List ℕ) (reads_debug : Bool) (before : List Step) (records : List SpelledRecord)
    (skipped seen after : List ℕ) → options.debug ≡ reads_debug
    → MatchBool reads_debug (skipped ≡ []) (records ≡ [])
    → Around options all (size_of before) (size_of before + length (bytes_of records)) seen after
    → AreWhole options false records seen → KeptFrom debug_part (records_of before) records
    → whole_fault debug_part (before ++ (steps_of (size_of before) records ++ raw_steps skipped)) ≡ None
    → Content options all debug_part before (steps_of (size_of before) records ++ raw_steps skipped) (bytes_of records ++ skipped) after
debug_content options all true before records skipped seen after same none around are own whole =
    read_alone options all before records skipped after none (read_content options all debug_part before records seen after
    (ap (λ (b : Bool). not b) same) refl around are own (no_raws before records skipped none whole))
debug_content options all false before records skipped seen after same none around are own whole =
    raw_alone options all before records skipped after none (raw_content options all debug_part before skipped after (ap (λ (b : Bool). not b) same)
    (no_reads before records skipped none whole))

-- ---- what is around each part

-- the offset of the debug part, by those of all parts
stand_debug : (ws : List ℕ) (n : ℕ) (x0 x1 x2 x3 x4 : List ℕ) (rest : List (List ℕ)) → StandAt ws n (x0 ∷ x1 ∷ x2 ∷ x3 ∷ x4 ∷ rest)
    → (debug_offset ws ≡ n + length x0 + length x1 + length x2 + length x3) ⊎ (debug_offset ws ≡ 0)
stand_debug [] n x0 x1 x2 x3 x4 rest stand = absurd stand
stand_debug (a ∷ []) n x0 x1 x2 x3 x4 rest stand = absurd stand.1
stand_debug (a ∷ (b ∷ [])) n x0 x1 x2 x3 x4 rest stand = absurd stand.1.1
stand_debug (a ∷ (b ∷ (c ∷ []))) n x0 x1 x2 x3 x4 rest stand = absurd stand.1.1.1
stand_debug (a ∷ (b ∷ (c ∷ (d ∷ [])))) n x0 x1 x2 x3 x4 rest stand = absurd stand.1.1.1.1
stand_debug (a ∷ (b ∷ (c ∷ (d ∷ (w ∷ more))))) n x0 x1 x2 x3 x4 rest stand = elim stand.1.1.1.1.0 [ inl here ↦ inl here | inr none ↦ inr none.0 ]

-- the sizes of the prefixes up to the parts
record Sizes (f : FileParts) : Type 0 where
  externals : size_of (up_to_externals f) ≡ size_of (up_to_sections f) + length (bytes_of f.sections)
  debug : size_of (up_to_debug f) ≡ size_of (up_to_externals f) + length (bytes_of f.externals)
  loads : size_of (up_to_loads f) ≡ size_of (up_to_debug f) + length (debug_bytes f)
  trailer : size_of (up_to_trailer f) ≡ size_of (up_to_loads f) + length (bytes_of f.loads)
  start : size_of (up_to_sections f) ≡ size_of (steps_of 0 (header_of f)) + length f.extension + length f.environment

steps_size : (before : List Step) (records : List SpelledRecord) → size_of (before ++ steps_of (size_of before) records) ≡ size_of before + length
    (bytes_of records)
steps_size before records = size-append before (steps_of (size_of before) records)
    ∙ ap (λ (l : List ℕ). size_of before + length l) (steps_bytes (size_of before) records)

raws_size : (before : List Step) (bytes : List ℕ) → size_of (before ++ raw_steps bytes) ≡ size_of before + length bytes
raws_size before bytes = size-append before (raw_steps bytes) ∙ ap (λ (l : List ℕ). size_of before + length l) (raw_bytes bytes)

sizes_of : (f : FileParts) → Sizes f
sizes_of f =
    let one = raws_size (up_to_extension f) f.extension in
    let two = raws_size (up_to_environment f) f.environment in
    let debug = size-append (up_to_debug f) (debug_steps f) in
    let bytes : prefix_bytes (debug_steps f) ≡ debug_bytes f = bytes-append (steps_of (size_of (up_to_debug f)) f.debug) (raw_steps f.skipped)
    ∙ (λ i. steps_bytes (size_of (up_to_debug f)) f.debug i ++ raw_bytes f.skipped i) in
    record {
      externals = steps_size (up_to_sections f) f.sections;
      debug = steps_size (up_to_externals f) f.externals;
      loads = debug ∙ ap (λ (l : List ℕ). size_of (up_to_debug f) + length l) bytes;
      trailer = steps_size (up_to_loads f) f.loads;
      start = omega (arith, one, two);
    }

there_of : (options : ReadOptions) (f : FileParts) → (debug_offset (offsets_in f.offsets) ≡ size_of (up_to_debug f)) ⊎
    (debug_offset (offsets_in f.offsets) ≡ 0)
    → ends_before_debug options (offsets_in f.offsets) ≡ true → debug_offset (offsets_in f.offsets) ≡ size_of (up_to_debug f)
there_of options f (inl here) ends = here
there_of options f (inr none) ends = absurd (not_zero_offset options (offsets_in f.offsets) ends none)

some_of : (own : List ℕ) → (length own ≡ 0 → ⊥) → 0 < length own
some_of [] some = absurd (some refl)
some_of (x ∷ own) some = omega arith

-- the sections and the externals: they end before the debug part or where it begins
around_before : (options : ReadOptions) (f : FileParts) (from to : ℕ) (own after : List ℕ)
    → (debug_offset (offsets_in f.offsets) ≡ size_of (up_to_debug f)) ⊎ (debug_offset (offsets_in f.offsets) ≡ 0)
    → size_of (up_to_debug f) ≡ to + length own → after ≡ own ++ from_debug f
    → Around options (offsets_in f.offsets) from to (own ++ seen_from_debug options f) after
around_before options f from to own after stood longer same = record {
  outside = elim stood [ inl here ↦ inr (inr (omega (arith, here, longer))) | inr none ↦ inl none ];
  sees = λ some. by_end (ends_before_debug options (offsets_in f.offsets)) refl;
  deep = λ ends.
      let there = there_of options f stood ends in
      let count = ap length same in
      let parts = length-append own (from_debug f) in
      let deeper = length-append (debug_bytes f) (from_loads f) in
      let loads = length-append (bytes_of f.loads) (from_trailer f) in
      let trailer = length-append (bytes_of f.trailer) module_end in
      omega (arith, there, longer, count, parts, deeper, loads, trailer);
} where
  by_end : (t : Bool) → ends_before_debug options (offsets_in f.offsets) ≡ t
      → first_of (cond (t && (to == debug_offset (offsets_in f.offsets))) module_end after) None ≡ first_of (own ++ cond t module_end (from_debug f)) None
  by_end false ends = ap (λ (l : List ℕ). first_of l None) same
  by_end true ends =
      let there = there_of options f stood ends in
      elim (cases_eq to (debug_offset (offsets_in f.offsets))) [
        | inl here ↦
            let yes : (to == debug_offset (offsets_in f.offsets)) ≡ true = eq-eqb to (debug_offset (offsets_in f.offsets)) here in
            rw yes (sym (ap (λ (l : List ℕ). first_of (l ++ module_end) None) (empty_of own (omega (arith, here, there, longer)))))
        | inr away ↦
            let no : (to == debug_offset (offsets_in f.offsets)) ≡ false = ne_eqb to (debug_offset (offsets_in f.offsets)) away in
            rw no (ap (λ (l : List ℕ). first_of l None) same
            ∙ first_same own (from_debug f) module_end (some_of own (λ none. away (omega (arith, there, longer, none)))))
      ]

-- the debug part and those after it
around_after : (options : ReadOptions) (f : FileParts) (from to : ℕ) (after : List ℕ)
    → (debug_offset (offsets_in f.offsets) ≡ size_of (up_to_debug f)) ⊎ (debug_offset (offsets_in f.offsets) ≡ 0)
    → size_of (up_to_debug f) ≤ from → from ≤ to → 0 < length after → Around options (offsets_in f.offsets) from to after after
around_after options f from to after stood low high some = record {
  outside = elim stood [ inl here ↦ inr (inl (omega (arith, here, low))) | inr none ↦ inl none ];
  sees = λ below. by_end (ends_before_debug options (offsets_in f.offsets)) refl below;
  deep = λ ends. let there = there_of options f stood ends in omega (arith, there, low, high, some);
} where
  by_end : (t : Bool) → ends_before_debug options (offsets_in f.offsets) ≡ t → from < to
      → first_of (cond (t && (to == debug_offset (offsets_in f.offsets))) module_end after) None ≡ first_of after None
  by_end false ends below = refl
  by_end true ends below =
      let there = there_of options f stood ends in
      let no : (to == debug_offset (offsets_in f.offsets)) ≡ false =
      ne_eqb to (debug_offset (offsets_in f.offsets)) (λ same. omega (arith, same, there, low, below)) in
      rw no refl

-- the records up to each part
record Up (f : FileParts) : Type 0 where
  sections : records_of (up_to_sections f) ≡ header_of f
  externals : records_of (up_to_externals f) ≡ header_of f ++ f.sections
  debug : records_of (up_to_debug f) ≡ (header_of f ++ f.sections) ++ f.externals
  loads : records_of (up_to_loads f) ≡ ((header_of f ++ f.sections) ++ f.externals) ++ f.debug
  trailer : records_of (up_to_trailer f) ≡ (((header_of f ++ f.sections) ++ f.externals) ++ f.debug) ++ f.loads

-- the records of the debug part
debug_records : (f : FileParts) → records_of (debug_steps f) ≡ f.debug
debug_records f =
    records-append (steps_of (size_of (up_to_debug f)) f.debug) (raw_steps f.skipped)
    ∙ (λ i. steps_records (size_of (up_to_debug f)) f.debug i ++ raw_none f.skipped i) ∙ append-nil f.debug

records_up : (f : FileParts) → Up f
records_up f =
    let h = header_of f in
    let a = same_records (up_to_extension f) (raw_steps f.extension) h (steps_records 0 h) (raw_none f.extension) in
    let b = same_records (up_to_environment f) (raw_steps f.environment) h a (raw_none f.environment) in
    let c = grown (up_to_sections f) (section_steps f) h f.sections b (steps_records (size_of (up_to_sections f)) f.sections) in
    let e = grown (up_to_externals f) (external_steps f) (h ++ f.sections) f.externals c (steps_records (size_of (up_to_externals f)) f.externals) in
    let g = grown (up_to_debug f) (debug_steps f) ((h ++ f.sections) ++ f.externals) f.debug e (debug_records f) in
    let l = grown (up_to_loads f) (load_steps f) (((h ++ f.sections) ++ f.externals) ++ f.debug) f.loads g (steps_records (size_of (up_to_loads f)) f.loads) in
    record { sections = b; externals = c; debug = e; loads = g; trailer = l }

-- what the parts are filled with
fill : (bytes : List ℕ) (options : ReadOptions) (f : FileParts) (m : Parts) → IsCutInto bytes options f → HasNames f → States f (indexes_of f) m
    → IsSound m → HeaderRows f → AreKept f
    → Contents options (offsets_in f.offsets) parts_in_order (up_to_extension f) (contents_of f) (texts_of f) module_end
fill bytes options f m cut names states good rows kept =
    let up = records_up f in
    let after_sections : from_externals f ≡ joined (bytes_of f.externals ∷ debug_bytes f ∷ bytes_of f.loads ∷ bytes_of f.trailer ∷ []) ++ module_end =
    sym (joined-chained (bytes_of f.externals ∷ debug_bytes f ∷ bytes_of f.loads ∷ bytes_of f.trailer ∷ []) module_end) in
    let after_externals : from_debug f ≡ joined (debug_bytes f ∷ bytes_of f.loads ∷ bytes_of f.trailer ∷ []) ++ module_end =
    sym (joined-chained (debug_bytes f ∷ bytes_of f.loads ∷ bytes_of f.trailer ∷ []) module_end) in
    let after_debug : from_loads f ≡ joined (bytes_of f.loads ∷ bytes_of f.trailer ∷ []) ++ module_end =
    sym (joined-chained (bytes_of f.loads ∷ bytes_of f.trailer ∷ []) module_end) in
    let after_loads : from_trailer f ≡ joined (bytes_of f.trailer ∷ []) ++ module_end = sym (joined-chained (bytes_of f.trailer ∷ []) module_end) in
    let ws = offsets_in f.offsets in
    let sizes = sizes_of f in
    let count = (header_size f (after_header f) cut.header).0 in
    let stood : (debug_offset ws ≡ size_of (up_to_debug f)) ⊎ (debug_offset ws ≡ 0) =
    elim (stand_debug ws (length (bytes_of (header_of f))) f.extension f.environment (bytes_of f.sections) (bytes_of f.externals) (debug_bytes f)
    (bytes_of f.loads ∷ bytes_of f.trailer ∷ []) cut.offsets) [
      | inl here ↦ inl (omega (arith, here, sizes.externals, sizes.debug, sizes.start, count))
      | inr none ↦ inr none
    ] in
    let x6 = joined (bytes_of f.trailer ∷ []) ++ module_end in
    let x5 = joined (bytes_of f.loads ∷ bytes_of f.trailer ∷ []) ++ module_end in
    let x4 = joined (debug_bytes f ∷ bytes_of f.loads ∷ bytes_of f.trailer ∷ []) ++ module_end in
    let x3 = joined (bytes_of f.externals ∷ debug_bytes f ∷ bytes_of f.loads ∷ bytes_of f.trailer ∷ []) ++ module_end in
    let closed : open_kinds (records_of (up_to_loads f)) ≡ [] = ap (λ (l : List SpelledRecord). open_kinds l) up.loads ∙ kept.closed in (
      raw_content options ws extension_part (up_to_extension f) f.extension _ refl refl,
      (
        raw_content options ws environment_part (up_to_environment f) f.environment _ refl refl,
        (
          read_content options ws section_part (up_to_sections f) f.sections (seen_from_externals options f) x3 refl refl
              (around_before options f (size_of (up_to_sections f)) (size_of (up_to_sections f) + length (bytes_of f.sections))
              (bytes_of f.externals) x3 stood (omega (arith, sizes.externals, sizes.debug)) (sym after_sections))
              cut.sections.are_whole
              (subst (λ (l : List SpelledRecord). KeptFrom section_part l f.sections) (sym up.sections) kept.sections)
              (section_whole (up_to_externals f) (header_of f) f.sections up.externals rows.silent (ap (list_any d.lacks_base) (sym states.sections)
              ∙ good.based)),
          (
            read_content options ws external_part (up_to_externals f) f.externals (seen_from_debug options f) x4 refl refl
                (around_before options f (size_of (up_to_externals f)) (size_of (up_to_externals f) + length (bytes_of f.externals)) [] x4 stood
                (omega (arith, sizes.debug)) (sym after_externals))
                cut.externals.are_whole
                (subst (λ (l : List SpelledRecord). KeptFrom external_part l f.externals) (sym up.externals) kept.externals)
                (external_whole (up_to_debug f) (header_of f) f.sections f.externals up.debug rows.silent cut.sections.own names.values names.valued),
            (
              debug_content options ws options.debug (up_to_debug f) f.debug f.skipped x5 x5 refl cut.debug_read
                  (around_after options f (size_of (up_to_debug f)) (size_of (up_to_debug f) + length (bytes_of f.debug)) x5 stood (omega arith)
                  (omega arith) (after_some (bytes_of f.loads ∷ bytes_of f.trailer ∷ [])))
                  (subst (λ (l : List ℕ). AreWhole options false f.debug l) after_debug cut.debug.are_whole)
                  (subst (λ (l : List SpelledRecord). KeptFrom debug_part l f.debug) (sym up.debug) kept.debug) (debug_whole (up_to_loads f) closed),
              (
                read_content options ws data_part (up_to_loads f) f.loads x6 x6 refl refl
                    (around_after options f (size_of (up_to_loads f)) (size_of (up_to_loads f) + length (bytes_of f.loads)) x6 stood
                    (omega (arith, sizes.loads)) (omega arith) (after_some (bytes_of f.trailer ∷ [])))
                    (subst (λ (l : List ℕ). AreWhole options false f.loads l) after_loads cut.loads.are_whole)
                    (subst (λ (l : List SpelledRecord). KeptFrom data_part l f.loads) (sym up.loads) kept.loads) refl,
                (
                  read_content options ws trailer_part (up_to_trailer f) f.trailer module_end module_end refl refl
                      (around_after options f (size_of (up_to_trailer f)) (size_of (up_to_trailer f) + length (bytes_of f.trailer)) module_end stood
                      (omega (arith, sizes.loads, sizes.trailer)) (omega arith) (after_some []))
                      cut.trailer.are_whole
                      (subst (λ (l : List SpelledRecord). KeptFrom trailer_part l f.trailer) (sym up.trailer) kept.trailer) refl,
                  tt,
                ),
              ),
            ),
          ),
        ),
      ),
    )
  where
    after_some : (texts : List (List ℕ)) → 0 < length (joined texts ++ module_end)
    after_some texts = omega (arith, length-append (joined texts) module_end)

-- ---- the end

end_whole : IsWholeRecord mode.Body r.ModuleEnd (0xE1 ∷ []) None
end_whole = (0xE1, 0xE1 ∷ [], [], refl, (refl, refl), refl)

end_step : (options : ReadOptions) (all : List ℕ) (before : List Step) → Joint all before → (offset : Location) → offset ≡ at_end → location_after before
    ≡ offset → IsStep options before (read (size_of before) the_end) []
end_step options all before at offset is here =
    let there = here ∙ is in
    record {
      unended = at.unended;
      whole = at.whole;
      own = ap (λ (q : Location). record_fault before q (size_of before) the_end) there;
      next = next_read options before at_end mode.Body the_end [] there refl end_whole;
    }

-- a sound prefix that is the whole file
record Built (options : ReadOptions) (f : FileParts) : Type 0 where
  sound : IsSoundFrom options [] (prefix_of f) (bytes_of (header_of f) ++ after_header f)
  bytes : prefix_bytes (prefix_of f) ≡ bytes_of (header_of f) ++ after_header f
  joint : Joint (offsets_in f.offsets) (up_to_end f)

built : (bytes : List ℕ) (options : ReadOptions) (f : FileParts) → IsCutInto bytes options f → HeaderRows f
    → IsSoundFrom options [] (steps_of 0 (header_of f)) (bytes_of (header_of f) ++ after_header f)
    → Contents options (offsets_in f.offsets) parts_in_order (up_to_extension f) (contents_of f) (texts_of f) module_end → Built options f
built bytes options f cut rows header contents =
    let hs = steps_of 0 (header_of f) in
    let ws = offsets_in f.offsets in
    let size = header_size f (after_header f) cut.header in
    let stand : StandAt ws (size_of hs) (texts_of f) = subst (λ (n : ℕ). StandAt ws n (texts_of f)) (sym size.0) cut.offsets in
    let parted = walk_contents options ws parts_in_order ws hs (contents_of f) (texts_of f) module_end (λ at low. refl) stand
    (omega (arith, size.0, size.1)) contents (header_joint f (after_header f) cut.header rows cut.offsets) in
    let before = up_to_end f in
    let it = read (size_of before) the_end in
    let last : IsSoundFrom options before (it ∷ []) module_end =
    sound_step options before it [] [] (end_step options ws before parted.joint at_end refl parted.place) tt in
    let rest = prefix_bytes (joined (contents_of f)) ++ module_end in
    let after : rest ≡ after_header f = ap (λ l. l ++ module_end) parted.bytes ∙ joined-chained (texts_of f) module_end in
    let parts_sound : IsSoundFrom options hs (joined (contents_of f) ++ it ∷ []) rest =
    sound-append options hs (joined (contents_of f)) (it ∷ []) module_end
    (subst (λ (l : List ℕ). IsSoundFrom options hs (joined (contents_of f)) (l ++ module_end)) (sym parted.bytes) parted.sound) last in
    let all_same : prefix_bytes hs ++ rest ≡ bytes_of (header_of f) ++ after_header f = (λ i. steps_bytes 0 (header_of f) i ++ after i) in
    record {
      sound = subst (λ (l : List ℕ). IsSoundFrom options [] (prefix_of f) l) all_same
          (sound-append options [] hs (joined (contents_of f) ++ it ∷ []) rest
          (subst (λ (l : List ℕ). IsSoundFrom options [] hs l) (sym all_same) header) parts_sound);
      bytes = bytes-append hs (joined (contents_of f) ++ it ∷ []) ∙ ap (λ l. prefix_bytes hs ++ l) (bytes-append (joined (contents_of f)) (it ∷ [])) ∙ all_same;
      joint = parted.joint;
    }

-- ---- what it states

joined_records : (contents : List (List Step)) → records_of (joined contents) ≡ joined (map records_of contents)
joined_records [] = refl
joined_records (own ∷ contents) = records-append own (joined contents) ∙ ap (λ l. records_of own ++ l) (joined_records contents)

in_a_row : (h s e d l t x : List SpelledRecord) → h ++ ((s ++ (e ++ (d ++ (l ++ (t ++ []))))) ++ x) ≡ (((((h ++ s) ++ e) ++ d) ++ l) ++ t) ++ x
in_a_row h s e d l t x =
    let regrouped : h ++ ((s ++ (e ++ (d ++ (l ++ t)))) ++ x) ≡ (((((h ++ s) ++ e) ++ d) ++ l) ++ t) ++ x = simp append_assoc refl in
    ap (λ k. h ++ ((s ++ (e ++ (d ++ (l ++ k)))) ++ x)) (append-nil t) ∙ regrouped

prefix_records : (f : FileParts) → records_of (prefix_of f) ≡ all_records (header_of f) f.sections f.externals f.debug f.loads f.trailer the_end
prefix_records f =
    let it = read (size_of (up_to_end f)) the_end in
    let parts : records_of (joined (contents_of f)) ≡ f.sections ++ (f.externals ++ (f.debug ++ (f.loads ++ (f.trailer ++ [])))) =
    joined_records (contents_of f)
    ∙ (λ i. raw_none f.extension i ++ (raw_none f.environment i
    ++ (steps_records (size_of (up_to_sections f)) f.sections i ++ (steps_records (size_of (up_to_externals f)) f.externals i ++ (debug_records f i
    ++ (steps_records (size_of (up_to_loads f)) f.loads i ++ (steps_records (size_of (up_to_trailer f)) f.trailer i ++ []))))))) in
    records-append (steps_of 0 (header_of f)) (joined (contents_of f) ++ it ∷ [])
    ∙ ap (λ l. records_of (steps_of 0 (header_of f)) ++ l) (records-append (joined (contents_of f)) (it ∷ []))
    ∙ (λ i. steps_records 0 (header_of f) i ++ (parts i ++ the_end ∷ []))
    ∙ in_a_row (header_of f) f.sections f.externals f.debug f.loads f.trailer (the_end ∷ [])

stated : (bytes : List ℕ) (options : ReadOptions) (f : FileParts) (m : Parts) → IsCutInto bytes options f → States f (indexes_of f) m → HeaderRows f
    → Built options f → IsStatedBy (prefix_of f) m
stated bytes options f m cut states rows is =
    let h = header_of f in
    let s = f.sections in
    let e = f.externals in
    let g = f.debug in
    let l = f.loads in
    let t = f.trailer in
    let prefix = prefix_of f in
    let same = prefix_records f in
    let are : AreSorted h s e g l t the_end = record {
      header = rows.silent;
      sections = cut.sections.own;
      externals = cut.externals.own;
      debug =
          cut.debug.own;
      loads = cut.loads.own;
      trailer = cut.trailer.own;
      end_ = refl;
    } in
    let ix : indexes_in (records_of prefix) ≡ indexes_of f = ap (λ k. indexes_in k) same ∙ same_indexes h s e g l t the_end are in
    let size = header_size f (after_header f) cut.header in
    let offsets : offsets_of prefix ≡ offsets_in f.offsets = ap (λ (k : List Step). offsets_of k)
    (sym (append_assoc (steps_of 0 h) (joined (contents_of f)) (read (size_of (up_to_end f)) the_end ∷ [])))
    ∙ offsets-append (up_to_end f) (read (size_of (up_to_end f)) the_end ∷ []) ∙ append-nil (offsets_of (up_to_end f)) ∙ is.joint.offsets in
    record {
      begin = f.begin;
      descriptor = f.descriptor;
      after = (((((f.offsets ++ s) ++ e) ++ g) ++ l) ++ t) ++ the_end ∷ [];
      records = same;
      begins = states.begin;
      describes = states.descriptor;
      extension = states.extension ∙ extension_between f (offsets_in f.offsets) (prefix_bytes prefix) is.bytes size.1 cut.offsets
          ∙ ap (λ ws. bytes_between ws (prefix_bytes prefix)) (sym offsets);
      environment = states.environment ∙ environment_between f (offsets_in f.offsets) (prefix_bytes prefix) is.bytes size.1 cut.offsets
          ∙ ap (λ ws. bytes_between (drop 1 ws) (prefix_bytes prefix)) (sym offsets);
      sections = states.sections ∙ sym (ap (λ k. sections_of k) same ∙ same_sections h s e g l t the_end are);
      publics = states.publics ∙ sym ((λ i. publics_of (ix i) (same i)) ∙ same_publics (indexes_of f) h s e g l t the_end are);
      references = states.references ∙ sym (ap (λ k. references_of k) same ∙ same_references h s e g l t the_end are);
      debug = states.debug ∙ sym ((λ i. marks (ix i) (same i)) ∙ same_marks (indexes_of f) h s e g l t the_end are);
      loads = states.loads ∙ sym ((λ i. loads_of (ix i) m.maus (same i)) ∙ same_loads (indexes_of f) m.maus h s e g l t the_end are);
      start = states.start ∙ sym ((λ i. starts_of (ix i) (same i)) ∙ same_starts (indexes_of f) h s e g l t the_end are);
    }

-- ---- the law

pub within : (bytes : List ℕ) → length bytes ≤ file_limit → within_limit bytes ≡ bytes
within bytes h = take_all file_limit bytes h

-- the prefix of a file, its bytes, and what it states
abbrev IsPrefixOf : ReadOptions → List ℕ → Parts → Type 0
IsPrefixOf options bytes m = (prefix : List Step) × IsSoundFrom options [] prefix bytes × (is_ended prefix ≡ true)
    × (size_of prefix ≡ length bytes) × IsStatedBy prefix m

-- a file of a valid module
file_prefix : (bytes : List ℕ) (options : ReadOptions) (f : FileParts) (m : Parts) → IsCutInto bytes options f → HasNames f
    → States f (indexes_of f) m → IsSound m → IsPrefixOf options bytes m
file_prefix bytes options f m cut names states good =
    let rows = header_rows f (after_header f) cut.header in
    let header = header_prefix options f (after_header f) cut.header rows (no_bad_descriptor f m good rows.describes states.descriptor) cut.offsets in
    let kept = are_kept bytes options f m cut names states good rows.silent in
    let is = built bytes options f cut rows header (fill bytes options f m cut names states good rows kept) in
    let it = read (size_of (up_to_end f)) the_end in (
      prefix_of f,
      subst (λ (l : List ℕ). IsSoundFrom options [] (prefix_of f) l) (sym cut.all) is.sound,
      ap (λ (l : List Step). is_ended l) (sym (append_assoc (steps_of 0 (header_of f)) (joined (contents_of f)) (it ∷ [])))
          ∙ ended-read (up_to_end f) (size_of (up_to_end f)) the_end,
      ap length (is.bytes ∙ sym cut.all),
      stated bytes options f m cut states rows is,
    )

pub module_is_ended_prefix : ModuleIsEndedPrefix
module_is_ended_prefix options bytes m fits (f, cut, names, states, valid) = file_prefix bytes options f m cut names states (sound_module m valid)
