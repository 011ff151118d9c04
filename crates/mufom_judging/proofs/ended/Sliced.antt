-- A sound prefix that has ended, as the parts of a file, with what its checks state of the records in them.
use Rattle.std.proofs.Common.{◌≡◌, ◌⊎◌, ℕ, Bool, true, false, List, [], ◌∷◌, ◌++◌, length, Option, None, is_none, MatchBool, refl, sym, ap, subst, not}
use Rattle.std.proofs.Common.{◌∙◌, inl, inr, append_assoc, append-nil}
use Rattle.std.specs.List.{list_all, AllByRecursion}
use Rattle.std.proofs.lemmas.Bool.{both_ways}
use Rattle.mufom_module.specs.SpelledRecords.{SpelledRecord, bytes_of}
use Rattle.mufom_module.specs.RecordParts.{Part, section_part, external_part, debug_part, data_part, trailer_part, end_part, part_of, stands_in}
use Rattle.mufom_module.specs.Grammar.{FileParts, header_of, parts_of, module_end, from_trailer, from_loads, after_header}
use Rattle.mufom_module.specs.Grammar.{AreOfModes, header_modes, AreWhole, offsets_in, StandAt, seen_from_debug, seen_from_externals}
use Rattle.mufom_judging.specs.Prefixes.{Step, raw, read, prefix_bytes, records_of, offset_records_of, OffsetRecord, offsets_of, is_raw}
use Rattle.mufom_judging.specs.Faults.{Fault, fault_if, is_bad_descriptor, first_fault, section_fault, lacks_base, external_fault, has_unknown_variable}
use Rattle.mufom_judging.specs.Faults.{lacks_value, OpenBlock, open_blocks, open_fault, whole_fault}
use Rattle.mufom_judging.proofs.BlockKinds.{kinds_of, open_kinds, kinds-open}
use Rattle.mufom_judging.proofs.ended.Walk.{no_fault}
use Rattle.mufom_judging.proofs.ended.Rows.{IsBegin, IsDescriptor}
use Rattle.mufom_judging.proofs.ended.Header.{no_fault_if}
use Rattle.mufom_judging.proofs.ended.Parts.{KeptFrom, IsOwn}
use Rattle.mufom_records.specs.declared.options.ReadOptions.{ReadOptions}

-- ---- bytes of records

pub bytes_of-append : (a b : List SpelledRecord) → bytes_of (a ++ b) ≡ bytes_of a ++ bytes_of b
bytes_of-append [] b = refl
bytes_of-append (p ∷ a) b = ap (λ l. p.bytes ++ l) (bytes_of-append a b) ∙ sym (append_assoc p.bytes (bytes_of a) (bytes_of b))

-- ---- parts as wholes

first_none : (fault : OffsetRecord → Option Fault) (P : SpelledRecord → Type 0) → ((q : OffsetRecord) → fault q ≡ None → P q.1) → (own : List Step)
    → first_fault fault (offset_records_of own) ≡ None → AllByRecursion P (records_of own)
first_none fault P states [] h = tt
first_none fault P states (raw b ∷ own) h = first_none fault P states own h
first_none fault P states (read start p ∷ own) h = let both = no_fault (fault (start, p)) (first_fault fault (offset_records_of own)) h in
    (states (start, p) both.0, first_none fault P states own both.1)

after_none : (fault : OffsetRecord → Option Fault) (before own : List Step) → first_fault fault (offset_records_of (before ++ own)) ≡ None
    → first_fault fault (offset_records_of own) ≡ None
after_none fault [] own h = h
after_none fault (raw b ∷ before) own h = after_none fault before own h
after_none fault (read start p ∷ before) own h = after_none fault before own
    (no_fault (fault (start, p)) (first_fault fault (offset_records_of (before ++ own))) h).1

has_base : (all : List SpelledRecord) (q : OffsetRecord) → section_fault all q ≡ None → lacks_base all q.1.row ≡ false
has_base all q h = no_fault_if (lacks_base all q.1.row) q.0 _ h

-- its variables are declared, and it has a value if it is a public
abbrev pub IsGiven : List SpelledRecord → SpelledRecord → Type 0
IsGiven all p = (has_unknown_variable all p ≡ false) × (lacks_value all p.row ≡ false)

is_given : (all : List SpelledRecord) (q : OffsetRecord) → external_fault all q ≡ None → IsGiven all q.1
is_given all q h =
    let both = no_fault (fault_if (has_unknown_variable all q.1) q.0 _) (fault_if (lacks_value all q.1.row) q.0 _) h in
    (no_fault_if (has_unknown_variable all q.1) q.0 _ both.0, no_fault_if (lacks_value all q.1.row) q.0 _ both.1)

pub all_based : (before own : List Step) → (own ≡ []) ⊎ (whole_fault section_part (before ++ own) ≡ None)
    → AllByRecursion (λ p. lacks_base (records_of (before ++ own)) p.row ≡ false) (records_of own)
all_based before own (inl none) = subst (λ (l : List Step). AllByRecursion (λ p. lacks_base (records_of (before ++ own)) p.row
    ≡ false) (records_of l)) (sym none) tt
all_based before own (inr h) = let all = records_of (before ++ own) in
    first_none (section_fault all) (λ p. lacks_base all p.row ≡ false) (has_base all) own (after_none (section_fault all) before own h)

pub all_given : (before own : List Step) → (own ≡ []) ⊎ (whole_fault external_part (before ++ own) ≡ None)
    → AllByRecursion (IsGiven (records_of (before ++ own))) (records_of own)
all_given before own (inl none) = subst (λ (l : List Step). AllByRecursion (IsGiven (records_of (before ++ own))) (records_of l)) (sym none) tt
all_given before own (inr h) = let all = records_of (before ++ own) in
    first_none (external_fault all) (IsGiven all) (is_given all) own (after_none (external_fault all) before own h)

-- ---- the parts

pub raw_records : (options : ReadOptions) (part : Part) (before : List SpelledRecord) (own : List Step) (after : List ℕ) → is_raw options.debug part ≡ true
    → IsOwn options part false before own after → records_of own ≡ []
raw_records options part before own after is (inl its) = its.1
raw_records options part before own after is (inr its) = absurd (both_ways (is_raw options.debug part) its.0 is)

-- the records of a part that is read
pub record ReadPart (options : ReadOptions) (part : Part) (before : List SpelledRecord) (own : List Step) (after : List ℕ) : Type 0 where
  pub bytes : bytes_of (records_of own) ≡ prefix_bytes own
  pub are_whole : AreWhole options false (records_of own) after
  pub keeps : KeptFrom part before (records_of own)

pub read_records : (options : ReadOptions) (part : Part) (before : List SpelledRecord) (own : List Step) (after : List ℕ) → is_raw options.debug part
    ≡ false → IsOwn options part false before own after → ReadPart options part before own after
read_records options part before own after is (inl its) = absurd (both_ways (is_raw options.debug part) is its.0)
read_records options part before own after is (inr its) = record { bytes = its.1; are_whole = its.2; keeps = its.3 }

-- the debug part: its records if it is read, otherwise the bytes that are skipped
pub record DebugPart (options : ReadOptions) (reads_debug : Bool) (before : List SpelledRecord) (own : List Step) (after skipped : List ℕ) : Type 0 where
  pub bytes : bytes_of (records_of own) ++ skipped ≡ prefix_bytes own
  pub are_whole : AreWhole options false (records_of own) after
  pub keeps : KeptFrom debug_part before (records_of own)
  pub read : MatchBool reads_debug (skipped ≡ []) (records_of own ≡ [])

-- the bytes that are skipped
abbrev pub skipped_of : Bool → List Step → List ℕ
skipped_of true own = []
skipped_of false own = prefix_bytes own

debug_by : (options : ReadOptions) (reads_debug : Bool) (before : List SpelledRecord) (own : List Step) (after : List ℕ) → options.debug ≡ reads_debug
    → IsOwn options debug_part false before own after → DebugPart options reads_debug before own after (skipped_of reads_debug own)
debug_by options true before own after same is =
    let its = read_records options debug_part before own after (ap (λ (b : Bool). not b) same) is in
    record { bytes = append-nil (bytes_of (records_of own)) ∙ its.bytes; are_whole = its.are_whole; keeps = its.keeps; read = refl }
debug_by options false before own after same is =
    let none = raw_records options debug_part before own after (ap (λ (b : Bool). not b) same) is in
    record {
      bytes = ap (λ (l : List SpelledRecord). bytes_of l ++ prefix_bytes own) none;
      are_whole = subst (λ (l : List SpelledRecord). AreWhole options false l after) (sym none) tt;
      keeps = subst (λ (l : List SpelledRecord). KeptFrom debug_part before l) (sym none) tt;
      read = none;
    }

pub debug_records : (options : ReadOptions) (before : List SpelledRecord) (own : List Step) (after : List ℕ)
    → IsOwn options debug_part false before own after → DebugPart options options.debug before own after (skipped_of options.debug own)
debug_records options before own after is = debug_by options options.debug before own after refl is

no_open : (blocks : List OpenBlock) → open_fault blocks ≡ None → blocks ≡ []
no_open [] h = refl
no_open (b ∷ blocks) h = absurd cc

-- no block is open after it
pub debug_closed : (before own : List Step) → open_kinds (records_of before) ≡ [] → (own ≡ []) ⊎ (whole_fault debug_part (before ++ own) ≡ None)
    → open_kinds (records_of (before ++ own)) ≡ []
debug_closed before own none (inl empty) = ap (λ (l : List Step). open_kinds (records_of (before ++ l))) empty
    ∙ ap (λ (l : List Step). open_kinds (records_of l)) (append-nil before) ∙ none
debug_closed before own none (inr h) = sym (kinds-open (before ++ own))
    ∙ ap (λ (l : List OpenBlock). kinds_of l) (no_open (open_blocks (offset_records_of (before ++ own))) h)

-- ---- the file

-- An ended prefix as the parts of a file. Records after the header state nothing of the header's kind.
pub record Sliced (options : ReadOptions) (prefix : List Step) : Type 0 where
  pub f : FileParts
  pub end : SpelledRecord
  pub bytes : prefix_bytes prefix ≡ bytes_of (header_of f) ++ after_header f
  pub header : AreOfModes header_modes (header_of f) (after_header f)
  pub stand : StandAt (offsets_in f.offsets) (length (bytes_of (header_of f))) (parts_of f)
  pub sections : AreWhole options false f.sections (seen_from_externals options f)
  pub externals : AreWhole options false f.externals (seen_from_debug options f)
  pub loads : AreWhole options false f.loads (from_trailer f)
  pub trailer : AreWhole options false f.trailer module_end
  pub debug : AreWhole options false f.debug (from_loads f)
  pub debug_read : MatchBool options.debug (f.skipped ≡ []) (f.debug ≡ [])
  pub keep_sections : KeptFrom section_part (header_of f) f.sections
  pub keep_externals : KeptFrom external_part (header_of f ++ f.sections) f.externals
  pub keep_debug : KeptFrom debug_part ((header_of f ++ f.sections) ++ f.externals) f.debug
  pub keep_loads : KeptFrom data_part (((header_of f ++ f.sections) ++ f.externals) ++ f.debug) f.loads
  pub keep_trailer : KeptFrom trailer_part ((((header_of f ++ f.sections) ++ f.externals) ++ f.debug) ++ f.loads) f.trailer
  pub closed : open_kinds (((header_of f ++ f.sections) ++ f.externals) ++ f.debug) ≡ []
  pub based : AllByRecursion (λ p. lacks_base (header_of f ++ f.sections) p.row ≡ false) f.sections
  pub given : AllByRecursion (IsGiven ((header_of f ++ f.sections) ++ f.externals)) f.externals
  pub silent : list_all (λ p. is_none (part_of p.row)) (header_of f) ≡ true
  pub begins : IsBegin f.begin.row
  pub describes : IsDescriptor f.descriptor.row
  pub no_bad : is_bad_descriptor f.descriptor.row ≡ false
  pub ends : stands_in end_part end.row ≡ true
  pub records : records_of prefix ≡ (((((header_of f ++ f.sections) ++ f.externals) ++ f.debug) ++ f.loads) ++ f.trailer) ++ end ∷ []
  pub offsets : offsets_of prefix ≡ offsets_in f.offsets

-- the place of a part, or none if it is empty
pub stands_of : (w at : ℕ) (own : List Step) (bytes : List ℕ) → prefix_bytes own ≡ bytes → ((w ≡ at) × (w ≡ 0 → ⊥)) ⊎ ((w ≡ 0) × (own ≡ []))
    → (w ≡ at) ⊎ ((w ≡ 0) × (bytes ≡ []))
stands_of w at own bytes e (inl there) = inl there.0
stands_of w at own bytes e (inr none) = inr (none.0, sym e ∙ ap prefix_bytes none.1)
