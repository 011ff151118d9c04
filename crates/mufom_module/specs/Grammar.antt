-- Which bytes are the file of a module, as a relation on the whole file (IEEE Std 695, module structure, in this project's
-- profile).
use Rattle.std.specs.Prelude.{◌≡◌, ◌⊎◌, ℕ, ◌+◌, ◌≤◌, Bool, true, false, not, ◌&&◌, List, [], ◌∷◌, ◌++◌, length, filter_map, Option, Some, None}
use Rattle.std.specs.Prelude.{option_to_list, MatchBool, ◌==◌, if◌then◌else◌}
use Rattle.std.specs.List.{list_all, list_any}
use Rattle.mufom_numbers.specs.declared.limits.TheConstants.{MOST_FILE_BYTES}
use Rattle.mufom_numbers.specs.declared.codes.TheConstants.{LETTER_L, LETTER_M, MODULE_END}
use Rattle.mufom_expr.specs.Spelled.{Indexes}
use Rattle.mufom_records.specs.declared.options.ReadOptions.{ReadOptions}
use Rattle.mufom_records.specs.declared.record.Mode.{Mode}
use Rattle.mufom_records.specs.declared.record.Mode.TheVariants as mode
use Rattle.mufom_records.specs.declared.record.Record.{Record}
use Rattle.mufom_records.specs.declared.record.Record.TheVariants as r
use Rattle.mufom_records.specs.Fields.{first_of}
use Rattle.mufom_records.specs.Layouts.{IsWholeRecord}
use Rattle.mufom_debug.specs.Marks.{marks_of}
use Rattle.mufom_module.specs.declared.module.Order.{Order}
use Rattle.mufom_module.specs.declared.module.Order.TheVariants.{Least, Most}
use Rattle.mufom_module.specs.declared.module.Parts.{Parts}
use Rattle.mufom_module.specs.Contents.{any_of}
use Rattle.mufom_module.specs.Defects.{IsValid}
use Rattle.mufom_module.specs.SpelledRecords.{SpelledRecord, bytes_of, text_in, section, public, reference, debug_name, declared_by, declared}
use Rattle.mufom_module.specs.SpelledRecords.{is_declared, named_in_expression, named_at_once, value_of_public, assigned_by, is_assigned}
use Rattle.mufom_module.specs.RecordParts.{Part, section_part, external_part, debug_part, data_part, trailer_part, stands_in, opens_items, mode_of}
use Rattle.mufom_module.specs.RecordParts.{is_loading, is_set_section}
use Rattle.mufom_module.specs.Gathered.{sections_of, publics_of, references_of, marks, loads_of, starts_of}

-- a file cut into its parts
pub record FileParts : Type 0 where
  -- MB
  pub begin : SpelledRecord
  -- AD
  pub descriptor : SpelledRecord
  -- the ASW records
  pub offsets : List SpelledRecord
  pub extension : List ℕ
  pub environment : List ℕ
  pub sections : List SpelledRecord
  pub externals : List SpelledRecord
  pub debug : List SpelledRecord
  -- the bytes of a debug part that is skipped
  pub skipped : List ℕ
  pub loads : List SpelledRecord
  pub trailer : List SpelledRecord

-- ---- the bytes

-- the records of the header
abbrev pub header_of : FileParts → List SpelledRecord
header_of f = f.begin ∷ f.descriptor ∷ f.offsets

-- the bytes of the debug part
abbrev pub debug_bytes : FileParts → List ℕ
debug_bytes f = bytes_of f.debug ++ f.skipped

-- the bytes of the extension, environment, section, external, debug, data and trailer parts
abbrev pub parts_of : FileParts → List (List ℕ)
parts_of f = f.extension ∷ f.environment ∷ bytes_of f.sections ∷ bytes_of f.externals ∷ debug_bytes f ∷ bytes_of f.loads ∷ bytes_of f.trailer ∷ []

-- ME
abbrev pub module_end : List ℕ
module_end = MODULE_END ∷ []

-- the bytes from the trailer part, from the data part, and so on, up to the end of the file
abbrev pub from_trailer : FileParts → List ℕ
from_trailer f = bytes_of f.trailer ++ module_end

-- the bytes from the data part on
abbrev pub from_loads : FileParts → List ℕ
from_loads f = bytes_of f.loads ++ from_trailer f

-- the bytes from the debug part on
abbrev pub from_debug : FileParts → List ℕ
from_debug f = debug_bytes f ++ from_loads f

-- the bytes from the external part on
abbrev pub from_externals : FileParts → List ℕ
from_externals f = bytes_of f.externals ++ from_debug f

-- the bytes from the section part on
abbrev pub from_sections : FileParts → List ℕ
from_sections f = bytes_of f.sections ++ from_externals f

-- all bytes after the header
abbrev pub after_header : FileParts → List ℕ
after_header f = f.extension ++ (f.environment ++ from_sections f)

-- ---- records that fill a part

-- the records are complete, one for each of these modes, and these bytes follow them
abbrev pub AreOfModes : List Mode → List SpelledRecord → List ℕ → Type 0
AreOfModes [] [] after = Unit {0}
AreOfModes (m ∷ modes) (p ∷ records) after = IsWholeRecord m p.row p.bytes (first_of (bytes_of records ++ after) None) × AreOfModes modes records after
AreOfModes _ _ after = ⊥

-- MB, AD, and the offsets of the seven parts and of the end
abbrev pub header_modes : List Mode
header_modes = mode.Begin ∷ mode.Descriptor ∷ mode.Offset 0 ∷ mode.Offset 1 ∷ mode.Offset 2 ∷ mode.Offset 3 ∷ mode.Offset 4
    ∷ mode.Offset 5 ∷ mode.Offset 6 ∷ mode.Offset 7 ∷ []

-- the records are complete (items may occur after an LR, and at the start if the flag is true), and these bytes follow them
abbrev pub AreWhole : ReadOptions → Bool → List SpelledRecord → List ℕ → Type 0
AreWhole options items [] after = Unit {0}
AreWhole options items (p ∷ records) after = IsWholeRecord (mode_of options items p.bytes) p.row p.bytes (first_of (bytes_of records ++ after) None)
    × AreWhole options (opens_items p.row) records after

-- complete records of this part, the first of which is not an item
pub record IsPart (options : ReadOptions) (part : Part) (records : List SpelledRecord) (after : List ℕ) : Type 0 where
  pub are_whole : AreWhole options false records after
  pub own : list_all (λ p. stands_in part p.row) records ≡ true

-- ---- offsets

-- the value of an ASW record
abbrev pub offset_in : Record → Option ℕ
offset_in (r.Offset _ value) = Some value
offset_in _ = None

-- W0 to W7
abbrev pub offsets_in : List SpelledRecord → List ℕ
offsets_in records = filter_map (λ p. offset_in p.row) records

-- each offset is that of the first byte of its part, or possibly 0 if the part is empty; the last one is the offset of the end
abbrev pub StandAt : List ℕ → ℕ → List (List ℕ) → Type 0
StandAt offsets at [] = offsets ≡ at ∷ []
StandAt [] at (bytes ∷ parts) = ⊥
StandAt (w ∷ offsets) at (bytes ∷ parts) = ((w ≡ at) ⊎ ((w ≡ 0) × (bytes ≡ []))) × StandAt offsets (at + length bytes) parts

-- the greatest length of a file, in bytes
abbrev pub file_limit : ℕ
file_limit = MOST_FILE_BYTES

-- W4: the offset of the debug part
abbrev pub debug_offset : List ℕ → ℕ
debug_offset (_ ∷ (_ ∷ (_ ∷ (_ ∷ (w ∷ _))))) = w
debug_offset _ = 0

-- The records before the debug part end before its first byte, whatever that byte is: with the forms of GNU binutils, if the
-- part is skipped and its offset is not 0. Binutils puts debug data of other formats into this part.
abbrev pub ends_before_debug : ReadOptions → List ℕ → Bool
ends_before_debug options offsets = options.gnu && (not options.debug && not (debug_offset offsets == 0))

-- What follows the external part, as its records see it: the bytes from the debug part on, or instead the code of the module's
-- end, at which every record ends.
abbrev pub seen_from_debug : ReadOptions → FileParts → List ℕ
seen_from_debug options f = if ends_before_debug options (offsets_in f.offsets) then module_end else from_debug f

-- what follows the section part, as its records see it
abbrev pub seen_from_externals : ReadOptions → FileParts → List ℕ
seen_from_externals options f = bytes_of f.externals ++ seen_from_debug options f

-- The file consists of these parts. By the options, the debug part is read, or its bytes are skipped.
pub record IsCutInto (bytes : List ℕ) (options : ReadOptions) (f : FileParts) : Type 0 where
  pub all : bytes ≡ bytes_of (header_of f) ++ after_header f
  pub limit : length bytes ≤ file_limit
  pub header : AreOfModes header_modes (header_of f) (after_header f)
  pub offsets : StandAt (offsets_in f.offsets) (length (bytes_of (header_of f))) (parts_of f)
  pub sections : IsPart options section_part f.sections (seen_from_externals options f)
  pub externals : IsPart options external_part f.externals (seen_from_debug options f)
  pub debug : IsPart options debug_part f.debug (from_loads f)
  pub debug_read : MatchBool options.debug (f.skipped ≡ []) (f.debug ≡ [])
  pub loads : IsPart options data_part f.loads (from_trailer f)
  pub trailer : IsPart options trailer_part f.trailer module_end

-- ---- names

-- the index lists of the file
abbrev pub indexes_of : FileParts → Indexes
indexes_of f = record {
  sections = declared section f.sections;
  publics = declared public f.externals;
  references = declared reference f.externals;
  debug_names = declared debug_name f.debug;
}

-- the records of the parts, in the order of the file
abbrev pub records_of : FileParts → List SpelledRecord
records_of f = f.sections ++ (f.externals ++ (f.debug ++ (f.loads ++ f.trailer)))

-- the record declares an index that is already declared for the same kind of entry
abbrev pub declares_again : List SpelledRecord → Record → Bool
declares_again before row = any_of (is_declared before) (declared_by row)

-- the record states again what may be stated only once
abbrev pub states_again : List SpelledRecord → Record → Bool
states_again before row = any_of (is_assigned before) (assigned_by row)

-- the record uses an index that is not declared yet
abbrev pub names_unknown : List SpelledRecord → SpelledRecord → Bool
names_unknown before p = not (list_all (is_declared before) (named_at_once p))

-- the record is an LD, an LR or an RE, and no section is set
abbrev pub has_no_section : List SpelledRecord → Record → Bool
has_no_section before row = is_loading row && not (list_any (λ q. is_set_section q.row) before)

-- the conditions on a record, given the records before it in the file
pub record Follows (before : List SpelledRecord) (p : SpelledRecord) : Type 0 where
  pub new : declares_again before p.row ≡ false
  pub known : names_unknown before p ≡ false
  pub once : states_again before p.row ≡ false
  pub placed : has_no_section before p.row ≡ false

-- each record satisfies these conditions
abbrev pub FollowFrom : List SpelledRecord → List SpelledRecord → Type 0
FollowFrom before [] = Unit {0}
FollowFrom before (p ∷ records) = Follows before p × FollowFrom (before ++ p ∷ []) records

-- each record satisfies the conditions above, the variables of the publics' values are declared, and each public has a value
pub record HasNames (f : FileParts) : Type 0 where
  pub follow : FollowFrom [] (records_of f)
  -- the variables of a public's value are declared up to the end of the external part
  pub values : list_all (λ p. list_all (is_declared (f.sections ++ f.externals)) (named_in_expression p)) f.externals ≡ true
  -- each public has a value
  pub valued : list_all (λ i. is_assigned f.externals (value_of_public i)) (declared public f.externals) ≡ true

-- ---- the module

-- the letter of an order of bytes; without a letter the most significant byte comes first
abbrev pub IsLetterOf : Order → Option ℕ → Type 0
IsLetterOf Least letter = letter ≡ Some LETTER_L
IsLetterOf Most letter = (letter ≡ Some LETTER_M) ⊎ (letter ≡ None)

-- MB gives the processor and the module's name
abbrev pub NamesModule : Parts → SpelledRecord → Record → Type 0
NamesModule m p (r.ModuleBegin processor name) = (text_in p processor ≡ m.processor) × (text_in p name ≡ m.name)
NamesModule m p _ = ⊥

-- AD gives 8 bits to an addressable unit, the units of an address, and the order of bytes
abbrev pub Describes : Parts → Record → Type 0
Describes m (r.Descriptor bits maus letter) = (bits ≡ 8) × (maus ≡ m.maus) × IsLetterOf m.order letter
Describes m _ = ⊥

-- the parts of the file state exactly what the module contains
pub record States (f : FileParts) (ix : Indexes) (m : Parts) : Type 0 where
  pub begin : NamesModule m f.begin f.begin.row
  pub descriptor : Describes m f.descriptor.row
  pub extension : m.ext ≡ f.extension
  pub environment : m.env ≡ f.environment
  pub sections : m.sections ≡ sections_of f.sections
  pub publics : m.names.publics ≡ publics_of ix f.externals
  pub references : m.names.references ≡ references_of f.externals
  pub debug : marks_of m.debug ≡ marks ix f.debug
  pub loads : m.loads ≡ loads_of ix m.maus f.loads
  pub start : option_to_list m.start ≡ starts_of ix f.trailer

-- The bytes are a file of the module, if it is read with these options.
abbrev pub SpellsModule : Parts → List ℕ → ReadOptions → Type 0
SpellsModule m bytes options = (f : FileParts) × IsCutInto bytes options f × HasNames f × States f (indexes_of f) m × IsValid m
