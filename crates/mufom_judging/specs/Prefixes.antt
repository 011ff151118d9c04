-- Prefixes of a stream: the records with which it begins, and the bytes of parts that are not read as records; the location of
-- the next byte; and how the stream is read on from there (IEEE Std 695, module structure).
use Rattle.std.specs.Prelude.{ℕ, zero, suc, ◌-◌, ◌==◌, ◌&&◌, nat_lt, nat_le, Bool, true, false, not, List, [], ◌∷◌, length, map, take, filter_map, Option}
use Rattle.std.specs.Prelude.{Some, None, if◌then◌else◌}
use Rattle.std.specs.List.{last_or}
use Rattle.mufom_numbers.specs.declared.taken.Taken.{Taken}
use Rattle.mufom_numbers.specs.declared.taken.Taken.TheVariants.{Got, More, Bad}
use Rattle.mufom_records.specs.declared.options.ReadOptions.{ReadOptions}
use Rattle.mufom_records.specs.declared.record.Mode.{Mode}
use Rattle.mufom_records.specs.declared.record.Mode.TheVariants as mode
use Rattle.mufom_records.specs.declared.record.Record.{Record}
use Rattle.mufom_records.specs.declared.record.Record.TheVariants as r
use Rattle.mufom_records.specs.Reading.{record_at, record_within}
use Rattle.mufom_debug.specs.Marks.{joined}
use Rattle.mufom_module.specs.SpelledRecords.{SpelledRecord}
use Rattle.mufom_module.specs.RecordParts.{Part, extension_part, environment_part, section_part, external_part, debug_part, data_part, trailer_part}
use Rattle.mufom_module.specs.RecordParts.{opens_items, begins_item, items_mode}
use Rattle.mufom_module.specs.Grammar.{offsets_in, debug_offset, ends_before_debug}

-- a byte of a part that is not read as records, or a record with the offset of its first byte
pub data Step : Type 0 where
  raw : ℕ → Step
  read : ℕ → SpelledRecord → Step

abbrev pub step_bytes : Step → List ℕ
step_bytes (raw b) = b ∷ []
step_bytes (read start p) = p.bytes

-- the bytes of a prefix
abbrev pub prefix_bytes : List Step → List ℕ
prefix_bytes prefix = joined (map step_bytes prefix)

-- the length of a prefix: the offset of the byte after it
abbrev pub size_of : List Step → ℕ
size_of prefix = length (prefix_bytes prefix)

abbrev pub record_of : Step → Option SpelledRecord
record_of (raw b) = None
record_of (read start p) = Some p

-- the records of a prefix
abbrev pub records_of : List Step → List SpelledRecord
records_of prefix = filter_map record_of prefix

-- a record with its offset
abbrev pub OffsetRecord : Type 0
OffsetRecord = ℕ × SpelledRecord

abbrev pub offset_record : Step → Option OffsetRecord
offset_record (raw b) = None
offset_record (read start p) = Some (start, p)

-- the records of a prefix with their offsets
abbrev pub offset_records_of : List Step → List OffsetRecord
offset_records_of prefix = filter_map offset_record prefix

-- the offsets W0 to W7, as far as they were read
abbrev pub offsets_of : List Step → List ℕ
offsets_of prefix = offsets_in (records_of prefix)

-- ---- the location of the next byte

-- a part of a file, the offset of its first byte, and the offset of the byte after it
pub record Extent : Type 0 where
  pub part : Part
  pub from : ℕ
  pub to : ℕ

-- in the header, after this number of its records; in a part; or where ME, the end of the module, must be
pub data Location : Type 0 where
  in_header : ℕ → Location
  in_part : Extent → Location
  at_end : Location

-- the parts, in the order of their offsets
abbrev pub parts_in_order : List Part
parts_in_order = extension_part ∷ environment_part ∷ section_part ∷ external_part ∷ debug_part ∷ data_part ∷ trailer_part ∷ []

-- the first offset that is not 0, or 0 if all are
abbrev pub first_present : List ℕ → ℕ
first_present [] = 0
first_present (zero ∷ offsets) = first_present offsets
first_present (suc w ∷ offsets) = suc w

-- the part that contains the byte at an offset, among these parts with their offsets
abbrev pub part_among : List Part → List ℕ → ℕ → Option Extent
part_among (part ∷ parts) (w ∷ offsets) at = if not (w == 0) && (nat_le w at && nat_lt at (first_present offsets))
    then Some (record { part = part; from = w; to = first_present offsets }) else part_among parts offsets at
part_among parts offsets at = None

-- the part that contains the byte at an offset, by the offsets of the header
abbrev pub part_at : List Step → ℕ → Option Extent
part_at prefix at = part_among parts_in_order (offsets_of prefix) at

abbrev pub location_by : Option Extent → Location
location_by None = at_end
location_by (Some extent) = in_part extent

-- the header has ten records: MB, AD and eight ASW
abbrev pub header_count : ℕ
header_count = 10

-- the location of the byte after a prefix
abbrev pub location_after : List Step → Location
location_after prefix = if nat_lt (length prefix) header_count then in_header (length prefix) else location_by (part_at prefix (size_of prefix))

-- ---- what is next

-- the record that the header must have after this number of records
abbrev pub header_mode : ℕ → Mode
header_mode zero = mode.Begin
header_mode (suc zero) = mode.Descriptor
header_mode (suc (suc k)) = mode.Offset k

-- the part is not read as records: the extension, the environment, and a debug part that is skipped
abbrev pub is_raw : Bool → Part → Bool
is_raw reads_debug extension_part = true
is_raw reads_debug environment_part = true
is_raw reads_debug debug_part = not reads_debug
is_raw reads_debug _ = false

-- items may follow this last record
abbrev pub awaits_items : Option SpelledRecord → Bool
awaits_items None = false
awaits_items (Some p) = opens_items p.row

-- Items follow an LR or another item, and are never first in a part.
abbrev pub body_mode : ReadOptions → List Step → Extent → List ℕ → Mode
body_mode options prefix extent rest = if not (size_of prefix == extent.from) && (awaits_items (last_or None (records_of prefix)) && begins_item rest)
    then items_mode options else mode.Body

-- The number of bytes up to the debug part, if the records before that part end before its first byte, whatever that byte is.
abbrev pub bytes_to_debug : ReadOptions → List Step → Option ℕ
bytes_to_debug options prefix = if ends_before_debug options (offsets_of prefix) && nat_lt (size_of prefix) (debug_offset (offsets_of prefix))
    then Some (debug_offset (offsets_of prefix) - size_of prefix) else None

-- the step of a record that was read
abbrev pub as_step : ℕ → List ℕ → Taken Record → Taken Step
as_step at rest (Got row used) = Got (read at (record { row = row; bytes = take used rest })) used
as_step at rest More = More
as_step at rest (Bad offset reason) = Bad offset reason

-- the step of a byte that is not read as a record
abbrev pub raw_step : List ℕ → Taken Step
raw_step [] = More
raw_step (b ∷ _) = Got (raw b) 1

-- the next step after a prefix, in a part
abbrev pub step_in : ReadOptions → List Step → Extent → List ℕ → Taken Step
step_in options prefix extent rest = if is_raw options.debug extent.part then raw_step rest
    else as_step (size_of prefix) rest (record_within (bytes_to_debug options prefix) (body_mode options prefix extent rest) rest)

-- the next step after a prefix, at a location
abbrev pub step_at : ReadOptions → List Step → Location → List ℕ → Taken Step
step_at options prefix (in_header k) rest = as_step (size_of prefix) rest (record_at (header_mode k) rest)
step_at options prefix (in_part extent) rest = step_in options prefix extent rest
step_at options prefix at_end rest = as_step (size_of prefix) rest (record_at mode.Body rest)

-- The step that follows a prefix at the start of the rest of the stream; or that more bytes are needed; or an error of a field.
abbrev pub next_step : ReadOptions → List Step → List ℕ → Taken Step
next_step options prefix rest = step_at options prefix (location_after prefix) rest

-- ---- the end

abbrev pub is_module_end : Record → Bool
is_module_end r.ModuleEnd = true
is_module_end _ = false

abbrev pub ends_with : Option SpelledRecord → Bool
ends_with None = false
ends_with (Some p) = is_module_end p.row

-- the end of the module was read
abbrev pub is_ended : List Step → Bool
is_ended prefix = ends_with (last_or None (records_of prefix))
