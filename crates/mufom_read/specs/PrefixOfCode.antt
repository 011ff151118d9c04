-- What the code keeps of a prefix, and what its functions do to it.
use Rattle.std.specs.Prelude.{◌≡◌, ◌⊎◌, ℕ, ◌+◌, ◌-◌, ◌<◌, ◌≤◌, nat_lt, nat_le, min, Bool, true, false, List, [], ◌∷◌, ◌++◌, length, take, drop, Option, None}
use Rattle.std.specs.Prelude.{Some, is_some, if◌then◌else◌}
use Rattle.std.specs.List.{last_or, cons_option}
use Rattle.mufom_records.specs.declared.record.Mode.{Mode}
use Rattle.mufom_records.specs.declared.record.Mode.TheVariants as mode
use Rattle.mufom_records.specs.declared.record.Record.{Record}
use Rattle.mufom_records.specs.declared.record.Record.TheVariants as r
use Rattle.mufom_module.specs.SpelledRecords.{SpelledRecord}
use Rattle.mufom_numbers.specs.declared.taken.Taken.{Taken}
use Rattle.mufom_numbers.specs.declared.taken.Taken.TheVariants.{Got, More}
use Rattle.mufom_module.specs.RecordParts.{Part, extension_part, environment_part, opens_items}
use Rattle.mufom_module.specs.Grammar.{offset_in, FollowFrom}
use Rattle.mufom_read.specs.declared.prefix.Prefix.{Prefix}
use Rattle.mufom_read.specs.declared.prefix.Location as code
use Rattle.mufom_read.specs.declared.prefix.Location.TheVariants as offset
use Rattle.mufom_read.specs.declared.part.Part as codes
use Rattle.mufom_read.specs.declared.part.Part.TheVariants as part_of_code
use Rattle.mufom_read.specs.declared.part.Extent as extents
use Rattle.mufom_read.specs.declared.prefix.Next.{Next}
use Rattle.mufom_read.specs.declared.prefix.Next.TheVariants as next
use Rattle.mufom_judging.specs.Prefixes.{Step, step_bytes, read, header_mode, body_mode}
use Rattle.mufom_judging.specs.Prefixes.{bytes_to_debug, is_raw, part_among, parts_in_order, location_by, location_after}
use Rattle.mufom_judging.specs.Prefixes.{size_of, records_of, offset_records_of, offsets_of, first_present, header_count, Location, in_header, in_part}
use Rattle.mufom_judging.specs.Prefixes.{at_end, next_step, awaits_items, is_module_end, is_ended}
use Rattle.mufom_judging.specs.Faults.{open_blocks, ends_badly, record_fault, step_fault, ended_part_fault, fault_after}
use Rattle.mufom_judging.specs.Judging.{IsSoundFrom}
use Rattle.mufom_judging.specs.Stated.{part_bytes}
use Rattle.mufom_read.specs.PartsOfCode.{as_part, as_extent}
use Rattle.mufom_read.specs.Kept.{tables_of, with_row, is_new, as_fault}
use Rattle.mufom_read.specs.NamesSoFar.{AreRising}
use Rattle.mufom_judging.specs.RecordFields.{HasKind}
use Rattle.mufom_read.specs.ContentsSoFar.{AreContentsOf}
use Rattle.mufom_records.specs.declared.options.ReadOptions.{ReadOptions}

-- a location of the code as a location of the specs
abbrev pub as_location : code.Location → Location
as_location (offset.Header k) = in_header k
as_location (offset.Part e) = in_part (as_extent e)
as_location offset.End = at_end

-- The location of the next byte after a step at this location. `size` is the number of bytes before that byte. A location in a
-- part stays the same up to the end of the part.
abbrev pub next_location : Location → List ℕ → ℕ → Location
next_location (in_header k) offsets size = if nat_lt k 9 then in_header (k + 1) else location_by (part_among parts_in_order offsets size)
next_location (in_part e) offsets size = if nat_lt size e.to then in_part e else location_by (part_among parts_in_order offsets size)
next_location at_end offsets size = location_by (part_among parts_in_order offsets size)

-- the last of the first `size` bytes is in the same part as the byte after it, which is at this location
abbrev pub is_inside : Location → ℕ → Bool
is_inside (in_header k) size = false
is_inside (in_part e) size = nat_lt e.from size
is_inside at_end size = false

-- each of the offsets that is not 0 is at least `w`
abbrev pub AreFrom : ℕ → List ℕ → Type 0
AreFrom w [] = Unit {0}
AreFrom w (v ∷ offsets) = ((v ≡ 0) ⊎ (w ≤ v)) × AreFrom w offsets

-- the offsets that are not 0 do not decrease
abbrev pub AreOrdered : List ℕ → Type 0
AreOrdered [] = Unit {0}
AreOrdered (w ∷ offsets) = AreFrom w offsets × AreOrdered offsets

-- the number of offsets in the first `n` records: all after MB and AD, at most eight
abbrev pub offset_count : ℕ → ℕ
offset_count n = min (n - 2) 8

-- the bytes of a part that a prefix has; none before the header is complete
abbrev pub bytes_so_far : Part → List Step → List ℕ
bytes_so_far part prefix = if nat_lt (length prefix) header_count then [] else part_bytes part prefix

-- The code keeps this prefix: what its records state of the module, what they declare and state once, the offsets of the
-- header, the bytes of the extension and of the environment, the length in bytes, and the location of the next byte. After
-- the header the first part has begun.
pub record IsPrefixOf (f : Prefix) (prefix : List Step) : Type 0 where
  pub contents : AreContentsOf f.contents (offset_records_of prefix)
  pub awaits : f.awaits_items ≡ awaits_items (last_or None (records_of prefix))
  pub ended : f.ended ≡ is_ended prefix
  pub tables : f.tables ≡ tables_of (records_of prefix)
  pub offsets : f.offsets ≡ offsets_of prefix
  pub extension : f.extension.items ≡ bytes_so_far extension_part prefix
  pub environment : f.environment.items ≡ bytes_so_far environment_part prefix
  pub size : f.size ≡ size_of prefix
  pub location : as_location f.location ≡ location_after prefix
  pub few : length prefix ≤ size_of prefix
  pub ordered : AreOrdered (offsets_of prefix)
  pub count : length (offsets_of prefix) ≡ offset_count (length prefix)
  pub begun : 10 ≤ length prefix → first_present (offsets_of prefix) ≤ size_of prefix
  pub follow : FollowFrom [] (records_of prefix)
  pub rising : AreRising 0 (offset_records_of prefix) (size_of prefix)

-- the prefix with one more record; the contents and the location after it are those of `new`
abbrev pub with_record : Prefix → SpelledRecord → Prefix → Prefix
with_record f p new = record {
  contents = new.contents;
  tables = with_row f.tables p.row;
  awaits_items = opens_items p.row;
  ended = is_module_end p.row;
  offsets = f.offsets ++ cons_option (offset_in p.row) [];
  extension = f.extension;
  environment = f.environment;
  size = f.size + length p.bytes;
  location = new.location;
}

-- what must hold of a record so that it can be added to a prefix
pub record IsAddable (prefix : List Step) (row : Record) : Type 0 where
  pub new : is_new (tables_of (records_of prefix)) row ≡ true
  pub kind : HasKind row
  pub nested : ends_badly (open_blocks (offset_records_of prefix)) row ≡ false
  pub ordered : AreOrdered (offsets_of prefix) → AreOrdered (offsets_of prefix ++ cons_option (offset_in row) [])

-- a record of the header: MB, AD and ASW
abbrev pub IsHeaderRow : Record → Type 0
IsHeaderRow (r.ModuleBegin _ _) = Unit {0}
IsHeaderRow (r.Descriptor _ _ _) = Unit {0}
IsHeaderRow (r.Offset _ _) = Unit {0}
IsHeaderRow _ = ⊥

-- A record fits its location: in the header it is a record of the header, and states an offset unless it is one of the first
-- two; in a part, a block has the fields of its kind.
abbrev pub IsPlacedWell : code.Location → Record → Type 0
IsPlacedWell (offset.Header k) row = IsHeaderRow row × (is_some (offset_in row) ≡ nat_le 2 k)
IsPlacedWell (offset.Part e) row = HasKind row
IsPlacedWell offset.End row = Unit {0}

-- the mode in which to read the bytes at a location
abbrev pub mode_at : ReadOptions → List Step → Location → List ℕ → Mode
mode_at options prefix (in_header k) rest = header_mode k
mode_at options prefix (in_part e) rest = body_mode options prefix e rest
mode_at options prefix at_end rest = mode.Body

-- the number of bytes up to those of the debug part that belong to no record, at a location
abbrev pub end_at : ReadOptions → List Step → Location → Option ℕ
end_at options prefix (in_header k) = None
end_at options prefix (in_part e) = bytes_to_debug options prefix
end_at options prefix at_end = None

-- The result of taking a complete record after a prefix: it has no error and was added, or it has this error.
abbrev pub HasTaken : List Step → SpelledRecord → Prefix → Next → Type 0
HasTaken prefix p new (next.Took n) = (n ≡ length p.bytes) × (record_fault prefix (location_after prefix) (size_of prefix) p ≡ None)
    × IsPrefixOf new (prefix ++ read (size_of prefix) p ∷ [])
HasTaken prefix p new next.More = ⊥
HasTaken prefix p new (next.Refused f) = record_fault prefix (location_after prefix) (size_of prefix) p ≡ Some (as_fault f)

-- the bytes at the location are read as records
abbrev pub IsRead : ReadOptions → code.Location → Type 0
IsRead options (offset.Header k) = Unit {0}
IsRead options (offset.Part e) = is_raw options.debug (as_part e.part) ≡ false
IsRead options offset.End = Unit {0}

-- the location is in this part, whose bytes are not read as records
abbrev pub IsRawPart : ReadOptions → code.Location → extents.Extent → Type 0
IsRawPart options at e = (at ≡ offset.Part e) × (is_raw options.debug (as_part e.part) ≡ true)

-- The result of reading after a prefix: a step without an error was taken, more bytes are needed, or there is this error.
abbrev pub HasJudged : List Step → Taken Step → List ℕ → Prefix → Next → Type 0
HasJudged prefix stands rest new (next.Took n) = (step : Step) × (stands ≡ Got step n) × (length (step_bytes step) ≡ n) × (step_fault prefix stands ≡ None)
    × (0 < n) × (n ≤ length rest) × IsPrefixOf new (prefix ++ step ∷ [])
HasJudged prefix stands rest new next.More = IsPrefixOf new prefix × (stands ≡ More)
HasJudged prefix stands rest new (next.Refused f) = step_fault prefix stands ≡ Some (as_fault f)

-- the bytes, if the part is the extension
abbrev pub extension_in : codes.Part → List ℕ → List ℕ
extension_in part_of_code.Extension bytes = bytes
extension_in _ bytes = []

-- the bytes, if the part is the environment
abbrev pub environment_in : codes.Part → List ℕ → List ℕ
environment_in part_of_code.Environment bytes = bytes
environment_in _ bytes = []

-- These bytes of a part, which are not read as records, were added to the prefix. Those of the extension and of the
-- environment are kept.
pub record HasRaw (old : Prefix) (part : codes.Part) (bytes : List ℕ) (new : Prefix) : Type 0 where
  pub contents : new.contents ≡ old.contents
  pub tables : new.tables ≡ old.tables
  pub awaits : new.awaits_items ≡ old.awaits_items
  pub ended : new.ended ≡ old.ended
  pub offsets : new.offsets ≡ old.offsets
  pub extension : new.extension.items ≡ old.extension.items ++ extension_in part bytes
  pub environment : new.environment.items ≡ old.environment.items ++ environment_in part bytes
  pub size : new.size ≡ old.size + length bytes
  pub location : as_location new.location ≡ next_location (as_location old.location) old.offsets (old.size + length bytes)

-- Bytes of a part that are not read as records were taken: up to the part's end, or all that are there.
abbrev pub HasSkipped : Prefix → codes.Part → ℕ → List ℕ → Prefix → Next → Type 0
HasSkipped old part most rest new (next.Took n) = (n ≡ min most (length rest)) × (0 < n) × HasRaw old part (take n rest) new
HasSkipped old part most rest new next.More = (rest ≡ []) × (new ≡ old)
HasSkipped old part most rest new (next.Refused f) = ⊥

-- The result of the next step after a prefix: steps without an error were taken, more bytes are needed, or there is this error.
abbrev pub IsStepTaken : ReadOptions → List Step → List ℕ → Prefix → Next → Type 0
IsStepTaken options prefix rest new (next.Took n) = (steps : List Step) × IsPrefixOf new (prefix ++ steps) × IsSoundFrom options prefix steps rest
    × (size_of steps ≡ n) × (0 < n) × (n ≤ length rest)
IsStepTaken options prefix rest new next.More = IsPrefixOf new prefix × (next_step options prefix rest ≡ More)
IsStepTaken options prefix rest new (next.Refused f) = step_fault prefix (next_step options prefix rest) ≡ Some (as_fault f)

-- The result of advancing from a prefix over these bytes: steps without an error were taken, more bytes are needed, or there
-- is an error, maybe after steps without one.
abbrev pub HasAdvanced : ReadOptions → List Step → List ℕ → Prefix → Next → Type 0
HasAdvanced options prefix rest new (next.Took n) = (steps : List Step) × IsPrefixOf new (prefix ++ steps) × IsSoundFrom options prefix steps rest
    × (size_of steps ≡ n) × (0 < n) × (n ≤ length rest) × (is_ended (prefix ++ steps) ≡ false → ended_part_fault (prefix ++ steps) ≡ None)
HasAdvanced options prefix rest new next.More = IsPrefixOf new prefix × (next_step options prefix rest ≡ More)
HasAdvanced options prefix rest new (next.Refused f) = (steps : List Step) × IsSoundFrom options prefix steps rest
    × (is_ended (prefix ++ steps) ≡ false)
    × (fault_after options (prefix ++ steps) (drop (size_of steps) rest) ≡ Some (as_fault f))
