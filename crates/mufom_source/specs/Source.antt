-- What reading a module from a source returns, if the bytes that the source has left are known.
use Rattle.std.specs.Prelude.{◌≡◌, ℕ, ◌<◌, ◌≤◌, List, [], ◌++◌, length, take, Option, Some, Result, Ok, Err, IfSome}
use Rattle.mufom_numbers.specs.Spelling.{AreBytes}
use Rattle.mufom_host.specs.World.{ReadsOff}
use Rattle.mufom_module.specs.declared.module.Parts.{Parts}
use Rattle.mufom_read.specs.declared.refusal.ReadStop.{ReadStop}
use Rattle.mufom_read.specs.declared.refusal.ReadStop.TheVariants as read_stop
use Rattle.mufom_source.specs.declared.source.SourceStop.{SourceStop}
use Rattle.mufom_source.specs.declared.source.SourceStop.TheVariants as stop
use Rattle.mufom_read.specs.declared.state.State.{State}
use Rattle.mufom_judging.specs.Judging.{IsRefusedAt, IsModule}
use Rattle.mufom_judging.specs.Limited.{IsUnrefused, IsRefusedWithin, IsPastLimit}
use Rattle.mufom_read.specs.Reader.{HasRead, options_of}
use Rattle.mufom_records.specs.declared.options.ReadOptions.{ReadOptions}

-- the size of the read buffer in bytes
abbrev pub buffer_size : ℕ
buffer_size = 65536

-- At most `most` bytes were read from what was left.
abbrev pub ReadsAtMost : ℕ → Option (List ℕ) → Option (List ℕ) → Type 0
ReadsAtMost most before after = (bytes : List ℕ) × ReadsOff before after bytes × (length bytes ≤ most)

-- What is left are the bytes after those that were read. All bytes that came before the last read are within the limit and
-- contain no error. The last read took at most one buffer.
abbrev pub ReadsNoFurther : ReadOptions → ℕ → Option (List ℕ) → Option (List ℕ) → Type 0
ReadsNoFurther options limit before after = IfSome before (λ left. (earlier last rest : List ℕ) × (left ≡ earlier ++ (last ++ rest)) × (after ≡ Some rest)
    × (length last ≤ buffer_size) × (length earlier ≤ limit) × IsUnrefused options earlier)

-- A module that is returned is that of all bytes that were left, and their number is returned with it. Every error except out
-- of memory and a failed read follows from these bytes.
abbrev pub ReadsModule : ReadOptions → ℕ → Option (List ℕ) → Option (List ℕ) → Result (Parts × ℕ) SourceStop → Type 0
ReadsModule options limit before after (Ok read) = IfSome before (λ left. IsModule options left read.0 × (read.1 ≡ length left)
    × (length left ≤ limit) × (after ≡ Some []))
ReadsModule options limit before after (Err (stop.Refused r)) = IfSome before (λ left. IsRefusedWithin options limit left r.offset r.reason)
ReadsModule options limit before after (Err stop.Limit) = IfSome before (λ left. IsPastLimit options limit left)
ReadsModule options limit before after (Err stop.Fault) = Unit {0}
ReadsModule options limit before after (Err stop.NoMemory) = Unit {0}

-- an error of the reader as an error of reading the source
abbrev pub stop_by : ReadStop → SourceStop
stop_by (read_stop.Refused r) = stop.Refused r
stop_by read_stop.NoMemory = stop.NoMemory

-- ---- the reader and what the source has left

-- The result of feeding a chunk to a reader of this stream, of which it may read `room` bytes. Either it has read the chunk and
-- found no error; or there is an error within the bytes that it may read; or there is none, and the chunk has more bytes.
abbrev pub HasFed : ℕ → List ℕ → List ℕ → State → Result (Unit {0}) SourceStop → Type 0
HasFed room stream chunk reader (Ok done) = (length chunk ≤ room) × HasRead reader (stream ++ chunk) × IsUnrefused (options_of reader) (stream ++ chunk)
HasFed room stream chunk reader (Err (stop.Refused r)) = AreBytes (stream ++ take room chunk)
    × IsRefusedAt (options_of reader) (stream ++ take room chunk) r.offset r.reason
HasFed room stream chunk reader (Err stop.Limit) = (room < length chunk) × IsUnrefused (options_of reader) (stream ++ take room chunk)
HasFed room stream chunk reader (Err stop.Fault) = ⊥
HasFed room stream chunk reader (Err stop.NoMemory) = Unit {0}

-- The result of one read whose bytes are fed to a reader of this stream, which may read `room` bytes. Either it has read them
-- and found no error, and there were none only if none was left; or there is an error within the bytes that it may read; or
-- there is none, and more bytes are left.
abbrev pub HasReadChunk : ℕ → Option (List ℕ) → Option (List ℕ) → List ℕ → State → Result ℕ SourceStop → Type 0
HasReadChunk room before after stream reader (Ok n) = (chunk : List ℕ) × (length chunk ≡ n) × (n ≤ room) × ReadsOff before after chunk
    × HasRead reader (stream ++ chunk) × (n ≡ 0 → IfSome before (λ left. left ≡ []))
    × IsUnrefused (options_of reader) (stream ++ chunk)
HasReadChunk room before after stream reader (Err (stop.Refused r)) =
    IfSome before (λ left. IsRefusedAt (options_of reader) (stream ++ take room left) r.offset r.reason)
HasReadChunk room before after stream reader (Err stop.Limit) =
    IfSome before (λ left. (room < length left) × IsUnrefused (options_of reader) (stream ++ take room left))
HasReadChunk room before after stream reader (Err stop.Fault) = Unit {0}
HasReadChunk room before after stream reader (Err stop.NoMemory) = Unit {0}

-- The reader has read all that was left, at most `limit` bytes; or the error follows from what was left.
abbrev pub HasReadAll : ℕ → Option (List ℕ) → Option (List ℕ) → State → Result ℕ SourceStop → Type 0
HasReadAll limit before after reader (Ok n) = (bytes : List ℕ) × (length bytes ≡ n) × (n ≤ limit) × HasRead reader bytes
    × IfSome before (λ left. (left ≡ bytes) × (after ≡ Some []))
HasReadAll limit before after reader (Err s) = ReadsModule (options_of reader) limit before after (Err s)
