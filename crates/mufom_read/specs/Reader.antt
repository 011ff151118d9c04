-- What it means that a reader has read a stream: its state has the longest sound prefix of the stream, or its error.
use Rattle.std.specs.Prelude.{◌≡◌, ◌≢◌, ◌⊎◌, ℕ, ◌+◌, ◌≤◌, Bool, true, false, List, [], ◌++◌, length, drop, Option, Some, None, Result, Ok, Err}
use Rattle.mufom_numbers.specs.declared.taken.Taken.TheVariants.{More}
use Rattle.mufom_numbers.specs.declared.reason.Reason.TheVariants as why
use Rattle.mufom_numbers.specs.Spelling.{AreBytes}
use Rattle.mufom_module.specs.Grammar.{file_limit}
use Rattle.mufom_read.specs.declared.prefix.Prefix.{Prefix}
use Rattle.mufom_read.specs.declared.state.State.{State}
use Rattle.mufom_read.specs.declared.refusal.ReadStop.{ReadStop}
use Rattle.mufom_read.specs.declared.refusal.ReadStop.TheVariants as stop
use Rattle.mufom_judging.specs.Prefixes.{Step, size_of, next_step, is_ended}
use Rattle.mufom_judging.specs.Faults.{ended_part_fault, fault_after}
use Rattle.mufom_judging.specs.Judging.{IsSoundFrom, IsSoundPrefix, IsRefusedAt}
use Rattle.mufom_read.specs.Kept.{as_fault}
use Rattle.mufom_read.specs.PrefixOfCode.{IsPrefixOf}
use Rattle.mufom_records.specs.declared.options.ReadOptions.{ReadOptions}

-- `rest` follows a prefix, and more bytes are needed
pub record IsIncomplete (options : ReadOptions) (prefix : List Step) (rest : List ℕ) : Type 0 where
  pub unended : is_ended prefix ≡ false
  pub faultless : fault_after options prefix rest ≡ None
  pub wanting : next_step options prefix rest ≡ More

-- The result of taking all complete steps of the bytes after a prefix: a prefix without an error, after which the module has
-- ended or more bytes are needed; or an error after such a prefix.
abbrev pub HasTakenAll : ReadOptions → List Step → List ℕ → Prefix → Result ℕ ReadStop → Type 0
HasTakenAll options before rest new (Ok n) = (steps : List Step) × IsPrefixOf new (before ++ steps) × IsSoundFrom options before steps rest
    × (size_of steps ≡ n) × (n ≤ length rest)
    × ((is_ended (before ++ steps) ≡ true) ⊎ IsIncomplete options (before ++ steps) (drop n rest))
HasTakenAll options before rest new (Err (stop.Refused f)) = (steps : List Step) × IsSoundFrom options before steps rest
    × (is_ended (before ++ steps) ≡ false)
    × (fault_after options (before ++ steps) (drop (size_of steps) rest) ≡ Some (as_fault f))
HasTakenAll options before rest new (Err stop.NoMemory) = Unit {0}

-- this number of bytes after a prefix was taken, without an error
pub record HasGoneOn (options : ReadOptions) (before : List Step) (rest : List ℕ) (now : Prefix) (taken : ℕ) : Type 0 where
  pub steps : List Step
  pub is : IsPrefixOf now (before ++ steps)
  pub sound : IsSoundFrom options before steps rest
  pub size : size_of steps ≡ taken
  pub within : taken ≤ length rest
  pub whole : is_ended (before ++ steps) ≡ false → ended_part_fault (before ++ steps) ≡ None

-- No step is left after a prefix: the module has ended and no bytes follow it, or more bytes than these are needed.
abbrev pub HasNoStep : ReadOptions → List Step → List ℕ → Type 0
HasNoStep options prefix rest = ((is_ended prefix ≡ true) × (rest ≡ [])) ⊎ IsIncomplete options prefix rest

-- The result of completing a pending record from a chunk. Either the whole chunk became pending too, and still more bytes are
-- needed; or a step was taken that uses the pending bytes and the returned number of bytes of the chunk, and none are pending;
-- or there is an error.
abbrev pub HasCompleted : ReadOptions → List Step → List ℕ → List ℕ → State → Result ℕ ReadStop → Type 0
HasCompleted options before pending chunk new (Ok n) = (IsPrefixOf new.prefix before × (new.rest.items ≡ pending ++ chunk)
    × IsIncomplete options before (pending ++ chunk))
    ⊎ ((new.rest.items ≡ []) × HasGoneOn options before (pending ++ chunk) new.prefix (length pending + n))
HasCompleted options before pending chunk new (Err s) = HasTakenAll options before (pending ++ chunk) new.prefix (Err s)

-- All complete steps of the bytes after a prefix were taken, and the bytes after those are pending; or there is an error.
abbrev pub HasTakenChunk : ReadOptions → List Step → List ℕ → State → Result (Unit {0}) ReadStop → Type 0
HasTakenChunk options before rest new (Ok done) = (n : ℕ) × HasTakenAll options before rest new.prefix (Ok n) × (new.rest.items ≡ drop n rest)
HasTakenChunk options before rest new (Err s) = HasTakenAll options before rest new.prefix (Err s)

-- The stop after a chunk whose steps were taken: none, or AfterEnd for a byte after the end of the module, or FileLimit for a
-- stream that is too long. `ended` tells whether the module has ended, `size` is the length of the prefix in bytes, `longer`
-- tells whether the stream has more bytes than a file may have, and `rest` are the bytes after the prefix.
abbrev pub HasEndedChunk : Bool → ℕ → Bool → List ℕ → State → Option ReadStop → Type 0
HasEndedChunk ended size longer rest new None = (new.rest.items ≡ rest) × (longer ≡ false) × (ended ≡ true → rest ≡ [])
HasEndedChunk ended size longer rest new (Some (stop.Refused f)) = ((ended ≡ true) × (as_fault f ≡ (size, why.AfterEnd)) × ((longer ≡ true) ⊎ (rest ≢ [])))
    ⊎ ((ended ≡ false) × (as_fault f ≡ (file_limit, why.FileLimit)) × (longer ≡ true))
HasEndedChunk ended size longer rest new (Some stop.NoMemory) = Unit {0}

-- the reader keeps the longest sound prefix of the stream, and the bytes after it
pub record IsReading (reader : State) (stream : List ℕ) : Type 0 where
  pub prefix : List Step
  pub kept : IsPrefixOf reader.prefix prefix
  pub sound : IsSoundPrefix reader.options prefix stream
  pub within : length stream ≤ file_limit
  pub inside : size_of prefix ≤ length stream
  pub rest : reader.rest.items ≡ drop (size_of prefix) stream
  pub waits : ((is_ended prefix ≡ true) × (size_of prefix ≡ length stream)) ⊎ IsIncomplete reader.options prefix reader.rest.items

-- what a reader with this stop knows about the stream; nothing if memory ran out
abbrev pub Knows : State → List ℕ → Option ReadStop → Type 0
Knows reader stream None = IsReading reader stream
Knows reader stream (Some (stop.Refused f)) = IsRefusedAt reader.options stream f.offset f.reason
Knows reader stream (Some stop.NoMemory) = Unit {0}

-- The reader has read the stream.
abbrev pub HasRead : State → List ℕ → Type 0
HasRead reader stream = AreBytes stream × Knows reader stream reader.stop

-- the error that stopped a reader, if there is one
abbrev pub reader_stop : State → Option ReadStop
reader_stop reader = reader.stop

-- whether a reader reads the debug part
abbrev pub options_of : State → ReadOptions
options_of reader = reader.options

-- what a reader with this stop returns
abbrev pub answer_of : Option ReadStop → Result (Unit {0}) ReadStop
answer_of None = Ok tt
answer_of (Some s) = Err s
