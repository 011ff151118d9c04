-- The results of opening and reading files.
use Rattle.std.specs.Prelude.{◌≡◌, ℕ, ◌+◌, ◌<◌, ◌≤◌, Bool, List, length, take, Option, Some, None, IfSome, OnSome}
use Rattle.mufom_records.specs.declared.options.ReadOptions.{ReadOptions}
use Rattle.mufom_numbers.specs.declared.limits.TheConstants.{MOST_MODULES}
use Rattle.mufom_numbers.specs.declared.reason.Reason.TheVariants as why
use Rattle.mufom_host.specs.World.{NamedFile, Faults, GrowsBy, InputFails, file_named}
use Rattle.mufom_module.specs.declared.module.Parts.{Parts}
use Rattle.mufom_source.specs.declared.source.SourceStop.{SourceStop}
use Rattle.mufom_source.specs.declared.source.SourceStop.TheVariants as stop
use Rattle.mufom_members.specs.declared.members.MembersStop.{MembersStop}
use Rattle.mufom_members.specs.declared.members.MembersStop.TheVariants as members_stop
use Rattle.mufom_outcome.specs.declared.outcome.Input.TheVariants as input
use Rattle.mufom_outcome.specs.declared.outcome.Outcome.{Outcome}
use Rattle.mufom_outcome.specs.declared.outcome.Outcome.TheVariants as outcome
use Rattle.mufom_outcome.specs.declared.outcome.Refusal.TheVariants as refusal
use Rattle.mufom_members.specs.declared.members.Members.{Members}
use Rattle.mufom_members.specs.Files.{accepted as one_accepted}
use Rattle.mufom_members.specs.Names.{AreNames}
use Rattle.mufom_task.specs.Inputs.{ComeTo, IsFilePast, IsFileRefused, IsFileVerdict, accepted, past_limit, refused}
use Rattle.mufom_task.specs.Calls.{Call}

-- the file with this name exists, and the fact holds for its bytes; nothing is claimed if the files are not known
abbrev pub FileHas : List ℕ → Option (List NamedFile) → (List ℕ → Type 0) → Type 0
FileHas name files P = IfSome files (λ fs. (bytes : List ℕ) × (file_named name fs ≡ Some bytes) × P bytes)

-- there is a name for each module, or there are no names and one module
abbrev pub AreAsMany : Option (List (List ℕ)) → List Parts → Type 0
AreAsMany None ms = length ms ≡ 1
AreAsMany (Some names) ms = length names ≡ length ms

-- The bytes have these modules with the names of this listing, and this length, which is at most the limit.
abbrev pub HasFile : ReadOptions → Bool → ℕ → Members → List ℕ → Type 0
HasFile options root limit read bytes = (names : Option (List (List ℕ)))
    × IsFileVerdict options root (length bytes) bytes (one_accepted names read.modules) × AreNames read.listing names
    × (read.length ≡ length bytes) × (length bytes ≤ limit)

-- How many modules the first of the files have, as many as were read: each root has one.
pub record HaveCounts (roots files modules : ℕ) : Type 0 where
  pub few : files ≤ roots → modules ≡ files
  pub many : roots ≤ files → roots ≤ modules

-- the outcome if the root with this number could not be read
abbrev pub outcome_of_source_stop : ℕ → SourceStop → Outcome
outcome_of_source_stop number (stop.Refused r) = outcome.Refused (refusal.Read number r)
outcome_of_source_stop number stop.Limit = outcome.Refused (refusal.InputLimit number)
outcome_of_source_stop number stop.Fault = outcome.ReadFault (input.File number)
outcome_of_source_stop number stop.NoMemory = outcome.NoMemory

-- the outcome if the file of members with this number could not be read
abbrev pub outcome_of_members_stop : ℕ → MembersStop → Outcome
outcome_of_members_stop number (members_stop.Refused r) = outcome.Refused (refusal.Read number r)
outcome_of_members_stop number (members_stop.BadArchive bad) =
    outcome.Refused (refusal.Read number (record { offset = bad.offset; reason = why.BadArchive }))
outcome_of_members_stop number members_stop.Limit = outcome.Refused (refusal.InputLimit number)
outcome_of_members_stop number members_stop.Fault = outcome.ReadFault (input.File number)
outcome_of_members_stop number members_stop.NoMemory = outcome.NoMemory

-- Why the file with this name and number, which is a root or not, could not be read.
abbrev pub FileStops : ReadOptions → Bool → List ℕ → ℕ → ℕ → Option (List NamedFile) → Faults → Faults → Outcome → Type 0
FileStops options root name number limit files before now (outcome.Refused (refusal.Read i r)) =
    (i ≡ number) × FileHas name files (λ bytes. IsFileRefused options root limit bytes r)
FileStops options root name number limit files before now (outcome.Refused (refusal.InputLimit i)) =
    (i ≡ number) × FileHas name files (λ bytes. IsFilePast options root limit bytes)
FileStops options root name number limit files before now (outcome.ReadFault (input.File i)) = (i ≡ number) × InputFails before now
FileStops options root name number limit files before now outcome.NoMemory = Unit {0}
FileStops options root name number limit files before now _ = ⊥

-- Why not all files with these names could be read, of which the first are roots, or why their modules are too many.
abbrev pub FilesStop : ReadOptions → ℕ → List (List ℕ) → Call → Outcome → Type 0
FilesStop options roots names call (outcome.Refused (refusal.Read n r)) =
    IfSome call.old.files (λ files. ComeTo options roots files names (refused n r))
FilesStop options roots names call (outcome.Refused (refusal.InputLimit n)) =
    IfSome call.old.files (λ files. ComeTo options roots files names (past_limit n))
FilesStop options roots names call (outcome.Refused (refusal.TooManyModules n)) =
    (MOST_MODULES < n) × IfSome call.old.files (λ files. (ms : List Parts) × ComeTo options roots files names (accepted ms) × (n ≡ length ms))
FilesStop options roots names call (outcome.ReadFault (input.File n)) =
    InputFails call.before call.now
    × IfSome call.old.files (λ files. (ms : List Parts) × ComeTo options roots files (take n names) (accepted ms))
FilesStop options roots names call outcome.NoMemory = Unit {0}
FilesStop options roots names call _ = ⊥

-- The number of files that are opened: up to the one that the outcome names, or all if their modules are too many; any number if memory
-- ran out.
abbrev pub IsFileCount : List (List ℕ) → Outcome → ℕ → Type 0
IsFileCount names (outcome.Refused (refusal.Read n r)) count = count ≡ n + 1
IsFileCount names (outcome.Refused (refusal.InputLimit n)) count = count ≡ n + 1
IsFileCount names (outcome.Refused (refusal.TooManyModules n)) count = count ≡ length names
IsFileCount names (outcome.ReadFault (input.File n)) count = count ≡ n + 1
IsFileCount names outcome.NoMemory count = Unit {0}
IsFileCount names _ count = ⊥

-- the first of the files are opened, in their order
pub record OpensFiles (names : List (List ℕ)) (call : Call) (result : Outcome) : Type 0 where
  pub count : ℕ
  pub exact : IsFileCount names result count
  pub within : count ≤ length names
  pub opened : OnSome call.new.opened (GrowsBy call.old.opened call.new.opened (take count names))
