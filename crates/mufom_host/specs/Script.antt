-- Sequences of calls of a host in memory.
use Rattle.std.specs.Prelude.{◌≡◌, ℕ, ◌+◌, ◌≤◌, true, List, [], ◌∷◌, length}
use Rattle.std.specs.List.{sum_by}
use Rattle.mufom_host.specs.World.{NamedFile}
use Rattle.mufom_host.specs.Kept.{has_file}
use Rattle.mufom_host.specs.Memory.{Memory, after_read, after_open, after_write, after_create, after_finish, after_print, after_complain}

-- a call: a read with the length of its buffer in bytes, or another call with its name or bytes
pub data Call : Type 0 where
  reads : ℕ → Call
  opens : List ℕ → Call
  writes : List ℕ → Call
  creates : List ℕ → Call
  finishes : Call
  prints : List ℕ → Call
  complains : List ℕ → Call

-- the state after a call
abbrev pub after_call : Memory → Call → Memory
after_call m (reads size) = after_read m size
after_call m (opens name) = after_open m name
after_call m (writes chunk) = after_write m chunk
after_call m (creates name) = after_create m name
after_call m finishes = after_finish m
after_call m (prints text) = after_print m text
after_call m (complains text) = after_complain m text

-- the state after a sequence of calls
abbrev pub after_calls : Memory → List Call → Memory
after_calls m [] = m
after_calls m (call ∷ calls) = after_calls (after_call m call) calls

-- the number of bytes of its room that each part uses up in a call
abbrev pub opened_by : Call → ℕ
opened_by (opens name) = length name + 8
opened_by call = 0

abbrev pub created_by : Call → ℕ
created_by (creates name) = length name + 8
created_by call = 0

abbrev pub written_by : Call → ℕ
written_by (writes chunk) = length chunk
written_by call = 0

abbrev pub printed_by : Call → ℕ
printed_by (prints text) = length text
printed_by call = 0

abbrev pub complained_by : Call → ℕ
complained_by (complains text) = length text
complained_by call = 0

-- the number of files that a call starts to make
abbrev pub begun_by : Call → ℕ
begun_by (creates name) = 1
begun_by call = 0

-- if the call is an open, the file exists
abbrev pub OpensWhatIsThere : List NamedFile → Call → Type 0
OpensWhatIsThere files (opens name) = has_file name files ≡ true
OpensWhatIsThere files call = Unit {0}

abbrev pub AllOpenWhatIsThere : List NamedFile → List Call → Type 0
AllOpenWhatIsThere files [] = Unit {0}
AllOpenWhatIsThere files (call ∷ calls) = OpensWhatIsThere files call × AllOpenWhatIsThere files calls

-- only existing files are opened, there is enough room, and at most one file is made
pub record IsModest (files : List NamedFile) (room : ℕ) (calls : List Call) : Type 0 where
  pub there : AllOpenWhatIsThere files calls
  pub opened : sum_by opened_by calls ≤ room
  pub created : sum_by created_by calls ≤ room
  pub written : sum_by written_by calls ≤ room
  pub printed : sum_by printed_by calls ≤ room
  pub complained : sum_by complained_by calls ≤ room
  pub one : sum_by begun_by calls ≤ 1
