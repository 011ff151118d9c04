-- The host in memory: its state, exactly which of its calls fail, and its state after each call.
use Rattle.std.specs.Prelude.{ℕ, ◌+◌, min, nat_lt, Bool, true, false, not, ◌||◌, if◌then◌else◌, List, [], ◌++◌, length, drop, Option, Some, None, is_some}
use Rattle.mufom_host.specs.World.{NamedFile, Meaning, Faults, one_more, optional, with_bytes}
use Rattle.mufom_host.specs.declared.cause.Cause.{Cause}
use Rattle.mufom_host.specs.declared.cause.Cause.TheVariants as cause
use Rattle.mufom_host.specs.Revealed.{revealed}
use Rattle.mufom_host.specs.Kept.{names_with, has_file, is_listed, bytes_after, has_any, passes_file}

pub record Memory : Type 0 where
  -- the files that may be opened, and the unread bytes of the open one
  pub files : List NamedFile
  pub left : List ℕ
  -- the one file that is made, while it is being made and when it is finished
  pub making : Option NamedFile
  pub made : List NamedFile
  pub out : List ℕ
  pub err : List ℕ
  -- the names opened and the names created; a list is None once a name has exceeded the room
  pub opened : Option (List (List ℕ))
  pub created : Option (List (List ℕ))
  -- the limit on the size in bytes of each of the two texts, of the file that is made and of each list of names
  pub room : ℕ
  pub faults : Faults
  -- the numbers of the calls that fail, and the numbers of the next calls
  pub fail_reads : List ℕ
  pub fail_writes : List ℕ
  pub read_number : ℕ
  pub write_number : ℕ
  -- the cause of the last failed call
  pub cause : Cause

-- a new host: no file is open or made, nothing is printed, and all counts are 0
abbrev pub fresh : List NamedFile → List ℕ → List ℕ → ℕ → Memory
fresh files fail_reads fail_writes room = record {
  files = files;
  left = [];
  making = None;
  made = [];
  out = [];
  err = [];
  opened = Some [];
  created = Some [];
  room = room;
  faults = record { reads = 0; writes = 0; complaints = 0; input_failed = false };
  fail_reads = fail_reads;
  fail_writes = fail_writes;
  read_number = 0;
  write_number = 0;
  cause = cause.Unknown;
}

-- a host in memory reveals its whole state, and its files if they hold bytes (numbers below 256)
abbrev pub memory_meaning : Memory → Meaning
memory_meaning m = record {
  left = Some m.left;
  files = revealed m.files;
  making = Some m.making;
  made = Some m.made;
  out = Some m.out;
  err = Some m.err;
  opened = m.opened;
  created = m.created;
}

abbrev pub memory_faults : Memory → Faults
memory_faults m = m.faults

-- ---- calls are numbered, and failed ones counted

abbrev pub read_called : Memory → Memory
read_called m = record m { read_number = one_more m.read_number }

abbrev pub write_called : Memory → Memory
write_called m = record m { write_number = one_more m.write_number }

abbrev pub read_failed : Memory → Memory
read_failed m = record m {
  read_number = one_more m.read_number;
  faults = record m.faults { reads = one_more m.faults.reads; input_failed = true };
  cause = cause.Unknown;
}

abbrev pub write_failed : Memory → Memory
write_failed m = record m { write_number = one_more m.write_number; faults = record m.faults { writes = one_more m.faults.writes }; cause = cause.Unknown }

abbrev pub complaint_failed : Memory → Memory
complaint_failed m = record m {
  write_number = one_more m.write_number;
  faults = record m.faults { complaints = one_more m.faults.complaints };
  cause = cause.Unknown;
}

-- the next open or read is in the list of the calls that fail; is_failing_write says the same of the next other call
abbrev pub is_failing_read : Memory → Bool
is_failing_read m = is_listed m.read_number m.fail_reads

abbrev pub is_failing_write : Memory → Bool
is_failing_write m = is_listed m.write_number m.fail_writes

-- ---- each call: when it fails, and what state it leaves

abbrev pub after_read : Memory → ℕ → Memory
after_read m size = if is_failing_read m then read_failed m else record (read_called m) { left = drop (min size (length m.left)) m.left }

-- the call is listed to fail, this name or an earlier one exceeds the room, or no file has the name
abbrev pub open_fails : Memory → List ℕ → Bool
open_fails m name = is_failing_read m || (not (is_some (names_with m.room m.opened name)) || not (has_file name m.files))

-- why an open of this name failed: no file has it, or a host in memory cannot tell
abbrev pub open_cause : Memory → List ℕ → Cause
open_cause m name = if has_file name m.files then cause.Unknown else cause.NoFile

abbrev pub after_open : Memory → List ℕ → Memory
after_open m name =
    if open_fails m name
    then record (read_failed m) { opened = names_with m.room m.opened name; cause = open_cause m name }
    else record (read_called m) {
      opened = names_with m.room m.opened name;
      left = bytes_after name m.files m.left;
      faults = record m.faults { input_failed = false };
    }

-- the call is listed to fail, or the file being made has no room for the chunk
abbrev pub write_fails : Memory → List ℕ → Bool
write_fails m chunk = is_failing_write m || passes_file m.making m.room (length chunk)

abbrev pub after_write : Memory → List ℕ → Memory
after_write m chunk = if write_fails m chunk then write_failed m else record (write_called m) { making = with_bytes m.making chunk }

-- the call is listed to fail, this name or an earlier one exceeds the room, or a file is finished already
abbrev pub create_fails : Memory → List ℕ → Bool
create_fails m name = is_failing_write m || (not (is_some (names_with m.room m.created name)) || has_any m.made)

abbrev pub after_create : Memory → List ℕ → Memory
after_create m name =
    if create_fails m name
    then record (write_failed m) { created = names_with m.room m.created name }
    else record (write_called m) { created = names_with m.room m.created name; making = Some (name, []) }

abbrev pub after_finish : Memory → Memory
after_finish m = if is_failing_write m then write_failed m else record (write_called m) { making = None; made = m.made ++ optional m.making }

-- with these bytes added, the text would exceed the room
abbrev pub passes : ℕ → List ℕ → List ℕ → Bool
passes room old text = nat_lt room (length old + length text)

abbrev pub after_print : Memory → List ℕ → Memory
after_print m text = if is_failing_write m || passes m.room m.out text then write_failed m else record (write_called m) { out = m.out ++ text }

abbrev pub after_complain : Memory → List ℕ → Memory
after_complain m text = if is_failing_write m || passes m.room m.err text then complaint_failed m else record (write_called m) { err = m.err ++ text }
