-- What the result of reading a file says of it.
use Rattle.std.specs.Prelude.{ℕ, List, Option, Result, Ok, Err}
use Rattle.mufom_members.specs.declared.members.Members.{Members}
use Rattle.mufom_members.specs.declared.members.MembersStop.{MembersStop}
use Rattle.mufom_members.specs.declared.members.MembersStop.TheVariants as stop
use Rattle.mufom_members.specs.Files.{Verdict, accepted, bad_archive, past_limit, refused}
use Rattle.mufom_members.specs.Names.{AreNames}

-- The stop is this verdict. Nothing is claimed of a failed read and of out of memory.
abbrev pub StopsBy : (Verdict → Type 0) → MembersStop → Type 0
StopsBy P (stop.Refused r) = P (refused r.offset r.reason)
StopsBy P (stop.BadArchive bad) = P (bad_archive bad.offset)
StopsBy P stop.Limit = P past_limit
StopsBy P stop.Fault = Unit {0}
StopsBy P stop.NoMemory = Unit {0}

-- the stop says nothing of the file: it is a failed read, or out of memory
abbrev pub SaysNothing : MembersStop → Type 0
SaysNothing stop.Fault = Unit {0}
SaysNothing stop.NoMemory = Unit {0}
SaysNothing _ = ⊥

-- The result of reading a whole file: its modules, with their names if it is an archive; or why it has none.
abbrev pub HasModules : (Verdict → Type 0) → Result Members MembersStop → Type 0
HasModules P (Ok r) = (names : Option (List (List ℕ))) × P (accepted names r.modules) × AreNames r.listing names
HasModules P (Err s) = StopsBy P s
