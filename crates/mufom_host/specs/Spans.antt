-- The effect of a sequence of calls of one kind, so that a loop that makes them needs only one line of invariants.
use Rattle.std.specs.Prelude.{ℕ, ◌≤◌, List}
use Rattle.mufom_host.specs.World.{Meaning, Faults, GrowsBy, MakingGrowsBy, ReadsOff, KeepsAllButLeft, KeepsAllButMaking, KeepsAllButOut}
use Rattle.mufom_host.specs.World.{KeepsAllButReads, KeepsAllButWrites}

-- there were only reads, all successful, and they took these bytes
pub record AfterReads (old new : Meaning) (before now : Faults) (bytes : List ℕ) : Type 0 where
  pub taken : ReadsOff old.left new.left bytes
  pub stays : KeepsAllButLeft old new
  pub later : before.reads ≤ now.reads
  pub counts : KeepsAllButReads before now

-- there were only writes, all successful, and they took these bytes
pub record AfterWrites (old new : Meaning) (before now : Faults) (bytes : List ℕ) : Type 0 where
  pub added : MakingGrowsBy old.making new.making bytes
  pub stays : KeepsAllButMaking old new
  pub later : before.writes ≤ now.writes
  pub counts : KeepsAllButWrites before now

-- there were only prints, all successful, and they took these bytes
pub record AfterPrints (old new : Meaning) (before now : Faults) (bytes : List ℕ) : Type 0 where
  pub added : GrowsBy old.out new.out bytes
  pub stays : KeepsAllButOut old new
  pub later : before.writes ≤ now.writes
  pub counts : KeepsAllButWrites before now
