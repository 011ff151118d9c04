-- The effect of a writer on the file being made.
use Rattle.std.specs.Prelude.{◌≡◌, ℕ, ◌+◌, List, length, Result, Ok}
use Rattle.mufom_host.specs.declared.world.Failed.{Failed}
use Rattle.mufom_host.specs.World.{Meaning, Faults, WritesAll, HasCause, KeepsAllButMaking, KeepsAllButWrites}
use Rattle.mufom_module.specs.Weights.{capped}

-- the file being made grows by all of the bytes, or by a prefix of them if a write fails; only the count of failed writes may change too
pub record Writes (old new : Meaning) (before now : Faults) (bytes : List ℕ) (result : Result (Unit {0}) Failed) : Type 0 where
  pub added : WritesAll old.making new.making result bytes
  pub stays : KeepsAllButMaking old new
  pub cause : HasCause before.writes now.writes result
  pub counts : KeepsAllButWrites before now

-- the call succeeds, and a count, capped at the greatest 64-bit number, rises by the number of bytes
pub record Counts (before now : ℕ) (bytes : List ℕ) (result : Result (Unit {0}) Failed) : Type 0 where
  pub done : result ≡ Ok tt
  pub length : capped now ≡ capped (before + length bytes)

-- Some of the bytes were written between `start` and `now`: a call that writes the rest after `now` completes a write of all from `start`.
pub record LeadsTo {S : Type 0} (takes : S → S → List ℕ → Result (Unit {0}) Failed → Type 0) (start now : S) (rest all : List ℕ) : Type 0 where
  pub leads : (s : S) (r : Result (Unit {0}) Failed) → takes now s rest r → takes start s all r
