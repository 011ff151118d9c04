-- The effect of writing bytes through a buffer, which holds some of them before they are written to the file.
use Rattle.std.specs.Prelude.{◌≡◌, ℕ, List, ◌++◌, Result, Ok, Err, Option}
use Rattle.mufom_host.specs.declared.world.Failed.{Failed}
use Rattle.mufom_host.specs.World.{NamedFile, Meaning, Faults, MakingGrowsBy, MakingGrowsByPrefix, HasCause, KeepsAllButMaking, KeepsAllButWrites}

-- The bytes by which the file being made grows, followed by those held afterwards (`holds`), are the bytes held before (`held`)
-- followed by the new ones. If the call fails, the file grows by a prefix of `held` and the new bytes.
abbrev pub Passes : Option (Option NamedFile) → Option (Option NamedFile) → List ℕ → List ℕ → List ℕ → Result (Unit {0}) Failed → Type 0
Passes before after held holds bytes (Ok done) = (passed : List ℕ) × MakingGrowsBy before after passed × (passed ++ holds ≡ held ++ bytes)
Passes before after held holds bytes (Err e) = MakingGrowsByPrefix before after (held ++ bytes)

-- Bytes were written through the buffer; nothing else changes, except the count of failed writes.
pub record Holds (old new : Meaning) (before now : Faults) (held holds bytes : List ℕ) (result : Result (Unit {0}) Failed) : Type 0 where
  pub added : Passes old.making new.making held holds bytes result
  pub stays : KeepsAllButMaking old new
  pub cause : HasCause before.writes now.writes result
  pub counts : KeepsAllButWrites before now
