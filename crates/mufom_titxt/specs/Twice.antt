-- The errors of joining bytes into runs.
use Rattle.std.specs.Prelude.{◌≡◌, ℕ, Option, Some}
use Rattle.mufom_meaning.specs.Facts.{LocateFact, loaded_twice}
use Rattle.mufom_titxt.specs.declared.txt.RunsStop.{RunsStop}
use Rattle.mufom_titxt.specs.declared.txt.RunsStop.TheVariants as stops

-- the first address with two bytes is this one
abbrev pub IsTwice : Option LocateFact → RunsStop → Type 0
IsTwice first (stops.Twice address) = first ≡ Some (loaded_twice address)
IsTwice first stops.NoMemory = Unit {0}

-- the fact says that an address has two bytes
pub record NamesTwice (fact : LocateFact) : Type 0 where
  pub address : ℕ
  pub same : fact ≡ loaded_twice address
