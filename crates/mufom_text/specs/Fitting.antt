-- The conditions on the numbers of a location under which its text can be printed.
use Rattle.std.specs.Prelude.{ℕ, ◌+◌, ◌^◌, ◌≤◌, length}
use Rattle.mufom_meaning.specs.declared.located.Run.{Run}

-- the length of an address in units
pub record IsUnitCount (maus : ℕ) : Type 0 where
  pub some : 1 ≤ maus
  pub few : maus ≤ 8

-- the run ends within the largest address space, of 2^64 units
abbrev pub FitsIn : Run → Type 0
FitsIn run = run.address + length run.bytes ≤ 2 ^ 64
