-- Runs at the addresses to which they are moved, and runs that are joined where they touch.
use Rattle.std.specs.Prelude.{◌≡◌, ℕ, ◌<◌, ◌≤◌, List, [], ◌∷◌, ◌++◌, length, flat_map}
use Rattle.mufom_meaning.specs.declared.located.Run.{Run}
use Rattle.mufom_meaning.specs.AddressMap.{Cell, cells_from, run_cells, AreApart}
use Rattle.mufom_meaning.specs.Runs.{run_end}
use Rattle.mufom_image_bytes.specs.Spread.{free_after}
use Rattle.mufom_moves.specs.declared.joining.Joiner.{Joiner}
use Rattle.mufom_moves.specs.declared.shift.Shift.{Shift}
use Rattle.mufom_moves.specs.Shifts.{shifted_cells}

-- the run has at least one byte
abbrev pub HasBytes : Run → Type 0
HasBytes run = 0 < length run.bytes

-- the bytes of a run, at the addresses to which they are moved, are appended to runs
abbrev pub AddsMoved : List Shift → Run → List Run → List Run → Type 0
AddsMoved shifts run old new = run_cells new ≡ run_cells old ++ shifted_cells shifts (cells_from run.address run.bytes)

-- the runs are in the order of their addresses, none of which is below the number
abbrev pub AreInOrder : ℕ → List Run → Type 0
AreInOrder low [] = Unit {0}
AreInOrder low (run ∷ runs) = (low ≤ run.address) × AreInOrder run.address runs

-- each run has at least one byte and begins at or after the end of the one before it, and the first at or after the number
abbrev pub AreSpread : ℕ → List Run → Type 0
AreSpread from [] = Unit {0}
AreSpread from (run ∷ runs) = (from ≤ run.address) × HasBytes run × AreSpread (run_end run) runs

-- each run has at least one byte and begins where the one before it ends, the first one at `start`; the last one ends at `end`
abbrev pub AreTouching : ℕ → List Run → ℕ → Type 0
AreTouching start [] end = start ≡ end
AreTouching start (run ∷ runs) end = (run.address ≡ start) × HasBytes run × AreTouching (run_end run) runs end

-- the bytes of runs, one after another
abbrev pub bytes_of : List Run → List ℕ
bytes_of runs = flat_map (λ run. run.bytes) runs

-- runs that touch as one run; none if there are none
abbrev pub joined_run : List Run → List Run
joined_run [] = []
joined_run (run ∷ runs) = record { address = run.address; bytes = bytes_of (run ∷ runs) } ∷ []

-- the bytes of all runs that were added
abbrev pub joiner_cells : Joiner → List Cell
joiner_cells j = run_cells j.joined ++ run_cells j.group.items

-- the complete runs are maximal, and the group, whose runs touch, does not touch them
pub record IsJoining (j : Joiner) : Type 0 where
  pub start : ℕ
  pub apart : AreApart 0 j.joined
  pub free : free_after 0 j.joined ≤ start
  pub touching : AreTouching start j.group.items j.end
