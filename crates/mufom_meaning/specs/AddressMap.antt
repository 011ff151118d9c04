-- The address map of a list of modules: the loaded bytes by their addresses, and the runs that they form.
use Rattle.std.specs.Prelude.{ℕ, suc, ◌+◌, ◌<◌, ◌≤◌, ◌↔◌, List, [], ◌∷◌, length, flat_map, Option, Some, None, Contains}
use Rattle.mufom_expr.specs.declared.token.FieldKind.{FieldKind}
use Rattle.mufom_module.specs.declared.module.Order.{Order}
use Rattle.mufom_meaning.specs.declared.located.Run.{Run}
use Rattle.mufom_meaning.specs.Steps.{StepReading, counter_reading, literal_reading, field_reading}
use Rattle.mufom_meaning.specs.Fields.{field_bytes}

-- a byte and its address
abbrev pub Cell : Type 0
Cell = ℕ × ℕ

-- the cells of bytes at consecutive addresses, from this one on
abbrev pub cells_from : ℕ → List ℕ → List Cell
cells_from a [] = []
cells_from a (byte ∷ bytes) = (a, byte) ∷ cells_from (suc a) bytes

-- the cells that a literal fills; none if its program counter has no value
abbrev pub literal_cells : Option ℕ → List ℕ → List Cell
literal_cells None bytes = []
literal_cells (Some at) bytes = cells_from at bytes

-- the cells that a field fills; none if its program counter or its expression has no value
abbrev pub field_cells : Order → ℕ → Option ℕ → FieldKind → ℕ → Option ℕ → List Cell
field_cells order modulus None kind size v = []
field_cells order modulus (Some at) kind size None = []
field_cells order modulus (Some at) kind size (Some v) = cells_from at (field_bytes order modulus kind size v)

-- the cells of a step
abbrev pub step_cells : Order → ℕ → StepReading → List Cell
step_cells order modulus (counter_reading section v) = []
step_cells order modulus (literal_reading section at bytes) = literal_cells at bytes
step_cells order modulus (field_reading section at kind size v) = field_cells order modulus at kind size v

-- the address map, as the list of its cells
abbrev pub address_map : Order → ℕ → List StepReading → List Cell
address_map order modulus steps = flat_map (step_cells order modulus) steps

-- the cells of runs
abbrev pub run_cells : List Run → List Cell
run_cells runs = flat_map (λ run. cells_from run.address run.bytes) runs

-- No run is empty, the runs are in the order of their addresses, and between two runs there is at least one address without
-- a byte. So each run is as long as possible.
abbrev pub AreApart : ℕ → List Run → Type 0
AreApart from [] = Unit {0}
AreApart from (run ∷ runs) = (from ≤ run.address) × (0 < length run.bytes) × AreApart (run.address + length run.bytes + 1) runs

-- the runs have exactly the cells of the address map, and each is as long as possible
pub record AreRunsOf (cells : List Cell) (runs : List Run) : Type 0 where
  pub apart : AreApart 0 runs
  pub same : (cell : Cell) → Contains cells cell ↔ Contains (run_cells runs) cell
