-- The entries of a module with the value of each expression in its place.
use Rattle.std.specs.Prelude.{◌≡◌, ℕ, ◌<◌, List, Option, Some, None, unwrap_or, slice_get, Bool, true, false}
use Rattle.mufom_expr.specs.Tree.{Tree, number}
use Rattle.mufom_names.specs.declared.name.Public.{Public}
use Rattle.mufom_debug.specs.Marks.{DebugMark}
use Rattle.mufom_copies.specs.Mapped.{mapped_mark}
use Rattle.mufom_module.specs.declared.module.Parts.{Parts}
use Rattle.mufom_meaning.specs.declared.located.PublicValue.{PublicValue}
use Rattle.mufom_meaning.specs.Values.{value, has_zero_divisor}
use Rattle.mufom_image_values.specs.Evaluated.{alone, setting_of, IsPlaced, AreValues}
use Rattle.mufom_image_entries.specs.declared.valued.ValuedModule.{ValuedModule}

-- the module may be evaluated, and these are the values of its publics
pub record IsValued (valued : ValuedModule) : Type 0 where
  pub placed : IsPlaced valued.placed.now
  pub values : AreValues valued.placed.now valued.values.now

-- the parts of the module
abbrev pub parts_of : ValuedModule → Parts
parts_of valued = valued.placed.now.graph.parts.now

-- the value of an expression that has no program counter, or 0 if it has no value
abbrev pub value_of : ValuedModule → Tree → ℕ
value_of valued t = unwrap_or (value (setting_of valued.placed.now) (alone (parts_of valued)) None t) 0

-- a divisor somewhere in the expression has the value 0
abbrev pub divides : ValuedModule → Tree → Bool
divides valued t = has_zero_divisor (setting_of valued.placed.now) (alone (parts_of valued)) None t

-- a public with its value
abbrev pub valued_public : ValuedModule → Public → PublicValue
valued_public valued p = record { name = p.name; value = value_of valued p.value; notes = p.notes }

-- the value of an expression as an expression of one number
abbrev pub number_for : ValuedModule → Tree → Tree
number_for valued t = number (value_of valued t)

-- a debug record with the values of its expressions
abbrev pub valued_mark : (Tree → ℕ) → DebugMark → DebugMark
valued_mark f mark = mapped_mark (λ t. number (f t)) mark

-- no expression before this position passes the test
abbrev pub NoneBefore : (Tree → Bool) → List Tree → ℕ → Type 0
NoneBefore test trees n = (j : ℕ) → j < n → (t : Tree) → slice_get trees j ≡ Some t → test t ≡ false

-- the position of the first expression that passes the test, if one does
abbrev pub IsFirstDivision : (Tree → Bool) → List Tree → Option ℕ → Type 0
IsFirstDivision test trees None = (j : ℕ) (t : Tree) → slice_get trees j ≡ Some t → test t ≡ false
IsFirstDivision test trees (Some n) = (t : Tree) × (slice_get trees n ≡ Some t) × (test t ≡ true) × NoneBefore test trees n
