-- The link of a module with symbols.
use Rattle.std.specs.Prelude.{◌≡◌, ℕ, List, [], ◌∷◌, Option, Some, None}
use Rattle.mufom_expr.specs.Tree.{number}
use Rattle.mufom_names.specs.declared.name.Public.{Public}
use Rattle.mufom_module.specs.declared.module.Parts.{Parts}
use Rattle.mufom_module.specs.Defects.{IsValid}
use Rattle.mufom_plan.specs.declared.plan.PlanSymbol.{PlanSymbol}
use Rattle.mufom_refusals.specs.declared.link.LinkRefusal.{LinkRefusal}
use Rattle.mufom_refusals.specs.declared.link.LinkRefusal.TheVariants.{Mismatch, Duplicate, DuplicateStart, NoMemory}
use Rattle.mufom_meaning.specs.Joined.{IsJoined}
use Rattle.mufom_meaning.specs.LinkAnswer.{link_answer}
use Rattle.mufom_planned.specs.PlanSymbols.{symbols_module}
use Rattle.mufom_locating.specs.Numbered.{AreValues}

-- the symbols as publics with these values
abbrev pub named_public : PlanSymbol → ℕ → Public
named_public symbol value = record { name = symbol.name; value = number value; notes = [] }

abbrev pub named_publics : List PlanSymbol → List ℕ → List Public
named_publics [] values = []
named_publics (symbol ∷ symbols) [] = []
named_publics (symbol ∷ symbols) (value ∷ values) = named_public symbol value ∷ named_publics symbols values

-- these are the values of symbols for some numbers
pub record HaveNumbers (maus : ℕ) (symbols : List PlanSymbol) (values : List ℕ) : Type 0 where
  pub numbers : PlanSymbol → ℕ
  pub are : AreValues maus numbers symbols values

-- a list of the module and of the symbols at these numbers
abbrev pub symbols_behind : Parts → (PlanSymbol → ℕ) → List PlanSymbol → List Parts
symbols_behind m numbers symbols = m ∷ symbols_module m numbers symbols ∷ []

-- the link of the module with the symbols at these numbers, none of which has a defect
pub record IsLinkWith (m : Parts) (numbers : PlanSymbol → ℕ) (symbols : List PlanSymbol) (M : Parts) : Type 0 where
  pub source : IsValid m
  pub joined : IsJoined M (symbols_behind m numbers symbols) m.name
  pub links : link_answer (symbols_behind m numbers symbols) ≡ None
  pub valid : IsValid M

-- the error of a link names this name, if there is one, or is out of memory
abbrev pub IsSharedName : Option (List ℕ) → LinkRefusal → Type 0
IsSharedName shared (Duplicate name) = shared ≡ Some name
IsSharedName shared (Mismatch first other) = ⊥
IsSharedName shared DuplicateStart = ⊥
IsSharedName shared NoMemory = Unit {0}
