-- The image of one module, once its sections are placed and its publics have values.
use Rattle.std.specs.Prelude.{◌≡◌, ℕ, ◌+◌, ◌≤◌, List, [], ◌∷◌, length, Some, None, true, false}
use Rattle.mufom_expr.specs.Tree.{Tree}
use Rattle.mufom_module.specs.declared.module.Parts.{Parts}
use Rattle.mufom_plan.specs.Names.{has_name}
use Rattle.mufom_place.specs.Facts.{first_some}
use Rattle.mufom_meaning.specs.declared.located.Run.{Run}
use Rattle.mufom_meaning.specs.AddressMap.{address_map, AreRunsOf}
use Rattle.mufom_meaning.specs.Bases.{Bases}
use Rattle.mufom_meaning.specs.Cycles.{IsOnCycle}
use Rattle.mufom_meaning.specs.Facts.{duplicate}
use Rattle.mufom_meaning.specs.Flat.{Sited, needs, common_names}
use Rattle.mufom_meaning.specs.Readings.{readings}
use Rattle.mufom_meaning.specs.Stands.{StandsIn, LinkFactStands}
use Rattle.mufom_meaning.specs.Steps.{steps}
use Rattle.mufom_meaning.specs.Values.{setting, value}
use Rattle.mufom_meaning.specs.Walk.{base_number, size_at, public_fact, steps_fact}
use Rattle.mufom_image_bytes.specs.declared.stop.ImageStop.{ImageStop}
use Rattle.mufom_image_bytes.specs.declared.stop.ImageStop.TheVariants as stops
use Rattle.mufom_image_bytes.specs.Stops.{fact_of}
use Rattle.mufom_image_bytes.specs.Outcomes.{ValuationAt}

-- the module alone in a list
abbrev pub home_of : Parts → Sited
home_of m = record { parts = m; first_section = 0; first_public = 0; first_name = 0 }

-- Nothing that can be found without a walk keeps the module from being located, no public divides by 0, and at each program counter the code computes
-- the value of an expression.
pub record IsReady (m : Parts) (placed : Bases) (bases : List ℕ) (valuation : ValuationAt) : Type 0 where
  pub at_bases : placed.sections ≡ bases
  pub count : length placed.sections ≡ length m.sections
  pub inside : (n : ℕ) → base_number (setting (m ∷ []) placed) n + size_at (setting (m ∷ []) placed) n ≤ (setting (m ∷ []) placed).modulus
  pub once : (name : List ℕ) → ¬ LinkFactStands (m ∷ []) (duplicate name)
  pub defined : (name : List ℕ) → ¬ (StandsIn name (needs (m ∷ [])) × (has_name (common_names (m ∷ [])) name ≡ false))
  pub commons : (name : List ℕ) → has_name (common_names (m ∷ [])) name ≡ true → placed.commons name ≡ None → ⊥
  pub acyclic : (name : List ℕ) → ¬ IsOnCycle (m ∷ []) name
  pub publics : first_some (public_fact (setting (m ∷ []) placed)) (setting (m ∷ []) placed).publics ≡ None
  pub is_value : (at : ℕ) (t : Tree) → valuation at t ≡ value (setting (m ∷ []) placed) (home_of m) (Some at) t

-- if the module is ready, no error is found at its steps, and the runs are those of the bytes that they load
abbrev pub IsImageOfModule : Parts → List ℕ → ValuationAt → List Run → Type 0
IsImageOfModule m bases valuation runs =
    (placed : Bases) → IsReady m placed bases valuation → let s = setting (m ∷ []) placed in
    (steps_fact s [] (steps (m ∷ [])) ≡ None) × AreRunsOf (address_map m.order s.modulus (readings (m ∷ []) placed).steps) runs

-- if the module is ready, this is the first error that is found at its steps
abbrev pub IsRefusalOfModule : Parts → List ℕ → ValuationAt → ImageStop → Type 0
IsRefusalOfModule m bases valuation (stops.Refused stop) =
    (placed : Bases) → IsReady m placed bases valuation → steps_fact (setting (m ∷ []) placed) [] (steps (m ∷ [])) ≡ Some (fact_of stop)
IsRefusalOfModule m bases valuation stops.NoMemory = Unit {0}
