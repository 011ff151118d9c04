-- The values of the publics of a module, given the bases of its sections and commons.
use Rattle.std.specs.Prelude.{◌≡◌, ◌≢◌, ℕ, ◌*◌, ◌^◌, ◌<◌, List, [], ◌∷◌, map, length, Option, Some, None, option_and_then, slice_get, Contains, Bool}
use Rattle.std.specs.Prelude.{true, false, not}
use Rattle.mufom_expr.specs.Tree.{Tree}
use Rattle.mufom_expr.specs.Value.{Environment, value_at}
use Rattle.mufom_names.specs.Names.{names_of, AreDistinct}
use Rattle.mufom_names.specs.declared.name.Public.{Public}
use Rattle.mufom_module.specs.declared.module.Parts.{Parts}
use Rattle.mufom_module.specs.Defects.{IsValid}
use Rattle.mufom_meaning.specs.Bases.{Bases}
use Rattle.mufom_place.specs.Facts.{first_some}
use Rattle.mufom_meaning.specs.Flat.{Sited, public_names}
use Rattle.mufom_meaning.specs.LocateAnswer.{cycle_at}
use Rattle.mufom_meaning.specs.Values.{Setting, setting, value}
use Rattle.mufom_image_values.specs.declared.graph.Graph.{Graph}
use Rattle.mufom_image_values.specs.declared.surroundings.Surroundings.{Surroundings}
use Rattle.mufom_image_values.specs.declared.surroundings.Evaluation.{Evaluation}
use Rattle.mufom_image_values.specs.declared.surroundings.Evaluation.TheVariants as evaluations
use Rattle.mufom_image_values.specs.declared.values.PlacedModule.{PlacedModule}
use Rattle.mufom_image_values.specs.Names.{place_in}
use Rattle.mufom_image_values.specs.Resolutions.{common_list, resolutions_of}
use Rattle.mufom_image_values.specs.Graph.{edges}
use Rattle.mufom_image_values.specs.Surroundings.{known, valuation_by}

-- the module alone in a list
abbrev pub alone : Parts → Sited
alone m = record { parts = m; first_section = 0; first_public = 0; first_name = 0 }

-- the bases of sections, and those of commons by the position of their names
abbrev pub bases_by : Parts → List ℕ → List ℕ → Bases
bases_by m sections commons = record { sections = sections; commons = λ name. option_and_then (slice_get commons) (place_in (common_list m) name) }

-- the setting of a module whose sections and commons are at these bases
abbrev pub setting_by : Parts → List ℕ → List ℕ → Setting
setting_by m sections commons = setting (m ∷ []) (bases_by m sections commons)

-- the graph is that of a module without a defect in which no public name occurs twice
pub record IsGraph (graph : Graph) : Type 0 where
  pub valid : IsValid graph.parts.now
  pub distinct : AreDistinct (names_of graph.parts.now.names.publics)
  pub resolutions : graph.resolutions.now ≡ resolutions_of graph.parts.now

-- the positions that each position of the graph leads to
abbrev pub graph_edges : Graph → ℕ → List ℕ
graph_edges graph n = edges graph.resolutions.now graph.parts.now.names.publics n

-- the number of its publics
abbrev pub public_count : Graph → ℕ
public_count graph = length graph.parts.now.names.publics

-- the setting of the values
abbrev pub setting_of : PlacedModule → Setting
setting_of placed = setting_by placed.graph.parts.now placed.bases.now placed.commons.now

-- the value of a public
abbrev pub public_value : PlacedModule → Public → Option ℕ
public_value placed public = value (setting_of placed) (alone placed.graph.parts.now) None public.value

-- the evaluation agrees with this value; it always does while the public waits
abbrev pub IsRight : Option ℕ → Evaluation → Type 0
IsRight value evaluations.Waiting = Unit {0}
IsRight value evaluations.Nothing = value ≡ None
IsRight value (evaluations.Value v) = value ≡ Some v

-- there is an evaluation for each public, and it agrees with the public's value
pub record AreRight (placed : PlacedModule) (values : List Evaluation) : Type 0 where
  pub count : length values ≡ length placed.graph.parts.now.names.publics
  pub right : (n : ℕ) (public : Public) (evaluation : Evaluation)
      → slice_get placed.graph.parts.now.names.publics n ≡ Some public → slice_get values n ≡ Some evaluation
      → IsRight (public_value placed public) evaluation

-- the public at a position was evaluated
abbrev pub IsEvaluated : List Evaluation → ℕ → Type 0
IsEvaluated values n = slice_get values n ≢ Some evaluations.Waiting

-- all publics were evaluated
abbrev pub AllEvaluated : List Evaluation → Type 0
AllEvaluated values = (n : ℕ) → IsEvaluated values n

-- the public waits to be evaluated
abbrev pub is_waiting : Option Evaluation → Bool
is_waiting None = false
is_waiting (Some evaluations.Waiting) = true
is_waiting (Some evaluations.Nothing) = false
is_waiting (Some (evaluations.Value v)) = false

-- the public that is mentioned does not wait; true if none is mentioned
abbrev pub is_ready : List Evaluation → Option ℕ → Bool
is_ready values None = true
is_ready values (Some n) = not (is_waiting (slice_get values n))

-- the publics at these positions were evaluated
abbrev pub AreEvaluated : List Evaluation → List ℕ → Type 0
AreEvaluated values positions = (n : ℕ) → Contains positions n → IsEvaluated values n

-- what was evaluated before still is
abbrev pub AreKept : List Evaluation → List Evaluation → Type 0
AreKept before after = (n : ℕ) → IsEvaluated before n → IsEvaluated after n

-- a public is evaluated after the round if all publics that it mentions were evaluated before it
abbrev pub IsRound : PlacedModule → List Evaluation → List Evaluation → Type 0
IsRound placed before after = (n : ℕ) → n < length placed.graph.parts.now.names.publics → AreEvaluated before (graph_edges placed.graph n) → IsEvaluated after n

-- the values are found over a graph in which no public leads back to itself
pub record IsPlaced (placed : PlacedModule) : Type 0 where
  pub graph : IsGraph placed.graph
  pub acyclic : first_some (cycle_at (placed.graph.parts.now ∷ [])) (public_names (placed.graph.parts.now ∷ [])) ≡ None

-- the surroundings are those of an expression of the module, if these are the values of publics and the counter
pub record AreSurroundings (placed : PlacedModule) (values : List Evaluation) (counter : Option ℕ) (s : Surroundings) : Type 0 where
  pub sections : s.sections.now ≡ placed.graph.parts.now.sections
  pub bases : s.bases.now ≡ placed.bases.now
  pub commons : s.commons.now ≡ placed.commons.now
  pub known : s.values.now ≡ values
  pub resolutions : s.resolutions.now ≡ placed.graph.resolutions.now
  pub pc : s.counter ≡ counter

-- the values of variables in these surroundings
abbrev pub environment_of : PlacedModule → List Evaluation → Option ℕ → Environment
environment_of placed values counter =
    valuation_by placed.graph.parts.now.sections placed.bases.now placed.commons.now values placed.graph.resolutions.now counter

-- the value of an expression in these surroundings
abbrev pub valuation_at : PlacedModule → List Evaluation → Option ℕ → Tree → Option ℕ
valuation_at placed values counter t = value_at (2 ^ (8 * placed.graph.parts.now.maus)) (environment_of placed values counter) t

-- the values of all publics, in order
pub record AreValues (placed : PlacedModule) (all : List Evaluation) : Type 0 where
  pub values : map known all ≡ map (public_value placed) placed.graph.parts.now.names.publics
  pub evaluated : AllEvaluated all
