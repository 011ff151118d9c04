-- The values of the variables of an expression, as the code finds them.
use Rattle.std.specs.Prelude.{ℕ, List, Option, Some, None, option_map, slice_get}
use Rattle.mufom_expr.specs.declared.token.Letter.TheVariants as letters
use Rattle.mufom_expr.specs.Value.{Environment}
use Rattle.mufom_sections.specs.declared.section.Section.{Section}
use Rattle.mufom_image_values.specs.declared.resolutions.Resolution.{Resolution}
use Rattle.mufom_image_values.specs.declared.resolutions.Resolution.TheVariants as resolution
use Rattle.mufom_image_values.specs.declared.surroundings.Evaluation.{Evaluation}
use Rattle.mufom_image_values.specs.declared.surroundings.Evaluation.TheVariants as evaluations
use Rattle.mufom_image_values.specs.declared.surroundings.Surroundings.{Surroundings}

-- what is known of a public, as a value
abbrev pub known : Evaluation → Option ℕ
known evaluations.Waiting = None
known evaluations.Nothing = None
known (evaluations.Value v) = Some v

-- the same; none if there is no such public
abbrev pub known_of : Option Evaluation → Option ℕ
known_of None = None
known_of (Some valuation) = known valuation

-- the value of a reference, given what it resolves to
abbrev pub valuation_met : List Evaluation → List ℕ → Option Resolution → Option ℕ
valuation_met values commons None = None
valuation_met values commons (Some (resolution.Public n)) = known_of (slice_get values n)
valuation_met values commons (Some (resolution.Common n)) = slice_get commons n
valuation_met values commons (Some (resolution.Default v)) = Some v
valuation_met values commons (Some resolution.Nothing) = None

-- the value of a variable, given the sections, the bases of sections and of commons, the values of publics, what references resolve to, and the
-- program counter
abbrev pub valuation_by : List Section → List ℕ → List ℕ → List Evaluation → List Resolution → Option ℕ → Environment
valuation_by sections bases commons values met counter letters.R n = slice_get bases n
valuation_by sections bases commons values met counter letters.L n = slice_get bases n
valuation_by sections bases commons values met counter letters.S n = option_map (λ section. section.size) (slice_get sections n)
valuation_by sections bases commons values met counter letters.P n = counter
valuation_by sections bases commons values met counter letters.I n = known_of (slice_get values n)
valuation_by sections bases commons values met counter letters.X n = valuation_met values commons (slice_get met n)

-- the environment in which the code looks up variables
abbrev pub valuation_in : Surroundings → Environment
valuation_in s letter n = valuation_by s.sections.now s.bases.now s.commons.now s.values.now s.resolutions.now s.counter letter n
