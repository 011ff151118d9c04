-- The values of expressions at a program counter, in the surroundings of a module without one.
use Rattle.std.proofs.Common.{◌≡◌, ℕ, ◌*◌, ◌^◌, List, None, Some, refl, sym, ap, subst}
use Rattle.std.specs.Prelude.{slice_get, option_map}
use Rattle.mufom_expr.specs.declared.token.Letter.{Letter}
use Rattle.mufom_expr.specs.declared.token.Letter.TheVariants as letters
use Rattle.mufom_expr.specs.Value.{value_at}
use Rattle.mufom_sections.specs.declared.section.Section.{Section}
use Rattle.mufom_image_values.specs.declared.surroundings.Evaluation.{Evaluation}
use Rattle.mufom_image_values.specs.declared.surroundings.Surroundings.{Surroundings}
use Rattle.mufom_image_values.specs.declared.values.PlacedModule.{PlacedModule}
use Rattle.mufom_image_values.specs.Surroundings.{known_of, valuation_met, valuation_in}
use Rattle.mufom_image_values.specs.Evaluated.{environment_of, AreSurroundings}
use Rattle.mufom_image_bytes.specs.Counted.{at_counter, value_with}
use Rattle.mufom_image_bytes.specs.Modules.{IsReady}
use Rattle.mufom_image_bytes.specs.Outcomes.{ValuationAt}
use Rattle.mufom_image_entries.specs.declared.valued.ValuedModule.{ValuedModule}
use Rattle.mufom_image_entries.specs.Valued.{parts_of}
use Rattle.mufom_image.specs.Stages.{bases_of, valuation_of}

module _ (placed : PlacedModule) (values : List Evaluation) (s : Surroundings) (h : AreSurroundings placed values None s) (counter : ℕ) where
  -- a variable has the value that it has in surroundings with this program counter
  looked-up : (letter : Letter) (n : ℕ) → at_counter (valuation_in s) counter letter n ≡ environment_of placed values (Some counter) letter n
  looked-up letters.R n = ap (λ bases. slice_get bases n) h.bases
  looked-up letters.L n = ap (λ bases. slice_get bases n) h.bases
  looked-up letters.S n = ap (λ (sections : List Section). option_map (λ section. section.size) (slice_get sections n)) h.sections
  looked-up letters.P n = refl
  looked-up letters.I n = ap (λ known. known_of (slice_get known n)) h.known
  looked-up letters.X n = let known = h.known in let commons = h.commons in let met = h.resolutions in
      λ i. valuation_met (known i) (commons i) (slice_get (met i) n)

-- in the surroundings of a module without a program counter, expressions have their values at each program counter
pub same-valuation : (valued : ValuedModule) (s : Surroundings) → AreSurroundings valued.placed.now valued.values.now None s
    → ◌≡◌ {A = ValuationAt} (value_with (valuation_in s) (8 * (parts_of valued).maus)) (valuation_of valued)
same-valuation valued s h = λ i counter t.
    value_at (2 ^ (8 * (parts_of valued).maus)) (λ letter n. looked-up valued.placed.now valued.values.now s h counter letter n i) t

-- the module is ready with the values in such surroundings
pub ready-here : (valued : ValuedModule) (s : Surroundings) → AreSurroundings valued.placed.now valued.values.now None s
    → IsReady (parts_of valued) (bases_of valued.placed.now) valued.placed.now.bases.now (valuation_of valued)
    → IsReady (parts_of valued) (bases_of valued.placed.now) valued.placed.now.bases.now (value_with (valuation_in s) (8 * (parts_of valued).maus))
ready-here valued s h = subst (IsReady (parts_of valued) (bases_of valued.placed.now) valued.placed.now.bases.now) (sym (same-valuation valued s h))
