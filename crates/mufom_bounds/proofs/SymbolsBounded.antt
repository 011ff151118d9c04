-- A list within the bounds is within them with the symbols of a plan behind it.
use Rattle.std.proofs.Common.{ℕ, zero, suc, ◌*◌, ◌%◌, ◌^◌, ◌<◌, ◌≤◌, List, [], ◌∷◌, map, arith, mod-lt}
use Rattle.std.specs.List.{AllByRecursion}
use Rattle.std.proofs.lemmas.List.Elements.{All-nil}
use Rattle.mufom_module.specs.declared.module.Parts.{Parts}
use Rattle.mufom_module.specs.declared.module.Defect.TheVariants as kinds
use Rattle.mufom_module.specs.Made.{IsMadeNote, IsNumber}
use Rattle.mufom_plan.specs.declared.plan.PlanSymbol.{PlanSymbol}
use Rattle.mufom_meaning.specs.Staging.{AreValid}
use Rattle.mufom_meaning.proofs.NoDefects.{no_defect}
use Rattle.mufom_planned.specs.PlanSymbols.{followed_by, symbol_public, symbols_module}
use Rattle.mufom_bounds.specs.Bounded.{IsBounded, IsBoundedPublic}
use Rattle.mufom_bounds.specs.PlanBounds.{HasByteName}
use Rattle.mufom_bounds.proofs.Bounded.{all-append}
use Rattle.mufom_bounds.proofs.LocatedValues.{narrow-width, one-number}

powers-some : (w : ℕ) → 0 < 2 ^ w
powers-some zero = omega arith
powers-some (suc w) = omega (arith, powers-some w)

module _ (m : Parts) (numbers : PlanSymbol → ℕ) (narrow : 2 ^ (8 * m.maus) ≤ 2 ^ 64) where
  symbols-bounded : (symbols : List PlanSymbol) → AllByRecursion HasByteName symbols
      → AllByRecursion IsBoundedPublic (map (symbol_public (2 ^ (8 * m.maus)) numbers) symbols)
  symbols-bounded [] are = tt
  symbols-bounded (symbol ∷ symbols) are =
      let positive : 0 < 2 ^ (8 * m.maus) = powers-some (8 * m.maus) in
      let small = mod-lt (numbers symbol) {m = 2 ^ (8 * m.maus)} positive in
      let below : IsNumber (numbers symbol % 2 ^ (8 * m.maus)) = omega (arith, small, narrow) in (
        record { name = are.0; value = one-number (numbers symbol % 2 ^ (8 * m.maus)) below; notes = All-nil IsMadeNote },
        symbols-bounded symbols are.1,
      )

  module-bounded : (symbols : List PlanSymbol) → AllByRecursion HasByteName symbols → IsBounded (symbols_module m numbers symbols)
  module-bounded symbols are = record {
    processor = tt;
    name = tt;
    ext = tt;
    env = tt;
    sections = tt;
    publics = symbols-bounded symbols are;
    references = tt;
    debug = tt;
    loads = tt;
    start = tt;
  }

pub followed-bounded : (ms : List Parts) (numbers : PlanSymbol → ℕ) (symbols : List PlanSymbol) → AreValid ms → AllByRecursion IsBounded ms
    → AllByRecursion HasByteName symbols → AllByRecursion IsBounded (followed_by ms numbers symbols)
followed-bounded [] numbers symbols valid are names = tt
followed-bounded (m ∷ ms) numbers [] valid are names = are
followed-bounded (m ∷ ms) numbers (symbol ∷ more) valid are names =
    let narrow = narrow-width m (no_defect m valid.0 kinds.BadMaus) in
    all-append IsBounded (m ∷ ms) (symbols_module m numbers (symbol ∷ more) ∷ []) are (module-bounded m numbers narrow (symbol ∷ more) names, tt)
