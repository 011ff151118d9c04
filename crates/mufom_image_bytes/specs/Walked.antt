-- The sections, addresses and values with which the loads of a module are walked, as the definitions have them.
use Rattle.std.specs.Prelude.{◌≡◌, ℕ, ◌+◌, ◌^◌, ◌<◌, ◌≤◌, List, length, Some, None, true}
use Rattle.mufom_expr.specs.Tree.{Tree}
use Rattle.mufom_loads.specs.declared.load.Item.{Item}
use Rattle.mufom_loads.specs.declared.load.Item.TheVariants.{Literal, Field}
use Rattle.mufom_loads.specs.declared.load.Load.{Load}
use Rattle.mufom_meaning.specs.Stands.{StandsIn}
use Rattle.mufom_meaning.specs.Steps.{Step, counter_step, item_step, steps_of}
use Rattle.mufom_meaning.specs.Flat.{Sited}
use Rattle.mufom_meaning.specs.Values.{Setting, value, has_zero_divisor}
use Rattle.mufom_meaning.specs.Walk.{base_number, size_at}
use Rattle.mufom_image_bytes.specs.declared.layout.Layout.{Layout}
use Rattle.mufom_image_bytes.specs.Outcomes.{ValuationAt}

-- the layout is that of the setting, in whose address space each section lies
pub record IsLaidOut (s : Setting) (layout : Layout) : Type 0 where
  pub modulus : s.modulus ≡ 2 ^ layout.width
  pub bases : s.bases ≡ layout.bases.now
  pub sections : s.sections ≡ layout.sections.now
  pub inside : (n : ℕ) → base_number s n + size_at s n ≤ s.modulus

-- At each counter the code computes the value of the expression, a residue, and if it has none, the expression itself divides by 0.
pub record HasValuation (s : Setting) (valuation : ValuationAt) (site : Sited) (t : Tree) : Type 0 where
  pub is_value : (at : ℕ) → valuation at t ≡ value s site (Some at) t
  pub residue : (at v : ℕ) → value s site (Some at) t ≡ Some v → v < s.modulus
  pub divides : (at : ℕ) → value s site (Some at) t ≡ None → has_zero_divisor s site (Some at) t ≡ true

-- a field has at least one byte, and its expression is computed
abbrev pub IsPlainItem : Setting → ValuationAt → Sited → Item → Type 0
IsPlainItem s valuation site (Literal bytes) = Unit {0}
IsPlainItem s valuation site (Field kind size t) = (0 < size) × HasValuation s valuation site t

-- a step belongs to a section, and its expression is computed
abbrev pub IsPlainStep : Setting → ValuationAt → Step → Type 0
IsPlainStep s valuation (counter_step site section t) = (section < length s.bases) × HasValuation s valuation site t
IsPlainStep s valuation (item_step site section item) = (section < length s.bases) × IsPlainItem s valuation site item

-- the loads of the first module of a list are walked with this layout and these values
pub record AreWalked (s : Setting) (site : Sited) (layout : Layout) (valuation : ValuationAt) (loads : List Load) : Type 0 where
  pub laid_out : IsLaidOut s layout
  pub at_first : site.first_section ≡ 0
  pub plain : (step : Step) → StandsIn step (steps_of site None loads) → IsPlainStep s valuation step
