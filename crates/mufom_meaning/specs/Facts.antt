-- What keeps a list of modules from being linked or located.
use Rattle.std.specs.Prelude.{ℕ, List}
use Rattle.mufom_expr.specs.declared.token.FieldKind.{FieldKind}
use Rattle.mufom_module.specs.declared.module.Order.{Order}
use Rattle.mufom_module.specs.declared.module.Parts.{Parts}
use Rattle.mufom_place.specs.declared.refusal.PlaceRefusal.{PlaceRefusal}
use Rattle.mufom_meaning.specs.declared.located.Site.{Site}

-- the descriptor of a module: bytes of an address, and their order
abbrev pub Descriptor : Type 0
Descriptor = ℕ × Order

-- the descriptor of a module
abbrev pub descriptor : Parts → Descriptor
descriptor m = (m.maus, m.order)

-- what keeps modules from being linked
pub data LinkFact : Type 0 where
  mismatch : (first other : Descriptor) → LinkFact
  duplicate : (name : List ℕ) → LinkFact
  duplicate_start : LinkFact

-- What keeps modules from being located: sections cannot be placed, a name is undefined, no region takes a common, public names form
-- a cycle, too many bytes are loaded, a divisor is 0, or a byte lies outside its section, on another or in too small a field.
pub data LocateFact : Type 0 where
  placement : (refusal : PlaceRefusal) → LocateFact
  undefined : (name : List ℕ) → LocateFact
  common_unplaced : (name : List ℕ) → LocateFact
  cycle : (name : List ℕ) → LocateFact
  image_limit : (count : ℕ) → LocateFact
  zero_divisor : (site : Site) → LocateFact
  load_outside : (section address : ℕ) → LocateFact
  loaded_twice : (address : ℕ) → LocateFact
  overflow : (section address : ℕ) → (kind : FieldKind) → (size value : ℕ) → LocateFact
