-- The value of an expression in a list of modules (IEEE Std 695, expressions).
use Rattle.std.specs.Prelude.{ℕ, zero, suc, ◌+◌, ◌^◌, ◌==◌, List, length, Option, Some, None, option_map, slice_get, Bool, if◌then◌else◌}
use Rattle.mufom_expr.specs.declared.token.Letter.TheVariants as letters
use Rattle.mufom_expr.specs.Tree.{Tree}
use Rattle.mufom_expr.specs.Value.{Environment, value_at, divides_by_zero}
use Rattle.mufom_sections.specs.declared.section.Section.{Section}
use Rattle.mufom_names.specs.declared.name.Weak.{Weak}
use Rattle.mufom_names.specs.declared.name.Reference.{Reference}
use Rattle.mufom_module.specs.declared.module.Parts.{Parts}
use Rattle.mufom_plan.specs.Names.{has_name}
use Rattle.mufom_meaning.specs.Bases.{Bases}
use Rattle.mufom_meaning.specs.Flat.{Sited, SitedPublic, flat_sections, flat_publics, first_named, common_names, width}

-- what an expression's value depends on besides its own module: the address space, and all sections, publics and commons
pub record Setting : Type 0 where
  pub modulus : ℕ
  pub sections : List Section
  pub publics : List SitedPublic
  -- the base of each section, by its flat number
  pub bases : List ℕ
  -- the names of the commons, and the base of each that has one
  pub commons : List (List ℕ)
  pub common_base : List ℕ → Option ℕ

-- the setting of a list of modules whose sections and commons are at these bases
abbrev pub setting : List Parts → Bases → Setting
setting ms bases = record {
  modulus = 2 ^ width ms;
  sections = flat_sections ms;
  publics = flat_publics ms;
  bases = bases.sections;
  commons = common_names ms;
  common_base = bases.commons;
}

-- gives an expression in a module its value
abbrev pub Valuation : Type 0
Valuation = Sited → Tree → Option ℕ

-- the value of a public, if there is one
abbrev pub valuation_of : Valuation → Option SitedPublic → Option ℕ
valuation_of valuation None = None
valuation_of valuation (Some q) = valuation q.site q.entry.value

-- a weak reference of size 0 has its default
abbrev pub default_of : Option Weak → Option ℕ
default_of None = None
default_of (Some weak) = if weak.size == 0 then Some weak.default else None

-- The value of a reference whose name no public has: the base of the common of this name, whatever the reference itself requests,
-- or its default if there is no such common.
abbrev pub unresolved_value : Setting → Reference → Option ℕ
unresolved_value s reference = if has_name s.commons reference.name then s.common_base reference.name else default_of reference.weak

-- a reference has the value of the first public of its name, or its unresolved value if there is no such public
abbrev pub reference_value : Valuation → Option SitedPublic → Option ℕ → Option ℕ
reference_value valuation (Some q) unresolved = valuation q.site q.entry.value
reference_value valuation None unresolved = unresolved

-- the value of a reference, if there is one
abbrev pub valuation_of_reference : Setting → Valuation → Option Reference → Option ℕ
valuation_of_reference s valuation None = None
valuation_of_reference s valuation (Some reference) = reference_value valuation (first_named s.publics reference.name) (unresolved_value s reference)

-- The values of the variables in a module, if the program counter is pc: R and L the base of a section, S its size, P
-- the counter, I the value of a public, X that of a reference. Sections and publics go by their flat numbers, so a position
-- past the module's own, which no valid module names, would be read from the next one. All numbers are taken modulo the
-- address space where they are used.
abbrev pub environment : Setting → Valuation → Sited → Option ℕ → Environment
environment s valuation site pc letters.R n = slice_get s.bases (site.first_section + n)
environment s valuation site pc letters.L n = slice_get s.bases (site.first_section + n)
environment s valuation site pc letters.S n = option_map (λ section. section.size) (slice_get s.sections (site.first_section + n))
environment s valuation site pc letters.P n = pc
environment s valuation site pc letters.I n = valuation_of valuation (slice_get s.publics (site.first_public + n))
environment s valuation site pc letters.X n = valuation_of_reference s valuation (slice_get site.parts.names.references n)

-- The value of an expression in a module, computed through chains of at most `k` publics. A public
-- beyond that has no value.
unfoldable pub value_within : Setting → ℕ → Sited → Option ℕ → Tree → Option ℕ
value_within s zero site pc t = value_at s.modulus (environment s (λ site' t'. None) site pc) t
value_within s (suc k) site pc t = value_at s.modulus (environment s (λ site' t'. value_within s k site' None t') site pc) t

-- The value: chains as long as the list of publics are enough, unless publics form a cycle.
abbrev pub value : Setting → Sited → Option ℕ → Tree → Option ℕ
value s site pc t = value_within s (length s.publics) site pc t

-- somewhere in the expression a divisor has the value 0
abbrev pub has_zero_divisor : Setting → Sited → Option ℕ → Tree → Bool
has_zero_divisor s site pc t = divides_by_zero (λ part. value s site pc part) t
