-- Facts that are not found in a debug expression.
use Rattle.std.proofs.Common.{◌≡◌, ℕ, List, [], ◌∷◌, Option, Some, None, Bool, true, false, cond, refl, ap}
use Rattle.std.specs.Prelude.{◌+◌, ◌%◌, ◌||◌, nat_lt, nat_le, option_map}
use Rattle.mufom_expr.specs.declared.token.FieldKind.{FieldKind}
use Rattle.mufom_expr.specs.Tree.{Tree}
use Rattle.mufom_loads.specs.declared.load.Item.{Item}
use Rattle.mufom_loads.specs.declared.load.Item.TheVariants.{Literal, Field}
use Rattle.mufom_loads.specs.Lengths.{byte_count}
use Rattle.mufom_place.specs.Facts.{◌or_else◌, first_some}
use Rattle.mufom_meaning.specs.declared.located.Site.{Site}
use Rattle.mufom_meaning.specs.declared.located.Site.TheVariants as sites
use Rattle.mufom_meaning.specs.Flat.{Sited}
use Rattle.mufom_meaning.specs.Values.{Setting, value, has_zero_divisor}
use Rattle.mufom_meaning.specs.Steps.{Step, counter_step, item_step, counter}
use Rattle.mufom_meaning.specs.Facts.{LocateFact, zero_divisor, load_outside, loaded_twice, overflow}
use Rattle.mufom_meaning.specs.Fields.{fits}
use Rattle.mufom_meaning.specs.Walk.{has_number, counted_from, outside_at, first_twice, addresses_at, loaded_addresses, overflow_at, field_fact}
use Rattle.mufom_meaning.specs.Walk.{base_number, size_at, item_fact, step_fact, steps_fact, zero_divisor_at, SitedTree, debug_fact}
use Rattle.mufom_debug_laws.specs.Without.{is_debug_fact, fact_without_debug}

-- the fact, if there is one, is not found in a debug expression
abbrev pub IsPlain : Option LocateFact → Type 0
IsPlain fact = fact_without_debug fact ≡ fact

-- a fact that is not found in a debug expression stays, and the others after it
pub beyond : (x y z : Option LocateFact) → IsPlain x → fact_without_debug y ≡ z → fact_without_debug (x or_else y) ≡ (x or_else z)
beyond None y z plain rest = rest
beyond (Some fact) y z plain rest = plain

pub plain-if : (test : Bool) (fact : LocateFact) → is_debug_fact fact ≡ false → IsPlain (cond test (Some fact) None)
plain-if true fact other = ap (λ b. cond b None (Some fact)) other
plain-if false fact other = refl

pub plain-mapped : {X : Type 0} (make : X → LocateFact) → ((x : X) → is_debug_fact (make x) ≡ false) → (o : Option X) → IsPlain (option_map make o)
plain-mapped make other None = refl
plain-mapped make other (Some x) = ap (λ b. cond b None (Some (make x))) (other x)

pub plain-first : {X : Type 0} (f : X → Option LocateFact) → ((x : X) → IsPlain (f x)) → (xs : List X) → IsPlain (first_some f xs)
plain-first f plain [] = refl
plain-first f plain (x ∷ xs) = beyond (f x) (first_some f xs) (first_some f xs) (plain x) (plain-first f plain xs)

-- ---- the facts found in a walk

pub plain-zero : (s : Setting) (site : Sited) (pc : Option ℕ) (t : Tree) (place : Site) → is_debug_fact (zero_divisor place) ≡ false
    → IsPlain (zero_divisor_at s site pc t place)
plain-zero s site pc t place other = plain-if (has_zero_divisor s site pc t) (zero_divisor place) other

plain-outside : (s : Setting) (section a : ℕ) → IsPlain (outside_at s.modulus section (base_number s section) (size_at s section) a)
plain-outside s section a = let base = base_number s section in
    plain-if (nat_lt a base || nat_le (base + size_at s section) a) (load_outside section (a % s.modulus)) refl

plain-twice : (earlier addresses : List ℕ) → IsPlain (first_twice earlier addresses)
plain-twice earlier [] = refl
plain-twice earlier (a ∷ more) = by-case (has_number earlier a) (plain-twice (a ∷ earlier) more) where
  by-case : (b : Bool) → IsPlain (first_twice (a ∷ earlier) more) → IsPlain (cond b (Some (loaded_twice a)) (first_twice (a ∷ earlier) more))
  by-case true rest = refl
  by-case false rest = rest

plain-overflow : (modulus section at : ℕ) (kind : FieldKind) (size : ℕ) (o : Option ℕ) → IsPlain (overflow_at modulus section at kind size o)
plain-overflow modulus section at kind size None = refl
plain-overflow modulus section at kind size (Some v) = by-case (fits modulus kind size v) where
  by-case : (b : Bool) → IsPlain (cond b None (Some (overflow section at kind size v)))
  by-case true = refl
  by-case false = refl

plain-field : (s : Setting) (site : Sited) (section at : ℕ) (item : Item) → IsPlain (field_fact s site section at item)
plain-field s site section at (Literal bytes) = refl
plain-field s site section at (Field kind size t) = let o = value s site (Some at) t in
    beyond (zero_divisor_at s site (Some at) t (sites.Field section at)) (overflow_at s.modulus section at kind size o)
    (overflow_at s.modulus section at kind size o) (plain-zero s site (Some at) t (sites.Field section at) refl)
    (plain-overflow s.modulus section at kind size o)

plain-item : (s : Setting) (earlier : List Step) (site : Sited) (section : ℕ) (pc : Option ℕ) (item : Item)
    → IsPlain (item_fact s earlier site section pc item)
plain-item s earlier site section None item = refl
plain-item s earlier site section (Some at) item =
    let outside = outside_at s.modulus section (base_number s section) (size_at s section) in
    let twice = first_twice (loaded_addresses s earlier) (addresses_at s.modulus (Some at) item) in
    let field = field_fact s site section at item in
    beyond (first_some outside (counted_from (byte_count item) at)) (twice or_else field) (twice or_else field)
    (plain-first outside (plain-outside s section) (counted_from (byte_count item) at))
    (beyond twice field field (plain-twice (loaded_addresses s earlier) (addresses_at s.modulus (Some at) item)) (plain-field s site section at item))

plain-step : (s : Setting) (earlier : List Step) (step : Step) → IsPlain (step_fact s earlier step)
plain-step s earlier (counter_step site section t) = plain-zero s site (counter s earlier section) t (sites.Counter section) refl
plain-step s earlier (item_step site section item) = plain-item s earlier site section (counter s earlier section) item

pub plain-steps : (s : Setting) (earlier more : List Step) → IsPlain (steps_fact s earlier more)
plain-steps s earlier [] = refl
plain-steps s earlier (step ∷ more) = beyond (step_fact s earlier step) (steps_fact s (step ∷ earlier) more) (steps_fact s (step ∷ earlier) more)
    (plain-step s earlier step) (plain-steps s (step ∷ earlier) more)

-- a fact at a debug expression is left out
pub no-debug-facts : (s : Setting) (trees : List (ℕ × SitedTree)) → fact_without_debug (first_some (debug_fact s) trees) ≡ None
no-debug-facts s [] = refl
no-debug-facts s (e ∷ trees) = by-case (has_zero_divisor s e.1.0 None e.1.1) (no-debug-facts s trees) where
  by-case : (b : Bool) → fact_without_debug (first_some (debug_fact s) trees) ≡ None
      → fact_without_debug (cond b (Some (zero_divisor (sites.Debug e.0))) None or_else first_some (debug_fact s) trees) ≡ None
  by-case true rest = refl
  by-case false rest = rest
