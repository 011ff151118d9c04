-- The facts found on a walk over the publics, steps, starts and debug expressions of a list of modules, and which is found first.
use Rattle.std.specs.Prelude.{ℕ, zero, suc, ◌+◌, ◌%◌, ◌==◌, List, [], ◌∷◌, ◌++◌, map, flat_map, Option, Some, None, option_map, slice_get, unwrap_or}
use Rattle.std.specs.Prelude.{Bool, ◌||◌, nat_lt, nat_le, if◌then◌else◌, option_to_list}
use Rattle.std.specs.List.{enumerate_from, list_any}
use Rattle.mufom_expr.specs.declared.token.FieldKind.{FieldKind}
use Rattle.mufom_expr.specs.Tree.{Tree}
use Rattle.mufom_loads.specs.declared.load.Item.{Item}
use Rattle.mufom_loads.specs.declared.load.Item.TheVariants.{Literal, Field}
use Rattle.mufom_loads.specs.Lengths.{byte_count}
use Rattle.mufom_debug.specs.Marks.{marks_of, expressions_of}
use Rattle.mufom_module.specs.declared.module.Parts.{Parts}
use Rattle.mufom_place.specs.Facts.{◌or_else◌, first_some}
use Rattle.mufom_meaning.specs.declared.located.Site.{Site}
use Rattle.mufom_meaning.specs.declared.located.Site.TheVariants as sites
use Rattle.mufom_meaning.specs.Flat.{Sited, SitedPublic, sited}
use Rattle.mufom_meaning.specs.Values.{Setting, value, has_zero_divisor}
use Rattle.mufom_meaning.specs.Steps.{Step, counter_step, item_step, steps, counter}
use Rattle.mufom_meaning.specs.Facts.{LocateFact, zero_divisor, load_outside, loaded_twice, overflow}
use Rattle.mufom_meaning.specs.Fields.{fits}

-- a division by 0, if the expression at the site has one
abbrev pub zero_divisor_at : Setting → Sited → Option ℕ → Tree → Site → Option LocateFact
zero_divisor_at s site pc t place = if has_zero_divisor s site pc t then Some (zero_divisor place) else None

-- the fact found at a public
abbrev pub public_fact : Setting → SitedPublic → Option LocateFact
public_fact s q = zero_divisor_at s q.site None q.entry.value (sites.Public q.entry.name)

-- `n` numbers, from `start` on
abbrev pub counted_from : ℕ → ℕ → List ℕ
counted_from zero start = []
counted_from (suc n) start = start ∷ counted_from n (suc start)

-- the number is among these
abbrev pub has_number : List ℕ → ℕ → Bool
has_number numbers n = list_any (λ m. m == n) numbers

-- a byte lies outside its section; the sum of counter and offset is exact, and its address is taken modulo the address space
abbrev pub outside_at : ℕ → ℕ → ℕ → ℕ → ℕ → Option LocateFact
outside_at modulus section base size a =
    if nat_lt a base || nat_le (base + size) a then Some (load_outside section (a % modulus)) else None

-- the first address that also occurs earlier
abbrev pub first_twice : List ℕ → List ℕ → Option LocateFact
first_twice earlier [] = None
first_twice earlier (a ∷ more) = if has_number earlier a then Some (loaded_twice a) else first_twice (a ∷ earlier) more

-- the addresses of the bytes that an item loads at a counter
abbrev pub addresses_at : ℕ → Option ℕ → Item → List ℕ
addresses_at modulus None item = []
addresses_at modulus (Some at) item = map (λ a. a % modulus) (counted_from (byte_count item) at)

-- the addresses of the bytes that a step loads, after the steps before it, the latest first
abbrev pub step_addresses : Setting → List Step → Step → List ℕ
step_addresses s earlier (counter_step site section t) = []
step_addresses s earlier (item_step site section item) = addresses_at s.modulus (counter s earlier section) item

-- the addresses that some steps, the latest first, have loaded
abbrev pub loaded_addresses : Setting → List Step → List ℕ
loaded_addresses s [] = []
loaded_addresses s (step ∷ earlier) = step_addresses s earlier step ++ loaded_addresses s earlier

-- a value that does not fit the field
abbrev pub overflow_at : ℕ → ℕ → ℕ → FieldKind → ℕ → Option ℕ → Option LocateFact
overflow_at modulus section at kind size None = None
overflow_at modulus section at kind size (Some v) = if fits modulus kind size v then None else Some (overflow section at kind size v)

-- the fact found at the expression of a field
abbrev pub field_fact : Setting → Sited → ℕ → ℕ → Item → Option LocateFact
field_fact s site section at (Literal bytes) = None
field_fact s site section at (Field kind size t) =
    zero_divisor_at s site (Some at) t (sites.Field section at) or_else overflow_at s.modulus section at kind size (value s site (Some at) t)

-- the base of a section, by its flat number
abbrev pub base_number : Setting → ℕ → ℕ
base_number s section = unwrap_or (slice_get s.bases section) 0

-- the size of a section, by its flat number
abbrev pub size_at : Setting → ℕ → ℕ
size_at s section = unwrap_or (option_map (λ found. found.size) (slice_get s.sections section)) 0

-- The fact found at an item with this counter: first a byte outside its section, then an address that was loaded, then a
-- division by 0, then a value that does not fit.
abbrev pub item_fact : Setting → List Step → Sited → ℕ → Option ℕ → Item → Option LocateFact
item_fact s earlier site section None item = None
item_fact s earlier site section (Some at) item =
    first_some (outside_at s.modulus section (base_number s section) (size_at s section)) (counted_from (byte_count item) at)
    or_else (first_twice (loaded_addresses s earlier) (addresses_at s.modulus (Some at) item)
    or_else field_fact s site section at item)

-- the fact found at a step, after the steps before it, the latest first
abbrev pub step_fact : Setting → List Step → Step → Option LocateFact
step_fact s earlier (counter_step site section t) = zero_divisor_at s site (counter s earlier section) t (sites.Counter section)
step_fact s earlier (item_step site section item) = item_fact s earlier site section (counter s earlier section) item

-- the first fact found at steps, after those before them
abbrev pub steps_fact : Setting → List Step → List Step → Option LocateFact
steps_fact s earlier [] = None
steps_fact s earlier (step ∷ more) = step_fact s earlier step or_else steps_fact s (step ∷ earlier) more

-- an expression with the module that it is in
abbrev pub SitedTree : Type 0
SitedTree = Sited × Tree

-- the starts of all modules, in order
abbrev pub start_trees : List Parts → List SitedTree
start_trees ms = flat_map (λ site. map (λ t. (site, t)) (option_to_list site.parts.start)) (sited ms)

-- the debug expressions of all modules, in order
abbrev pub debug_trees : List Parts → List SitedTree
debug_trees ms = flat_map (λ site. map (λ t. (site, t)) (expressions_of (marks_of site.parts.debug))) (sited ms)

-- the fact found at a start
abbrev pub start_fact : Setting → SitedTree → Option LocateFact
start_fact s e = zero_divisor_at s e.0 None e.1 sites.Start

-- the fact found at a debug expression, which is given by its number among all
abbrev pub debug_fact : Setting → ℕ × SitedTree → Option LocateFact
debug_fact s e = zero_divisor_at s e.1.0 None e.1.1 (sites.Debug e.0)

-- the first fact found in the publics, the steps, the starts and the debug expressions, in this order
abbrev pub walk_answer : List Parts → Setting → Option LocateFact
walk_answer ms s =
    first_some (public_fact s) s.publics
    or_else (steps_fact s [] (steps ms)
    or_else (first_some (start_fact s) (start_trees ms)
    or_else first_some (debug_fact s) (enumerate_from 0 (debug_trees ms))))
