-- When a fact holds about a list of modules, whether or not it is the one that is returned.
use Rattle.std.specs.Prelude.{◌≡◌, ◌≢◌, ℕ, ◌+◌, ◌%◌, ◌<◌, ◌≤◌, ◌⊎◌, List, [], ◌∷◌, length, Some, None, slice_get, false, IsTrue}
use Rattle.mufom_numbers.specs.declared.limits.TheConstants.{MOST_IMAGE_BYTES}
use Rattle.mufom_expr.specs.declared.token.FieldKind.{FieldKind}
use Rattle.mufom_expr.specs.Tree.{Tree}
use Rattle.mufom_names.specs.Names.{RepeatsAt}
use Rattle.mufom_loads.specs.declared.load.Item.{Item}
use Rattle.mufom_loads.specs.declared.load.Item.TheVariants.{Field}
use Rattle.mufom_loads.specs.Lengths.{byte_count}
use Rattle.mufom_module.specs.declared.module.Parts.{Parts}
use Rattle.mufom_plan.specs.declared.plan.Plan.{Plan}
use Rattle.mufom_plan.specs.Names.{has_name}
use Rattle.mufom_plan.specs.Commons.{has_common}
use Rattle.mufom_place.specs.Facts.{Stands}
use Rattle.mufom_meaning.specs.declared.located.Site.{Site}
use Rattle.mufom_meaning.specs.declared.located.Site.TheVariants as sites
use Rattle.mufom_meaning.specs.Flat.{Sited, SitedPublic, public_names, flat_starts, needs, commons, common_names, flat_sections, width}
use Rattle.mufom_meaning.specs.Values.{Setting, setting, value, has_zero_divisor}
use Rattle.mufom_meaning.specs.Placed.{placed_commons, planned_bases}
use Rattle.mufom_meaning.specs.Steps.{Step, counter_step, item_step, steps, counter}
use Rattle.mufom_meaning.specs.Facts.{descriptor, LinkFact, mismatch, duplicate, duplicate_start, LocateFact, undefined, common_unplaced, cycle}
use Rattle.mufom_meaning.specs.Facts.{image_limit, zero_divisor, load_outside, loaded_twice, overflow, placement}
use Rattle.mufom_meaning.specs.Cycles.{IsOnCycle}
use Rattle.mufom_meaning.specs.Walk.{size_at, loaded_addresses, SitedTree, start_trees, debug_trees, base_number}
use Rattle.mufom_meaning.specs.Counts.{loaded_total}
use Rattle.mufom_meaning.specs.Fields.{fits}

-- an element is in a list
abbrev pub StandsIn : {A : Type 0} → A → List A → Type 0
StandsIn x xs = (i : ℕ) × (slice_get xs i ≡ Some x)

-- Two descriptors differ, two publics have the same name, or there is more than one start.
abbrev pub LinkFactStands : List Parts → LinkFact → Type 0
LinkFactStands ms (mismatch d e) = (m : Parts) × (n : Parts) × StandsIn m ms × StandsIn n ms × (descriptor m ≡ d) × (descriptor n ≡ e) × (d ≢ e)
LinkFactStands ms (duplicate name) = (place : ℕ) × (slice_get (public_names ms) place ≡ Some name) × RepeatsAt (public_names ms) place
LinkFactStands ms duplicate_start = 1 < length (flat_starts ms)

-- the earlier steps, the latest of them first, put back in front of the others
abbrev pub put_back : List Step → List Step → List Step
put_back [] more = more
put_back (step ∷ earlier) more = put_back earlier (step ∷ more)

-- a step with the steps before it, the latest first
abbrev pub IsStepAfter : List Parts → List Step → Step → Type 0
IsStepAfter ms earlier step = (more : List Step) × (steps ms ≡ put_back earlier (step ∷ more))

-- an item that is loaded at a counter
abbrev pub IsLoadedAt : List Parts → Setting → List Step → Sited → ℕ → ℕ → Item → Type 0
IsLoadedAt ms s earlier site section at item =
    IsStepAfter ms earlier (item_step site section item) × (counter s earlier section ≡ Some at)

-- the expression at a site has a divisor of value 0
abbrev pub HasZeroDivisor : List Parts → Setting → Site → Type 0
HasZeroDivisor ms s (sites.Public name) =
    (q : SitedPublic) × StandsIn q s.publics × (q.entry.name ≡ name) × IsTrue (has_zero_divisor s q.site None q.entry.value)
HasZeroDivisor ms s (sites.Counter section) =
    (earlier : List Step) × (site : Sited) × (t : Tree) × IsStepAfter ms earlier (counter_step site section t)
    × IsTrue (has_zero_divisor s site (counter s earlier section) t)
HasZeroDivisor ms s (sites.Field section at) =
    (earlier : List Step) × (site : Sited) × (kind : FieldKind) × (t : Tree) × (size : ℕ)
    × IsLoadedAt ms s earlier site section at (Field kind size t)
    × IsTrue (has_zero_divisor s site (Some at) t)
HasZeroDivisor ms s sites.Start = (e : SitedTree) × StandsIn e (start_trees ms) × IsTrue (has_zero_divisor s e.0 None e.1)
HasZeroDivisor ms s (sites.Debug n) = (e : SitedTree) × (slice_get (debug_trees ms) n ≡ Some e) × IsTrue (has_zero_divisor s e.0 None e.1)

-- the facts that need no walk
abbrev pub StandsBeforeWalk : List Parts → Plan → Setting → LocateFact → Type 0
StandsBeforeWalk ms plan s (placement refusal) = Stands (width ms) plan (flat_sections ms) (placed_commons ms plan) refusal
StandsBeforeWalk ms plan s (undefined name) = StandsIn name (needs ms) × (has_name (common_names ms) name ≡ false)
StandsBeforeWalk ms plan s (common_unplaced name) = (has_common plan.regions ≡ false) × ((size : ℕ) × StandsIn (name, size) (commons ms))
StandsBeforeWalk ms plan s (cycle name) = IsOnCycle ms name
StandsBeforeWalk ms plan s (image_limit count) = (loaded_total ms ≡ count) × (MOST_IMAGE_BYTES < count)
StandsBeforeWalk ms plan s _ = ⊥

-- The facts that the walk finds. The byte at offset q of an item is at the program counter plus q. It is outside its section if
-- that exact sum is, and it is loaded twice if an earlier step, or an earlier byte of the item, is at the same address.
abbrev pub StandsInWalk : List Parts → Setting → LocateFact → Type 0
StandsInWalk ms s (zero_divisor place) = HasZeroDivisor ms s place
StandsInWalk ms s (load_outside section address) =
    (earlier : List Step) × (site : Sited) × (at : ℕ) × (q : ℕ) × (item : Item) × IsLoadedAt ms s earlier site section at item × (q < byte_count item)
    × ((at + q < base_number s section) ⊎ (base_number s section + size_at s section ≤ at + q)) × (address ≡ (at + q) % s.modulus)
StandsInWalk ms s (loaded_twice address) =
    (earlier : List Step) × (site : Sited) × (section : ℕ) × (at : ℕ) × (q : ℕ) × (item : Item)
    × IsLoadedAt ms s earlier site section at item × (q < byte_count item) × (address ≡ (at + q) % s.modulus)
    × (StandsIn address (loaded_addresses s earlier) ⊎ ((p : ℕ) × (p < q) × (address ≡ (at + p) % s.modulus)))
StandsInWalk ms s (overflow section at kind size v) =
    (earlier : List Step) × (site : Sited) × (t : Tree) × IsLoadedAt ms s earlier site section at (Field kind size t)
    × (value s site (Some at) t ≡ Some v) × ¬ IsTrue (fits s.modulus kind size v)
StandsInWalk ms s _ = ⊥

-- A fact holds. A fact of the walk holds only if no link fact and no fact before the walk does.
abbrev pub LocateFactStands : List Parts → Plan → LocateFact → Type 0
LocateFactStands ms plan fact = let s = setting ms (planned_bases ms plan) in
    StandsBeforeWalk ms plan s fact
    ⊎ (((other : LinkFact) → ¬ LinkFactStands ms other) × ((other : LocateFact) → ¬ StandsBeforeWalk ms plan s other) × StandsInWalk ms s fact)
