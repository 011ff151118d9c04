-- The members that are selected for a list of modules.
use Rattle.std.specs.Prelude.{ℕ, suc, List, [], ◌∷◌, map, filter, flat_map, Option, Some, None, slice_get, Bool, true, ◌&&◌, ◌||◌, if◌then◌else◌}
use Rattle.std.specs.Prelude.{IsTrue, Contains}
use Rattle.std.specs.List.{list_all}
use Rattle.std.specs.List.Sorted.{IsStrictlyIncreasing}
use Rattle.mufom_module.specs.declared.module.Parts.{Parts}
use Rattle.mufom_plan.specs.Names.{has_name}
use Rattle.mufom_meaning.specs.Flat.{flat_references, public_names, is_strong}
use Rattle.mufom_meaning.specs.Walk.{has_number}

-- the names of strong references
abbrev pub strong_names : List Parts → List (List ℕ)
strong_names ms = map (λ reference. reference.name) (filter is_strong (flat_references ms))

-- the provider of a name: the first member that defines it, by its position
abbrev pub provider_from : ℕ → List Parts → List ℕ → Option ℕ
provider_from n [] name = None
provider_from n (member ∷ members) name = if has_name (public_names (member ∷ [])) name then Some n else provider_from (suc n) members name

-- the provider of a name among the members
abbrev pub provider : List Parts → List ℕ → Option ℕ
provider members name = provider_from 0 members name

-- the member as a list, empty if there is none
abbrev pub member_at : Option Parts → List Parts
member_at None = []
member_at (Some m) = m ∷ []

-- the members at some positions
abbrev pub members_at : List Parts → List ℕ → List Parts
members_at members chosen = flat_map (λ n. member_at (slice_get members n)) chosen

-- the position, if there is one, is among those chosen
abbrev pub is_among : Option ℕ → List ℕ → Bool
is_among None chosen = true
is_among (Some n) chosen = has_number chosen n

-- the name is defined in the list, or has no provider, or its provider is chosen
abbrev pub is_provided : List Parts → List Parts → List ℕ → List ℕ → Bool
is_provided ms members chosen name = has_name (public_names ms) name || is_among (provider members name) chosen

-- the chosen members are closed: each strong name of the list or of a chosen member is provided
abbrev pub is_closed : List Parts → List Parts → List ℕ → Bool
is_closed ms members chosen =
    list_all (is_provided ms members chosen) (strong_names ms) && list_all (is_provided ms members chosen) (strong_names (members_at members chosen))

-- the least closed choice, as a list of increasing positions
pub record IsSelected (ms members : List Parts) (chosen : List ℕ) : Type 0 where
  pub increasing : IsStrictlyIncreasing chosen
  pub closed : IsTrue (is_closed ms members chosen)
  pub least : (other : List ℕ) → IsTrue (is_closed ms members other) → (n : ℕ) → Contains chosen n → Contains other n
