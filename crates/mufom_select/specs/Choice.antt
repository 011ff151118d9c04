-- Members that are chosen one after another, with a mark for each and the order of the choice.
use Rattle.std.specs.Prelude.{ℕ, suc, ◌<◌, List, [], ◌∷◌, ◌++◌, flat_map, get_or, set, Option, None, is_some, IfSome, option_to_list, Bool, true}
use Rattle.std.specs.Prelude.{false, if◌then◌else◌}
use Rattle.mufom_names.specs.declared.name.Public.{Public}
use Rattle.mufom_names.specs.declared.name.Reference.{Reference}
use Rattle.mufom_names.specs.Index.{Entry, position_of, with_entry}
use Rattle.mufom_module.specs.declared.module.Parts.{Parts}
use Rattle.mufom_plan.specs.Names.{has_name}
use Rattle.mufom_meaning.specs.Flat.{public_names, is_strong}
use Rattle.mufom_meaning.specs.Selection.{provider}

-- the index once the names of publics are added, all with one position; a name that it already has keeps its position
abbrev pub with_publics : List Entry → ℕ → List Public → List Entry
with_publics entries position [] = entries
with_publics entries position (public ∷ publics) = with_publics (with_entry entries public.name position) position publics

-- the index once the names of members are added, the first member with position n
abbrev pub with_providers : List Entry → ℕ → List Parts → List Entry
with_providers entries n [] = entries
with_providers entries n (member ∷ members) = with_providers (with_publics entries n member.names.publics) (suc n) members

-- the member that provides a name, if the list does not define it
abbrev pub needed : List Parts → List Parts → List ℕ → Option ℕ
needed ms members name = if has_name (public_names ms) name then None else provider members name

-- the member that a reference needs; none if the reference is weak
abbrev pub needed_for : List Parts → List Parts → Reference → Option ℕ
needed_for ms members reference = if is_strong reference then needed ms members reference.name else None

-- the same, given two indexes: of the names that the list defines, and of the names that members define
abbrev pub needed_in : List Entry → List Entry → Reference → Option ℕ
needed_in defined providers reference =
    if is_strong reference then (if is_some (position_of defined reference.name) then None else position_of providers reference.name) else None

-- each position that the index gives is below this number
abbrev pub IsWithin : List Entry → ℕ → Type 0
IsWithin entries n = (name : List ℕ) → IfSome (position_of entries name) (λ position. position < n)

-- the members that references need, in order, given the two indexes
abbrev pub all_needed_in : List Entry → List Entry → List Reference → List ℕ
all_needed_in defined providers references = flat_map (λ reference. option_to_list (needed_in defined providers reference)) references

-- the members that references need, in order
abbrev pub needed_by : List Parts → List Parts → List Reference → List ℕ
needed_by ms members references = flat_map (λ reference. option_to_list (needed_for ms members reference)) references

-- a mark for each member, and the positions of the marked ones in the order of the choice
pub record Choice : Type 0 where
  pub marks : List Bool
  pub order : List ℕ

abbrev pub choice : List Bool → List ℕ → Choice
choice marks order = record { marks = marks; order = order }

-- the member has a mark
abbrev pub is_marked : List Bool → ℕ → Bool
is_marked marks n = get_or marks n false

-- the choice with one more member; unchanged if the member is already marked
abbrev pub with_member : Choice → ℕ → Choice
with_member c n = if is_marked c.marks n then c else record { marks = set c.marks n true; order = c.order ++ n ∷ [] }

-- the choice with these members added, one after another
abbrev pub with_members : Choice → List ℕ → Choice
with_members c [] = c
with_members c (n ∷ ns) = with_members (with_member c n) ns

-- the positions of the marked members; the first mark has position n
abbrev pub positions_from : ℕ → List Bool → List ℕ
positions_from n [] = []
positions_from n (true ∷ marks) = n ∷ positions_from (suc n) marks
positions_from n (false ∷ marks) = positions_from (suc n) marks
