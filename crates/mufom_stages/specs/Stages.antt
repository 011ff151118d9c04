-- Lists that earlier links made in stages, whatever the names of the links.
use Rattle.std.specs.Prelude.{◌≡◌, ℕ, List, [], ◌∷◌, ◌++◌, None}
use Rattle.mufom_module.specs.declared.module.Parts.{Parts}
use Rattle.mufom_module.specs.Defects.{IsValid}
use Rattle.mufom_meaning.specs.Joined.{IsJoined}
use Rattle.mufom_meaning.specs.LinkAnswer.{link_answer}
use Rattle.mufom_meaning.specs.Staging.{AreValid}

-- The list ms results from the list leaves by partial links of neighbours, one after another. Nothing was returned in place of a link, and no link has
-- a defect. A link may have any name.
pub data IsLinkedInStages : List Parts → List Parts → Type 0 where
  unlinked : (ms : List Parts) → IsLinkedInStages ms ms
  linked : (leaves before group after : List Parts) (M : Parts) (name : List ℕ)
      → IsLinkedInStages (before ++ (group ++ after)) leaves → link_answer group ≡ None → IsValid M → IsJoined M group name
      → IsLinkedInStages (before ++ (M ∷ after)) leaves

-- the module under this name
abbrev pub named : List ℕ → Parts → Parts
named name m = record m { name = name }

-- the list, its first module under this name
abbrev pub first_named : List ℕ → List Parts → List Parts
first_named name [] = []
first_named name (m ∷ ms) = named name m ∷ ms

-- the list leaves, its first module under the name of the first module of ms
abbrev pub named_as : List Parts → List Parts → List Parts
named_as [] leaves = leaves
named_as (m ∷ ms) leaves = first_named m.name leaves

-- The list ms was linked in stages from the list leaves, which has no defect, also with its first module under the name of the first module of ms.
pub record CameByLinks (ms leaves : List Parts) : Type 0 where
  pub staged : IsLinkedInStages ms leaves
  pub valid : AreValid leaves
  pub renamed : AreValid (named_as ms leaves)
