-- Laws about linking in groups.
use Rattle.std.specs.Prelude.{◌≡◌, ◌↔◌, ℕ, List, Option, None}
use Rattle.mufom_module.specs.declared.module.Parts.{Parts}
use Rattle.mufom_words.specs.Tree.{Forest, leaves}
use Rattle.mufom_meaning.specs.Facts.{LinkFact}
use Rattle.mufom_meaning.specs.LinkAnswer.{link_answer}
use Rattle.mufom_meaning.specs.Staging.{AreValid, HasSettledReferences, StandsFor}
use Rattle.mufom_meaning.specs.Stands.{LinkFactStands}
use Rattle.mufom_groups.specs.Linked.{IsFlatList, linked, linked_module}
use Rattle.mufom_groups.specs.Work.{Work, gives, stops, IsSingle}

-- The links give the flat list if and only if the flat list can be linked.
abbrev pub LinkedIsFlat : Type 0
LinkedIsFlat = (tree : Forest) (ms flat : List Parts) → linked tree ms (gives flat) ↔ (IsFlatList tree ms flat × (link_answer flat ≡ None))

-- If an error ends the links, that error also applies to the flat list.
abbrev pub LinkFactsStand : Type 0
LinkFactsStand = (tree : Forest) (ms flat : List Parts) (f : LinkFact) → IsFlatList tree ms flat → linked tree ms (stops f) → LinkFactStands flat f

-- the work ends with a link error
abbrev pub StopsAtFact : {A : Type 0} → Work LinkFact A → Type 0
StopsAtFact work = (f : LinkFact) × work (stops f)

-- Two works have the same results: the same values, and a link error both or neither.
pub record EndAlike {A : Type 0} (first second : Work LinkFact A) : Type 0 where
  pub values : (a : A) → first (gives a) ↔ second (gives a)
  pub facts : StopsAtFact first ↔ StopsAtFact second

-- Trees with the same files, whatever their groups, link any modules into the same module, or both end with a link error.
abbrev pub GroupsMakeNoDifference : Type 0
GroupsMakeNoDifference =
    (tree other : Forest) (name : Option (List ℕ)) → leaves tree ≡ leaves other → (ms : List Parts)
    → EndAlike (linked_module tree name ms) (linked_module other name ms)

-- Modules are linked into at most one module, or end with at most one link error.
abbrev pub LinksAreSingle : Type 0
LinksAreSingle = (tree : Forest) (name : Option (List ℕ)) (ms : List Parts) → IsSingle (linked_module tree name ms)

-- The module can replace the flat list of the modules, in every context.
pub record StandsForFlat (tree : Forest) (ms : List Parts) (M : Parts) : Type 0 where
  pub flat : List Parts
  pub is_flat : IsFlatList tree ms flat
  pub stands : StandsFor M flat
  pub settled : HasSettledReferences M

-- The module into which modules without a defect are linked can replace their flat list.
abbrev pub LinksStandForFlat : Type 0
LinksStandForFlat =
    (tree : Forest) (name : Option (List ℕ)) (ms : List Parts) (M : Parts) → AreValid ms → linked_module tree name ms (gives M)
    → StandsForFlat tree ms M
