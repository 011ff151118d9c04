-- Linking in stages: when a module can replace a list of modules, and which lists result from one another by partial links.
use Rattle.std.specs.Prelude.{◌≡◌, ℕ, List, [], ◌∷◌, ◌++◌, length, not, IsTrue}
use Rattle.std.specs.List.{list_all, IsDistinct}
use Rattle.mufom_names.specs.Names.{AreDistinct}
use Rattle.mufom_module.specs.declared.module.Parts.{Parts}
use Rattle.mufom_module.specs.Defects.{IsValid}
use Rattle.mufom_plan.specs.Names.{has_name}
use Rattle.mufom_meaning.specs.Bases.{Bases}
use Rattle.mufom_meaning.specs.Flat.{flat_sections, public_names}
use Rattle.mufom_meaning.specs.Readings.{readings}
use Rattle.mufom_meaning.specs.Joined.{IsJoined, same_reference}

-- each module is without a defect
abbrev pub AreValid : List Parts → Type 0
AreValid [] = Unit {0}
AreValid (m ∷ ms) = IsValid m × AreValid ms

-- all modules have this descriptor
abbrev pub HaveDescriptor : Parts → List Parts → Type 0
HaveDescriptor d [] = Unit {0}
HaveDescriptor d (m ∷ ms) = ((m.maus ≡ d.maus) × (m.order ≡ d.order)) × HaveDescriptor d ms

-- These modules have the descriptor of the list, which is that of its first module.
abbrev pub HaveDescriptorOf : List Parts → List Parts → Type 0
HaveDescriptorOf [] others = Unit {0}
HaveDescriptorOf (m ∷ ms) others = HaveDescriptor m others

-- A context of the list: valid modules before and after it that have its descriptor, such that no public name occurs twice, and a
-- base for each section; commons may have any bases. The definition refers to the list alone, not to a link of it.
pub record IsContext (before ms after : List Parts) (bases : Bases) : Type 0 where
  pub before_valid : AreValid before
  pub after_valid : AreValid after
  pub descriptor : HaveDescriptorOf ms (before ++ after)
  pub names : AreDistinct (public_names (before ++ (ms ++ after)))
  pub placed : length bases.sections ≡ length (flat_sections (before ++ (ms ++ after)))

-- The module can replace the list: in every context, and wherever sections and commons are placed, it means what the list means.
abbrev pub StandsFor : Parts → List Parts → Type 0
StandsFor M ms =
    (before after : List Parts) (bases : Bases) → IsContext before ms after bases
    → readings (before ++ (M ∷ after)) bases ≡ readings (before ++ (ms ++ after)) bases

-- no two references are the same, and none has the name of one of the module's own publics
pub record HasSettledReferences (M : Parts) : Type 0 where
  pub apart : IsDistinct same_reference M.names.references
  pub unresolved : IsTrue (list_all (λ reference. not (has_name (public_names (M ∷ [])) reference.name)) M.names.references)

-- the condition for an outer link to result in the same module: the link of a group at the beginning has the group's first name
abbrev pub NameStays : List Parts → Parts → List Parts → Type 0
NameStays [] M [] = ⊥
NameStays [] M (m ∷ ms) = M.name ≡ m.name
NameStays (a ∷ before) M ms = Unit {0}

-- The list ms results from the list leaves by partial links of neighbours, one after another. A link at the beginning keeps
-- the name of its first module.
pub data IsStaged : List Parts → List Parts → Type 0 where
  unlinked : (ms : List Parts) → IsStaged ms ms
  linked : (leaves before group after : List Parts) (M : Parts) (name : List ℕ)
      → IsStaged (before ++ (group ++ after)) leaves → IsValid M → IsJoined M group name → NameStays before M group
      → IsStaged (before ++ (M ∷ after)) leaves
