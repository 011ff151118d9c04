-- Laws about lists that earlier links made in stages.
use Rattle.std.specs.Prelude.{◌≡◌, ◌↔◌, ◌+◌, ◌<◌, ◌^◌, ℕ, List, length, None}
use Rattle.mufom_names.specs.Names.{AreDistinct}
use Rattle.mufom_module.specs.declared.module.Parts.{Parts}
use Rattle.mufom_module.specs.Defects.{IsValid}
use Rattle.mufom_module.specs.Written.{weight}
use Rattle.mufom_meaning.specs.Facts.{LinkFact}
use Rattle.mufom_meaning.specs.Flat.{public_names}
use Rattle.mufom_meaning.specs.Joined.{IsJoined}
use Rattle.mufom_meaning.specs.LinkAnswer.{link_answer}
use Rattle.mufom_meaning.specs.Staging.{AreValid, HaveDescriptor, IsStaged}
use Rattle.mufom_meaning.specs.Stands.{LinkFactStands}
use Rattle.mufom_stages.specs.Stages.{CameByLinks, IsLinkedInStages, first_named, named, named_as}

-- The lists have the same link facts and the same public names, and the same fact, or none, is returned in place of their link.
pub record HaveSameLinkFacts (ms others : List Parts) : Type 0 where
  pub names : public_names ms ≡ public_names others
  pub answer : link_answer ms ≡ link_answer others
  pub facts : (fact : LinkFact) → LinkFactStands ms fact ↔ LinkFactStands others fact

-- a module is the link of one list under a name if and only if it is the link of the other under that name
abbrev pub HaveSameLinks : List Parts → List Parts → Type 0
HaveSameLinks ms others = (M : Parts) (name : List ℕ) → IsJoined M ms name ↔ IsJoined M others name

-- Links in stages keep the link facts of a list, whether or not it can be linked.
abbrev pub StagesKeepLinkFacts : Type 0
StagesKeepLinkFacts = (ms leaves : List Parts) → IsLinkedInStages ms leaves → HaveSameLinkFacts ms leaves

-- If the list can be linked, links in stages keep its links, and no module gets a defect.
abbrev pub StagesKeepLinks : Type 0
StagesKeepLinks =
    (ms leaves : List Parts) → IsLinkedInStages ms leaves → AreValid leaves → link_answer leaves ≡ None → AreValid ms × HaveSameLinks ms leaves

-- The name of the first module decides nothing about the links of a list.
abbrev pub FirstNamesChangeNoLink : Type 0
FirstNamesChangeNoLink =
    (ms : List Parts) (name : List ℕ) → HaveSameLinkFacts (first_named name ms) ms × HaveSameLinks (first_named name ms) ms

-- So a list that came by links has the link facts of the list that they began with, under its own name; and if it can be linked, also the links.
pub record LinksAs (ms leaves : List Parts) : Type 0 where
  pub facts : HaveSameLinkFacts ms leaves
  pub links : link_answer leaves ≡ None → AreValid ms × HaveSameLinks ms leaves

abbrev pub ListsLinkAsTheirLeaves : Type 0
ListsLinkAsTheirLeaves = (ms leaves : List Parts) → CameByLinks ms leaves → LinksAs ms (named_as ms leaves)

-- A list that results from stages in which each link at the beginning keeps the name of its first module came by links, if the modules of the list that
-- the stages began with have no defect, one descriptor, and no public name twice. That list has the name already.
abbrev pub StagesAreLinks : Type 0
StagesAreLinks =
    (d : Parts) (ms leaves : List Parts) → IsStaged ms leaves → AreValid leaves → HaveDescriptor d leaves → AreDistinct (public_names leaves)
    → CameByLinks ms leaves × (named_as ms leaves ≡ leaves)

-- A module without a defect has none under another name that is not too long, if the module is not too heavy under that name.
abbrev pub ModulesMayBeRenamed : Type 0
ModulesMayBeRenamed =
    (m : Parts) (name : List ℕ) → IsValid m → length name < 2 ^ 16 → weight m + length name < 2 ^ 32 → IsValid (named name m)
