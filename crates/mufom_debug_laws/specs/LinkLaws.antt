-- Laws about links of modules without debug items.
use Rattle.std.specs.Prelude.{◌≡◌, ◌↔◌, ℕ, List}
use Rattle.mufom_module.specs.declared.module.Parts.{Parts}
use Rattle.mufom_meaning.specs.Facts.{LinkFact}
use Rattle.mufom_meaning.specs.Flat.{public_names}
use Rattle.mufom_meaning.specs.Joined.{IsJoined}
use Rattle.mufom_meaning.specs.LinkAnswer.{link_answer}
use Rattle.mufom_meaning.specs.Stands.{LinkFactStands}
use Rattle.mufom_debug_laws.specs.Without.{without_debug, all_without_debug}

-- Without their debug items, the modules have the same public names and the same link facts, and the same fact, or none, is
-- returned in place of their link.
pub record HasSameLinkFacts (ms : List Parts) : Type 0 where
  pub names : public_names (all_without_debug ms) ≡ public_names ms
  pub answer : link_answer (all_without_debug ms) ≡ link_answer ms
  pub facts : (fact : LinkFact) → LinkFactStands (all_without_debug ms) fact ↔ LinkFactStands ms fact

-- This is true of every list, whether or not it can be linked.
abbrev pub DebugChangesNoLinkFact : Type 0
DebugChangesNoLinkFact = (ms : List Parts) → HasSameLinkFacts ms

-- The link of modules without their debug items is their link without its debug items, and no other module.
abbrev pub LinksLoseDebugAlone : Type 0
LinksLoseDebugAlone = (M : Parts) (ms : List Parts) (name : List ℕ) → IsJoined M ms name
    → IsJoined (without_debug M) (all_without_debug ms) name
    × ((other : Parts) → IsJoined other (all_without_debug ms) name → other ≡ without_debug M)
