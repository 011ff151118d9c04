-- Laws about the facts that hold about a list of modules, and about the results.
use Rattle.std.specs.Prelude.{◌≡◌, ℕ, List, ◌++◌, length, IsTrue, ◌↔◌, ◌≤◌, Some, None}
use Rattle.mufom_names.specs.Names.{AreDistinct}
use Rattle.mufom_module.specs.declared.module.Parts.{Parts}
use Rattle.mufom_plan.specs.declared.plan.Plan.{Plan}
use Rattle.mufom_meaning.specs.Flat.{public_names, flat_starts}
use Rattle.mufom_meaning.specs.Steps.{steps}
use Rattle.mufom_meaning.specs.Facts.{LinkFact, LocateFact}
use Rattle.mufom_meaning.specs.LinkAnswer.{link_answer}
use Rattle.mufom_meaning.specs.LocateAnswer.{locate_answer}
use Rattle.mufom_meaning.specs.Cycles.{IsOnCycle, is_on_cycle}
use Rattle.mufom_meaning.specs.Counts.{loaded_total, lengths_of_steps}
use Rattle.mufom_meaning.specs.Staging.{AreValid, HaveDescriptorOf}
use Rattle.mufom_meaning.specs.Stands.{LinkFactStands, LocateFactStands}

-- Results and facts agree: a fact that is returned holds, and if no fact is returned, none holds. For a fact that is returned in
-- place of a location, the former requires that the list can be linked.
pub record AnswersAreFacts (ms : List Parts) (plan : Plan) : Type 0 where
  pub link_sound : (fact : LinkFact) → link_answer ms ≡ Some fact → LinkFactStands ms fact
  pub link_complete : link_answer ms ≡ None → (fact : LinkFact) → ¬ LinkFactStands ms fact
  pub locate_sound : link_answer ms ≡ None → (fact : LocateFact) → locate_answer ms plan ≡ Some fact → LocateFactStands ms plan fact
  pub locate_complete : locate_answer ms plan ≡ None → (fact : LocateFact) → ¬ LocateFactStands ms plan fact

-- This holds for every list and every plan, whether or not the modules have defects.
abbrev pub AllAnswersAreFacts : Type 0
AllAnswersAreFacts = (ms : List Parts) (plan : Plan) → AnswersAreFacts ms plan

-- A link fact that holds about a part of a list holds about the list.
abbrev pub LinkFactsGrow : Type 0
LinkFactsGrow = (before ms after : List Parts) (fact : LinkFact) → LinkFactStands ms fact → LinkFactStands (before ++ (ms ++ after)) fact

-- the list can be linked: all modules have the same descriptor, no public name occurs twice, and there is at most one start
pub record IsLinkable (ms : List Parts) : Type 0 where
  pub descriptor : HaveDescriptorOf ms ms
  pub names : AreDistinct (public_names ms)
  pub starts : length (flat_starts ms) ≤ 1

-- No fact is returned in place of a link if and only if the list can be linked.
abbrev pub NoLinkAnswerIsLinkable : Type 0
NoLinkAnswerIsLinkable = (ms : List Parts) → (link_answer ms ≡ None) ↔ IsLinkable ms

-- The number of bytes that is counted load by load is the number of bytes that the steps load.
abbrev pub CountsAgree : Type 0
CountsAgree = (ms : List Parts) → AreValid ms → loaded_total ms ≡ lengths_of_steps (steps ms)

-- A chain of mentions that comes back need not be longer than the list of publics: the test and the chain agree.
abbrev pub CyclesAreShort : Type 0
CyclesAreShort = (ms : List Parts) (name : List ℕ) → IsOnCycle ms name ↔ IsTrue (is_on_cycle ms name)
