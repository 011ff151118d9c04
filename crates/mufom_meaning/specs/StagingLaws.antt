-- Laws about linking in stages.
use Rattle.std.specs.Prelude.{◌≡◌, ℕ, List, [], ◌∷◌, ◌++◌, flat_map, length, None, Contains, ◌↔◌, ◌+◌, ◌<◌, ◌≤◌, ◌^◌, sum_by}
use Rattle.mufom_names.specs.Names.{AreDistinct}
use Rattle.mufom_module.specs.declared.module.Parts.{Parts}
use Rattle.mufom_module.specs.Defects.{IsValid}
use Rattle.mufom_module.specs.Written.{weight}
use Rattle.mufom_plan.specs.declared.plan.Plan.{Plan}
use Rattle.mufom_meaning.specs.declared.located.LocatedParts.{LocatedParts}
use Rattle.mufom_meaning.specs.Bases.{Bases}
use Rattle.mufom_meaning.specs.Flat.{flat_sections, public_names}
use Rattle.mufom_meaning.specs.Readings.{readings}
use Rattle.mufom_meaning.specs.Joined.{IsJoined}
use Rattle.mufom_meaning.specs.Location.{IsLocation, first_header}
use Rattle.mufom_meaning.specs.Selection.{IsSelected}
use Rattle.mufom_meaning.specs.Facts.{LinkFact, LocateFact}
use Rattle.mufom_meaning.specs.LinkAnswer.{link_answer}
use Rattle.mufom_meaning.specs.LocateAnswer.{after_placing, locate_answer}
use Rattle.mufom_meaning.specs.Staging.{AreValid, HaveDescriptor, HaveDescriptorOf, StandsFor, HasSettledReferences, IsStaged}
use Rattle.mufom_meaning.specs.Stands.{LinkFactStands, LocateFactStands}

-- A partial link can replace its list: it means the same in every context, it has the list's sections and public names, and no
-- reference is left to one of its own publics.
abbrev pub JoinedStandsFor : Type 0
JoinedStandsFor =
    (M : Parts) (ms : List Parts) (name : List ℕ) → IsJoined M ms name → AreValid ms
    → StandsFor M ms × (M.sections ≡ flat_sections ms) × (public_names (M ∷ []) ≡ public_names ms) × HasSettledReferences M

-- Links compose: linking a list in which a group was linked before results in the link of the flat list, and conversely.
abbrev pub JoinedComposes : Type 0
JoinedComposes =
    (M N : Parts) (ms before after : List Parts) (inner outer : List ℕ)
    → IsJoined M ms inner → AreValid (before ++ (ms ++ after)) → HaveDescriptor M (before ++ (ms ++ after))
    → AreDistinct (public_names (before ++ (ms ++ after)))
    → (IsJoined N (before ++ (M ∷ after)) outer → IsJoined N (before ++ (ms ++ after)) outer)
    × (IsJoined N (before ++ (ms ++ after)) outer → IsJoined N (before ++ (M ∷ after)) outer)

-- The fact that is returned in place of an outer link does not change if a group was linked before, even if link facts hold. Only the
-- modules of the group must have the same descriptor.
abbrev pub LinkAnswersAgree : Type 0
LinkAnswersAgree =
    (M : Parts) (ms before after : List Parts) (name : List ℕ)
    → IsJoined M ms name → HaveDescriptorOf ms ms
    → link_answer (before ++ (M ∷ after)) ≡ link_answer (before ++ (ms ++ after))

-- The link facts that hold do not change either.
abbrev pub LinkFactsAgree : Type 0
LinkFactsAgree =
    (M : Parts) (ms before after : List Parts) (name : List ℕ) (fact : LinkFact)
    → IsJoined M ms name → HaveDescriptorOf ms ms
    → LinkFactStands (before ++ (M ∷ after)) fact ↔ LinkFactStands (before ++ (ms ++ after)) fact

-- A module represents a group of modules: it is the only module of the group, or the link of a group that can be linked.
pub data IsLinkOrItself : Parts → List Parts → Type 0 where
  itself : (m : Parts) → IsLinkOrItself m (m ∷ [])
  a_link : (M : Parts) (group : List Parts) (name : List ℕ) → IsJoined M group name → link_answer group ≡ None → IsLinkOrItself M group

-- each module can replace its group, one group for each
abbrev pub StandForGroups : List Parts → List (List Parts) → Type 0
StandForGroups [] [] = Unit {0}
StandForGroups (M ∷ Ms) (group ∷ groups) = IsLinkOrItself M group × StandForGroups Ms groups
StandForGroups [] (group ∷ groups) = ⊥
StandForGroups (M ∷ Ms) [] = ⊥

-- A list may be linked group by group: a link fact that holds about a group holds about the whole list, and if each group was linked,
-- or is one module, linking the links returns the same fact, or none, as linking the whole list.
pub record GroupsAnswer (groups : List (List Parts)) : Type 0 where
  pub facts_stand : (group : List Parts) → Contains groups group → (fact : LinkFact) → LinkFactStands group fact
      → LinkFactStands (flat_map (λ own. own) groups) fact
  pub same_answer : (Ms : List Parts) → StandForGroups Ms groups → link_answer Ms ≡ link_answer (flat_map (λ own. own) groups)

-- This holds for all groups.
abbrev pub AllGroupsAnswer : Type 0
AllGroupsAnswer = (groups : List (List Parts)) → GroupsAnswer groups

-- The same facts hold about a list with a link and about the flat list, and the same one is returned.
pub record FactsAgreeOn (linked flat : List Parts) (plan : Plan) : Type 0 where
  pub link_facts : (fact : LinkFact) → LinkFactStands linked fact ↔ LinkFactStands flat fact
  pub locate_facts : (fact : LocateFact) → LocateFactStands linked plan fact ↔ LocateFactStands flat plan fact
  pub link_answers : link_answer linked ≡ link_answer flat
  pub later_answers : after_placing linked plan ≡ after_placing flat plan
  pub locate_answers : locate_answer linked plan ≡ locate_answer flat plan

-- This holds if the flat list has no defect, all its modules have the same descriptor, and no public name occurs twice.
abbrev pub FactsAgree : Type 0
FactsAgree =
    (M : Parts) (ms before after : List Parts) (name : List ℕ) (plan : Plan)
    → IsJoined M ms name → AreValid (before ++ (ms ++ after)) → HaveDescriptor M (before ++ (ms ++ after))
    → AreDistinct (public_names (before ++ (ms ++ after)))
    → FactsAgreeOn (before ++ (M ∷ after)) (before ++ (ms ++ after)) plan

-- The members selected for the list with a link are those selected for the flat list.
abbrev pub SelectionAgrees : Type 0
SelectionAgrees =
    (M : Parts) (ms before after : List Parts) (name : List ℕ) (members : List Parts) (chosen : List ℕ)
    → IsJoined M ms name
    → IsSelected (before ++ (M ∷ after)) members chosen ↔ IsSelected (before ++ (ms ++ after)) members chosen

-- Two lists mean the same: they have the same readings wherever the sections are placed, the same link, facts, results and location
-- whatever the plan, and the same members.
pub record MeansTheSame (ms leaves : List Parts) : Type 0 where
  pub same_readings : (bases : Bases) → readings ms bases ≡ readings leaves bases
  pub same_first : first_header ms ≡ first_header leaves
  pub same_joined : (N : Parts) (name : List ℕ) → IsJoined N ms name ↔ IsJoined N leaves name
  pub same_link_facts : (fact : LinkFact) → LinkFactStands ms fact ↔ LinkFactStands leaves fact
  pub same_locate_facts : (plan : Plan) (fact : LocateFact) → LocateFactStands ms plan fact ↔ LocateFactStands leaves plan fact
  pub same_link : link_answer ms ≡ link_answer leaves
  pub same_locate : (plan : Plan) → locate_answer ms plan ≡ locate_answer leaves plan
  pub same_location : (plan : Plan) (r : LocatedParts) → IsLocation ms plan r ↔ IsLocation leaves plan r
  pub same_members : (members : List Parts) (chosen : List ℕ) → IsSelected ms members chosen ↔ IsSelected leaves members chosen

-- A list that results from linking modules in whatever stages means the same as the list of the original modules. d is any
-- module with the descriptor of the list.
abbrev pub StagedMeansTheSame : Type 0
StagedMeansTheSame =
    (d : Parts) (ms leaves : List Parts) → IsStaged ms leaves → AreValid leaves → HaveDescriptor d leaves
    → AreDistinct (public_names leaves)
    → MeansTheSame ms leaves

-- A list has at most one partial link under a name.
abbrev pub JoinedIsSingle : Type 0
JoinedIsSingle = (M N : Parts) (ms : List Parts) (name : List ℕ) → IsJoined M ms name → IsJoined N ms name → M ≡ N

-- the sum of the weights of all modules of a list
abbrev pub total_weight : List Parts → ℕ
total_weight ms = sum_by weight ms

-- the length of the first module's name
abbrev pub first_name_length : List Parts → ℕ
first_name_length [] = 0
first_name_length (m ∷ ms) = length m.name

-- A partial link of modules without a defect weighs no more than they do together, with its name in place of the first
-- module's, and it has no defect if its name is no longer than a string may be and the sum is below 2^32.
pub record JoinedIsSound (M : Parts) (ms : List Parts) (name : List ℕ) : Type 0 where
  pub weighs : weight M + first_name_length ms ≤ total_weight ms + length name
  pub valid : length name < 2 ^ 16 → total_weight ms + length name < 2 ^ 32 → IsValid M

-- This holds for each partial link of modules without a defect.
abbrev pub JoinedIsValid : Type 0
JoinedIsValid = (M : Parts) (ms : List Parts) (name : List ℕ) → IsJoined M ms name → AreValid ms → JoinedIsSound M ms name
