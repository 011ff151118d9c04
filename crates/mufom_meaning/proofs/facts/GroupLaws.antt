-- What is returned in place of the link of a list goes by its groups.
use Rattle.std.proofs.Common.{◌≡◌, List, [], ◌∷◌, ◌++◌, flat_map, inl, inr, refl, sym, ◌∙◌, ap, subst, append-nil, append_assoc}
use Rattle.mufom_module.specs.declared.module.Parts.{Parts}
use Rattle.mufom_meaning.specs.Facts.{LinkFact}
use Rattle.mufom_meaning.specs.LinkAnswer.{link_answer}
use Rattle.mufom_meaning.specs.Stands.{LinkFactStands}
use Rattle.mufom_meaning.specs.StagingLaws.{IsLinkOrItself, itself, a_link, StandForGroups, AllGroupsAnswer}
use Rattle.mufom_meaning.proofs.Members.{In, Contains-In}
use Rattle.mufom_meaning.proofs.facts.LinkFacts.{link_facts_grow}
use Rattle.mufom_meaning.proofs.facts.LinkAgreed.{link_answers_agree}
use Rattle.mufom_meaning.proofs.facts.Linkable.{no_link_answer_is_linkable}

-- the modules of all groups
abbrev all_of : List (List Parts) → List Parts
all_of groups = flat_map (λ own. own) groups

facts_stand : (groups : List (List Parts)) (group : List Parts) → In group groups → (fact : LinkFact) → LinkFactStands group fact
    → LinkFactStands (all_of groups) fact
facts_stand [] group k fact h = absurd k
facts_stand (own ∷ groups) group (inl same) fact h = link_facts_grow [] own (all_of groups) fact (subst (λ ms. LinkFactStands ms fact) (sym same) h)
facts_stand (own ∷ groups) group (inr k) fact h =
    subst (λ ms. LinkFactStands (own ++ ms) fact) (append-nil (all_of groups)) (link_facts_grow own (all_of groups) [] fact (facts_stand groups group k fact h))

-- the same after some modules
same_after : (before Ms : List Parts) (groups : List (List Parts)) → StandForGroups Ms groups → link_answer (before ++ Ms)
    ≡ link_answer (before ++ all_of groups)
same_after before [] [] h = refl
same_after before (M ∷ Ms) (group ∷ groups) h = by_group M group h.0 (λ (prefix : List Parts). same_after prefix Ms groups h.1) where
  by_group : (M : Parts) (group : List Parts) → IsLinkOrItself M group
      → ((prefix : List Parts) → link_answer (prefix ++ Ms) ≡ link_answer (prefix ++ all_of groups))
      → link_answer (before ++ (M ∷ Ms)) ≡ link_answer (before ++ (group ++ all_of groups))
  by_group _ _ (itself m) rest =
      ap link_answer (sym (append_assoc before (m ∷ []) Ms)) ∙ rest (before ++ (m ∷ [])) ∙ ap link_answer (append_assoc before (m ∷ []) (all_of groups))
  by_group _ _ (a_link M group name j none) rest =
      link_answers_agree M group before Ms name j ((no_link_answer_is_linkable group).0 none).descriptor
      ∙ ap link_answer (sym (append_assoc before group Ms)) ∙ rest (before ++ group) ∙ ap link_answer (append_assoc before group (all_of groups))
same_after before [] (group ∷ groups) h = absurd h
same_after before (M ∷ Ms) [] h = absurd h

pub groups_answer : AllGroupsAnswer
groups_answer groups = record {
  facts_stand = λ group k fact h. facts_stand groups group (Contains-In group groups k) fact h;
  same_answer = λ Ms h. same_after [] Ms groups h;
}
