-- Stages in which each link at the beginning keeps the name of its first module are links in stages.
use Rattle.std.proofs.Common.{◌≡◌, ℕ, ◌≤◌, List, [], ◌∷◌, ◌++◌, length, Option, Some, None, refl, sym, ap, subst, ◌∙◌, arith}
use Rattle.std.specs.Prelude.{option_to_list}
use Rattle.mufom_expr.specs.Tree.{Tree}
use Rattle.mufom_names.specs.Names.{AreDistinct}
use Rattle.mufom_module.specs.declared.module.Parts.{Parts}
use Rattle.mufom_meaning.specs.Facts.{duplicate}
use Rattle.mufom_meaning.specs.Flat.{flat_starts, public_names}
use Rattle.mufom_meaning.specs.Joined.{IsJoined}
use Rattle.mufom_meaning.specs.LinkAnswer.{link_answer}
use Rattle.mufom_meaning.specs.Location.{Header, first_header}
use Rattle.mufom_meaning.specs.Staging.{AreValid, HaveDescriptor, HaveDescriptorOf, IsStaged}
use Rattle.mufom_meaning.specs.Staging as staging
use Rattle.mufom_meaning.proofs.facts.Agreed.{starts_group}
use Rattle.mufom_meaning.proofs.facts.LinkFacts.{link_facts_grow}
use Rattle.mufom_meaning.proofs.facts.Linkable.{no_link_answer_is_linkable}
use Rattle.mufom_meaning.proofs.staging.Stages.{Stays, stays_linked}
use Rattle.mufom_stages.specs.Stages.{IsLinkedInStages, linked, named, named_as, unlinked}
use Rattle.mufom_stages.specs.StageLaws.{StagesAreLinks}

-- ---- a group of a list

within : (d : Parts) (before group after : List Parts) → HaveDescriptor d (before ++ (group ++ after)) → HaveDescriptor d group
within d [] [] after have = tt
within d [] (m ∷ group) after have = (have.0, within d [] group after have.1)
within d (m ∷ before) group after have = within d before group after have.1

of-first : (d : Parts) (group : List Parts) → HaveDescriptor d group → HaveDescriptorOf group group
of-first d [] have = tt
of-first d (m ∷ group) have = ((refl, refl), others group have.1) where
  others : (list : List Parts) → HaveDescriptor d list → HaveDescriptor m list
  others [] none = tt
  others (n ∷ list) rest = ((rest.0.0 ∙ sym have.0.0, rest.0.1 ∙ sym have.0.1), others list rest.1)

one-start : (start : Option Tree) → length (option_to_list start) ≤ 1
one-start None = omega arith
one-start (Some t) = omega arith

-- a group that has a link can be linked, if the list that it is in has one descriptor and no public name twice
group-links : (d M : Parts) (before group after : List Parts) (name : List ℕ) → IsJoined M group name
    → HaveDescriptor d (before ++ (group ++ after)) → AreDistinct (public_names (before ++ (group ++ after))) → link_answer group ≡ None
group-links d M before group after name joined have distinct =
    let count : length (option_to_list M.start) ≡ length (flat_starts group) = ap length joined.start ∙ starts_group group 0 0 0 group in
    let few = one-start M.start in
    (no_link_answer_is_linkable group).1 (record {
      descriptor = of-first d group (within d before group after have);
      names = λ place repeats.
          let fact = link_facts_grow before group after (duplicate repeats.1) (place, repeats.4, repeats) in
          distinct fact.0 fact.2;
      starts = omega (arith, count, few);
    })

-- ---- stages

stages-linked : (d : Parts) (ms leaves : List Parts) → IsStaged ms leaves → AreValid leaves → HaveDescriptor d leaves → AreDistinct (public_names leaves)
    → IsLinkedInStages ms leaves
stages-linked d _ _ (staging.unlinked ms) valid have distinct = unlinked ms
stages-linked d _ _ (staging.linked leaves before group after M name stages sound joined stay) valid have distinct =
    let list = before ++ (group ++ after) in
    let so_far : Stays d list leaves = stays_linked d list leaves stages valid have distinct in
    let own : AreDistinct (public_names list) = subst AreDistinct (sym so_far.names) distinct in
    linked leaves before group after M name (stages-linked d list leaves stages valid have distinct)
    (group-links d M before group after name joined so_far.descriptors own) sound joined

-- the list has the name of its first module already
same-name : (ms leaves : List Parts) → first_header ms ≡ first_header leaves → named_as ms leaves ≡ leaves
same-name [] leaves same = refl
same-name (m ∷ ms) [] same = refl
same-name (m ∷ ms) (l ∷ leaves) same =
    let both : m.name ≡ l.name = ap name_of same in
    λ i. named (both i) l ∷ leaves
  where
    name_of : Option Header → List ℕ
    name_of None = []
    name_of (Some h) = h.1

pub stages-are-links : StagesAreLinks
stages-are-links d ms leaves stages valid have distinct =
    let so_far : Stays d ms leaves = stays_linked d ms leaves stages valid have distinct in
    let same : named_as ms leaves ≡ leaves = same-name ms leaves so_far.first in (
      record {
        staged = stages-linked d ms leaves stages valid have distinct;
        valid = valid;
        renamed = subst AreValid (sym same) valid;
      },
      same,
    )
