-- Links in stages keep the link facts of a list, and its links if it can be linked.
use Rattle.std.proofs.Common.{◌≡◌, ℕ, List, [], ◌∷◌, ◌++◌, refl, sym, ◌∙◌}
use Rattle.mufom_module.specs.declared.module.Parts.{Parts}
use Rattle.mufom_module.specs.Defects.{IsValid}
use Rattle.mufom_meaning.specs.FactLaws.{IsLinkable}
use Rattle.mufom_meaning.specs.Joined.{HasFirstHeader}
use Rattle.mufom_meaning.specs.Staging.{AreValid, HaveDescriptor, HaveDescriptorOf}
use Rattle.mufom_meaning.proofs.facts.LinkAgreed.{link_answers_agree}
use Rattle.mufom_meaning.proofs.facts.LinkFactsLinked.{link_facts_agree}
use Rattle.mufom_meaning.proofs.facts.Linkable.{no_link_answer_is_linkable}
use Rattle.mufom_meaning.proofs.staging.Composed.{joined_composes}
use Rattle.mufom_meaning.proofs.staging.Needs.{same_names}
use Rattle.mufom_stages.specs.Stages.{linked, unlinked}
use Rattle.mufom_stages.specs.StageLaws.{StagesKeepLinkFacts, StagesKeepLinks}

-- ---- link facts

pub stages-keep-link-facts : StagesKeepLinkFacts
stages-keep-link-facts _ _ (unlinked ms) = record { names = refl; answer = refl; facts = λ fact. (λ h. h, λ h. h) }
stages-keep-link-facts _ _ (linked leaves before group after M name stages none sound joined) =
    let so_far = stages-keep-link-facts (before ++ (group ++ after)) leaves stages in
    let own = ((no_link_answer_is_linkable group).0 none).descriptor in
    record {
      names = same_names M group name joined before after ∙ so_far.names;
      answer = link_answers_agree M group before after name joined own ∙ so_far.answer;
      facts = λ fact.
          let here = link_facts_agree M group before after name fact joined own in
          let earlier = so_far.facts fact in
          (λ h. earlier.0 (here.0 h), λ h. here.1 (earlier.1 h));
    }

-- ---- modules without a defect

valid-behind : (ms after : List Parts) → AreValid (ms ++ after) → AreValid after
valid-behind [] after valid = valid
valid-behind (m ∷ ms) after valid = valid-behind ms after valid.1

valid-with : (M : Parts) → IsValid M → (before group after : List Parts) → AreValid (before ++ (group ++ after)) → AreValid (before ++ (M ∷ after))
valid-with M sound [] group after valid = (sound, valid-behind group after valid)
valid-with M sound (m ∷ before) group after valid = (valid.0, valid-with M sound before group after valid.1)

-- ---- the descriptor of a link

-- a module with the descriptor of the list
any-descriptor : (M : Parts) (list : List Parts) → HaveDescriptorOf list list → (d : Parts) × HaveDescriptor d list
any-descriptor M [] have = (M, tt)
any-descriptor M (m ∷ list) have = (m, have)

group-descriptor : (d M : Parts) (before group after : List Parts) → HasFirstHeader M group → HaveDescriptor d (before ++ (group ++ after))
    → (M.maus ≡ d.maus) × (M.order ≡ d.order)
group-descriptor d M [] [] after header have = absurd header
group-descriptor d M [] (m ∷ group) after header have = (header.maus ∙ have.0.0, header.order ∙ have.0.1)
group-descriptor d M (m ∷ before) group after header have = group-descriptor d M before group after header have.1

of-equal : (d M : Parts) → (M.maus ≡ d.maus) × (M.order ≡ d.order) → (list : List Parts) → HaveDescriptor d list → HaveDescriptor M list
of-equal d M same [] have = tt
of-equal d M same (m ∷ list) have = ((have.0.0 ∙ sym same.0, have.0.1 ∙ sym same.1), of-equal d M same list have.1)

-- the link of a group has the descriptor of a list that can be linked
link-descriptor : (M : Parts) (before group after : List Parts) → HasFirstHeader M group → IsLinkable (before ++ (group ++ after))
    → HaveDescriptor M (before ++ (group ++ after))
link-descriptor M before group after header linkable =
    let (d, have) = any-descriptor M (before ++ (group ++ after)) linkable.descriptor in
    of-equal d M (group-descriptor d M before group after header have) (before ++ (group ++ after)) have

-- ---- links

pub stages-keep-links : StagesKeepLinks
stages-keep-links _ _ (unlinked ms) valid none = (valid, λ N outer. (λ h. h, λ h. h))
stages-keep-links _ _ (linked leaves before group after M name stages own sound joined) valid none =
    let list = before ++ (group ++ after) in
    let (so_valid, so_far) = stages-keep-links list leaves stages valid none in
    let linkable = (no_link_answer_is_linkable list).0 ((stages-keep-link-facts list leaves stages).answer ∙ none) in
    let descriptor = link-descriptor M before group after joined.header linkable in
    let composes = λ (N : Parts) (outer : List ℕ). joined_composes M N group before after name outer joined so_valid descriptor linkable.names in (
      valid-with M sound before group after so_valid,
      λ N outer. (
        λ h. (so_far N outer).0 ((composes N outer).0 h),
        λ h. (composes N outer).1 ((so_far N outer).1 h),
      ),
    )
