-- A list that came by links is put out as the list that they began with.
use Rattle.std.proofs.Common.{◌≡◌, ◌≤◌, List, [], ◌∷◌, None, refl, sym, subst, ◌∙◌, arith}
use Rattle.mufom_host.specs.World.{HoldBytes, NamedFile}
use Rattle.mufom_words.specs.Tree.{tree_of}
use Rattle.mufom_module.specs.declared.module.Parts.{Parts}
use Rattle.mufom_module.specs.Defects.{IsValid}
use Rattle.mufom_plan.specs.declared.plan.Plan.{Plan}
use Rattle.mufom_meaning.specs.Joined.{IsJoined}
use Rattle.mufom_meaning.specs.LinkAnswer.{link_answer}
use Rattle.mufom_meaning.specs.StagingLaws.{total_weight}
use Rattle.mufom_meaning.proofs.facts.Linkable.{no_link_answer_is_linkable}
use Rattle.mufom_meaning.proofs.staging.JoinedValid.{joined_is_valid}
use Rattle.mufom_planned.specs.PlanLaws.{HasSoundSymbols}
use Rattle.mufom_stages.specs.Stages.{CameByLinks, IsLinkedInStages, linked, named_as, unlinked}
use Rattle.mufom_stages.proofs.Linked.{lists-link-as-their-leaves}
use Rattle.mufom_stages.proofs.OldStages.{stages-are-links}
use Rattle.mufom_groups.specs.Groups.{most_weight}
use Rattle.mufom_groups.specs.Linked.{first_name}
use Rattle.mufom_groups.proofs.ShortNames.{short-name}
use Rattle.mufom_works.proofs.LocatingLaws.{link-means}
use Rattle.mufom_task.specs.declared.task.Inputs.{Inputs}
use Rattle.mufom_task.specs.Inputs.{root_count}
use Rattle.mufom_task.specs.Sound.{IsSoundInputs}
use Rattle.mufom_works.specs.Works.{linked_file, locating_kept, product_with}
use Rattle.mufom_run_laws.specs.Leaves.{LinksMakeNoDifference, StagesCameByLinks}
use Rattle.mufom_run_laws.specs.RunLaws.{Accepts, PutOutAlike}
use Rattle.mufom_run_laws.proofs.Light.{all-light, flat-light}
use Rattle.mufom_run_laws.proofs.Links.{links-exist}
use Rattle.mufom_run_laws.proofs.SameWorks.{same-sym, same-trans, same-work}
use Rattle.mufom_run_laws.proofs.StageLaws.{put_out-alike}

-- ---- what is put out alike

alike-itself : (plan : Plan) (ms : List Parts) → PutOutAlike plan ms ms
alike-itself plan ms = record {
  linked = λ name out. same-work (linked_file name out ms);
  located = λ keep p names origins. same-work (locating_kept (product_with p names origins plan) keep plan ms);
}

-- two lists that are put out as a third
alike-both : (plan : Plan) (link ms others : List Parts) → PutOutAlike plan link ms → PutOutAlike plan link others → PutOutAlike plan ms others
alike-both plan link ms others first second = record {
  linked = λ name out.
      same-trans (linked_file name out ms) (linked_file name out link) (linked_file name out others)
      (same-sym (linked_file name out link) (linked_file name out ms) (first.linked name out)) (second.linked name out);
  located = λ keep p names origins.
      let output = product_with p names origins plan in
      same-trans (locating_kept output keep plan ms) (locating_kept output keep plan link) (locating_kept output keep plan others)
      (same-sym (locating_kept output keep plan link) (locating_kept output keep plan ms) (first.located keep p names origins))
      (second.located keep p names origins);
}

-- ---- the link of both lists

-- a link of the leaves under the name of the list has their first name
leaves-first : (M m : Parts) (ms leaves : List Parts) → IsJoined M (named_as (m ∷ ms) leaves) m.name
    → IsJoined M (named_as (m ∷ ms) leaves) (first_name (named_as (m ∷ ms) leaves))
leaves-first M m ms [] joined = absurd joined.header
leaves-first M m ms (leaf ∷ leaves) joined = joined

some-alike : (plan : Plan) (m : Parts) (ms leaves : List Parts) → HasSoundSymbols plan → total_weight (m ∷ ms) ≤ most_weight
    → link_answer (m ∷ ms) ≡ None → CameByLinks (m ∷ ms) leaves → PutOutAlike plan (m ∷ ms) (named_as (m ∷ ms) leaves)
some-alike plan m ms leaves symbols light none came =
    let list : List Parts = m ∷ ms in
    let others = named_as list leaves in
    let same = lists-link-as-their-leaves list leaves came in
    let none_there : link_answer others ≡ None = sym same.facts.answer ∙ none in
    let (valid, links) = same.links none_there in
    let (M, joined) = links-exist list m.name (λ is. absurd cc) none in
    let short = short-name m valid.0 in
    let sound : IsValid M = (joined_is_valid M list m.name joined valid).valid short (omega (arith, short, light)) in
    let own = link-means M list sound valid joined ((no_link_answer_is_linkable list).0 none) in
    let there = link-means M others sound came.renamed (leaves-first M m ms leaves ((links M m.name).0 joined))
    ((no_link_answer_is_linkable others).0 none_there) in
    alike-both plan (M ∷ []) list others (put_out-alike plan symbols (M ∷ []) list own) (put_out-alike plan symbols (M ∷ []) others there)

-- an empty list was not linked
no-leaves : (ms leaves : List Parts) → IsLinkedInStages ms leaves → ms ≡ [] → ms ≡ leaves
no-leaves _ _ (unlinked ms) none = refl
no-leaves _ _ (linked leaves [] group after M name stages own sound joined) none = absurd cc
no-leaves _ _ (linked leaves (m ∷ before) group after M name stages own sound joined) none = absurd cc

pub links-alike : LinksMakeNoDifference
links-alike plan [] leaves symbols light none came =
    subst (λ (l : List Parts). PutOutAlike plan [] l) (no-leaves [] leaves came.staged refl) (alike-itself plan [])
links-alike plan (m ∷ ms) leaves symbols light none came = some-alike plan m ms leaves symbols light none came

-- ---- lists that came by stages

pub stages-came-by-links : StagesCameByLinks
stages-came-by-links ms leaves came = stages-are-links came.descriptor.0 ms leaves came.staged came.valid came.descriptor.1 came.names

-- ---- the flat list of a run

-- the flat list of accepted inputs is no heavier than the modules of a run can be
pub accepted-light : (files : List NamedFile) (inputs : Inputs) (plan : Plan) (flat : List Parts) → HoldBytes files → IsSoundInputs inputs
    → Accepts files inputs plan flat → total_weight flat ≤ most_weight
accepted-light files inputs plan flat bytes sound accepts =
    let all = all-light inputs.options (root_count inputs) files inputs.files accepts.modules bytes accepts.read.0 in
    let own = flat-light (tree_of inputs.marks) accepts.modules flat accepts.is_flat sound.tree.numbered in
    omega (arith, all, own)
