-- A list that was linked in stages means what the list of its leaves means.
use Rattle.std.proofs.Common.{◌≡◌, ℕ, List, [], ◌∷◌, ◌++◌, refl, sym, ◌∙◌, subst}
use Rattle.mufom_names.specs.Names.{AreDistinct}
use Rattle.mufom_module.specs.declared.module.Parts.{Parts}
use Rattle.mufom_module.specs.Defects.{IsValid}
use Rattle.mufom_plan.specs.declared.plan.Plan.{Plan}
use Rattle.mufom_meaning.specs.Bases.{Bases}
use Rattle.mufom_meaning.specs.Flat.{public_names}
use Rattle.mufom_meaning.specs.Joined.{HasFirstHeader}
use Rattle.mufom_meaning.specs.Readings.{readings}
use Rattle.mufom_meaning.specs.Location.{first_header}
use Rattle.mufom_meaning.specs.Staging.{AreValid, HaveDescriptor, IsStaged, unlinked, linked}
use Rattle.mufom_meaning.specs.LinkAnswer.{link_answer}
use Rattle.mufom_meaning.specs.LocateAnswer.{after_placing, locate_answer}
use Rattle.mufom_meaning.specs.StagingLaws.{MeansTheSame, StagedMeansTheSame}
use Rattle.mufom_meaning.proofs.staging.Staging.{same_readings_there}
use Rattle.mufom_meaning.proofs.staging.Needs.{same_names}
use Rattle.mufom_meaning.proofs.staging.Selected.{selection_agrees}
use Rattle.mufom_meaning.proofs.facts.Agreed.{valid_middle}
use Rattle.mufom_meaning.proofs.facts.Linked.{facts_agree}
use Rattle.mufom_meaning.proofs.staging.Composed.{joined_composes}
use Rattle.mufom_meaning.proofs.staging.SameLocation.{location_there, same_first_header}

-- what stays true of a list as its groups are linked
pub record Stays (d : Parts) (ms leaves : List Parts) : Type 0 where
  pub valid : AreValid ms
  pub descriptors : HaveDescriptor d ms
  pub names : public_names ms ≡ public_names leaves
  pub first : first_header ms ≡ first_header leaves
  pub later : (plan : Plan) → after_placing ms plan ≡ after_placing leaves plan
  pub meaning : MeansTheSame ms leaves

valid_linked : (M : Parts) → IsValid M → (before ms after : List Parts) → AreValid (before ++ (ms ++ after)) → AreValid (before ++ (M ∷ after))
valid_linked M m [] ms after v = (m, valid_after ms after v) where
  valid_after : (ms after : List Parts) → AreValid (ms ++ after) → AreValid after
  valid_after [] after v = v
  valid_after (x ∷ xs) after v = valid_after xs after v.1
valid_linked M m (b ∷ before) ms after v = (v.0, valid_linked M m before ms after v.1)

-- the link of a group has the descriptor that its modules have
has_descriptor : (d M : Parts) (before ms after : List Parts) → HasFirstHeader M ms → HaveDescriptor d (before ++ (ms ++ after)) → (M.maus ≡ d.maus)
    × (M.order ≡ d.order)
has_descriptor d M [] [] after h k = absurd h
has_descriptor d M [] (m ∷ ms) after h k = (h.maus ∙ k.0.0, h.order ∙ k.0.1)
has_descriptor d M (b ∷ before) ms after h k = has_descriptor d M before ms after h k.1

descriptors_linked : (d M : Parts) → (M.maus ≡ d.maus) × (M.order ≡ d.order) → (before ms after : List Parts)
    → HaveDescriptor d (before ++ (ms ++ after)) → HaveDescriptor d (before ++ (M ∷ after))
descriptors_linked d M m [] ms after k = (m, descriptors_after ms after k) where
  descriptors_after : (ms after : List Parts) → HaveDescriptor d (ms ++ after) → HaveDescriptor d after
  descriptors_after [] after k = k
  descriptors_after (x ∷ xs) after k = descriptors_after xs after k.1
descriptors_linked d M m (b ∷ before) ms after k = (k.0, descriptors_linked d M m before ms after k.1)

-- modules that have the descriptor of one have that of another
of_another : (d e : Parts) → (e.maus ≡ d.maus) × (e.order ≡ d.order) → (ms : List Parts) → HaveDescriptor d ms → HaveDescriptor e ms
of_another d e h [] k = tt
of_another d e h (m ∷ ms) k = ((k.0.0 ∙ sym h.0, k.0.1 ∙ sym h.1), of_another d e h ms k.1)

means_itself : (leaves : List Parts) → MeansTheSame leaves leaves
means_itself leaves = record {
  same_readings = λ bases. refl;
  same_first = refl;
  same_joined = λ N name. (λ h. h, λ h. h);
  same_link_facts =
      λ fact. (λ h. h, λ h. h);
  same_locate_facts = λ plan fact. (λ h. h, λ h. h);
  same_link = refl;
  same_locate = λ plan. refl;
  same_location =
      λ plan r. (λ h. h, λ h. h);
  same_members = λ members chosen. (λ h. h, λ h. h);
}

pub stays_linked : (d : Parts) (ms leaves : List Parts) → IsStaged ms leaves → AreValid leaves → HaveDescriptor d leaves
    → AreDistinct (public_names leaves) → Stays d ms leaves
stays_linked d _ _ (unlinked leaves) v k n = record {
  valid = v;
  descriptors = k;
  names = refl;
  first = refl;
  later = λ plan. refl;
  meaning = means_itself leaves;
}
stays_linked d _ _ (linked leaves before group after M name stages m j stay) v k n =
    let so_far : Stays d (before ++ (group ++ after)) leaves = stays_linked d (before ++ (group ++ after)) leaves stages v k n in
    let own = has_descriptor d M before group after j.header so_far.descriptors in
    let distinct : AreDistinct (public_names (before ++ (group ++ after))) = subst AreDistinct (sym so_far.names) n in
    let facts = λ (plan : Plan). facts_agree M group before after name plan j so_far.valid
    (of_another d M own (before ++ (group ++ after)) so_far.descriptors) distinct in
    let selected = λ (members : List Parts) (chosen : List ℕ). selection_agrees M group before after name members chosen j in
    let composes = λ (N : Parts) (outer : List ℕ). joined_composes M N group before after name outer j so_far.valid
    (of_another d M own (before ++ (group ++ after)) so_far.descriptors) distinct in
    let first : first_header (before ++ (M ∷ after)) ≡ first_header leaves = same_first_header M group j.header before after stay ∙ so_far.first in
    let link : link_answer (before ++ (M ∷ after)) ≡ link_answer leaves = (facts (record { regions = []; symbols = []; keep = [] })).link_answers ∙ so_far.meaning.same_link in
    let locate : (plan : Plan) → locate_answer (before ++ (M ∷ after)) plan ≡ locate_answer leaves plan = λ plan. (facts plan).locate_answers
    ∙ so_far.meaning.same_locate plan in
    let read : (b : Bases) → readings (before ++ (M ∷ after)) b ≡ readings leaves b
    = λ b. same_readings_there M group name j (valid_middle before group after so_far.valid) before after distinct b ∙ so_far.meaning.same_readings b in
    record {
      valid = valid_linked M m before group after so_far.valid;
      descriptors = descriptors_linked d M own before group after so_far.descriptors;
      names = same_names M group name j before after ∙ so_far.names;
      first = first;
      later = λ plan. (facts plan).later_answers ∙ so_far.later plan;
      meaning = record {
        same_readings = read;
        same_first = first;
        same_joined = λ N outer.
            (λ h. (so_far.meaning.same_joined N outer).0 ((composes N outer).0 h), λ h. (composes N outer).1 ((so_far.meaning.same_joined N outer).1 h));
        same_link_facts = λ fact.
            let own = (facts (record { regions = []; symbols = []; keep = [] })).link_facts fact in
            (λ h. (so_far.meaning.same_link_facts fact).0 (own.0 h), λ h. own.1 ((so_far.meaning.same_link_facts fact).1 h));
        same_locate_facts = λ plan fact.
            let own = (facts plan).locate_facts fact in
            (λ h. (so_far.meaning.same_locate_facts plan fact).0 (own.0 h), λ h. own.1 ((so_far.meaning.same_locate_facts plan fact).1 h));
        same_link = link;
        same_locate = locate;
        same_location = λ plan r. (
          location_there (before ++ (M ∷ after)) leaves plan link (locate plan) read first r,
          location_there leaves (before ++ (M ∷ after)) plan (sym link) (sym (locate plan)) (λ b. sym (read b)) (sym first) r,
        );
        same_members = λ members chosen. (
          λ h. (so_far.meaning.same_members members chosen).0 ((selected members chosen).0 h),
          λ h. (selected members chosen).1 ((so_far.meaning.same_members members chosen).1 h),
        );
      };
    }

pub staged_means_the_same : StagedMeansTheSame
staged_means_the_same d ms leaves stages v k n = (stays_linked d ms leaves stages v k n).meaning
