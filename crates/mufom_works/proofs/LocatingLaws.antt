-- The location of the module into which a list is linked is that of the list.
use Rattle.std.proofs.Common.{◌≡◌, ◌⊎◌, ℕ, List, [], ◌∷◌, length, Option, Some, None, refl, sym, ap, subst, ◌∙◌, inl, inr}
use Rattle.std.proofs.lemmas.List.{append-nil}
use Rattle.mufom_names.specs.Names.{AreDistinct, names_of}
use Rattle.mufom_module.specs.declared.module.Parts.{Parts}
use Rattle.mufom_module.specs.Defects.{IsValid}
use Rattle.mufom_plan.specs.declared.plan.Plan.{Plan}
use Rattle.mufom_meaning.specs.declared.located.LocatedParts.{LocatedParts}
use Rattle.mufom_meaning.specs.FactLaws.{IsLinkable}
use Rattle.mufom_meaning.specs.Joined.{IsJoined}
use Rattle.mufom_meaning.specs.Flat.{public_names}
use Rattle.mufom_meaning.specs.Location.{Header, first_header}
use Rattle.mufom_meaning.specs.Selection.{members_at}
use Rattle.mufom_meaning.specs.Staging.{AreValid, HaveDescriptor, IsStaged, linked as linked_stage, unlinked}
use Rattle.mufom_meaning.specs.StagingLaws.{MeansTheSame}
use Rattle.mufom_works.specs.Same.{AreSame}
use Rattle.mufom_meaning.proofs.facts.AllAnswers.{answers_are_facts}
use Rattle.mufom_meaning.proofs.facts.Linkable.{no_link_answer_is_linkable}
use Rattle.mufom_meaning.proofs.facts.LinkFacts.{link_facts_grow}
use Rattle.mufom_meaning.proofs.staging.Staging.{joined_stands_for}
use Rattle.mufom_meaning.proofs.staging.Stages.{staged_means_the_same}
use Rattle.mufom_planned.specs.Planned.{IsPlanned, PlanFact, planned_answer}
use Rattle.mufom_planned.specs.PlanLaws.{HasSoundSymbols}
use Rattle.mufom_planned.proofs.Alike.{staged_plans_mean_the_same}
use Rattle.mufom_words.specs.Tree.{Forest, leaves}
use Rattle.mufom_groups.specs.Linked.{first_name, linked, linked_module, members, roots}
use Rattle.mufom_groups.specs.Work.{Reached, gives, stops, with_stops}
use Rattle.mufom_groups.proofs.GroupsAlike.{linked-flat}
use Rattle.mufom_groups.proofs.LinkWalk.{valid-append, valid-drop, valid-members}
use Rattle.mufom_outcome.specs.Stop.{Stop, link_fact}
use Rattle.mufom_works.specs.Roots.{Roots}
use Rattle.mufom_works.specs.Works.{Kept, all_of, kept_of, located, located_unless, maus_of, stop_of}
use Rattle.mufom_works.specs.WorkEnds.{location_of, own_kept}
use Rattle.mufom_works.proofs.KeptLaws.{rest-kept}

-- ---- two lists with the same location

module _ (ms leaves : List Parts) (plan : Plan) (maus : maus_of ms ≡ maus_of leaves) (locations : (r : LocatedParts) → IsPlanned ms plan r
    → IsPlanned leaves plan r) where
  unless-along : (o : Option PlanFact) (x : Reached Stop LocatedParts) → located_unless o plan ms x → located_unless o plan leaves x
  unless-along None (gives r) is = locations r is
  unless-along None (stops s) is = absurd is
  unless-along (Some f) (gives r) is = absurd is
  unless-along (Some f) (stops s) is = is ∙ ap (λ n. stop_of n f) maus

  -- come to the same
  pub located-along : planned_answer ms plan ≡ planned_answer leaves plan → (x : Reached Stop LocatedParts) → located plan ms x → located plan leaves x
  located-along answers x is = subst (λ (o : Option PlanFact). located_unless o plan leaves x) answers (unless-along (planned_answer ms plan) x is)

-- how many bytes an address has, by the header of the first module
abbrev maus_by : Option Header → ℕ
maus_by None = 0
maus_by (Some h) = h.2

maus_of-header : (ms : List Parts) → maus_of ms ≡ maus_by (first_header ms)
maus_of-header [] = refl
maus_of-header (m ∷ ms) = refl

pub maus-same : (ms leaves : List Parts) → MeansTheSame ms leaves → maus_of ms ≡ maus_of leaves
maus-same ms leaves same = maus_of-header ms ∙ ap maus_by same.same_first ∙ sym (maus_of-header leaves)

pub located-forth : (ms leaves : List Parts) (plan : Plan) → HasSoundSymbols plan → AreSame ms leaves → (x : Reached Stop LocatedParts)
    → located plan ms x → located plan leaves x
located-forth ms leaves plan symbols same x is =
    let alike = same.alike plan symbols in
    located-along ms leaves plan (maus-same ms leaves same.means) (λ r. (alike.locations r).0) alike.answers x is

pub located-back : (ms leaves : List Parts) (plan : Plan) → HasSoundSymbols plan → AreSame ms leaves → (x : Reached Stop LocatedParts)
    → located plan leaves x → located plan ms x
located-back ms leaves plan symbols same x is =
    let alike = same.alike plan symbols in
    located-along leaves ms plan (sym (maus-same ms leaves same.means)) (λ r. (alike.locations r).1) (sym alike.answers) x is

-- ---- what is kept of a list and of its link

-- They are the same, or all of both is kept, and the lists mean the same.
abbrev pub AreAlike : Kept → Kept → Type 0
AreAlike own kept = (own ≡ kept) ⊎ ((own.rest ≡ None) × (kept.rest ≡ None) × AreSame own.modules kept.modules)

-- what is kept of the list, which is alike
pub record IsKeptAlike (keep : Option Roots) (flat : List Parts) (own : Kept) : Type 0 where
  pub kept : Kept
  pub keeps : kept_of keep flat (gives kept)
  pub alike : AreAlike own kept

pub alike-located : (plan : Plan) → HasSoundSymbols plan → (own kept : Kept) → AreAlike own kept → (x : Reached Stop LocatedParts)
    → located plan own.modules x → located plan kept.modules x
alike-located plan symbols own kept (inl same) x there = subst (λ (k : Kept). located plan k.modules x) same there
alike-located plan symbols own kept (inr (none, no_rest, means)) x there = located-forth own.modules kept.modules plan symbols means x there

-- ---- the link of a list

-- lists of stages mean the same, and are located alike
pub staged-same : (d : Parts) (ms leaves : List Parts) → IsStaged ms leaves → AreValid leaves → HaveDescriptor d leaves → AreDistinct (public_names leaves)
    → AreSame ms leaves
staged-same d ms leaves staged valid descriptor names = record {
  means = staged_means_the_same d ms leaves staged valid descriptor names;
  alike = λ plan symbols. staged_plans_mean_the_same d ms leaves plan staged valid descriptor names symbols;
}

-- The link of a list under the name of its first module means what the list means.
pub link-means : (M : Parts) (flat : List Parts) → IsValid M → AreValid flat → IsJoined M flat (first_name flat) → IsLinkable flat → AreSame (M ∷ []) flat
link-means M [] sound valid joined is = absurd joined.header
link-means M (m ∷ ms) sound valid joined is = staged-same m (M ∷ []) (m ∷ ms) staged valid is.descriptor is.names where
  staged : IsStaged (M ∷ []) (m ∷ ms)
  staged = linked_stage (m ∷ ms) [] (m ∷ ms) [] M m.name (subst (λ (l : List Parts). IsStaged l (m ∷ ms)) (sym (append-nil (m ∷ ms)))
      (unlinked (m ∷ ms))) sound joined joined.named

-- ---- the modules of a tree

module _ (tree : Forest) (ms : List Parts) (valid : AreValid ms) where
  -- the flat list is of modules without a defect
  pub flat-valid : (flat : List Parts) → linked tree ms (gives flat) → AreValid flat
  flat-valid flat is =
      let is_flat = ((linked-flat answers_are_facts link_facts_grow tree ms flat).0 is).0 in
      subst AreValid (sym is_flat.2) (
      valid-append (roots tree ms) (members_at (members tree ms) is_flat.0) (valid-members ms (leaves tree) valid)
      (valid-members (members tree ms) is_flat.0 (valid-drop (length (leaves tree)) ms valid)))

  pub flat-linkable : (flat : List Parts) → linked tree ms (gives flat) → IsLinkable flat
  flat-linkable flat is = (no_link_answer_is_linkable flat).0 ((linked-flat answers_are_facts link_facts_grow tree ms flat).0 is).1

  -- no public name stands twice in the module into which they are linked
  pub link-names : (M : Parts) → linked_module tree None ms (gives M) → AreDistinct (names_of M.names.publics)
  link-names M (flat, is, joined) =
      let stands = joined_stands_for M flat (first_name flat) joined (flat-valid flat is) in
      subst AreDistinct (append-nil (names_of M.names.publics)) (subst AreDistinct (sym stands.2) (flat-linkable flat is).names)

  module _ (M : Parts) (sound : IsValid M) (plan : Plan) where
    -- what is kept of it is kept of the flat list, or means the same
    pub own-is : (keep : Option Roots) (flat : List Parts) → linked tree ms (gives flat) → IsJoined M flat (first_name flat) → (own : Kept)
        → own_kept keep M (gives own) → IsKeptAlike keep flat own
    own-is None flat is joined own keeps =
        let means = link-means M flat sound (flat-valid flat is) joined (flat-linkable flat is) in
        record {
          kept = all_of flat;
          keeps = refl;
          alike = inr (
            ap (λ (k : Kept). k.rest) keeps,
            refl,
            subst (λ (k : Kept). AreSame k.modules flat) (sym keeps) means,
          );
        }
    own-is (Some roots) flat is joined own keeps =
        record { kept = own; keeps = rest-kept roots M flat sound joined (flat-valid flat is) (gives own) keeps; alike = inl refl }

    pub own-ends : (keep : Option Roots) (flat : List Parts) → linked tree ms (gives flat) → IsJoined M flat (first_name flat) → (s : Stop)
        → own_kept keep M (stops s) → kept_of keep flat (stops s)
    own-ends None flat is joined s never = absurd never
    own-ends (Some roots) flat is joined s ends = rest-kept roots M flat sound joined (flat-valid flat is) (stops s) ends

    -- a name that no public has ends the location of the flat list
    pub link-unkept : (keep : Option Roots) → linked_module tree None ms (gives M) → (s : Stop) → own_kept keep M (stops s)
        → location_of tree keep plan ms (stops s)
    link-unkept keep (flat, is, joined) s ends = inr (flat, is, inl (own-ends keep flat is joined s ends))

    -- and so does the fact that ends the location of what is kept of the link
    pub link-unlocated : HasSoundSymbols plan → (keep : Option Roots) → linked_module tree None ms (gives M) → (own : Kept) → own_kept keep M (gives own) → (s : Stop)
        → located plan own.modules (stops s) → location_of tree keep plan ms (stops s)
    link-unlocated symbols keep (flat, is, joined) own keeps s ends =
        let alike = own-is keep flat is joined own keeps in
        inr (flat, is, inr (alike.kept, alike.keeps, alike-located plan symbols own alike.kept alike.alike (stops s) ends))

  -- or it is not linked
  pub unlinked-stops : (keep : Option Roots) (plan : Plan) (s : Stop) → with_stops link_fact (linked_module tree None ms) (stops s)
      → location_of tree keep plan ms (stops s)
  unlinked-stops keep plan s (f, inl ends, same) = inl (f, ends, same)
  unlinked-stops keep plan s (f, inr (flat, is, never), same) = absurd never
