-- What is kept of a list means what the list means of it.
use Rattle.std.proofs.Common.{◌≡◌, List, [], ◌∷◌, ◌++◌, ℕ, length, Option, Some, None, refl, sym, ap, subst, ◌∙◌}
use Rattle.std.proofs.lemmas.List.{append-nil}
use Rattle.mufom_names.specs.Names.{AreDistinct}
use Rattle.mufom_module.specs.declared.module.Parts.{Parts}
use Rattle.mufom_meaning.specs.Bases.{Bases}
use Rattle.mufom_meaning.specs.Flat.{flat_sections, public_names}
use Rattle.mufom_meaning.specs.Joined.{IsJoined}
use Rattle.mufom_meaning.specs.LinkAnswer.{link_answer}
use Rattle.mufom_meaning.specs.Readings.{Readings, readings}
use Rattle.mufom_meaning.specs.Staging.{AreValid, HaveDescriptorOf, IsContext}
use Rattle.mufom_meaning.proofs.facts.Linkable.{no_link_answer_is_linkable}
use Rattle.mufom_meaning.proofs.staging.Staging.{joined_stands_for}
use Rattle.mufom_groups.specs.Linked.{first_name}
use Rattle.mufom_groups.specs.Work.{gives}
use Rattle.mufom_prune.specs.Meaning.{MeansTheRest, left_readings}
use Rattle.mufom_prune.specs.Pruned.{IsPrunedFor, Remains, remaining, remains, without_others}
use Rattle.mufom_prune.proofs.Meaning.{pruned_means_the_rest}
use Rattle.mufom_works.specs.Roots.{Roots, first_unknown}
use Rattle.mufom_works.specs.Works.{Kept, kept_of, kept_unless}
use Rattle.mufom_headline.specs.Kept.{KeepsMeaning, MeansTheRestOf}

-- every list has its own descriptor
own-descriptor : (list : List Parts) → HaveDescriptorOf list []
own-descriptor [] = tt
own-descriptor (m ∷ ms) = tt

-- the link of a list that can be linked has the readings of the list
link-readings : (M : Parts) (list : List Parts) → AreValid list → link_answer list ≡ None → IsJoined M list (first_name list) → (bases : Bases)
    → length bases.sections ≡ length (flat_sections list) → readings (M ∷ []) bases ≡ readings list bases
link-readings M list valid links joined bases placed =
    (joined_stands_for M list (first_name list) joined valid).0 [] [] bases context ∙ ap (λ (ms : List Parts). readings ms bases) (append-nil list) where
      names : AreDistinct (public_names (list ++ []))
      names = subst (λ (ms : List Parts). AreDistinct (public_names ms)) (sym (append-nil list)) ((no_link_answer_is_linkable list).0 links).names

      all-placed : length bases.sections ≡ length (flat_sections (list ++ []))
      all-placed = placed ∙ ap (λ (ms : List Parts). length (flat_sections ms)) (sym (append-nil list))

      context : IsContext [] list [] bases
      context = record { before_valid = tt; after_valid = tt; descriptor = own-descriptor list; names = names; placed = all-placed }

module _ (roots : Roots) (list : List Parts) (valid : AreValid list) (links : link_answer list ≡ None) where
  rest-means : (M : Parts) (c : Remains) (rest : Parts) (bases : Bases) → MeansTheRest rest M c bases → readings (M ∷ []) bases ≡ readings list bases
      → MeansTheRestOf rest list c bases
  rest-means M c rest bases of same = record {
    sections = of.sections ∙ ap (λ (r : Readings). remaining c.sections r.sections) same;
    publics = of.publics ∙ ap (λ (r : Readings). remaining c.publics r.publics) same;
    steps = of.steps ∙ ap (λ (r : Readings). left_readings c.sections r.steps) same;
    starts = of.starts ∙ ap (λ (r : Readings). r.starts) same;
  }

  kept-rest-means : (o : Option (List ℕ)) (kept : Kept) → kept_unless o roots list (gives kept) → KeepsMeaning kept.rest kept.modules list
  kept-rest-means (Some name) kept is = absurd is
  kept-rest-means None kept (M, (sound, joined), (marks, is_kept, same)) =
      let c : Remains = remains M marks in
      let rest : Parts = without_others M c in
      let pruned : IsPrunedFor rest M roots.names roots.stays = record { marks = marks; kept = is_kept; is = refl } in
      subst (λ (k : Kept). KeepsMeaning k.rest k.modules list) (sym same) (
        rest,
        refl,
        (λ bases placed. rest-means M c rest bases (pruned_means_the_rest rest M roots.names roots.stays sound pruned bases)
            (link-readings M list valid links joined bases placed)),
      )

pub kept-means : (keep : Option Roots) (list : List Parts) → AreValid list → link_answer list ≡ None → (kept : Kept) → kept_of keep list (gives kept)
    → KeepsMeaning kept.rest kept.modules list
kept-means None list valid links kept is = subst (λ (k : Kept). KeepsMeaning k.rest k.modules list) (sym is) refl
kept-means (Some roots) list valid links kept is = kept-rest-means roots list valid links (first_unknown list roots.names) kept is
