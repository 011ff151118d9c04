-- The results are about the facts.
use Rattle.std.proofs.Common.{◌≡◌, ℕ, zero, suc, ◌<◌, ◌⊎◌, inl, inr, List, [], ◌∷◌, map, length, Option, Some, None, Bool, true, false, not, refl}
use Rattle.std.proofs.Common.{sym, ◌∙◌, ap, subst, arith}
use Rattle.std.specs.Prelude.{slice_get, option_map, nat_lt, if◌then◌else◌, IsTrue}
use Rattle.std.specs.Str.{bytes_eq}
use Rattle.std.proofs.lemmas.Slice.Eq.{bytes_eq-Decides}
use Rattle.mufom_numbers.specs.declared.limits.TheConstants.{MOST_IMAGE_BYTES}
use Rattle.mufom_module.specs.declared.module.Parts.{Parts}
use Rattle.mufom_plan.specs.declared.plan.Plan.{Plan}
use Rattle.mufom_plan.specs.Names.{has_name}
use Rattle.mufom_plan.specs.Commons.{has_common}
use Rattle.mufom_place.specs.declared.refusal.PlaceRefusal.{PlaceRefusal}
use Rattle.mufom_place.specs.Facts.{◌or_else◌, first_some, place_refusal}
use Rattle.mufom_meaning.specs.Bases.{no_bases}
use Rattle.mufom_meaning.specs.Flat.{width, SitedPublic, flat_sections, flat_publics, public_names, first_named, needs, commons, common_names}
use Rattle.mufom_meaning.specs.Values.{Setting, setting}
use Rattle.mufom_meaning.specs.Placed.{placed_commons, planned_bases}
use Rattle.mufom_meaning.specs.Facts.{LinkFact, LocateFact, placement, undefined, common_unplaced, cycle, image_limit, zero_divisor, load_outside}
use Rattle.mufom_meaning.specs.Facts.{loaded_twice, overflow}
use Rattle.mufom_meaning.specs.Stands.{LinkFactStands, StandsIn, StandsBeforeWalk, StandsInWalk, LocateFactStands}
use Rattle.mufom_meaning.specs.Cycles.{leads_from, is_on_cycle}
use Rattle.mufom_meaning.specs.LocateAnswer.{first_undefined, first_unplaced_common, cycle_at, image_limit_at, locate_answer}
use Rattle.mufom_meaning.specs.Counts.{loaded_total}
use Rattle.mufom_meaning.specs.Walk.{walk_answer}
use Rattle.mufom_meaning.specs.FactLaws.{AnswersAreFacts}
use Rattle.mufom_meaning.proofs.Names.{names_of, names_of-sited_publics}
use Rattle.mufom_meaning.proofs.facts.Chains.{cycles_are_short}
use Rattle.mufom_meaning.proofs.facts.Answers.{or_else_some, or_else_none, first_some_at, first_some_none, find_at, find_none, untrue, not_false}
use Rattle.mufom_meaning.proofs.facts.Answers.{link_sound, link_complete}
use Rattle.mufom_place.proofs.FactLemmas.{refusal_sound, refusal_complete}
use Rattle.mufom_numbers.proofs.Choices.{mapped_none, of_lt, is_lt}
use Rattle.mufom_meaning.proofs.Tests.{chosen_some, chosen_none}
use Rattle.mufom_meaning.proofs.facts.WalkAnswers.{walk_sound, walk_complete}

named_get : (qs : List SitedPublic) (i : ℕ) (q : SitedPublic) → slice_get qs i ≡ Some q → slice_get (names_of qs) i ≡ Some q.entry.name
named_get [] i q e = absurd cc
named_get (p ∷ qs) zero q e = let same : p ≡ q = cc in ap (λ (x : SitedPublic). Some x.entry.name) same
named_get (p ∷ qs) (suc i) q e = named_get qs i q e

module _ (ms : List Parts) (plan : Plan) where
  abbrev s : Setting
  s = setting ms (planned_bases ms plan)

  abbrev refusal : Option PlaceRefusal
  refusal = place_refusal (width ms) plan (flat_sections ms) (placed_commons ms plan)

  abbrev no_refusal : Type 0
  no_refusal = refusal ≡ None

  -- what holds if all that comes before the walk returns nothing
  pub before_complete : no_refusal → option_map undefined (first_undefined ms) ≡ None → option_map common_unplaced (first_unplaced_common ms plan) ≡ None
      → first_some (cycle_at ms) (public_names ms) ≡ None → image_limit_at (loaded_total ms) ≡ None → (fact : LocateFact) → ¬ StandsBeforeWalk ms plan s fact
  before_complete a d e f g (placement fact) h = refusal_complete (width ms) plan (flat_sections ms) (placed_commons ms plan) fact a h
  before_complete a d e f g (undefined name) h =
      let none = mapped_none undefined (first_undefined ms) d in
      let known = not_false (has_name (common_names ms) name) (find_none (λ name. not (has_name (common_names ms) name)) (needs ms) none name h.0.0 h.0.1) in
      let unknown : has_name (common_names ms) name ≡ false = h.1 in cc
  before_complete a d e f g (common_unplaced name) h =
      empty (commons ms) (ap (λ b. option_map common_unplaced (if b then None else slice_get (common_names ms) 0)) (sym h.0) ∙ e) h.1.1.0 h.1.1.1 where
        empty : (cs : List (List ℕ × ℕ)) → option_map common_unplaced (slice_get (map (λ c. c.0) cs) 0) ≡ None → (i : ℕ) → slice_get cs i
            ≡ Some (name, h.1.0) → ⊥
        empty [] d i h = cc
        empty (c ∷ cs) d i h = cc
  before_complete a d e f g (cycle name) h = by_first (first_named (flat_publics ms) name) refl ((cycles_are_short ms name).0 h) where
    by_first : (o : Option SitedPublic) → first_named (flat_publics ms) name ≡ o → IsTrue (is_on_cycle ms name) → ⊥
    by_first None same on =
        let so : leads_from (setting ms no_bases) (length (flat_publics ms)) name (first_named (flat_publics ms) name) ≡ true = on in
        let none : leads_from (setting ms no_bases) (length (flat_publics ms)) name (first_named (flat_publics ms) name) ≡ false =
        ap (leads_from (setting ms no_bases) (length (flat_publics ms)) name) same in cc
    by_first (Some q) same on =
        let found = find_at (λ p. bytes_eq p.entry.name name) (flat_publics ms) q same in
        let named : q.entry.name ≡ name = (bytes_eq-Decides q.entry.name name).0 found.1 in
        let at : slice_get (public_names ms) found.0.0 ≡ Some name
        = ap (λ ns. slice_get ns found.0.0) (sym (names_of-sited_publics 0 0 0 ms)) ∙ named_get (flat_publics ms) found.0.0 q found.0.1 ∙ ap Some named in
        let none = first_some_none (cycle_at ms) (public_names ms) f name found.0.0 at in
        let not_so = chosen_none (is_on_cycle ms name) (cycle name) none in let so : is_on_cycle ms name ≡ true = on in cc
  before_complete a d e f g (image_limit count) h =
      let not_so = chosen_none (nat_lt MOST_IMAGE_BYTES (loaded_total ms)) (image_limit (loaded_total ms)) g in
      let less : MOST_IMAGE_BYTES < loaded_total ms = omega (arith, h.0, h.1) in let so = is_lt MOST_IMAGE_BYTES (loaded_total ms) less in cc
  before_complete a d e f g (zero_divisor place) h = h
  before_complete a d e f g (load_outside section address) h = h
  before_complete a d e f g (loaded_twice address) h = h
  before_complete a d e f g (overflow section at kind size v) h = h

  -- a fact holds if no link fact does
  abbrev Stands : LocateFact → Type 0
  Stands fact = ((other : LinkFact) → ¬ LinkFactStands ms other) → LocateFactStands ms plan fact

  in_walk : no_refusal → option_map undefined (first_undefined ms) ≡ None → option_map common_unplaced (first_unplaced_common ms plan) ≡ None
      → first_some (cycle_at ms) (public_names ms) ≡ None → image_limit_at (loaded_total ms) ≡ None → (fact : LocateFact) → walk_answer ms s
      ≡ Some fact → Stands fact
  in_walk a d e f g fact h = λ links. inr (links, before_complete a d e f g, walk_sound ms s fact h)

  named_sound : (make : List ℕ → LocateFact) (o : Option (List ℕ)) (fact : LocateFact) → option_map make o ≡ Some fact → (name : List ℕ)
      × (o ≡ Some name) × (make name ≡ fact)
  named_sound make None fact e = absurd cc
  named_sound make (Some name) fact e = (name, refl, cc)

  common_at : (cs : List (List ℕ × ℕ)) (name : List ℕ) → slice_get (map (λ c. c.0) cs) 0 ≡ Some name → (size : ℕ) × StandsIn (name, size) cs
  common_at [] name e = absurd cc
  common_at (c ∷ cs) name e = let same : c.0 ≡ name = cc in (c.1, (0, λ i. Some (same i, c.1)))

  cycle_sound : (fact : LocateFact) → first_some (cycle_at ms) (public_names ms) ≡ Some fact → Stands fact
  cycle_sound fact e =
      let found = first_some_at (cycle_at ms) (public_names ms) fact e in
      let test = chosen_some (is_on_cycle ms found.0) (cycle found.0) fact found.2 in
      subst Stands test.1 (λ links. inl (length (flat_publics ms), test.0))

  limit_sound : (fact : LocateFact) → image_limit_at (loaded_total ms) ≡ Some fact → Stands fact
  limit_sound fact e =
      let test = chosen_some (nat_lt MOST_IMAGE_BYTES (loaded_total ms)) (image_limit (loaded_total ms)) fact e in
      subst Stands test.1 (λ links. inl (refl, of_lt MOST_IMAGE_BYTES (loaded_total ms) test.0))

  undefined_sound : (fact : LocateFact) → option_map undefined (first_undefined ms) ≡ Some fact → Stands fact
  undefined_sound fact e =
      let found = named_sound undefined (first_undefined ms) fact e in
      let there = find_at (λ name. not (has_name (common_names ms) name)) (needs ms) found.0 found.1 in
      subst Stands found.2 (λ links. inl (there.0, untrue (has_name (common_names ms) found.0) there.1))

  common_sound : (fact : LocateFact) → option_map common_unplaced (first_unplaced_common ms plan) ≡ Some fact → Stands fact
  common_sound fact e =
      let found = named_sound common_unplaced (first_unplaced_common ms plan) fact e in
      subst Stands found.2 (λ links. inl (from (has_common plan.regions) refl found.0 found.1)) where
        from : (b : Bool) → has_common plan.regions ≡ b → (name : List ℕ) → (if b then None else slice_get (common_names ms) 0) ≡ Some name
            → StandsBeforeWalk ms plan s (common_unplaced name)
        from true e name h = absurd cc
        from false e name h = (e, common_at (commons ms) name h)

  seventh : no_refusal → option_map undefined (first_undefined ms) ≡ None → option_map common_unplaced (first_unplaced_common ms plan) ≡ None
      → first_some (cycle_at ms) (public_names ms) ≡ None → (fact : LocateFact) → image_limit_at (loaded_total ms) or_else walk_answer ms s
      ≡ Some fact → Stands fact
  seventh a d e f fact h = by_case (or_else_some (image_limit_at (loaded_total ms)) (walk_answer ms s) fact h) where
    by_case : (image_limit_at (loaded_total ms) ≡ Some fact) ⊎ ((image_limit_at (loaded_total ms) ≡ None) × (walk_answer ms s ≡ Some fact)) → Stands fact
    by_case (inl h) = limit_sound fact h
    by_case (inr h) = in_walk a d e f h.0 fact h.1

  sixth : no_refusal → option_map undefined (first_undefined ms) ≡ None → option_map common_unplaced (first_unplaced_common ms plan) ≡ None
      → (fact : LocateFact) → first_some (cycle_at ms) (public_names ms) or_else (image_limit_at (loaded_total ms) or_else walk_answer ms s)
      ≡ Some fact → Stands fact
  sixth a d e fact h = by_case (or_else_some (first_some (cycle_at ms) (public_names ms)) (image_limit_at (loaded_total ms)
      or_else walk_answer ms s) fact h) where
        by_case : (first_some (cycle_at ms) (public_names ms) ≡ Some fact)
            ⊎ ((first_some (cycle_at ms) (public_names ms) ≡ None) × ((image_limit_at (loaded_total ms) or_else walk_answer ms s) ≡ Some fact)) → Stands fact
        by_case (inl h) = cycle_sound fact h
        by_case (inr h) = seventh a d e h.0 fact h.1

  abbrev after_commons : Option LocateFact
  after_commons = first_some (cycle_at ms) (public_names ms) or_else (image_limit_at (loaded_total ms) or_else walk_answer ms s)

  fifth : no_refusal → option_map undefined (first_undefined ms) ≡ None
      → (fact : LocateFact) → option_map common_unplaced (first_unplaced_common ms plan) or_else after_commons ≡ Some fact → Stands fact
  fifth a d fact h = by_case (or_else_some (option_map common_unplaced (first_unplaced_common ms plan)) after_commons fact h) where
    by_case : (option_map common_unplaced (first_unplaced_common ms plan) ≡ Some fact)
        ⊎ ((option_map common_unplaced (first_unplaced_common ms plan) ≡ None) × (after_commons ≡ Some fact)) → Stands fact
    by_case (inl h) = common_sound fact h
    by_case (inr h) = sixth a d h.0 fact h.1

  abbrev after_needs : Option LocateFact
  after_needs = option_map common_unplaced (first_unplaced_common ms plan) or_else after_commons

  fourth : no_refusal → (fact : LocateFact) → option_map undefined (first_undefined ms) or_else after_needs ≡ Some fact → Stands fact
  fourth a fact h = by_case (or_else_some (option_map undefined (first_undefined ms)) after_needs fact h) where
    by_case : (option_map undefined (first_undefined ms) ≡ Some fact)
        ⊎ ((option_map undefined (first_undefined ms) ≡ None) × (after_needs ≡ Some fact)) → Stands fact
    by_case (inl h) = undefined_sound fact h
    by_case (inr h) = fifth a h.0 fact h.1

  place_sound : (fact : LocateFact) → option_map placement refusal ≡ Some fact → Stands fact
  place_sound fact h = from refusal refl h where
    from : (o : Option PlaceRefusal) → refusal ≡ o → option_map placement o ≡ Some fact → Stands fact
    from None e h = absurd cc
    from (Some found) e h = let same : placement found ≡ fact = cc in
        subst Stands same (λ links. inl (refusal_sound (width ms) plan (flat_sections ms) (placed_commons ms plan) found e))

  no_placement : option_map placement refusal ≡ None → no_refusal
  no_placement h = from refusal h where
    from : (o : Option PlaceRefusal) → option_map placement o ≡ None → o ≡ None
    from None h = refl
    from (Some found) h = absurd cc

  locate_sound : (fact : LocateFact) → locate_answer ms plan ≡ Some fact → Stands fact
  unfolding locate_answer
  locate_sound fact e = first (or_else_some (option_map placement refusal) (option_map undefined (first_undefined ms) or_else after_needs) fact e) where
    first : (option_map placement refusal ≡ Some fact) ⊎ ((option_map placement refusal ≡ None)
        × ((option_map undefined (first_undefined ms) or_else after_needs) ≡ Some fact)) → Stands fact
    first (inl h) = place_sound fact h
    first (inr h) = fourth (no_placement h.0) fact h.1

  locate_complete : locate_answer ms plan ≡ None → (fact : LocateFact) → ¬ LocateFactStands ms plan fact
  unfolding locate_answer
  locate_complete e fact h =
      let p = or_else_none (option_map placement refusal) (option_map undefined (first_undefined ms) or_else after_needs) e in
      let d = or_else_none (option_map undefined (first_undefined ms)) after_needs p.1 in
      let f = or_else_none (option_map common_unplaced (first_unplaced_common ms plan)) after_commons d.1 in
      let g = or_else_none (first_some (cycle_at ms) (public_names ms)) (image_limit_at (loaded_total ms) or_else walk_answer ms s) f.1 in
      let w = or_else_none (image_limit_at (loaded_total ms)) (walk_answer ms s) g.1 in
      by_case (before_complete (no_placement p.0) d.0 f.0 g.0 w.0) (walk_complete ms s w.1) h where
        by_case : ((other : LocateFact) → ¬ StandsBeforeWalk ms plan s other) → ((other : LocateFact) → ¬ StandsInWalk ms s other)
            → LocateFactStands ms plan fact → ⊥
        by_case before walk (inl h) = before fact h
        by_case before walk (inr h) = walk fact h.2

-- the results are about the facts
pub answers_are_facts : (ms : List Parts) (plan : Plan) → AnswersAreFacts ms plan
answers_are_facts ms plan = record {
  link_sound = link_sound ms;
  link_complete = link_complete ms;
  locate_sound = λ links fact e. locate_sound ms plan fact e (link_complete ms links);
  locate_complete = locate_complete ms plan;
}
