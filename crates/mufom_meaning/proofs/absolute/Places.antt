-- Sections that are at their bases are placed there again, by a plan without regions.
use Rattle.std.proofs.Common.{◌≡◌, ℕ, ◌+◌, ◌^◌, ◌<◌, ◌≤◌, ◌⊎◌, inl, inr, List, [], ◌++◌, Option, Some, None, true, refl, sym, ◌∙◌, ap, subst, arith, append-nil}
use Rattle.std.specs.Prelude.{slice_get, option_map}
use Rattle.std.proofs.lemmas.Option.{slice_get-map}
use Rattle.mufom_sections.specs.declared.section.Section.{Section}
use Rattle.mufom_plan.specs.declared.plan.Plan.{Plan}
use Rattle.mufom_place.specs.declared.placing.AssignedBase.{AssignedBase}
use Rattle.mufom_place.specs.declared.refusal.PlaceRefusal.{PlaceRefusal}
use Rattle.mufom_place.specs.declared.refusal.PlaceRefusal.TheVariants.{Unplaced, Misfit, Overlap, NoMemory}
use Rattle.mufom_place.specs.Bases.{numbered, bases, site_of, site_with, placing_of, placings}
use Rattle.mufom_place.specs.Facts.{IsUnplaced, IsMisfit, EndsPast, Covers, IsOverlap, Stands, place_refusal}
use Rattle.mufom_place.proofs.FactLemmas.{refusal_sound, refusal_complete}
use Rattle.mufom_meaning.specs.Location.{placed_section, placed_sections}
use Rattle.mufom_meaning.specs.Absolute.{no_regions}
use Rattle.mufom_numbers.proofs.Choices.{mapped_some}
use Rattle.mufom_meaning.proofs.Tests.{enumerate_get, get_enumerate}

module _ (plan : Plan) (sections asked : List Section) where
  -- the base of a section or common
  pub base_there : (n : ℕ) (section : Section) → slice_get (sections ++ asked) n ≡ Some section → slice_get (bases plan sections asked) n
      ≡ Some (site_of plan sections asked (n, section)).base
  base_there n section e =
      slice_get-map (λ s. (site_of plan sections asked s).base) (numbered (sections ++ asked)) n
      ∙ ap (option_map (λ s. (site_of plan sections asked s).base)) (get_enumerate 0 (sections ++ asked) n section e
      ∙ (let same : 0 + n ≡ n = omega arith in λ i. Some (same i, section)))

  abbrev placed : List Section
  placed = placed_sections (bases plan sections asked) (sections ++ asked)

  -- a placed section is one of the sections or commons, at its base
  pub record IsPlacing (n : ℕ) (section : Section) : Type 0 where
    pub first : Section
    pub found : slice_get (sections ++ asked) n ≡ Some first
    pub same : section ≡ record first { absolute = true; base = Some (site_of plan sections asked (n, first)).base }

  pub placing_there : (n : ℕ) (section : Section) → slice_get placed n ≡ Some section → IsPlacing n section
  placing_there n section e =
      let there = mapped_some (placed_section (bases plan sections asked)) (slice_get (numbered (sections ++ asked)) n) section
      (sym (slice_get-map (placed_section (bases plan sections asked)) (numbered (sections ++ asked)) n) ∙ e) in
      let own = enumerate_get 0 (sections ++ asked) n there.0 there.1 in
      let place : there.0.0 ≡ n = own.0 ∙ omega arith in
      let base : slice_get (bases plan sections asked) there.0.0 ≡ Some (site_of plan sections asked (n, there.0.1)).base =
      ap (slice_get (bases plan sections asked)) place ∙ base_there n there.0.1 own.1 in
      record { first = there.0.1; found = own.1; same = sym there.2 ∙ ap (λ o. record there.0.1 { absolute = true; base = o }) base }

  pub there_placing : (n : ℕ) (section : Section) → slice_get (sections ++ asked) n ≡ Some section
      → slice_get placed n ≡ Some (record section { absolute = true; base = Some (site_of plan sections asked (n, section)).base })
  there_placing n section e =
      slice_get-map (placed_section (bases plan sections asked)) (numbered (sections ++ asked)) n
      ∙ ap (option_map (placed_section (bases plan sections asked))) (get_enumerate 0 (sections ++ asked) n section e
      ∙ (let same : 0 + n ≡ n = omega arith in λ i. Some (same i, section)))
      ∙ ap (λ o. Some (record section { absolute = true; base = o })) (base_there n section e)

  -- where it is placed again
  again : (n : ℕ) (section : Section) (p : IsPlacing n section) → site_of no_regions placed [] (n, section)
      ≡ record { base = (site_of plan sections asked (n, p.first)).base; region = None }
  again n section p = ap (λ (x : Section). site_with x.base (placing_of (placings no_regions placed []) n)) p.same

  module _ (width : ℕ) (none : place_refusal width plan sections asked ≡ None) where
    clear : (fact : PlaceRefusal) → ¬ Stands width plan sections asked fact
    clear fact = refusal_complete width plan sections asked fact none

    all_placed : (n : ℕ) → ¬ IsUnplaced plan sections n
    all_placed n = clear (Unplaced n)

    all_fit : (n : ℕ) (region : Option ℕ) → ¬ IsMisfit (2 ^ width) plan sections asked n region
    all_fit n region h = clear (Misfit n region) (all_placed, h)

    pub all_apart : (m n : ℕ) → ¬ IsOverlap plan sections asked m n
    all_apart m n h = clear (Overlap m n) (all_placed, all_fit, h)

    -- a section lies inside the address space
    pub ends_inside : (n : ℕ) (section : Section) → slice_get (sections ++ asked) n ≡ Some section
        → ¬ ((2 ^ width ≤ (site_of plan sections asked (n, section)).base) ⊎ (2 ^ width < (site_of plan sections asked (n, section)).base + section.size))
    ends_inside n section e out =
        let site = site_of plan sections asked (n, section) in
        all_fit n site.region (record { section = section; site = site; at = record { found = e; placed = refl }; in_region = refl; out = parts out }) where
          parts : (2 ^ width ≤ (site_of plan sections asked (n, section)).base) ⊎ (2 ^ width < (site_of plan sections asked (n, section)).base + section.size)
              → (2 ^ width ≤ (site_of plan sections asked (n, section)).base)
              ⊎ ((2 ^ width < (site_of plan sections asked (n, section)).base + section.size)
              ⊎ ((r : ℕ) × ((site_of plan sections asked (n, section)).region ≡ Some r)
              × EndsPast plan.regions r ((site_of plan sections asked (n, section)).base + section.size)))
          parts (inl h) = inl h
          parts (inr h) = inr (inl h)

    not_unplaced : (n : ℕ) → ¬ IsUnplaced no_regions placed n
    not_unplaced n h = let p = placing_there n h.section h.found in let none : Some (site_of plan sections asked (n, p.first)).base ≡ None =
        sym (ap (λ (x : Section). x.base) p.same) ∙ h.without in cc

    not_misfit : (n : ℕ) (region : Option ℕ) → ¬ IsMisfit (2 ^ width) no_regions placed [] n region
    not_misfit n region h =
        let p = placing_there n h.section (ap (λ all. slice_get all n) (sym (append-nil placed)) ∙ h.at.found) in
        let site = h.at.placed ∙ again n h.section p in
        let base : h.site.base ≡ (site_of plan sections asked (n, p.first)).base = ap (λ (x : AssignedBase). x.base) site in
        let size : h.section.size ≡ p.first.size = ap (λ (x : Section). x.size) p.same in
        let nowhere : region ≡ None = h.in_region ∙ ap (λ (x : AssignedBase). x.region) site in
        by_out p base size nowhere h.out where
          by_out : (p : IsPlacing n h.section) → h.site.base ≡ (site_of plan sections asked (n, p.first)).base → h.section.size ≡ p.first.size → region ≡ None
              → (2 ^ width ≤ h.site.base) ⊎ ((2 ^ width < h.site.base + h.section.size)
              ⊎ ((r : ℕ) × (region ≡ Some r) × EndsPast no_regions.regions r (h.site.base + h.section.size))) → ⊥
          by_out p base size nowhere (inl out) = ends_inside n p.first p.found (inl (subst (λ b. 2 ^ width ≤ b) base out))
          by_out p base size nowhere (inr (inl out)) = ends_inside n p.first p.found
              (inr (subst (λ (x : ℕ × ℕ). 2 ^ width < x.0 + x.1) (λ i. (base i, size i)) out))
          by_out p base size nowhere (inr (inr out)) = let clash : None ≡ Some out.0 = sym nowhere ∙ out.1 in cc

    covers_there : (n address : ℕ) → Covers no_regions placed [] n address → Covers plan sections asked n address
    covers_there n address h =
        let p = placing_there n h.section (ap (λ all. slice_get all n) (sym (append-nil placed)) ∙ h.at.found) in
        let site = h.at.placed ∙ again n h.section p in
        let base : h.site.base ≡ (site_of plan sections asked (n, p.first)).base = ap (λ (x : AssignedBase). x.base) site in
        let size : h.section.size ≡ p.first.size = ap (λ (x : Section). x.size) p.same in
        record {
          section = p.first;
          site = site_of plan sections asked (n, p.first);
          at = record { found = p.found; placed = refl };
          above =
              omega (arith, base, h.above);
          below = omega (arith, base, size, h.below);
        }

    not_stands : (fact : PlaceRefusal) → ¬ Stands width no_regions placed [] fact
    not_stands (Unplaced n) h = not_unplaced n h
    not_stands (Misfit n region) h = not_misfit n region h.1
    not_stands (Overlap m n) h = let o = h.2 in
        all_apart m n (record { differ = o.differ; address = o.address; first = covers_there m o.address o.first; second = covers_there n o.address o.second })
    not_stands NoMemory h = h

    -- so the placed sections are placed
    pub placed_again : place_refusal width no_regions placed [] ≡ None
    placed_again = by_refusal (place_refusal width no_regions placed []) refl where
      by_refusal : (o : Option PlaceRefusal) → place_refusal width no_regions placed [] ≡ o → o ≡ None
      by_refusal None e = refl
      by_refusal (Some fact) e = absurd (not_stands fact (refusal_sound width no_regions placed [] fact e))
