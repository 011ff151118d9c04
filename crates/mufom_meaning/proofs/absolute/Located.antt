-- The module of a sound location, located alone, is located as itself.
use Rattle.std.proofs.Common.{◌≡◌, ℕ, zero, suc, ◌+◌, ◌<◌, ◌≤◌, inl, inr, List, [], ◌∷◌, ◌++◌, map, length, Option, Some, None, true, false, refl}
use Rattle.std.proofs.Common.{sym, ◌∙◌, ap, subst, arith, append-nil, zero-add}
use Rattle.std.specs.Prelude.{slice_get, option_map, option_to_list, IsTrue}
use Rattle.std.specs.List.{enumerate_from}
use Rattle.mufom_expr.specs.Tree.{Tree, number}
use Rattle.mufom_sections.specs.declared.section.Section.{Section}
use Rattle.mufom_names.specs.declared.name.Public.{Public}
use Rattle.mufom_names.specs.Names.{AreDistinct}
use Rattle.mufom_debug.specs.Marks.{DebugMark, marks_of, mark_expressions, expressions_of}
use Rattle.mufom_module.specs.declared.module.Parts.{Parts}
use Rattle.mufom_plan.specs.declared.plan.Plan.{Plan}
use Rattle.mufom_place.specs.Bases.{site_with, placing_of, placings}
use Rattle.mufom_place.specs.Facts.{place_refusal}
use Rattle.mufom_place.proofs.FactLemmas.{refusal_complete}
use Rattle.mufom_meaning.specs.declared.located.Site.{Site}
use Rattle.mufom_meaning.specs.declared.located.Site.TheVariants as sites
use Rattle.mufom_meaning.specs.Bases.{no_bases}
use Rattle.mufom_meaning.specs.declared.located.PublicValue.{PublicValue}
use Rattle.mufom_meaning.specs.declared.located.LocatedParts.{LocatedParts}
use Rattle.mufom_meaning.specs.Flat.{Sited, SitedPublic, sited, flat_sections, flat_publics, public_names, first_named, width}
use Rattle.mufom_meaning.specs.Values.{Setting, setting, value, has_zero_divisor}
use Rattle.mufom_meaning.specs.Cycles.{leads_within, leads_from}
use Rattle.mufom_meaning.specs.Walk.{SitedTree, start_trees, debug_trees}
use Rattle.mufom_meaning.specs.Readings.{readings, PublicReading, public_reading, mark_reading}
use Rattle.mufom_meaning.specs.Placed.{extended_sections, base_list, planned_bases}
use Rattle.mufom_meaning.specs.Location.{placed_section, located_sections, located_public, located_mark, IsLocation}
use Rattle.mufom_meaning.specs.LocationLaws.{AbsoluteIsLocatedAsItself}
use Rattle.mufom_meaning.specs.Facts.{LocateFact, placement, undefined, common_unplaced, cycle, image_limit, zero_divisor, load_outside, loaded_twice, overflow}
use Rattle.mufom_meaning.specs.LinkAnswer.{link_answer}
use Rattle.mufom_meaning.specs.LocateAnswer.{locate_answer}
use Rattle.mufom_meaning.specs.Stands.{StandsBeforeWalk, StandsInWalk, LocateFactStands, HasZeroDivisor}
use Rattle.mufom_meaning.specs.Staging.{AreValid}
use Rattle.mufom_meaning.specs.Absolute.{absolute_public, absolute_of, no_regions}
use Rattle.mufom_meaning.proofs.facts.Answers.{find_at}
use Rattle.mufom_meaning.proofs.Members.{In, In-at, map-In, In-map, flat_map-In}
use Rattle.mufom_meaning.proofs.Names.{names_of, names_of-sited_publics}
use Rattle.mufom_meaning.proofs.facts.Linkable.{no_link_answer_is_linkable}
use Rattle.mufom_meaning.proofs.facts.AllAnswers.{answers_are_facts}
use Rattle.mufom_meaning.proofs.absolute.Places.{base_there}
use Rattle.mufom_meaning.proofs.absolute.Facts.{no_counter_divisor, no_field_divisor, no_overflow, none_outside, none_twice}
use Rattle.mufom_meaning.proofs.absolute.Marks.{width_positive, value_below, number_value, IsNumbered, mark_numbered}
use Rattle.mufom_meaning.proofs.absolute.Sound.{IsSoundLocation}
use Rattle.mufom_meaning.proofs.absolute.Alone.{sections_alone, width_alone, modulus_alone, clear, same_cells, fewer_bytes}
use Rattle.mufom_meaning.proofs.absolute.Rows.{sound}

-- an empty list after another
In-nil : {A : Type 0} (x : A) (xs : List A) → In x (xs ++ []) → In x xs
In-nil x xs h = subst (In x) (append-nil xs) h

names_of_publics : (ps : List PublicValue) → map (λ entry. entry.name) (map absolute_public ps) ≡ map (λ (x : PublicReading). x.name) (map located_public ps)
names_of_publics [] = refl
names_of_publics (p ∷ ps) = ap (λ names. p.name ∷ names) (names_of_publics ps)

names_of_readings : (s : Setting) (qs : List SitedPublic) → map (λ (x : PublicReading). x.name) (map (public_reading s) qs) ≡ names_of qs
names_of_readings s [] = refl
names_of_readings s (q ∷ qs) = ap (λ names. q.entry.name ∷ names) (names_of_readings s qs)

starts_few : (o : Option ℕ) → length (option_to_list (option_map (λ n. number n) o) ++ []) ≤ 1
starts_few None = omega arith
starts_few (Some n) = omega arith

-- sections that are absolute and are at the bases are placed as themselves
placed_as_they_are : (bs : List ℕ) (k : ℕ) (sections : List Section)
    → ((i : ℕ) (x : Section) → slice_get sections i ≡ Some x → record x { absolute = true; base = slice_get bs (k + i) } ≡ x)
    → map (placed_section bs) (enumerate_from k sections) ≡ sections
placed_as_they_are bs k [] same = refl
placed_as_they_are bs k (x ∷ sections) same =
    let here : k ≡ k + 0 = omega arith in
    let own : record x { absolute = true; base = slice_get bs k } ≡ x = ap (λ n. record x { absolute = true; base = slice_get bs n }) here ∙ same 0 x refl in
    let later = placed_as_they_are bs (k + 1) sections (λ i y e.
    let next : (k + 1) + i ≡ k + suc i = omega arith in ap (λ n. record y { absolute = true; base = slice_get bs n }) next ∙ same (suc i) y e) in
    λ i. own i ∷ later i

module _ (m : Parts) (more : List Parts) (plan : Plan) (r : LocatedParts) (v : AreValid (m ∷ more)) (h : IsSoundLocation (m ∷ more) plan r) where
  abbrev ms : List Parts
  ms = m ∷ more

  abbrev s : Setting
  s = setting ms (planned_bases ms plan)

  abbrev alone : List Parts
  alone = absolute_of r ∷ []

  abbrev again : Setting
  again = setting alone (planned_bases alone no_regions)

  abbrev home : Sited
  home = record { parts = absolute_of r; first_section = 0; first_public = 0; first_name = 0 }

  -- ---- the link

  same_names : public_names alone ≡ public_names ms
  unfolding readings
  same_names =
      append-nil (map (λ entry. entry.name) (map absolute_public r.publics)) ∙ names_of_publics r.publics ∙ ap (map (λ (x : PublicReading). x.name)) h.publics
      ∙ names_of_readings s (flat_publics ms) ∙ names_of-sited_publics 0 0 0 ms

  links : link_answer alone ≡ None
  links = (no_link_answer_is_linkable alone).1 (record {
    descriptor = ((refl, refl), tt);
    names = subst AreDistinct (sym same_names) ((no_link_answer_is_linkable ms).0 h.links).names;
    starts = starts_few r.start;
  })

  -- ---- values

  pub below : (site : Sited) (t : Tree) (n : ℕ) → value s site None t ≡ Some n → n < again.modulus
  below site t n e = let less = value_below ms (planned_bases ms plan) (width_positive m more v) site None t n e in
      subst (λ modulus. n < modulus) (sym (modulus_alone m more plan r h)) less

  public_below : (p : PublicValue) → In p r.publics → p.value < again.modulus
  unfolding readings
  public_below p k =
      let there = map-In (public_reading s) (located_public p) (flat_publics ms)
      (subst (In (located_public p)) h.publics (In-map located_public p r.publics k)) in
      below there.0.site there.0.entry.value p.value (ap (λ (x : PublicReading). x.value) there.2)

  publics_again : (ps : List PublicValue) → ((p : PublicValue) → In p ps → p.value < again.modulus)
      → map located_public ps ≡ map (public_reading again) (map (λ entry. record { site = home; entry = entry }) (map absolute_public ps))
  publics_again [] k = refl
  publics_again (p ∷ ps) k =
      let own = number_value again home None p.value (k p (inl refl)) in
      let later = publics_again ps (λ q l. k q (inr l)) in
      λ i. record { name = p.name; notes = p.notes; value = sym own i } ∷ later i

  publics_there : map located_public r.publics ≡ (readings alone (planned_bases alone no_regions)).publics
  unfolding readings
  publics_there =
      publics_again r.publics public_below
      ∙ ap (map (public_reading again)) (sym (append-nil (map (λ entry. record { site = home; entry = entry }) (map absolute_public r.publics))))

  start_below : (n : ℕ) → r.start ≡ Some n → n < again.modulus
  unfolding readings
  start_below n e =
      let among : In (Some n) (map (λ v. Some v) (option_to_list r.start)) =
      subst (λ o. In (Some n) (map (λ v. Some v) (option_to_list o))) (sym e) (inl refl) in
      let there = flat_map-In (λ site. map (value s site None) (option_to_list site.parts.start)) (Some n) (sited ms) (subst (In (Some n)) h.start among) in
      let own = map-In (value s there.0 None) (Some n) (option_to_list there.0.parts.start) there.2 in below there.0 own.0 n own.2

  start_there : map (λ v. Some v) (option_to_list r.start) ≡ (readings alone (planned_bases alone no_regions)).starts
  unfolding readings
  start_there = by_start r.start refl where
    by_start : (o : Option ℕ) → r.start ≡ o → map (λ v. Some v) (option_to_list o)
        ≡ map (value again home None) (option_to_list (option_map (λ n. number n) o)) ++ []
    by_start None e = refl
    by_start (Some n) e = ap (λ o. o ∷ []) (sym (number_value again home None n (start_below n e)))

  -- each mark of the location is located from one of the list
  pub numbered_mark : (mark : DebugMark) → In mark (marks_of r.debug) → IsNumbered s again home refl refl below mark
  unfolding readings
  numbered_mark mark k =
      let among = subst (In (Some mark)) h.debug (In-map (λ mark. Some mark) mark (marks_of r.debug) k) in
      let there = map-In located_mark (Some mark) (readings ms (planned_bases ms plan)).debug among in
      let site = flat_map-In (λ site. map (mark_reading s site) (marks_of site.parts.debug)) there.0 (sited ms) there.1 in
      let own = map-In (mark_reading s site.0) there.0 (marks_of site.0.parts.debug) site.2 in
      mark_numbered s again home refl refl below site.0 own.0 mark (ap located_mark own.2 ∙ there.2)

  marks_again : (marks : List DebugMark) → ((mark : DebugMark) → In mark marks → In mark (marks_of r.debug)) → map (λ mark. Some mark) marks
      ≡ map located_mark (map (mark_reading again home) marks)
  marks_again [] among = refl
  marks_again (mark ∷ marks) among =
      let own = (numbered_mark mark (among mark (inl refl))).read in let later = marks_again marks (λ other k. among other (inr k)) in λ i. sym own i ∷ later i

  debug_there : map (λ mark. Some mark) (marks_of r.debug) ≡ map located_mark (readings alone (planned_bases alone no_regions)).debug
  unfolding readings
  debug_there = marks_again (marks_of r.debug) (λ mark k. k) ∙ ap (map located_mark) (sym (append-nil (map (mark_reading again home) (marks_of r.debug))))

  -- ---- the facts

  -- a public of the module is a number
  number_public : (q : SitedPublic) → In q (flat_publics alone) → (n : ℕ) × (q.entry.value ≡ number n)
  number_public q k =
      let there = map-In (λ entry. record { site = home; entry = entry }) q (map absolute_public r.publics)
      (In-nil q (map (λ entry. record { site = home; entry = entry }) (map absolute_public r.publics)) k) in
      let own = map-In absolute_public there.0 r.publics there.1 in
      (own.0.value, ap (λ (q : SitedPublic). q.entry.value) (sym there.2) ∙ ap (λ (p : Public). p.value) (sym own.2))

  number_start : (e : SitedTree) → In e (start_trees alone) → (n : ℕ) × (e.1 ≡ number n)
  number_start e k = by_start r.start (map-In (λ t. (home, t)) e (option_to_list (option_map (λ n. number n) r.start)) (In-nil e _ k)) where
    by_start : (o : Option ℕ) → (t : Tree) × In t (option_to_list (option_map (λ n. number n) o)) × ((home, t) ≡ e) → (n : ℕ) × (e.1 ≡ number n)
    by_start None there = absurd there.1
    by_start (Some n) there = (n, ap (λ (e : SitedTree). e.1) (sym there.2) ∙ only there.0 there.1) where
      only : (t : Tree) → In t (number n ∷ []) → t ≡ number n
      only t (inl e) = sym e
      only t (inr k) = absurd k

  number_debug : (e : SitedTree) → In e (debug_trees alone) → (n : ℕ) × (e.1 ≡ number n)
  number_debug e k =
      let there = map-In (λ t. (home, t)) e (expressions_of (marks_of r.debug)) (In-nil e (map (λ t. (home, t)) (expressions_of (marks_of r.debug))) k) in
      let mark = flat_map-In mark_expressions there.0 (marks_of r.debug) there.1 in
      let own = (numbered_mark mark.0 mark.1).numbers there.0 mark.2 in (own.0, ap (λ (e : SitedTree). e.1) (sym there.2) ∙ own.1)

  -- a number has no divisor
  no_divisor : (site : Sited) (pc : Option ℕ) (t : Tree) → (n : ℕ) × (t ≡ number n) → ¬ IsTrue (has_zero_divisor again site pc t)
  no_divisor site pc t there d = let none : false ≡ true = sym (ap (has_zero_divisor again site pc) there.1) ∙ d in cc

  no_zero_divisor : (place : Site) → ¬ HasZeroDivisor alone again place
  no_zero_divisor (sites.Public name) f = no_divisor f.0.site None f.0.entry.value (number_public f.0 (In-at f.0 (flat_publics alone) f.1.0 f.1.1)) f.3
  no_zero_divisor (sites.Counter section) f = no_counter_divisor r.order again alone (clear m more plan r h) section f
  no_zero_divisor (sites.Field section at) f = no_field_divisor r.order again alone (clear m more plan r h) section at f
  no_zero_divisor sites.Start f = no_divisor f.0.0 None f.0.1 (number_start f.0 (In-at f.0 (start_trees alone) f.1.0 f.1.1)) f.2
  no_zero_divisor (sites.Debug n) f = no_divisor f.0.0 None f.0.1 (number_debug f.0 (In-at f.0 (debug_trees alone) n f.1)) f.2

  not_in_walk : (fact : LocateFact) → ¬ StandsInWalk alone again fact
  not_in_walk (zero_divisor place) f = no_zero_divisor place f
  not_in_walk (load_outside section address) f = none_outside r.order again alone (clear m more plan r h) section address f
  not_in_walk (loaded_twice address) f = none_twice r.order again alone (clear m more plan r h) address f
  not_in_walk (overflow section at kind size n) f = no_overflow r.order again alone (clear m more plan r h) section at kind size n f
  not_in_walk (placement refusal) f = f
  not_in_walk (undefined name) f = f
  not_in_walk (common_unplaced name) f = f
  not_in_walk (cycle name) f = f
  not_in_walk (image_limit count) f = f

  placed_here : place_refusal (width alone) no_regions (flat_sections alone) [] ≡ None
  placed_here = (λ i. place_refusal (width_alone m more plan r h i) no_regions (sections_alone m more plan r h i) []) ∙ h.fits

  -- a number leads nowhere
  leads_nowhere : (k : ℕ) (name : List ℕ) (site : Sited) (t : Tree) → (n : ℕ) × (t ≡ number n) → leads_within (setting alone no_bases) k name site t ≡ false
  leads_nowhere zero name site t there = refl
  leads_nowhere (suc k) name site t there = ap (leads_within (setting alone no_bases) (suc k) name site) there.1

  no_circle : (k : ℕ) (name : List ℕ) (o : Option SitedPublic) → first_named (flat_publics alone) name ≡ o
      → ¬ IsTrue (leads_from (setting alone no_bases) k name o)
  no_circle k name None e f = cc
  no_circle k name (Some q) e f =
      let there = (find_at _ (flat_publics alone) q e).0 in
      let none : false ≡ true = sym (leads_nowhere k name q.site q.entry.value (number_public q (In-at q (flat_publics alone) there.0 there.1))) ∙ f in cc

  not_before : (fact : LocateFact) → ¬ StandsBeforeWalk alone no_regions again fact
  not_before (placement refusal) f = refusal_complete (width alone) no_regions (flat_sections alone) [] refusal placed_here f
  not_before (undefined name) f = let e = f.0.1 in cc
  not_before (common_unplaced name) f = let e = f.1.1.1 in cc
  not_before (cycle name) f = no_circle f.0 name (first_named (flat_publics alone) name) refl f.1
  not_before (image_limit count) f = let few = fewer_bytes m more plan r h in omega (arith, few, f.0, f.1)
  not_before (zero_divisor place) f = f
  not_before (load_outside section address) f = f
  not_before (loaded_twice address) f = f
  not_before (overflow section at kind size n) f = f

  locates : locate_answer alone no_regions ≡ None
  locates = by_answer (locate_answer alone no_regions) refl where
    not_stands : (fact : LocateFact) → ¬ LocateFactStands alone no_regions fact
    not_stands fact (inl f) = not_before fact f
    not_stands fact (inr f) = not_in_walk fact f.2

    by_answer : (o : Option LocateFact) → locate_answer alone no_regions ≡ o → o ≡ None
    by_answer None e = refl
    by_answer (Some fact) e = absurd (not_stands fact ((answers_are_facts alone no_regions).locate_sound links fact e))

  all_alone : extended_sections alone no_regions ≡ r.sections
  all_alone = append-nil (flat_sections alone) ∙ sections_alone m more plan r h

  stays : (i : ℕ) (x : Section) → slice_get (extended_sections alone no_regions) i ≡ Some x
      → record x { absolute = true; base = slice_get (base_list alone no_regions) (0 + i) } ≡ x
  stays i x e =
      let own = h.absolute x (subst (In x) all_alone (In-at x (extended_sections alone no_regions) i e)) in
      let base : slice_get (base_list alone no_regions) (0 + i) ≡ x.base
      = ap (slice_get (base_list alone no_regions)) (zero-add i) ∙ base_there no_regions (flat_sections alone) [] i x e
      ∙ ap (λ o. Some (site_with o (placing_of (placings no_regions (flat_sections alone) []) i)).base) own.based ∙ sym own.based in
      let absolute = own.absolute in
      λ j. record x { absolute = sym absolute j; base = base j }

  sections_there : r.sections ≡ located_sections alone no_regions
  sections_there = sym all_alone ∙ sym (placed_as_they_are (base_list alone no_regions) 0 (extended_sections alone no_regions) stays)

  pub located_as_itself : IsLocation alone no_regions r
  unfolding readings
  located_as_itself = record {
    links = links;
    locates = locates;
    first = refl;
    sections = sections_there;
    publics = publics_there;
    start = start_there;
    debug = debug_there;
    rows = record { apart = h.apart; same = same_cells m more plan r h };
  }

pub absolute_is_located_as_itself : AbsoluteIsLocatedAsItself
absolute_is_located_as_itself [] plan r v h = let e = h.first in absurd cc
absolute_is_located_as_itself (m ∷ more) plan r v h = located_as_itself m more plan r v (sound m more plan r v h)
