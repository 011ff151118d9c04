-- No fact keeps the generated modules from being located by their plan.
use Rattle.std.proofs.Common.{◌≡◌, ◌≢◌, ℕ, zero, suc, ◌+◌, ◌*◌, ◌^◌, ◌<◌, ◌≤◌, ◌⊎◌, inl, inr, List, [], length, replicate, Option, Some, None}
use Rattle.std.proofs.Common.{true, false, refl, sym, ◌∙◌, ap, subst, arith, append-nil}
use Rattle.std.specs.Prelude.{◌==◌, slice_get, flat_map, map, option_to_list}
use Rattle.std.specs.Str.{bytes_eq}
use Rattle.std.proofs.lemmas.List.Sums.{sum_by-cons}
use Rattle.mufom_numbers.specs.declared.limits.TheConstants.{MOST_IMAGE_BYTES}
use Rattle.mufom_expr.specs.Tree.{Tree}
use Rattle.mufom_sections.specs.declared.section.Section.{Section}
use Rattle.mufom_loads.specs.Lengths.{lengths_loaded}
use Rattle.mufom_debug.specs.Marks.{expressions_of, marks_of}
use Rattle.mufom_module.specs.declared.module.Parts.{Parts}
use Rattle.mufom_plan.specs.declared.plan.Plan.{Plan}
use Rattle.mufom_plan.specs.declared.plan.Region.{Region}
use Rattle.mufom_plan.specs.Names.{listed_names}
use Rattle.mufom_place.specs.declared.refusal.PlaceRefusal.{PlaceRefusal}
use Rattle.mufom_place.specs.declared.refusal.PlaceRefusal.TheVariants.{Unplaced, Misfit, Overlap, NoMemory}
use Rattle.mufom_place.specs.declared.placing.AssignedBase.{AssignedBase}
use Rattle.mufom_place.specs.Bases.{is_listed, site_of}
use Rattle.mufom_place.specs.Facts.{EndsPast, IsAt, IsMisfit, IsOverlap, IsUnplaced, Stands}
use Rattle.mufom_meaning.specs.declared.located.LocatedParts.{LocatedParts}
use Rattle.mufom_meaning.specs.declared.located.Site.{Site}
use Rattle.mufom_meaning.specs.declared.located.Site.TheVariants as sites
use Rattle.mufom_meaning.specs.Bases.{no_bases}
use Rattle.mufom_meaning.specs.Counts.{loaded_total}
use Rattle.mufom_meaning.specs.Cycles.{IsOnCycle, leads_from, leads_within}
use Rattle.mufom_meaning.specs.Facts.{LocateFact, placement, undefined, common_unplaced, cycle, image_limit, zero_divisor, load_outside, loaded_twice, overflow}
use Rattle.mufom_meaning.specs.Flat.{Sited, SitedPublic, first_named, flat_publics, flat_sections, sited_from, width}
use Rattle.mufom_meaning.specs.LinkAnswer.{link_answer}
use Rattle.mufom_meaning.specs.LocateAnswer.{locate_answer}
use Rattle.mufom_meaning.specs.Location.{IsLocation}
use Rattle.mufom_meaning.specs.Placed.{planned_bases}
use Rattle.mufom_meaning.specs.Stands.{HasZeroDivisor, LocateFactStands, StandsBeforeWalk, StandsInWalk}
use Rattle.mufom_meaning.specs.Steps.{steps}
use Rattle.mufom_meaning.specs.Values.{Setting, setting, has_zero_divisor}
use Rattle.mufom_meaning.specs.Walk.{SitedTree}
use Rattle.mufom_numbers.proofs.Choices.{some_same}
use Rattle.mufom_meaning.proofs.Members.{In-at}
use Rattle.mufom_meaning.proofs.absolute.Marks.{value_below}
use Rattle.mufom_meaning.proofs.facts.AllAnswers.{answers_are_facts}
use Rattle.mufom_meaning.proofs.facts.Answers.{find_at}
use Rattle.mufom_meaning.proofs.locations.Exists.{locations_exist}
use Rattle.mufom_make.specs.Generated.{code_section, entry_at, made_modules, made_plan, module_at, modules_from}
use Rattle.mufom_make.proofs.ListLaws.{all-valid, length-modules_from, linkable}
use Rattle.mufom_make.proofs.NameLaws.{entry-value, no-commons, nothing-needed}
use Rattle.mufom_make.proofs.PlaceLaws.{base_at, code_at, code_there, place_at, placed-at, planned-there, sections_of}
use Rattle.mufom_make.proofs.Rising.{IsRising, no_counter_divisor, no_field_divisor, none_outside, none_overflows, none_twice}
use Rattle.mufom_make.proofs.WalkLaws.{IsMade, modules-rise}

-- ---- the list

four-units : (count more n : ℕ) → 1 ≤ more → width (modules_from count more n) ≡ 32
four-units count zero n some = absurd (omega (arith, some))
four-units count (suc more) n some = refl

bytes-loaded : (count more n : ℕ) → loaded_total (modules_from count more n) ≡ 16 * more
bytes-loaded count zero n = refl
bytes-loaded count (suc more) n =
    let first = sum_by-cons (λ (m : Parts). lengths_loaded m.loads) (module_at (n + 1 == count) n) (modules_from count more (n + 1)) in
    let later = bytes-loaded count more (n + 1) in omega (arith, first, later)

no-starts : (count more n d : ℕ) → flat_map {A = SitedTree} (λ (site : Sited). map (λ (t : Tree). (site, t)) (option_to_list site.parts.start))
    (sited_from n n d (modules_from count more n)) ≡ []
no-starts count zero n d = refl
no-starts count (suc more) n d = no-starts count more (n + 1) (d + 0)

no-debug : (count more n d : ℕ) → flat_map {A = SitedTree} (λ (site : Sited). map (λ (t : Tree). (site, t)) (expressions_of (marks_of site.parts.debug)))
    (sited_from n n d (modules_from count more n)) ≡ []
no-debug count zero n d = refl
no-debug count (suc more) n d = no-debug count more (n + 1) (d + 0)

-- ---- no fact holds

module _ (count : ℕ) (some : 1 ≤ count) (few : count ≤ 65536) where
  abbrev ms : List Parts
  ms = made_modules count

  abbrev plan : Plan
  plan = made_plan count

  abbrev s : Setting
  s = setting ms (planned_bases ms plan)

  wide : width ms ≡ 32
  wide = four-units count count 0 some

  made : IsMade s count
  made = record {
    wide = ap (λ (w : ℕ). 2 ^ w) wide;
    few = few;
    small = λ site pc t v e. subst (λ (w : ℕ). v < 2 ^ w) wide
        (value_below ms (planned_bases ms plan) (omega (arith, wide)) site pc t v e);
    based = planned-there count;
    sized = λ n less. ap (λ (sections : List Section). slice_get sections n) (sections_of count count 0) ∙ code_there count n less;
  }

  rising : IsRising s 4096 [] (steps ms)
  rising = modules-rise s count made count 0 [] (omega arith) (λ m above. refl)

  -- ---- sections

  not-unplaced : (n : ℕ) → ¬ IsUnplaced plan (flat_sections ms) n
  not-unplaced n f =
      let code = code_at count n f.section (ap (λ (all : List Section). slice_get all n) (sym (sections_of count count 0)) ∙ f.found) in
      let listed : true ≡ false = sym (ap (λ (section : Section). is_listed (listed_names plan.regions) section.name) code.same) ∙ f.unlisted in cc

  -- a section is where the region puts it
  record IsPlaced (n : ℕ) (section : Section) (site : AssignedBase) : Type 0 where
    within : n < count
    size : section.size ≡ 16
    base : site.base ≡ base_at n
    region : site.region ≡ Some 0

  placed : (n : ℕ) (section : Section) (site : AssignedBase) → IsAt plan (flat_sections ms) [] n section site → IsPlaced n section site
  placed n section site at = from (subst (λ (all : List Section). IsAt plan all [] n section site) (sections_of count count 0) at) where
    from : IsAt plan (replicate count code_section) [] n section site → IsPlaced n section site
    from at =
        let code = code_at count n section (ap (λ (all : List Section). slice_get all n) (sym (append-nil (replicate count code_section))) ∙ at.found) in
        let there : site ≡ place_at n = at.placed
        ∙ ap (λ (x : Section). site_of plan (replicate count code_section) [] (n, x)) code.same ∙ placed-at count count n code.within in
        record {
          within = code.within;
          size = ap (λ (x : Section). x.size) code.same;
          base = ap (λ (x : AssignedBase). x.base) there;
          region = ap (λ (x : AssignedBase). x.region) there;
        }

  -- the region ends where the last section does
  not-past : (r end : ℕ) → Some r ≡ Some 0 → end ≤ 4096 + 16 * count → EndsPast plan.regions r end → ⊥
  not-past zero end same low f =
      let own = some_same _ _ f.found in
      let past = subst (λ (region : Region). region.base + region.size < end) (sym own) f.past in omega (arith, low, past)
  not-past (suc r) end same low f = let other = some_same (suc r) 0 same in omega (arith, other)

  not-misfit : (n : ℕ) (region : Option ℕ) → ¬ IsMisfit (2 ^ width ms) plan (flat_sections ms) [] n region
  not-misfit n region f = by_out (placed n f.section f.site f.at) f.out where
    by_out : IsPlaced n f.section f.site → (2 ^ width ms ≤ f.site.base)
        ⊎ ((2 ^ width ms < f.site.base + f.section.size) ⊎ ((r : ℕ) × (region ≡ Some r) × EndsPast plan.regions r (f.site.base + f.section.size))) → ⊥
    by_out p (inl out) =
        let all = made.wide in
        let base = p.base in
        let within = p.within in omega (arith, all, base, within, few, out)
    by_out p (inr (inl out)) =
        let all = made.wide in
        let base = p.base in
        let size = p.size in
        let within = p.within in omega (arith, all, base, size, within, few, out)
    by_out p (inr (inr out)) =
        let base = p.base in
        let size = p.size in
        let within = p.within in
        not-past out.0 (f.site.base + f.section.size) (sym out.1 ∙ (f.in_region ∙ p.region)) (omega (arith, base, size, within)) out.2

  not-overlap : (m n : ℕ) → ¬ IsOverlap plan (flat_sections ms) [] m n
  not-overlap m n f =
      let p = placed m f.first.section f.first.site f.first.at in
      let q = placed n f.second.section f.second.site f.second.at in
      let base = p.base in
      let size = p.size in
      let other = q.base in
      let length = q.size in
      let above = f.first.above in
      let below = f.first.below in
      let after = f.second.above in
      let before = f.second.below in
      let same : m ≡ n = omega (arith, base, size, other, length, above, below, after, before) in f.differ same

  not-refused : (refusal : PlaceRefusal) → ¬ Stands (width ms) plan (flat_sections ms) [] refusal
  not-refused (Unplaced n) f = not-unplaced n f
  not-refused (Misfit n region) f = not-misfit n region f.1
  not-refused (Overlap m n) f = not-overlap m n f.2
  not-refused NoMemory f = f

  -- ---- names

  not-cycle : (name : List ℕ) → ¬ IsOnCycle ms name
  not-cycle name f = by_first (first_named (flat_publics ms) name) refl f.1 where
    no-lead : (k : ℕ) (q : SitedPublic) → leads_within (setting ms no_bases) k name q.site (entry_at 0).value ≡ false
    no-lead zero q = refl
    no-lead (suc k) q = refl

    by_first : (o : Option SitedPublic) → first_named (flat_publics ms) name ≡ o → leads_from (setting ms no_bases) f.0 name o ≡ true → ⊥
    by_first None e leads = cc
    by_first (Some q) e leads =
        let found = find_at (λ (p : SitedPublic). bytes_eq p.entry.name name) (flat_publics ms) q e in
        let value = entry-value count count 0 0 q (In-at q (flat_publics ms) found.0.0 found.0.1) in
        let none : false ≡ true = sym (ap (leads_within (setting ms no_bases) f.0 name q.site) value ∙ no-lead f.0 q) ∙ leads in cc

  few-bytes : loaded_total ms ≤ MOST_IMAGE_BYTES
  few-bytes = let total = bytes-loaded count count 0 in omega (arith, total, few)

  not-before : (fact : LocateFact) → ¬ StandsBeforeWalk ms plan s fact
  not-before (placement refusal) f = not-refused refusal f
  not-before (undefined name) f =
      let e : None ≡ Some name = ap (λ (all : List (List ℕ)). slice_get all f.0.0) (sym (nothing-needed count)) ∙ f.0.1 in cc
  not-before (common_unplaced name) f =
      let pair : List ℕ × ℕ = (name, f.1.0) in
      let e : None ≡ Some pair = ap (λ (all : List (List ℕ × ℕ)). slice_get all f.1.1.0) (sym (no-commons count)) ∙ f.1.1.1 in cc
  not-before (cycle name) f = not-cycle name f
  not-before (image_limit total) f = let most = few-bytes in omega (arith, most, f.0, f.1)
  not-before (zero_divisor place) f = f
  not-before (load_outside section address) f = f
  not-before (loaded_twice address) f = f
  not-before (overflow section at kind size n) f = f

  -- ---- the walk

  no-zero-divisor : (place : Site) → ¬ HasZeroDivisor ms s place
  no-zero-divisor (sites.Public name) f =
      let value = entry-value count count 0 0 f.0 (In-at f.0 s.publics f.1.0 f.1.1) in
      let none : false ≡ true = sym (ap (has_zero_divisor s f.0.site None) value) ∙ f.3 in cc
  no-zero-divisor (sites.Counter section) f = no_counter_divisor s ms 4096 rising section f
  no-zero-divisor (sites.Field section at) f = no_field_divisor s ms 4096 rising section at f
  no-zero-divisor sites.Start f =
      let e : None ≡ Some f.0 = ap (λ (all : List SitedTree). slice_get all f.1.0) (sym (no-starts count count 0 0)) ∙ f.1.1 in cc
  no-zero-divisor (sites.Debug n) f =
      let e : None ≡ Some f.0 = ap (λ (all : List SitedTree). slice_get all n) (sym (no-debug count count 0 0)) ∙ f.1 in cc

  not-in-walk : (fact : LocateFact) → ¬ StandsInWalk ms s fact
  not-in-walk (zero_divisor place) f = no-zero-divisor place f
  not-in-walk (load_outside section address) f = none_outside s ms 4096 rising section address f
  not-in-walk (loaded_twice address) f = none_twice s ms 4096 rising address f
  not-in-walk (overflow section at kind size n) f = none_overflows s ms 4096 rising section at kind size n f
  not-in-walk (placement refusal) f = f
  not-in-walk (undefined name) f = f
  not-in-walk (common_unplaced name) f = f
  not-in-walk (cycle name) f = f
  not-in-walk (image_limit total) f = f

  not-stands : (fact : LocateFact) → ¬ LocateFactStands ms plan fact
  not-stands fact (inl f) = not-before fact f
  not-stands fact (inr f) = not-in-walk fact f.2

  -- no link fact holds
  pub all-link : link_answer ms ≡ None
  all-link = linkable count count 0 (omega (arith, few))

  -- and nothing is returned in place of a location
  pub all-locate : locate_answer ms plan ≡ None
  all-locate = by_answer (locate_answer ms plan) refl where
    by_answer : (o : Option LocateFact) → locate_answer ms plan ≡ o → o ≡ None
    by_answer None e = refl
    by_answer (Some fact) e = absurd (not-stands fact ((answers_are_facts ms plan).locate_sound all-link fact e))

  -- so the modules have a location
  pub all-located : (r : LocatedParts) × IsLocation ms plan r
  all-located =
      let long = length-modules_from count count 0 in
      let filled : ms ≢ [] = λ e. let none : length ms ≡ 0 = ap length e in omega (arith, long, none, some) in
      locations_exist ms plan filled (all-valid count count 0 (omega (arith, few))) all-link all-locate
