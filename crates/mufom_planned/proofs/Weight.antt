-- What the absolute module of a location by a plan weighs.
use Rattle.std.proofs.Common.{◌≡◌, ℕ, ◌+◌, ◌-◌, ◌*◌, ◌≤◌, ◌⊎◌, inl, inr, List, [], ◌∷◌, ◌++◌, map, length, Option, Some, None, Bool, true, false}
use Rattle.std.proofs.Common.{refl, sym, ◌∙◌, ap, subst, arith, zero-add, length-append, append-nil, sum_by}
use Rattle.std.specs.Prelude.{slice_get, nat_lt, ◌==◌, ◌^◌, filter, option_and_then, if◌then◌else◌}
use Rattle.std.specs.List.{enumerate_from}
use Rattle.std.proofs.lemmas.List.{length-map}
use Rattle.std.proofs.lemmas.List.Sums.{sum_by-append, sum_by-cons}
use Rattle.mufom_sections.specs.declared.section.Section.{Section}
use Rattle.mufom_module.specs.declared.module.Parts.{Parts}
use Rattle.mufom_module.specs.Weights.{section_weight, reference_weight, load_weight}
use Rattle.mufom_module.specs.Written.{weight}
use Rattle.mufom_module.proofs.WeightLaws.{weight-sum}
use Rattle.mufom_plan.specs.declared.plan.Region.{Region}
use Rattle.mufom_plan.specs.declared.plan.Plan.{Plan}
use Rattle.mufom_plan.specs.declared.plan.PlanSymbol.{PlanSymbol}
use Rattle.mufom_plan.specs.Names.{region_position}
use Rattle.mufom_plan.specs.Symbols.{names_size}
use Rattle.mufom_place.specs.declared.placing.Placing.{Placing}
use Rattle.mufom_place.specs.declared.placing.RegionCopy.{RegionCopy}
use Rattle.mufom_place.specs.Bases.{placings}
use Rattle.mufom_place.specs.Copies.{copy_section, copy_sections, copy_if, copy_with, copies_from, ends_in, has_any, greatest}
use Rattle.mufom_numbers.proofs.Choices.{some_same, of_lt, is_lt, of_not_lt, not_lt}
use Rattle.mufom_meaning.specs.declared.located.LocatedParts.{LocatedParts}
use Rattle.mufom_meaning.specs.Flat.{flat_sections, flat_references, is_common}
use Rattle.mufom_meaning.specs.Location.{placed_section}
use Rattle.mufom_loads.specs.Lengths.{lengths_loaded}
use Rattle.std.proofs.lemmas.Grind.{flat_map-append}
use Rattle.mufom_meaning.specs.Counts.{loaded_total}
use Rattle.mufom_meaning.specs.Placed.{placed_commons}
use Rattle.mufom_meaning.specs.LocationLaws.{asking_count}
use Rattle.mufom_meaning.specs.LinkAnswer.{link_answer}
use Rattle.mufom_meaning.specs.LocateAnswer.{locate_answer}
use Rattle.mufom_meaning.specs.Staging.{AreValid}
use Rattle.mufom_meaning.specs.StagingLaws.{total_weight}
use Rattle.mufom_meaning.specs.Absolute.{absolute_of}
use Rattle.mufom_meaning.specs.AddressMap.{Cell, run_cells}
use Rattle.mufom_meaning.proofs.Tests.{enumerate_get}
use Rattle.mufom_meaning.proofs.Members.{In, at-In}
use Rattle.mufom_meaning.proofs.absolute.Cells.{LiesIn, section_cells, section_cell}
use Rattle.mufom_meaning.proofs.absolute.Entries.{lighter-map, sections-lighter, sum-more, room_at, room-sum, loads-lighter}
use Rattle.mufom_meaning.proofs.absolute.Weight.{sound_weighs, commons-lighter}
use Rattle.mufom_meaning.proofs.absolute.Alone.{fewer_cells}
use Rattle.mufom_planned.specs.Layout.{Layout, layout, layout_bases, whole_list, has_bytes}
use Rattle.mufom_planned.specs.PlanSymbols.{symbols_module, followed_by}
use Rattle.mufom_planned.specs.Planned.{copied_answer, HasLocation}
use Rattle.mufom_planned.specs.PlanLaws.{regions_size}
use Rattle.mufom_planned.proofs.SoundLocation.{in_map, origin, sound, counted}
use Rattle.mufom_planned.proofs.Apart.{get_placed, one_place}
use Rattle.mufom_planned.proofs.Loaded.{LiesAt, IsLoaded, stays, moves}
use Rattle.mufom_planned.proofs.SymbolsModule.{light}

-- ---- copies

-- a copy weighs its name and a number, with what placing and loading it add
copy-light : (region : Region) (size : ℕ) → section_weight (copy_section region size) + 31 ≤ 84 * (length region.name + 1)
copy-light region size = by_size (size == 0) where
  by_size : (b : Bool) → 13 + 1 + 0 + length region.name + 19 + (if b then 0 else 20) + 0 + 31 ≤ 84 * (length region.name + 1)
  by_size true = omega arith
  by_size false = omega arith

abbrev weight_there : RegionCopy → ℕ
weight_there c = section_weight c.section + 31

copy-here : (n : ℕ) (region : Region) (holder : Option ℕ) (has : Bool) (size : ℕ)
    → sum_by weight_there (copy_if n region holder has size) ≤ 84 * (length region.name + 1)
copy-here n region None has size = omega arith
copy-here n region (Some holder) false size = omega arith
copy-here n region (Some holder) true size =
    let c : RegionCopy = record { source = n; holder = holder; section = copy_section region size } in
    let all = sum_by-cons weight_there c [] in let own = copy-light region size in omega (arith, all, own)

copies-light : (all : List Region) (sections : List Section) (loaded : List Placing) (n : ℕ) (regions : List Region)
    → sum_by weight_there (copies_from all sections loaded n regions) ≤ 84 * regions_size regions
copies-light all sections loaded n [] = omega arith
copies-light all sections loaded n (region ∷ regions) =
    let holder = option_and_then (region_position all) region.load in
    let ends = ends_in sections n loaded in
    let a = sum_by-append weight_there (copy_with n region holder ends) (copies_from all sections loaded (n + 1) regions) in
    let own = copy-here n region holder (has_any ends) (greatest region.base ends - region.base) in
    let rest = copies-light all sections loaded (n + 1) regions in
    let b = sum_by-cons (λ (r : Region). length r.name + 1) region regions in
    omega (arith, a, own, rest, b)

-- ---- room for the sections with bytes

-- the sections before a position have room, and those from another one on
abbrev room_beside : ℕ → ℕ → ℕ → ℕ
room_beside n k place = room_at n place + (10 - room_at k place)

late-all : (n k : ℕ) (sections : List Section) → sum_by (λ (t : ℕ × Section). 10 - room_at n t.0) (enumerate_from k sections) ≤ 10 * length sections
late-all n k [] = omega arith
late-all n k (x ∷ sections) =
    let a = sum_by-cons (λ (t : ℕ × Section). 10 - room_at n t.0) (k, x) (enumerate_from (k + 1) sections) in
    let rest = late-all n (k + 1) sections in omega (arith, a, rest)

late-sum : (n k : ℕ) (sections : List Section) → k ≤ n
    → sum_by (λ (t : ℕ × Section). 10 - room_at n t.0) (enumerate_from k sections) ≤ 10 * ((k + length sections) - n)
late-sum n k [] low = omega arith
late-sum n k (x ∷ sections) low = by_case (nat_lt k n) refl (late-sum n (k + 1) sections) where
  by_case : (b : Bool) → nat_lt k n ≡ b
      → (k + 1 ≤ n → sum_by (λ (t : ℕ × Section). 10 - room_at n t.0) (enumerate_from (k + 1) sections) ≤ 10 * (((k + 1) + length sections) - n))
      → sum_by (λ (t : ℕ × Section). 10 - room_at n t.0) ((k, x) ∷ enumerate_from (k + 1) sections) ≤ 10 * ((k + length (x ∷ sections)) - n)
  by_case true e later =
      let less = of_lt k n e in
      let head : room_at n k ≡ 10 = ap (λ b. if b then 10 else 0) e in
      let rest = later (omega (arith, less)) in
      let a = sum_by-cons (λ (t : ℕ × Section). 10 - room_at n t.0) (k, x) (enumerate_from (k + 1) sections) in
      omega (arith, a, head, rest)
  by_case false e later =
      let past = of_not_lt k n e in let all = late-all n k (x ∷ sections) in omega (arith, past, low, all)

sum-both : {X : Type 0} (f g : X → ℕ) (xs : List X) → sum_by (λ x. f x + g x) xs ≡ sum_by f xs + sum_by g xs
sum-both f g [] = refl
sum-both f g (x ∷ xs) =
    let a = sum_by-cons (λ y. f y + g y) x xs in let b = sum_by-cons f x xs in let c = sum_by-cons g x xs in
    let rest = sum-both f g xs in omega (arith, a, b, c, rest)

module _ (m : Parts) (more : List Parts) (plan : Plan) (r : LocatedParts) (v : AreValid (m ∷ more)) (links : link_answer (m ∷ more) ≡ None)
    (locates : locate_answer (m ∷ more) plan ≡ None) (answer : copied_answer (m ∷ more) plan ≡ None) (h : HasLocation (m ∷ more) plan r) where
  abbrev ms : List Parts
  ms = m ∷ more

  abbrev l : Layout
  l = layout ms plan

  abbrev own : List Section
  own = flat_sections ms

  abbrev asked : List Section
  asked = placed_commons ms plan

  abbrev first_copy : ℕ
  first_copy = length own + length asked

  abbrev numbered_sections : List (ℕ × Section)
  numbered_sections = enumerate_from 0 r.sections

  sections : sum_by section_weight r.sections + 10 * length l.copied
      ≤ sum_by section_weight own + 21 * length own + sum_by reference_weight (flat_references ms) + 42 * asking_count ms + 84 * regions_size plan.regions
  sections =
      let all : sum_by section_weight r.sections ≡ sum_by section_weight
      (map (placed_section (layout_bases l)) (enumerate_from 0 (whole_list l))) = ap (sum_by section_weight) h.sections in
      let a = sections-lighter (layout_bases l) 0 (whole_list l) in
      let b = sum_by-append section_weight (own ++ asked) (copy_sections l.copied) in
      let c = sum_by-append section_weight own asked in
      let d = length-append (own ++ asked) (copy_sections l.copied) in
      let e = length-append own asked in
      let f = sum-more section_weight 21 asked in
      let g = commons-lighter ms plan in
      let i = lighter-map section_weight (λ (x : RegionCopy). section_weight x.section) (λ (x : RegionCopy). x.section) (λ x. omega arith) l.copied in
      let j = sum-more (λ (x : RegionCopy). section_weight x.section) 31 l.copied in
      let k = copies-light plan.regions (own ++ asked) (filter (λ (p : Placing). has_bytes ms p.section) (placings plan own asked)) 0 plan.regions in
      let n = length-map l.copied (λ (x : RegionCopy). x.section) in
      omega (arith, all, a, b, c, d, e, f, g, i, j, k, n)

  -- an address in a section of the location lies there among all that is placed
  lies_there : (t : ℕ × Section) → In t numbered_sections → (x : ℕ) → LiesIn t x → LiesAt ms plan v links locates t.0 x
  lies_there t k x lies =
      let there = at-In t numbered_sections k in
      let at = enumerate_get 0 r.sections there.0 t there.1 in
      let place : t.0 ≡ there.0 = at.0 ∙ zero-add there.0 in
      let from = get_placed ms plan v links locates answer t.0 t.1
      (ap (λ all. slice_get all t.0) (sym h.sections) ∙ ap (slice_get r.sections) place ∙ at.1) in
      let base = some_same _ _ (ap (λ (y : Section). y.base) from.2 ∙ lies.1) in
      let size : from.0.size ≡ t.1.size = ap (λ (y : Section). y.size) from.2 in
      record { section = from.0; found = from.1; low = omega (arith, base, lies.2); high = omega (arith, base, size, lies.3) }

  -- there is room for each section with loaded bytes: it is one of the modules', or a copy
  roomy : (t : ℕ × Section) → In t numbered_sections → (length (section_cells r.runs t) ≡ 0) ⊎ (10 ≤ room_beside (length own) first_copy t.0)
  roomy t k = by_cells (section_cells r.runs t) (λ cell c. section_cell r.runs t cell c) where
    by_place : (n from to place : ℕ) → IsLoaded ms plan v links locates n from to place → 10 ≤ room_beside (length own) first_copy place
    by_place n from to place (stays e same at less) =
        let low = is_lt place (length own) (omega (arith, at, less)) in
        let room : room_at (length own) place ≡ 10 = ap (λ b. if b then 10 else 0) low in omega (arith, room)
    by_place n from to place (moves move of same low at) =
        let late = not_lt place first_copy (omega (arith, at)) in
        let room : room_at first_copy place ≡ 0 = ap (λ b. if b then 10 else 0) late in omega (arith, room)

    by_cells : (cells : List Cell) → ((cell : Cell) → In cell cells → In cell (run_cells r.runs) × LiesIn t cell.0) → (length cells ≡ 0)
        ⊎ (10 ≤ room_beside (length own) first_copy t.0)
    by_cells [] there = inl refl
    by_cells (cell ∷ cells) there =
        let here = there cell (inl refl) in
        let o = origin m more plan r v links locates answer h cell (in_map m more plan r v links locates answer h cell here.0) in
        let same = one_place ms plan v links locates answer o.loads.place t.0 cell.0 o.loads.lies (lies_there t k cell.0 here.1) in
        inr (subst (λ n. 10 ≤ room_beside (length own) first_copy n) same (by_place o.n o.from cell.0 o.loads.place o.loads.loads))

  loads : sum_by load_weight (absolute_of r).loads ≤ 10 * length own + 10 * length l.copied + 31 * loaded_total ms
  loads =
      let a = loads-lighter r.runs (room_beside (length own) first_copy) numbered_sections roomy in
      let b = sum-both (λ (t : ℕ × Section). room_at (length own) t.0) (λ (t : ℕ × Section). 10 - room_at first_copy t.0) numbered_sections in
      let c = room-sum (length own) 0 r.sections in
      let d = late-sum first_copy 0 r.sections (omega arith) in
      let e = counted m more plan r v links locates answer h in
      let f = fewer_cells m more plan r (sound m more plan r v links locates answer h) in
      omega (arith, a, b, c, d, e, f)

  pub weighs_with_copies : weight (absolute_of r)
      ≤ total_weight ms + 31 * length own + 31 * loaded_total ms + 42 * asking_count ms + 84 * regions_size plan.regions
  weighs_with_copies =
      let a = sections in
      let b = loads in
      let extra = 31 * length own + 31 * loaded_total ms + 42 * asking_count ms + 84 * regions_size plan.regions in
      let all = sound_weighs m more plan r (sound m more plan r v links locates answer h) extra (omega (arith, a, b)) in
      omega (arith, all)

-- ---- the symbols

-- what a list with symbols behind it weighs, and has, against the list
pub record IsHeavier (ms others : List Parts) (extra : ℕ) : Type 0 where
  pub weighs : total_weight others ≤ total_weight ms + extra
  pub sections : length (flat_sections others) ≡ length (flat_sections ms)
  pub loads : loaded_total others ≡ loaded_total ms
  pub asks : asking_count others ≡ asking_count ms

pub followed-heavier : (numbers : PlanSymbol → ℕ) (symbols : List PlanSymbol) (ms : List Parts)
    → IsHeavier ms (followed_by ms numbers symbols) (156 + 33 * names_size symbols)
followed-heavier numbers symbols [] = record { weighs = omega arith; sections = refl; loads = refl; asks = refl }
followed-heavier numbers [] (m ∷ ms) = record { weighs = omega arith; sections = refl; loads = refl; asks = refl }
followed-heavier numbers (symbol ∷ more) (m ∷ ms) =
    let own = symbols_module m numbers (symbol ∷ more) in
    let all = sum_by-append weight (m ∷ ms) (own ∷ []) in
    let one = sum_by-cons weight own [] in
    let its = weight-sum own in
    let publics = light (2 ^ (8 * m.maus)) numbers (symbol ∷ more) in
    let sections = flat_map-append (λ (p : Parts). p.sections) (m ∷ ms) (own ∷ []) ∙ append-nil (flat_sections (m ∷ ms)) in
    let references = flat_map-append (λ (p : Parts). p.names.references) (m ∷ ms) (own ∷ []) ∙ append-nil (flat_references (m ∷ ms)) in
    let loads = sum_by-append (λ (p : Parts). lengths_loaded p.loads) (m ∷ ms) (own ∷ []) in
    record {
      weighs = omega (arith, all, one, its, publics);
      sections = ap length sections;
      loads = omega (arith, loads);
      asks = ap (λ refs. length (filter is_common refs)) references;
    }
