-- Each loaded byte of a list lies in the section into which it is loaded, or in the copy of the region that places this section.
use Rattle.std.proofs.Common.{◌≡◌, ℕ, zero, suc, ◌+◌, ◌-◌, ◌<◌, ◌≤◌, inl, inr, List, [], ◌∷◌, ◌++◌, length, Option, Some, None, true, false, not}
use Rattle.std.proofs.Common.{refl, sym, ◌∙◌, ap, subst, arith, zero-add, length-append, ◌&&◌}
use Rattle.std.specs.Prelude.{slice_get, filter, option_map, option_and_then, unwrap_or, ◌==◌, ◌||◌, nat_lt}
use Rattle.mufom_numbers.specs.declared.limits.TheConstants.{MOST_ALIGNMENT}
use Rattle.std.proofs.lemmas.Option.{slice_get-map, slice_get_within}
use Rattle.mufom_sections.specs.declared.section.Section.{Section}
use Rattle.mufom_loads.specs.declared.load.Item.{Item}
use Rattle.mufom_loads.specs.declared.load.Item.TheVariants.{Literal, Field}
use Rattle.mufom_loads.specs.Lengths.{byte_count}
use Rattle.mufom_module.specs.declared.module.Order.{Order}
use Rattle.mufom_module.specs.declared.module.Parts.{Parts}
use Rattle.mufom_module.specs.Defects.{has_bad_alignment}
use Rattle.mufom_plan.specs.declared.plan.Region.{Region}
use Rattle.mufom_plan.specs.declared.plan.Plan.{Plan}
use Rattle.mufom_place.specs.declared.placing.Placing.{Placing}
use Rattle.mufom_place.specs.declared.placing.RegionCopy.{RegionCopy}
use Rattle.mufom_place.specs.declared.placing.AssignedBase.{AssignedBase}
use Rattle.mufom_place.specs.Bases.{Numbered, numbered, placings, placing_of, site_with, site_by, site_of}
use Rattle.mufom_place.specs.Copies.{copy_sections, greatest, ends_in, size_at}
use Rattle.mufom_place.proofs.CopyLaws.{placing-before}
use Rattle.mufom_place.proofs.ExtentOrder.{of_same}
use Rattle.mufom_place.proofs.ExtentSteps.{some_size}
use Rattle.mufom_meaning.specs.Flat.{Sited, flat_sections}
use Rattle.mufom_meaning.specs.Placed.{placed_commons, planned_bases}
use Rattle.mufom_meaning.specs.Values.{Setting, setting}
use Rattle.mufom_meaning.specs.Steps.{Step, counter_step, item_step, steps, counter, StepReading, item_reading, step_reading, readings_after}
use Rattle.mufom_meaning.specs.Walk.{base_number}
use Rattle.mufom_meaning.specs.AddressMap.{Cell, step_cells}
use Rattle.mufom_meaning.specs.Stands.{put_back, IsStepAfter}
use Rattle.mufom_meaning.specs.Staging.{AreValid}
use Rattle.mufom_meaning.specs.LinkAnswer.{link_answer}
use Rattle.mufom_meaning.specs.LocateAnswer.{locate_answer}
use Rattle.mufom_numbers.proofs.Choices.{some_same}
use Rattle.mufom_meaning.proofs.Names.{get-prefix, get-skip}
use Rattle.mufom_meaning.proofs.Placed.{planned_get, common_reference}
use Rattle.mufom_meaning.proofs.Tests.{get_enumerate}
use Rattle.mufom_meaning.proofs.Members.{In, In-at, In-filter, passes-In}
use Rattle.mufom_meaning.proofs.locations.CellHome.{HasHome, item_home}
use Rattle.mufom_meaning.proofs.locations.OwnAddresses.{item_cell}
use Rattle.mufom_meaning.proofs.values.ValueLaws.{reading-of}
use Rattle.mufom_meaning.proofs.absolute.Places.{base_there}
use Rattle.mufom_meaning.proofs.absolute.Rows.{once, never_outside}
use Rattle.mufom_meaning.proofs.absolute.Sound.{sections_plain}
use Rattle.mufom_planned.specs.Layout.{Layout, layout, whole_list, layout_placings, base_at, has_bytes, loads_into, Move, moved_to, copy_position}
use Rattle.mufom_planned.specs.Layout.{move_to, move_of, move_from, section_move}
use Rattle.mufom_planned.specs.Planned.{reading_section, moved_cell}
use Rattle.mufom_planned.proofs.Copied.{placed_in, placing_found, copy_of, end_below, copy_found}

-- an alignment without a defect is at least 1
aligned_one : (section : Section) → has_bad_alignment section ≡ false → 1 ≤ section.align
aligned_one section e = by_align section.align refl where
  by_align : (n : ℕ) → section.align ≡ n → 1 ≤ section.align
  by_align zero f = absurd (let clash : has_bad_alignment section ≡ true = ap (λ n. (n == 0) || nat_lt MOST_ALIGNMENT n) f in let both = sym clash ∙ e in cc)
  by_align (suc n) f = omega (arith, f)

In-put_back : (before : List Step) (x : Step) (more : List Step) → In x more → In x (put_back before more)
In-put_back [] x more k = k
In-put_back (step ∷ before) x more k = In-put_back before x (step ∷ more) (inr k)

module _ (ms : List Parts) (plan : Plan) (v : AreValid ms) (links : link_answer ms ≡ None) (locates : locate_answer ms plan ≡ None) where
  abbrev own : List Section
  own = flat_sections ms

  abbrev asked : List Section
  asked = placed_commons ms plan

  abbrev l : Layout
  l = layout ms plan

  abbrev whole : List Section
  whole = whole_list l

  abbrev given : List Placing
  given = layout_placings l

  abbrev s : Setting
  s = setting ms (planned_bases ms plan)

  -- the base of a section, common or copy
  abbrev pub base_of : Numbered → ℕ
  base_of t = (site_by given t).base

  -- an address lies in the section, common or copy at a position
  pub record LiesAt (place address : ℕ) : Type 0 where
    pub section : Section
    pub found : slice_get whole place ≡ Some section
    pub low : base_of (place, section) ≤ address
    pub high : address < base_of (place, section) + section.size

  abbrev first_copy : ℕ
  first_copy = length own + length asked

  -- ---- sections stay where they are

  same_site : (n : ℕ) (x : Section) → slice_get (own ++ asked) n ≡ Some x → site_by given (n, x) ≡ site_of plan own asked (n, x)
  same_site n x e =
      let low = slice_get_within (own ++ asked) n x e in
      let total = length-append own asked in
      ap (site_with x.base) (placing-before plan.regions whole (placings plan own asked) first_copy l.copied n (omega (arith, low, total)))

  home_base : (n : ℕ) (x : Section) → slice_get own n ≡ Some x → base_number s n ≡ base_of (n, x)
  home_base n x e =
      let prefix = get-prefix own asked n x e in
      ap (λ o. unwrap_or o 0) (planned_get ms plan n prefix.1 ∙ base_there plan own asked n x prefix.0)
      ∙ sym (ap (λ (a : AssignedBase). a.base) (same_site n x prefix.0))

  lies_home : (cell : Cell) (home : HasHome s cell) → LiesAt home.place cell.0
  lies_home cell home =
      let prefix = get-prefix own asked home.place home.section home.found in
      let base = home_base home.place home.section home.found in
      let low = home.low in
      let high = home.high in
      record {
        section = home.section;
        found = (get-prefix (own ++ asked) (copy_sections l.copied) home.place home.section prefix.0).0;
        low = omega (arith, base, low);
        high = omega (arith, base, high);
      }

  -- ---- moved bytes

  pub aligned : (x : Section) → In x (own ++ asked) → 1 ≤ x.align
  aligned x k = aligned_one x (sections_plain ms v plan x k).aligned

  pub baseless : (x : Section) → In x asked → x.base ≡ None
  baseless x k = ap (λ (y : Section). y.base) (common_reference ms plan x k).2

  -- the move of a section is that of the region that places it, which has a copy
  pub record IsMoveOf (n : ℕ) (move : Move) : Type 0 where
    pub placing : Placing
    pub placed : placing_of given n ≡ Some placing
    pub region : Region
    pub held : slice_get plan.regions placing.region ≡ Some region
    pub copy : ℕ
    pub found : copy_position l placing.region ≡ Some copy
    pub is : move_to l region copy ≡ move

  pub move_there : (n : ℕ) (move : Move) → section_move l n ≡ Some move → IsMoveOf n move
  move_there n move e = by_placing (placing_of given n) refl e where
    by_copy : (p : Placing) (region : Region) → placing_of given n ≡ Some p → slice_get plan.regions p.region ≡ Some region
        → (o : Option ℕ) → copy_position l p.region ≡ o → option_map (move_to l region) o ≡ Some move → IsMoveOf n move
    by_copy p region f g None h e = absurd cc
    by_copy p region f g (Some copy) h e =
        record { placing = p; placed = f; region = region; held = g; copy = copy; found = h; is = some_same (move_to l region copy) move e }

    by_region : (p : Placing) → placing_of given n ≡ Some p → (o : Option Region) → slice_get plan.regions p.region ≡ o
        → option_and_then (λ region. move_of l (p.region, region)) o ≡ Some move → IsMoveOf n move
    by_region p f None g e = absurd cc
    by_region p f (Some region) g e = by_copy p region f g (copy_position l p.region) refl e

    by_placing : (o : Option Placing) → placing_of given n ≡ o → option_and_then (λ p. move_from l p.region) o ≡ Some move → IsMoveOf n move
    by_placing None f e = absurd cc
    by_placing (Some p) f e = by_region p f (slice_get plan.regions p.region) refl e

  -- a section or common whose copy is at a position
  pub base_there_all : (n : ℕ) (x : Section) → slice_get whole n ≡ Some x → base_at l n ≡ base_of (n, x)
  base_there_all n x e =
      let at = get_enumerate 0 whole n x e in
      ap (λ o. unwrap_or o 0) (slice_get-map base_of (numbered whole) n ∙ ap (option_map base_of) at)
      ∙ (let same = zero-add n in λ i. base_of (same i, x))

  abbrev loaded : List Placing
  loaded = filter (λ p. has_bytes ms p.section) (placings plan own asked)

  -- a byte of a section that is moved lies in the copy, and was at its region's base or after it
  moved_lies : (move : Move) (cell : Cell) (home : HasHome s cell) → (m : IsMoveOf home.place move) → has_bytes ms home.place ≡ true
      → LiesAt (first_copy + m.copy) (move.to + cell.0 - move.from) × (move.from ≤ cell.0)
  moved_lies move cell home m bytes =
      let n = home.place in
      let x = home.section in
      let p = m.placing in
      let prefix = get-prefix own asked n x home.found in
      let less = slice_get_within (own ++ asked) n x prefix.0 in
      let total = length-append own asked in
      let before : placing_of (placings plan own asked) n ≡ Some p =
      sym (placing-before plan.regions whole (placings plan own asked) first_copy l.copied n (omega (arith, less, total))) ∙ m.placed in
      let member = placing_found (placings plan own asked) n p before in
      let there = placed_in plan own asked aligned baseless p member.0 in
      let same_region : there.region ≡ m.region = some_same there.region m.region (sym there.held ∙ m.held) in
      let same_section : there.section ≡ x = some_same there.section x (sym there.found ∙ ap (slice_get (own ++ asked)) member.1 ∙ prefix.0) in
      let free : x.base ≡ None = ap (λ (y : Section). y.base) (sym same_section) ∙ there.free in
      let placed : base_of (n, x) ≡ p.base = (λ i. (site_with (free i) (m.placed i)).base) in
      let home_at = home_base n x home.found in
      let above : m.region.base ≤ p.base = subst (λ (r : Region). r.base ≤ p.base) same_region there.above in
      let copy = copy_found l.copied p.region m.copy m.found in
      let c = copy.0 in
      let of = copy_of plan.regions (own ++ asked) loaded 0 plan.regions c (In-at c l.copied m.copy copy.1) in
      let its_region : of.region ≡ m.region = some_same of.region m.region
      (sym of.found ∙ ap (slice_get plan.regions) (sym (zero-add of.place) ∙ sym of.source ∙ copy.2) ∙ m.held) in
      let among : In p loaded = In-filter (λ (q : Placing). has_bytes ms q.section) p (ap (has_bytes ms) member.1 ∙ bytes) (placings plan own asked) member.0 in
      let end = end_below (own ++ asked) loaded p m.region.base among in
      let size : size_at (own ++ asked) p.section ≡ x.size =
      ap (λ o. unwrap_or (option_map (λ (y : Section). y.size) o) 0) (ap (slice_get (own ++ asked)) member.1 ∙ prefix.0) in
      let room : c.section.size ≡ greatest m.region.base (ends_in (own ++ asked) p.region loaded) - m.region.base =
      ap (λ (y : Section). y.size) of.section
      ∙ (λ i. greatest (its_region i).base (ends_in (own ++ asked) (copy.2 i) loaded) - (its_region i).base) in
      let found : slice_get whole (first_copy + m.copy) ≡ Some c.section =
      ap (λ k. slice_get whole (k + m.copy)) (sym total) ∙ get-skip (own ++ asked) (copy_sections l.copied) m.copy
      ∙ slice_get-map (λ (d : RegionCopy). d.section) l.copied m.copy ∙ ap (option_map (λ (d : RegionCopy). d.section)) copy.1 in
      let to : move.to ≡ base_of (first_copy + m.copy, c.section) = ap (λ (o : Move). o.to) (sym m.is) ∙ base_there_all (first_copy + m.copy) c.section found in
      let from : move.from ≡ m.region.base = ap (λ (o : Move). o.from) (sym m.is) in
      let low = home.low in
      let high = home.high in (
        record {
          section = c.section;
          found = found;
          low = omega (arith, to, from, above, placed, home_at, low);
          high = omega (arith, to, from, above, placed, home_at, low, high, size, end, room);
        },
        omega (arith, from, above, placed, home_at, low),
      )

  -- ---- where a byte is loaded

  -- a byte at an address in the flat section n is loaded at another one, which lies at this position
  pub data IsLoaded (n from to place : ℕ) : Type 0 where
    stays : section_move l n ≡ None → to ≡ from → place ≡ n → n < length own → IsLoaded n from to place
    moves : (move : Move) → (m : IsMoveOf n move) → to ≡ move.to + from - move.from → move.from ≤ from → place ≡ first_copy + m.copy → IsLoaded n from to place

  pub record HasLoadPlace (n from to : ℕ) : Type 0 where
    pub home : LiesAt n from
    pub inner : n < length own
    pub place : ℕ
    pub lies : LiesAt place to
    pub loads : IsLoaded n from to place

  home_loads : (cell : Cell) (home : HasHome s cell) → has_bytes ms home.place ≡ true → HasLoadPlace home.place cell.0 (moved_cell l home.place cell).0
  home_loads cell home bytes = by_move (section_move l home.place) refl where
    by_move : (o : Option Move) → section_move l home.place ≡ o → HasLoadPlace home.place cell.0 (moved_to o cell.0)
    by_move None e = record {
      home = lies_home cell home;
      inner = slice_get_within own home.place home.section home.found;
      place = home.place;
      lies = lies_home cell home;
      loads = stays e refl refl (slice_get_within own home.place home.section home.found);
    }
    by_move (Some move) e =
        let m = move_there home.place move e in
        let lies = moved_lies move cell home m bytes in
        record {
          home = lies_home cell home;
          inner = slice_get_within own home.place home.section home.found;
          place = first_copy + m.copy;
          lies = lies.0;
          loads = moves move m refl lies.1 refl;
        }

  -- a cell of an item shows that its section has bytes
  section_of_item : (before : List Step) (site : Sited) (section : ℕ) (item : Item)
      → reading_section (item_reading s site section (counter s before section) item) ≡ section
  section_of_item before site section (Literal bytes) = refl
  section_of_item before site section (Field kind size t) = refl

  loads_some : (section : ℕ) (site : Sited) (item : Item) (q : ℕ) → q < byte_count item → loads_into section (item_step site section item) ≡ true
  loads_some section site item q less =
      let some = some_size (byte_count item) (λ none. omega (arith, less, none)) in λ i. of_same section section refl i && not (some i)

  module _ (order : Order) where
    step_loads : (before : List Step) (step : Step) → IsStepAfter ms before step → (cell : Cell)
        → In cell (step_cells order s.modulus (step_reading s before step))
        → let n = reading_section (step_reading s before step) in HasLoadPlace n cell.0 (moved_cell l n cell).0
    step_loads before (counter_step site section t) at cell k = absurd k
    step_loads before (item_step site section item) at cell k =
        let home = item_home order ms s (once ms plan links locates) (never_outside ms plan links locates) before site section item at cell k in
        let some = item_cell order ms s (once ms plan links locates) site section (counter s before section) item cell k in
        let among : In (item_step site section item) (steps ms) = subst (In (item_step site section item)) (sym at.1)
        (In-put_back before (item_step site section item) (item_step site section item ∷ at.0) (inl refl)) in
        let bytes : has_bytes ms section ≡ true =
        passes-In (loads_into section) (steps ms) (item_step site section item) among (loads_some section site item some.1 some.3) in
        subst (λ n. HasLoadPlace n cell.0 (moved_cell l n cell).0) (home.1 ∙ sym (section_of_item before site section item))
        (home_loads cell home.0 (ap (has_bytes ms) home.1 ∙ bytes))

    -- each cell that a step loads
    pub cell_loads : (x : StepReading) → In x (readings_after s [] (steps ms)) → (cell : Cell) → In cell (step_cells order s.modulus x)
        → HasLoadPlace (reading_section x) cell.0 (moved_cell l (reading_section x) cell).0
    cell_loads x k cell c =
        let there = reading-of s [] (steps ms) x k in
        subst (λ y. HasLoadPlace (reading_section y) cell.0 (moved_cell l (reading_section y) cell).0) there.4
        (step_loads there.0 there.1 (there.2, there.3) cell (subst (λ y. In cell (step_cells order s.modulus y)) (sym there.4) c))
