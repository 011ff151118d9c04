-- The bytes that are loaded into a section are moved as the extents of the layout say, and no two to one address.
use Rattle.std.proofs.Common.{◌≡◌, ℕ, zero, suc, ◌+◌, ◌-◌, ◌*◌, ◌<◌, ◌≤◌, ◌%◌, ◌^◌, ◌⊎◌, inl, inr, List, [], ◌∷◌, ◌++◌, map, length, Option, Some, None}
use Rattle.std.proofs.Common.{Bool, true, false, ◌||◌, refl, sym, ◌∙◌, ap, subst, arith, zero-add, length-append}
use Rattle.std.specs.Prelude.{slice_get, flat_map, option_map, option_and_then, option_to_list, nat_le, nat_lt, Contains}
use Rattle.std.specs.List.{enumerate_from}
use Rattle.std.proofs.lemmas.Option.{slice_get_within}
use Rattle.mufom_sections.specs.declared.section.Section.{Section}
use Rattle.mufom_module.specs.declared.module.Order.{Order}
use Rattle.mufom_module.specs.declared.module.Parts.{Parts}
use Rattle.mufom_plan.specs.declared.plan.Region.{Region}
use Rattle.mufom_plan.specs.declared.plan.Plan.{Plan}
use Rattle.mufom_place.specs.declared.placing.Placing.{Placing}
use Rattle.mufom_place.specs.declared.placing.AssignedBase.{AssignedBase}
use Rattle.mufom_place.specs.Bases.{Numbered, numbered, placings, placing_of, site_with, site_by}
use Rattle.mufom_place.specs.Copies.{copy_sections}
use Rattle.mufom_place.specs.Facts.{first_some, misfit_by, is_misfit, is_past, unplaced_at}
use Rattle.mufom_plan.specs.Names.{listed_names}
use Rattle.std.proofs.Math.Pow.{pow_mono}
use Rattle.mufom_meaning.specs.Facts.{placement}
use Rattle.mufom_place.proofs.CopyLaws.{placing-before}
use Rattle.mufom_numbers.proofs.Choices.{some_same, mapped_none, mapped_some, of_not_lt}
use Rattle.mufom_meaning.specs.declared.located.Run.{Run}
use Rattle.mufom_meaning.specs.AddressMap.{Cell, AreRunsOf, step_cells, address_map, run_cells}
use Rattle.mufom_meaning.specs.Flat.{flat_sections, width}
use Rattle.mufom_meaning.specs.LinkAnswer.{link_answer}
use Rattle.mufom_meaning.specs.LocateAnswer.{locate_answer, after_placing}
use Rattle.mufom_meaning.specs.Placed.{placed_commons, planned_bases}
use Rattle.mufom_meaning.specs.Staging.{AreValid}
use Rattle.mufom_meaning.specs.Steps.{StepReading, steps, readings_after}
use Rattle.mufom_meaning.specs.Values.{Setting, setting}
use Rattle.mufom_meaning.proofs.Names.{get-prefix}
use Rattle.mufom_meaning.proofs.Tests.{chosen_none, either_false, get_enumerate}
use Rattle.mufom_meaning.proofs.Members.{In, In-at, In-map, In-flat_map, In-Contains, Contains-In, map-In, flat_map-In}
use Rattle.mufom_meaning.proofs.facts.Answers.{first_some_none, or_else_none}
use Rattle.mufom_image_bytes.specs.Chunks.{cell_addresses}
use Rattle.mufom_image_bytes.specs.Images.{AreLow}
use Rattle.mufom_planned.specs.Layout.{Layout, Move, layout, whole_list, layout_placings, base_at, copy_position, move_to, move_of, move_from, moved_to, section_move}
use Rattle.mufom_planned.specs.Planned.{copied_answer, layout_fact, load_map, moved_cell, reading_section}
use Rattle.mufom_planned.proofs.Copied.{placed_in, placing_found}
use Rattle.mufom_planned.proofs.Loaded as loaded
use Rattle.mufom_planned.proofs.Loaded.{LiesAt, IsMoveOf, IsLoaded, stays, moves, HasLoadPlace}
use Rattle.mufom_planned.proofs.Apart.{one_place, one_origin}
use Rattle.mufom_moves.specs.declared.shift.Shift.{Shift}
use Rattle.mufom_moves.specs.Shifts.{HasAddress, shifted, shifted_cell, shifted_cells, ShareNoAddress, StayApart}
use Rattle.mufom_moves.proofs.ShiftLaws.{shifted-none, shifted-at}
use Rattle.mufom_moves.proofs.LoadMaps.{moved_steps, runs_of_same_cells}
use Rattle.mufom_locating.specs.Copied.{shift_of, layout_shifts}

-- an item of an enumerated list, by its position
numbered-at : (k : ℕ) (xs : List Section) (t : Numbered) → In t (enumerate_from k xs) → (i : ℕ) × (t.0 ≡ k + i) × (slice_get xs i ≡ Some t.1)
numbered-at k [] t h = absurd h
numbered-at k (x ∷ xs) t (inl e) =
    let place : k ≡ k + 0 = omega arith in (0, ap (λ (u : Numbered). u.0) (sym e) ∙ place, ap (λ (u : Numbered). Some u.1) e)
numbered-at k (x ∷ xs) t (inr h) =
    let rest = numbered-at (k + 1) xs t h in let place = rest.1 in (suc rest.0, omega (arith, place), rest.2)

at-numbered : (k : ℕ) (xs : List Section) (i : ℕ) (x : Section) → slice_get xs i ≡ Some x → In (k + i, x) (enumerate_from k xs)
at-numbered k [] i x e = absurd cc
at-numbered k (y ∷ xs) zero x e = let same : y ≡ x = cc in let place : k ≡ k + 0 = omega arith in inl (λ j. (place j, same j))
at-numbered k (y ∷ xs) (suc i) x e =
    let place : (k + 1) + i ≡ k + suc i = omega arith in inr (subst (λ n. In (n, x) (enumerate_from (k + 1) xs)) place (at-numbered (k + 1) xs i x e))

address : (to_copy from_base base from to : ℕ) → to ≡ to_copy + from - from_base → from_base ≤ base → base ≤ from → to < 2 ^ 64
    → (to_copy + base - from_base) % 2 ^ 64 + (from - base) ≡ to
address to_copy from_base base from to is low high space = omega (arith, is, low, high, space)

get-front : (xs ys : List Section) (i : ℕ) → i < length xs → slice_get (xs ++ ys) i ≡ slice_get xs i
get-front [] ys i less = absurd (omega (arith, less))
get-front (x ∷ xs) ys zero less = refl
get-front (x ∷ xs) ys (suc i) less = get-front xs ys i (omega (arith, less))

module _ (ms : List Parts) (plan : Plan) (v : AreValid ms) (links : link_answer ms ≡ None) (locates : locate_answer ms plan ≡ None)
    (answer : copied_answer ms plan ≡ None) (narrow : width ms ≤ 64) where
  abbrev l : Layout
  l = layout ms plan

  abbrev own : List Section
  own = flat_sections ms

  abbrev asked : List Section
  asked = placed_commons ms plan

  abbrev whole : List Section
  whole = whole_list l

  abbrev f : Numbered → ℕ
  f = loaded.base_of ms plan v links locates

  abbrev At : ℕ → ℕ → Type 0
  At = LiesAt ms plan v links locates

  abbrev Loads : ℕ → ℕ → ℕ → Type 0
  Loads = HasLoadPlace ms plan v links locates

  abbrev shifts : List Shift
  shifts = layout_shifts l

  abbrev s : Setting
  s = setting ms (planned_bases ms plan)

  -- ---- the extents

  record IsShiftOf (sh : Shift) : Type 0 where
    place : ℕ
    section : Section
    found : slice_get own place ≡ Some section
    move : Move
    moved : section_move l place ≡ Some move
    is : sh ≡ shift_of l (place, section) move

  optional-In : {A : Type 0} (o : Option A) (x : A) → In x (option_to_list o) → o ≡ Some x
  optional-In None x h = absurd h
  optional-In (Some y) x (inl e) = ap (λ z. Some z) e
  optional-In (Some y) x (inr h) = absurd h

  In-optional : {A : Type 0} (o : Option A) (x : A) → o ≡ Some x → In x (option_to_list o)
  In-optional None x e = absurd cc
  In-optional (Some y) x e = let same : y ≡ x = cc in inl same

  shift-there : (sh : Shift) → In sh shifts → IsShiftOf sh
  shift-there sh h =
      let there = flat_map-In (λ (t : Numbered). option_to_list (option_map (shift_of l t) (section_move l t.0))) sh (numbered own) h in
      let t = there.0 in
      let at = numbered-at 0 own t there.1 in
      let place : t.0 ≡ at.0 = at.1 ∙ zero-add at.0 in
      let made = mapped_some (shift_of l t) (section_move l t.0) sh (optional-In (option_map (shift_of l t) (section_move l t.0)) sh there.2) in
      record {
        place = t.0;
        section = t.1;
        found = ap (slice_get own) place ∙ at.2;
        move = made.0;
        moved = made.1;
        is = sym made.2;
      }

  there-shift : (n : ℕ) (x : Section) (move : Move) → slice_get own n ≡ Some x → section_move l n ≡ Some move → In (shift_of l (n, x) move) shifts
  there-shift n x move e m =
      In-flat_map (λ (t : Numbered). option_to_list (option_map (shift_of l t) (section_move l t.0))) (n, x) (shift_of l (n, x) move) (numbered own)
      (subst (λ k. In (k, x) (numbered own)) (zero-add n) (at-numbered 0 own n x e))
      (In-optional (option_map (shift_of l (n, x)) (section_move l n)) (shift_of l (n, x) move) (ap (option_map (shift_of l (n, x))) m))

  in-whole : (n : ℕ) (x : Section) → slice_get own n ≡ Some x → slice_get whole n ≡ Some x
  in-whole n x e = (get-prefix (own ++ asked) (copy_sections l.copied) n x (get-prefix own asked n x e).0).0

  base-is : (n : ℕ) (x : Section) → slice_get own n ≡ Some x → base_at l n ≡ f (n, x)
  base-is n x e = loaded.base_there_all ms plan v links locates n x (in-whole n x e)

  -- an address in an extent lies in its section
  lies-in : (sh : Shift) (is : IsShiftOf sh) (a : ℕ) → HasAddress sh a → At is.place a
  lies-in sh is a h =
      let base = base-is is.place is.section is.found in
      let same = is.is in
      let from : sh.from ≡ base_at l is.place = ap (λ (t : Shift). t.from) same in
      let size : sh.size ≡ is.section.size = ap (λ (t : Shift). t.size) same in
      let low = h.0 in
      let high = h.1 in
      record {
        section = is.section;
        found = in-whole is.place is.section is.found;
        low = omega (arith, base, from, low);
        high = omega (arith, base, from, size, high);
      }

  -- extents of one section are one
  one-shift : (sh other : Shift) (is : IsShiftOf sh) (there : IsShiftOf other) → is.place ≡ there.place → sh ≡ other
  one-shift sh other is there same =
      let section : is.section ≡ there.section = some_same is.section there.section (sym is.found ∙ ap (slice_get own) same ∙ there.found) in
      let move : is.move ≡ there.move = some_same is.move there.move (sym is.moved ∙ ap (section_move l) same ∙ there.moved) in
      is.is ∙ (λ i. shift_of l (same i, section i) (move i)) ∙ sym there.is

  pub no-address-shared : ShareNoAddress shifts
  no-address-shared sh other a first second h k =
      let is = shift-there sh (Contains-In sh shifts first) in
      let there = shift-there other (Contains-In other shifts second) in
      one-shift sh other is there (one_place ms plan v links locates answer is.place there.place a (lies-in sh is a h) (lies-in other there a k))

  -- ---- a byte of a section

  -- the base of a section whose bytes are moved is not below that of its region
  above : (n : ℕ) (x : Section) (move : Move) → slice_get own n ≡ Some x → (m : IsMoveOf ms plan v links locates n move) → move.from ≤ f (n, x)
  above n x move e m =
      let p = m.placing in
      let prefix = get-prefix own asked n x e in
      let less = slice_get_within (own ++ asked) n x prefix.0 in
      let total = length-append own asked in
      let before : placing_of (placings plan own asked) n ≡ Some p =
      sym (placing-before plan.regions whole (placings plan own asked) (length own + length asked) l.copied n (omega (arith, less, total))) ∙ m.placed in
      let member = placing_found (placings plan own asked) n p before in
      let there = placed_in plan own asked (loaded.aligned ms plan v links locates) (loaded.baseless ms plan v links locates) p member.0 in
      let same_region : there.region ≡ m.region = some_same there.region m.region (sym there.held ∙ m.held) in
      let same_section : there.section ≡ x = some_same there.section x (sym there.found ∙ ap (slice_get (own ++ asked)) member.1 ∙ prefix.0) in
      let free : x.base ≡ None = ap (λ (y : Section). y.base) (sym same_section) ∙ there.free in
      let placed : f (n, x) ≡ p.base = (λ i. (site_with (free i) (m.placed i)).base) in
      let low : m.region.base ≤ p.base = subst (λ (r : Region). r.base ≤ p.base) same_region there.above in
      let from : move.from ≡ m.region.base = ap (λ (o : Move). o.from) (sym m.is) in
      omega (arith, placed, low, from)

  move-back : (n : ℕ) (move : Move) → IsMoveOf ms plan v links locates n move → section_move l n ≡ Some move
  move-back n move m =
      ap (option_and_then (λ (p : Placing). move_from l p.region)) m.placed
      ∙ ap (option_and_then (λ (region : Region). move_of l (m.placing.region, region))) m.held
      ∙ ap (option_map (move_to l m.region)) m.found ∙ ap (λ (o : Move). Some o) m.is

  -- what lies in a section, common or copy is in the address space
  in-space : (place a : ℕ) → At place a → a < 2 ^ 64
  in-space place a lies =
      let x = lies.section in
      let none = first_some_none (misfit_by (2 ^ width ms) plan.regions (layout_placings l)) (numbered whole) misfits (place, x) place
      (get_enumerate 0 whole place x lies.found ∙ (let same = zero-add place in λ i. Some (same i, x))) in
      let site = site_by (layout_placings l) (place, x) in
      let all = chosen_none (is_misfit (2 ^ width ms) plan.regions site x.size) _ none in
      let inside = either_false (nat_le (2 ^ width ms) site.base || nat_lt (2 ^ width ms) (site.base + x.size)) (is_past plan.regions site.region (site.base + x.size)) all in
      let end = of_not_lt (2 ^ width ms) (site.base + x.size) (either_false (nat_le (2 ^ width ms) site.base) (nat_lt (2 ^ width ms) (site.base + x.size)) inside.0).1 in
      let high = lies.high in
      let space : 2 ^ width ms ≤ 2 ^ 64 = pow_mono narrow in
      omega (arith, end, high, space)
    where
      misfits : first_some (misfit_by (2 ^ width ms) plan.regions (layout_placings l)) (numbered whole) ≡ None
      misfits =
          let all = mapped_none placement _ (or_else_none (layout_fact ms l) (after_placing ms plan) answer).0 in
          (or_else_none _ _ (or_else_none (first_some (unplaced_at (listed_names plan.regions)) (numbered l.sections)) _ all).1).0

  -- a byte is moved as the extents say
  pub moved-there : (n from to : ℕ) → Loads n from to → shifted shifts from ≡ to
  moved-there n from to h = by_loads h.loads where
    x : Section
    x = h.home.section

    found : slice_get own n ≡ Some x
    found =
        let total = length-append own asked in
        let inner = h.inner in
        sym (get-front own asked n inner) ∙ sym (get-front (own ++ asked) (copy_sections l.copied) n (omega (arith, total, inner))) ∙ h.home.found

    by_loads : IsLoaded ms plan v links locates n from to h.place → shifted shifts from ≡ to
    by_loads (stays none same at low) =
        shifted-none shifts from (λ sh k has.
        let is = shift-there sh k in
        let one = one_place ms plan v links locates answer is.place n from (lies-in sh is from has) h.home in
        let clash = sym is.moved ∙ ap (section_move l) one ∙ none in cc) ∙ sym same
    by_loads (moves move m at low place) =
        let sh = shift_of l (n, x) move in
        let member = there-shift n x move found (move-back n move m) in
        let base = base-is n x found in
        let above = above n x move found m in
        let home = h.home in
        let low_home = home.low in
        let high_home = home.high in
        let space = in-space h.place to h.lies in
        let has : HasAddress sh from = (omega (arith, base, low_home), omega (arith, base, high_home)) in
        let single = λ (t : Shift) (k : In t shifts) (also : HasAddress t from).
        no-address-shared t sh from (In-Contains t shifts k) (In-Contains sh shifts member) also has in
        shifted-at sh shifts from member has single ∙ address move.to move.from (base_at l n) from to at (omega (arith, base, above)) (omega (arith, base, low_home)) space

  -- ---- all loaded bytes

  module _ (order : Order) where
    abbrev readings : List StepReading
    readings = readings_after s [] (steps ms)

    -- a loaded byte
    record IsLoadedByte (cell : Cell) : Type 0 where
      section : ℕ
      to : ℕ
      loads : Loads section cell.0 to

    byte-loads : (cell : Cell) → In cell (address_map order s.modulus readings) → IsLoadedByte cell
    byte-loads cell k =
        let there = flat_map-In (step_cells order s.modulus) cell readings k in
        record {
          section = reading_section there.0;
          to = (moved_cell l (reading_section there.0) cell).0;
          loads = loaded.cell_loads ms plan v links locates order there.0 there.1 cell there.2;
        }

    pub moved-cells : load_map l order s.modulus readings ≡ shifted_cells shifts (address_map order s.modulus readings)
    moved-cells =
        moved_steps shifts order s.modulus (λ step. moved_cell l (reading_section step)) readings (λ step k cell c.
        let to = (moved_cell l (reading_section step) cell).0 in
        let same = moved-there (reading_section step) cell.0 to (loaded.cell_loads ms plan v links locates order step k cell c) in
        λ i. (sym same i, cell.1))

    module _ (runs : List Run) (rows : AreRunsOf (address_map order s.modulus readings) runs) where
      of-runs : (cell : Cell) → Contains (run_cells runs) cell → IsLoadedByte cell
      of-runs cell k = byte-loads cell (Contains-In cell (address_map order s.modulus readings) ((rows.same cell).1 k))

      pub stays-low : AreLow (shifted_cells shifts (run_cells runs))
      stays-low a k =
          let cell = map-In (λ (c : Cell). c.0) a (shifted_cells shifts (run_cells runs)) (Contains-In a (cell_addresses (shifted_cells shifts (run_cells runs))) k) in
          let there = map-In (shifted_cell shifts) cell.0 (run_cells runs) cell.1 in
          let byte = of-runs there.0 (In-Contains there.0 (run_cells runs) there.1) in
          let to = moved-there byte.section there.0.0 byte.to byte.loads in
          let same : shifted shifts there.0.0 ≡ cell.0.0 = ap (λ (c : Cell). c.0) there.2 in
          let own : cell.0.0 ≡ a = cell.2 in
          let space = in-space byte.loads.place byte.to byte.loads.lies in
          omega (arith, to, same, own, space)

      pub is-low : AreLow (run_cells runs)
      is-low a k =
          let cell = map-In (λ (c : Cell). c.0) a (run_cells runs) (Contains-In a (cell_addresses (run_cells runs)) k) in
          let byte = of-runs cell.0 (In-Contains cell.0 (run_cells runs) cell.1) in
          let own : cell.0.0 ≡ a = cell.2 in
          let space = in-space byte.section cell.0.0 byte.loads.home in
          omega (arith, own, space)

      pub stays-apart : StayApart shifts (run_cells runs)
      stays-apart x y k m e =
          let first = of-runs x k in
          let second = of-runs y m in
          let to : first.to ≡ second.to = sym (moved-there first.section x.0 first.to first.loads) ∙ e ∙ moved-there second.section y.0 second.to second.loads in
          one_origin ms plan v links locates answer first.section second.section x.0 y.0 first.to first.loads
          (subst (Loads second.section y.0) (sym to) second.loads)

      -- the runs of the moved bytes are those of the bytes at the addresses at which they are loaded
      pub moved-rows : (moved : List Run) → AreRunsOf (shifted_cells shifts (run_cells runs)) moved → AreRunsOf (load_map l order s.modulus readings) moved
      moved-rows moved h =
          subst (λ cells. AreRunsOf cells moved) (sym moved-cells)
          (runs_of_same_cells shifts (address_map order s.modulus readings) runs moved rows h)
