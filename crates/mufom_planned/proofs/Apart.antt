-- No address lies in two of the sections, commons and copies that a plan places. So no two bytes of a list are loaded at one address.
use Rattle.std.proofs.Common.{◌≡◌, ℕ, ◌+◌, inl, inr, List, [], ◌∷◌, ◌++◌, map, length, Some, None, Bool, true, false, refl}
use Rattle.std.proofs.Common.{sym, ◌∙◌, ap, subst, arith, zero-add, append-nil}
use Rattle.std.specs.Prelude.{slice_get, option_map, ◌==◌}
use Rattle.std.proofs.lemmas.Option.{slice_get-map}
use Rattle.mufom_sections.specs.declared.section.Section.{Section}
use Rattle.mufom_module.specs.declared.module.Order.{Order}
use Rattle.mufom_module.specs.declared.module.Parts.{Parts}
use Rattle.mufom_plan.specs.declared.plan.Plan.{Plan}
use Rattle.mufom_plan.specs.Names.{listed_names}
use Rattle.mufom_place.specs.declared.placing.RegionCopy.{RegionCopy}
use Rattle.mufom_place.specs.Bases.{Numbered, numbered, site_of}
use Rattle.mufom_place.specs.Copies.{fit_refusal}
use Rattle.mufom_place.specs.Facts.{Covers, first_some, unplaced_at, place_refusal}
use Rattle.mufom_place.proofs.ExtentOrder.{same_of, false_equal}
use Rattle.mufom_numbers.proofs.Choices.{some_same, mapped_none, mapped_some}
use Rattle.mufom_meaning.specs.Flat.{flat_sections, width}
use Rattle.mufom_meaning.specs.Placed.{placed_commons, planned_bases}
use Rattle.mufom_meaning.specs.Values.{Setting, setting}
use Rattle.mufom_meaning.specs.Steps.{steps, StepReading, readings_after}
use Rattle.mufom_meaning.specs.AddressMap.{Cell, step_cells, address_map}
use Rattle.mufom_meaning.specs.Location.{placed_sections}
use Rattle.mufom_meaning.specs.Facts.{placement}
use Rattle.mufom_meaning.specs.LinkAnswer.{link_answer}
use Rattle.mufom_meaning.specs.LocateAnswer.{locate_answer, after_placing}
use Rattle.mufom_meaning.specs.Staging.{AreValid}
use Rattle.mufom_meaning.specs.Absolute.{no_regions}
use Rattle.mufom_meaning.proofs.Tests.{enumerate_get, get_enumerate}
use Rattle.mufom_meaning.proofs.Members.{In, In-flat_map, In-left, map-In, flat_map-In}
use Rattle.mufom_meaning.proofs.locations.CellRuns.{HaveOwnAddresses}
use Rattle.mufom_meaning.proofs.locations.OwnAddresses.{own_append, own_addresses}
use Rattle.mufom_meaning.proofs.absolute.Cells.{own_apart, own_after}
use Rattle.mufom_meaning.proofs.absolute.Places.{all_apart}
use Rattle.mufom_meaning.proofs.absolute.Rows.{once}
use Rattle.mufom_planned.specs.Layout.{Layout, layout, layout_bases, layout_placings, whole_list, Move, move_to}
use Rattle.mufom_planned.specs.Planned.{layout_fact, copied_answer, reading_section, moved_cell, moved_cells, load_map}
use Rattle.mufom_planned.proofs.Copied.{copy_found}
use Rattle.mufom_planned.proofs.Loaded.{base_of, LiesAt, IsLoaded, stays, moves, IsMoveOf, HasLoadPlace, cell_loads}
use Rattle.mufom_planned.proofs.Locatable.{none_of_both}
use Rattle.mufom_planned.proofs.PlacedAgain.{section_at, placed_at, placed_again}

-- ---- cells that are moved apart

own_before : (xs ys : List Cell) → HaveOwnAddresses (xs ++ ys) → HaveOwnAddresses xs
own_before [] ys h = tt
own_before (x ∷ xs) ys h = (λ y k. h.0 y (In-left y xs ys k), own_before xs ys h.1)

own_moved : (g : Cell → Cell) (cells : List Cell) → HaveOwnAddresses cells → ((x y : Cell) → In x cells → In y cells → (g x).0 ≡ (g y).0 → x.0 ≡ y.0)
    → HaveOwnAddresses (map g cells)
own_moved g [] h one = tt
own_moved g (x ∷ cells) h one = (
  λ y k e. let from = map-In g y cells k in
      h.0 from.0 from.1 (one x from.0 (inl refl) (inr from.1) (e ∙ ap (λ (c : Cell). c.0) (sym from.2))),
  own_moved g cells h.1 (λ y z k l. one y z (inr k) (inr l)),
)

-- cells of which those at different addresses stay apart
own_loads : (l : Layout) (order : Order) (modulus : ℕ) (xs : List StepReading) → HaveOwnAddresses (address_map order modulus xs)
    → ((x y : StepReading) → In x xs → In y xs → (c d : Cell) → In c (step_cells order modulus x) → In d (step_cells order modulus y)
    → (moved_cell l (reading_section x) c).0 ≡ (moved_cell l (reading_section y) d).0 → c.0 ≡ d.0)
    → HaveOwnAddresses (load_map l order modulus xs)
own_loads l order modulus [] h one = tt
own_loads l order modulus (x ∷ xs) h one =
    own_append (moved_cells l order modulus x) (load_map l order modulus xs)
    (own_moved (moved_cell l (reading_section x)) (step_cells order modulus x) (own_before (step_cells order modulus x) (address_map order modulus xs) h)
    (λ c d k m. one x x (inl refl) (inl refl) c d k m))
    (own_loads l order modulus xs (own_after (step_cells order modulus x) (address_map order modulus xs) h) (λ y z k m. one y z (inr k) (inr m)))
    (λ a b k m e.
    let c = map-In (moved_cell l (reading_section x)) a (step_cells order modulus x) k in
    let step = flat_map-In (moved_cells l order modulus) b xs m in
    let d = map-In (moved_cell l (reading_section step.0)) b (step_cells order modulus step.0) step.2 in
    let same = ap (λ (z : Cell). z.0) c.2 ∙ e ∙ ap (λ (z : Cell). z.0) (sym d.2) in
    own_apart (step_cells order modulus x) (address_map order modulus xs) h c.0 d.0 c.1
    (In-flat_map (step_cells order modulus) step.0 d.0 xs step.1 d.1) (one x step.0 (inl refl) (inr step.1) c.0 d.0 c.1 d.1 same))

module _ (ms : List Parts) (plan : Plan) (v : AreValid ms) (links : link_answer ms ≡ None) (locates : locate_answer ms plan ≡ None)
    (answer : copied_answer ms plan ≡ None) where
  abbrev l : Layout
  l = layout ms plan

  abbrev whole : List Section
  whole = whole_list l

  abbrev f : Numbered → ℕ
  f = base_of ms plan v links locates

  abbrev At : ℕ → ℕ → Type 0
  At place address = LiesAt ms plan v links locates place address

  -- ---- the placed sections

  abbrev pub placed : List Section
  placed = placed_sections (layout_bases l) whole

  fit : fit_refusal (width ms) plan.regions (layout_placings l) whole ≡ None
  fit = (none_of_both (first_some (unplaced_at (listed_names plan.regions)) (numbered l.sections)) _
      (mapped_none placement _ (none_of_both (layout_fact ms l) (after_placing ms plan) answer).0)).1

  pub placed_fit : place_refusal (width ms) no_regions placed [] ≡ None
  placed_fit = placed_again (width ms) plan.regions (layout_placings l) whole fit

  pub placed_get : (n : ℕ) (x : Section) → slice_get whole n ≡ Some x → slice_get placed n ≡ Some (section_at f (n, x))
  placed_get n x e =
      ap (λ sections. slice_get sections n) (placed_at f whole) ∙ slice_get-map (section_at f) (numbered whole) n
      ∙ ap (option_map (section_at f)) (get_enumerate 0 whole n x e)
      ∙ (let same = zero-add n in λ i. Some (section_at f (same i, x)))

  pub get_placed : (n : ℕ) (y : Section) → slice_get placed n ≡ Some y → (x : Section) × (slice_get whole n ≡ Some x) × (section_at f (n, x) ≡ y)
  get_placed n y e =
      let there = mapped_some (section_at f) (slice_get (numbered whole) n) y
      (sym (slice_get-map (section_at f) (numbered whole) n) ∙ ap (λ sections. slice_get sections n) (sym (placed_at f whole)) ∙ e) in
      let own = enumerate_get 0 whole n there.0 there.1 in
      let place : there.0.0 ≡ n = own.0 ∙ zero-add n in
      (there.0.1, own.1, (λ i. section_at f (sym place i, there.0.1)) ∙ there.2)

  -- ---- addresses

  covers_at : (place address : ℕ) → At place address → Covers no_regions placed [] place address
  covers_at place address lies =
      let x = section_at f (place, lies.section) in
      record {
        section = x;
        site = site_of no_regions placed [] (place, x);
        at = record { found = ap (λ all. slice_get all place) (append-nil placed) ∙ placed_get place lies.section lies.found; placed = refl };
        above = lies.low;
        below = lies.high;
      }

  -- an address lies in one of them at most
  pub one_place : (p q address : ℕ) → At p address → At q address → p ≡ q
  one_place p q address first second = by_case (p == q) refl where
    by_case : (b : Bool) → (p == q) ≡ b → p ≡ q
    by_case true e = same_of p q e
    by_case false e = absurd (all_apart no_regions placed [] (width ms) placed_fit p q
        (record { differ = false_equal p q e; address = address; first = covers_at p address first; second = covers_at q address second }))

  -- ---- loaded bytes

  abbrev first_copy : ℕ
  first_copy = length (flat_sections ms) + length (placed_commons ms plan)

  -- moves into the copy at one position are one
  one_move : (m n : ℕ) (move other : Move) (a : IsMoveOf ms plan v links locates m move) (b : IsMoveOf ms plan v links locates n other)
      → a.copy ≡ b.copy → move ≡ other
  one_move m n move other a b same =
      let first = copy_found l.copied a.placing.region a.copy a.found in
      let second = copy_found l.copied b.placing.region b.copy b.found in
      let copies : first.0 ≡ second.0 = some_same first.0 second.0 (sym first.1 ∙ ap (slice_get l.copied) same ∙ second.1) in
      let source : a.placing.region ≡ b.placing.region = sym first.2 ∙ ap (λ (c : RegionCopy). c.source) copies ∙ second.2 in
      let region : a.region ≡ b.region = some_same a.region b.region (sym a.held ∙ ap (slice_get plan.regions) source ∙ b.held) in
      sym a.is ∙ (λ i. move_to l (region i) (same i)) ∙ b.is

  -- bytes that are loaded at one address are from one address
  pub one_origin : (m n x y to : ℕ) → HasLoadPlace ms plan v links locates m x to → HasLoadPlace ms plan v links locates n y to → x ≡ y
  one_origin m n x y to first second = by_loads first.loads second.loads where
    same : first.place ≡ second.place
    same = one_place first.place second.place to first.lies second.lies

    by_loads : IsLoaded ms plan v links locates m x to first.place → IsLoaded ms plan v links locates n y to second.place → x ≡ y
    by_loads (stays a at p less) (stays b there q more) = sym at ∙ there
    by_loads (stays a at p less) (moves move other there low q) = absurd (let place = same in omega (arith, place, p, less, q))
    by_loads (moves move own at low p) (stays b there q more) = absurd (let place = same in omega (arith, place, p, q, more))
    by_loads (moves move own at low p) (moves move' other there low' q) =
        let copies : own.copy ≡ other.copy = (let place = same in omega (arith, place, p, q)) in
        let one = one_move m n move move' own other copies in
        let from : move.from ≡ move'.from = ap (λ (o : Move). o.from) one in
        let into : move.to ≡ move'.to = ap (λ (o : Move). o.to) one in
        omega (arith, at, there, low, low', from, into)

  abbrev s : Setting
  s = setting ms (planned_bases ms plan)

  -- no two bytes are loaded at one address
  pub loads_own : (order : Order) → HaveOwnAddresses (load_map l order s.modulus (readings_after s [] (steps ms)))
  loads_own order =
      own_loads l order s.modulus (readings_after s [] (steps ms)) (own_addresses order ms s (once ms plan links locates)) (λ x y k m c d a b e.
      let first = cell_loads ms plan v links locates order x k c a in
      let second = cell_loads ms plan v links locates order y m d b in
      one_origin (reading_section x) (reading_section y) c.0 d.0 (moved_cell l (reading_section x) c).0 first
      (subst (λ to. HasLoadPlace ms plan v links locates (reading_section y) d.0 to) (sym e) second))
