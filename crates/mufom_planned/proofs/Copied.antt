-- What a region places lies at its base or after it, and its copy has room for what it places and has bytes.
use Rattle.std.proofs.Common.{◌≡◌, ℕ, suc, ◌+◌, ◌-◌, ◌<◌, ◌≤◌, ◌⊎◌, inl, inr, max, List, [], ◌∷◌, ◌++◌, length, Option, Some, None, Bool, true, false}
use Rattle.std.proofs.Common.{refl, sym, ◌∙◌, ap, arith, cond, zero-add}
use Rattle.std.specs.Prelude.{slice_get, filter, option_and_then, position, is_none, ◌==◌, ◌&&◌, if◌then◌else◌}
use Rattle.std.specs.List.{enumerate_from}
use Rattle.std.proofs.Math.Nat.{lt-div-mul-add}
use Rattle.std.proofs.lemmas.Option.{slice_get-get_or}
use Rattle.std.proofs.lemmas.List.Quantifiers.{position-Some}
use Rattle.mufom_sections.specs.declared.section.Section.{Section}
use Rattle.mufom_plan.specs.declared.plan.Region.{Region}
use Rattle.mufom_plan.specs.declared.plan.Plan.{Plan}
use Rattle.mufom_plan.specs.Names.{listed_names, region_position}
use Rattle.mufom_place.specs.declared.placing.Waiting.{Waiting}
use Rattle.mufom_place.specs.declared.placing.Placing.{Placing}
use Rattle.mufom_place.specs.declared.placing.RegionCopy.{RegionCopy}
use Rattle.mufom_place.specs.Bases.{numbered, aligned_up, last_of, has_no_base, goes_to, stands_for, waiting, waiting_among, taken_by, waiting_commons}
use Rattle.mufom_place.specs.Bases.{commons_in, put_into, packed, placings, placing_of}
use Rattle.mufom_place.specs.Copies.{placed_by, placed_end, greatest, ends_in, has_any, copy_section, copy_if, copy_with, copies_from}
use Rattle.mufom_place.proofs.ExtentOrder.{of_same}
use Rattle.mufom_place.proofs.PlannedLemmas.{same_number}
use Rattle.mufom_meaning.proofs.Names.{get-prefix, get-skip}
use Rattle.mufom_meaning.proofs.Tests.{enumerate_get}
use Rattle.mufom_meaning.proofs.Members.{In, In-at, at-In, In-append, In-map, map-In, In-filter, filter-In, flat_map-In}

-- ---- what waits

-- it is the section or common at its position, which has no base, and an alignment of at least 1
pub record IsWaiting (all : List Section) (w : Waiting) : Type 0 where
  pub section : Section
  pub found : slice_get all w.section ≡ Some section
  pub free : section.base ≡ None
  pub aligned : 1 ≤ w.align

none_of : {A : Type 0} (o : Option A) → is_none o ≡ true → o ≡ None
none_of None e = refl
none_of (Some x) e = absurd cc

first_of_both : (a b : Bool) → (a && b) ≡ true → a ≡ true
first_of_both true b e = refl
first_of_both false b e = absurd cc

-- what passes a filter passes the test
filter-passes : {A : Type 0} (p : A → Bool) (x : A) (xs : List A) → In x (filter p xs) → p x ≡ true
filter-passes p x [] k = absurd k
filter-passes {A} p x (y ∷ ys) k = by_test (p y) refl k (filter-passes p x ys) where
  by_test : (b : Bool) → p y ≡ b → In x (cond b (y ∷ filter p ys) (filter p ys)) → (In x (filter p ys) → p x ≡ true) → p x ≡ true
  by_test true e (inl same) later = ap p (sym same) ∙ e
  by_test true e (inr k) later = later k
  by_test false e k later = later k

module _ (plan : Plan) (sections commons : List Section) (aligned : (s : Section) → In s (sections ++ commons) → 1 ≤ s.align)
    (baseless : (s : Section) → In s commons → s.base ≡ None) where
  abbrev all : List Section
  all = sections ++ commons

  listed_waits : (entry : List ℕ) (w : Waiting) → In w (waiting_among (listed_names plan.regions) (numbered sections) entry) → IsWaiting all w
  listed_waits entry w k =
      let from = map-In waiting w (filter (goes_to (listed_names plan.regions) entry) (numbered sections)) k in
      let t = from.0 in
      let passes = filter-passes (goes_to (listed_names plan.regions) entry) t (numbered sections) from.1 in
      let there = at-In t (numbered sections) (filter-In (goes_to (listed_names plan.regions) entry) t (numbered sections) from.1) in
      let own = enumerate_get 0 sections there.0 t there.1 in
      let place : w.section ≡ there.0 = ap (λ (v : Waiting). v.section) (sym from.2) ∙ own.0 ∙ zero-add there.0 in
      let found = ap (slice_get all) place ∙ (get-prefix sections commons there.0 t.1 own.1).0 in
      let align = ap (λ (v : Waiting). v.align) from.2 in
      let some = aligned t.1 (In-at t.1 all w.section found) in
      record {
        section = t.1;
        found = found;
        free = none_of t.1.base (first_of_both (has_no_base t.1) (stands_for (listed_names plan.regions) entry t.1.name) passes);
        aligned = omega (arith, align, some);
      }

  common_waits : (w : Waiting) → In w (waiting_commons sections commons) → IsWaiting all w
  common_waits w k =
      let from = map-In waiting w (enumerate_from (length sections) commons) k in
      let t = from.0 in
      let there = at-In t (enumerate_from (length sections) commons) from.1 in
      let own = enumerate_get (length sections) commons there.0 t there.1 in
      let place : w.section ≡ length sections + there.0 = ap (λ (v : Waiting). v.section) (sym from.2) ∙ own.0 in
      let found = ap (slice_get all) place ∙ get-skip sections commons there.0 ∙ own.1 in
      let align = ap (λ (v : Waiting). v.align) from.2 in
      let some = aligned t.1 (In-at t.1 all w.section found) in
      record { section = t.1; found = found; free = baseless t.1 (In-at t.1 commons there.0 own.1); aligned = omega (arith, align, some) }

  put_waits : (region : Region) (w : Waiting) → In w (put_into plan sections commons region) → IsWaiting all w
  put_waits region w k = by_case (In-append w (taken_by plan sections region) (commons_in region (waiting_commons sections commons)) k) where
    by_common : (b : Bool) → In w (if b then waiting_commons sections commons else []) → IsWaiting all w
    by_common true k = common_waits w k
    by_common false k = absurd k

    by_case : In w (taken_by plan sections region) ⊎ In w (commons_in region (waiting_commons sections commons)) → IsWaiting all w
    by_case (inl k) =
        let from = flat_map-In (waiting_among (listed_names plan.regions) (numbered sections)) w region.sections k in listed_waits from.0 w from.2
    by_case (inr k) = by_common region.common k

  -- ---- what is placed

  aligned_above : (align address : ℕ) → 1 ≤ align → address ≤ aligned_up align address
  aligned_above align address some =
      let positive : 0 < align = omega (arith, some) in
      let up = lt-div-mul-add {a = address + (align - 1)} {b = align} positive in
      omega (arith, up, some)

  -- a placing is that of a section or common without a base, at the base of its region or after it
  pub record IsPlacedIn (p : Placing) : Type 0 where
    pub region : Region
    pub held : slice_get plan.regions p.region ≡ Some region
    pub above : region.base ≤ p.base
    pub section : Section
    pub found : slice_get all p.section ≡ Some section
    pub free : section.base ≡ None

  -- the same of what is packed from an address on
  record IsPacked (n address : ℕ) (p : Placing) : Type 0 where
    region : p.region ≡ n
    above : address ≤ p.base
    section : Section
    found : slice_get all p.section ≡ Some section
    free : section.base ≡ None

  packed_above : (n address : ℕ) (ws : List Waiting) → ((w : Waiting) → In w ws → IsWaiting all w) → (p : Placing) → In p (packed n address ws)
      → IsPacked n address p
  packed_above n address [] h p k = absurd k
  packed_above n address (w ∷ ws) h p (inl e) =
      let own = h w (inl refl) in
      let up = aligned_above w.align address own.aligned in
      let base : aligned_up w.align address ≡ p.base = ap (λ (q : Placing). q.base) e in
      record {
        region = ap (λ (q : Placing). q.region) (sym e);
        above = omega (arith, up, base);
        section = own.section;
        found = ap (λ (q : Placing). slice_get all q.section) (sym e) ∙ own.found;
        free = own.free;
      }
  packed_above n address (w ∷ ws) h p (inr k) =
      let own = h w (inl refl) in
      let up = aligned_above w.align address own.aligned in
      let later = packed_above n (aligned_up w.align address + w.size) ws (λ v l. h v (inr l)) p k in
      let above = later.above in
      record { region = later.region; above = omega (arith, up, above); section = later.section; found = later.found; free = later.free }

  pub placed_in : (p : Placing) → In p (placings plan sections commons) → IsPlacedIn p
  placed_in p k =
      let from = flat_map-In (λ (r : ℕ × Region). packed r.0 r.1.base (put_into plan sections commons r.1)) p (enumerate_from 0 plan.regions) k in
      let r = from.0 in
      let own = packed_above r.0 r.1.base (put_into plan sections commons r.1) (put_waits r.1) p from.2 in
      let there = at-In r (enumerate_from 0 plan.regions) from.1 in
      let at = enumerate_get 0 plan.regions there.0 r there.1 in
      record {
        region = r.1;
        held = ap (slice_get plan.regions) (own.region ∙ at.0 ∙ zero-add there.0) ∙ at.1;
        above = own.above;
        section = own.section;
        found = own.found;
        free = own.free;
      }

-- what is found for a position is a placing of that position
pub placing_found : (ps : List Placing) (n : ℕ) (p : Placing) → placing_of ps n ≡ Some p → In p ps × (p.section ≡ n)
placing_found [] n p e = absurd cc
placing_found (q ∷ ps) n p e = by_case (q.section == n) refl (placing_of ps n) refl e (placing_found ps n p) where
  by_case : (b : Bool) → (q.section == n) ≡ b → (o : Option Placing) → placing_of ps n ≡ o → last_of (if b then Some q else None) o ≡ Some p
      → (placing_of ps n ≡ Some p → In p ps × (p.section ≡ n)) → In p (q ∷ ps) × (p.section ≡ n)
  by_case b f (Some r) g e later = let there = later (g ∙ e) in (inr there.0, there.1)
  by_case true f None g e later = let same : q ≡ p = cc in (inl same, ap (λ (x : Placing). x.section) (sym same) ∙ same_number q.section n f)
  by_case false f None g e later = absurd cc

-- ---- copies

-- the greatest of some numbers is none below each of them
greatest_of : (n : ℕ) (xs : List ℕ) (x : ℕ) → In x (n ∷ xs) → x ≤ greatest n xs
greatest_of n [] x (inl e) = omega (arith, e)
greatest_of n [] x (inr k) = absurd k
greatest_of n (m ∷ xs) x (inl e) = let rest = greatest_of (max n m) xs (max n m) (inl refl) in omega (arith, rest, e)
greatest_of n (m ∷ xs) x (inr (inl e)) = let rest = greatest_of (max n m) xs (max n m) (inl refl) in omega (arith, rest, e)
greatest_of n (m ∷ xs) x (inr (inr k)) = greatest_of (max n m) xs x (inr k)

-- the copy is that of a region, up to the greatest end in it
pub record IsCopyOf (sections : List Section) (loaded : List Placing) (n : ℕ) (regions : List Region) (c : RegionCopy) : Type 0 where
  pub place : ℕ
  pub region : Region
  pub found : slice_get regions place ≡ Some region
  pub source : c.source ≡ n + place
  pub section : c.section ≡ copy_section region (greatest region.base (ends_in sections c.source loaded) - region.base)

copy_here : (place : ℕ) (region : Region) (holder : Option ℕ) (has : Bool) (size : ℕ) (c : RegionCopy) → In c (copy_if place region holder has size)
    → (c.source ≡ place) × (c.section ≡ copy_section region size)
copy_here place region None has size c k = absurd k
copy_here place region (Some holder) false size c k = absurd k
copy_here place region (Some holder) true size c (inl e) = (ap (λ (x : RegionCopy). x.source) (sym e), ap (λ (x : RegionCopy). x.section) (sym e))
copy_here place region (Some holder) true size c (inr k) = absurd k

pub copy_of : (all : List Region) (sections : List Section) (loaded : List Placing) (n : ℕ) (regions : List Region) (c : RegionCopy)
    → In c (copies_from all sections loaded n regions) → IsCopyOf sections loaded n regions c
copy_of all sections loaded n [] c k = absurd k
copy_of all sections loaded n (region ∷ regions) c k =
    by_case (In-append c (copy_with n region (option_and_then (region_position all) region.load) (ends_in sections n loaded))
    (copies_from all sections loaded (n + 1) regions) k) (copy_of all sections loaded (n + 1) regions c) where
      by_case : In c (copy_with n region (option_and_then (region_position all) region.load) (ends_in sections n loaded))
          ⊎ In c (copies_from all sections loaded (n + 1) regions)
          → (In c (copies_from all sections loaded (n + 1) regions) → IsCopyOf sections loaded (n + 1) regions c)
          → IsCopyOf sections loaded n (region ∷ regions) c
      by_case (inl k) later =
          let ends = ends_in sections n loaded in
          let own = copy_here n region (option_and_then (region_position all) region.load) (has_any ends) (greatest region.base ends - region.base) c k in
          record {
            place = 0;
            region = region;
            found = refl;
            source = (let at = own.0 in omega (arith, at));
            section = own.1 ∙ ap (λ m. copy_section region (greatest region.base (ends_in sections m loaded) - region.base)) (sym own.0);
          }
      by_case (inr k) later =
          let there = later k in
          record {
            place = suc there.place;
            region = there.region;
            found = there.found;
            source = (let at = there.source in omega (arith, at));
            section = there.section;
          }

-- the end of a placing in a region is one of the ends there
pub end_in : (sections : List Section) (loaded : List Placing) (p : Placing) → In p loaded → In (placed_end sections p) (ends_in sections p.region loaded)
end_in sections loaded p k =
    In-map (placed_end sections) p (placed_by p.region loaded) (In-filter (λ (q : Placing). q.region == p.region) p (of_same p.region p.region refl) loaded k)

-- so it is none below the end of its region's copy
pub end_below : (sections : List Section) (loaded : List Placing) (p : Placing) (base : ℕ) → In p loaded
    → placed_end sections p ≤ greatest base (ends_in sections p.region loaded)
end_below sections loaded p base k = greatest_of base (ends_in sections p.region loaded) (placed_end sections p) (inr (end_in sections loaded p k))

-- the first copy of a region is one of it
pub copy_found : (copied : List RegionCopy) (k j : ℕ) → position (λ (c : RegionCopy). c.source == k) copied ≡ Some j
    → (c : RegionCopy) × (slice_get copied j ≡ Some c) × (c.source ≡ k)
copy_found [] k j e = absurd cc
copy_found (first ∷ more) k j e =
    let at = position-Some (λ (c : RegionCopy). c.source == k) (first ∷ more) j first e in
    (_, slice_get-get_or (first ∷ more) j first at.0, same_number _ k at.1)
