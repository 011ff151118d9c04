-- What is returned in place of bases is a fact, and facts are returned.
use Rattle.std.proofs.Common.{◌≡◌, ◌≢◌, ℕ, zero, suc, ◌+◌, ◌<◌, ◌≤◌, ◌^◌, ◌⊎◌, inl, inr, List, [], ◌∷◌, ◌++◌, map, Option, Some, None, Bool, true}
use Rattle.std.proofs.Common.{false, not, ◌&&◌, ◌||◌, refl, sym, ap, ◌∙◌, subst, arith, rules}
use Rattle.std.specs.Prelude.{slice_get, is_none, nat_lt, nat_le, ◌==◌, if◌then◌else◌}
use Rattle.std.specs.List.{enumerate_from}
use Rattle.mufom_sections.specs.declared.section.Section.{Section}
use Rattle.mufom_plan.specs.declared.plan.Region.{Region}
use Rattle.mufom_plan.specs.declared.plan.Plan.{Plan}
use Rattle.mufom_plan.specs.Names.{listed_names}
use Rattle.mufom_place.specs.declared.refusal.PlaceRefusal.{PlaceRefusal}
use Rattle.mufom_place.specs.declared.refusal.PlaceRefusal.TheVariants.{Unplaced, Misfit, Overlap, NoMemory}
use Rattle.mufom_place.specs.declared.placing.AssignedBase.{AssignedBase}
use Rattle.mufom_place.specs.declared.placing.Extent.{Extent}
use Rattle.mufom_place.specs.Bases.{Numbered, numbered, has_no_base, is_listed, site_of, bases}
use Rattle.mufom_place.specs.Facts.{first_some, ◌or_else◌, is_unplaced, unplaced_at, is_past, is_past_region, is_misfit, misfit_at, extents, in_order}
use Rattle.mufom_place.specs.Facts.{first_overlap, place_refusal, IsUnplaced, EndsPast, IsMisfit, Covers, IsOverlap, Stands}
use Rattle.mufom_place.proofs.ExtentOrder.{StandsIn, less_of, false_less, same_of, false_equal, either, either_false, both, Comes, InOrder}
use Rattle.mufom_place.proofs.ExtentOrder.{in_order_members, in_order_keeps, in_order-InOrder, extents-distinct}

-- Looking for the first.

first_found : {A B : Type 0} (f : A → Option B) (xs : List A) (b : B) → first_some f xs ≡ Some b → (x : A) × StandsIn x xs × (f x ≡ Some b)
first_found f [] b e = absurd cc
first_found {A = A} {B = B} f (x ∷ xs) b e = by_first (f x) refl e (first_found f xs b) where
  by_first : (o : Option B) → f x ≡ o → o or_else first_some f xs ≡ Some b → (first_some f xs ≡ Some b → (y : A) × StandsIn y xs × (f y ≡ Some b))
      → (y : A) × StandsIn y (x ∷ xs) × (f y ≡ Some b)
  by_first (Some c) is e later = (x, (0, refl), is ∙ e)
  by_first None is e later = let found = later e in (found.0, (suc found.1.0, found.1.1), found.2)

none_found : {A B : Type 0} (f : A → Option B) (xs : List A) → first_some f xs ≡ None → (x : A) (i : ℕ) → slice_get xs i ≡ Some x → f x ≡ None
none_found f [] e x i h = absurd cc
none_found {A = A} {B = B} f (y ∷ xs) e x i h = by_first (f y) refl e i h (none_found f xs) where
  by_first : (o : Option B) → f y ≡ o → o or_else first_some f xs ≡ None → (i : ℕ) → slice_get (y ∷ xs) i ≡ Some x
      → (first_some f xs ≡ None → (z : A) (k : ℕ) → slice_get xs k ≡ Some z → f z ≡ None) → f x ≡ None
  by_first (Some c) is e i h later = absurd cc
  by_first None is e zero h later = let same : y ≡ x = cc in ap f (sym same) ∙ is
  by_first None is e (suc i) h later = later e x i h

-- the section at a position, with that position
enumerate_get : (k : ℕ) (xs : List Section) (i : ℕ) (p : Numbered) → slice_get (enumerate_from k xs) i ≡ Some p → (p.0 ≡ k + i) × (slice_get xs i ≡ Some p.1)
enumerate_get k [] i p e = absurd cc
enumerate_get k (x ∷ xs) zero p e = let a : (k, x) ≡ p = cc in let n : k ≡ k + 0 = omega arith in
    (sym (ap (λ (q : Numbered). q.0) a) ∙ n, ap (λ (q : Numbered). Some q.1) a)
enumerate_get k (x ∷ xs) (suc i) p e = let rest = enumerate_get (k + 1) xs i p e in let n : (k + 1) + i ≡ k + suc i = omega arith in (rest.0 ∙ n, rest.1)

get_enumerate : (k : ℕ) (xs : List Section) (i : ℕ) (x : Section) → slice_get xs i ≡ Some x → slice_get (enumerate_from k xs) i ≡ Some (k + i, x)
get_enumerate k [] i x e = absurd cc
get_enumerate k (y ∷ ys) zero x e = let same : y ≡ x = cc in let n : k ≡ k + 0 = omega arith in λ j. Some (n j, same j)
get_enumerate k (y ∷ ys) (suc i) x e = let rest = get_enumerate (k + 1) ys i x e in let n : (k + 1) + i ≡ k + suc i = omega arith in rest ∙ (λ j. Some (n j, x))

numbered_get : (sections : List Section) (s : Numbered) → StandsIn s (numbered sections) → slice_get sections s.0 ≡ Some s.1
numbered_get sections s h =
    let there = enumerate_get 0 sections h.0 s h.1 in let n : 0 + h.0 ≡ h.0 = omega arith in ap (slice_get sections) (there.0 ∙ n) ∙ there.1

get_numbered : (sections : List Section) (n : ℕ) (section : Section) → slice_get sections n ≡ Some section → slice_get (numbered sections) n ≡ Some (n, section)
get_numbered sections n section e = let at = get_enumerate 0 sections n section e in let z : 0 + n ≡ n = omega arith in at ∙ (λ i. Some (z i, section))

chosen_some : {A : Type 0} (b : Bool) (x y : A) → (if b then Some x else None) ≡ Some y → (b ≡ true) × (x ≡ y)
chosen_some true x y e = (refl, cc)
chosen_some false x y e = absurd cc

chosen_none : {A : Type 0} (b : Bool) (x : A) → (if b then Some x else None) ≡ None → b ≡ false
chosen_none true x e = absurd cc
chosen_none false x e = refl

none_of : (o : Option ℕ) → is_none o ≡ true → o ≡ None
none_of None e = refl
none_of (Some x) e = absurd cc

of_none : (o : Option ℕ) → o ≡ None → is_none o ≡ true
of_none o e = ap is_none e

not_of : (b : Bool) → not b ≡ true → b ≡ false
not_of true e = absurd cc
not_of false e = refl

le_of : (m n : ℕ) → nat_le m n ≡ true → m ≤ n
le_of m n e = search rules

of_le : (m n : ℕ) → m ≤ n → nat_le m n ≡ true
of_le m n h = search rules

of_less : (m n : ℕ) → m < n → nat_lt m n ≡ true
of_less m n h = search rules

module _ (plan : Plan) (sections : List Section) where
  -- Unplaced.

  pub unplaced_sound : (fact : PlaceRefusal) → first_some (unplaced_at (listed_names plan.regions)) (numbered sections) ≡ Some fact → (n : ℕ)
      × (fact ≡ Unplaced n) × IsUnplaced plan sections n
  unplaced_sound fact e =
      let found = first_found (unplaced_at (listed_names plan.regions)) (numbered sections) fact e in
      let s = found.0 in
      let test = chosen_some (is_unplaced (listed_names plan.regions) s.1) (Unplaced s.0) fact found.2 in
      let two = both (has_no_base s.1) (not (is_listed (listed_names plan.regions) s.1.name)) test.0 in (
        s.0,
        sym test.1,
        record {
          section = s.1;
          found = numbered_get sections s found.1;
          without = none_of s.1.base two.0;
          unlisted =
              not_of (is_listed (listed_names plan.regions) s.1.name) two.1;
        },
      )

  pub unplaced_complete : first_some (unplaced_at (listed_names plan.regions)) (numbered sections) ≡ None → (n : ℕ) → ¬ IsUnplaced plan sections n
  unplaced_complete e n h =
      let none = none_found (unplaced_at (listed_names plan.regions)) (numbered sections) e (n, h.section) n (get_numbered sections n h.section h.found) in
      let base = of_none h.section.base h.without in
      let unlisted = h.unlisted in
      let test : is_unplaced (listed_names plan.regions) h.section ≡ true = λ i. base i && not (unlisted i) in
      let not_so = chosen_none (is_unplaced (listed_names plan.regions) h.section) (Unplaced n) none in cc

module _ (plan : Plan) (sections commons : List Section) where
  -- Misfit.

  past_region_sound : (r : ℕ) (found : Option Region) (end : ℕ) → slice_get plan.regions r ≡ found → is_past_region found end ≡ true
      → EndsPast plan.regions r end
  past_region_sound r None end is e = absurd cc
  past_region_sound r (Some region) end is e = record { region = region; found = is; past = less_of (region.base + region.size) end e }

  past_sound : (region : Option ℕ) (end : ℕ) → is_past plan.regions region end ≡ true → (r : ℕ) × (region ≡ Some r) × EndsPast plan.regions r end
  past_sound None end e = absurd cc
  past_sound (Some r) end e = (r, refl, past_region_sound r (slice_get plan.regions r) end refl e)

  past_back : (r end : ℕ) → EndsPast plan.regions r end → is_past plan.regions (Some r) end ≡ true
  past_back r end h = ap (λ found. is_past_region found end) h.found ∙ of_less (h.region.base + h.region.size) end h.past

  abbrev Out : ℕ → AssignedBase → ℕ → Type 0
  Out modulus site size = (modulus ≤ site.base) ⊎ ((modulus < site.base + size)
      ⊎ ((r : ℕ) × (site.region ≡ Some r) × EndsPast plan.regions r (site.base + size)))

  out_sound : (modulus : ℕ) (site : AssignedBase) (size : ℕ) → is_misfit modulus plan.regions site size ≡ true → Out modulus site size
  out_sound modulus site size e = first (either (nat_le modulus site.base
      || nat_lt modulus (site.base + size)) (is_past plan.regions site.region (site.base + size)) e) where
        second : (nat_le modulus site.base ≡ true) ⊎ (nat_lt modulus (site.base + size) ≡ true) → Out modulus site size
        second (inl h) = inl (le_of modulus site.base h)
        second (inr h) = inr (inl (less_of modulus (site.base + size) h))

        first : ((nat_le modulus site.base || nat_lt modulus (site.base + size)) ≡ true) ⊎ (is_past plan.regions site.region (site.base + size) ≡ true)
            → Out modulus site size
        first (inl h) = second (either (nat_le modulus site.base) (nat_lt modulus (site.base + size)) h)
        first (inr h) = inr (inr (past_sound site.region (site.base + size) h))

  out_back : (modulus : ℕ) (site : AssignedBase) (size : ℕ) → Out modulus site size → is_misfit modulus plan.regions site size ≡ false → ⊥
  out_back modulus site size h e =
      let outer = either_false (nat_le modulus site.base || nat_lt modulus (site.base + size)) (is_past plan.regions site.region (site.base + size)) e in
      let inner = either_false (nat_le modulus site.base) (nat_lt modulus (site.base + size)) outer.0 in
      by_case h inner.0 inner.1 outer.1 where
        by_case : Out modulus site size → nat_le modulus site.base ≡ false → nat_lt modulus (site.base + size) ≡ false
            → is_past plan.regions site.region (site.base + size) ≡ false → ⊥
        by_case (inl h) x y z = let t = of_le modulus site.base h in cc
        by_case (inr (inl h)) x y z = let t = of_less modulus (site.base + size) h in cc
        by_case (inr (inr h)) x y z = let t : is_past plan.regions site.region (site.base + size) ≡ true =
            ap (λ region. is_past plan.regions region (site.base + size)) h.1 ∙ past_back h.0 (site.base + size) h.2 in cc

  pub misfit_sound : (modulus : ℕ) (fact : PlaceRefusal) → first_some (misfit_at modulus plan sections commons) (numbered (sections ++ commons)) ≡ Some fact
      → (n : ℕ) × (region : Option ℕ) × (fact ≡ Misfit n region) × IsMisfit modulus plan sections commons n region
  misfit_sound modulus fact e =
      let found = first_found (misfit_at modulus plan sections commons) (numbered (sections ++ commons)) fact e in
      let s = found.0 in
      let site = site_of plan sections commons s in
      let test = chosen_some (is_misfit modulus plan.regions site s.1.size) (Misfit s.0 site.region) fact found.2 in (
        s.0,
        site.region,
        sym test.1,
        record {
          section = s.1;
          site = site;
          at = record { found = numbered_get (sections ++ commons) s found.1; placed = refl };
          in_region = refl;
          out = out_sound modulus site s.1.size test.0;
        },
      )

  pub misfit_complete : (modulus : ℕ) → first_some (misfit_at modulus plan sections commons) (numbered (sections ++ commons)) ≡ None
      → (n : ℕ) (region : Option ℕ) → ¬ IsMisfit modulus plan sections commons n region
  misfit_complete modulus e n region h =
      let none = none_found (misfit_at modulus plan sections commons) (numbered (sections ++ commons)) e (n, h.section) n
      (get_numbered (sections ++ commons) n h.section h.at.found) in
      let test = chosen_none (is_misfit modulus plan.regions (site_of plan sections commons (n, h.section)) h.section.size)
      (Misfit n (site_of plan sections commons (n, h.section)).region) none in
      let here : is_misfit modulus plan.regions h.site h.section.size ≡ false =
      ap (λ (site : AssignedBase). is_misfit modulus plan.regions site h.section.size) h.at.placed ∙ test in
      out_back modulus h.site h.section.size (subst (λ (r : Option ℕ). (modulus ≤ h.site.base)
      ⊎ ((modulus < h.site.base + h.section.size) ⊎ ((k : ℕ) × (r ≡ Some k) × EndsPast plan.regions k (h.site.base + h.section.size))))
      h.in_region h.out) here

-- Overlap.

-- two neighbours that overlap, in order
abbrev pub Neighbours : List Extent → Extent → Extent → Type 0
Neighbours xs x y = StandsIn x xs × StandsIn y xs × Comes x y × (y.base < x.base + x.size)

pub overlap_at : (xs : List Extent) → InOrder xs → (fact : PlaceRefusal) → first_overlap xs ≡ Some fact → (x : Extent) × (y : Extent) × Neighbours xs x y
    × (fact ≡ Overlap x.section y.section)
overlap_at [] o fact e = absurd cc
overlap_at (x ∷ []) o fact e = absurd cc
overlap_at (x ∷ y ∷ xs) o fact e = by_case (nat_lt y.base (x.base + x.size)) refl e (overlap_at (y ∷ xs) o.1 fact) where
  by_case : (b : Bool) → nat_lt y.base (x.base + x.size) ≡ b → (if b then Some (Overlap x.section y.section) else first_overlap (y ∷ xs)) ≡ Some fact
      → (first_overlap (y ∷ xs) ≡ Some fact → (u : Extent) × (v : Extent) × Neighbours (y ∷ xs) u v × (fact ≡ Overlap u.section v.section))
      → (u : Extent) × (v : Extent) × Neighbours (x ∷ y ∷ xs) u v × (fact ≡ Overlap u.section v.section)
  by_case true h e later = (x, y, ((0, refl), (1, refl), o.0 y 0 refl, less_of y.base (x.base + x.size) h), cc)
  by_case false h e later = let found = later e in (
    found.0,
    found.1,
    ((suc found.2.0.0, found.2.0.1), (suc found.2.1.0, found.2.1.1), found.2.2, found.2.3),
    found.3,
  )

-- if no neighbours overlap, no two do
pub apart : (xs : List Extent) → InOrder xs → first_overlap xs ≡ None → (x y : Extent) (i j : ℕ) → i < j → slice_get xs i ≡ Some x → slice_get xs j
    ≡ Some y → x.base + x.size ≤ y.base
apart [] o e x y i j less a b = absurd cc
apart (u ∷ []) o e x y i zero less a b = absurd (omega arith)
apart (u ∷ []) o e x y i (suc j) less a b = absurd cc
apart (u ∷ v ∷ xs) o e x y i zero less a b = absurd (omega arith)
apart (u ∷ v ∷ xs) o e x y (suc i) (suc j) less a b = let smaller : i < j = omega (arith, less) in
    by_case (nat_lt v.base (u.base + u.size)) e (λ h. apart (v ∷ xs) o.1 h x y i j smaller a b) where
      by_case : (b : Bool) → (if b then Some (Overlap u.section v.section) else first_overlap (v ∷ xs)) ≡ None
          → (first_overlap (v ∷ xs) ≡ None → x.base + x.size ≤ y.base) → x.base + x.size ≤ y.base
      by_case true e later = absurd cc
      by_case false e later = later e
apart (u ∷ v ∷ xs) o e x y zero (suc j) less a b = by_case (nat_lt v.base (u.base + u.size)) refl e where
  same : u ≡ x
  same = cc

  rises : (j : ℕ) → slice_get (v ∷ xs) j ≡ Some y → v.base ≤ y.base
  rises zero h = let equal : v ≡ y = cc in let level : v.base ≡ y.base = ap (λ (z : Extent). z.base) equal in omega (arith, level)
  rises (suc j) h = from (o.1.0 y j h) where
    from : Comes v y → v.base ≤ y.base
    from (inl h) = omega (arith, h)
    from (inr h) = omega (arith, h.0)

  by_case : (b : Bool) → nat_lt v.base (u.base + u.size) ≡ b → (if b then Some (Overlap u.section v.section) else first_overlap (v ∷ xs)) ≡ None
      → x.base + x.size ≤ y.base
  by_case true h e = absurd cc
  by_case false h e =
      let here : u.base + u.size ≤ v.base = false_less v.base (u.base + u.size) h in
      let level : u.base + u.size ≡ x.base + x.size = ap (λ (z : Extent). z.base + z.size) same in
      let up = rises j b in omega (arith, here, level, up)

-- an extent is that of a section of positive size at its base
record IsExtentOf (k : ℕ) (sections : List Section) (placed : List ℕ) (x : Extent) : Type 0 where
  n : ℕ
  section : Section
  found : slice_get sections n ≡ Some section
  based : slice_get placed n ≡ Some x.base
  number : x.section ≡ k + n
  size : x.size ≡ section.size
  positive : 0 < section.size

extents_at : (k : ℕ) (sections : List Section) (placed : List ℕ) (x : Extent) (i : ℕ) → slice_get (extents (enumerate_from k sections) placed) i
    ≡ Some x → IsExtentOf k sections placed x
extents_at k [] placed x i e = absurd cc
extents_at k (section ∷ sections) [] x i e = absurd cc
extents_at k (section ∷ sections) (base ∷ placed) x i e = by_case (section.size == 0) refl i e (extents_at (k + 1) sections placed x) where
  after : IsExtentOf (k + 1) sections placed x → IsExtentOf k (section ∷ sections) (base ∷ placed) x
  after h = let number = h.number in record {
    n = suc h.n;
    section = h.section;
    found = h.found;
    based = h.based;
    number = omega (arith, number);
    size = h.size;
    positive = h.positive;
  }

  by_case : (b : Bool) → (section.size == 0) ≡ b → (i : ℕ)
      → slice_get (if b then extents (enumerate_from (k + 1) sections) placed
      else record { base = base; section = k; size = section.size } ∷ extents (enumerate_from (k + 1) sections) placed) i ≡ Some x
      → ((j : ℕ) → slice_get (extents (enumerate_from (k + 1) sections) placed) j ≡ Some x → IsExtentOf (k + 1) sections placed x)
      → IsExtentOf k (section ∷ sections) (base ∷ placed) x
  by_case true z i e later = after (later i e)
  by_case false z (suc i) e later = after (later i e)
  by_case false z zero e later =
      let same : record { base = base; section = k; size = section.size } ≡ x = cc in
      let differ = false_equal section.size 0 z in
      let none : k ≡ k + 0 = omega arith in
      record {
        n = 0;
        section = section;
        found = refl;
        based = ap (λ (w : Extent). Some w.base) same;
        number = sym (ap (λ (w : Extent). w.section) same) ∙ none;
        size = sym (ap (λ (w : Extent). w.size) same);
        positive = omega (arith, differ);
      }

extents_there : (k : ℕ) (sections : List Section) (placed : List ℕ) (n : ℕ) (section : Section) (base : ℕ) → slice_get sections n ≡ Some section
    → slice_get placed n ≡ Some base → 0 < section.size
    → (x : Extent) × (x.base ≡ base) × (x.section ≡ k + n) × (x.size ≡ section.size) × StandsIn x (extents (enumerate_from k sections) placed)
extents_there k [] placed n section base e f size = absurd cc
extents_there k (other ∷ sections) [] n section base e f size = absurd cc
extents_there k (other ∷ sections) (first ∷ placed) n section base e f size = by_case (other.size == 0) refl n e f (extents_there (k + 1) sections placed) where
  by_case : (b : Bool) → (other.size == 0) ≡ b → (n : ℕ) → slice_get (other ∷ sections) n ≡ Some section → slice_get (first ∷ placed) n ≡ Some base
      → ((n : ℕ) (s : Section) (a : ℕ) → slice_get sections n ≡ Some s → slice_get placed n ≡ Some a → 0 < s.size → (x : Extent) × (x.base ≡ a)
      × (x.section ≡ (k + 1) + n) × (x.size ≡ s.size) × StandsIn x (extents (enumerate_from (k + 1) sections) placed))
      → (x : Extent) × (x.base ≡ base) × (x.section ≡ k + n) × (x.size ≡ section.size)
      × StandsIn x (if b then extents (enumerate_from (k + 1) sections) placed
      else record { base = first; section = k; size = other.size } ∷ extents (enumerate_from (k + 1) sections) placed)
  by_case true z zero e f later =
      let same : other ≡ section = cc in let empty = same_of other.size 0 z in let level : other.size ≡ section.size =
      ap (λ (s : Section). s.size) same in absurd (omega (arith, empty, level, size))
  by_case true z (suc n) e f later = let found = later n section base e f size in let number = found.2 in
      (found.0, found.1, omega (arith, number), found.3, found.4)
  by_case false z zero e f later =
      let same : other ≡ section = cc in let at : first ≡ base = cc in let none : k ≡ k + 0 = omega arith in
      (record { base = first; section = k; size = other.size }, at, none, ap (λ (s : Section). s.size) same, (0, refl))
  by_case false z (suc n) e f later = let found = later n section base e f size in let number = found.2 in
      (found.0, found.1, omega (arith, number), found.3, (suc found.4.0, found.4.1))

get_map : {A B : Type 0} (f : A → B) (xs : List A) (i : ℕ) (x : A) → slice_get xs i ≡ Some x → slice_get (map f xs) i ≡ Some (f x)
get_map f [] i x e = absurd cc
get_map f (y ∷ ys) zero x e = let same : y ≡ x = cc in ap (λ z. Some (f z)) same
get_map f (y ∷ ys) (suc i) x e = get_map f ys i x e

module _ (plan : Plan) (sections commons : List Section) where
  abbrev placed : List ℕ
  placed = bases plan sections commons

  abbrev all : List Extent
  all = extents (numbered (sections ++ commons)) placed

  ordered : InOrder (in_order all)
  ordered = in_order-InOrder all (extents-distinct 0 (sections ++ commons) placed)

  base_there : (n : ℕ) (section : Section) → slice_get (sections ++ commons) n ≡ Some section → slice_get placed n
      ≡ Some (site_of plan sections commons (n, section)).base
  base_there n section e = get_map (λ (s : Numbered). (site_of plan sections commons s).base) (numbered (sections ++ commons)) n (n, section)
      (get_numbered (sections ++ commons) n section e)

  -- an address in an extent is in its section
  covers : (x : Extent) → IsExtentOf 0 (sections ++ commons) placed x → (address : ℕ) → x.base ≤ address → address < x.base + x.size
      → Covers plan sections commons x.section address
  covers x h address from to =
      let none : 0 + h.n ≡ h.n = omega arith in
      let number : x.section ≡ h.n = h.number ∙ none in
      let found : slice_get (sections ++ commons) x.section ≡ Some h.section = ap (slice_get (sections ++ commons)) number ∙ h.found in
      let there = base_there x.section h.section found in
      let base : x.base ≡ (site_of plan sections commons (x.section, h.section)).base = some_same (sym (ap (slice_get placed) number ∙ h.based) ∙ there) in
      let size = h.size in
      record {
        section = h.section;
        site = site_of plan sections commons (x.section, h.section);
        at = record { found = found; placed = refl };
        above = omega (arith, base, from);
        below = omega (arith, base, size, to);
      } where
        some_same : {a b : ℕ} → Some a ≡ Some b → a ≡ b
        some_same e = cc

  pub overlap_sound : (fact : PlaceRefusal) → first_overlap (in_order all) ≡ Some fact → (m : ℕ) × (n : ℕ) × (fact ≡ Overlap m n)
      × IsOverlap plan sections commons m n
  overlap_sound fact e =
      let found = overlap_at (in_order all) ordered fact e in
      let x = found.0 in let y = found.1 in
      let x_in = in_order_members all x found.2.0.0 found.2.0.1 in
      let y_in = in_order_members all y found.2.1.0 found.2.1.1 in
      let x_of = extents_at 0 (sections ++ commons) placed x x_in.0 x_in.1 in
      let y_of = extents_at 0 (sections ++ commons) placed y y_in.0 y_in.1 in
      let shared = found.2.3 in
      let y_size = y_of.size in let y_positive = y_of.positive in (
        x.section,
        y.section,
        found.3,
        record {
          differ = differ x y x_of y_of found.2.2;
          address = y.base;
          first = covers x x_of y.base (up x y found.2.2) shared;
          second = covers y y_of y.base (omega arith) (omega (arith, y_size, y_positive));
        },
      ) where
        up : (x y : Extent) → Comes x y → x.base ≤ y.base
        up x y (inl h) = omega (arith, h)
        up x y (inr h) = omega (arith, h.0)

        level : (x y : Extent) → IsExtentOf 0 (sections ++ commons) placed x → IsExtentOf 0 (sections ++ commons) placed y → x.section ≡ y.section
            → x.base ≡ y.base
        level x y a b same =
            let a_number = a.number in let b_number = b.number in
            let n : a.n ≡ b.n = omega (arith, a_number, b_number, same) in
            let both_there : Some x.base ≡ Some y.base = sym a.based ∙ ap (slice_get placed) n ∙ b.based in cc

        differ : (x y : Extent) → IsExtentOf 0 (sections ++ commons) placed x → IsExtentOf 0 (sections ++ commons) placed y → Comes x y → x.section ≢ y.section
        differ x y a b (inl h) same = let at = level x y a b same in omega (arith, h, at)
        differ x y a b (inr h) same = omega (arith, h.1, same)

  pub overlap_complete : first_overlap (in_order all) ≡ None → (m n : ℕ) → ¬ IsOverlap plan sections commons m n
  overlap_complete e m n h =
      let x = extent_at m h.address h.first in let y = extent_at n h.address h.second in
      let x_in = in_order_keeps all x.0 x.4.0 x.4.1 in let y_in = in_order_keeps all y.0 y.4.0 y.4.1 in
      let x_from = x.2 in let x_to = x.3 in let y_from = y.2 in let y_to = y.3 in
      by_order (compared x_in.0 y_in.0)
      (λ less. let end = apart (in_order all) ordered e x.0 y.0 x_in.0 y_in.0 less x_in.1 y_in.1 in omega (arith, end, x_to, y_from))
      (λ same. let equal : Some x.0 ≡ Some y.0 = sym x_in.1 ∙ ap (slice_get (in_order all)) same ∙ y_in.1 in
      let one : x.0 ≡ y.0 = some_same equal in h.differ (sym x.1 ∙ ap (λ (z : Extent). z.section) one ∙ y.1))
      (λ less. let end = apart (in_order all) ordered e y.0 x.0 y_in.0 x_in.0 less y_in.1 x_in.1 in omega (arith, end, y_to, x_from)) where
        some_same : {a b : Extent} → Some a ≡ Some b → a ≡ b
        some_same e = cc

        extent_at : (k address : ℕ) → Covers plan sections commons k address → (x : Extent) × (x.section ≡ k) × (x.base ≤ address)
            × (address < x.base + x.size) × StandsIn x all
        extent_at k address c =
            let above = c.above in let below = c.below in
            let there = base_there k c.section c.at.found in
            let site : c.site.base ≡ (site_of plan sections commons (k, c.section)).base = ap (λ (s : AssignedBase). s.base) c.at.placed in
            let x = extents_there 0 (sections ++ commons) placed k c.section (site_of plan sections commons (k, c.section)).base c.at.found there
            (omega (arith, above, below)) in
            let base = x.1 in let size = x.3 in let none : 0 + k ≡ k = omega arith in
            (x.0, x.2 ∙ none, omega (arith, base, site, above), omega (arith, base, site, size, below), x.4)

        compared : (i j : ℕ) → (i < j) ⊎ ((i ≡ j) ⊎ (j < i))
        compared i j = by_less (nat_lt i j) refl where
          by_same : (b : Bool) → (i == j) ≡ b → nat_lt i j ≡ false → (i < j) ⊎ ((i ≡ j) ⊎ (j < i))
          by_same true e f = inr (inl (same_of i j e))
          by_same false e f = let le : j ≤ i = false_less i j f in let other = false_equal i j e in inr (inr (omega (arith, le, other)))

          by_less : (b : Bool) → nat_lt i j ≡ b → (i < j) ⊎ ((i ≡ j) ⊎ (j < i))
          by_less true e = inl (less_of i j e)
          by_less false e = by_same (i == j) refl e

        by_order : {i j : ℕ} → (i < j) ⊎ ((i ≡ j) ⊎ (j < i)) → (i < j → ⊥) → (i ≡ j → ⊥) → (j < i → ⊥) → ⊥
        by_order (inl h) a b c = a h
        by_order (inr (inl h)) a b c = b h
        by_order (inr (inr h)) a b c = c h

-- All three, in the order in which they are returned.
module _ (width : ℕ) (plan : Plan) (sections commons : List Section) where
  abbrev unplaced : Option PlaceRefusal
  unplaced = first_some (unplaced_at (listed_names plan.regions)) (numbered sections)

  abbrev misfit : Option PlaceRefusal
  misfit = first_some (misfit_at (2 ^ width) plan sections commons) (numbered (sections ++ commons))

  abbrev overlap : Option PlaceRefusal
  overlap = first_overlap (in_order (extents (numbered (sections ++ commons)) (bases plan sections commons)))

  pub refusal_sound : (fact : PlaceRefusal) → place_refusal width plan sections commons ≡ Some fact → Stands width plan sections commons fact
  refusal_sound fact e = by_unplaced unplaced refl e where
    by_overlap : unplaced ≡ None → misfit ≡ None → overlap ≡ Some fact → Stands width plan sections commons fact
    by_overlap a b e = let found = overlap_sound plan sections commons fact e in
        subst (Stands width plan sections commons) (sym found.2) (
          unplaced_complete plan sections a,
          misfit_complete plan sections commons (2 ^ width) b,
          found.3,
        )

    by_misfit : (o : Option PlaceRefusal) → misfit ≡ o → unplaced ≡ None → o or_else overlap ≡ Some fact → Stands width plan sections commons fact
    by_misfit (Some other) is a e =
        let same : other ≡ fact = cc in let found = misfit_sound plan sections commons (2 ^ width) other is in
        subst (Stands width plan sections commons) (sym found.2 ∙ same) (unplaced_complete plan sections a, found.3)
    by_misfit None is a e = by_overlap a is e

    by_unplaced : (o : Option PlaceRefusal) → unplaced ≡ o → o or_else (misfit or_else overlap) ≡ Some fact → Stands width plan sections commons fact
    by_unplaced (Some other) is e =
        let same : other ≡ fact = cc in let found = unplaced_sound plan sections other is in
        subst (Stands width plan sections commons) (sym found.1 ∙ same) found.2
    by_unplaced None is e = by_misfit misfit refl is e

  pub refusal_complete : (fact : PlaceRefusal) → place_refusal width plan sections commons ≡ None → ¬ Stands width plan sections commons fact
  refusal_complete fact e = from fact (parts unplaced misfit overlap e) where
    parts : (a b c : Option PlaceRefusal) → a or_else (b or_else c) ≡ None → (a ≡ None) × (b ≡ None) × (c ≡ None)
    parts (Some x) b c e = absurd cc
    parts None (Some x) c e = absurd cc
    parts None None (Some x) e = absurd cc
    parts None None None e = (refl, refl, refl)

    from : (fact : PlaceRefusal) → (unplaced ≡ None) × (misfit ≡ None) × (overlap ≡ None) → ¬ Stands width plan sections commons fact
    from (Unplaced n) none h = unplaced_complete plan sections none.0 n h
    from (Misfit n region) none h = misfit_complete plan sections commons (2 ^ width) none.1 n region h.1
    from (Overlap m n) none h = overlap_complete plan sections commons none.2 m n h.2
    from NoMemory none h = h
