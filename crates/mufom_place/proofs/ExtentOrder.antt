-- Two ways to put extents in order agree: std's sort, and the one of the definition.
use Rattle.std.proofs.Common.{◌≡◌, ◌≢◌, ℕ, zero, suc, ◌+◌, ◌<◌, ◌≤◌, ◌⊎◌, inl, inr, List, [], ◌∷◌, length, get_or, Some, Bool, true, false, ◌&&◌}
use Rattle.std.proofs.Common.{◌||◌, cond, refl, sym, ap, ◌∙◌, subst, arith, rules, IsPermutation, is_lt, nat_cmp, Ordering, Less, Equal, Greater}
use Rattle.std.specs.Prelude.{slice_get, nat_lt, ◌==◌, if◌then◌else◌, Contains}
use Rattle.std.specs.List.{AllByRecursion, IsDistinct, enumerate_from}
use Rattle.std.specs.List.Sorted.{IsSortedBy}
use Rattle.std.specs.Ordering.{ordering_then}
use Rattle.std.proofs.lemmas.List.Sorted.{Contains-permutation, IsPermutation-sym}
use Rattle.std.proofs.lemmas.Map.Keys.{IsDistinct-IsPermutation, apart_from_distinct}
use Rattle.std.proofs.lemmas.Option.{slice_get-get_or, get_or_from_slice_get}
use Rattle.mufom_sections.specs.declared.section.Section.{Section}
use Rattle.mufom_place.specs.declared.placing.Extent.{Extent}
use Rattle.mufom_place.specs.Facts.{extents, is_before, put_in_order, in_order}

-- an element is in a list
abbrev pub StandsIn : {A : Type 0} → A → List A → Type 0
StandsIn x xs = (i : ℕ) × (slice_get xs i ≡ Some x)

pub less_of : (m n : ℕ) → nat_lt m n ≡ true → m < n
less_of m n e = search rules

pub false_less : (m n : ℕ) → nat_lt m n ≡ false → n ≤ m
false_less m n e = search rules

pub same_of : (m n : ℕ) → (m == n) ≡ true → m ≡ n
same_of m n e = search rules

pub of_same : (m n : ℕ) → m ≡ n → (m == n) ≡ true
of_same m n e = search rules

pub false_equal : (m n : ℕ) → (m == n) ≡ false → m ≢ n
false_equal m n e = λ same. (let t = of_same m n same in cc)

pub either : (a b : Bool) → (a || b) ≡ true → (a ≡ true) ⊎ (b ≡ true)
either true b e = inl refl
either false b e = inr e

pub either_false : (a b : Bool) → (a || b) ≡ false → (a ≡ false) × (b ≡ false)
either_false true b e = absurd cc
either_false false b e = (refl, e)

pub both : (a b : Bool) → (a && b) ≡ true → (a ≡ true) × (b ≡ true)
both true b e = (refl, e)
both false b e = absurd cc

-- one comes before another, by base and then by position
abbrev pub Comes : Extent → Extent → Type 0
Comes x y = (x.base < y.base) ⊎ ((x.base ≡ y.base) × (x.section < y.section))

comes_of : (x y : Extent) → is_before x y ≡ true → Comes x y
comes_of x y e = first (either (nat_lt x.base y.base) ((x.base == y.base) && nat_lt x.section y.section) e) where
  first : (nat_lt x.base y.base ≡ true) ⊎ (((x.base == y.base) && nat_lt x.section y.section) ≡ true) → Comes x y
  first (inl h) = inl (less_of x.base y.base h)
  first (inr h) = let two = both (x.base == y.base) (nat_lt x.section y.section) h in inr (same_of x.base y.base two.0, less_of x.section y.section two.1)

not_comes : (x y : Extent) → is_before x y ≡ false → x.section ≢ y.section → Comes y x
not_comes x y e differ =
    let outer = either_false (nat_lt x.base y.base) ((x.base == y.base) && nat_lt x.section y.section) e in
    let le : y.base ≤ x.base = false_less x.base y.base outer.0 in
    by_case (x.base == y.base) refl outer.1 le where
      by_case : (b : Bool) → (x.base == y.base) ≡ b → (b && nat_lt x.section y.section) ≡ false → y.base ≤ x.base → Comes y x
      by_case true e h le =
          let same = same_of x.base y.base e in
          let number : y.section ≤ x.section = false_less x.section y.section h in inr (sym same, omega (arith, number, differ))
      by_case false e h le = let other = false_equal x.base y.base e in inl (omega (arith, le, other))

-- each element comes before all later ones
abbrev pub InOrder : List Extent → Type 0
InOrder [] = Unit {0}
InOrder (x ∷ xs) = ((y : Extent) (i : ℕ) → slice_get xs i ≡ Some y → Comes x y) × InOrder xs

comes_trans : (x y z : Extent) → Comes x y → Comes y z → Comes x z
comes_trans x y z (inl a) (inl b) = inl (omega arith)
comes_trans x y z (inl a) (inr b) = let e = b.0 in inl (omega (arith, b.0))
comes_trans x y z (inr a) (inl b) = inl (omega (arith, a.0))
comes_trans x y z (inr a) (inr b) = inr (a.0 ∙ b.0, omega (arith, a.1, b.1))

pub comes_one_way : (x y : Extent) → Comes x y → Comes y x → ⊥
comes_one_way x y (inl a) (inl b) = omega arith
comes_one_way x y (inl a) (inr b) = omega (arith, b.0)
comes_one_way x y (inr a) (inl b) = omega (arith, a.0)
comes_one_way x y (inr a) (inr b) = omega (arith, a.1, b.1)

-- The order of the definition.

put_members : (x : Extent) (xs : List Extent) (y : Extent) (i : ℕ) → slice_get (put_in_order x xs) i ≡ Some y → (x ≡ y) ⊎ StandsIn y xs
put_members x [] y zero e = inl cc
put_members x [] y (suc i) e = absurd cc
put_members x (z ∷ xs) y i e = by_case (is_before x z) i e (put_members x xs y) where
  further : (x ≡ y) ⊎ StandsIn y xs → (x ≡ y) ⊎ StandsIn y (z ∷ xs)
  further (inl h) = inl h
  further (inr h) = inr (suc h.0, h.1)

  by_case : (b : Bool) (i : ℕ) → slice_get (if b then x ∷ z ∷ xs else z ∷ put_in_order x xs) i ≡ Some y
      → ((k : ℕ) → slice_get (put_in_order x xs) k ≡ Some y → (x ≡ y) ⊎ StandsIn y xs) → (x ≡ y) ⊎ StandsIn y (z ∷ xs)
  by_case true zero e later = inl cc
  by_case true (suc i) e later = inr (i, e)
  by_case false zero e later = inr (0, e)
  by_case false (suc i) e later = further (later i e)

put_there : (x : Extent) (xs : List Extent) → StandsIn x (put_in_order x xs)
put_there x [] = (0, refl)
put_there x (z ∷ xs) = by_case (is_before x z) (put_there x xs) where
  by_case : (b : Bool) → StandsIn x (put_in_order x xs) → StandsIn x (if b then x ∷ z ∷ xs else z ∷ put_in_order x xs)
  by_case true h = (0, refl)
  by_case false h = (suc h.0, h.1)

put_keeps : (x : Extent) (xs : List Extent) (y : Extent) (i : ℕ) → slice_get xs i ≡ Some y → StandsIn y (put_in_order x xs)
put_keeps x [] y i e = absurd cc
put_keeps x (z ∷ xs) y i e = by_case (is_before x z) i e (put_keeps x xs y) where
  by_case : (b : Bool) (i : ℕ) → slice_get (z ∷ xs) i ≡ Some y → ((k : ℕ) → slice_get xs k ≡ Some y → StandsIn y (put_in_order x xs))
      → StandsIn y (if b then x ∷ z ∷ xs else z ∷ put_in_order x xs)
  by_case true i e later = (suc i, e)
  by_case false zero e later = (0, e)
  by_case false (suc i) e later = let found = later i e in (suc found.0, found.1)

-- no other element has the position of an element
abbrev OtherNumber : Extent → List Extent → Type 0
OtherNumber x xs = (y : Extent) (i : ℕ) → slice_get xs i ≡ Some y → x.section ≢ y.section

put_in_place : (x : Extent) (xs : List Extent) → OtherNumber x xs → InOrder xs → InOrder (put_in_order x xs)
put_in_place x [] other o = ((λ y i e. absurd cc), tt)
put_in_place x (z ∷ xs) other o = by_case (is_before x z) refl (put_in_place x xs (λ y i e. other y (suc i) e) o.1) where
  by_case : (b : Bool) → is_before x z ≡ b → InOrder (put_in_order x xs) → InOrder (if b then x ∷ z ∷ xs else z ∷ put_in_order x xs)
  by_case true e later = (first, o) where
    first : (y : Extent) (i : ℕ) → slice_get (z ∷ xs) i ≡ Some y → Comes x y
    first y zero h = let same : z ≡ y = cc in subst (Comes x) same (comes_of x z e)
    first y (suc i) h = comes_trans x z y (comes_of x z e) (o.0 y i h)
  by_case false e later = (first, later) where
    from : (y : Extent) → (x ≡ y) ⊎ StandsIn y xs → Comes z y
    from y (inl same) = subst (Comes z) same (not_comes x z e (other z 0 refl))
    from y (inr h) = o.0 y h.0 h.1

    first : (y : Extent) (i : ℕ) → slice_get (put_in_order x xs) i ≡ Some y → Comes z y
    first y i h = from y (put_members x xs y i h)

pub in_order_members : (xs : List Extent) (y : Extent) (i : ℕ) → slice_get (in_order xs) i ≡ Some y → StandsIn y xs
in_order_members [] y i e = absurd cc
in_order_members (x ∷ xs) y i e = from (put_members x (in_order xs) y i e) (in_order_members xs y) where
  from : (x ≡ y) ⊎ StandsIn y (in_order xs) → ((k : ℕ) → slice_get (in_order xs) k ≡ Some y → StandsIn y xs) → StandsIn y (x ∷ xs)
  from (inl same) later = (0, ap Some same)
  from (inr h) later = let found = later h.0 h.1 in (suc found.0, found.1)

pub in_order_keeps : (xs : List Extent) (y : Extent) (i : ℕ) → slice_get xs i ≡ Some y → StandsIn y (in_order xs)
in_order_keeps [] y i e = absurd cc
in_order_keeps (x ∷ xs) y zero e = let same : x ≡ y = cc in subst (λ z. StandsIn z (put_in_order x (in_order xs))) same (put_there x (in_order xs))
in_order_keeps (x ∷ xs) y (suc i) e = let found = in_order_keeps xs y i e in put_keeps x (in_order xs) y found.0 found.1

-- Positions that differ.

abbrev pub same_section : Extent → Extent → Bool
same_section x y = x.section == y.section

flips : (x y : Extent) → same_section x y ≡ same_section y x
flips x y = search rules

each_at : (x : Extent) (xs : List Extent) → AllByRecursion (λ y. same_section x y ≡ false) xs → OtherNumber x xs
each_at x [] h y i e = absurd cc
each_at x (z ∷ xs) h y zero e = let same : z ≡ y = cc in subst (λ (w : Extent). x.section ≢ w.section) same (false_equal x.section z.section h.0)
each_at x (z ∷ xs) h y (suc i) e = each_at x xs h.1 y i e

pub in_order-InOrder : (xs : List Extent) → IsDistinct same_section xs → InOrder (in_order xs)
unfolding IsDistinct
in_order-InOrder [] h = tt
in_order-InOrder (x ∷ xs) h =
    put_in_place x (in_order xs) (λ y i e. let there = in_order_members xs y i e in each_at x xs h.0 y there.0 there.1) (in_order-InOrder xs h.1)

-- the extents of numbered sections have different positions
from_above : (m n : ℕ) (sections : List Section) (placed : List ℕ) → m < n
    → AllByRecursion (λ (y : Extent). (m == y.section) ≡ false) (extents (enumerate_from n sections) placed)
from_above m n [] placed less = tt
from_above m n (section ∷ sections) [] less = tt
from_above m n (section ∷ sections) (base ∷ placed) less = by_case (section.size == 0) (from_above m (n + 1) sections placed (omega (arith, less))) where
  differ : (b : Bool) → (m == n) ≡ b → b ≡ false
  differ true e = let same = same_of m n e in absurd (omega (arith, same, less))
  differ false e = refl

  by_case : (b : Bool) → AllByRecursion (λ (y : Extent). (m == y.section) ≡ false) (extents (enumerate_from (n + 1) sections) placed)
      → AllByRecursion (λ (y : Extent). (m == y.section) ≡ false)
      (if b then extents (enumerate_from (n + 1) sections) placed
      else record { base = base; section = n; size = section.size } ∷ extents (enumerate_from (n + 1) sections) placed)
  by_case true later = later
  by_case false later = (differ (m == n) refl, later)

pub extents-distinct : (n : ℕ) (sections : List Section) (placed : List ℕ) → IsDistinct same_section (extents (enumerate_from n sections) placed)
unfolding IsDistinct
extents-distinct n [] placed = tt
extents-distinct n (section ∷ sections) [] = tt
extents-distinct n (section ∷ sections) (base ∷ placed) = by_case (section.size == 0) (extents-distinct (n + 1) sections placed) where
  by_case : (b : Bool) → IsDistinct same_section (extents (enumerate_from (n + 1) sections) placed)
      → IsDistinct same_section (if b then extents (enumerate_from (n + 1) sections) placed
      else record { base = base; section = n; size = section.size } ∷ extents (enumerate_from (n + 1) sections) placed)
  by_case true later = later
  by_case false later = (from_above n (n + 1) sections placed (omega arith), later)

-- Std's order.

abbrev pub extent_cmp : Extent → Extent → Ordering
extent_cmp x y = ordering_then (nat_cmp x.base y.base) (ordering_then (nat_cmp x.section y.section) (nat_cmp x.size y.size))

-- of two extents of which the second does not come before the first, the first comes before the second
comes_from_cmp : (x y : Extent) → x.section ≢ y.section → is_lt (extent_cmp y x) ≡ false → Comes x y
comes_from_cmp x y differ e = by_base (nat_lt y.base x.base) (y.base == x.base) (nat_lt y.section x.section) (y.section == x.section) refl refl refl
    refl e where
      by_base : (less same earlier equal : Bool) → nat_lt y.base x.base ≡ less → (y.base == x.base) ≡ same → nat_lt y.section x.section ≡ earlier
          → (y.section == x.section) ≡ equal
          → is_lt (ordering_then (cond less Less (cond same Equal Greater))
          (ordering_then (cond earlier Less (cond equal Equal Greater)) (nat_cmp y.size x.size))) ≡ false → Comes x y
      by_base true same earlier equal a b c d h = absurd cc
      by_base false true true equal a b c d h = absurd cc
      by_base false true false equal a b c d h =
          let level = same_of y.base x.base b in let after : x.section ≤ y.section = false_less y.section x.section c in
          inr (sym level, omega (arith, after, differ))
      by_base false false earlier equal a b c d h =
          let after : x.base ≤ y.base = false_less y.base x.base a in let other = false_equal y.base x.base b in inl (omega (arith, after, other))

rising : (xs : List Extent) → ((k : ℕ) (d : Extent) → suc k < length xs → Comes (get_or xs k d) (get_or xs (suc k) d)) → InOrder xs
rising [] up = tt
rising (x ∷ []) up = ((λ y i e. absurd cc), tt)
rising (x ∷ y ∷ more) up = following (rising (y ∷ more) (λ k d h. up (suc k) d (omega (arith, h)))) where
  following : InOrder (y ∷ more) → InOrder (x ∷ y ∷ more)
  following rest = (first, rest) where
    first : (z : Extent) (i : ℕ) → slice_get (y ∷ more) i ≡ Some z → Comes x z
    first z zero e = let same : y ≡ z = cc in subst (Comes x) same (up 0 x (omega arith))
    first z (suc i) e = comes_trans x y z (up 0 x (omega arith)) (rest.0 z i e)

sorted-InOrder : (xs : List Extent) → IsDistinct same_section xs → IsSortedBy (λ x y. is_lt (extent_cmp x y)) xs → InOrder xs
sorted-InOrder xs h up = rising xs (λ k d less. step k d less) where
  step : (k : ℕ) (d : Extent) → suc k < length xs → Comes (get_or xs k d) (get_or xs (suc k) d)
  step k d less =
      let next : k + 1 ≡ suc k = omega arith in
      let adjacent = up k d (omega arith) (omega (arith, less)) in
      let away = apart_from_distinct same_section xs k (suc k) d h (omega arith) less in
      comes_from_cmp (get_or xs k d) (get_or xs (suc k) d) (false_equal (get_or xs k d).section (get_or xs (suc k) d).section away)
      (subst (λ j. is_lt (extent_cmp (get_or xs j d) (get_or xs k d)) ≡ false) next adjacent)

-- Two lists in order with the same elements are one list.

stands_within : (xs : List Extent) (i : ℕ) (y : Extent) → slice_get xs i ≡ Some y → i < length xs
stands_within [] i y e = absurd cc
stands_within (x ∷ xs) zero y e = omega arith
stands_within (x ∷ xs) (suc i) y e = let later = stands_within xs i y e in omega (arith, later)

to_Contains : (xs : List Extent) (y : Extent) → StandsIn y xs → Contains xs y
to_Contains xs y h = (h.0, stands_within xs h.0 y h.1, get_or_from_slice_get xs h.0 y y h.1)

from_Contains : (xs : List Extent) (y : Extent) → Contains xs y → StandsIn y xs
from_Contains xs y h = (h.0, slice_get-get_or xs h.0 y h.1 ∙ ap Some h.2)

same_order : (xs ys : List Extent) → InOrder xs → InOrder ys → ((z : Extent) → StandsIn z xs → StandsIn z ys)
    → ((z : Extent) → StandsIn z ys → StandsIn z xs) → xs ≡ ys
same_order [] [] o p there back = refl
same_order [] (y ∷ ys) o p there back = let none = back y (0, refl) in absurd (empty none.0 none.1) where
  empty : (i : ℕ) → slice_get [] i ≡ Some y → ⊥
  empty i e = cc
same_order (x ∷ xs) [] o p there back = let none = there x (0, refl) in absurd (empty none.0 none.1) where
  empty : (i : ℕ) → slice_get [] i ≡ Some x → ⊥
  empty i e = cc
same_order (x ∷ xs) (y ∷ ys) o p there back = let equal = heads (there x (0, refl)) (back y (0, refl)) in let rest =
    same_order xs ys o.1 p.1 (forth equal) (home equal) in λ i. equal i ∷ rest i where
      heads : StandsIn x (y ∷ ys) → StandsIn y (x ∷ xs) → x ≡ y
      heads (zero, e) second = cc
      heads (suc i, e) (zero, f) = cc
      heads (suc i, e) (suc j, f) = absurd (comes_one_way x y (o.0 y j f) (p.0 x i e))

      forth : x ≡ y → (z : Extent) → StandsIn z xs → StandsIn z ys
      forth equal z h = at (there z (suc h.0, h.1)) where
        at : StandsIn z (y ∷ ys) → StandsIn z ys
        at (zero, e) = let same : y ≡ z = cc in let here = subst (Comes x) (sym (equal ∙ same)) (o.0 z h.0 h.1) in absurd (comes_one_way x x here here)
        at (suc i, e) = (i, e)

      home : x ≡ y → (z : Extent) → StandsIn z ys → StandsIn z xs
      home equal z h = at (back z (suc h.0, h.1)) where
        at : StandsIn z (x ∷ xs) → StandsIn z xs
        at (zero, e) = let same : x ≡ z = cc in let here = subst (Comes y) (sym (sym equal ∙ same)) (p.0 z h.0 h.1) in absurd (comes_one_way y y here here)
        at (suc i, e) = (i, e)

-- what std's sort makes of extents with different positions is their order
pub sorted-in_order : (xs ys : List Extent) → IsDistinct same_section xs → IsPermutation xs ys → IsSortedBy (λ x y. is_lt (extent_cmp x y)) ys → ys
    ≡ in_order xs
sorted-in_order xs ys h same up =
    same_order ys (in_order xs) (sorted-InOrder ys (IsDistinct-IsPermutation same_section flips xs ys same h) up) (in_order-InOrder xs h)
    (λ z there. let in_xs = from_Contains xs z (Contains-permutation ys xs z (IsPermutation-sym xs ys same) (to_Contains ys z there)) in
    in_order_keeps xs z in_xs.0 in_xs.1)
    (λ z there. from_Contains ys z (Contains-permutation xs ys z same (to_Contains xs z (in_order_members xs z there.0 there.1))))
