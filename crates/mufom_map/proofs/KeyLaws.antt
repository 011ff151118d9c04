-- Lists in the order of keys: of keys with positions by std's sort, and of what is found at the positions.
use Rattle.std.proofs.Common.{◌≡◌, ℕ, zero, suc, ◌+◌, ◌<◌, ◌≤◌, List, [], ◌∷◌, ◌++◌, length, map, take, get_or, Some, Bool, true, false, refl, sym}
use Rattle.std.proofs.Common.{◌∙◌, ap, subst, arith, rules, IsPermutation, is_lt, nat_cmp, Ordering, Less, Equal, Greater, nat_lt, ◌==◌}
use Rattle.std.proofs.Common.{if◌then◌else◌}
use Rattle.std.specs.Prelude.{slice_get}
use Rattle.std.specs.List.{AllByRecursion, IsDistinct, enumerate_from}
use Rattle.std.specs.List.Sorted.{IsSortedBy}
use Rattle.std.specs.Ordering.{ordering_then}
use Rattle.std.proofs.lemmas.List.{get_or-map, length-map, take_all, take_more}
use Rattle.std.proofs.lemmas.List.FromFn.{get_or-enumerate_from, length-enumerate_from}
use Rattle.std.proofs.lemmas.List.Sorted.{IsPermutation-map}
use Rattle.mufom_place.specs.declared.placing.Extent.{Extent}
use Rattle.mufom_place.proofs.ExtentOrder.{extent_cmp, same_section, sorted-in_order}
use Rattle.mufom_map.specs.Keys.{ArePositions, Key, key_of}
use Rattle.mufom_map.specs.MapText.{by_key, put_in}
use Rattle.mufom_map.proofs.OrderLaws.{AreLater, AreRising, by_key-in_order}

-- ---- keys with positions are extents

abbrev as_extent : Key → Extent
as_extent k = record { base = k.0; section = k.1; size = 0 }

abbrev as_key : Extent → Key
as_key e = (e.base, e.section)

keys_again : (keys : List Key) → map as_key (map as_extent keys) ≡ keys
keys_again [] = refl
keys_again (k ∷ keys) = ap (λ more. k ∷ more) (keys_again keys)

differ : (m n : ℕ) → m < n → (m == n) ≡ false
differ m n less = by_test (m == n) refl where
  by_test : (b : Bool) → (m == n) ≡ b → b ≡ false
  by_test true e = let same : m ≡ n = search (rules, e) in absurd (omega (arith, same, less))
  by_test false e = refl

later-other : (m n : ℕ) (keys : List Key) → m < n → ArePositions n keys → AllByRecursion (λ (y : Extent). (m == y.section) ≡ false) (map as_extent keys)
later-other m n [] less h = tt
later-other m n (k ∷ keys) less h = let above = h.0 in (
  differ m k.1 (omega (arith, less, above)),
  later-other m (k.1 + 1) keys (omega (arith, less, above)) h.1,
)

all-distinct : (n : ℕ) (keys : List Key) → ArePositions n keys → IsDistinct same_section (map as_extent keys)
unfolding IsDistinct
all-distinct n [] h = tt
all-distinct n (k ∷ keys) h = (later-other k.1 (k.1 + 1) keys (omega arith) h.1, all-distinct (k.1 + 1) keys h.1)

later-keys : (m n : ℕ) (keys : List Key) → m < n → ArePositions n keys → AreLater key_of as_extent (λ k. refl) m keys
later-keys m n [] less h = tt
later-keys m n (k ∷ keys) less h = let above = h.0 in (omega (arith, less, above), later-keys m (k.1 + 1) keys (omega (arith, less, above)) h.1)

rising-keys : (n : ℕ) (keys : List Key) → ArePositions n keys → AreRising key_of as_extent (λ k. refl) keys
rising-keys n [] h = tt
rising-keys n (k ∷ keys) h = (later-keys k.1 (k.1 + 1) keys (omega arith) h.1, rising-keys (k.1 + 1) keys h.1)

-- ---- std's order

abbrev pub pair_cmp : Key → Key → Ordering
pair_cmp x y = ordering_then (nat_cmp x.0 y.0) (nat_cmp x.1 y.1)

then-equal : (o : Ordering) → ordering_then o Equal ≡ o
then-equal Less = refl
then-equal Equal = refl
then-equal Greater = refl

cmp-same : (x y : Key) → extent_cmp (as_extent x) (as_extent y) ≡ pair_cmp x y
cmp-same x y = ap (ordering_then (nat_cmp x.0 y.0)) (then-equal (nat_cmp x.1 y.1))

sorted-extents : (keys : List Key) → IsSortedBy (λ x y. is_lt (pair_cmp x y)) keys → IsSortedBy (λ x y. is_lt (extent_cmp x y)) (map as_extent keys)
sorted-extents keys up k d low less =
    let long = length-map keys as_extent in
    let next : k + 1 < length keys = omega (arith, less, long) in
    let own = as_key d in
    let later = get_or-map as_extent keys (k + 1) own d next in
    let first = get_or-map as_extent keys k own d (omega (arith, next)) in
    (λ i. is_lt (extent_cmp (later i) (first i)))
    ∙ ap is_lt (cmp-same (get_or keys (k + 1) own) (get_or keys k own)) ∙ up k own low next

-- keys that std sorted are in the order of the definition
pub sorted-by_key : (keys sorted : List Key) → ArePositions 0 keys → IsPermutation keys sorted → IsSortedBy (λ x y. is_lt (pair_cmp x y)) sorted
    → sorted ≡ by_key key_of keys
sorted-by_key keys sorted h same up =
    let extents = sorted-in_order (map as_extent keys) (map as_extent sorted) (all-distinct 0 keys h) (IsPermutation-map as_extent keys sorted same)
    (sorted-extents sorted up)
    ∙ sym (by_key-in_order key_of as_extent (λ k. refl) keys (rising-keys 0 keys h)) in
    sym (keys_again sorted) ∙ ap (map as_key) extents ∙ keys_again (by_key key_of keys)

-- positions of a numbered list
pub numbered-positions : {X : Type 0} (key : ℕ × X → ℕ) (n : ℕ) (xs : List X) → ArePositions n (map (λ x. (key x, x.0)) (enumerate_from n xs))
numbered-positions key n [] = tt
numbered-positions key n (x ∷ xs) = (omega arith, numbered-positions key (n + 1) xs)

-- ---- what the keys are of

module _ {X Y : Type 0} (key : Y → ℕ) (f : X → Y) where
  put_in-map : (x : X) (ys : List X) → put_in key (f x) (map f ys) ≡ map f (put_in (λ (z : X). key (f z)) x ys)
  put_in-map x [] = refl
  put_in-map x (y ∷ ys) = by_test (nat_lt (key (f y)) (key (f x))) (put_in-map x ys) where
    by_test : (b : Bool) → put_in key (f x) (map f ys) ≡ map f (put_in (λ (z : X). key (f z)) x ys)
        → (if b then f y ∷ put_in key (f x) (map f ys) else f x ∷ f y ∷ map f ys)
        ≡ map f (if b then y ∷ put_in (λ (z : X). key (f z)) x ys else x ∷ y ∷ ys)
    by_test true rest = ap (λ zs. f y ∷ zs) rest
    by_test false rest = refl

  pub by_key-map : (xs : List X) → by_key key (map f xs) ≡ map f (by_key (λ (z : X). key (f z)) xs)
  by_key-map [] = refl
  by_key-map (x ∷ xs) = ap (put_in key (f x)) (by_key-map xs) ∙ put_in-map x (by_key (λ (z : X). key (f z)) xs)

module _ {X : Type 0} (P : X → Type 0) (key : X → ℕ) where
  put_in-all : (x : X) (ys : List X) → P x → AllByRecursion P ys → AllByRecursion P (put_in key x ys)
  put_in-all x [] h all = (h, tt)
  put_in-all x (y ∷ ys) h all = by_test (nat_lt (key y) (key x)) (put_in-all x ys h all.1) where
    by_test : (b : Bool) → AllByRecursion P (put_in key x ys) → AllByRecursion P (if b then y ∷ put_in key x ys else x ∷ y ∷ ys)
    by_test true rest = (all.0, rest)
    by_test false rest = (h, all)

  pub by_key-all : (xs : List X) → AllByRecursion P xs → AllByRecursion P (by_key key xs)
  by_key-all [] all = tt
  by_key-all (x ∷ xs) all = put_in-all x (by_key key xs) all.0 (by_key-all xs all.1)

-- ---- numbered lists, element by element

module _ {X : Type 0} (xs : List X) (i : ℕ) where
  numbered-long : i < length xs → i < length (enumerate_from 0 xs)
  numbered-long less = let same = length-enumerate_from 0 xs in omega (arith, same, less)

  pub numbered-more : (x : X) → i < length xs → x ≡ get_or xs i x → take (i + 1) (enumerate_from 0 xs) ≡ take i (enumerate_from 0 xs) ++ (i, x) ∷ []
  numbered-more x less is =
      let none : 0 + i ≡ i = omega arith in
      take_more (enumerate_from 0 xs) i (i, x) (numbered-long less)
      ∙ ap (λ s. take i (enumerate_from 0 xs) ++ s ∷ []) (get_or-enumerate_from 0 xs i (i, x) less ∙ (λ j. (none j, sym is j)))

  pub numbered-all : length xs ≤ i → take i (enumerate_from 0 xs) ≡ enumerate_from 0 xs
  numbered-all past = take_all i (enumerate_from 0 xs) (let same = length-enumerate_from 0 xs in omega (arith, same, past))

-- what each numbered element is of the list
numbered-from : {X : Type 0} (all : List X) (n : ℕ) (xs : List X) → ((i : ℕ) (x : X) → slice_get xs i ≡ Some x → slice_get all (n + i) ≡ Some x)
    → AllByRecursion (λ (s : ℕ × X). slice_get all s.0 ≡ Some s.1) (enumerate_from n xs)
numbered-from all n [] there = tt
numbered-from {X} all n (x ∷ xs) there =
    let same : n + 0 ≡ n = omega arith in (
      subst (λ (k : ℕ). slice_get all k ≡ Some x) same (there 0 x refl),
      numbered-from all (n + 1) xs (λ i y e. (let next : n + suc i ≡ (n + 1) + i = omega arith in
          subst (λ (k : ℕ). slice_get all k ≡ Some y) next (there (suc i) y e))),
    )

pub numbered-there : {X : Type 0} (xs : List X) → AllByRecursion (λ (s : ℕ × X). slice_get xs s.0 ≡ Some s.1) (enumerate_from 0 xs)
numbered-there {X} xs = numbered-from xs 0 xs (λ i x e. (let same : 0 + i ≡ i = omega arith in subst (λ (k : ℕ). slice_get xs k ≡ Some x) (sym same) e))

-- the element at a position of a list in which all have this
pub all-at : {X : Type 0} (P : X → Type 0) (xs : List X) (i : ℕ) (d : X) → i < length xs → AllByRecursion P xs → P (get_or xs i d)
all-at P [] i d less all = absurd (omega (arith, less))
all-at P (x ∷ xs) zero d less all = all.0
all-at P (x ∷ xs) (suc i) d less all = all-at P xs i d (omega (arith, less)) all.1
