-- Numbered elements in the order of their keys, and what a list of their keys in order tells of them.
use Rattle.std.proofs.Common.{◌≡◌, ℕ, ◌<◌, List, length, map, get_or, flat_map, Some, ap, ◌∙◌, arith}
use Rattle.std.specs.Prelude.{slice_get}
use Rattle.std.specs.List.{enumerate_from}
use Rattle.std.proofs.lemmas.List.{get_or-map, length-map}
use Rattle.std.proofs.lemmas.List.Folds.{flat_map-map}
use Rattle.std.proofs.lemmas.Option.{get_or_from_slice_get, slice_get_within}
use Rattle.mufom_map.specs.Keys.{Key, key_of}
use Rattle.mufom_map.specs.MapText.{by_key}
use Rattle.mufom_map.proofs.KeyLaws.{all-at, by_key-all, by_key-map, numbered-there}

module _ {X : Type 0} (key : ℕ × X → ℕ) (xs : List X) where
  -- the numbered elements in the order of their keys
  abbrev pub ordered : List (ℕ × X)
  ordered = by_key key (enumerate_from 0 xs)

  abbrev pub its_key : ℕ × X → Key
  its_key s = (key s, s.0)

  pub keys-are : by_key key_of (map its_key (enumerate_from 0 xs)) ≡ map its_key ordered
  keys-are = by_key-map key_of its_key (enumerate_from 0 xs)

  -- what is put for the elements that are made of them, in the order of their own keys
  pub made-in-order : {Y : Type 0} (own : Y → ℕ) (make : ℕ × X → Y) (write : Y → List ℕ)
      → flat_map write (by_key own (map make (enumerate_from 0 xs)))
      ≡ flat_map (λ (s : ℕ × X). write (make s)) (by_key (λ (s : ℕ × X). own (make s)) (enumerate_from 0 xs))
  made-in-order own make write =
      ap (flat_map write) (by_key-map own make (enumerate_from 0 xs))
      ∙ flat_map-map write make (by_key (λ (s : ℕ × X). own (make s)) (enumerate_from 0 xs))

  pub long : (items : List Key) → items ≡ by_key key_of (map its_key (enumerate_from 0 xs)) → length items ≡ length ordered
  long items are = ap length (are ∙ keys-are) ∙ length-map ordered its_key

  module _ (items : List Key) (are : items ≡ by_key key_of (map its_key (enumerate_from 0 xs))) (i : ℕ) (less : i < length items) (d : ℕ × X) where
    pub inside : i < length ordered
    inside = let all = long items are in omega (arith, all, less)

    -- the key at a place is that of the element at that place
    pub key-at : (e : Key) → get_or items i e ≡ its_key (get_or ordered i d)
    key-at e = ap (λ (ks : List Key). get_or ks i e) (are ∙ keys-are) ∙ get_or-map its_key ordered i d e inside

    there : slice_get xs (get_or ordered i d).0 ≡ Some (get_or ordered i d).1
    there = all-at (λ (s : ℕ × X). slice_get xs s.0 ≡ Some s.1) ordered i d inside
        (by_key-all (λ (s : ℕ × X). slice_get xs s.0 ≡ Some s.1) key (enumerate_from 0 xs) (numbered-there xs))

    pub element-at : (e : X) → get_or xs (get_or ordered i d).0 e ≡ (get_or ordered i d).1
    element-at e = get_or_from_slice_get xs (get_or ordered i d).0 (get_or ordered i d).1 e there

    pub number-inside : (get_or ordered i d).0 < length xs
    number-inside = slice_get_within xs (get_or ordered i d).0 (get_or ordered i d).1 there
