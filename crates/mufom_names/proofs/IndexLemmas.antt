-- An index as it is stored, a set of keys and a list of positions, and as contracts see it.
use Rattle.std.proofs.Common.{get_or, suc, ◌≡◌, ℕ, ◌+◌, ◌<◌, List, [], ◌∷◌, ◌++◌, length, map, Bool, true, false, not, cond, ◌||◌, nat_lt, Some, None}
use Rattle.std.proofs.Common.{is_none, refl, sym, ap, ◌∙◌, slice_get, position, arith, true≢false, if◌then◌else◌}
use Rattle.std.specs.List.{list_any, position_or_len, zip, IsDistinct, AllByRecursion}
use Rattle.std.specs.Str.{bytes_eq}
use Rattle.std.proofs.lemmas.Option.{slice_get-get_or}
use Rattle.mufom_names.specs.declared.index_key.NameKey.{NameKey}
use Rattle.mufom_names.specs.declared.index_key.OwnedKey.{OwnedKey}
use Rattle.mufom_names.specs.Index.{Entry, keys_of, position_of, with_entry, HaveDistinctKeys}

slice_get-past : (x : ℕ) (xs : List ℕ) (n : ℕ) → slice_get (x ∷ xs) (1 + n) ≡ slice_get xs n
slice_get-past x xs n = let e : 1 + n ≡ suc n = omega arith in ap (slice_get (x ∷ xs)) e

-- the bytes of a borrowed key, and of one that the index owns
abbrev pub borrowed : NameKey → List ℕ
borrowed key = key.bytes.now

abbrev pub own : OwnedKey → List ℕ
own key = key.bytes.items

-- of keys with these bytes
module _ {K : Type 0} (bytes : K → List ℕ) where
  -- the pairs of the kept keys and positions
  abbrev pub seen : List K → List ℕ → List Entry
  seen keys positions = zip (map bytes keys) positions

  -- the key is among those kept
  abbrev pub is_kept : List ℕ → List K → Bool
  is_kept key keys = list_any (λ kept. bytes_eq key (bytes kept)) keys

  pub seen-push : (keys : List K) (positions : List ℕ) (key : K) (place : ℕ) → length keys ≡ length positions
      → seen (keys ++ key ∷ []) (positions ++ place ∷ []) ≡ seen keys positions ++ (bytes key, place) ∷ []
  seen-push [] [] key place e = refl
  seen-push [] (p ∷ positions) key place e = absurd (omega (arith, e))
  seen-push (k ∷ keys) [] key place e = absurd (omega (arith, e))
  seen-push (k ∷ keys) (p ∷ positions) key place e = ap (λ rest. (bytes k, p) ∷ rest) (seen-push keys positions key place (omega (arith, e)))

  pub absent : (key : List ℕ) (keys : List K) (positions : List ℕ) → is_kept key keys ≡ false → position_of (seen keys positions) key ≡ None
  absent key [] positions e = refl
  absent key (k ∷ keys) [] e = refl
  absent key (k ∷ keys) (p ∷ positions) e = by_case (bytes_eq key (bytes k)) (absent key keys positions) e where
    by_case : (b : Bool) → (is_kept key keys ≡ false → position_of (seen keys positions) key ≡ None) → (b || is_kept key keys) ≡ false
        → cond b (Some p) (position_of (seen keys positions) key) ≡ None
    by_case true rest h = absurd (true≢false h)
    by_case false rest h = rest h

  -- the slot at which a kept key is found
  abbrev pub place_in : List ℕ → List K → ℕ
  place_in key keys = position_or_len (λ kept. bytes_eq key (bytes kept)) keys

  pub present : (key : List ℕ) (keys : List K) (positions : List ℕ) → length keys ≡ length positions → is_kept key keys ≡ true
      → position_of (seen keys positions) key ≡ slice_get positions (place_in key keys)
  present key [] positions e h = absurd (true≢false (sym h))
  present key (k ∷ keys) [] e h = absurd (omega (arith, e))
  present key (k ∷ keys) (p ∷ positions) e h = by_case (bytes_eq key (bytes k)) (present key keys positions (omega (arith, e))) h where
    by_case : (b : Bool) → (is_kept key keys ≡ true → position_of (seen keys positions) key ≡ slice_get positions (place_in key keys))
        → (b || is_kept key keys) ≡ true
        → cond b (Some p) (position_of (seen keys positions) key) ≡ slice_get (p ∷ positions) (cond (not b) (1 + place_in key keys) 0)
    by_case true rest h = refl
    by_case false rest h = rest h ∙ sym (slice_get-past p positions (place_in key keys))

  apart-seen : (k : K) (keys : List K) (positions : List ℕ) → AllByRecursion (λ other. bytes_eq (bytes k) (bytes other) ≡ false) keys
      → AllByRecursion (λ other. bytes_eq (bytes k) other ≡ false) (keys_of (seen keys positions))
  apart-seen k [] positions a = tt
  apart-seen k (l ∷ keys) [] a = tt
  apart-seen k (l ∷ keys) (p ∷ positions) a = (a.0, apart-seen k keys positions a.1)

  pub distinct-seen : (keys : List K) (positions : List ℕ) → IsDistinct (λ (key other : K). bytes_eq (bytes key) (bytes other)) keys
      → HaveDistinctKeys (seen keys positions)
  unfolding IsDistinct
  distinct-seen [] positions d = tt
  distinct-seen (k ∷ keys) [] d = tt
  distinct-seen (k ∷ keys) (p ∷ positions) d = (apart-seen k keys positions d.0, distinct-seen keys positions d.1)

  -- the slot that a search returns is the slot of the key
  pub position-place : (key : List ℕ) (keys : List K) (place : ℕ) → Some place ≡ position (λ kept. bytes_eq key (bytes kept)) keys → place ≡ place_in key keys
  position-place key keys place e = by_case (nat_lt (place_in key keys) (length keys)) e where
    by_case : (b : Bool) → Some place ≡ cond b (Some (place_in key keys)) None → place ≡ place_in key keys
    by_case true h = cc
    by_case false h = absurd (true≢false (ap (λ found. not (is_none found)) h))

  -- the position at the slot at which a kept key is found is that of the key
  pub found-at : (key : List ℕ) (keys : List K) (positions : List ℕ) (place its : ℕ) → length keys ≡ length positions → is_kept key keys ≡ true
      → place ≡ place_in key keys → place < length keys → its ≡ get_or positions place its → Some its ≡ position_of (seen keys positions) key
  found-at key keys positions place its lengths kept at inside is =
      ap Some is
      ∙ sym (slice_get-get_or positions place its (omega (arith, lengths, inside)))
      ∙ ap (slice_get positions) at
      ∙ sym (present key keys positions lengths kept)

  -- a new key goes last, with its position
  pub added-new : (keys : List K) (positions : List ℕ) (key : K) (place : ℕ) → length keys ≡ length positions → is_kept (bytes key) keys ≡ false
      → seen (keys ++ key ∷ []) (positions ++ place ∷ []) ≡ with_entry (seen keys positions) (bytes key) place
  added-new keys positions key place lengths new =
      seen-push keys positions key place lengths
      ∙ sym (ap (λ found. if is_none found then seen keys positions ++ (bytes key, place) ∷ []
      else seen keys positions) (absent (bytes key) keys positions new))

-- a key that has a position changes nothing
pub added-old : (entries : List Entry) (key : List ℕ) (its place : ℕ) → Some its ≡ position_of entries key → entries ≡ with_entry entries key place
added-old entries key its place e = ap (λ found. if is_none found then entries ++ (key, place) ∷ [] else entries) e

-- an element that was pushed and popped again
pub last-off : (xs ys more : List ℕ) (p : ℕ) → xs ++ p ∷ [] ≡ ys ++ more → length ys ≡ length xs → ys ≡ xs
last-off [] [] more p e l = refl
last-off [] (y ∷ ys) more p e l = absurd (omega (arith, l))
last-off (x ∷ xs) [] more p e l = absurd (omega (arith, l))
last-off (x ∷ xs) (y ∷ ys) more p e l =
    let head : y ≡ x = cc in
    let tails : xs ++ p ∷ [] ≡ ys ++ more = cc in
    let rest = last-off xs ys more p tails (omega (arith, l)) in
    cc

-- a key that is new was not there
pub was-new : (there added : Bool) → added ≡ not there → added ≡ true → there ≡ false
was-new true added e t = absurd (true≢false (sym t ∙ e))
was-new false added e t = refl

pub was-there : (there added : Bool) → added ≡ not there → added ≡ false → there ≡ true
was-there true added e t = refl
was-there false added e t = absurd (true≢false (sym e ∙ t))
