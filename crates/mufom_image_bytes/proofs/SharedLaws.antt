-- Chunks that go by address share an address exactly if one begins before the end of the one before it.
use Rattle.std.proofs.Common.{◌≡◌, ℕ, zero, suc, ◌+◌, ◌-◌, ◌<◌, ◌≤◌, min, List, [], ◌∷◌, ◌++◌, length, take, drop, Some, None, Bool, true, false}
use Rattle.std.proofs.Common.{◌||◌, ◌&&◌, inl, inr, refl, sym, ◌∙◌, ap, subst, arith, length-append}
use Rattle.std.specs.Prelude.{◌==◌, nat_lt, nat_le, slice_get, if◌then◌else◌}
use Rattle.std.specs.List.{sum_by}
use Rattle.std.specs.List.Sorted.{IsPermutation}
use Rattle.std.proofs.lemmas.List.Sums.{sum_by-cons}
use Rattle.std.proofs.lemmas.List.Sorted.{sum_by-IsPermutation}
use Rattle.mufom_place.specs.Facts.{◌or_else◌}
use Rattle.mufom_meaning.specs.Facts.{loaded_twice}
use Rattle.mufom_meaning.specs.Walk.{counted_from, has_number, first_twice}
use Rattle.mufom_numbers.proofs.Choices.{equal_numbers, of_lt, is_lt, of_not_lt, not_lt}
use Rattle.mufom_meaning.proofs.Members.{In}
use Rattle.mufom_meaning.proofs.Names.{get-skip}
use Rattle.mufom_meaning.proofs.Tests.{of_le, le_of}
use Rattle.mufom_image_bytes.specs.declared.chunk.Chunk.{Chunk}
use Rattle.mufom_image_bytes.specs.Chunks.{chunk_addresses, addresses_of, AreConsecutive}
use Rattle.mufom_image_bytes.specs.Shared.{part_of, shares_from, AreRisingFrom, HasByte}
use Rattle.mufom_image_bytes.proofs.TwiceLaws.{passed, twice-append}

-- ---- how often a number occurs in a list

abbrev bit : Bool → ℕ
bit b = if b then 1 else 0

abbrev total : {A : Type 0} → (A → ℕ) → List A → ℕ
total f [] = 0
total f (x ∷ xs) = f x + total f xs

total-sum : {A : Type 0} (f : A → ℕ) (xs : List A) → sum_by f xs ≡ total f xs
total-sum f [] = refl
total-sum f (x ∷ xs) = sum_by-cons f x xs ∙ ap (λ n. f x + n) (total-sum f xs)

total-permuted : {A : Type 0} (f : A → ℕ) (xs ys : List A) → IsPermutation xs ys → total f xs ≡ total f ys
total-permuted f xs ys h = sym (total-sum f xs) ∙ sym (sum_by-IsPermutation f xs ys h) ∙ total-sum f ys

total-append : {A : Type 0} (f : A → ℕ) (xs ys : List A) → total f (xs ++ ys) ≡ total f xs + total f ys
total-append f [] ys = omega arith
total-append f (x ∷ xs) ys = let later = total-append f xs ys in omega (arith, later)

abbrev times : ℕ → List ℕ → ℕ
times a xs = total (λ b. bit (b == a)) xs

same_bit : (a b : ℕ) → a ≡ b → bit (a == b) ≡ 1
same_bit a b e = grind (arith, e)

other_bit : (a b : ℕ) → (a == b) ≡ false → bit (a == b) ≡ 0
other_bit a b e = ap bit e

-- if no number occurs twice, each occurs once at most, and not again if it occurred earlier
none_often : (xs earlier : List ℕ) → first_twice earlier xs ≡ None → (a : ℕ) → (times a xs ≤ 1) × (has_number earlier a ≡ true → times a xs ≡ 0)
none_often [] earlier e a = (omega arith, λ there. refl)
none_often (x ∷ xs) earlier e a = by_case (has_number earlier x) refl e (none_often xs (x ∷ earlier)) where
  by_number : (c : Bool) → (x == a) ≡ c → has_number earlier x ≡ false → (times a xs ≤ 1) × (has_number (x ∷ earlier) a ≡ true → times a xs ≡ 0)
      → (times a (x ∷ xs) ≤ 1) × (has_number earlier a ≡ true → times a (x ∷ xs) ≡ 0)
  by_number true f none later =
      let gone = later.1 (ap (λ c. c || has_number earlier a) f) in
      let one = ap bit f in
      let same = equal_numbers x a f in
      (omega (arith, gone, one), λ there. absurd (let clash : has_number earlier x ≡ true = ap (has_number earlier) same ∙ there in cc))
  by_number false f none later =
      let zero_bit = ap bit f in (
        let few = later.0 in omega (arith, few, zero_bit),
        λ there. let gone = later.1 (ap (λ c. c || has_number earlier a) f ∙ there) in
            omega (arith, gone, zero_bit),
      )

  by_case : (b : Bool) → has_number earlier x ≡ b → (if b then Some (loaded_twice x) else first_twice (x ∷ earlier) xs) ≡ None
      → (first_twice (x ∷ earlier) xs ≡ None → (c : ℕ) → (times c xs ≤ 1) × (has_number (x ∷ earlier) c ≡ true → times c xs ≡ 0))
      → (times a (x ∷ xs) ≤ 1) × (has_number earlier a ≡ true → times a (x ∷ xs) ≡ 0)
  by_case true f e later = absurd cc
  by_case false f e later = by_number (x == a) refl f (later e a)

-- and back
often_none : (xs earlier : List ℕ) → ((a : ℕ) → times a xs ≤ 1) → ((a : ℕ) → has_number earlier a ≡ true → times a xs ≡ 0) → first_twice earlier xs ≡ None
often_none [] earlier few none = refl
often_none (x ∷ xs) earlier few none =
    ap (λ b. if b then Some (loaded_twice x) else first_twice (x ∷ earlier) xs) (absent (has_number earlier x) refl)
    ∙ often_none xs (x ∷ earlier) fewer later where
      one : bit (x == x) ≡ 1
      one = same_bit x x refl

      absent : (b : Bool) → has_number earlier x ≡ b → b ≡ false
      absent true e = let gone = none x e in absurd (omega (arith, gone, one))
      absent false e = refl

      fewer : (a : ℕ) → times a xs ≤ 1
      fewer a = let all = few a in omega (arith, all)

      by_number : (a : ℕ) (c : Bool) → (x == a) ≡ c → (c || has_number earlier a) ≡ true → times a xs ≡ 0
      by_number a true e h = let all = few a in let bit_one = ap bit e in omega (arith, all, bit_one)
      by_number a false e h = let gone = none a h in omega (arith, gone)

      later : (a : ℕ) → has_number (x ∷ earlier) a ≡ true → times a xs ≡ 0
      later a h = by_number a (x == a) refl h

not_zero : (n : ℕ) → (suc n == 0) ≡ false
not_zero n = grind arith

-- ---- how often an address occurs in a chunk

abbrev covers : ℕ → ℕ → ℕ → ℕ
covers low count a = bit (nat_le low a && nat_lt a (low + count))

covers_in : (low count a : ℕ) → low ≤ a → a < low + count → covers low count a ≡ 1
covers_in low count a h k = ap (λ b. bit (b && nat_lt a (low + count))) (of_le low a h) ∙ ap bit (is_lt a (low + count) k)

covers_at_most : (low count a : ℕ) → covers low count a ≤ 1
covers_at_most low count a = at_most (nat_le low a && nat_lt a (low + count)) where
  at_most : (b : Bool) → bit b ≤ 1
  at_most true = omega arith
  at_most false = omega arith

covers_below : (low count a : ℕ) → a < low → covers low count a ≡ 0
covers_below low count a h = grind (arith, h)

covers_above : (low count a : ℕ) → low + count ≤ a → covers low count a ≡ 0
covers_above low count a h = ap (λ b. bit (nat_le low a && b)) (not_lt a (low + count) h) ∙ last (nat_le low a) where
  last : (b : Bool) → bit (b && false) ≡ 0
  last true = refl
  last false = refl

covers_some : (low count a : ℕ) → 0 < covers low count a → (low ≤ a) × (a < low + count)
covers_some low count a h = by_case (nat_le low a) refl (nat_lt a (low + count)) refl h where
  by_case : (b : Bool) → nat_le low a ≡ b → (c : Bool) → nat_lt a (low + count) ≡ c → 0 < bit (b && c) → (low ≤ a) × (a < low + count)
  by_case true e true f k = (le_of low a e, of_lt a (low + count) f)
  by_case true e false f k = absurd (omega (arith, k))
  by_case false e true f k = absurd (omega (arith, k))
  by_case false e false f k = absurd (omega (arith, k))

covers_nothing : (low a : ℕ) → covers low 0 a ≡ 0
covers_nothing low a = grind arith

times_counted : (n at a : ℕ) → times a (counted_from n at) ≡ covers at n a
times_counted zero at a = let none = covers_nothing at a in omega (arith, none)
times_counted (suc n) at a = by_case (at == a) refl (times_counted n (suc at) a) where
  by_case : (b : Bool) → (at == a) ≡ b → times a (counted_from n (suc at)) ≡ covers (suc at) n a → bit (at == a) + times a (counted_from n (suc at))
      ≡ covers at (suc n) a
  by_case true e later =
      let same = equal_numbers at a e in let one = ap bit e in
      let none : covers (suc at) n a ≡ 0 = covers_below (suc at) n a (omega (arith, same)) in
      let all : covers at (suc n) a ≡ 1 = covers_in at (suc n) a (omega (arith, same)) (omega (arith, same)) in omega (arith, one, none, all, later)
  by_case false e later =
      let none = ap bit e in
      let same : covers (suc at) n a ≡ covers at (suc n) a = moved e in omega (arith, none, same, later) where
        moved : (at == a) ≡ false → covers (suc at) n a ≡ covers at (suc n) a
        moved f = grind (arith, f)

take_counted : (m n at : ℕ) → take m (counted_from n at) ≡ counted_from (min n m) at
take_counted zero n at = let none : min n 0 ≡ 0 = omega arith in sym (ap (λ k. counted_from k at) none)
take_counted (suc m) zero at = let none : min 0 (suc m) ≡ 0 = omega arith in sym (ap (λ k. counted_from k at) none)
take_counted (suc m) (suc n) at =
    let next : min (suc n) (suc m) ≡ suc (min n m) = omega arith in
    ap (λ rest. at ∷ rest) (take_counted m n (suc at)) ∙ sym (ap (λ k. counted_from k at) next)

length_counted : (n at : ℕ) → length (counted_from n at) ≡ n
length_counted zero at = refl
length_counted (suc n) at = ap suc (length_counted n (suc at))

take-append : {A : Type 0} (m : ℕ) (xs ys : List A) → take m (xs ++ ys) ≡ take m xs ++ take (m - length xs) ys
take-append {A} m [] ys = let same : m ≡ m - length {A = A} [] = omega arith in ap (λ k. take k ys) same ∙ sym (take_none m) where
  take_none : (m : ℕ) → take m [] ++ take (m - length {A = A} []) ys ≡ take (m - length {A = A} []) ys
  take_none zero = refl
  take_none (suc m) = refl
take-append zero (x ∷ xs) ys = let none : 0 - length (x ∷ xs) ≡ 0 = omega arith in sym (ap (λ k. take k ys) none)
take-append (suc m) (x ∷ xs) ys =
    let same : m - length xs ≡ suc m - length (x ∷ xs) = omega arith in
    ap (λ rest. x ∷ rest) (take-append m xs ys ∙ ap (λ k. take m xs ++ take k ys) same)

-- ---- consecutive chunks

-- how often an address occurs in the part of a chunk among the first bytes
abbrev in_part : ℕ → ℕ → Chunk → ℕ
in_part k a c = covers c.address (part_of k c) a

pub times_consecutive : (k a start end : ℕ) (chunks : List Chunk) → AreConsecutive start chunks end
    → times a (take (k - start) (addresses_of chunks)) ≡ total (in_part k a) chunks
times_consecutive k a start end [] h = ap (times a) (take_none (k - start)) where
  take_none : (m : ℕ) → ◌≡◌ {A = List ℕ} (take m []) []
  take_none zero = refl
  take_none (suc m) = refl
times_consecutive k a start end (c ∷ chunks) h =
    let later = times_consecutive k a (start + c.count) end chunks h.2 in
    let from = h.0 in
    let own = ap (times a) (take_counted (k - start) c.count c.address) ∙ times_counted (min c.count (k - start)) c.address a in
    let part : min c.count (k - start) ≡ part_of k c = omega (arith, from) in
    let rest : (k - start) - length (chunk_addresses c) ≡ k - (start + c.count) = let n = length_counted c.count c.address in omega (arith, n) in
    ap (times a) (take-append (k - start) (chunk_addresses c) (addresses_of chunks))
    ∙ total-append (λ b. bit (b == a)) (take (k - start) (chunk_addresses c)) (take ((k - start) - length (chunk_addresses c)) (addresses_of chunks))
    ∙ ap (λ n. n + times a (take ((k - start) - length (chunk_addresses c)) (addresses_of chunks))) (own ∙ ap (λ n. covers c.address n a) part)
    ∙ ap (λ n. in_part k a c + times a (take n (addresses_of chunks))) rest
    ∙ ap (λ n. in_part k a c + n) later

pub length_consecutive : (start end : ℕ) (chunks : List Chunk) → AreConsecutive start chunks end → start + length (addresses_of chunks) ≡ end
length_consecutive start end [] h = let same = h in omega (arith, same)
length_consecutive start end (c ∷ chunks) h =
    let later = length_consecutive (start + c.count) end chunks h.2 in
    let own = length_counted c.count c.address in
    let both = length-append (chunk_addresses c) (addresses_of chunks) in
    omega (arith, later, own, both)

-- the address of a byte by its number
counted_get : (n at i : ℕ) → i < n → slice_get (counted_from n at) i ≡ Some (at + i)
counted_get zero at i less = absurd (omega (arith, less))
counted_get (suc n) at zero less = let same : at ≡ at + 0 = omega arith in ap Some same
counted_get (suc n) at (suc i) less = let same : suc at + i ≡ at + suc i = omega arith in counted_get n (suc at) i (omega (arith, less)) ∙ ap Some same

get_left : (xs ys : List ℕ) (i : ℕ) → i < length xs → slice_get (xs ++ ys) i ≡ slice_get xs i
get_left [] ys i less = absurd (omega (arith, less))
get_left (x ∷ xs) ys zero less = refl
get_left (x ∷ xs) ys (suc i) less = get_left xs ys i (omega (arith, less))

pub byte_address : (start end : ℕ) (chunks : List Chunk) → AreConsecutive start chunks end → (c : Chunk) → In c chunks → (n : ℕ) → HasByte c n
    → slice_get (addresses_of chunks) (n - start) ≡ Some (c.address + (n - c.start))
byte_address start end [] h c there n has = absurd there
byte_address start end (d ∷ chunks) h c (inl same) n has = subst (λ (e : Chunk). HasByte e n → slice_get (addresses_of (d ∷ chunks)) (n - start)
    ≡ Some (e.address + (n - e.start))) same first has where
      first : HasByte d n → slice_get (addresses_of (d ∷ chunks)) (n - start) ≡ Some (d.address + (n - d.start))
      first has =
          let from = h.0 in
          let less : n - start < d.count = omega (arith, from, has) in
          let own = length_counted d.count d.address in
          let short : n - start < length (chunk_addresses d) = omega (arith, less, own) in
          let same_offset : n - start ≡ n - d.start = omega (arith, from) in
          get_left (chunk_addresses d) (addresses_of chunks) (n - start) short ∙ counted_get d.count d.address (n - start) less
          ∙ ap (λ k. Some (d.address + k)) same_offset
byte_address start end (d ∷ chunks) h c (inr there) n has =
    let later = byte_address (start + d.count) end chunks h.2 c there n has in
    let low = starts_after (start + d.count) end chunks h.2 c there in
    let own = length_counted d.count d.address in
    let offset : n - start ≡ length (chunk_addresses d) + (n - (start + d.count)) = omega (arith, own, low, has) in
    ap (slice_get (addresses_of (d ∷ chunks))) offset ∙ get-skip (chunk_addresses d) (addresses_of chunks) (n - (start + d.count)) ∙ later where
      starts_after : (start end : ℕ) (chunks : List Chunk) → AreConsecutive start chunks end → (c : Chunk) → In c chunks → start ≤ c.start
      starts_after start end [] h c there = absurd there
      starts_after start end (e ∷ chunks) h c (inl same) = let from = h.0 in let equal : e.start ≡ c.start = ap (λ (x : Chunk). x.start) same in
          omega (arith, from, equal)
      starts_after start end (e ∷ chunks) h c (inr there) = let later = starts_after (start + e.count) end chunks h.2 c there in omega (arith, later)

pub byte_there : (start end : ℕ) (chunks : List Chunk) → AreConsecutive start chunks end → (n : ℕ) → start ≤ n → n < end → (c : Chunk) × In c chunks
    × HasByte c n
byte_there start end [] h n low high = let same = h in absurd (omega (arith, same, low, high))
byte_there start end (c ∷ chunks) h n low high = by_case (nat_lt n (start + c.count)) refl (byte_there (start + c.count) end chunks h.2 n) where
  by_case : (b : Bool) → nat_lt n (start + c.count) ≡ b → (start + c.count ≤ n → n < end → (d : Chunk) × In d chunks × HasByte d n) → (d : Chunk)
      × In d (c ∷ chunks) × HasByte d n
  by_case true e later = let less = of_lt n (start + c.count) e in let from = h.0 in (c, inl refl, (omega (arith, from, low), omega (arith, from, less)))
  by_case false e later = let more = of_not_lt n (start + c.count) e in let found = later more high in (found.0, inr found.1, found.2)

-- ---- chunks by address

-- if none begins before the end of the one before it, each address is in one at most, and at the end or after it
apart_chunks : (k end : ℕ) (chunks : List Chunk) → shares_from k end chunks ≡ false → (a : ℕ) → (total (in_part k a) chunks ≤ 1)
    × (a < end → total (in_part k a) chunks ≡ 0)
apart_chunks k end [] e a = (omega arith, λ less. refl)
apart_chunks k end (c ∷ chunks) e a = by_part (part_of k c) refl e (λ from f. apart_chunks k from chunks f a) where
  by_place : (n : ℕ) → part_of k c ≡ n → 0 < n → end ≤ c.address → (total (in_part k a) chunks ≤ 1) × (a < c.address + n → total (in_part k a) chunks ≡ 0)
      → (total (in_part k a) (c ∷ chunks) ≤ 1) × (a < end → total (in_part k a) (c ∷ chunks) ≡ 0)
  by_place n part some low later = (few (nat_lt a (c.address + n)) refl, none) where
    own : covers c.address (part_of k c) a ≡ covers c.address n a
    own = ap (λ m. covers c.address m a) part

    few : (b : Bool) → nat_lt a (c.address + n) ≡ b → total (in_part k a) (c ∷ chunks) ≤ 1
    few true f = let less = of_lt a (c.address + n) f in let gone = later.1 less in let one = covers_at_most c.address (part_of k c) a in
        omega (arith, gone, one)
    few false f = let above = covers_above c.address n a (of_not_lt a (c.address + n) f) in let most = later.0 in let same = own in
        omega (arith, above, most, same)

    none : a < end → total (in_part k a) (c ∷ chunks) ≡ 0
    none less =
        let gone = later.1 (omega (arith, less, low, some)) in let below = covers_below c.address n a (omega (arith, less, low)) in let same = own in
        omega (arith, gone, below, same)

  by_test : (n : ℕ) → part_of k c ≡ n → 0 < n → (b : Bool) → nat_lt c.address end ≡ b → (if b then true else shares_from k (c.address + n) chunks) ≡ false
      → ((from : ℕ) → shares_from k from chunks ≡ false → (total (in_part k a) chunks ≤ 1) × (a < from → total (in_part k a) chunks ≡ 0))
      → (total (in_part k a) (c ∷ chunks) ≤ 1) × (a < end → total (in_part k a) (c ∷ chunks) ≡ 0)
  by_test n part some true f g later = absurd cc
  by_test n part some false f g later = by_place n part some (of_not_lt c.address end f) (later (c.address + n) g)

  by_part : (n : ℕ) → part_of k c ≡ n → (if n == 0 then shares_from k end chunks
      else (if nat_lt c.address end then true else shares_from k (c.address + n) chunks)) ≡ false
      → ((from : ℕ) → shares_from k from chunks ≡ false → (total (in_part k a) chunks ≤ 1) × (a < from → total (in_part k a) chunks ≡ 0))
      → (total (in_part k a) (c ∷ chunks) ≤ 1) × (a < end → total (in_part k a) (c ∷ chunks) ≡ 0)
  by_part zero part g later =
      let none : covers c.address (part_of k c) a ≡ 0 = ap (λ m. covers c.address m a) part ∙ covers_nothing c.address a in
      let rest = later end g in
      (let most = rest.0 in omega (arith, most, none), λ less. let gone = rest.1 less in omega (arith, gone, none))
  by_part (suc n) part g later =
      by_test (suc n) part (omega arith) (nat_lt c.address end) refl
      (ap (λ b. if b then shares_from k end chunks else (if nat_lt c.address end then true else shares_from k (c.address + suc n) chunks))
      (sym (not_zero n)) ∙ g) later

weaker_rise : (low other : ℕ) (chunks : List Chunk) → low ≤ other → AreRisingFrom other chunks → AreRisingFrom low chunks
weaker_rise low other [] less h = h
weaker_rise low other (c ∷ chunks) less h = let first = h.0 in (omega (arith, less, first), h.1)

-- if one begins before the end of the one before it, its first address is in both
abbrev HasDouble : ℕ → Chunk → List Chunk → Type 0
HasDouble k p chunks = (a : ℕ) × (2 ≤ in_part k a p + total (in_part k a) chunks)

shared_after : (k : ℕ) (p : Chunk) (chunks : List Chunk) (end : ℕ) → end ≡ p.address + part_of k p → AreRisingFrom p.address chunks
    → shares_from k end chunks ≡ true → HasDouble k p chunks
shared_after k p [] end ends rise e = absurd cc
shared_after k p (c ∷ chunks) end ends rise e =
    by_part (part_of k c) refl e (λ f. shared_after k p chunks end ends (weaker_rise p.address c.address chunks rise.0 rise.1) f)
    (λ f. shared_after k c chunks (c.address + part_of k c) refl rise.1 f) where
      more : (a : ℕ) → 2 ≤ in_part k a p + total (in_part k a) chunks → HasDouble k p (c ∷ chunks)
      more a two = (a, omega (arith, two))

      next : (a : ℕ) → 2 ≤ in_part k a c + total (in_part k a) chunks → HasDouble k p (c ∷ chunks)
      next a two = (a, omega (arith, two))

      both : (n : ℕ) → part_of k c ≡ suc n → c.address < end → HasDouble k p (c ∷ chunks)
      both n part less =
          let low = rise.0 in
          let first : in_part k c.address p ≡ 1 = covers_in p.address (part_of k p) c.address low (omega (arith, less, ends)) in
          let second : in_part k c.address c ≡ 1 = covers_in c.address (part_of k c) c.address (omega arith) (omega (arith, part)) in
          (c.address, omega (arith, first, second))

      by_test : (n : ℕ) → part_of k c ≡ suc n → (b : Bool) → nat_lt c.address end ≡ b
          → (if b then true else shares_from k (c.address + part_of k c) chunks) ≡ true
          → (shares_from k (c.address + part_of k c) chunks ≡ true → HasDouble k c chunks) → HasDouble k p (c ∷ chunks)
      by_test n part true f g later = both n part (of_lt c.address end f)
      by_test n part false f g later = let there = later g in next there.0 there.1

      by_part : (n : ℕ) → part_of k c ≡ n → (if n == 0 then shares_from k end chunks
          else (if nat_lt c.address end then true else shares_from k (c.address + part_of k c) chunks)) ≡ true
          → (shares_from k end chunks ≡ true → HasDouble k p chunks) → (shares_from k (c.address + part_of k c) chunks ≡ true → HasDouble k c chunks)
          → HasDouble k p (c ∷ chunks)
      by_part zero part g same later = let there = same g in more there.0 there.1
      by_part (suc n) part g same later =
          by_test n part (nat_lt c.address end) refl
          (ap (λ b. if b then shares_from k end chunks else (if nat_lt c.address end then true else shares_from k (c.address + part_of k c) chunks))
          (sym (not_zero n)) ∙ g) later

shared_chunks : (k : ℕ) (chunks : List Chunk) → AreRisingFrom 0 chunks → shares_from k 0 chunks ≡ true → (a : ℕ) × (2 ≤ total (in_part k a) chunks)
shared_chunks k [] rise e = absurd cc
shared_chunks k (c ∷ chunks) rise e =
    by_part (part_of k c) refl e (λ f. shared_chunks k chunks (weaker_rise 0 c.address chunks rise.0 rise.1) f)
    (λ f. shared_after k c chunks (c.address + part_of k c) refl rise.1 f) where
      none_below : (a : ℕ) → nat_lt a 0 ≡ false
      none_below a = grind arith

      by_part : (n : ℕ) → part_of k c ≡ n → (if n == 0 then shares_from k 0 chunks
          else (if nat_lt c.address 0 then true else shares_from k (c.address + part_of k c) chunks)) ≡ true
          → (shares_from k 0 chunks ≡ true → (a : ℕ) × (2 ≤ total (in_part k a) chunks))
          → (shares_from k (c.address + part_of k c) chunks ≡ true → HasDouble k c chunks)
          → (a : ℕ) × (2 ≤ total (in_part k a) (c ∷ chunks))
      by_part zero part g same later = let there = same g in let two = there.1 in (there.0, omega (arith, two))
      by_part (suc n) part g same later =
          let there = later (ap (λ b. if b then true else shares_from k (c.address + part_of k c) chunks) (sym (none_below c.address))
          ∙ ap (λ b. if b then shares_from k 0 chunks else (if nat_lt c.address 0 then true else shares_from k (c.address + part_of k c) chunks))
          (sym (not_zero n)) ∙ g) in
          (there.0, there.1)

-- of no bytes none share an address
pub none_share : (end : ℕ) (chunks : List Chunk) → shares_from 0 end chunks ≡ false
none_share end [] = refl
none_share end (c ∷ chunks) =
    let none : part_of 0 c ≡ 0 = omega arith in
    ap (λ n. if n == 0 then shares_from 0 end chunks else (if nat_lt c.address end then true else shares_from 0 (c.address + n) chunks)) none
    ∙ none_share end chunks

-- so if some share one, there is a byte
pub some_byte : (count end : ℕ) (chunks : List Chunk) → shares_from count end chunks ≡ true → 0 < count
some_byte zero end chunks e = absurd (let none = none_share end chunks in cc)
some_byte (suc count) end chunks e = omega arith

-- ---- the first double

module _ (loaded chunks : List Chunk) (end : ℕ) (permuted : IsPermutation loaded chunks) (tiles : AreConsecutive 0 loaded end) where
  abbrev all : List ℕ
  all = addresses_of loaded

  times_part : (k a : ℕ) → times a (take k all) ≡ total (in_part k a) chunks
  times_part k a =
      let same : k ≡ k - 0 = omega arith in
      ap (λ n. times a (take n all)) same ∙ times_consecutive k a 0 end loaded tiles ∙ total-permuted (in_part k a) loaded chunks permuted

  -- among the first bytes no address occurs twice
  pub apart_part : (k : ℕ) → shares_from k 0 chunks ≡ false → first_twice [] (take k all) ≡ None
  apart_part k e = often_none (take k all) [] (λ a. let same = times_part k a in let most = (apart_chunks k 0 chunks e a).0 in
      omega (arith, same, most)) (λ a there. absurd cc)

  pub all_apart : shares_from end 0 chunks ≡ false → first_twice [] all ≡ None
  all_apart e = let long = length_consecutive 0 end loaded tiles in ap (first_twice []) (sym (take_whole end all (omega (arith, long))))
      ∙ apart_part end e where
        take_whole : (n : ℕ) (xs : List ℕ) → length xs ≤ n → take n xs ≡ xs
        take_whole zero [] less = refl
        take_whole zero (x ∷ xs) less = absurd (omega (arith, less))
        take_whole (suc n) [] less = refl
        take_whole (suc n) (x ∷ xs) less = ap (λ rest. x ∷ rest) (take_whole n xs (omega (arith, less)))

  -- among the first bytes some address occurs twice
  shared_part : (k : ℕ) → AreRisingFrom 0 chunks → shares_from k 0 chunks ≡ true → first_twice [] (take k all) ≡ None → ⊥
  shared_part k rise e none =
      let there = shared_chunks k chunks rise e in
      let few = (none_often (take k all) [] none there.0).0 in
      let same = times_part k there.0 in
      let two = there.1 in omega (arith, few, same, two)

  split_at : (n a : ℕ) (xs : List ℕ) → slice_get xs n ≡ Some a → (xs ≡ take n xs ++ a ∷ drop (suc n) xs) × (take (suc n) xs ≡ take n xs ++ a ∷ [])
  split_at n a [] e = absurd cc
  split_at zero a (x ∷ xs) e = let same : x ≡ a = cc in (ap (λ y. y ∷ xs) same, ap (λ y. y ∷ []) same)
  split_at (suc n) a (x ∷ xs) e = let later = split_at n a xs e in (ap (λ rest. x ∷ rest) later.0, ap (λ rest. x ∷ rest) later.1)

  -- the byte after which an address first occurs twice
  pub double_at : (n a : ℕ) → AreRisingFrom 0 chunks → shares_from n 0 chunks ≡ false → shares_from (n + 1) 0 chunks ≡ true → slice_get all n ≡ Some a
      → first_twice [] all ≡ Some (loaded_twice a)
  double_at n a rise apart shared at =
      let cut = split_at n a all at in
      let before = apart_part n apart in
      ap (first_twice []) cut.0 ∙ twice-append (take n all) [] (a ∷ drop (suc n) all)
      ∙ ap (λ o. o or_else first_twice (passed [] (take n all)) (a ∷ drop (suc n) all)) before
      ∙ ap (λ b. if b then Some (loaded_twice a) else first_twice (a ∷ passed [] (take n all)) (drop (suc n) all))
      (there (has_number (passed [] (take n all)) a) refl) where
        there : (b : Bool) → has_number (passed [] (take n all)) a ≡ b → b ≡ true
        there true e = refl
        there false e = absurd (shared_part (n + 1) rise shared (none e)) where
          none : has_number (passed [] (take n all)) a ≡ false → first_twice [] (take (n + 1) all) ≡ None
          none e =
              let next : n + 1 ≡ suc n = omega arith in
              ap (λ k. first_twice [] (take k all)) next ∙ ap (first_twice []) (split_at n a all at).1
              ∙ twice-append (take n all) [] (a ∷ [])
              ∙ ap (λ o. o or_else first_twice (passed [] (take n all)) (a ∷ [])) (apart_part n apart)
              ∙ ap (λ b. if b then Some (loaded_twice a) else None) e
