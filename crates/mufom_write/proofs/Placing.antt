-- Where the parts of a file begin, and how long it is.
use Rattle.std.proofs.Common.{◌≡◌, ℕ, zero, suc, Bool, ◌+◌, ◌^◌, ◌<◌, ◌≤◌, ◌==◌, cond, List, [], ◌∷◌, ◌++◌, length, take, drop, get_or, slice_set}
use Rattle.std.proofs.Common.{refl, sym, ap, ◌∙◌, arith, append_assoc, length-append, length-set}
use Rattle.std.specs.Prelude.{All}
use Rattle.std.specs.Int.{w32, to_be_bytes}
use Rattle.std.proofs.lemmas.List.{drop_more, drop_all, take_all, take_more_set}
use Rattle.std.proofs.lemmas.Bool.{ne_eqb, eq-eqb}
use Rattle.std.proofs.lemmas.List.Elements.{All-cons, All-nil}
use Rattle.mufom_debug.specs.Marks.{joined}
use Rattle.mufom_module.specs.declared.module.Parts.{Parts}
use Rattle.mufom_module.specs.Written as w
use Rattle.mufom_module.specs.Written.{shortest}
use Rattle.mufom_module.specs.Weights.{capped}
use Rattle.mufom_module.specs.Defects.{IsValid}
use Rattle.mufom_write.proofs.Loops.{joined_next}
use Rattle.mufom_write.proofs.Shorter.{length-form-parts, eight-offsets, written-fits}

-- ---- counts

pub counted-alone : (b n : ℕ) → n < 2 ^ 32 → capped b ≡ capped (0 + n) → b ≡ n
counted-alone b n few h = omega (arith, few, h)

pub counted-both : (a b x y : ℕ) → x + y < 2 ^ 32 → capped a ≡ capped (0 + x) → capped b ≡ capped (a + y) → b ≡ x + y
counted-both a b x y few h k = omega (arith, few, h, k)

-- ---- the length of a file

-- the record of an offset is as long whatever the offset
length-offset_record : (k a b : ℕ) → length (w.offset_record shortest k a) ≡ length (w.offset_record shortest k b)
length-offset_record k a b =
    let first = length-append (shortest.number k) (0x84 ∷ to_be_bytes w32 a) in
    let second = length-append (shortest.number k) (0x84 ∷ to_be_bytes w32 b) in
    omega (arith, first, second)

pub length-offset_records : (n : ℕ) (xs ys : List ℕ) → length xs ≡ length ys → length (w.each_from n (w.offset_record shortest) xs)
    ≡ length (w.each_from n (w.offset_record shortest) ys)
length-offset_records n [] [] h = refl
length-offset_records n [] (y ∷ ys) h = absurd (omega (arith, h))
length-offset_records n (x ∷ xs) [] h = absurd (omega (arith, h))
length-offset_records n (x ∷ xs) (y ∷ ys) h =
    let rest = length-offset_records (n + 1) xs ys (omega (arith, h)) in
    let own = length-offset_record n x y in
    let first = length-append (w.offset_record shortest n x) (w.each_from (n + 1) (w.offset_record shortest) xs) in
    let second = length-append (w.offset_record shortest n y) (w.each_from (n + 1) (w.offset_record shortest) ys) in
    omega (arith, rest, own, first, second)

abbrev pub zeros : List ℕ
zeros = 0 ∷ 0 ∷ 0 ∷ 0 ∷ 0 ∷ 0 ∷ 0 ∷ 0 ∷ []

module _ (m : Parts) where
  pub header-split : w.header_length shortest m ≡ length (w.module_begin shortest m) + length (w.each (w.offset_record shortest) zeros)
  header-split = length-append (w.module_begin shortest m) (w.each (w.offset_record shortest) zeros)

  pub written-length : length (w.written m) ≡ w.header_length shortest m + length (joined (w.parts shortest m)) + 1
  written-length =
      let all = length-form-parts (w.module_begin shortest m) (w.each (w.offset_record shortest) (w.offsets shortest m)) (joined (w.parts shortest m)) in
      let count = eight-offsets m in
      let records = length-offset_records 0 (w.offsets shortest m) zeros count in
      let header = header-split in
      omega (arith, all, records, header)

  pub places-fit : IsValid m → w.header_length shortest m + length (joined (w.parts shortest m)) + 1 < 2 ^ 32
  places-fit valid = let fits = written-fits m valid in let whole = written-length in omega (arith, fits, whole)

-- ---- the parts, one after another

joined-rest : (xs : List (List ℕ)) (i : ℕ) → length (joined (drop i xs)) ≤ length (joined xs)
joined-rest [] i = rw (drop_all {X = List ℕ} i [] (omega arith)) (omega arith)
joined-rest (x ∷ xs) zero = omega arith
joined-rest (x ∷ xs) (suc i) = let rest = joined-rest xs i in let whole = length-append x (joined xs) in omega (arith, rest, whole)

pub next-length : (xs : List (List ℕ)) (i : ℕ) → i < length xs → length (joined (drop i xs)) ≡ length (get_or xs i []) + length (joined (drop (i + 1) xs))
next-length xs i inside = ap length (joined_next xs i inside) ∙ length-append (get_or xs i []) (joined (drop (i + 1) xs))

pub part-within : (xs : List (List ℕ)) (i : ℕ) → i < length xs → length (get_or xs i []) ≤ length (joined xs)
part-within xs i inside = let next = next-length xs i inside in let rest = joined-rest xs i in omega (arith, next, rest)

offsets-next : (at : ℕ) (bytes : List ℕ) (rest : List (List ℕ))
    → w.offsets_from at (bytes ∷ rest) ≡ cond (length bytes == 0) 0 at ∷ w.offsets_from (at + length bytes) rest
offsets-next at [] rest = ap (λ (n : ℕ). 0 ∷ w.offsets_from n rest) (omega arith)
offsets-next at (b ∷ bytes) rest = ap (λ (none : Bool). cond none 0 at ∷ w.offsets_from (at + length (b ∷ bytes)) rest)
    (sym (ne_eqb (length (b ∷ bytes)) 0 (λ h. omega (arith, h))))

pub place-step : (at i v len : ℕ) (parts : List (List ℕ)) (offsets all : List ℕ) → i < length parts → i < length offsets → len
    ≡ length (get_or parts i []) → v ≡ cond (len == 0) 0 at
    → take i offsets ++ w.offsets_from at (drop i parts) ≡ all
    → take (i + 1) (slice_set offsets i v) ++ w.offsets_from (at + len) (drop (i + 1) parts) ≡ all
place-step at i v len parts offsets all inside within is place h =
    let after = drop (i + 1) parts in
    let bytes = get_or parts i [] in
    let next : w.offsets_from at (drop i parts) ≡ v ∷ w.offsets_from (at + len) after =
    ap (w.offsets_from at) (drop_more parts i [] inside) ∙ offsets-next at bytes after
    ∙ ap (λ (n : ℕ). cond (n == 0) 0 at ∷ w.offsets_from (at + n) after) (sym is)
    ∙ ap (λ (n : ℕ). n ∷ w.offsets_from (at + len) after) (sym place) in
    ap (λ (l : List ℕ). l ++ w.offsets_from (at + len) after) (take_more_set offsets i v within)
    ∙ append_assoc (take i offsets) (v ∷ []) (w.offsets_from (at + len) after)
    ∙ ap (λ (l : List ℕ). take i offsets ++ l) (sym next) ∙ h

-- the last offset is the place where the parts end
pub place-last : (at i : ℕ) (parts : List (List ℕ)) (offsets all : List ℕ) → length parts ≤ i → length offsets ≡ i + 1
    → take i offsets ++ w.offsets_from at (drop i parts) ≡ all → slice_set offsets i at ≡ all
place-last at i parts offsets all past count h =
    let ends : w.offsets_from at (drop i parts) ≡ at ∷ [] = ap (w.offsets_from at) (drop_all i parts past) in
    let size : length (slice_set offsets i at) ≤ i + 1 = length-kept offsets i at count in
    sym (take_all (i + 1) (slice_set offsets i at) size) ∙ take_more_set offsets i at (omega (arith, count))
    ∙ ap (λ (l : List ℕ). take i offsets ++ l) (sym ends) ∙ h
  where
    length-kept : (xs : List ℕ) (k v : ℕ) → length xs ≡ k + 1 → length (slice_set xs k v) ≤ k + 1
    length-kept xs k v e = rw length-set (omega (arith, e))

pub place-empty : (v len at : ℕ) → len ≡ 0 → v ≡ 0 → v ≡ cond (len == 0) 0 at
place-empty v len at none h = h ∙ ap (λ (b : Bool). cond b 0 at) (sym (eq-eqb len 0 none))

pub place-full : (v len at : ℕ) → (len ≡ 0 → ⊥) → v ≡ at → v ≡ cond (len == 0) 0 at
place-full v len at some h = h ∙ ap (λ (b : Bool). cond b 0 at) (sym (ne_eqb len 0 some))

-- each offset is at most the place where the parts end
pub offsets-fit : (at : ℕ) (parts : List (List ℕ)) → at + length (joined parts) < 2 ^ 32 → All (λ offset. offset < 2 ^ 32) (w.offsets_from at parts)
offsets-fit at [] few = All-cons (λ offset. offset < 2 ^ 32) at [] (omega (arith, few)) (All-nil (λ offset. offset < 2 ^ 32))
offsets-fit at ([] ∷ rest) few = All-cons (λ offset. offset < 2 ^ 32) 0 (w.offsets_from at rest) (omega arith) (offsets-fit at rest few)
offsets-fit at ((b ∷ bytes) ∷ rest) few =
    let whole = length-append (b ∷ bytes) (joined rest) in
    All-cons (λ offset. offset < 2 ^ 32) at (w.offsets_from (at + length (b ∷ bytes)) rest) (omega (arith, few))
    (offsets-fit (at + length (b ∷ bytes)) rest (omega (arith, few, whole)))
