-- The bytes of a range, run by run, are those at its addresses.
use Rattle.std.proofs.Common.{◌≡◌, ◌≢◌, ℕ, zero, suc, ◌+◌, ◌-◌, ◌<◌, ◌≤◌, ◌==◌, List, [], ◌∷◌, ◌++◌, length, map, take, drop, replicate}
use Rattle.std.proofs.Common.{get_or, Option, Some, None, refl, sym, ap, ◌∙◌, append_assoc, arith, if◌then◌else◌}
use Rattle.std.specs.Prelude.{option_map, slice_get, unwrap_or}
use Rattle.std.specs.List.{find}
use Rattle.std.proofs.lemmas.Bool.{eq-eqb, ne_eqb}
use Rattle.std.proofs.lemmas.List.{drop_more, length-drop, length-take, map-append}
use Rattle.mufom_meaning.specs.declared.located.Run.{Run}
use Rattle.mufom_meaning.specs.AddressMap.{AreApart, Cell, cells_from, run_cells}
use Rattle.mufom_meaning.specs.Walk.{counted_from}
use Rattle.mufom_write.specs.Range.{byte_in, byte_or, next_after, part_within, range_from, range_image, space_before}

-- ---- values at consecutive addresses

-- a function at zero more
here : (f : ℕ → ℕ) (a : ℕ) → f a ≡ f (a + 0)
here f a = ap f {x = a} {y = a + 0} (omega arith)

later : (f : ℕ → ℕ) (a j : ℕ) → f (suc a + j) ≡ f (a + suc j)
later f a j = ap f {x = suc a + j} {y = a + suc j} (omega arith)

map-fill : (f : ℕ → ℕ) (fill n a : ℕ) → ((j : ℕ) → j < n → f (a + j) ≡ fill) → map f (counted_from n a) ≡ replicate n fill
map-fill f fill zero a is = refl
map-fill f fill (suc n) a is =
    let first : f a ≡ fill = here f a ∙ is 0 (omega arith) in
    let rest = map-fill f fill n (suc a) (λ j less. later f a j ∙ is (suc j) (omega (arith, less))) in
    λ i. first i ∷ rest i

map-bytes : (f : ℕ → ℕ) (n a : ℕ) (xs : List ℕ) → n ≤ length xs → ((j : ℕ) → j < n → Some (f (a + j)) ≡ slice_get xs j)
    → map f (counted_from n a) ≡ take n xs
map-bytes f zero a xs within is = refl
map-bytes f (suc n) a [] within is = absurd (omega (arith, within))
map-bytes f (suc n) a (x ∷ xs) within is =
    let met : Some (f a) ≡ Some x = ap Some (here f a) ∙ is 0 (omega arith) in
    let first : f a ≡ x = cc in
    let rest = map-bytes f n (suc a) xs (omega (arith, within)) (λ j less. ap Some (later f a j) ∙ is (suc j) (omega (arith, less))) in
    λ i. first i ∷ rest i

map-same : (f g : ℕ → ℕ) (n a : ℕ) → ((j : ℕ) → j < n → f (a + j) ≡ g (a + j)) → map f (counted_from n a) ≡ map g (counted_from n a)
map-same f g zero a is = refl
map-same f g (suc n) a is =
    let first : f a ≡ g a = here f a ∙ is 0 (omega arith) ∙ sym (here g a) in
    let rest = map-same f g n (suc a) (λ j less. later f a j ∙ is (suc j) (omega (arith, less)) ∙ sym (later g a j)) in
    λ i. first i ∷ rest i

counted-append : (n m a : ℕ) → counted_from (n + m) a ≡ counted_from n a ++ counted_from m (a + n)
counted-append zero m a = ap (λ k. counted_from k a) {x = 0 + m} {y = m} (omega arith) ∙ ap (counted_from m) {x = a} {y = a + 0} (omega arith)
counted-append (suc n) m a =
    ap (λ k. counted_from k a) {x = suc n + m} {y = suc (n + m)} (omega arith)
    ∙ ap (λ more. a ∷ more) (counted-append n m (suc a) ∙ ap (λ b. counted_from n (suc a) ++ counted_from m b) {x = suc a + n} {y = a + suc n} (omega arith))

-- ---- the byte at an address

-- a cell of another address
passed : (c : Cell) (cells : List Cell) (a : ℕ) → c.0 ≢ a → byte_in (c ∷ cells) a ≡ byte_in cells a
passed c cells a other =
    ap (λ b. option_map (λ (cell : Cell). cell.1) (if b then Some c else find (λ (cell : Cell). cell.0 == a) cells)) (ne_eqb c.0 a other)

found : (c : Cell) (cells : List Cell) (a : ℕ) → c.0 ≡ a → byte_in (c ∷ cells) a ≡ Some c.1
found c cells a same =
    ap (λ b. option_map (λ (cell : Cell). cell.1) (if b then Some c else find (λ (cell : Cell). cell.0 == a) cells)) (eq-eqb c.0 a same)

before-bytes : (bytes : List ℕ) (address a : ℕ) (rest : List Cell) → a < address → byte_in (cells_from address bytes ++ rest) a ≡ byte_in rest a
before-bytes [] address a rest less = refl
before-bytes (b ∷ bytes) address a rest less =
    passed (address, b) (cells_from (suc address) bytes ++ rest) a (λ same. omega (arith, same, less))
    ∙ before-bytes bytes (suc address) a rest (omega (arith, less))

after-bytes : (bytes : List ℕ) (address a : ℕ) (rest : List Cell) → address + length bytes ≤ a → byte_in (cells_from address bytes ++ rest) a ≡ byte_in rest a
after-bytes [] address a rest past = refl
after-bytes (b ∷ bytes) address a rest past =
    passed (address, b) (cells_from (suc address) bytes ++ rest) a (λ same. omega (arith, same, past))
    ∙ after-bytes bytes (suc address) a rest (omega (arith, past))

among-bytes : (bytes : List ℕ) (address k a : ℕ) (rest : List Cell) → a ≡ address + k → k < length bytes
    → byte_in (cells_from address bytes ++ rest) a ≡ slice_get bytes k
among-bytes [] address k a rest at less = absurd (omega (arith, less))
among-bytes (b ∷ bytes) address zero a rest at less = found (address, b) (cells_from (suc address) bytes ++ rest) a (omega (arith, at))
among-bytes (b ∷ bytes) address (suc k) a rest at less =
    passed (address, b) (cells_from (suc address) bytes ++ rest) a (λ same. omega (arith, same, at))
    ∙ among-bytes bytes (suc address) k a rest (omega (arith, at)) (omega (arith, less))

-- no run has a byte before the first
unfound : (from : ℕ) (runs : List Run) → AreApart from runs → (a : ℕ) → a < from → byte_in (run_cells runs) a ≡ None
unfound from [] apart a less = refl
unfound from (run ∷ runs) apart a less =
    let low = apart.0 in
    before-bytes run.bytes run.address a (run_cells runs) (omega (arith, low, less))
    ∙ unfound (run.address + length run.bytes + 1) runs apart.2 a (omega (arith, low, less))

-- ---- a slice of bytes

get-drop : (n j : ℕ) (xs : List ℕ) → slice_get xs (n + j) ≡ slice_get (drop n xs) j
get-drop zero j xs = ap (slice_get xs) {x = 0 + j} {y = j} (omega arith)
get-drop (suc n) j [] = get-none (suc n + j) ∙ sym (get-none j) where
  get-none : (n : ℕ) → ◌≡◌ {A = Option ℕ} (slice_get [] n) None
  get-none zero = refl
  get-none (suc n) = refl
get-drop (suc n) j (x ∷ xs) = ap (slice_get (x ∷ xs)) {x = suc n + j} {y = suc (n + j)} (omega arith) ∙ get-drop n j xs

some-byte : (o : Option ℕ) (fill : ℕ) → o ≢ None → Some (unwrap_or o fill) ≡ o
some-byte (Some b) fill some = refl
some-byte None fill some = absurd (some refl)

has-byte : (xs : List ℕ) (k : ℕ) → k < length xs → slice_get xs k ≢ None
has-byte [] k less = absurd (omega (arith, less))
has-byte (x ∷ xs) zero less = λ same. cc
has-byte (x ∷ xs) (suc k) less = has-byte xs k (omega (arith, less))

-- ---- run by run

module _ (fill end from at : ℕ) (run : Run) (runs : List Run) (apart : AreApart from (run ∷ runs)) (within : at ≤ end) where
  abbrev skipped : ℕ
  skipped = at - run.address

  abbrev space : ℕ
  space = space_before end at run

  abbrev part : List ℕ
  part = part_within end at run

  abbrev next : ℕ
  next = next_after end at run

  abbrev byte : ℕ → ℕ
  byte = byte_or fill (run ∷ runs)

  left : length (drop skipped run.bytes) ≡ length run.bytes - skipped
  left = length-drop skipped run.bytes

  long : length part ≤ length run.bytes - skipped
  long = let e = left in let count = length-take (end - (run.address + skipped)) (drop skipped run.bytes) in omega (arith, e, count)

  -- the next address is in the range, and where the range goes on, it is after the run
  next-within : next ≤ end
  next-within = let count = length-take (end - (run.address + skipped)) (drop skipped run.bytes) in omega (arith, count, within)

  next-after : next < end → run.address + length run.bytes ≤ next
  next-after less =
      let e = left in let count = length-take (end - (run.address + skipped)) (drop skipped run.bytes) in
      omega (arith, e, count, within, less)

  -- before the run
  space-is : map byte (counted_from space at) ≡ replicate space fill
  space-is = map-fill byte fill space at λ j less.
      ap (λ o. unwrap_or o fill)
      (unfound run.address (run ∷ runs) (omega arith, apart.1, apart.2) (at + j) (omega (arith, less)))

  -- the bytes of the run
  part-is : map byte (counted_from (length part) (at + space)) ≡ part
  part-is = map-bytes byte (length part) (at + space) (drop skipped run.bytes) (let e = left in let few = long in omega (arith, e, few)) each ∙ whole where
    each : (j : ℕ) → j < length part → Some (byte (at + space + j)) ≡ slice_get (drop skipped run.bytes) j
    each j less =
        let few = long in
        let count = length-take (end - (run.address + skipped)) (drop skipped run.bytes) in
        let inside : skipped + j < length run.bytes = omega (arith, few, less) in
        let met = among-bytes run.bytes run.address (skipped + j) (at + space + j) (run_cells runs) (omega (arith, count, less)) inside in
        ap (λ o. Some (unwrap_or o fill)) met ∙ some-byte (slice_get run.bytes (skipped + j)) fill (has-byte run.bytes (skipped + j) inside)
        ∙ get-drop skipped j run.bytes

    whole : take (length part) (drop skipped run.bytes) ≡ part
    whole = taken (end - (run.address + skipped)) (drop skipped run.bytes) where
      taken : (n : ℕ) (xs : List ℕ) → take (length (take n xs)) xs ≡ take n xs
      taken zero xs = refl
      taken (suc n) [] = refl
      taken (suc n) (x ∷ xs) = ap (λ more. x ∷ more) (taken n xs)

  -- after it
  rest-is : map byte (counted_from (end - next) next) ≡ map (byte_or fill runs) (counted_from (end - next) next)
  rest-is = map-same byte (byte_or fill runs) (end - next) next λ j less.
      let past = next-after (omega (arith, less)) in
      ap (λ o. unwrap_or o fill) (after-bytes run.bytes run.address (next + j) (run_cells runs) (omega (arith, past)))

  pub range-run : map byte (counted_from (end - at) at)
      ≡ (replicate space fill ++ part) ++ map (byte_or fill runs) (counted_from (end - next) next)
  range-run =
      let inside = next-within in
      let sizes : end - at ≡ space + (length part + (end - next)) = omega (arith, inside) in
      let first = space-is in let second = part-is in let third = rest-is in
      ap (λ n. map byte (counted_from n at)) sizes
      ∙ ap (map byte) (counted-append space (length part + (end - next)) at)
      ∙ map-append byte (counted_from space at) (counted_from (length part + (end - next)) (at + space))
      ∙ ap (λ more. map byte (counted_from space at) ++ map byte more) (counted-append (length part) (end - next) (at + space))
      ∙ ap (λ more. map byte (counted_from space at) ++ more) (map-append byte (counted_from (length part) (at + space)) (counted_from (end - next) next))
      ∙ (λ i. first i ++ (second i ++ third i))
      ∙ sym (append_assoc (replicate space fill) part (map (byte_or fill runs) (counted_from (end - next) next)))

-- the bytes from one address on, run by run
range-is : (fill end from at : ℕ) (runs : List Run) → AreApart from runs → at ≤ end
    → range_from fill end at runs ≡ map (byte_or fill runs) (counted_from (end - at) at)
range-is fill end from at [] apart within = sym (map-fill (byte_or fill []) fill (end - at) at (λ j less. refl))
range-is fill end from at (run ∷ runs) apart within =
    let rest = range-is fill end (run.address + length run.bytes + 1) (next_after end at run) runs apart.2
    (next-within fill end from at run runs apart within) in
    ap (λ more. (replicate (space_before end at run) fill ++ part_within end at run) ++ more) rest
    ∙ sym (range-run fill end from at run runs apart within)

-- the whole range
pub range-whole : (fill from count : ℕ) (runs : List Run) → AreApart 0 runs → range_from fill (from + count) from runs ≡ range_image fill from count runs
range-whole fill from count runs apart =
    range-is fill (from + count) 0 from runs apart (omega arith)
    ∙ ap (λ n. map (byte_or fill runs) (counted_from n from)) {x = from + count - from} {y = count} (omega arith)

-- the next address is in the range
pub next-inside : (end at : ℕ) (run : Run) → at ≤ end → next_after end at run ≤ end
next-inside end at run within =
    let count = length-take (end - (run.address + (at - run.address))) (drop (at - run.address) run.bytes) in omega (arith, count, within)

-- the rest of a range is the part of the next run, and the rest after it
pub range_next : (fill end at : ℕ) (runs : List Run) (i : ℕ) (d run : Run) → i < length runs → run ≡ get_or runs i d
    → range_from fill end at (drop i runs)
    ≡ (replicate (space_before end at run) fill ++ part_within end at run) ++ range_from fill end (next_after end at run) (drop (i + 1) runs)
range_next fill end at runs i d run inside is =
    ap (range_from fill end at) (drop_more runs i d inside) ∙ ap (λ (r : Run). range_from fill end at (r ∷ drop (i + 1) runs)) (sym is)
