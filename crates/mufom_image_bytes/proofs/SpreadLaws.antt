-- A row of neighbouring chunks is one run, and what follows it begins after an address that is free.
use Rattle.std.proofs.Common.{◌≡◌, ◌≢◌, ℕ, zero, suc, ◌+◌, ◌<◌, ◌≤◌, List, [], ◌∷◌, ◌++◌, length, get_or, take, drop, Bool, true, false, inl, inr}
use Rattle.std.proofs.Common.{refl, sym, ◌∙◌, ap, subst, arith, append-nil, append_assoc, length-append}
use Rattle.std.specs.Prelude.{◌==◌, nat_lt, Contains, if◌then◌else◌}
use Rattle.std.specs.List.{All}
use Rattle.std.specs.List.Sorted.{IsPermutation}
use Rattle.std.proofs.lemmas.List.{map-append}
use Rattle.std.proofs.lemmas.List.Elements.{All-head, All-tail, All-nil, All-cons}
use Rattle.std.proofs.lemmas.List.Sorted.{Contains-permutation, length_permutation}
use Rattle.mufom_meaning.specs.declared.located.Run.{Run}
use Rattle.mufom_meaning.specs.AddressMap.{Cell, cells_from, run_cells, AreApart}
use Rattle.mufom_numbers.proofs.Choices.{equal_numbers, of_not_lt}
use Rattle.mufom_meaning.proofs.Members.{In, In-Contains, Contains-In, In-flat_map, flat_map-In}
use Rattle.mufom_meaning.specs.Walk.{counted_from}
use Rattle.mufom_image_bytes.specs.declared.chunk.Chunk.{Chunk}
use Rattle.mufom_image_bytes.specs.Chunks.{chunk_cells, cells_of_chunks, cell_addresses, chunk_addresses, addresses_of, AreConsecutive}
use Rattle.mufom_image_bytes.specs.Shared.{part_of, shares_from, AreRisingFrom}
use Rattle.mufom_image_bytes.specs.Spread.{AreSpread, IsAmong, neighbours, first_run_length, chunk_bytes, bytes_of_chunks, free_after, HasAllBytes}
use Rattle.mufom_image_bytes.proofs.ChunkLaws.{cells_from-append, take-all, length_dropped, end_after_start}
use Rattle.mufom_image_bytes.proofs.WalkSteps.{addresses-from}

take_length : (n : ℕ) (xs : List ℕ) → n ≤ length xs → length (take n xs) ≡ n
take_length zero xs less = refl
take_length (suc n) [] less = absurd (omega (arith, less))
take_length (suc n) (x ∷ xs) less = ap suc (take_length n xs (omega (arith, less)))

-- a chunk among the bytes has as many as it counts
chunk_length : (bytes : List ℕ) (c : Chunk) → IsAmong bytes c → length (chunk_bytes bytes c) ≡ c.count
chunk_length bytes c among = let left = length_dropped c.start bytes in take_length c.count (drop c.start bytes) (omega (arith, left, among))

-- one chunk more in a row
row_on : (bytes : List ℕ) (address : ℕ) (before after : List ℕ) (cells : List Cell) → cells_from (address + length before) after ≡ cells
    → cells_from address (before ++ after) ≡ cells_from address before ++ cells
row_on bytes address before after cells e = cells_from-append address before after ∙ ap (λ rest. cells_from address before ++ rest) e

-- neighbours from an address on, one after another, are one row of cells
row_cells : (bytes : List ℕ) (end : ℕ) (chunks : List Chunk) → All (IsAmong bytes) chunks
    → cells_from end (bytes_of_chunks bytes (take (neighbours end chunks) chunks)) ≡ cells_of_chunks bytes (take (neighbours end chunks) chunks)
row_cells bytes end [] among = refl
row_cells bytes end (c ∷ chunks) among =
    by_test (c.address == end) refl (row_cells bytes (c.address + c.count) chunks (All-tail (IsAmong bytes) c chunks among)) where
      own : length (chunk_bytes bytes c) ≡ c.count
      own = chunk_length bytes c (All-head (IsAmong bytes) c chunks among)

      by_test : (b : Bool) → (c.address == end) ≡ b
          → (let next = neighbours (c.address + c.count) chunks in cells_from (c.address + c.count) (bytes_of_chunks bytes (take next chunks))
          ≡ cells_of_chunks bytes (take next chunks))
          → (let n = (if b then suc (neighbours (c.address + c.count) chunks) else 0) in cells_from end (bytes_of_chunks bytes (take n (c ∷ chunks)))
          ≡ cells_of_chunks bytes (take n (c ∷ chunks)))
      by_test true e later =
          let same = equal_numbers c.address end e in
          let next = take (neighbours (c.address + c.count) chunks) chunks in
          row_on bytes end (chunk_bytes bytes c) (bytes_of_chunks bytes next) (cells_of_chunks bytes next)
          (ap (λ n. cells_from n (bytes_of_chunks bytes next)) (ap (λ a. a + length (chunk_bytes bytes c)) (sym same) ∙ ap (λ n. c.address + n) own) ∙ later)
          ∙ ap (λ a. cells_from a (chunk_bytes bytes c) ++ cells_of_chunks bytes next) (sym same)
      by_test false e later = refl

-- the first chunk with its neighbours
row_of_first : (bytes : List ℕ) (c : Chunk) (chunks : List Chunk) → All (IsAmong bytes) (c ∷ chunks)
    → (let n = neighbours (c.address + c.count) chunks in cells_from c.address (bytes_of_chunks bytes (take (suc n) (c ∷ chunks)))
    ≡ cells_of_chunks bytes (take (suc n) (c ∷ chunks)))
row_of_first bytes c chunks among =
    let own = chunk_length bytes c (All-head (IsAmong bytes) c chunks among) in
    let next = take (neighbours (c.address + c.count) chunks) chunks in
    row_on bytes c.address (chunk_bytes bytes c) (bytes_of_chunks bytes next) (cells_of_chunks bytes next)
    (ap (λ n. cells_from (c.address + n) (bytes_of_chunks bytes next)) own
    ∙ row_cells bytes (c.address + c.count) chunks (All-tail (IsAmong bytes) c chunks among))

cells-split : (bytes : List ℕ) (n : ℕ) (chunks : List Chunk) → cells_of_chunks bytes (take n chunks) ++ cells_of_chunks bytes (drop n chunks)
    ≡ cells_of_chunks bytes chunks
cells-split bytes zero chunks = refl
cells-split bytes (suc n) [] = refl
cells-split bytes (suc n) (c ∷ chunks) =
    append_assoc (chunk_cells bytes c) (cells_of_chunks bytes (take n chunks)) (cells_of_chunks bytes (drop n chunks))
    ∙ ap (λ cells. chunk_cells bytes c ++ cells) (cells-split bytes n chunks)

-- what follows the row of neighbours begins after an address that is free
after_row : (bytes : List ℕ) (end : ℕ) (chunks : List Chunk) → All (IsAmong bytes) chunks → AreSpread end chunks
    → (let n = neighbours end chunks in AreSpread (end + length (bytes_of_chunks bytes (take n chunks)) + 1) (drop n chunks))
after_row bytes end [] among h = tt {0}
after_row bytes end (c ∷ chunks) among h =
    by_test (c.address == end) refl (after_row bytes (c.address + c.count) chunks (All-tail (IsAmong bytes) c chunks among) h.2) where
      own : length (chunk_bytes bytes c) ≡ c.count
      own = chunk_length bytes c (All-head (IsAmong bytes) c chunks among)

      differ : (a b : ℕ) → (a == b) ≡ false → a ≢ b
      differ a b e = λ same. grind (arith, e, same)

      by_test : (b : Bool) → (c.address == end) ≡ b
          → (let next = neighbours (c.address + c.count) chunks in
          AreSpread (c.address + c.count + length (bytes_of_chunks bytes (take next chunks)) + 1) (drop next chunks))
          → (let n = (if b then suc (neighbours (c.address + c.count) chunks) else 0) in
          AreSpread (end + length (bytes_of_chunks bytes (take n (c ∷ chunks))) + 1) (drop n (c ∷ chunks)))
      by_test true e later =
          let same = equal_numbers c.address end e in
          let n = neighbours (c.address + c.count) chunks in
          let rest = bytes_of_chunks bytes (take n chunks) in
          let both = length-append (chunk_bytes bytes c) rest in
          let long : c.address + c.count + length rest + 1 ≡ end + length (chunk_bytes bytes c ++ rest) + 1 = let mine = own in
          omega (arith, same, both, mine) in
          subst (λ from. AreSpread from (drop n chunks)) long later
      by_test false e later =
          let apart = differ c.address end e in let low = h.0 in
          let next : end + length {A = ℕ} [] + 1 ≤ c.address = omega (arith, apart, low) in
          (next, h.1, h.2)

-- one run more
run-push : (from : ℕ) (runs : List Run) (run : Run) → AreApart from runs → free_after from runs ≤ run.address → 0 < length run.bytes
    → AreApart from (runs ++ run ∷ []) × (free_after from (runs ++ run ∷ []) ≡ run.address + length run.bytes + 1)
run-push from [] run h low some = ((low, some, tt {0}), refl)
run-push from (first ∷ runs) run h low some = let later = run-push (first.address + length first.bytes + 1) runs run h.2 low some in
    ((h.0, h.1, later.0), later.1)

run_cells-push : (runs : List Run) (run : Run) → run_cells (runs ++ run ∷ []) ≡ run_cells runs ++ cells_from run.address run.bytes
run_cells-push [] run = append-nil (cells_from run.address run.bytes)
run_cells-push (first ∷ runs) run =
    ap (λ cells. cells_from first.address first.bytes ++ cells) (run_cells-push runs run)
    ∙ sym (append_assoc (cells_from first.address first.bytes) (run_cells runs) (cells_from run.address run.bytes))

-- the state if some rows are runs, and the other chunks come after them
pub record AreRunsSoFar (bytes : List ℕ) (chunks rest : List Chunk) (runs : List Run) : Type 0 where
  pub spread : AreSpread (free_after 0 runs) rest
  pub among : All (IsAmong bytes) rest
  pub apart : AreApart 0 runs
  pub cells : run_cells runs ++ cells_of_chunks bytes rest ≡ cells_of_chunks bytes chunks

All-dropped : {A : Type 0} (P : A → Type 0) (n : ℕ) (xs : List A) → All P xs → All P (drop n xs)
All-dropped P zero xs h = h
All-dropped P (suc n) [] h = h
All-dropped P (suc n) (x ∷ xs) h = All-dropped P n xs (All-tail P x xs h)

row_step : (bytes : List ℕ) (chunks : List Chunk) (c : Chunk) (more : List Chunk) (runs : List Run) (run : Run)
    → AreRunsSoFar bytes chunks (c ∷ more) runs → run.address ≡ c.address
    → run.bytes ≡ bytes_of_chunks bytes (take (suc (neighbours (c.address + c.count) more)) (c ∷ more))
    → AreRunsSoFar bytes chunks (drop (neighbours (c.address + c.count) more) more) (runs ++ run ∷ [])
row_step bytes chunks c more runs run h address row =
    let n = neighbours (c.address + c.count) more in
    let next = bytes_of_chunks bytes (take n more) in
    let low = h.spread.0 in
    let some = h.spread.1 in
    let own = chunk_length bytes c (All-head (IsAmong bytes) c more h.among) in
    let both = length-append (chunk_bytes bytes c) next in
    let long : length run.bytes ≡ c.count + length next = ap length row ∙ both ∙ ap (λ k. k + length next) own in
    let push = run-push 0 runs run h.apart (omega (arith, low, address)) (omega (arith, long, some)) in
    let free = push.1 in
    let from : c.address + c.count + length next + 1 ≡ free_after 0 (runs ++ run ∷ []) = omega (arith, free, address, long) in
    let row_is : cells_from run.address run.bytes ≡ cells_of_chunks bytes (take (suc n) (c ∷ more)) =
    ap (λ a. cells_from a run.bytes) address ∙ ap (cells_from c.address) row ∙ row_of_first bytes c more h.among in
    record {
      spread = subst (λ k. AreSpread k (drop n more)) from (after_row bytes (c.address + c.count) more (All-tail (IsAmong bytes) c more h.among) h.spread.2);
      among = All-dropped (IsAmong bytes) n more (All-tail (IsAmong bytes) c more h.among);
      apart = push.0;
      cells = ap (λ cells. cells ++ cells_of_chunks bytes (drop n more)) (run_cells-push runs run ∙ ap (λ cells. run_cells runs ++ cells) row_is)
          ∙ append_assoc (run_cells runs) (cells_of_chunks bytes (take (suc n) (c ∷ more))) (cells_of_chunks bytes (drop n more))
          ∙ ap (λ cells. run_cells runs ++ cells) (cells-split bytes (suc n) (c ∷ more))
          ∙ h.cells;
    }

-- the first row of what is left
pub next_row : (bytes : List ℕ) (chunks rest after : List Chunk) (runs : List Run) (run : Run) (c : Chunk) → AreRunsSoFar bytes chunks rest runs
    → 0 < length rest → run.address ≡ (get_or rest 0 c).address → run.bytes ≡ bytes_of_chunks bytes (take (first_run_length rest) rest) → after
    ≡ drop (first_run_length rest) rest
    → AreRunsSoFar bytes chunks after (runs ++ run ∷ [])
next_row bytes chunks [] after runs run c h some address row left = absurd (omega (arith, some))
next_row bytes chunks (d ∷ more) after runs run c h some address row left =
    subst (λ list. AreRunsSoFar bytes chunks list (runs ++ run ∷ [])) (sym left)
    (row_step bytes chunks d more runs run h address row)

-- ---- chunks by address that share none

-- a chunk has a byte, and ends among this many bytes
abbrev pub HasRoom : ℕ → Chunk → Type 0
HasRoom end c = (0 < c.count) × (c.start + c.count ≤ end)

pub all_have_room : (start end : ℕ) (chunks : List Chunk) → AreConsecutive start chunks end → All (HasRoom end) chunks
all_have_room start end [] h = All-nil (HasRoom end)
all_have_room start end (c ∷ chunks) h =
    let from = h.0 in let high = end_after_start (start + c.count) end chunks h.2 in
    All-cons (HasRoom end) c chunks (h.1, omega (arith, from, high)) (all_have_room (start + c.count) end chunks h.2)

pub spread_chunks : (end from : ℕ) (chunks : List Chunk) → All (HasRoom end) chunks → shares_from end from chunks ≡ false → AreSpread from chunks
spread_chunks end from [] room e = tt {0}
spread_chunks end from (c ∷ chunks) room e =
    by_test (part_of end c) whole e (spread_chunks end (c.address + c.count) chunks (All-tail (HasRoom end) c chunks room)) where
      own : HasRoom end c
      own = All-head (HasRoom end) c chunks room

      whole : part_of end c ≡ c.count
      whole = let some = own.0 in let high = own.1 in omega (arith, some, high)

      not_zero : (n : ℕ) → 0 < n → (n == 0) ≡ false
      not_zero n some = grind (arith, some)

      by_place : (b : Bool) → nat_lt c.address from ≡ b → (if b then true else shares_from end (c.address + c.count) chunks) ≡ false
          → (shares_from end (c.address + c.count) chunks ≡ false → AreSpread (c.address + c.count) chunks) → AreSpread from (c ∷ chunks)
      by_place true f g later = absurd cc
      by_place false f g later = (of_not_lt c.address from f, own.0, later g)

      by_test : (n : ℕ) → n ≡ c.count → (if n == 0 then shares_from end from chunks
          else (if nat_lt c.address from then true else shares_from end (c.address + n) chunks)) ≡ false
          → (shares_from end (c.address + c.count) chunks ≡ false → AreSpread (c.address + c.count) chunks) → AreSpread from (c ∷ chunks)
      by_test n same g later =
          by_place (nat_lt c.address from) refl
          (ap (λ b. if b then shares_from end from chunks else (if nat_lt c.address from then true else shares_from end (c.address + c.count) chunks))
          (sym (not_zero c.count own.0))
          ∙ ap (λ k. if k == 0 then shares_from end from chunks else (if nat_lt c.address from then true else shares_from end (c.address + k) chunks))
          (sym same) ∙ g) later

-- the addresses of the cells of chunks are those of the chunks
pub chunks_addresses : (bytes : List ℕ) (chunks : List Chunk) → All (IsAmong bytes) chunks → cell_addresses (cells_of_chunks bytes chunks) ≡ addresses_of chunks
chunks_addresses bytes [] among = refl
chunks_addresses bytes (c ∷ chunks) among =
    map-append (λ (cell : Cell). cell.0) (chunk_cells bytes c) (cells_of_chunks bytes chunks)
    ∙ ap (λ own. own ++ cell_addresses (cells_of_chunks bytes chunks)) (addresses-from (chunk_bytes bytes c) c.address
    ∙ ap (λ n. counted_from n c.address) (chunk_length bytes c (All-head (IsAmong bytes) c chunks among)))
    ∙ ap (λ rest. chunk_addresses c ++ rest) (chunks_addresses bytes chunks (All-tail (IsAmong bytes) c chunks among))

-- chunks in another order have the same cells
pub cells_permuted : (bytes : List ℕ) (xs ys : List Chunk) → IsPermutation xs ys → (cell : Cell) → Contains (cells_of_chunks bytes xs) cell
    → Contains (cells_of_chunks bytes ys) cell
cells_permuted bytes xs ys permuted cell h =
    let there = flat_map-In (chunk_cells bytes) cell xs (Contains-In cell (cells_of_chunks bytes xs) h) in
    In-Contains cell (cells_of_chunks bytes ys)
    (In-flat_map (chunk_cells bytes) there.0 cell ys (Contains-In there.0 ys
    (Contains-permutation xs ys there.0 permuted (In-Contains there.0 xs there.1))) there.2)

-- chunks that do not decrease go by address
pub rising_chunks : (low : ℕ) (chunks : List Chunk) → ((i j : ℕ) (d : Chunk) → i ≤ j → j < length chunks
    → (get_or chunks i d).address ≤ (get_or chunks j d).address)
    → ((d : Chunk) → 0 < length chunks → low ≤ (get_or chunks 0 d).address) → AreRisingFrom low chunks
rising_chunks low [] up first = tt {0}
rising_chunks low (c ∷ chunks) up first = (
  first c (omega arith),
  rising_chunks c.address chunks (λ i j d le less. up (suc i) (suc j) d (omega (arith, le)) (omega (arith, less)))
      (λ d some. up 0 1 d (omega arith) (omega (arith, some))),
)

-- ---- a single chunk

-- a chunk that is the only one has all the bytes, in any order of the chunks
pub single_whole : (end : ℕ) (chunks sorted : List Chunk) → AreConsecutive 0 chunks end → IsPermutation chunks sorted → HasAllBytes end sorted
single_whole end chunks [] h permuted = tt {0}
single_whole end chunks (c ∷ d ∷ more) h permuted = tt {0}
single_whole end chunks (c ∷ []) h permuted = by_chunks chunks h (length_permutation chunks (c ∷ []) permuted)
    (λ x there. Contains-permutation chunks (c ∷ []) x permuted there) where
      by_chunks : (chunks : List Chunk) → AreConsecutive 0 chunks end → 1 ≡ length chunks → ((x : Chunk) → Contains chunks x → Contains (c ∷ []) x)
          → HasAllBytes end (c ∷ [])
      by_chunks [] h count same = absurd (omega (arith, count))
      by_chunks (x ∷ y ∷ more) h count same = absurd (omega (arith, count))
      by_chunks (x ∷ []) h count same = by_member (Contains-In x (c ∷ []) (same x (In-Contains x (x ∷ []) (inl refl)))) where
        by_member : In x (c ∷ []) → HasAllBytes end (c ∷ [])
        by_member (inl e) =
            let start : c.start ≡ 0 = ap (λ (z : Chunk). z.start) e ∙ h.0 in
            let here = h.2 in
            let count_same : c.count ≡ x.count = ap (λ (z : Chunk). z.count) e in
            (start, omega (arith, here, count_same))
        by_member (inr none) = absurd none

-- its bytes are one run
pub single_run : (bytes : List ℕ) (chunks : List Chunk) (c : Chunk) (runs : List Run) (run : Run) → length chunks ≡ 1
    → HasAllBytes (length bytes) chunks → AreSpread 0 chunks
    → run.address ≡ (get_or chunks 0 c).address → run.bytes ≡ bytes → runs ≡ run ∷ [] → AreApart 0 runs × (run_cells runs ≡ cells_of_chunks bytes chunks)
single_run bytes [] c runs run one whole spread address own e = absurd (omega (arith, one))
single_run bytes (d ∷ x ∷ chunks) c runs run one whole spread address own e = absurd (omega (arith, one))
single_run bytes (d ∷ []) c runs run one whole spread address own e =
    let some = spread.1 in let count = whole.1 in let long = ap length own in
    let apart : AreApart 0 (run ∷ []) = (omega arith, omega (arith, some, count, long), tt {0}) in
    let all : length bytes ≤ d.count = omega (arith, count) in (
      subst (AreApart 0) (sym e) apart,
      ap run_cells e ∙ append-nil (cells_from run.address run.bytes)
          ∙ ap (cells_from run.address) own ∙ ap (λ a. cells_from a bytes) address
          ∙ ap (cells_from d.address) (sym (take-all d.count bytes all))
          ∙ ap (λ n. cells_from d.address (take d.count (drop n bytes))) (sym whole.0)
          ∙ sym (append-nil (chunk_cells bytes d)),
    )
