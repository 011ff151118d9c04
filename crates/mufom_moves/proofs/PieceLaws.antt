-- Pieces of runs at the addresses to which they are moved.
use Rattle.std.proofs.Common.{◌≡◌, ℕ, zero, suc, ◌+◌, ◌-◌, ◌<◌, ◌≤◌, ◌^◌, inl, inr, List, [], ◌∷◌, ◌++◌, length, take, drop, get_or, Bool, true, false}
use Rattle.std.proofs.Common.{refl, sym, ◌∙◌, ap, subst, arith, append_assoc, append-nil}
use Rattle.std.specs.Prelude.{nat_lt, if◌then◌else◌}
use Rattle.std.proofs.lemmas.List.{map-append}
use Rattle.mufom_meaning.specs.declared.located.Run.{Run}
use Rattle.mufom_meaning.specs.AddressMap.{Cell, cells_from, run_cells, AreApart}
use Rattle.mufom_meaning.specs.Runs.{run_end}
use Rattle.mufom_numbers.proofs.Choices.{of_lt, of_not_lt}
use Rattle.mufom_meaning.proofs.Members.{In, In-Contains, In-map, map-In, In-flat_map}
use Rattle.mufom_meaning.proofs.locations.CellRuns.{HaveOwnAddresses}
use Rattle.mufom_meaning.proofs.absolute.Cells.{apart_own}
use Rattle.mufom_image_bytes.specs.Chunks.{cell_addresses}
use Rattle.mufom_image_bytes.specs.Images.{AreLow}
use Rattle.mufom_image_bytes.proofs.ChunkLaws.{cells_from-append, length_dropped}
use Rattle.mufom_moves.specs.declared.shift.Shift.{Shift}
use Rattle.mufom_moves.specs.Shifts.{shifted, shifted_cell, shifted_cells, AreRisingFrom, MoveAlikeFrom, MoveTogether}
use Rattle.mufom_moves.specs.Shifts.{StayApart, StayLow}
use Rattle.mufom_moves.proofs.ShiftLaws.{has-there, shifted-below}

-- ---- one piece

pub shifted-first : (s : Shift) (shifts : List Shift) (a : ℕ) → s.from ≤ a → a < s.from + s.size → shifted (s ∷ shifts) a ≡ s.to + (a - s.from)
shifted-first s shifts a low high = ap (λ b. if b then s.to + (a - s.from) else shifted shifts a) (has-there s a (low, high))

-- bytes of the first extent
pub together_within : (s : Shift) (shifts : List Shift) (a count : ℕ) → s.from ≤ a → a + count ≤ s.from + s.size
    → MoveTogether (s ∷ shifts) a count (s.to + (a - s.from))
together_within s shifts a count low high = λ k less. shifted-first s shifts (a + k) (omega (arith, low)) (omega (arith, less, high))
    ∙ omega (arith, low)

-- bytes before the first extent
pub together_before : (s : Shift) (shifts : List Shift) (a count : ℕ) → AreRisingFrom 0 (s ∷ shifts) → a + count ≤ s.from
    → MoveTogether (s ∷ shifts) a count a
together_before s shifts a count h high =
    let own : s.from ≤ s.from = omega arith in
    λ k less. shifted-below s.from (a + k) (s ∷ shifts) (own, h.1) (omega (arith, less, high))

-- the same, if the first extent of a list begins after the bytes
pub before_first : (shifts : List Shift) (a count : ℕ) (d : Shift) → 1 ≤ length shifts → AreRisingFrom 0 shifts → a + count ≤ (get_or shifts 0 d).from
    → MoveTogether shifts a count a
before_first [] a count d some h high = absurd (omega (arith, some))
before_first (s ∷ shifts) a count d some h high = together_before s shifts a count h high

-- a piece at its new address
pub moved_piece : (shifts : List Shift) (bytes : List ℕ) (a to : ℕ) → MoveTogether shifts a (length bytes) to → shifted_cells shifts (cells_from a bytes)
    ≡ cells_from to bytes
moved_piece shifts [] a to h = refl
moved_piece shifts (byte ∷ bytes) a to h =
    let first : shifted shifts a ≡ to = let own : a + 0 ≡ a = omega arith in let there : to + 0 ≡ to = omega arith in
    ap (shifted shifts) (sym own) ∙ h 0 (omega arith) ∙ there in
    let later : MoveTogether shifts (suc a) (length bytes) (suc to) = λ k less.
    let here : suc a + k ≡ a + suc k = omega arith in let there : to + suc k ≡ suc to + k = omega arith in
    ap (shifted shifts) here ∙ h (suc k) (omega (arith, less)) ∙ there in
    let rest = moved_piece shifts bytes (suc a) (suc to) later in
    λ i. (first i, byte) ∷ rest i

-- other extents that move alike
pub together_alike : (shifts all : List Shift) (a count to : ℕ) → MoveAlikeFrom a shifts all → MoveTogether shifts a count to → MoveTogether all a count to
together_alike shifts all a count to alike h = λ k less. sym (alike (a + k) (omega arith)) ∙ h k less

-- the bytes after them that are moved as far
pub together_on : (shifts : List Shift) (a m n to next : ℕ) → MoveTogether shifts a m to → MoveTogether shifts (a + m) n next → next ≡ to + m
    → MoveTogether shifts a (m + n) to
together_on shifts a m n to next first later far = λ k less. by_test k less (nat_lt k m) refl where
  by_test : (k : ℕ) → k < m + n → (b : Bool) → nat_lt k m ≡ b → shifted shifts (a + k) ≡ to + k
  by_test k less true e = first k (of_lt k m e)
  by_test k less false e =
      let high = of_not_lt k m e in
      let here : a + k ≡ a + m + (k - m) = omega (arith, high) in
      ap (shifted shifts) here ∙ later (k - m) (omega (arith, less, high)) ∙ omega (arith, high, far)

pub alike-later : (low high : ℕ) (shifts all : List Shift) → low ≤ high → MoveAlikeFrom low shifts all → MoveAlikeFrom high shifts all
alike-later low high shifts all less alike = λ a from. alike a (omega (arith, less, from))

-- ---- one piece more

take-more : {A : Type 0} (m n : ℕ) (xs : List A) → take (m + n) xs ≡ take m xs ++ take n (drop m xs)
take-more zero n xs = let same : 0 + n ≡ n = omega arith in ap (λ k. take k xs) same
take-more {A} (suc m) n [] = nothing (suc m + n) ∙ sym (nothing n) where
  nothing : (k : ℕ) → take {A = A} k [] ≡ []
  nothing zero = refl
  nothing (suc k) = refl
take-more (suc m) n (x ∷ xs) =
    let same : suc m + n ≡ suc (m + n) = omega arith in
    ap (λ k. take k (x ∷ xs)) same ∙ ap (λ rest. x ∷ rest) (take-more m n xs)

length-taken : (n : ℕ) (xs : List ℕ) → n ≤ length xs → length (take n xs) ≡ n
length-taken zero xs less = refl
length-taken (suc n) [] less = absurd (omega (arith, less))
length-taken (suc n) (x ∷ xs) less = ap suc (length-taken n xs (omega (arith, less)))

pub piece_length : (done count : ℕ) (bytes : List ℕ) → done + count ≤ length bytes → length (take count (drop done bytes)) ≡ count
piece_length done count bytes less = let left = length_dropped done bytes in length-taken count (drop done bytes) (omega (arith, less, left))

-- the bytes that are moved, once a piece of the run is moved after those before it
pub piece_more : (shifts : List Shift) (at : ℕ) (bytes : List ℕ) (done count to : ℕ) (before cells more : List Cell) → done + count ≤ length bytes
    → MoveTogether shifts (at + done) count to
    → cells ≡ before ++ shifted_cells shifts (cells_from at (take done bytes)) → more ≡ cells ++ cells_from to (take count (drop done bytes))
    → more ≡ before ++ shifted_cells shifts (cells_from at (take (done + count) bytes))
piece_more shifts at bytes done count to before cells more less together e f =
    let own = piece_length done count bytes less in
    let old : length (take done bytes) ≡ done = length-taken done bytes (omega (arith, less)) in
    let piece = take count (drop done bytes) in
    let front = cells_from at (take done bytes) in
    let moved : shifted_cells shifts (cells_from (at + length (take done bytes)) piece) ≡ cells_from to piece =
    ap (λ n. shifted_cells shifts (cells_from (at + n) piece)) old
    ∙ moved_piece shifts piece (at + done) to (subst (λ n. MoveTogether shifts (at + done) n to) (sym own) together) in
    f ∙ ap (λ all. all ++ cells_from to piece) e ∙ append_assoc before (shifted_cells shifts front) (cells_from to piece)
    ∙ ap (λ rest. before ++ rest)
    (ap (λ last. shifted_cells shifts front ++ last) (sym moved)
    ∙ sym (map-append (shifted_cell shifts) front (cells_from (at + length (take done bytes)) piece))
    ∙ ap (shifted_cells shifts) (sym (cells_from-append at (take done bytes) piece) ∙ ap (cells_from at) (sym (take-more done count bytes))))

-- ---- low addresses

-- a run has a byte at each of its addresses
cell_at : (at : ℕ) (bytes : List ℕ) (k : ℕ) → k < length bytes → (byte : ℕ) × In (at + k, byte) (cells_from at bytes)
cell_at at [] k less = absurd (omega (arith, less))
cell_at at (byte ∷ bytes) zero less = let own : at ≡ at + 0 = omega arith in (byte, inl (λ i. (own i, byte)))
cell_at at (byte ∷ bytes) (suc k) less =
    let later = cell_at (suc at) bytes k (omega (arith, less)) in
    let own : suc at + k ≡ at + suc k = omega arith in
    (later.0, inr (subst (λ n. In (n, later.0) (cells_from (suc at) bytes)) own later.1))

pub run_cell : (runs : List Run) (run : Run) (a : ℕ) → In run runs → run.address ≤ a → a < run_end run → (byte : ℕ) × In (a, byte) (run_cells runs)
run_cell runs run a h low high =
    let there = cell_at run.address run.bytes (a - run.address) (omega (arith, low, high)) in
    let own : run.address + (a - run.address) ≡ a = omega (arith, low) in (
      there.0,
      In-flat_map (λ (r : Run). cells_from r.address r.bytes) run (a, there.0) runs h
          (subst (λ n. In (n, there.0) (cells_from run.address run.bytes)) own there.1),
    )

low_cell : (cells : List Cell) (cell : Cell) → AreLow cells → In cell cells → cell.0 < 2 ^ 64
low_cell cells cell low h = low cell.0 (In-Contains cell.0 (cell_addresses cells) (In-map (λ (c : Cell). c.0) cell cells h))

pub low_end : (runs : List Run) (run : Run) → AreLow (run_cells runs) → In run runs → 0 < length run.bytes → run_end run ≤ 2 ^ 64
low_end runs run low h some =
    let last = run.address + length run.bytes - 1 in
    let there = run_cell runs run last h (omega (arith, some)) (omega (arith, some)) in
    let less = low_cell (run_cells runs) (last, there.0) low there.1 in
    omega (arith, some, less)

pub stays_low : (shifts rest : List Shift) (runs : List Run) (run : Run) → AreLow (shifted_cells shifts (run_cells runs)) → In run runs
    → MoveAlikeFrom run.address rest shifts → StayLow rest run.address (run_end run)
stays_low shifts rest runs run low h alike = λ a after before.
    let there = run_cell runs run a h after before in
    subst (λ n. n < 2 ^ 64) (sym (alike a after))
    (low_cell (shifted_cells shifts (run_cells runs)) (shifted shifts a, there.0) low (In-map (shifted_cell shifts) (a, there.0) (run_cells runs) there.1))

-- ---- run by run

pub run_cells-append : (xs ys : List Run) → run_cells (xs ++ ys) ≡ run_cells xs ++ run_cells ys
run_cells-append [] ys = refl
run_cells-append (x ∷ xs) ys =
    ap (λ rest. cells_from x.address x.bytes ++ rest) (run_cells-append xs ys) ∙ sym (append_assoc (cells_from x.address x.bytes) (run_cells xs) (run_cells ys))

pub run_cells-push : (runs : List Run) (run : Run) → run_cells (runs ++ run ∷ []) ≡ run_cells runs ++ cells_from run.address run.bytes
run_cells-push runs run = run_cells-append runs (run ∷ []) ∙ ap (λ last. run_cells runs ++ last) (append-nil (cells_from run.address run.bytes))

pub run_more : (shifts : List Shift) (runs : List Run) (run : Run) (cells : List Cell) → cells ≡ shifted_cells shifts (run_cells runs)
    → cells ++ shifted_cells shifts (cells_from run.address run.bytes) ≡ shifted_cells shifts (run_cells (runs ++ run ∷ []))
run_more shifts runs run cells e =
    ap (λ all. all ++ shifted_cells shifts (cells_from run.address run.bytes)) e
    ∙ sym (map-append (shifted_cell shifts) (run_cells runs) (cells_from run.address run.bytes))
    ∙ ap (shifted_cells shifts) (sym (run_cells-push runs run))

-- other extents that move alike move cells alike
pub cells_alike : (shifts rest : List Shift) (a : ℕ) (bytes : List ℕ) → MoveAlikeFrom a rest shifts → shifted_cells rest (cells_from a bytes)
    ≡ shifted_cells shifts (cells_from a bytes)
cells_alike shifts rest a [] same = refl
cells_alike shifts rest a (byte ∷ bytes) same =
    let first = same a (omega arith) in
    let later = cells_alike shifts rest (suc a) bytes (alike-later a (suc a) rest shifts (omega arith) same) in
    λ j. (first j, byte) ∷ later j

-- ---- no address twice

shifted_own : (shifts : List Shift) (cells : List Cell) → HaveOwnAddresses cells
    → ((x y : Cell) → In x cells → In y cells → shifted shifts x.0 ≡ shifted shifts y.0 → x.0 ≡ y.0) → HaveOwnAddresses (shifted_cells shifts cells)
shifted_own shifts [] own apart = tt {0}
shifted_own shifts (c ∷ cells) own apart = (
  λ other h e.
      let there = map-In (shifted_cell shifts) other cells h in
      own.0 there.0 there.1 (apart c there.0 (inl refl) (inr there.1) (e ∙ ap (λ (x : Cell). x.0) (sym there.2))),
  shifted_own shifts cells own.1 (λ x y h k e. apart x y (inr h) (inr k) e),
)

-- bytes that stay apart have no address twice
pub moved_own : (shifts : List Shift) (runs : List Run) → AreApart 0 runs → StayApart shifts (run_cells runs)
    → HaveOwnAddresses (shifted_cells shifts (run_cells runs))
moved_own shifts runs apart stay =
    shifted_own shifts (run_cells runs) (apart_own runs apart)
    (λ x y h k e. stay x y (In-Contains x (run_cells runs) h) (In-Contains y (run_cells runs) k) e)

-- extents that move alike move cells alike
pub shifted_cells-same : (xs ys : List Shift) → ((a : ℕ) → shifted xs a ≡ shifted ys a) → (cells : List Cell) → shifted_cells xs cells ≡ shifted_cells ys cells
shifted_cells-same xs ys same [] = refl
shifted_cells-same xs ys same (c ∷ cells) =
    let first = same c.0 in let rest = shifted_cells-same xs ys same cells in λ i. (first i, c.1) ∷ rest i
