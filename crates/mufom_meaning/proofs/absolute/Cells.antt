-- The cells that the module of a location loads: those of the runs, section by section.
use Rattle.std.proofs.Common.{◌≡◌, ◌≢◌, ℕ, zero, suc, ◌+◌, ◌-◌, ◌<◌, ◌≤◌, inl, inr, max, List, [], ◌∷◌, ◌++◌, take, drop, Option, Some, None, refl}
use Rattle.std.proofs.Common.{sym, ◌∙◌, ap, subst, arith}
use Rattle.std.specs.Prelude.{slice_get, flat_map}
use Rattle.std.specs.List.{enumerate_from}
use Rattle.mufom_sections.specs.declared.section.Section.{Section}
use Rattle.mufom_meaning.specs.declared.located.Run.{Run}
use Rattle.mufom_meaning.specs.AddressMap.{Cell, cells_from, run_cells, AreApart}
use Rattle.mufom_meaning.specs.Absolute.{run_within}
use Rattle.mufom_meaning.proofs.Members.{In, In-right, In-flat_map, flat_map-In}
use Rattle.mufom_meaning.proofs.locations.CellRuns.{AreRising, HaveOwnAddresses, rising-In, run_cells-rise}
use Rattle.mufom_meaning.proofs.locations.OwnAddresses.{row_own, own_append}

-- ---- cells of bytes, by their places

cell_at : (a : ℕ) (bytes : List ℕ) (cell : Cell) → In cell (cells_from a bytes) → (q : ℕ) × (slice_get bytes q ≡ Some cell.1) × (cell.0 ≡ a + q)
cell_at a [] cell h = absurd h
cell_at a (byte ∷ bytes) cell (inl e) =
    let same : a ≡ cell.0 = ap (λ (x : Cell). x.0) e in let at : cell.0 ≡ a + 0 = omega (arith, same) in (0, ap (λ (x : Cell). Some x.1) e, at)
cell_at a (byte ∷ bytes) cell (inr h) = let later = cell_at (suc a) bytes cell h in let at : cell.0 ≡ a + suc later.0 = omega (arith, later.2) in
    (suc later.0, later.1, at)

pub at_cell : (a : ℕ) (bytes : List ℕ) (q byte x : ℕ) → slice_get bytes q ≡ Some byte → x ≡ a + q → In (x, byte) (cells_from a bytes)
at_cell a [] q byte x e f = absurd cc
at_cell a (b ∷ bytes) zero byte x e f = let same : b ≡ byte = cc in let at : a ≡ x = omega (arith, f) in inl (λ i. (at i, same i))
at_cell a (b ∷ bytes) (suc q) byte x e f = inr (at_cell (suc a) bytes q byte x e (omega (arith, f)))

get_drop : (k : ℕ) (xs : List ℕ) (q : ℕ) → slice_get (drop k xs) q ≡ slice_get xs (k + q)
get_drop zero xs q = let same : q ≡ 0 + q = omega arith in ap (slice_get xs) same
get_drop (suc k) [] q = refl
get_drop (suc k) (x ∷ xs) q = let next : suc (k + q) ≡ suc k + q = omega arith in get_drop k xs q ∙ ap (slice_get (x ∷ xs)) next

take_get : (m : ℕ) (xs : List ℕ) (q x : ℕ) → slice_get (take m xs) q ≡ Some x → (q < m) × (slice_get xs q ≡ Some x)
take_get zero xs q x e = absurd cc
take_get (suc m) [] q x e = absurd cc
take_get (suc m) (y ∷ xs) zero x e = let less : 0 < suc m = omega arith in (less, e)
take_get (suc m) (y ∷ xs) (suc q) x e = let later = take_get m xs q x e in let less : suc q < suc m = omega (arith, later.0) in (less, later.1)

get_take : (m : ℕ) (xs : List ℕ) (q x : ℕ) → q < m → slice_get xs q ≡ Some x → slice_get (take m xs) q ≡ Some x
get_take zero xs q x less e = absurd (omega (arith, less))
get_take (suc m) [] q x less e = absurd cc
get_take (suc m) (y ∷ xs) zero x less e = e
get_take (suc m) (y ∷ xs) (suc q) x less e = get_take m xs q x (omega (arith, less)) e

-- ---- the part of a run between two addresses

module _ (from to : ℕ) where
  abbrev row_cells : Run → List Cell
  row_cells run = let row = run_within from to run in cells_from row.address row.bytes

  abbrev Lies : Cell → Type 0
  Lies cell = (from ≤ cell.0) × (cell.0 < to)

  row_cell : (run : Run) (cell : Cell) → In cell (row_cells run) → In cell (cells_from run.address run.bytes) × Lies cell
  row_cell run cell h =
      let a = run.address in
      let there = cell_at (max from a) (drop (from - a) (take (to - a) run.bytes)) cell h in
      let q = there.0 in
      let got = take_get (to - a) run.bytes ((from - a) + q) cell.1 (sym (get_drop (from - a) (take (to - a) run.bytes) q) ∙ there.1) in
      let at : cell.0 ≡ a + ((from - a) + q) = omega (arith, there.2) in
      let low : from ≤ cell.0 = omega (arith, there.2) in
      let high : cell.0 < to = omega (arith, got.0, at) in
      (at_cell a run.bytes ((from - a) + q) cell.1 cell.0 got.1 at, (low, high))

  cell_row : (run : Run) (cell : Cell) → In cell (cells_from run.address run.bytes) → Lies cell → In cell (row_cells run)
  cell_row run cell h lies =
      let a = run.address in
      let there = cell_at a run.bytes cell h in
      let q = there.0 in
      let less : q < to - a = omega (arith, there.2, lies.1) in
      let back : q ≡ (from - a) + (q - (from - a)) = omega (arith, there.2, lies.0) in
      let got = get_take (to - a) run.bytes q cell.1 less there.1 in
      let dropped = get_drop (from - a) (take (to - a) run.bytes) (q - (from - a)) ∙ ap (slice_get (take (to - a) run.bytes)) (sym back) ∙ got in
      let at : cell.0 ≡ max from a + (q - (from - a)) = omega (arith, there.2, lies.0) in
      at_cell (max from a) (drop (from - a) (take (to - a) run.bytes)) (q - (from - a)) cell.1 cell.0 dropped at

  -- the parts of all runs
  abbrev pub cells_within : List Run → List Cell
  cells_within runs = flat_map row_cells runs

  pub within_runs : (runs : List Run) (cell : Cell) → In cell (cells_within runs) → In cell (run_cells runs) × (from ≤ cell.0) × (cell.0 < to)
  within_runs runs cell h =
      let there = flat_map-In row_cells cell runs h in
      let own = row_cell there.0 cell there.2 in (In-flat_map (λ run. cells_from run.address run.bytes) there.0 cell runs there.1 own.0, own.1.0, own.1.1)

  pub runs_within : (runs : List Run) (cell : Cell) → In cell (run_cells runs) → from ≤ cell.0 → cell.0 < to → In cell (cells_within runs)
  runs_within runs cell h low high =
      let there = flat_map-In (λ run. cells_from run.address run.bytes) cell runs h in
      In-flat_map row_cells there.0 cell runs there.1 (cell_row there.0 cell there.2 (low, high))

-- ---- no address twice

pub own_apart : (xs ys : List Cell) → HaveOwnAddresses (xs ++ ys) → (x y : Cell) → In x xs → In y ys → x.0 ≡ y.0 → ⊥
own_apart [] ys h x y m n e = m
own_apart (z ∷ xs) ys h x y (inl same) n e = h.0 y (In-right y xs ys n) (ap (λ (c : Cell). c.0) same ∙ e)
own_apart (z ∷ xs) ys h x y (inr m) n e = own_apart xs ys h.1 x y m n e

pub own_after : (xs ys : List Cell) → HaveOwnAddresses (xs ++ ys) → HaveOwnAddresses ys
own_after [] ys h = h
own_after (x ∷ xs) ys h = own_after xs ys h.1

rising_own : (from : ℕ) (cells : List Cell) → AreRising from cells → HaveOwnAddresses cells
rising_own from [] h = tt
rising_own from (cell ∷ cells) h = (
  λ other m e. let late = rising-In (suc cell.0) cells h.1 other m in
      omega (arith, late, e),
  rising_own (suc cell.0) cells h.1,
)

-- rows that are apart have no address twice
pub apart_own : (runs : List Run) → AreApart 0 runs → HaveOwnAddresses (run_cells runs)
apart_own runs h = rising_own 0 (run_cells runs) (run_cells-rise 0 runs h)

within_own : (from to : ℕ) (runs : List Run) → HaveOwnAddresses (run_cells runs) → HaveOwnAddresses (cells_within from to runs)
within_own from to [] h = tt
within_own from to (run ∷ runs) h =
    let row = run_within from to run in
    own_append (cells_from row.address row.bytes) (cells_within from to runs) (row_own row.address row.bytes)
    (within_own from to runs (own_after (cells_from run.address run.bytes) (run_cells runs) h))
    (λ x y m n e. own_apart (cells_from run.address run.bytes) (run_cells runs) h x y (row_cell from to run x m).0 (within_runs from to runs y n).0 e)

-- ---- section by section

-- an address lies in the section
abbrev pub LiesIn : ℕ × Section → ℕ → Type 0
LiesIn s x = (base : ℕ) × (s.1.base ≡ Some base) × (base ≤ x) × (x < base + s.1.size)

abbrev pub cells_at : List Run → ℕ → Option ℕ → List Cell
cells_at runs size None = []
cells_at runs size (Some base) = cells_within base (base + size) runs

-- the cells of the runs that lie in the section
abbrev pub section_cells : List Run → ℕ × Section → List Cell
section_cells runs s = cells_at runs s.1.size s.1.base

abbrev pub absolute_cells : List Run → List (ℕ × Section) → List Cell
absolute_cells runs sections = flat_map (section_cells runs) sections

section_own : (runs : List Run) → HaveOwnAddresses (run_cells runs) → (s : ℕ × Section) → HaveOwnAddresses (section_cells runs s)
section_own runs h s = by_base s.1.base where
  by_base : (o : Option ℕ) → HaveOwnAddresses (cells_at runs s.1.size o)
  by_base None = tt
  by_base (Some base) = within_own base (base + s.1.size) runs h

pub section_cell : (runs : List Run) (s : ℕ × Section) (cell : Cell) → In cell (section_cells runs s) → In cell (run_cells runs) × LiesIn s cell.0
section_cell runs s cell h = by_base s.1.base refl h where
  by_base : (o : Option ℕ) → s.1.base ≡ o → In cell (cells_at runs s.1.size o) → In cell (run_cells runs) × LiesIn s cell.0
  by_base None e h = absurd h
  by_base (Some base) e h = let there = within_runs base (base + s.1.size) runs cell h in (there.0, (base, e, there.1, there.2))

pub cell_section : (runs : List Run) (s : ℕ × Section) (cell : Cell) → In cell (run_cells runs) → LiesIn s cell.0 → In cell (section_cells runs s)
cell_section runs s cell h lies = subst (λ o. In cell (cells_at runs s.1.size o)) (sym lies.1)
    (runs_within lies.0 (lies.0 + s.1.size) runs cell h lies.2 lies.3)

-- no address lies in two of the sections
abbrev pub AreSeparate : List (ℕ × Section) → Type 0
AreSeparate [] = Unit {0}
AreSeparate (s ∷ sections) = ((t : ℕ × Section) → In t sections → (x : ℕ) → LiesIn s x → LiesIn t x → ⊥) × AreSeparate sections

pub absolute_own : (runs : List Run) → HaveOwnAddresses (run_cells runs) → (sections : List (ℕ × Section)) → AreSeparate sections
    → HaveOwnAddresses (absolute_cells runs sections)
absolute_own runs h [] apart = tt
absolute_own runs h (s ∷ sections) apart =
    own_append (section_cells runs s) (absolute_cells runs sections) (section_own runs h s) (absolute_own runs h sections apart.1) (λ x y m n e.
    let there = flat_map-In (section_cells runs) y sections n in
    let other = section_cell runs there.0 y there.2 in
    apart.0 there.0 there.1 x.0 (section_cell runs s x m).1 (subst (LiesIn there.0) (sym e) other.1))

numbered_above : (k : ℕ) (sections : List Section) (t : ℕ × Section) → In t (enumerate_from k sections) → k ≤ t.0
numbered_above k [] t h = absurd h
numbered_above k (s ∷ sections) t (inl e) = let same : k ≡ t.0 = ap (λ (x : ℕ × Section). x.0) e in omega (arith, same)
numbered_above k (s ∷ sections) t (inr h) = let later = numbered_above (k + 1) sections t h in omega (arith, later)

pub separate : (k : ℕ) (sections : List Section)
    → ((s t : ℕ × Section) → In s (enumerate_from k sections) → In t (enumerate_from k sections) → s.0 ≢ t.0 → (x : ℕ) → LiesIn s x → LiesIn t x → ⊥)
    → AreSeparate (enumerate_from k sections)
separate k [] apart = tt
separate k (s ∷ sections) apart = (
  λ t h x a b. let late = numbered_above (k + 1) sections t h in apart (k, s) t (inl refl) (inr h) (λ e. omega (arith, late, e)) x a b,
  separate (k + 1) sections (λ s t h k. apart s t (inr h) (inr k)),
)
