-- The maximal runs of an address map: there are such runs if no address occurs twice, and only one list of them.
use Rattle.std.proofs.Common.{◌≡◌, ℕ, suc, ◌+◌, ◌<◌, ◌≤◌, ◌↔◌, inl, inr, List, [], ◌∷◌, ◌++◌, length, Bool, true, false, refl, sym, ◌∙◌, ap, subst}
use Rattle.std.proofs.Common.{arith, rules}
use Rattle.std.specs.Prelude.{◌==◌, nat_lt, if◌then◌else◌}
use Rattle.mufom_meaning.specs.declared.located.Run.{Run}
use Rattle.mufom_numbers.proofs.Choices.{equal_numbers, of_lt, of_not_lt}
use Rattle.mufom_meaning.proofs.Members.{In, In-Contains, Contains-In}
use Rattle.mufom_meaning.specs.AddressMap.{Cell, cells_from, run_cells, AreApart, AreRunsOf}

-- cells by rising address, none below the number
abbrev pub AreRising : ℕ → List Cell → Type 0
AreRising from [] = Unit {0}
AreRising from (cell ∷ cells) = (from ≤ cell.0) × AreRising (suc cell.0) cells

rising-lower : (a b : ℕ) (cells : List Cell) → b ≤ a → AreRising a cells → AreRising b cells
rising-lower a b [] less h = tt
rising-lower a b (cell ∷ cells) less h = let low : b ≤ cell.0 = omega (arith, less, h.0) in (low, h.1)

pub rising-In : (from : ℕ) (cells : List Cell) → AreRising from cells → (cell : Cell) → In cell cells → from ≤ cell.0
rising-In from [] h cell k = absurd k
rising-In from (c ∷ cells) h cell (inl e) = let same : c.0 ≡ cell.0 = ap (λ (x : Cell). x.0) e in omega (arith, h.0, same)
rising-In from (c ∷ cells) h cell (inr k) = let later = rising-In (suc c.0) cells h.1 cell k in omega (arith, h.0, later)

-- two such lists with the same members are equal
rising-equal : (from : ℕ) (xs ys : List Cell) → AreRising from xs → AreRising from ys → ((cell : Cell) → In cell xs ↔ In cell ys) → xs ≡ ys
rising-equal from [] [] h k same = refl
rising-equal from [] (y ∷ ys) h k same = absurd ((same y).1 (inl refl))
rising-equal from (x ∷ xs) [] h k same = absurd ((same x).0 (inl refl))
rising-equal from (x ∷ xs) (y ∷ ys) h k same = first ((same x).0 (inl refl)) ((same y).1 (inl refl)) (λ e m. rising-equal (suc x.0) xs ys h.1 e m) where
  rest : (y : Cell) (ys : List Cell) → AreRising (suc y.0) ys → x ≡ y → ((cell : Cell) → In cell (x ∷ xs) ↔ In cell (y ∷ ys)) → (cell : Cell)
      → In cell xs ↔ In cell ys
  rest y ys k e same cell = (there, back) where
    there : In cell xs → In cell ys
    there m = by_case ((same cell).0 (inr m)) where
      by_case : In cell (y ∷ ys) → In cell ys
      by_case (inr m) = m
      by_case (inl f) = absurd (let late = rising-In (suc x.0) xs h.1 cell m in let at : x.0 ≡ cell.0 = ap (λ (x : Cell). x.0) (e ∙ f) in
          omega (arith, late, at))

    back : In cell ys → In cell xs
    back m = by_case ((same cell).1 (inr m)) where
      by_case : In cell (x ∷ xs) → In cell xs
      by_case (inr m) = m
      by_case (inl f) = absurd (let late = rising-In (suc y.0) ys k cell m in let at : y.0 ≡ cell.0 = ap (λ (x : Cell). x.0) (sym e ∙ f) in
          omega (arith, late, at))

  heads : x ≡ y → (AreRising (suc x.0) ys → ((cell : Cell) → In cell xs ↔ In cell ys) → xs ≡ ys) → ◌≡◌ {A = List Cell} (x ∷ xs) (y ∷ ys)
  heads e later =
      let at : y.0 ≡ x.0 = ap (λ (x : Cell). x.0) (sym e) in
      let tails : xs ≡ ys = later (subst (λ n. AreRising (suc n) ys) at k.1) (rest y ys k.1 e same) in λ i. e i ∷ tails i

  first : In x (y ∷ ys) → In y (x ∷ xs) → (AreRising (suc x.0) ys → ((cell : Cell) → In cell xs ↔ In cell ys) → xs ≡ ys) → ◌≡◌ {A = List Cell} (x ∷ xs) (y ∷ ys)
  first (inl e) n later = heads (sym e) later
  first (inr m) (inl f) later = heads f later
  first (inr m) (inr n) later = absurd (let a = rising-In (suc y.0) ys k.1 x m in let b = rising-In (suc x.0) xs h.1 y n in omega (arith, a, b))

-- a byte put before rows: it goes to the first row where that begins right after it
abbrev in_prefix : ℕ → ℕ → List Run → List Run
in_prefix a byte [] = record { address = a; bytes = byte ∷ [] } ∷ []
in_prefix a byte (run ∷ runs) =
    if run.address == suc a then record { address = a; bytes = byte ∷ run.bytes } ∷ runs else record { address = a; bytes = byte ∷ [] } ∷ run ∷ runs

abbrev runs_of : List Cell → List Run
runs_of [] = []
runs_of (cell ∷ cells) = in_prefix cell.0 cell.1 (runs_of cells)

unequal_numbers : (m n : ℕ) → (m == n) ≡ false → m ≡ n → ⊥
unequal_numbers m n e f = let same : (m == n) ≡ true = search rules in cc

in_prefix-cells : (a byte : ℕ) (runs : List Run) → run_cells (in_prefix a byte runs) ≡ (a, byte) ∷ run_cells runs
in_prefix-cells a byte [] = refl
in_prefix-cells a byte (run ∷ runs) = by_case (run.address == suc a) refl where
  by_case : (b : Bool) → (run.address == suc a) ≡ b
      → run_cells (if b then record { address = a; bytes = byte ∷ run.bytes } ∷ runs else record { address = a; bytes = byte ∷ [] } ∷ run ∷ runs)
      ≡ (a, byte) ∷ run_cells (run ∷ runs)
  by_case true e = let same : run.address ≡ suc a = equal_numbers run.address (suc a) e in
      ap (λ n. (a, byte) ∷ (cells_from n run.bytes ++ run_cells runs)) (sym same)
  by_case false e = refl

runs_of-cells : (cells : List Cell) → run_cells (runs_of cells) ≡ cells
runs_of-cells [] = refl
runs_of-cells (cell ∷ cells) = in_prefix-cells cell.0 cell.1 (runs_of cells) ∙ ap (λ rest. cell ∷ rest) (runs_of-cells cells)

in_prefix-apart : (from a byte : ℕ) (runs : List Run) → from ≤ a → AreApart (suc a) runs → AreApart from (in_prefix a byte runs)
in_prefix-apart from a byte [] low h = let some : 0 < 1 = omega arith in (low, some, tt)
in_prefix-apart from a byte (run ∷ runs) low h = by_case (run.address == suc a) refl where
  by_case : (b : Bool) → (run.address == suc a) ≡ b
      → AreApart from (if b then record { address = a; bytes = byte ∷ run.bytes } ∷ runs else record { address = a; bytes = byte ∷ [] } ∷ run ∷ runs)
  by_case true e =
      let same : run.address ≡ suc a = equal_numbers run.address (suc a) e in
      let some : 0 < suc (length run.bytes) = omega arith in
      let end : run.address + length run.bytes + 1 ≡ a + suc (length run.bytes) + 1 = omega (arith, same) in
      (low, some, subst (λ n. AreApart n runs) end h.2)
  by_case false e =
      let some : 0 < 1 = omega arith in
      let differ : run.address ≡ suc a → ⊥ = unequal_numbers run.address (suc a) e in
      let later : a + 1 + 1 ≤ run.address = above (h.0) differ in
      (low, some, (later, h.1, h.2)) where
        above : suc a ≤ run.address → (run.address ≡ suc a → ⊥) → a + 1 + 1 ≤ run.address
        above h n = omega (arith, h, n)

runs_of-apart : (from : ℕ) (cells : List Cell) → AreRising from cells → AreApart from (runs_of cells)
runs_of-apart from [] h = tt
runs_of-apart from (cell ∷ cells) h = in_prefix-apart from cell.0 cell.1 (runs_of cells) h.0 (runs_of-apart (suc cell.0) cells h.1)

-- rows are the rows of their cells
apart-lower : (a b : ℕ) (runs : List Run) → b ≤ a → AreApart a runs → AreApart b runs
apart-lower a b [] less h = tt
apart-lower a b (run ∷ runs) less h = let low : b ≤ run.address = omega (arith, less, h.0) in (low, h.1, h.2)

in_prefix-far : (a byte : ℕ) (runs : List Run) → AreApart (a + 1 + 1) runs → in_prefix a byte runs ≡ record { address = a; bytes = byte ∷ [] } ∷ runs
in_prefix-far a byte [] h = refl
in_prefix-far a byte (run ∷ runs) h = by_case (run.address == suc a) refl where
  by_case : (b : Bool) → (run.address == suc a) ≡ b
      → (if b then record { address = a; bytes = byte ∷ run.bytes } ∷ runs else record { address = a; bytes = byte ∷ [] } ∷ run ∷ runs)
      ≡ record { address = a; bytes = byte ∷ [] } ∷ run ∷ runs
  by_case true e = absurd (let same : run.address ≡ suc a = equal_numbers run.address (suc a) e in omega (arith, same, h.0))
  by_case false e = refl

in_prefix-near : (a byte : ℕ) (bytes : List ℕ) (runs : List Run) → in_prefix a byte (record { address = suc a; bytes = bytes } ∷ runs)
    ≡ record { address = a; bytes = byte ∷ bytes } ∷ runs
in_prefix-near a byte bytes runs =
    let same : (suc a == suc a) ≡ true = search rules in
    ap (λ (b : Bool). if b then record { address = a; bytes = byte ∷ bytes } ∷ runs
    else record { address = a; bytes = byte ∷ [] } ∷ record { address = suc a; bytes = bytes } ∷ runs) same

rows-run : (a byte : ℕ) (bytes : List ℕ) (runs : List Run) (rest : List Cell) → runs_of rest ≡ runs → AreApart (a + suc (length bytes) + 1) runs
    → runs_of (cells_from a (byte ∷ bytes) ++ rest) ≡ record { address = a; bytes = byte ∷ bytes } ∷ runs
rows-run a byte [] runs rest e h = ap (in_prefix a byte) e ∙ in_prefix-far a byte runs h
rows-run a byte (next ∷ bytes) runs rest e h =
    let end : a + suc (suc (length bytes)) + 1 ≡ suc a + suc (length bytes) + 1 = omega arith in
    ap (in_prefix a byte) (rows-run (suc a) next bytes runs rest e (subst (λ n. AreApart n runs) end h)) ∙ in_prefix-near a byte (next ∷ bytes) runs

runs_of-run_cells : (from : ℕ) (runs : List Run) → AreApart from runs → runs_of (run_cells runs) ≡ runs
runs_of-run_cells from [] h = refl
runs_of-run_cells from (run ∷ runs) h = by_bytes run.bytes refl (runs_of-run_cells (run.address + length run.bytes + 1) runs h.2) where
  by_bytes : (bytes : List ℕ) → run.bytes ≡ bytes → runs_of (run_cells runs) ≡ runs → runs_of (cells_from run.address run.bytes ++ run_cells runs) ≡ run ∷ runs
  by_bytes [] e later = absurd (let none : length run.bytes ≡ 0 = ap length e in omega (arith, h.1, none))
  by_bytes (byte ∷ bytes) e later =
      let there : AreApart (run.address + suc (length bytes) + 1) runs = subst (λ bs. AreApart (run.address + length bs + 1) runs) e h.2 in
      ap (λ bs. runs_of (cells_from run.address bs ++ run_cells runs)) e ∙ rows-run run.address byte bytes runs (run_cells runs) later there
      ∙ (λ i. record { address = run.address; bytes = sym e i } ∷ runs)

-- the cells of rows rise
rising-append : (a : ℕ) (bytes : List ℕ) (rest : List Cell) → AreRising (a + length bytes) rest → AreRising a (cells_from a bytes ++ rest)
rising-append a [] rest h = subst (λ n. AreRising n rest) (same a) h where
  same : (a : ℕ) → a + 0 ≡ a
  same a = omega arith
rising-append a (byte ∷ bytes) rest h =
    let low : a ≤ a = omega arith in let end : a + suc (length bytes) ≡ suc a + length bytes = omega arith in
    (low, rising-append (suc a) bytes rest (subst (λ n. AreRising n rest) end h))

pub run_cells-rise : (from : ℕ) (runs : List Run) → AreApart from runs → AreRising from (run_cells runs)
run_cells-rise from [] h = tt
run_cells-rise from (run ∷ runs) h =
    let later = run_cells-rise (run.address + length run.bytes + 1) runs h.2 in
    let less : run.address + length run.bytes ≤ run.address + length run.bytes + 1 = omega arith in
    rising-lower run.address from (cells_from run.address run.bytes ++ run_cells runs) h.0
    (rising-append run.address run.bytes (run_cells runs) (rising-lower (run.address + length run.bytes + 1) (run.address + length run.bytes)
    (run_cells runs) less later))

-- the maximal runs of an address map are one list
pub rows_are_single : (cells : List Cell) (runs other : List Run) → AreRunsOf cells runs → AreRunsOf cells other → runs ≡ other
rows_are_single cells runs other h k =
    sym (runs_of-run_cells 0 runs h.apart) ∙ ap runs_of (rising-equal 0 (run_cells runs) (run_cells other) (run_cells-rise 0 runs h.apart)
    (run_cells-rise 0 other k.apart) same)
    ∙ runs_of-run_cells 0 other k.apart where
      same : (cell : Cell) → In cell (run_cells runs) ↔ In cell (run_cells other)
      same cell = (
        λ m. Contains-In cell (run_cells other) ((k.same cell).0 ((h.same cell).1 (In-Contains cell (run_cells runs) m))),
        λ m. Contains-In cell (run_cells runs) ((h.same cell).0 ((k.same cell).1 (In-Contains cell (run_cells other) m))),
      )

-- a cell put in its place among rising ones
abbrev placed_cell : Cell → List Cell → List Cell
placed_cell cell [] = cell ∷ []
placed_cell cell (other ∷ cells) = if nat_lt cell.0 other.0 then cell ∷ other ∷ cells else other ∷ placed_cell cell cells

abbrev in_place : List Cell → List Cell
in_place [] = []
in_place (cell ∷ cells) = placed_cell cell (in_place cells)

placed_cell-In : (cell other : Cell) (cells : List Cell) → In other (placed_cell cell cells) → In other (cell ∷ cells)
placed_cell-In cell other [] m = m
placed_cell-In cell other (c ∷ cells) m = by_case (nat_lt cell.0 c.0) m (placed_cell-In cell other cells) where
  by_case : (b : Bool) → In other (if b then cell ∷ c ∷ cells else c ∷ placed_cell cell cells)
      → (In other (placed_cell cell cells) → In other (cell ∷ cells)) → In other (cell ∷ c ∷ cells)
  by_case true m later = m
  by_case false (inl e) later = inr (inl e)
  by_case false (inr m) later = after (later m) where
    after : In other (cell ∷ cells) → In other (cell ∷ c ∷ cells)
    after (inl e) = inl e
    after (inr m) = inr (inr m)

In-placed_cell : (cell other : Cell) (cells : List Cell) → In other (cell ∷ cells) → In other (placed_cell cell cells)
In-placed_cell cell other [] m = m
In-placed_cell cell other (c ∷ cells) m = by_case (nat_lt cell.0 c.0) m (In-placed_cell cell other cells) where
  by_case : (b : Bool) → In other (cell ∷ c ∷ cells) → (In other (cell ∷ cells) → In other (placed_cell cell cells))
      → In other (if b then cell ∷ c ∷ cells else c ∷ placed_cell cell cells)
  by_case true m later = m
  by_case false (inl e) later = inr (later (inl e))
  by_case false (inr (inl e)) later = inl e
  by_case false (inr (inr m)) later = inr (later (inr m))

placed_cell-rises : (cell : Cell) (from : ℕ) (cells : List Cell) → from ≤ cell.0 → AreRising from cells
    → ((other : Cell) → In other cells → cell.0 ≡ other.0 → ⊥) → AreRising from (placed_cell cell cells)
placed_cell-rises cell from [] low h apart = (low, tt)
placed_cell-rises cell from (c ∷ cells) low h apart = by_case (nat_lt cell.0 c.0) refl
    (λ less. placed_cell-rises cell (suc c.0) cells less h.1 (λ other m. apart other (inr m))) where
      by_case : (b : Bool) → nat_lt cell.0 c.0 ≡ b → (suc c.0 ≤ cell.0 → AreRising (suc c.0) (placed_cell cell cells))
          → AreRising from (if b then cell ∷ c ∷ cells else c ∷ placed_cell cell cells)
      by_case true e later = let less : suc cell.0 ≤ c.0 = of_lt cell.0 c.0 e in (low, (less, h.1))
      by_case false e later =
          let under : c.0 ≤ cell.0 = of_not_lt cell.0 c.0 e in
          let differ : cell.0 ≡ c.0 → ⊥ = apart c (inl refl) in
          (h.0, later (omega (arith, under, differ)))

-- no two cells have one address
abbrev pub HaveOwnAddresses : List Cell → Type 0
HaveOwnAddresses [] = Unit {0}
HaveOwnAddresses (cell ∷ cells) = ((other : Cell) → In other cells → cell.0 ≡ other.0 → ⊥) × HaveOwnAddresses cells

in_place-In : (cell : Cell) (cells : List Cell) → In cell (in_place cells) → In cell cells
in_place-In cell [] m = m
in_place-In cell (c ∷ cells) m = by_case (placed_cell-In c cell (in_place cells) m) (in_place-In cell cells) where
  by_case : In cell (c ∷ in_place cells) → (In cell (in_place cells) → In cell cells) → In cell (c ∷ cells)
  by_case (inl e) later = inl e
  by_case (inr m) later = inr (later m)

In-in_place : (cell : Cell) (cells : List Cell) → In cell cells → In cell (in_place cells)
In-in_place cell [] m = m
In-in_place cell (c ∷ cells) (inl e) = In-placed_cell c cell (in_place cells) (inl e)
In-in_place cell (c ∷ cells) (inr m) = In-placed_cell c cell (in_place cells) (inr (In-in_place cell cells m))

in_place-rises : (cells : List Cell) → HaveOwnAddresses cells → AreRising 0 (in_place cells)
in_place-rises [] h = tt
in_place-rises (cell ∷ cells) h = let low : 0 ≤ cell.0 = omega arith in
    placed_cell-rises cell 0 (in_place cells) low (in_place-rises cells h.1) (λ other m. h.0 other (in_place-In other cells m))

-- if no two cells have one address there are maximal runs
pub rows_exist : (cells : List Cell) → HaveOwnAddresses cells → (runs : List Run) × AreRunsOf cells runs
rows_exist cells h =
    let back = runs_of-cells (in_place cells) in (
      runs_of (in_place cells),
      record {
        apart = runs_of-apart 0 (in_place cells) (in_place-rises cells h);
        same = λ cell. (
          λ m. In-Contains cell (run_cells (runs_of (in_place cells))) (subst (In cell) (sym back) (In-in_place cell cells (Contains-In cell cells m))),
          λ m. In-Contains cell cells (in_place-In cell cells (subst (In cell) back (Contains-In cell (run_cells (runs_of (in_place cells))) m))),
        );
      },
    )
