-- Runs in the order of their addresses: they do not overlap if no address occurs twice.
use Rattle.std.proofs.Common.{◌≡◌, ℕ, suc, ◌+◌, ◌<◌, ◌≤◌, ◌⊎◌, inl, inr, List, [], ◌∷◌, length, get_or, Bool, true, false, ◌&&◌, refl, sym, ◌∙◌, ap, subst}
use Rattle.std.proofs.Common.{zero, arith, append-nil}
use Rattle.std.specs.Prelude.{nat_le, nat_lt, if◌then◌else◌, Contains, Result, Ok, Err, IfOk}
use Rattle.std.specs.List.{All, sum_by}
use Rattle.std.specs.List.Sorted.{IsPermutation}
use Rattle.std.proofs.lemmas.List.Elements.{All-head, All-tail}
use Rattle.std.proofs.lemmas.List.Sorted.{sum_by-IsPermutation, All-permutation, Contains-permutation, IsPermutation-sym}
use Rattle.std.proofs.lemmas.List.Sums.{sum_by-cons}
use Rattle.mufom_numbers.proofs.Choices.{of_lt, is_lt, of_not_lt}
use Rattle.mufom_meaning.specs.declared.located.Run.{Run}
use Rattle.mufom_meaning.specs.AddressMap.{Cell, cells_from, run_cells, AreApart, AreRunsOf}
use Rattle.mufom_meaning.specs.Runs.{run_end}
use Rattle.mufom_meaning.proofs.Members.{In, In-Contains, Contains-In, In-right, In-flat_map, flat_map-In}
use Rattle.mufom_meaning.proofs.Tests.{le_of, of_le}
use Rattle.mufom_meaning.proofs.locations.CellRuns.{HaveOwnAddresses}
use Rattle.mufom_meaning.proofs.absolute.Cells.{own_apart, own_after}
use Rattle.mufom_moves.specs.Joined.{HasBytes, AreInOrder, AreSpread}
use Rattle.mufom_moves.proofs.PieceLaws.{run_cell}

-- ---- how many runs have an address

-- 1 if the run has the address, and else 0
abbrev covers : ℕ → Run → ℕ
covers a run = if nat_le run.address a && nat_lt a (run_end run) then 1 else 0

covers-there : (a : ℕ) (run : Run) → run.address ≤ a → a < run_end run → covers a run ≡ 1
covers-there a run low high =
    ap (λ b. if b && nat_lt a (run_end run) then 1 else 0) (of_le run.address a low) ∙ ap (λ b. if b then 1 else 0) (is_lt a (run_end run) high)

abbrev Has : ℕ → Run → Type 0
Has a run = (run.address ≤ a) × (a < run_end run)

-- the run has the address, or counts nothing
covered : (a : ℕ) (run : Run) → (Has a run × (covers a run ≡ 1)) ⊎ (covers a run ≡ 0)
covered a run = by_tests (nat_le run.address a) (nat_lt a (run_end run)) refl refl where
  by_tests : (b c : Bool) → nat_le run.address a ≡ b → nat_lt a (run_end run) ≡ c → (Has a run × (covers a run ≡ 1)) ⊎ (covers a run ≡ 0)
  by_tests true true e f = let low = le_of run.address a e in let high = of_lt a (run_end run) f in inl ((low, high), covers-there a run low high)
  by_tests true false e f = inr (λ i. if e i && f i then 1 else 0)
  by_tests false c e f = inr (λ i. if e i && f i then 1 else 0)

-- a run that has the address has a byte there
covered_cell : (a : ℕ) (runs : List Run) → 0 < sum_by (covers a) runs → (byte : ℕ) × In (a, byte) (run_cells runs)
covered_cell a [] some = absurd (omega (arith, some))
covered_cell a (run ∷ runs) some = by_case (covered a run) (covered_cell a runs) where
  by_case : (Has a run × (covers a run ≡ 1)) ⊎ (covers a run ≡ 0) → (0 < sum_by (covers a) runs → (byte : ℕ) × In (a, byte) (run_cells runs))
      → (byte : ℕ) × In (a, byte) (run_cells (run ∷ runs))
  by_case (inl h) later = run_cell (run ∷ runs) run a (inl refl) h.0.0 h.0.1
  by_case (inr none) later =
      let both = sum_by-cons (covers a) run runs in
      let there = later (omega (arith, some, both, none)) in
      (there.0, In-right (a, there.0) (cells_from run.address run.bytes) (run_cells runs) there.1)

-- if no address occurs twice, at most one run has it
covered_once : (a : ℕ) (runs : List Run) → HaveOwnAddresses (run_cells runs) → sum_by (covers a) runs ≤ 1
covered_once a [] own = omega arith
covered_once a (run ∷ runs) own =
    by_case (covered a run) (covered_once a runs (own_after (cells_from run.address run.bytes) (run_cells runs) own)) where
      both : sum_by (covers a) (run ∷ runs) ≡ covers a run + sum_by (covers a) runs
      both = sum_by-cons (covers a) run runs

      alone : Has a run → 0 < sum_by (covers a) runs → ⊥
      alone h some =
          let first = run_cell (run ∷ []) run a (inl refl) h.0 h.1 in
          let other = covered_cell a runs some in
          own_apart (cells_from run.address run.bytes) (run_cells runs) own (a, first.0) (a, other.0)
          (subst (In (a, first.0)) (append-nil (cells_from run.address run.bytes)) first.1) other.1 refl

      none_left : (n : ℕ) → (0 < n → ⊥) → n ≡ 0
      none_left zero h = refl
      none_left (suc n) h = absurd (h (omega arith))

      by_case : (Has a run × (covers a run ≡ 1)) ⊎ (covers a run ≡ 0) → sum_by (covers a) runs ≤ 1 → sum_by (covers a) (run ∷ runs) ≤ 1
      by_case (inl h) later = let rest = none_left (sum_by (covers a) runs) (alone h.0) in let one = h.1 in let sum = both in omega (arith, rest, one, sum)
      by_case (inr none) later = let sum = both in omega (arith, none, later, sum)

-- ---- in order

pub runs_in_order : (low : ℕ) (runs : List Run) → ((i j : ℕ) (d : Run) → i ≤ j → j < length runs → (get_or runs i d).address ≤ (get_or runs j d).address)
    → ((d : Run) → 0 < length runs → low ≤ (get_or runs 0 d).address) → AreInOrder low runs
runs_in_order low [] up first = tt {0}
runs_in_order low (run ∷ runs) up first = (
  first run (omega arith),
  runs_in_order run.address runs (λ i j d le less. up (suc i) (suc j) d (omega (arith, le)) (omega (arith, less)))
      (λ d some. up 0 1 d (omega arith) (omega (arith, some))),
)

-- no two runs have one address
abbrev AreSingle : List Run → Type 0
AreSingle runs = (a : ℕ) → sum_by (covers a) runs ≤ 1

ordered_spread : (low : ℕ) (runs : List Run) → AreInOrder low runs → All HasBytes runs → AreSingle runs → AreSpread low runs
ordered_spread low [] order filled single = tt {0}
ordered_spread low (run ∷ runs) order filled single = (
  order.0,
  All-head HasBytes run runs filled,
  ordered_spread (run_end run) runs (after runs order.1 (All-tail HasBytes run runs filled) single)
      (All-tail HasBytes run runs filled)
      (λ a. let sum = sum_by-cons (covers a) run runs in let one = single a in omega (arith, sum, one)),
) where
  after : (runs : List Run) → AreInOrder run.address runs → All HasBytes runs → AreSingle (run ∷ runs) → AreInOrder (run_end run) runs
  after [] order filled single = tt {0}
  after (next ∷ runs) order filled single = by_test (nat_lt next.address (run_end run)) refl where
    some : HasBytes next
    some = All-head HasBytes next runs filled

    by_test : (b : Bool) → nat_lt next.address (run_end run) ≡ b → AreInOrder (run_end run) (next ∷ runs)
    by_test false e = (of_not_lt next.address (run_end run) e, order.1)
    by_test true e =
        let a = next.address in
        let own = covers-there a run order.0 (of_lt a (run_end run) e) in
        let bytes = some in
        let other = covers-there a next (omega arith) (omega (arith, bytes)) in
        let sum = sum_by-cons (covers a) run (next ∷ runs) in
        let rest = sum_by-cons (covers a) next runs in
        let one = single a in
        absurd (omega (arith, own, other, sum, rest, one))

-- runs of bytes, no two of which have the same address, do not overlap once they are sorted
pub sorted_spread : (runs sorted : List Run) → IsPermutation runs sorted → AreInOrder 0 sorted → All HasBytes runs → HaveOwnAddresses (run_cells runs)
    → AreSpread 0 sorted
sorted_spread runs sorted permuted order filled own =
    ordered_spread 0 sorted order (All-permutation HasBytes runs sorted permuted filled)
    (λ a. subst (λ n. n ≤ 1) (sym (sum_by-IsPermutation (covers a) runs sorted permuted)) (covered_once a runs own))

-- ---- the same bytes

permuted_cells : (runs sorted : List Run) → IsPermutation runs sorted → (cell : Cell) → Contains (run_cells runs) cell → Contains (run_cells sorted) cell
permuted_cells runs sorted permuted cell h =
    let there = flat_map-In (λ (run : Run). cells_from run.address run.bytes) cell runs (Contains-In cell (run_cells runs) h) in
    In-Contains cell (run_cells sorted) (In-flat_map (λ (run : Run). cells_from run.address run.bytes) there.0 cell sorted
    (Contains-In there.0 sorted (Contains-permutation runs sorted there.0 permuted (In-Contains there.0 runs there.1))) there.2)

runs_of_sorted : (cells : List Cell) (runs sorted joined : List Run) → run_cells runs ≡ cells → IsPermutation runs sorted → AreApart 0 joined
    → run_cells joined ≡ run_cells sorted → AreRunsOf cells joined
runs_of_sorted cells runs sorted joined same permuted apart e = record {
  apart = apart;
  same = λ cell. (
    λ h. subst (λ all. Contains all cell) (sym e) (permuted_cells runs sorted permuted cell (subst (λ all. Contains all cell) (sym same) h)),
    λ h. subst (λ all. Contains all cell) same (permuted_cells sorted runs (IsPermutation-sym runs sorted permuted) cell (subst (λ all. Contains all cell) e h)),
  );
}

pub runs_of_result : {E : Type 0} (result : Result (List Run) E) (cells : List Cell) (runs sorted : List Run) → run_cells runs ≡ cells
    → IsPermutation runs sorted → IfOk result (λ joined. AreApart 0 joined) → IfOk result (λ joined. run_cells joined ≡ run_cells sorted)
    → IfOk result (AreRunsOf cells)
runs_of_result (Ok joined) cells runs sorted same permuted apart e = runs_of_sorted cells runs sorted joined same permuted apart e
runs_of_result (Err stop) cells runs sorted same permuted apart e = tt
