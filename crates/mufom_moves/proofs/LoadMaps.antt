-- The address map of steps whose bytes are moved step by step, and that of all bytes moved at once.
use Rattle.std.proofs.Common.{◌≡◌, ℕ, inl, inr, List, [], ◌∷◌, ◌++◌, map, flat_map, Contains, refl, sym, ◌∙◌, ap, subst}
use Rattle.std.proofs.lemmas.List.{map-append}
use Rattle.mufom_module.specs.declared.module.Order.{Order}
use Rattle.mufom_meaning.specs.declared.located.Run.{Run}
use Rattle.mufom_meaning.specs.Steps.{StepReading}
use Rattle.mufom_meaning.specs.AddressMap.{Cell, step_cells, address_map, run_cells, AreRunsOf}
use Rattle.mufom_meaning.proofs.Members.{In, In-Contains, Contains-In, In-map, map-In}
use Rattle.mufom_moves.specs.declared.shift.Shift.{Shift}
use Rattle.mufom_moves.specs.Shifts.{shifted_cell, shifted_cells}

map_alike : (f g : Cell → Cell) (cells : List Cell) → ((cell : Cell) → In cell cells → f cell ≡ g cell) → map f cells ≡ map g cells
map_alike f g [] same = refl
map_alike f g (c ∷ cells) same =
    let first = same c (inl refl) in let rest = map_alike f g cells (λ d h. same d (inr h)) in λ i. first i ∷ rest i

-- if each step moves each of its bytes as the extents do, all bytes are moved as the extents do
pub moved_steps : (shifts : List Shift) (order : Order) (modulus : ℕ) (f : StepReading → Cell → Cell) (steps : List StepReading)
    → ((step : StepReading) → In step steps → (cell : Cell) → In cell (step_cells order modulus step) → f step cell ≡ shifted_cell shifts cell)
    → flat_map (λ step. map (f step) (step_cells order modulus step)) steps ≡ shifted_cells shifts (address_map order modulus steps)
moved_steps shifts order modulus f [] same = refl
moved_steps shifts order modulus f (step ∷ steps) same =
    ap (λ own. own ++ flat_map (λ s. map (f s) (step_cells order modulus s)) steps)
    (map_alike (f step) (shifted_cell shifts) (step_cells order modulus step) (same step (inl refl)))
    ∙ ap (λ rest. shifted_cells shifts (step_cells order modulus step) ++ rest)
    (moved_steps shifts order modulus f steps (λ s h. same s (inr h)))
    ∙ sym (map-append (shifted_cell shifts) (step_cells order modulus step) (address_map order modulus steps))

-- the runs of moved bytes are the runs of any cells that have the same bytes
pub runs_of_same_cells : (shifts : List Shift) (cells : List Cell) (runs result : List Run) → AreRunsOf cells runs
    → AreRunsOf (shifted_cells shifts (run_cells runs)) result → AreRunsOf (shifted_cells shifts cells) result
runs_of_same_cells shifts cells runs result h k = record {
  apart = k.apart;
  same = λ cell. (
    λ m. (k.same cell).0 (moved cells (run_cells runs) (λ c n. Contains-In c (run_cells runs) ((h.same c).0 (In-Contains c cells n))) cell m),
    λ m. moved (run_cells runs) cells (λ c n. Contains-In c cells ((h.same c).1 (In-Contains c (run_cells runs) n))) cell ((k.same cell).1 m),
  );
} where
  moved : (xs ys : List Cell) → ((c : Cell) → In c xs → In c ys) → (cell : Cell) → Contains (shifted_cells shifts xs) cell → Contains (shifted_cells shifts ys) cell
  moved xs ys within cell m =
      let there = map-In (shifted_cell shifts) cell xs (Contains-In cell (shifted_cells shifts xs) m) in
      subst (λ c. Contains (shifted_cells shifts ys) c) there.2
      (In-Contains (shifted_cell shifts there.0) (shifted_cells shifts ys) (In-map (shifted_cell shifts) there.0 ys (within there.0 there.1)))
