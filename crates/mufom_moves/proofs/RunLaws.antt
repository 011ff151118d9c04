-- Runs that are moved one after another.
use Rattle.std.proofs.Common.{◌≡◌, ℕ, zero, suc, ◌+◌, ◌<◌, ◌≤◌, ◌^◌, inl, inr, List, [], ◌∷◌, ◌++◌, length, get_or, take, drop, sym, ◌∙◌, ap, subst, arith}
use Rattle.std.specs.List.{All}
use Rattle.mufom_meaning.specs.declared.located.Run.{Run}
use Rattle.mufom_meaning.specs.AddressMap.{run_cells, AreApart}
use Rattle.mufom_meaning.specs.Runs.{run_end}
use Rattle.mufom_meaning.proofs.Members.{In}
use Rattle.mufom_image_bytes.specs.Images.{AreLow}
use Rattle.mufom_moves.specs.declared.shift.Shift.{Shift}
use Rattle.mufom_moves.specs.Shifts.{shifted_cells, AreRisingFrom, MoveAlikeFrom, StayLow}
use Rattle.mufom_moves.specs.Joined.{HasBytes, AddsMoved}
use Rattle.mufom_moves.proofs.PieceLaws.{low_end, stays_low, run_more, cells_alike, alike-later}

-- the first runs are moved, and the others begin where the extents that are left move as all of them do
pub record AreMovedSoFar (runs : List Run) (shifts rest : List Shift) (moved : List Run) (i : ℕ) : Type 0 where
  pub from : ℕ
  pub apart : AreApart from (drop i runs)
  pub alike : MoveAlikeFrom from rest shifts
  pub rising : AreRisingFrom 0 rest
  pub filled : All HasBytes moved
  pub cells : run_cells moved ≡ shifted_cells shifts (run_cells (take i runs))

-- the run at a position, and what is before and after it
record IsAt (runs : List Run) (i : ℕ) (run : Run) : Type 0 where
  among : In run runs
  next : drop i runs ≡ run ∷ drop (i + 1) runs
  more : take (i + 1) runs ≡ take i runs ++ run ∷ []

at : (runs : List Run) (i : ℕ) (run : Run) → i < length runs → run ≡ get_or runs i run → IsAt runs i run
at [] i run less e = absurd (omega (arith, less))
at (r ∷ runs) zero run less e = record { among = inl (sym e); next = ap (λ x. x ∷ runs) (sym e); more = ap (λ x. x ∷ []) (sym e) }
at (r ∷ runs) (suc i) run less e =
    let later = at runs i run (omega (arith, less)) e in
    let next : suc i + 1 ≡ suc (i + 1) = omega arith in
    record {
      among = inr later.among;
      next = later.next ∙ ap (λ k. run ∷ drop k (r ∷ runs)) (sym next);
      more = ap (λ k. take k (r ∷ runs)) next ∙ ap (λ rest. r ∷ rest) later.more;
    }

module _ (runs : List Run) (shifts rest : List Shift) (moved : List Run) (i : ℕ) (run : Run) (h : AreMovedSoFar runs shifts rest moved i)
    (less : i < length runs) (e : run ≡ get_or runs i run) where
  there : IsAt runs i run
  there = at runs i run less e

  apart : AreApart h.from (run ∷ drop (i + 1) runs)
  apart = subst (AreApart h.from) there.next h.apart

  pub next_some : HasBytes run
  next_some = apart.1

  pub next_end : AreLow (run_cells runs) → run_end run ≤ 2 ^ 64
  next_end low = low_end runs run low there.among apart.1

  module _ (after : List Shift) (alike_after : MoveAlikeFrom run.address after rest) where
    alike_all : MoveAlikeFrom run.address after shifts
    alike_all = λ a from. alike_after a from ∙ h.alike a (let low = apart.0 in omega (arith, from, low))

    pub next_low : AreLow (shifted_cells shifts (run_cells runs)) → StayLow after run.address (run_end run)
    next_low low = stays_low shifts after runs run low there.among alike_all

    -- once it is moved too
    pub next_moved : (more : List Run) → AreRisingFrom 0 after → All HasBytes more → AddsMoved after run moved more → AreMovedSoFar runs shifts after more (i + 1)
    next_moved more rising filled cells = record {
      from = run_end run + 1;
      apart = apart.2;
      alike = alike-later run.address (run_end run + 1) after shifts (omega arith) alike_all;
      rising = rising;
      filled = filled;
      cells = cells ∙ ap (λ last. run_cells moved ++ last) (cells_alike shifts after run.address run.bytes alike_all)
          ∙ run_more shifts (take i runs) run (run_cells moved) h.cells ∙ ap (λ first. shifted_cells shifts (run_cells first)) (sym there.more);
    }
