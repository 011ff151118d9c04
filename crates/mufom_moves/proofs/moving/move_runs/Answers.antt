use Rattle.std.proofs.Common.{◌≡◌, ◌∙◌, sym, subst}
use Rattle.std.proofs.lemmas.List.Sorted.{IsPermutation-sym}
use Rattle.mufom_meaning.specs.AddressMap.{run_cells}
use Rattle.mufom_meaning.proofs.locations.CellRuns.{HaveOwnAddresses}
use Rattle.mufom_image_bytes.specs.Images.{AreLow}
use Rattle.mufom_moves.specs.Shifts.{shifted_cells}
use Rattle.mufom_moves.proofs.ShiftLaws.{shifted-permuted}
use Rattle.mufom_moves.proofs.PieceLaws.{moved_own, shifted_cells-same}
use Rattle.mufom_moves.proofs.OrderLaws.{sorted_spread, runs_of_result}
use Rattle.mufom_moves.proofs.moving.move_runs.Goals as goal
use Rattle.mufom_moves.proofs.moving.move_runs.Goals.{After-deref}

-- the extents in order move the bytes as they do in any order
same_cells : (c : After-deref) → shifted_cells c.deref.result.now (run_cells c.args.runs) ≡ shifted_cells c.args.shifts.items (run_cells c.args.runs)
same_cells c =
    let sorted = c.sort_by_start.new.shifts.items in
    let moved = c.sort_by_start.ensures.permutation in
    (λ i. shifted_cells (c.deref.ensures.value i) (run_cells c.args.runs))
    ∙ shifted_cells-same sorted c.args.shifts.items
    (shifted-permuted c.args.shifts.items sorted moved (IsPermutation-sym c.args.shifts.items sorted moved) c.requires.extents) (run_cells c.args.runs)

pub moved_runs-requires-clause-stay_low : goal.moved_runs-requires-clause-stay_low
moved_runs-requires-clause-stay_low c = subst AreLow (sym (same_cells (goal.at.moved_runs-requires-clause-stay_low c).After-deref)) c.requires.stay_low

pub joined_runs-requires : goal.joined_runs-requires
joined_runs-requires c =
    let cells = c.in_ok-moved.ensures.cells ∙ same_cells (goal.at.joined_runs-requires c).After-deref in
    sorted_spread c.in_ok-moved.moved.items c.sort_by_address.new.runs.items c.sort_by_address.ensures.permutation c.sort_by_address.ensures.rising
    c.in_ok-moved.ensures.filled
    (subst HaveOwnAddresses (sym cells) (moved_own c.args.shifts.items c.args.runs c.requires.apart c.requires.stay_apart))

pub returns : goal.returns
returns c =
    runs_of_result c.joined_runs.result (shifted_cells c.args.shifts.items (run_cells c.args.runs)) c.in_ok-moved.moved.items c.sort_by_address.new.runs.items
    (c.in_ok-moved.ensures.cells ∙ same_cells (goal.at.returns c).After-deref) c.sort_by_address.ensures.permutation c.joined_runs.ensures.apart
    c.joined_runs.ensures.cells
