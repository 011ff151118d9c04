-- Reading the line of a row.
use Rattle.std.specs.Prelude.{◌≡◌, []}
use Rattle.mufom_build_text.specs.Errors.{IsSound}
use Rattle.mufom_build_text.specs.Loosely.{Moves, Passes, Goes}
use Rattle.mufom_build_text.specs.Reads.{Place, IsRight}
use Rattle.mufom_build.specs.declared.row.Row.{Row as ReadRow}
use Rattle.mufom_build.specs.Order.{State, kind_of, row_pieces, IsFew}
use Rattle.mufom_build.specs.Rows.{Row}
use Rattle.mufom_build.specs.Shown.{Shows, shown_kind}

-- The line of a row is spelled by its pieces between the two places, from this state of a listing, or a piece is missing. If no piece is missing, the
-- pieces are passed, and the result has the row's kind; if the line has no error up to the second place, the result states the row. If the line of
-- some row comes next, then that is the row that is read, and no piece is missing.
pub record ReadsRow (s : State) (result : ReadRow) (before after : Place) : Type 0 where
  pub row : Row
  pub moves : Moves before after
  pub passes : IsSound after → Passes (row_pieces s row) before after
  pub few : IsSound after → IsFew row
  pub kind : IsSound after → shown_kind result ≡ kind_of row
  pub same : IsRight after → Shows result row
  pub takes : (r : Row) → IsFew r → Goes (row_pieces s r) before → (r ≡ row) × Goes [] after
