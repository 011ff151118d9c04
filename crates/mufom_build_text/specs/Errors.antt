-- The errors that are noted while a line is read, and the one that is reported.
use Rattle.std.specs.Prelude.{◌≡◌, ℕ, ◌+◌, ◌-◌, ◌==◌, ◌&&◌, nat_le, nat_lt, Bool, true, false, ◌∷◌, length, Option, Some, None}
use Rattle.std.specs.Prelude.{if◌then◌else◌, ◌⊎◌}
use Rattle.std.specs.Str.Parse.{digits_value}
use Rattle.mufom_text.specs.Words.{Text}
use Rattle.mufom_build_text.specs.declared.cursor.LineError.{LineError}
use Rattle.mufom_refusals.specs.declared.build.BuildReason.{BuildReason}
use Rattle.mufom_refusals.specs.declared.build.BuildReason.TheVariants.{BadText, TooGreat, Position, Count, TooLong, Deep}
use Rattle.mufom_build_text.specs.Pieces.{Piece, byte, gap, figure, position, count, name, digits, expression, block, MOST_POSITION, MOST_NUMBER}
use Rattle.mufom_build_text.specs.Reads.{Place, IsSpaceFront, IsLineEnd, ReadsNumeral}

abbrev pub error_at : ℕ → BuildReason → LineError
error_at column reason = record { column = column; reason = reason }

-- The error to keep of two errors of a line: the one at the smaller column, or the earlier one if the columns are equal.
abbrev pub first_error : Option LineError → LineError → Option LineError
first_error None error = Some error
first_error (Some first) error = if nat_le first.column error.column then Some first else Some error

-- the error of the line once this reason, if any, is noted at a column
abbrev pub noted : Option LineError → ℕ → Option BuildReason → Option LineError
noted error column None = error
noted error column (Some reason) = first_error error (error_at column reason)

-- ---- a line that lacks a piece

-- a piece of the line is missing: that is noted at column 0, before every column of the line
abbrev pub is_bad : Option LineError → Bool
is_bad None = false
is_bad (Some error) = error.column == 0

-- no piece of the line was missing before the place
abbrev pub IsSound : Place → Type 0
IsSound place = is_bad place.error ≡ false

-- A piece is missing at the place: that is noted, and the place does not move.
pub record Fails (before after : Place) : Type 0 where
  pub rest : after.rest ≡ before.rest
  pub line : after.line ≡ before.line
  pub column : after.column ≡ before.column
  pub error : after.error ≡ first_error before.error (error_at 0 BadText)

-- ---- the errors of a piece

abbrev pub stated_error : ℕ → ℕ → BuildReason → Text → Option BuildReason
stated_error most right reason text = let stated = digits_value 10 text in
    if nat_lt most stated then Some TooGreat else if stated == right then None else Some reason

-- The error of a piece that is spelled by these bytes, if it has one.
abbrev pub piece_error : Piece → Text → Option BuildReason
piece_error (byte value) text = None
piece_error gap text = None
piece_error (figure most value) text = if nat_lt most value then Some TooGreat else None
piece_error (position value) text = stated_error MOST_POSITION value Position text
piece_error (count value) text = stated_error MOST_NUMBER value Count text
piece_error (name bytes) text = None
piece_error (digits bytes) text = None
piece_error (expression tokens) text = if nat_lt 255 tokens then Some TooLong else None
piece_error (block opened) text = if nat_lt 32 opened then Some Deep else None

-- ---- the errors that are noted for numbers

-- The error of the line once a number that it states at a column is compared with the right one. A number above `most`, or one of more than 64 bits
-- (`None`), is `TooGreat`; another number that is not `right` has the given reason.
abbrev pub judged : Option LineError → ℕ → Option ℕ → ℕ → ℕ → BuildReason → Option LineError
judged error column None most right reason = first_error error (error_at column TooGreat)
judged error column (Some stated) most right reason = if nat_le stated most
    then (if stated == right then error else first_error error (error_at column reason)) else first_error error (error_at column TooGreat)

-- The error of the line once a number is read at a column: `TooGreat` if it is above `most` or has more than 64 bits (`None`).
abbrev pub limited : Option LineError → ℕ → Option ℕ → ℕ → Option LineError
limited error column None most = first_error error (error_at column TooGreat)
limited error column (Some stated) most = if nat_le stated most then error else first_error error (error_at column TooGreat)

-- Digits are read; `TooGreat` is noted at the first of them if their number is above `most`.
pub record NotesFigure (most : ℕ) (before after : Place) : Type 0 where
  pub stated : Option ℕ
  pub digits : Place
  pub number : ReadsNumeral stated before digits
  pub rest : after.rest ≡ digits.rest
  pub error : after.error ≡ limited before.error before.column stated most

-- Digits are read. At the first of them `TooGreat` is noted if their number is above the greatest position, and `Position` if it is another number
-- than `count`.
pub record NotesPosition (count : ℕ) (before after : Place) : Type 0 where
  pub stated : Option ℕ
  pub digits : Place
  pub number : ReadsNumeral stated before digits
  pub rest : after.rest ≡ digits.rest
  pub error : after.error ≡ judged before.error before.column stated MOST_POSITION count Position

-- The line that is reported if a line as a whole is wrong. At the end of the text, after a line feed, it is the line before.
abbrev pub wrong_line : Place → ℕ
wrong_line place = if (length place.rest == 0) && ((place.column == 1) && nat_lt 1 place.line) then place.line - 1 else place.line

-- The error that is reported if the line should end at the place: `BadText` at column 1 if something else follows or a piece is missing; otherwise
-- the first error of the line.
abbrev pub IsWrongEnd : Place → ℕ → ℕ → BuildReason → Type 0
IsWrongEnd place line column reason =
    ((line ≡ wrong_line place) × (column ≡ 1) × (reason ≡ BadText) × ((IsLineEnd place.rest → ⊥) ⊎ (is_bad place.error ≡ true)))
    ⊎ ((line ≡ place.line) × IsLineEnd place.rest × IsSound place × (place.error ≡ Some (error_at column reason)))

-- The error that is reported if the line should end at the place, once the spaces that follow it are passed.
pub record IsNamed (place : Place) (line column : ℕ) (reason : BuildReason) : Type 0 where
  pub end : Place
  pub spaces : IsSpaceFront place.rest end.rest
  pub last : (more : Text) → end.rest ≡ 32 ∷ more → ⊥
  pub here : end.line ≡ place.line
  pub passed : end.column + length end.rest ≡ place.column + length place.rest
  pub same : end.error ≡ place.error
  pub named : IsWrongEnd end line column reason
