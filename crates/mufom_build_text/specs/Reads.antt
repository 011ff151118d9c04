-- What is read between two places of a text.
use Rattle.std.specs.Prelude.{◌≡◌, ℕ, ◌+◌, ◌≤◌, ◌^◌, ◌==◌, List, [], ◌∷◌, ◌++◌, length, Option, None, MatchOption, ◌⊎◌, if◌then◌else◌}
use Rattle.std.specs.Str.Parse.{IsNumeral, digits_value}
use Rattle.mufom_text.specs.Words.{Text}
use Rattle.mufom_build_text.specs.declared.cursor.LineError.{LineError}
use Rattle.mufom_build_text.specs.Pieces.{Piece, exact, Spells, SpellsDigits, SpellsNameBytes, AreSpaces}
use Rattle.mufom_build_text.specs.Places.{AreBlank, SpellsLines}

-- A place in a text: the bytes from there on, its line and column from 1, and the first error of the line before it.
pub record Place : Type 0 where
  pub rest : Text
  pub line : ℕ
  pub column : ℕ
  pub error : Option LineError

abbrev pub beginning : Text → Place
beginning text = record { rest = text; line = 1; column = 1; error = None }

-- the line has no error before the place
abbrev pub IsRight : Place → Type 0
IsRight place = place.error ≡ None

-- any spaces come before the rest
pub record IsSpaceFront (text rest : Text) : Type 0 where
  pub front : Text
  pub is : text ≡ front ++ rest
  pub spaces : AreSpaces front

-- any spaces and ends of lines come before the rest
pub record IsBlankFront (text rest : Text) : Type 0 where
  pub front : Text
  pub is : text ≡ front ++ rest
  pub blank : AreBlank front

-- The line has no error before the first place, and the bytes between the two places spell the pieces, with right positions and counts.
pub record ReadsRight (pieces : List Piece) (before after : Place) : Type 0 where
  pub right : IsRight before
  pub front : Text
  pub is : before.rest ≡ front ++ after.rest
  pub spelled : Spells exact pieces front

pub record Reads (pieces : List Piece) (before after : Place) : Type 0 where
  pub read : IsRight after → ReadsRight pieces before after

-- The bytes between the two places are digits; `value` is their number if it fits in 64 bits.
pub record ReadsNumeral (value : Option ℕ) (before after : Place) : Type 0 where
  pub front : Text
  pub is : before.rest ≡ front ++ after.rest
  pub numeral : IsNumeral 10 front
  pub value_is : MatchOption value (2 ^ 64 ≤ digits_value 10 front) (λ n. digits_value 10 front ≡ n)
  pub error : after.error ≡ before.error

-- The text begins with the digits of these bytes, and the rest follows.
pub record IsDigitsFront (bytes : List ℕ) (text rest : Text) : Type 0 where
  pub front : Text
  pub is : text ≡ front ++ rest
  pub spelled : SpellsDigits bytes front

-- The text begins with the bytes of a name, spelled as between its quotes, and the rest follows.
pub record IsNameFront (bytes : List ℕ) (text rest : Text) : Type 0 where
  pub front : Text
  pub is : text ≡ front ++ rest
  pub spelled : SpellsNameBytes bytes front

-- ---- lines and columns

-- the number of line feeds in a text
abbrev pub feeds : Text → ℕ
feeds [] = 0
feeds (b ∷ text) = if b == 10 then feeds text + 1 else feeds text

-- the column after a text that begins at this column
abbrev pub column_after : ℕ → Text → ℕ
column_after column [] = column
column_after column (b ∷ text) = if b == 10 then column_after 1 text else column_after (column + 1) text

-- the text begins with neither a space nor an end of a line
abbrev pub IsPastBlanks : Text → Type 0
IsPastBlanks text = (b : ℕ) (more : Text) → text ≡ b ∷ more → (b ≡ 32) ⊎ (b ≡ 10) → ⊥

-- Any spaces and ends of lines are passed over, from one line and column to another.
pub record PassesBlanks (text : Text) (from_line from_column : ℕ) (rest : Text) (line column : ℕ) : Type 0 where
  pub front : Text
  pub is : text ≡ front ++ rest
  pub blank : AreBlank front
  pub line_is : line ≡ from_line + feeds front
  pub column_is : column ≡ column_after from_column front

-- the end of the text or of a line
abbrev pub IsLineEnd : Text → Type 0
IsLineEnd text = (text ≡ []) ⊎ ((more : Text) × (text ≡ 10 ∷ more))

-- The line ends after spaces, and blank lines follow before the rest.
pub record EndsLine (text rest : Text) : Type 0 where
  pub end : Text
  pub spaces : IsSpaceFront text end
  pub line_end : IsLineEnd end
  pub blank : IsBlankFront end rest
  pub last : (more : Text) → rest ≡ 10 ∷ more → ⊥

-- The line of the first place ends after spaces, and the second place is behind the blank lines and the spaces that follow.
pub record LeavesLine (before after : Place) : Type 0 where
  pub end : Place
  pub spaces : IsSpaceFront before.rest end.rest
  pub line : end.line ≡ before.line
  pub column : end.column + length end.rest ≡ before.column + length before.rest
  pub line_end : IsLineEnd end.rest
  pub blanks : PassesBlanks end.rest end.line end.column after.rest after.line after.column
  pub past : IsPastBlanks after.rest
  pub error : after.error ≡ before.error

-- The text consists of these lines, and is not empty if there are any.
pub record Follow (lines : List (List Piece)) (text : Text) : Type 0 where
  pub spelled : SpellsLines exact lines text
  pub some : text ≡ [] → lines ≡ []

-- The text begins with these lines, and the rest follows them.
pub record ReadsLines (lines : List (List Piece)) (text rest : Text) : Type 0 where
  pub followed : (more : List (List Piece)) → Follow more rest → Follow (lines ++ more) text
