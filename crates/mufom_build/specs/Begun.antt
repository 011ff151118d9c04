-- The state in which a listing is read: the rows so far, and the place after them.
use Rattle.std.specs.Prelude.{◌≡◌, ℕ, ◌+◌, ◌≤◌, Bool, true, false, List, [], ◌∷◌, ◌++◌, length, flat_map, ◌⊎◌}
use Rattle.std.specs.List.{AllByRecursion}
use Rattle.mufom_text.specs.Words.{Text, line}
use Rattle.mufom_build_text.specs.Pieces.{Piece, byte, gap, figure, position, count, name, digits, expression, block, Reading, exact, Spells, AreSpaces}
use Rattle.mufom_build_text.specs.Pieces.{MOST_POSITION, MOST_NUMBER}
use Rattle.mufom_refusals.specs.declared.build.BuildReason.{BuildReason}
use Rattle.mufom_build_text.specs.Errors.{wrong_line, Fails, IsNamed}
use Rattle.mufom_build_text.specs.Reads.{Place, IsRight, IsPastBlanks}
use Rattle.mufom_build.specs.Lines.{Line}
use Rattle.mufom_build.specs.Order.{State, start, next, row_pieces, lines_from, AreInOrder}
use Rattle.mufom_build.specs.Refusals.{text_lines, last_line}
use Rattle.mufom_build.specs.Rows.{Row}

-- ---- texts of one line each

-- no line ends in the text
abbrev pub IsPlain : Text → Type 0
IsPlain text = AllByRecursion (λ b. b ≡ 10 → ⊥) text

-- the text is that of the line, with any spaces before and after it
abbrev pub SpellsLine : Reading → Line → Text → Type 0
SpellsLine reading pieces text = (before : Text) × (body : Text) × (after : Text) × (text ≡ before ++ (body ++ after)) × AreSpaces before
    × Spells reading pieces body × AreSpaces after

-- The texts spell the rows, in order, from this state of a listing on. A text that spells no row is spaces alone.
abbrev pub AreRows : Reading → State → List Row → List Text → Type 0
AreRows reading s rows [] = rows ≡ []
AreRows reading s rows (text ∷ texts) = (AreSpaces text × AreRows reading s rows texts)
    ⊎ ((r : Row) × (more : List Row) × (rows ≡ r ∷ more) × SpellsLine reading (row_pieces s r) text × AreRows reading (next s r) more texts)

-- ---- pieces without an error

-- what the piece states is no greater than its field holds
abbrev pub Fits : Piece → Type 0
Fits (byte value) = Unit {0}
Fits gap = Unit {0}
Fits (figure most value) = value ≤ most
Fits (position value) = value ≤ MOST_POSITION
Fits (count value) = value ≤ MOST_NUMBER
Fits (name bytes) = Unit {0}
Fits (digits bytes) = Unit {0}
Fits (expression tokens) = tokens ≤ 255
Fits (block opened) = opened ≤ 32

-- all pieces of the lines fit their fields
abbrev pub AllFit : List Line → Type 0
AllFit lines = AllByRecursion (λ pieces. AllByRecursion Fits pieces) lines

-- ---- places

-- The place is in a line, after these lines of the text and the spaces at the beginning of its own line.
pub record IsBeforeLine (text : Text) (texts : List Text) (place : Place) : Type 0 where
  pub lead : Text
  pub is : text ≡ flat_map line texts ++ (lead ++ place.rest)
  pub spaces : AreSpaces lead
  pub first : ℕ
  pub others : Text
  pub some : place.rest ≡ first ∷ others
  pub line_is : place.line ≡ length texts + 1
  pub column_is : place.column ≡ length lead + 1

-- The place is at the end of the text, whose lines are these texts.
pub record IsAtEnd (text : Text) (texts : List Text) (place : Place) : Type 0 where
  pub none : place.rest ≡ []
  pub all : text_lines text ≡ texts
  pub last : wrong_line place ≡ last_line text

-- The rows can begin a listing, and the text before the place states them exactly. The place is at a further line or at the end of the text.
pub record Begun (text : Text) (rows : List Row) (place : Place) : Type 0 where
  pub texts : List Text
  pub plain : AllByRecursion IsPlain texts
  pub run : AreInOrder start rows
  pub stated : AreRows exact start rows texts
  pub fit : AllFit (lines_from start rows)
  pub right : IsRight place
  pub past : IsPastBlanks place.rest
  pub here : IsBeforeLine text texts place ⊎ IsAtEnd text texts place

-- ---- reading a line

-- Once the line of a row is read, an error is noted if the row may not come here.
abbrev pub IsNamedRow : Bool → Place → Place → Type 0
IsNamedRow may after noted = ((may ≡ true) × (noted ≡ after)) ⊎ ((may ≡ false) × Fails after noted)

-- The error that is reported for the line of a row, which ends at the place. `may` says whether the row may come here.
pub record IsRowNamed (may : Bool) (place : Place) (line column : ℕ) (reason : BuildReason) : Type 0 where
  pub noted : Place
  pub row : IsNamedRow may place noted
  pub named : IsNamed noted line column reason
