-- Reading between two places of a line that may have errors or lack a piece.
use Rattle.std.specs.Prelude.{◌≡◌, ℕ, ◌+◌, ◌<◌, ◌≤◌, ◌^◌, ◌==◌, ◌&&◌, not, nat_lt, Bool, true, false, List, [], ◌∷◌, ◌++◌, length, Option, None, Some}
use Rattle.std.specs.Prelude.{MatchOption, if◌then◌else◌}
use Rattle.std.specs.Char.{digit_value}
use Rattle.hex.specs.Hex.{hex_digit_value}
use Rattle.mufom_text.specs.Words.{Text}
use Rattle.mufom_build_text.specs.Pieces.{Piece, byte, gap, figure, position, count, name, digits, expression, block, loose}
use Rattle.mufom_build_text.specs.Pieces.{Spells, SpellsPiece, SpellsNumber, SpellsDigits, SpellsName, AreSpaces, words, name_piece}
use Rattle.mufom_build_text.specs.Reads.{Place, IsRight, IsLineEnd, IsSpaceFront}
use Rattle.mufom_build_text.specs.Errors.{noted, piece_error, IsSound}

-- ---- the beginning of texts and of pieces

-- the text does not begin with a byte for which P holds
abbrev pub Avoids : (ℕ → Type 0) → Text → Type 0
Avoids P text = (b : ℕ) (more : Text) → text ≡ b ∷ more → P b → ⊥

abbrev pub IsSpace : ℕ → Type 0
IsSpace b = b ≡ 32

-- a decimal digit
abbrev pub IsFigure : ℕ → Type 0
IsFigure b = digit_value b < 10

-- a hexadecimal digit
abbrev pub IsHex : ℕ → Type 0
IsHex b = (n : ℕ) × (hex_digit_value b ≡ Some n)

-- the pieces cannot begin with a space
abbrev pub no_space : List Piece → Bool
no_space [] = true
no_space (byte v ∷ more) = not (v == 32)
no_space (gap ∷ more) = false
no_space (figure most n ∷ more) = true
no_space (position n ∷ more) = true
no_space (count n ∷ more) = true
no_space (name bytes ∷ more) = true
no_space (digits [] ∷ more) = no_space more
no_space (digits (b ∷ bytes) ∷ more) = true
no_space (expression n ∷ more) = no_space more
no_space (block n ∷ more) = no_space more

-- the pieces cannot begin with a decimal digit
abbrev pub no_figure : List Piece → Bool
no_figure [] = true
no_figure (byte v ∷ more) = not (nat_lt (digit_value v) 10)
no_figure (gap ∷ more) = true
no_figure (figure most n ∷ more) = false
no_figure (position n ∷ more) = false
no_figure (count n ∷ more) = false
no_figure (name bytes ∷ more) = true
no_figure (digits [] ∷ more) = no_figure more
no_figure (digits (b ∷ bytes) ∷ more) = false
no_figure (expression n ∷ more) = no_figure more
no_figure (block n ∷ more) = no_figure more

-- the pieces cannot begin with a hexadecimal digit: there are none, or spaces come first
abbrev pub no_hex : List Piece → Bool
no_hex [] = true
no_hex (gap ∷ more) = true
no_hex (piece ∷ more) = false

-- no space of the text is followed by another space, in the text or at the beginning of the pieces after it
abbrev pub follows : Text → List Piece → Bool
follows [] more = true
follows (b ∷ text) more = (if b == 32 then no_space (words text ++ more) else true) && follows text more

-- ---- the pieces before which the end of a piece is found

abbrev pub NoSpace : List Piece → Type 0
NoSpace more = no_space more ≡ true

abbrev pub NoFigure : List Piece → Type 0
NoFigure more = no_figure more ≡ true

abbrev pub NoHex : List Piece → Type 0
NoHex more = no_hex more ≡ true

abbrev pub Follows : Text → List Piece → Type 0
Follows text more = follows text more ≡ true

abbrev pub Anything : List Piece → Type 0
Anything more = Unit {0}

abbrev pub Nothing : List Piece → Type 0
Nothing more = more ≡ []

-- ---- the front of a text

-- the text begins with these bytes
abbrev pub IsFront : Text → Text → Type 0
IsFront bytes text = (rest : Text) × (text ≡ bytes ++ rest)

-- the first byte of the text; `None` if it is empty
abbrev pub IsFirst : Option ℕ → Text → Type 0
IsFirst None text = text ≡ []
IsFirst (Some b) text = (more : Text) × (text ≡ b ∷ more)

-- the first byte after any spaces; `None` if the text ends there
pub record IsAfterGap (byte : Option ℕ) (text : Text) : Type 0 where
  pub end : Text
  pub spaces : IsSpaceFront text end
  pub last : Avoids IsSpace end
  pub first : IsFirst byte end

-- the text begins with the name in quotes, and ends with the rest
abbrev pub IsQuotedFront : List ℕ → Text → Text → Type 0
IsQuotedFront bytes text rest = (front : Text) × (text ≡ front ++ rest) × SpellsName bytes front

-- if the text begins with the digits of some bytes, after which no hexadecimal digit follows, these are the bytes, and the rest follows them
abbrev pub TakesDigits : List ℕ → Text → Text → Type 0
TakesDigits bytes text rest = (others : List ℕ) (front more : Text) → text ≡ front ++ more → SpellsDigits others front → Avoids IsHex more
    → (bytes ≡ others) × (rest ≡ more)

-- ---- two places of a line

-- The second place is on the line of the first, as many columns further as bytes are passed. If the line has an error or lacks a piece before the
-- first place, it does before the second.
pub record Moves (before after : Place) : Type 0 where
  pub line : after.line ≡ before.line
  pub column : after.column + length after.rest ≡ before.column + length before.rest
  pub within : length after.rest ≤ length before.rest
  pub sound : IsSound after → IsSound before
  pub right : IsRight after → IsRight before

-- The bytes between the two places spell the piece, and its error, if it has one, is noted where it begins.
pub record PassesOne (piece : Piece) (before after : Place) : Type 0 where
  pub front : Text
  pub is : before.rest ≡ front ++ after.rest
  pub spelled : SpellsPiece loose piece front
  pub line : after.line ≡ before.line
  pub column : after.column ≡ before.column + length front
  pub error : after.error ≡ noted before.error before.column (piece_error piece front)

-- each of the pieces is passed, one after another
abbrev pub Passes : List Piece → Place → Place → Type 0
Passes [] before after = before ≡ after
Passes (piece ∷ pieces) before after = (next : Place) × PassesOne piece before next × Passes pieces next after

-- No piece is missing before the place, and the rest of its line consists of these pieces, with any spaces after them.
pub record Goes (pieces : List Piece) (place : Place) : Type 0 where
  pub sound : IsSound place
  pub front : Text
  pub spaces : Text
  pub end : Text
  pub is : place.rest ≡ front ++ (spaces ++ end)
  pub spelled : Spells loose pieces front
  pub are : AreSpaces spaces
  pub line_end : IsLineEnd end

-- ---- the effect of a reader

-- A value is spelled by its pieces between the two places, or a piece is missing. If no piece is missing, the value's pieces are passed; if the line
-- has no error up to the second place, the result is that value. If the pieces of some value come next, followed by pieces that satisfy `Tail`, then
-- that is the value that is read, and those pieces come next after it.
pub record ReadsLoosely {X : Type 0} (pieces_of : X → List Piece) (Tail : List Piece → Type 0) (result : X) (before after : Place) : Type 0 where
  pub value : X
  pub moves : Moves before after
  pub passes : IsSound after → Passes (pieces_of value) before after
  pub same : IsRight after → result ≡ value
  pub takes : (x : X) (more : List Piece) → Tail more → Goes (pieces_of x ++ more) before → (x ≡ value) × Goes more after

abbrev pub ReadsWords : Text → Place → Place → Type 0
ReadsWords text before after = ReadsLoosely (λ (u : Unit {0}). words text) (Follows text) tt before after

abbrev pub ReadsFigure : ℕ → ℕ → Place → Place → Type 0
ReadsFigure most n before after = ReadsLoosely (λ (v : ℕ). figure most v ∷ []) NoFigure n before after

abbrev pub ReadsPosition : ℕ → Place → Place → Type 0
ReadsPosition n before after = ReadsLoosely (λ (u : Unit {0}). position n ∷ []) NoFigure tt before after

abbrev pub ReadsName : List ℕ → Place → Place → Type 0
ReadsName bytes before after = ReadsLoosely name_piece Anything bytes before after

-- one or more bytes are read, as hexadecimal digits
pub record ReadsHex (bytes : List ℕ) (before after : Place) : Type 0 where
  pub first : ℕ
  pub others : List ℕ
  pub is : IsSound after → bytes ≡ first ∷ others
  pub reads : ReadsLoosely (λ (bs : ℕ × List ℕ). digits (bs.0 ∷ bs.1) ∷ []) NoHex (first, others) before after

-- ---- the bytes of one piece

-- the bytes between the two places spell this value, and no error is noted
pub record PassesText (Spelled : Text → Type 0) (before after : Place) : Type 0 where
  pub front : Text
  pub is : before.rest ≡ front ++ after.rest
  pub spelled : Spelled front
  pub error : after.error ≡ before.error

-- The bytes between the two places spell this value, or it is missing. If the text of some value comes next, followed by text that satisfies `Ends`,
-- then that is the value that is read.
pub record ReadsText {X : Type 0} (Spelled : X → Text → Type 0) (Ends : Text → Type 0) (value : X) (before after : Place) : Type 0 where
  pub moves : Moves before after
  pub passes : IsSound after → PassesText (Spelled value) before after
  pub takes : (x : X) (front rest : Text) → IsSound before → before.rest ≡ front ++ rest → Spelled x front → Ends rest
      → (x ≡ value) × (after.rest ≡ rest) × IsSound after

abbrev pub AnyText : Text → Type 0
AnyText text = Unit {0}

-- this byte is read; for `ReadsGap`, one or more spaces are
abbrev pub ReadsByte : ℕ → Place → Place → Type 0
ReadsByte b before after = ReadsText (λ (u : Unit {0}) text. text ≡ b ∷ []) AnyText tt before after

abbrev pub ReadsGap : Place → Place → Type 0
ReadsGap before after = ReadsText (λ (u : Unit {0}) text. (0 < length text) × AreSpaces text) (Avoids IsSpace) tt before after

-- Digits are read, or there are none. `stated` is their value if it fits in 64 bits.
pub record ReadsDigits (stated : Option ℕ) (before after : Place) : Type 0 where
  pub value : ℕ
  pub is : IsSound after → MatchOption stated (2 ^ 64 ≤ value) (λ n. value ≡ n)
  pub reads : ReadsText SpellsNumber (Avoids IsFigure) value before after
