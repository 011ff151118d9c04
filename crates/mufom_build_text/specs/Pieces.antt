-- The pieces of which a line of a listing consists, and the bytes that spell them. A line may be written with more spaces where there is one, digits
-- of either case, leading zeros, and any byte of a name as its two digits.
use Rattle.std.specs.Prelude.{◌≡◌, ℕ, ◌<◌, ◌-◌, ◌^◌, ◌/◌, ◌%◌, ◌==◌, List, [], ◌∷◌, ◌++◌, length, map, Some, codes, IsTrue, if◌then◌else◌, ◌⊎◌}
use Rattle.std.specs.List.{AllByRecursion}
use Rattle.std.specs.Str.Parse.{IsNumeral, digits_value}
use Rattle.hex.specs.Hex.{hex_digit_value}
use Rattle.mufom_expr.specs.Tree.{Tree, number, variable, one, two, function_of_one, function_of_two, tokens_of}
use Rattle.mufom_expr.specs.InfixText.{letter_text, opening_text, middle_text}
use Rattle.mufom_text.specs.Words.{Text, stands_for_itself}

-- A part of a line.
pub data Piece : Type 0 where
  -- this byte
  byte : (value : ℕ) → Piece
  -- one or more spaces
  gap : Piece
  -- a number, with the greatest number that its field holds
  figure : (most value : ℕ) → Piece
  -- the number of lines of this kind before the line
  position : (value : ℕ) → Piece
  -- the number of bytes that follow on the line
  count : (value : ℕ) → Piece
  -- a name in double quotes
  name : (bytes : List ℕ) → Piece
  -- bytes by their hexadecimal digits, two for each
  digits : (bytes : List ℕ) → Piece
  -- the beginning of an expression, with its number of tokens; no bytes
  expression : (tokens : ℕ) → Piece
  -- the beginning of a block, with the number of blocks that are then open; no bytes
  block : (opened : ℕ) → Piece

-- how positions and counts are read: each must be right (`exact`), or may be any number (`loose`)
pub data Reading : Type 0 where
  exact : Reading
  loose : Reading

-- ---- the bytes that spell a piece

-- one or more decimal digits, of this value
abbrev pub SpellsNumber : ℕ → Text → Type 0
SpellsNumber n text = IsNumeral 10 text × (digits_value 10 text ≡ n)

-- a number that must be this one if the reading is exact
abbrev pub SpellsStated : Reading → ℕ → Text → Type 0
SpellsStated exact n text = SpellsNumber n text
SpellsStated loose n text = IsNumeral 10 text

-- two hexadecimal digits of a byte, each of either case
abbrev pub AreDigitsOf : ℕ → ℕ → ℕ → Type 0
AreDigitsOf b high low = (hex_digit_value high ≡ Some (b / 16)) × (hex_digit_value low ≡ Some (b % 16))

abbrev pub SpellsDigits : List ℕ → Text → Type 0
SpellsDigits [] text = text ≡ []
SpellsDigits (b ∷ bytes) text = (high : ℕ) × (low : ℕ) × (rest : Text) × (text ≡ high ∷ low ∷ rest) × AreDigitsOf b high low × SpellsDigits bytes rest

-- a byte of a name: itself, if it can be printed as itself, or a backslash, `x` and its two digits
abbrev pub SpellsNameByte : ℕ → Text → Type 0
SpellsNameByte b text = (IsTrue (stands_for_itself b) × (text ≡ b ∷ []))
    ⊎ ((high : ℕ) × (low : ℕ) × (text ≡ 0x5C ∷ 0x78 ∷ high ∷ low ∷ []) × AreDigitsOf b high low)

-- the bytes of a name, between its quotes
abbrev pub SpellsNameBytes : List ℕ → Text → Type 0
SpellsNameBytes [] text = text ≡ []
SpellsNameBytes (b ∷ bytes) text = (first : Text) × (rest : Text) × (text ≡ first ++ rest) × SpellsNameByte b first × SpellsNameBytes bytes rest

abbrev pub SpellsName : List ℕ → Text → Type 0
SpellsName bytes text = (inside : Text) × (text ≡ 0x22 ∷ (inside ++ 0x22 ∷ [])) × SpellsNameBytes bytes inside

abbrev pub AreSpaces : Text → Type 0
AreSpaces text = AllByRecursion (λ b. b ≡ 32) text

abbrev pub SpellsPiece : Reading → Piece → Text → Type 0
SpellsPiece reading (byte value) text = text ≡ value ∷ []
SpellsPiece reading gap text = (0 < length text) × AreSpaces text
SpellsPiece reading (figure most value) text = SpellsNumber value text
SpellsPiece reading (position value) text = SpellsStated reading value text
SpellsPiece reading (count value) text = SpellsStated reading value text
SpellsPiece reading (name bytes) text = SpellsName bytes text
SpellsPiece reading (digits bytes) text = SpellsDigits bytes text
SpellsPiece reading (expression tokens) text = text ≡ []
SpellsPiece reading (block opened) text = text ≡ []

-- the text spells the pieces, one after another
abbrev pub Spells : Reading → List Piece → Text → Type 0
Spells reading [] text = text ≡ []
Spells reading (piece ∷ pieces) text = (first : Text) × (rest : Text) × (text ≡ first ++ rest)
    × SpellsPiece reading piece first × Spells reading pieces rest

-- ---- pieces of words and of expressions

-- the piece for a byte of a word: for a space, one or more spaces
abbrev pub word_piece : ℕ → Piece
word_piece b = if b == 32 then gap else byte b

-- the pieces for words and for the spaces before, between and after them
abbrev pub words : Text → List Piece
words text = map word_piece text

-- the greatest number of 8, 32 and 64 bits
abbrev pub MOST_BYTE : ℕ
MOST_BYTE = 2 ^ 8 - 1

abbrev pub MOST_POSITION : ℕ
MOST_POSITION = 2 ^ 32 - 1

abbrev pub MOST_NUMBER : ℕ
MOST_NUMBER = 2 ^ 64 - 1

-- a number of 64 bits, a position that another line has, and a number of 8 bits
abbrev pub number_piece : ℕ → List Piece
number_piece n = figure MOST_NUMBER n ∷ []

abbrev pub place_piece : ℕ → List Piece
place_piece n = figure MOST_POSITION n ∷ []

abbrev pub small_piece : ℕ → List Piece
small_piece n = figure MOST_BYTE n ∷ []

abbrev pub name_piece : List ℕ → List Piece
name_piece bytes = name bytes ∷ []

-- an expression in infix form, without the piece that marks its beginning
abbrev pub infix_pieces : Tree → List Piece
infix_pieces (number n) = number_piece n
infix_pieces (variable letter place) = words (letter_text letter) ++ place_piece place
infix_pieces (one f a) = words (opening_text (function_of_one f)) ++ infix_pieces a ++ words (codes ")")
infix_pieces (two f a b) = words (opening_text (function_of_two f)) ++ infix_pieces a ++ words (middle_text (function_of_two f))
    ++ infix_pieces b ++ words (codes ")")

abbrev pub value_pieces : Tree → List Piece
value_pieces t = expression (length (tokens_of t)) ∷ infix_pieces t
