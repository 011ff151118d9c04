-- The fields of records and their spellings (IEEE Std 695, MUFOM commands). The spelling of a field depends on its offset,
-- since the values of strings, literal bytes and expressions are positions in the input. It also depends on the byte that
-- follows the field, since an optional field is absent only if that byte could not begin it.
use Rattle.std.specs.Prelude.{◌≡◌, ℕ, ◌+◌, ◌<◌, ◌≤◌, ◌==◌, nat_le, ◌&&◌, Bool, true, false, List, [], ◌∷◌, ◌++◌, length, Option, Some, None, if◌then◌else◌}
use Rattle.std.specs.List.{list_any, last_or}
use Rattle.arrayvec.specs.ArrayVec.{ArrayVec}
use Rattle.mufom_numbers.specs.declared.reason.Reason.{Reason}
use Rattle.mufom_numbers.specs.declared.reason.Reason.TheVariants.{SurplusTerms}
use Rattle.mufom_numbers.specs.declared.codes.TheConstants.{CLOSE_EITHER, CLOSE_SIGNED, CLOSE_UNSIGNED}
use Rattle.mufom_numbers.specs.declared.taken.Span.{Span}
use Rattle.mufom_numbers.specs.Spelling.{AreBytes, SpellsNumber, IsStringLead}
use Rattle.mufom_expr.specs.declared.token.Letter.TheVariants.{P}
use Rattle.mufom_expr.specs.declared.token.Token.{Token}
use Rattle.mufom_expr.specs.declared.token.Token.TheVariants.{Number, Var}
use Rattle.mufom_expr.specs.Tree.{Tree, tokens_of}
use Rattle.mufom_expr.specs.Spelled.{SpellsTree}
use Rattle.mufom_expr.specs.TokenAt.{begins_number, begins_token}
use Rattle.mufom_records.specs.declared.size.PlainSize.{PlainSize}

-- a kind of field
pub data Field : Type 0 where
  -- any byte
  byte : Field
  -- a number that passes the test; any other number is an error with this reason, reported at an offset computed from that
  -- of the field
  number : (fits : ℕ → Bool) → (offset : ℕ → ℕ) → (fault : Reason) → Field
  -- a string; its value is the position of its bytes without the length before them
  string : Field
  -- this number of bytes; their value is their position
  run : ℕ → Field
  -- one of these bytes, or none
  letter : List ℕ → Field
  -- a number, or none
  optional_number : Field
  -- as many numbers as follow, up to this limit
  numbers : ℕ → Field
  -- an expression; its value is the position of its bytes
  expression : Field
  -- an expression, or none
  optional_expression : Field
  -- an expression, maybe followed by the size of a field without a comma; its value is the position of the expression, and the
  -- size if it is there
  sized_expression : Field

-- the type of a field's value
abbrev pub ValueOf : Field → Type 0
ValueOf byte = ℕ
ValueOf (number fits offset fault) = ℕ
ValueOf string = Span
ValueOf (run n) = Span
ValueOf (letter known) = Option ℕ
ValueOf optional_number = Option ℕ
ValueOf (numbers most) = ArrayVec ℕ
ValueOf expression = Span
ValueOf optional_expression = Option Span
ValueOf sized_expression = Span × Option PlainSize

-- a byte follows, and it does not pass the test
abbrev pub Stops : (ℕ → Bool) → Option ℕ → Type 0
Stops begins None = ⊥
Stops begins (Some b) = begins b ≡ false

-- the span of `len` bytes from an offset on
abbrev pub span_at : ℕ → ℕ → Span
span_at start len = record { start = start; len = len }

-- the byte, or the number, is one of these
abbrev pub is_one_of : List ℕ → ℕ → Bool
is_one_of known b = list_any (λ k. k == b) known

-- numbers in the form in which a record stores them
abbrev pub items_of : List ℕ → ArrayVec ℕ
items_of ns = record { items = ns }

-- spellings of the numbers, one after the other
abbrev pub SpellsNumbers : List ℕ → List ℕ → Type 0
SpellsNumbers [] bytes = bytes ≡ []
SpellsNumbers (n ∷ ns) bytes = (prefix : List ℕ) × (back : List ℕ) × SpellsNumber n prefix × SpellsNumbers ns back × (bytes ≡ prefix ++ back)

-- the bytes are a whole expression, and the next byte cannot begin a token; the span is their position
abbrev pub SpellsExpression : Span → ℕ → List ℕ → Option ℕ → Type 0
SpellsExpression span at bytes next = ((tree : Tree) × SpellsTree tree bytes) × (span ≡ span_at at (length bytes)) × Stops begins_token next

-- ---- sizes without a comma

-- a size in MAUs: 1 to 8
abbrev pub is_size : ℕ → Bool
is_size n = nat_le 1 n && nat_le n 8

-- the closing brackets of the three kinds of fields
abbrev pub closing_brackets : List ℕ
closing_brackets = CLOSE_SIGNED ∷ CLOSE_UNSIGNED ∷ CLOSE_EITHER ∷ []

-- a closing bracket follows
abbrev pub Closes : Option ℕ → Type 0
Closes None = ⊥
Closes (Some b) = is_one_of closing_brackets b ≡ true

-- the first of these bytes is a closing bracket
abbrev pub closes : List ℕ → Bool
closes [] = false
closes (b ∷ _) = is_one_of closing_brackets b

-- the error is a surplus of terms
abbrev pub is_surplus : Reason → Bool
is_surplus SurplusTerms = true
is_surplus _ = false

-- the token is the variable P: the program counter of a section
abbrev pub is_counter : Token → Bool
is_counter (Var P place) = true
is_counter _ = false

-- The bytes are an expression and a size, and a closing bracket follows: two terms, the last of which is a number from 1 to 8.
-- The expression and the size have at most 255 tokens. The span is the position of the expression.
abbrev pub SpellsSized : Span → PlainSize → ℕ → List ℕ → Option ℕ → Type 0
SpellsSized span last at bytes next = (tree : Tree) × (text : List ℕ) × (number_bytes : List ℕ) × SpellsTree tree text × (length (tokens_of tree) < 255)
    × SpellsNumber last.size number_bytes × (is_size last.size ≡ true) × (last.uses_pc ≡ list_any is_counter (tokens_of tree))
    × (span ≡ span_at at (length text)) × Closes next × (bytes ≡ text ++ number_bytes)

-- the size that this last token is, if it is a number from 1 to 8
abbrev pub size_of_token : Option Token → Option ℕ
size_of_token (Some (Number n)) = if is_size n then Some n else None
size_of_token _ = None

-- the size with which the tokens end, if the last one is a number from 1 to 8
abbrev pub last_size : List Token → Option ℕ
last_size tokens = size_of_token (last_or None tokens)

-- ---- the spelling of a field

-- The bytes, which are at offset `at` and are followed by the byte `next` (or end the input), are the field with this value.
abbrev pub SpellsField : (f : Field) → ValueOf f → ℕ → List ℕ → Option ℕ → Type 0
SpellsField byte b at bytes next = bytes ≡ b ∷ []
SpellsField (number fits offset fault) n at bytes next = SpellsNumber n bytes × (fits n ≡ true)
SpellsField string span at bytes next = (lead : List ℕ) × (text : List ℕ) × IsStringLead (length text) lead × AreBytes text
    × (span ≡ span_at (at + length lead) (length text)) × (bytes ≡ lead ++ text)
SpellsField (run n) span at bytes next = (length bytes ≡ n) × AreBytes bytes × (span ≡ span_at at n)
SpellsField (letter known) None at bytes next = (bytes ≡ []) × Stops (is_one_of known) next
SpellsField (letter known) (Some b) at bytes next = (bytes ≡ b ∷ []) × (is_one_of known b ≡ true)
SpellsField optional_number None at bytes next = (bytes ≡ []) × Stops begins_number next
SpellsField optional_number (Some n) at bytes next = SpellsNumber n bytes
SpellsField (numbers most) ns at bytes next = SpellsNumbers ns.items bytes × (length ns.items ≤ most) × (length ns.items < most → Stops begins_number next)
SpellsField expression span at bytes next = SpellsExpression span at bytes next
SpellsField optional_expression None at bytes next = (bytes ≡ []) × Stops begins_token next
SpellsField optional_expression (Some span) at bytes next = SpellsExpression span at bytes next
SpellsField sized_expression (span, None) at bytes next = SpellsExpression span at bytes next
SpellsField sized_expression (span, Some last) at bytes next = SpellsSized span last at bytes next

-- the first of these bytes, or if there are none, the one that follows them
abbrev pub first_of : List ℕ → Option ℕ → Option ℕ
first_of [] next = next
first_of (b ∷ _) next = Some b
