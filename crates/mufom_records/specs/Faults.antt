-- The errors of fields and records: the bytes at an offset cannot be the field that the layout requires there. An error depends
-- only on the bytes that show it, not on the bytes after them.
use Rattle.std.specs.Prelude.{◌≡◌, ◌⊎◌, ℕ, ◌+◌, ◌-◌, ◌<◌, ◌≤◌, ◌==◌, ◌&&◌, Bool, true, false, List, [], ◌++◌, length, Some, None, is_some}
use Rattle.mufom_numbers.specs.declared.reason.Reason.{Reason}
use Rattle.mufom_numbers.specs.declared.reason.Reason.TheVariants.{BadNumber, BadId, UnsupportedFunction, UnsupportedVariable, Underflow}
use Rattle.mufom_numbers.specs.declared.reason.Reason.TheVariants.{SurplusTerms, Empty, TooLong}
use Rattle.mufom_numbers.specs.Spelling.{SpellsNumber, SpellsString, IsCutOff, BeginsIn}
use Rattle.mufom_expr.specs.declared.token.Token.{Token}
use Rattle.mufom_expr.specs.Codes.{operands_of}
use Rattle.mufom_expr.specs.Terms.{leaves}
use Rattle.mufom_expr.specs.Spelled.{SpellsToken, SpellsTokens, BeginsWith, IsLeftOutFunction, IsLeftOutLetter, HasBadIndex, IsCutOffToken}
use Rattle.mufom_expr.specs.TokenAt.{begins_token}
use Rattle.mufom_records.specs.declared.record.Mode.{Mode}
use Rattle.mufom_records.specs.Fields.{Field, ValueOf, byte, number, string, run, letter, optional_number, numbers, expression, optional_expression}
use Rattle.mufom_records.specs.Fields.{sized_expression, SpellsField, SpellsNumbers, first_of, last_size, closes, is_surplus}
use Rattle.mufom_records.specs.Layouts.{Layout, whole, refused, field, layout_of}

-- ---- expressions

-- the first byte cannot begin a token
abbrev pub EndsTokens : List ℕ → Type 0
EndsTokens bytes = BeginsWith (λ b. begins_token b ≡ false) bytes

-- the bytes begin with a token that satisfies Is
abbrev pub BeginsWithToken : (Token → Type 0) → List ℕ → Type 0
BeginsWithToken Is bytes = (token : Token) × (text : List ℕ) × (rest : List ℕ) × SpellsToken token text × Is token × (bytes ≡ text ++ rest)

-- The error at the start of these bytes, after `tokens` tokens that leave `terms` terms, and its offset from there.
abbrev pub TokenFault : ℕ → ℕ → List ℕ → ℕ → Reason → Type 0
TokenFault tokens terms bytes offset UnsupportedFunction = (offset ≡ 0) × BeginsWith IsLeftOutFunction bytes
TokenFault tokens terms bytes offset UnsupportedVariable = (offset ≡ 0) × BeginsWith (λ b. (begins_token b ≡ true) × IsLeftOutLetter b) bytes
TokenFault tokens terms bytes offset BadNumber = (offset ≡ 1) × (tokens < 255) × HasBadIndex bytes
TokenFault tokens terms bytes offset Underflow = (offset ≡ 0) × BeginsWithToken (λ token. terms < operands_of token) bytes
TokenFault tokens terms bytes offset TooLong = (offset ≡ 0) × (tokens ≡ 255) × (BeginsWithToken (λ token. operands_of token ≤ terms) bytes ⊎ HasBadIndex bytes)
TokenFault tokens terms bytes offset Empty = (offset ≡ 0) × (tokens ≡ 0) × EndsTokens bytes
TokenFault tokens terms bytes offset SurplusTerms = (offset ≡ 0) × (1 < terms) × EndsTokens bytes
TokenFault tokens terms bytes offset _ = ⊥

-- the bytes begin with at most 255 tokens, each of which finds its operands; Is holds of their number, the number of terms, their bytes and the rest
abbrev pub AfterTokens : List ℕ → (ℕ → ℕ → List ℕ → List ℕ → Type 0) → Type 0
AfterTokens bytes Is = (tokens : List Token) × (terms : ℕ) × (prefix : List ℕ) × (rest : List ℕ) × SpellsTokens tokens prefix
    × (leaves tokens ≡ Some terms) × (length tokens ≤ 255) × Is (length tokens) terms prefix rest × (bytes ≡ prefix ++ rest)

-- the bytes begin with tokens, and then the next token or the end of the expression has this error
abbrev pub ExpressionFault : ℕ → List ℕ → ℕ → Reason → Type 0
ExpressionFault at bytes fault_offset reason = (offset : ℕ) × AfterTokens bytes
    (λ tokens terms prefix rest. TokenFault tokens terms rest offset reason × (fault_offset ≡ at + length prefix + offset))

-- the bytes begin with tokens, and then end before another token or within it
abbrev pub IsCutOffExpression : List ℕ → Type 0
IsCutOffExpression bytes = AfterTokens bytes (λ tokens terms prefix rest. IsCutOffToken rest)

-- two terms are left, the last token is a number from 1 to 8, and a closing bracket follows
abbrev pub ends_in_size : List Token → ℕ → List ℕ → Bool
ends_in_size tokens terms rest = terms == 2 && (closes rest && is_some (last_size tokens))

-- The same as ExpressionFault, but a surplus of terms is no error if the tokens end in a size.
abbrev pub SizedFault : ℕ → List ℕ → ℕ → Reason → Type 0
SizedFault at bytes fault_offset reason = (offset : ℕ) × (tokens : List Token) × (terms : ℕ) × (prefix : List ℕ) × (rest : List ℕ)
    × SpellsTokens tokens prefix × (leaves tokens ≡ Some terms) × (length tokens ≤ 255) × TokenFault (length tokens) terms rest offset reason
    × (fault_offset ≡ at + length prefix + offset) × ((is_surplus reason && ends_in_size tokens terms rest) ≡ false) × (bytes ≡ prefix ++ rest)

-- ---- fields

-- the bytes are a proper prefix of a number's spelling
abbrev pub IsCutOffNumber : List ℕ → Type 0
IsCutOffNumber bytes = (n : ℕ) × IsCutOff (SpellsNumber n) bytes

-- the bytes begin with a number that satisfies Is
abbrev pub BeginsWithNumber : (ℕ → Type 0) → List ℕ → Type 0
BeginsWithNumber Is bytes = (n : ℕ) × (text : List ℕ) × (rest : List ℕ) × SpellsNumber n text × Is n × (bytes ≡ text ++ rest)

-- The bytes, which are at offset `at`, cannot be the field: they have this error, reported at this offset.
abbrev pub FieldFault : Field → ℕ → List ℕ → ℕ → Reason → Type 0
FieldFault byte at bytes fault_offset reason = ⊥
FieldFault (number fits where_ fault) at bytes fault_offset reason = ((reason ≡ BadNumber) × (fault_offset ≡ at) × BeginsIn 0x89 0xFF bytes)
    ⊎ ((reason ≡ fault) × (fault_offset ≡ where_ at) × BeginsWithNumber (λ n. fits n ≡ false) bytes)
FieldFault string at bytes fault_offset reason = (reason ≡ BadId) × (fault_offset ≡ at) × (BeginsIn 0x80 0xDD bytes ⊎ BeginsIn 0xE0 0xFF bytes)
FieldFault (run n) at bytes fault_offset reason = ⊥
FieldFault (letter known) at bytes fault_offset reason = ⊥
FieldFault optional_number at bytes fault_offset reason = ⊥
FieldFault (numbers most) at bytes fault_offset reason = ⊥
FieldFault expression at bytes fault_offset reason = ExpressionFault at bytes fault_offset reason
FieldFault optional_expression at bytes fault_offset reason = BeginsWith (λ b. begins_token b ≡ true) bytes × ExpressionFault at bytes fault_offset reason
FieldFault sized_expression at bytes fault_offset reason = SizedFault at bytes fault_offset reason

-- The bytes contain no error, and end before the field, within it, or at a point at which it could still begin or continue.
abbrev pub IsCutOffField : Field → List ℕ → Type 0
IsCutOffField byte bytes = bytes ≡ []
IsCutOffField (number fits fault_offset fault) bytes = IsCutOffNumber bytes
IsCutOffField string bytes = (text : List ℕ) × IsCutOff (SpellsString text) bytes
IsCutOffField (run n) bytes = length bytes < n
IsCutOffField (letter known) bytes = bytes ≡ []
IsCutOffField optional_number bytes = IsCutOffNumber bytes
IsCutOffField (numbers most) bytes = (ns : List ℕ) × (prefix : List ℕ) × (rest : List ℕ) × SpellsNumbers ns prefix × (length ns < most)
    × IsCutOffNumber rest × (bytes ≡ prefix ++ rest)
IsCutOffField expression bytes = IsCutOffExpression bytes
IsCutOffField optional_expression bytes = IsCutOffExpression bytes
IsCutOffField sized_expression bytes = IsCutOffExpression bytes

-- ---- records

-- The bytes begin with fields of the layout, and then there is this error.
abbrev pub HasFault : Layout → ℕ → List ℕ → ℕ → Reason → Type 0
HasFault (whole row) at bytes fault_offset reason = ⊥
HasFault (refused back why) at bytes fault_offset reason = (fault_offset ≡ at - back) × (reason ≡ why)
HasFault (field f rest) at bytes fault_offset reason = FieldFault f at bytes fault_offset reason
    ⊎ ((x : ValueOf f) × (prefix : List ℕ) × (back : List ℕ) × SpellsField f x at prefix (first_of back None)
    × HasFault (rest x) (at + length prefix) back fault_offset reason × (bytes ≡ prefix ++ back))

-- The bytes begin with fields of the layout, and then end too early.
abbrev pub IsCutOffLayout : Layout → ℕ → List ℕ → Type 0
IsCutOffLayout (whole row) at bytes = ⊥
IsCutOffLayout (refused back why) at bytes = ⊥
IsCutOffLayout (field f rest) at bytes = IsCutOffField f bytes
    ⊎ ((x : ValueOf f) × (prefix : List ℕ) × (back : List ℕ) × SpellsField f x at prefix (first_of back None)
    × IsCutOffLayout (rest x) (at + length prefix) back × (bytes ≡ prefix ++ back))

-- The record at the start of the input has this error, reported at this offset.
abbrev pub IsFaulty : Mode → List ℕ → ℕ → Reason → Type 0
IsFaulty mode input fault_offset reason = HasFault (layout_of mode) 0 input fault_offset reason

-- The input is the start of a record without an error, and ends within a field, before a required one, or where an optional
-- one could begin.
abbrev pub IsCutOffRecord : Mode → List ℕ → Type 0
IsCutOffRecord mode input = IsCutOffLayout (layout_of mode) 0 input
