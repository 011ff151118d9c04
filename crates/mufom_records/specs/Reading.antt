-- Reading one record at the start of an input, field by field from left to right. The result is the record with the offset
-- after it, More if the input ends too early, or the first error with its offset.
use Rattle.std.specs.Prelude.{ℕ, zero, suc, ◌+◌, ◌-◌, Bool, ◌==◌, nat_lt, List, [], ◌∷◌, length, drop, Option, Some, None, Result, Ok, Err, if◌then◌else◌}
use Rattle.std.specs.Prelude.{false, ◌&&◌, ◌||◌, ◌++◌, take, nat_le}
use Rattle.mufom_numbers.specs.declared.codes.TheConstants.{MODULE_END}
use Rattle.mufom_numbers.specs.declared.reason.Reason.{Reason}
use Rattle.mufom_numbers.specs.declared.reason.Reason.TheVariants.{Underflow, SurplusTerms, Empty, TooLong}
use Rattle.mufom_numbers.specs.declared.taken.Span.{Span}
use Rattle.mufom_numbers.specs.declared.taken.Taken.{Taken}
use Rattle.mufom_numbers.specs.declared.taken.Taken.TheVariants as taken
use Rattle.mufom_numbers.specs.Spelling.{number_at, string_at}
use Rattle.mufom_expr.specs.declared.token.Token.{Token}
use Rattle.mufom_expr.specs.Codes.{operands_of}
use Rattle.mufom_expr.specs.TokenAt.{begins_number, begins_token, token_at}
use Rattle.mufom_records.specs.declared.size.PlainSize.{PlainSize}
use Rattle.mufom_records.specs.declared.size.SizeSoFar.{SizeSoFar}
use Rattle.mufom_records.specs.declared.record.Mode.{Mode}
use Rattle.mufom_records.specs.declared.record.Record.{Record}
use Rattle.mufom_records.specs.declared.stop.Stop.{Stop}
use Rattle.mufom_records.specs.declared.stop.Stop.TheVariants.{More, Bad}
use Rattle.mufom_records.specs.Fields.{Field, ValueOf, byte, number, string, run, letter, optional_number, numbers, expression, optional_expression}
use Rattle.mufom_records.specs.Fields.{sized_expression, span_at, is_one_of, items_of, is_counter, size_of_token, closes, is_surplus, first_of}
use Rattle.mufom_records.specs.Layouts.{Layout, whole, refused, field, layout_of}

-- a value and the offset after it, or why there is none
abbrev pub Reading : Type 0 → Type 0
Reading X = Result (X × ℕ) Stop

-- passes the value and the offset after it to the next reading; an error ends the reading
infixl 10 ◌>>=◌
abbrev pub ◌>>=◌ : {X Y : Type 0} → Reading X → (X × ℕ → Reading Y) → Reading Y
(Ok x) >>= next = next x
(Err stop) >>= next = Err stop

-- the same result, `at` bytes further into the input
abbrev pub moved : {X : Type 0} → ℕ → Taken X → Reading X
moved at (taken.Got x used) = Ok (x, at + used)
moved at taken.More = Err More
moved at (taken.Bad offset reason) = Err (Bad (at + offset) reason)

-- the first of these bytes, which must be there
abbrev pub first_byte : List ℕ → ℕ → Reading ℕ
first_byte [] at = Err More
first_byte (b ∷ _) at = Ok (b, at + 1)

-- the byte at an offset
abbrev pub byte_at : List ℕ → ℕ → Reading ℕ
byte_at input at = first_byte (drop at input) at

-- any number at an offset
abbrev pub plain_number_at : List ℕ → ℕ → Reading ℕ
plain_number_at input at = moved at (number_at (drop at input))

-- the number at an offset, which must pass a test
abbrev pub tested_number_at : (ℕ → Bool) → (ℕ → ℕ) → Reason → List ℕ → ℕ → Reading ℕ
tested_number_at fits fault_offset fault input at = do
  n ← plain_number_at input at
  if fits n.0 then Ok (n.0, n.1) else Err (Bad (fault_offset at) fault)

-- the position of the bytes of the string at an offset
abbrev pub text_at : List ℕ → ℕ → Reading Span
text_at input at = do
  span ← moved at (string_at (drop at input))
  Ok (span_at (at + span.0.start) span.0.len, span.1)

-- the position of the next `n` bytes, or More if the input has fewer
abbrev pub run_at : ℕ → List ℕ → ℕ → Reading Span
run_at n input at = if nat_lt (length (drop at input)) n then Err More else Ok (span_at at n, at + n)

-- one of these bytes at an offset, or none if the next byte is another one
abbrev pub letter_at : List ℕ → List ℕ → ℕ → Reading (Option ℕ)
letter_at known input at = do
  b ← byte_at input at
  if is_one_of known b.0 then Ok (Some b.0, b.1) else Ok (None, at)

-- the number at an offset, or none if the next byte cannot begin one
abbrev pub optional_number_at : List ℕ → ℕ → Reading (Option ℕ)
optional_number_at input at = do
  b ← byte_at input at
  if begins_number b.0 then (plain_number_at input at >>= λ n. Ok (Some n.0, n.1)) else Ok (None, at)

-- the first number, if there is one, followed by the later ones
abbrev pub with_first : Option ℕ → ℕ → Reading (List ℕ) → Reading (List ℕ)
with_first None at later = Ok ([], at)
with_first (Some n) at later = later >>= λ ns. Ok (n ∷ ns.0, ns.1)

-- all numbers at an offset, but at most as many as the first argument
abbrev pub numbers_at : ℕ → List ℕ → ℕ → Reading (List ℕ)
numbers_at zero input at = Ok ([], at)
numbers_at (suc k) input at = do
  n ← optional_number_at input at
  with_first n.0 n.1 (numbers_at k input n.1)

-- ---- expressions

-- The number of terms after a token, if `room` more tokens are allowed. The error at the earlier byte is reported, and of two
-- errors at the same byte the one that `Reason` lists first. So Underflow takes precedence over TooLong, and TooLong over an
-- error of a variable's index, which is a byte later.
abbrev pub terms_with : ℕ → ℕ → ℕ → Taken Token → Reading ℕ
terms_with room terms at taken.More = Err More
terms_with zero terms at (taken.Bad (suc offset) reason) = Err (Bad at TooLong)
terms_with room terms at (taken.Bad offset reason) = Err (Bad (at + offset) reason)
terms_with room terms at (taken.Got token used) = if nat_lt terms (operands_of token) then Err (Bad at Underflow)
    else (if room == 0 then Err (Bad at TooLong) else Ok (terms - operands_of token + 1, at + used))

-- the number of terms and the offset after a token, without the token
abbrev pub without_token : Result (ℕ × ℕ × Token) Stop → Reading ℕ
without_token (Ok r) = Ok (r.0, r.1)
without_token (Err stop) = Err stop

-- the end of an expression, before the first byte that cannot begin a token: there must be tokens, and exactly one term must be left
abbrev pub expression_end : Bool → ℕ → ℕ → Reading (Unit {0})
expression_end is_empty terms at = if is_empty then Err (Bad at Empty) else (if terms == 1 then Ok (tt, at) else Err (Bad at SurplusTerms))

-- reads a token and continues after it, or ends the expression if the next byte cannot begin a token
abbrev pub token_or_end : ℕ → ℕ → List ℕ → ℕ → (ℕ × ℕ → Reading (Unit {0})) → Reading (Unit {0})
token_or_end room terms input at next = do
  b ← byte_at input at
  if begins_token b.0 then (terms_with room terms at (token_at (drop at input)) >>= next) else expression_end (room == 255) terms at

-- the offset after all tokens from an offset on; the first argument is the number of tokens that are still allowed
abbrev pub tokens_from : ℕ → ℕ → List ℕ → ℕ → Reading (Unit {0})
tokens_from zero terms input at = token_or_end 0 terms input at (λ after. Err More)
tokens_from (suc room) terms input at = token_or_end (suc room) terms input at (λ after. tokens_from room after.0 input after.1)

-- the position of all bytes of the expression at an offset
abbrev pub expression_at : List ℕ → ℕ → Reading Span
expression_at input at = do
  end ← tokens_from 255 0 input at
  Ok (span_at at (end.1 - at), end.1)

-- the position of the bytes of the expression at an offset, or none if the next byte cannot begin one
abbrev pub optional_expression_at : List ℕ → ℕ → Reading (Option Span)
optional_expression_at input at = do
  b ← byte_at input at
  if begins_token b.0 then (expression_at input at >>= λ e. Ok (Some e.0, e.1)) else Ok (None, at)

-- ---- expressions that may end in a size

-- nothing was read yet
abbrev pub no_tokens : ℕ → SizeSoFar
no_tokens at = record { terms = 0; last = at; size = None; uses_pc = false }

-- the same after one more token, which is at this offset
abbrev pub with_token : SizeSoFar → Token → ℕ → SizeSoFar
with_token s token at = record {
  terms = s.terms - operands_of token + 1;
  last = at;
  size = size_of_token (Some token);
  uses_pc = s.uses_pc || is_counter token;
}

-- goes on after the token that was read at an offset; without one, nothing changes
abbrev pub after_token : SizeSoFar → ℕ → Taken Token → (SizeSoFar → ℕ → SizeSoFar) → SizeSoFar
after_token s at (taken.Got token used) next = next (with_token s token at) (at + used)
after_token s at _ next = s

-- the first of these bytes can begin a token
abbrev pub begins_first : List ℕ → Bool
begins_first [] = false
begins_first (b ∷ _) = begins_token b

-- what all tokens from an offset on say of a size, up to the first byte that cannot begin one; the first argument is the number
-- of tokens that are still allowed
abbrev pub sizes_from : ℕ → SizeSoFar → List ℕ → ℕ → SizeSoFar
sizes_from zero s input at = s
sizes_from (suc room) s input at = if begins_first (drop at input)
    then after_token s at (token_at (drop at input)) (λ t after. sizes_from room t input after) else s

-- the expression before the size, if the tokens end in one
abbrev pub sized_or : Option ℕ → ℕ → ℕ → SizeSoFar → Reading (Span × Option PlainSize) → Reading (Span × Option PlainSize)
sized_or None at end s other = other
sized_or (Some n) at end s other = Ok ((span_at at (s.last - at), Some (record { size = n; uses_pc = s.uses_pc })), end)

-- The result for tokens that may end in a size. Two terms are no error if the last one is a size and a closing bracket follows.
abbrev pub sized_by : List ℕ → ℕ → SizeSoFar → Reading (Unit {0}) → Reading (Span × Option PlainSize)
sized_by input at s (Ok end) = Ok ((span_at at (end.1 - at), None), end.1)
sized_by input at s (Err More) = Err More
sized_by input at s (Err (Bad end reason)) = if is_surplus reason && (s.terms == 2 && closes (drop end input))
    then sized_or s.size at end s (Err (Bad end reason)) else Err (Bad end reason)

-- the position of the bytes of the expression at an offset, and the size after it, if there is one without a comma
abbrev pub sized_expression_at : List ℕ → ℕ → Reading (Span × Option PlainSize)
sized_expression_at input at = sized_by input at (sizes_from 255 (no_tokens at) input at) (tokens_from 255 0 input at)

-- ---- fields and records

-- the field at an offset
abbrev pub field_at : (f : Field) → List ℕ → ℕ → Reading (ValueOf f)
field_at byte input at = byte_at input at
field_at (number fits fault_offset fault) input at = tested_number_at fits fault_offset fault input at
field_at string input at = text_at input at
field_at (run n) input at = run_at n input at
field_at (letter known) input at = letter_at known input at
field_at optional_number input at = optional_number_at input at
field_at (numbers most) input at = numbers_at most input at >>= λ ns. Ok (items_of ns.0, ns.1)
field_at expression input at = expression_at input at
field_at optional_expression input at = optional_expression_at input at
field_at sized_expression input at = sized_expression_at input at

-- the record with this layout at an offset
abbrev pub read : Layout → List ℕ → ℕ → Reading Record
read (whole row) input at = Ok (row, at)
read (refused back reason) input at = Err (Bad (at - back) reason)
read (field f rest) input at = field_at f input at >>= λ x. read (rest x.0) input x.1

-- a record that is stored in place, with the offset after it, or why there is none
abbrev pub in_place : Record → Result ℕ Stop → Reading Record
in_place row (Ok at) = Ok (row, at)
in_place row (Err stop) = Err stop

-- the result of reading at the start of the input
abbrev pub as_taken : {X : Type 0} → Reading X → Taken X
as_taken (Ok x) = taken.Got x.0 x.1
as_taken (Err More) = taken.More
as_taken (Err (Bad fault_offset reason)) = taken.Bad fault_offset reason

-- The result of reading, at the start of the input, the record that is expected in a mode.
abbrev pub record_at : Mode → List ℕ → Taken Record
record_at mode input = as_taken (read (layout_of mode) input 0)

-- ---- records before bytes that are not records

-- the first bytes of an input, up to an offset, and then the code of the module's end, at which every record ends
abbrev pub closed_at : ℕ → List ℕ → List ℕ
closed_at end input = take end input ++ MODULE_END ∷ []

-- the first result, unless its record takes in the byte at this offset or needs bytes after it
abbrev pub unless_past : ℕ → Taken Record → Taken Record → Taken Record
unless_past end (taken.Got row used) other = if nat_le used end then taken.Got row used else other
unless_past end taken.More other = other
unless_past end (taken.Bad fault_offset reason) other = taken.Bad fault_offset reason

-- The result of reading a record at the start of the input, if the byte at the offset `end` belongs to no record. The record is
-- read as if that byte were the code of the module's end. One that takes the byte in as its own is read as it is.
abbrev pub record_before : ℕ → Mode → List ℕ → Taken Record
record_before end mode input = if nat_lt end (length input) then unless_past end (record_at mode (closed_at end input)) (record_at mode input)
    else record_at mode input

-- the same if such a byte is known
abbrev pub record_within : Option ℕ → Mode → List ℕ → Taken Record
record_within None mode input = record_at mode input
record_within (Some end) mode input = record_before end mode input

-- the byte that a record of this length sees after it
abbrev pub next_seen : Option ℕ → ℕ → List ℕ → Option ℕ
next_seen None used input = first_of (drop used input) None
next_seen (Some end) used input = if used == end then Some MODULE_END else first_of (drop used input) None
