-- The lines of a TI-TXT text, and what each line states.
use Rattle.std.specs.Prelude.{ℕ, ◌+◌, ◌*◌, ◌==◌, ◌&&◌, ◌||◌, nat_le, Bool, true, false, not, List, [], ◌∷◌, length, filter, Option, Some, None}
use Rattle.std.specs.Prelude.{option_map, if◌then◌else◌}
use Rattle.std.specs.List.{slice_split}
use Rattle.std.specs.Option.{option_and_then}
use Rattle.mufom_numbers.specs.Digits.{hex_digit}

-- ---- lines and words

-- a line without the carriage return before its line feed, if it has one
abbrev pub without_return : List ℕ → List ℕ
without_return [] = []
without_return (b ∷ []) = if b == 13 then [] else b ∷ []
without_return (b ∷ c ∷ bytes) = b ∷ without_return (c ∷ bytes)

-- the lines of a text that was cut at its line feeds; each except the last ended at one
abbrev pub ended_lines : List (List ℕ) → List (List ℕ)
ended_lines [] = []
ended_lines (piece ∷ []) = piece ∷ []
ended_lines (piece ∷ next ∷ pieces) = without_return piece ∷ ended_lines (next ∷ pieces)

-- the lines of a text: it is cut at each line feed, and what follows the last one is a line too
abbrev pub lines_of : List ℕ → List (List ℕ)
lines_of text = ended_lines (slice_split (λ b. b == 10) text)

-- there is at least one byte
abbrev pub has_bytes : List ℕ → Bool
has_bytes [] = false
has_bytes (b ∷ bytes) = true

-- the words of a line, which are separated by spaces
abbrev pub words_of : List ℕ → List (List ℕ)
words_of line = filter has_bytes (slice_split (λ b. b == 32) line)

-- ---- hexadecimal digits

-- the number that the digits spell, after other digits that spell `high`
abbrev pub hex_after : ℕ → List ℕ → Option ℕ
hex_after high [] = Some high
hex_after high (b ∷ digits) = option_and_then (λ d. hex_after (high * 16 + d) digits) (hex_digit b)

-- the address that 1 to 16 digits spell
abbrev pub address_of : List ℕ → Option ℕ
address_of digits = if nat_le 1 (length digits) && nat_le (length digits) 16 then hex_after 0 digits else None

-- the byte that two digits spell
abbrev pub byte_of : List ℕ → Option ℕ
byte_of word = if length word == 2 then hex_after 0 word else None

-- the bytes that words spell, if each of them spells one
abbrev pub bytes_of : List (List ℕ) → Option (List ℕ)
bytes_of [] = Some []
bytes_of (word ∷ words) = option_and_then (λ b. option_map (λ bytes. b ∷ bytes) (bytes_of words)) (byte_of word)

-- ---- what a line states

pub data Line : Type 0 where
  -- nothing
  blank_line : Line
  -- the address of the bytes that follow
  address_line : ℕ → Line
  -- bytes at consecutive addresses
  byte_line : List ℕ → Line
  -- the end of the text
  end_line : Line

-- what a line states if it has no further words
abbrev pub alone : List (List ℕ) → Option Line → Option Line
alone [] line = line
alone (word ∷ words) line = None

-- what a line states, given the first byte of its first word: `@` comes before an address, and q ends the text
abbrev pub line_from : ℕ → List ℕ → List (List ℕ) → Option Line
line_from b more words =
    if b == 64 then alone words (option_map address_line (address_of more))
    else if (b == 113 || b == 81) && not (has_bytes more) then alone words (Some end_line)
    else option_map byte_line (bytes_of ((b ∷ more) ∷ words))

-- what a line with these words states; none if a text cannot have such a line
abbrev pub line_of_words : List (List ℕ) → Option Line
line_of_words [] = Some blank_line
line_of_words ([] ∷ words) = None
line_of_words ((b ∷ more) ∷ words) = line_from b more words

-- what a line states
abbrev pub line_of : List ℕ → Option Line
line_of line = line_of_words (words_of line)
