-- The text of runs by its lines, and what these state.
use Rattle.std.proofs.Common.{◌≡◌, ℕ, ◌+◌, ◌/◌, ◌%◌, ◌<◌, ◌≤◌, List, [], ◌∷◌, ◌++◌, length, map, flat_map, filter, Some, option_map, Bool, true}
use Rattle.std.proofs.Common.{false, refl, sym, ◌∙◌, ap, arith, append_assoc}
use Rattle.std.specs.Prelude.{◌==◌, ◌&&◌, ◌||◌, if◌then◌else◌}
use Rattle.std.specs.List.{AllByRecursion, slice_split, onto_first}
use Rattle.std.specs.Option.{option_and_then}
use Rattle.std.proofs.lemmas.List.Elements.{All-from_recursion}
use Rattle.std.proofs.lemmas.List.Splits.{slice_split_at, slice_split_none}
use Rattle.mufom_numbers.specs.Spelling.{AreBytes}
use Rattle.mufom_titxt.specs.Lines.{address_line, byte_line, end_line, without_return, ended_lines, lines_of, has_bytes, words_of, bytes_of}
use Rattle.mufom_titxt.specs.Lines.{address_of, alone, line_of_words, line_of}
use Rattle.mufom_titxt.specs.Written.{upper_digit, byte_digits, byte_lines}
use Rattle.mufom_titxt.proofs.DigitLaws.{digit_high, digit_unmarked, byte_back}
use Rattle.mufom_titxt.proofs.LineLaws.{ended_more}

-- ---- lines without the ends of lines

-- no byte ends a line, or belongs to its end
abbrev pub IsLineText : List ℕ → Type 0
IsLineText line = AllByRecursion (λ c. 32 ≤ c) line

-- a line with its end
abbrev pub ended : List ℕ → List ℕ
ended line = line ++ 10 ∷ []

no_feed : (line : List ℕ) → IsLineText line → AllByRecursion (λ c. (c == 10) ≡ false) line
no_feed [] h = tt
no_feed (c ∷ line) h = (grind (arith, h.0), no_feed line h.1)

no_return : (line : List ℕ) → IsLineText line → without_return line ≡ line
no_return [] h = refl
no_return (b ∷ []) h = let other : (b == 13) ≡ false = grind (arith, h.0) in rw other refl
no_return (b ∷ c ∷ line) h = ap (λ (l : List ℕ). b ∷ l) (no_return (c ∷ line) h.1)

-- pieces that are not empty are not none
pieces_some : (lines : List (List ℕ)) (last : List ℕ) → 0 < length (lines ++ last ∷ [])
pieces_some [] last = omega arith
pieces_some (line ∷ lines) last = omega arith

-- the pieces of lines with their ends
split_lines : (lines : List (List ℕ)) → AllByRecursion IsLineText lines → slice_split (λ b. b == 10) (flat_map ended lines) ≡ lines ++ [] ∷ []
split_lines [] h = refl
split_lines (line ∷ lines) h =
    let feeds = All-from_recursion (λ (c : ℕ). (c == 10) ≡ false) line (no_feed line h.0) in
    ap (slice_split (λ b. b == 10)) (append_assoc line (10 ∷ []) (flat_map ended lines))
    ∙ (slice_split_at (λ b. b == 10) line 10 (flat_map ended lines) feeds refl
    ∙ ap (λ (l : List (List ℕ)). line ∷ l) (split_lines lines h.1))

ended_whole : (lines : List (List ℕ)) → AllByRecursion IsLineText lines → ended_lines (lines ++ [] ∷ []) ≡ lines ++ [] ∷ []
ended_whole [] h = refl
ended_whole (line ∷ lines) h =
    ended_more line (lines ++ [] ∷ []) (pieces_some lines [])
    ∙ (λ i. no_return line h.0 i ∷ ended_whole lines h.1 i)

-- the lines of lines with their ends; the last one is empty
pub lines_back : (lines : List (List ℕ)) → AllByRecursion IsLineText lines → lines_of (flat_map ended lines) ≡ lines ++ [] ∷ []
lines_back lines h = ap ended_lines (split_lines lines h) ∙ ended_whole lines h

-- ---- a line of bytes

-- the text of a row of bytes
abbrev pub row_text : List ℕ → List ℕ
row_text [] = []
row_text (b ∷ []) = byte_digits b
row_text (b ∷ c ∷ row) = byte_digits b ++ 32 ∷ row_text (c ∷ row)

digits_line : (b : ℕ) (more : List ℕ) → b < 256 → IsLineText more → IsLineText (byte_digits b ++ more)
digits_line b more h rest =
    let high = digit_high (b / 16) (omega (arith, h)) in
    let low = digit_high (b % 16) (omega arith) in
    let first : 32 ≤ upper_digit (b / 16) = omega (arith, high) in
    let second : 32 ≤ upper_digit (b % 16) = omega (arith, low) in (first, (second, rest))

pub row_line : (row : List ℕ) → AreBytes row → IsLineText (row_text row)
row_line [] h = tt
row_line (b ∷ []) h = digits_line b [] h.0 tt
row_line (b ∷ c ∷ row) h = digits_line b (32 ∷ row_text (c ∷ row)) h.0 (omega arith, row_line (c ∷ row) h.1)

digits_unspaced : (b : ℕ) → b < 256 → AllByRecursion (λ c. (c == 32) ≡ false) (byte_digits b)
digits_unspaced b h =
    let high = digit_high (b / 16) (omega (arith, h)) in
    let low = digit_high (b % 16) (omega arith) in
    let first : (upper_digit (b / 16) == 32) ≡ false = grind (arith, high) in
    let second : (upper_digit (b % 16) == 32) ≡ false = grind (arith, low) in (first, (second, tt))

-- its words are the digits of its bytes
row_words : (row : List ℕ) → 0 < length row → AreBytes row → words_of (row_text row) ≡ map byte_digits row
row_words [] some h = absurd (omega (arith, some))
row_words (b ∷ []) some h =
    ap (filter has_bytes) (slice_split_none (λ c. c == 32) (byte_digits b)
    (All-from_recursion (λ (c : ℕ). (c == 32) ≡ false) (byte_digits b) (digits_unspaced b h.0)))
row_words (b ∷ c ∷ row) some h =
    let unspaced = All-from_recursion (λ (c : ℕ). (c == 32) ≡ false) (byte_digits b) (digits_unspaced b h.0) in
    ap (filter has_bytes) (slice_split_at (λ c. c == 32) (byte_digits b) 32 (row_text (c ∷ row)) unspaced refl)
    ∙ ap (λ (words : List (List ℕ)). byte_digits b ∷ words) (row_words (c ∷ row) (omega arith) h.1)

-- these spell the bytes
row_bytes : (row : List ℕ) → AreBytes row → bytes_of (map byte_digits row) ≡ Some row
row_bytes [] h = refl
row_bytes (b ∷ row) h =
    ap (option_and_then (λ n. option_map (λ bytes. n ∷ bytes) (bytes_of (map byte_digits row)))) (byte_back b h.0)
    ∙ ap (option_map (λ bytes. b ∷ bytes)) (row_bytes row h.1)

-- such a line states its bytes
pub row_states : (row : List ℕ) → 0 < length row → AreBytes row → line_of (row_text row) ≡ Some (byte_line row)
row_states [] some h = absurd (omega (arith, some))
row_states (b ∷ row) some h =
    let d : ℕ = upper_digit (b / 16) in
    let plain : (d == 64) ≡ false = digit_unmarked (b / 16) (omega (arith, h.0)) in
    ap line_of_words (row_words (b ∷ row) some h)
    ∙ (by_tests (d == 64) (d == 113 || d == 81) plain ∙ ap (option_map byte_line) (row_bytes (b ∷ row) h)) where
      by_tests : (s t : Bool) → s ≡ false
          → (if s then alone (map byte_digits row) (option_map address_line (address_of (upper_digit (b % 16) ∷ [])))
          else if t && false then alone (map byte_digits row) (Some end_line) else option_map byte_line (bytes_of (map byte_digits (b ∷ row))))
          ≡ option_map byte_line (bytes_of (map byte_digits (b ∷ row)))
      by_tests true t e = absurd (cc e)
      by_tests false true e = refl
      by_tests false false e = refl

-- ---- the rows of a run

-- bytes in rows, of which `count` were before them: a row has 16, the last one fewer if needed
abbrev pub rows_at : ℕ → List ℕ → List (List ℕ)
rows_at count [] = []
rows_at count (b ∷ []) = (b ∷ []) ∷ []
rows_at count (b ∷ c ∷ bytes) = if count % 16 == 15 then (b ∷ []) ∷ rows_at (count + 1) (c ∷ bytes) else onto_first b (rows_at (count + 1) (c ∷ bytes))

-- the first row begins with the first byte
record BeginsWith (b : ℕ) (rows : List (List ℕ)) : Type 0 where
  row : List ℕ
  more : List (List ℕ)
  same : rows ≡ (b ∷ row) ∷ more

rows_begin : (bytes : List ℕ) (count b : ℕ) → BeginsWith b (rows_at count (b ∷ bytes))
rows_begin [] count b = record { row = []; more = []; same = refl }
rows_begin (c ∷ bytes) count b = by_end (rows_begin bytes (count + 1) c) (count % 16 == 15) where
  by_end : BeginsWith c (rows_at (count + 1) (c ∷ bytes)) → (t : Bool)
      → BeginsWith b (if t then (b ∷ []) ∷ rows_at (count + 1) (c ∷ bytes) else onto_first b (rows_at (count + 1) (c ∷ bytes)))
  by_end r true = record { row = []; more = rows_at (count + 1) (c ∷ bytes); same = refl }
  by_end r false = record { row = c ∷ r.row; more = r.more; same = ap (onto_first b) r.same }

-- the lines of bytes are the texts of the rows
pub rows_text : (bytes : List ℕ) (count : ℕ) → byte_lines count bytes ≡ flat_map ended (map row_text (rows_at count bytes))
rows_text [] count = refl
rows_text (b ∷ []) count = refl
rows_text (b ∷ c ∷ bytes) count = by_end (rows_text (c ∷ bytes) (count + 1)) (rows_begin bytes (count + 1) c) (count % 16 == 15) where
  by_end : byte_lines (count + 1) (c ∷ bytes) ≡ flat_map ended (map row_text (rows_at (count + 1) (c ∷ bytes)))
      → BeginsWith c (rows_at (count + 1) (c ∷ bytes)) → (t : Bool)
      → byte_digits b ++ ((if t then 10 else 32) ∷ byte_lines (count + 1) (c ∷ bytes))
      ≡ flat_map ended (map row_text (if t then (b ∷ []) ∷ rows_at (count + 1) (c ∷ bytes) else onto_first b (rows_at (count + 1) (c ∷ bytes))))
  by_end later r true = ap (λ (text : List ℕ). byte_digits b ++ (10 ∷ text)) later
  by_end later r false =
      ap (λ (text : List ℕ). byte_digits b ++ (32 ∷ text)) (later ∙ ap (λ rows. flat_map ended (map row_text rows)) r.same)
      ∙ sym (ap (λ rows. flat_map ended (map row_text (onto_first b rows))) r.same)

-- a row is not empty, and its bytes are bytes
abbrev pub IsRow : List ℕ → Type 0
IsRow row = (0 < length row) × AreBytes row

pub rows_good : (bytes : List ℕ) (count : ℕ) → AreBytes bytes → AllByRecursion IsRow (rows_at count bytes)
rows_good [] count h = tt
rows_good (b ∷ []) count h = ((omega arith, h), tt)
rows_good (b ∷ c ∷ bytes) count h = by_end (rows_at (count + 1) (c ∷ bytes)) (rows_good (c ∷ bytes) (count + 1) h.1) (count % 16 == 15) where
  one : IsRow (b ∷ [])
  one = (omega arith, (h.0, tt))

  onto : (rows : List (List ℕ)) → AllByRecursion IsRow rows → AllByRecursion IsRow (onto_first b rows)
  onto [] later = (one, tt)
  onto (row ∷ rows) later = ((omega arith, (h.0, later.0.1)), later.1)

  by_end : (rows : List (List ℕ)) → AllByRecursion IsRow rows → (t : Bool) → AllByRecursion IsRow (if t then (b ∷ []) ∷ rows else onto_first b rows)
  by_end rows later true = (one, later)
  by_end rows later false = onto rows later

-- the rows together are the bytes
pub rows_whole : (bytes : List ℕ) (count : ℕ) → flat_map (λ row. row) (rows_at count bytes) ≡ bytes
rows_whole [] count = refl
rows_whole (b ∷ []) count = refl
rows_whole (b ∷ c ∷ bytes) count = by_end (rows_at (count + 1) (c ∷ bytes)) (rows_whole (c ∷ bytes) (count + 1)) (count % 16 == 15) where
  onto : (rows : List (List ℕ)) → flat_map (λ row. row) (onto_first b rows) ≡ b ∷ flat_map (λ row. row) rows
  onto [] = refl
  onto (row ∷ rows) = refl

  by_end : (rows : List (List ℕ)) → flat_map (λ row. row) rows ≡ c ∷ bytes → (t : Bool)
      → flat_map (λ row. row) (if t then (b ∷ []) ∷ rows else onto_first b rows) ≡ b ∷ c ∷ bytes
  by_end rows later true = ap (λ (l : List ℕ). b ∷ l) later
  by_end rows later false = onto rows ∙ ap (λ (l : List ℕ). b ∷ l) later
