-- The rows of a text have a module and a text: they end within the address space, there are at most half as many bytes as the text
-- has, and each is a byte.
use Rattle.std.proofs.Common.{◌≡◌, ℕ, suc, ◌+◌, ◌-◌, ◌*◌, ◌^◌, ◌<◌, ◌≤◌, inl, inr, ◌⊎◌, List, [], ◌∷◌, length, map, cond, Bool, true, false, not}
use Rattle.std.proofs.Common.{Option, Some, None, refl, ap, subst, arith}
use Rattle.std.proofs.lemmas.List.{length-append, length-map}
use Rattle.std.proofs.lemmas.List.Sums.{sum_by-append}
use Rattle.std.specs.Prelude.{◌==◌, ◌&&◌, ◌||◌, nat_le, filter, sum_by, option_map, if◌then◌else◌}
use Rattle.std.specs.List.{AllByRecursion, onto_first, slice_split}
use Rattle.std.specs.Option.{option_and_then}
use Rattle.mufom_numbers.specs.Spelling.{AreBytes}
use Rattle.mufom_numbers.specs.declared.limits.TheConstants.{MOST_FILE_BYTES}
use Rattle.mufom_meaning.specs.declared.located.Run.{Run}
use Rattle.mufom_meaning.specs.AddressMap.{Cell, cells_from, run_cells, AreApart}
use Rattle.mufom_numbers.proofs.Choices.{equal_numbers, some_same}
use Rattle.std.proofs.lemmas.List.Elements.{All-contains}
use Rattle.mufom_meaning.proofs.Members.{Contains-In, In, In-Contains, In-append, In-left, In-map, In-right}
use Rattle.mufom_meaning.proofs.locations.CellRuns.{AreRising, rising-In, run_cells-rise}
use Rattle.mufom_numbers.specs.Digits.{hex_digit}
use Rattle.mufom_titxt.specs.Lines.{Line, blank_line, address_line, byte_line, end_line, address_of, alone, byte_of, bytes_of, ended_lines, has_bytes}
use Rattle.mufom_titxt.specs.Lines.{line_of, line_of_words, lines_of, without_return, words_of}
use Rattle.mufom_titxt.specs.Lines.{hex_after}
use Rattle.mufom_titxt.specs.TextModules.{EndBelow, HaveModule, HaveText}
use Rattle.mufom_titxt.specs.Texts.{IsTxtOf, SoFar, cells_after, cells_at, cells_on, line_cells, nothing_stated, so_far, txt_cells}
use Rattle.mufom_titxt.proofs.AcceptLaws.{accepted_is_map}

-- ---- distinct addresses are at most as many as the addresses among which they are

-- the numbers except one of them
abbrev removed : (n : ℕ) (ns : List ℕ) → In n ns → List ℕ
removed n [] there = absurd there
removed n (m ∷ ns) (inl is) = ns
removed n (m ∷ ns) (inr later) = m ∷ removed n ns later

removed-length : (n : ℕ) (ns : List ℕ) (there : In n ns) → suc (length (removed n ns there)) ≡ length ns
removed-length n [] there = absurd there
removed-length n (m ∷ ns) (inl is) = refl
removed-length n (m ∷ ns) (inr later) = ap suc (removed-length n ns later)

removed-In : (n other : ℕ) (ns : List ℕ) (there : In n ns) → n < other → In other ns → In other (removed n ns there)
removed-In n other [] there less among = absurd there
removed-In n other (m ∷ ns) (inl is) less (inl same) = absurd (omega (arith, is, same, less))
removed-In n other (m ∷ ns) (inl is) less (inr among) = among
removed-In n other (m ∷ ns) (inr later) less (inl same) = inl same
removed-In n other (m ∷ ns) (inr later) less (inr among) = inr (removed-In n other ns later less among)

rising-count : (from : ℕ) (cells : List Cell) → AreRising from cells → (addresses : List ℕ) → ((cell : Cell) → In cell cells → In cell.0 addresses)
    → length cells ≤ length addresses
rising-count from [] rising addresses there = omega arith
rising-count from (c ∷ cells) rising addresses there =
    let first : In c.0 addresses = there c (inl refl) in
    let rest = rising-count (suc c.0) cells rising.1 (removed c.0 addresses first) (λ cell later.
    let above = rising-In (suc c.0) cells rising.1 cell later in
    removed-In c.0 cell.0 addresses first (omega (arith, above)) (there cell (inr later))) in
    let count = removed-length c.0 addresses first in
    omega (arith, rest, count)

-- ---- the bytes of rows

length-cells_from : (address : ℕ) (bytes : List ℕ) → length (cells_from address bytes) ≡ length bytes
length-cells_from address [] = refl
length-cells_from address (b ∷ bytes) = ap suc (length-cells_from (suc address) bytes)

abbrev run_length : Run → ℕ
run_length run = length run.bytes

sum-first : (run : Run) (runs : List Run) → sum_by run_length (run ∷ runs) ≡ run_length run + sum_by run_length runs
sum-first run runs = let sum = sum_by-append run_length (run ∷ []) runs in omega (arith, sum)

row-bytes : (runs : List Run) → sum_by run_length runs ≡ length (run_cells runs)
row-bytes [] = refl
row-bytes (run ∷ runs) =
    let first = sum-first run runs in
    let own = length-cells_from run.address run.bytes in
    let rest = row-bytes runs in
    let all = length-append (cells_from run.address run.bytes) (run_cells runs) in
    omega (arith, first, own, rest, all)

-- each row has a byte
row-count : (from : ℕ) (runs : List Run) → AreApart from runs → length runs ≤ sum_by run_length runs
row-count from [] apart = omega arith
row-count from (run ∷ runs) apart =
    let first = sum-first run runs in
    let some = apart.1 in
    let rest = row-count (run.address + length run.bytes + 1) runs apart.2 in
    omega (arith, first, some, rest)

row-below : (end address : ℕ) (bytes : List ℕ) → 0 < length bytes → ((cell : Cell) → In cell (cells_from address bytes) → cell.0 < end)
    → address + length bytes ≤ end
row-below end address [] some below = absurd (omega (arith, some))
row-below end address (b ∷ []) some below = let first = below (address, b) (inl refl) in omega (arith, first)
row-below end address (b ∷ c ∷ bytes) some below =
    let rest = row-below end (suc address) (c ∷ bytes) (omega arith) (λ cell later. below cell (inr later)) in omega (arith, rest)

rows-below : (width from : ℕ) (runs : List Run) → AreApart from runs → ((cell : Cell) → In cell (run_cells runs) → cell.0 < 2 ^ width) → EndBelow width runs
rows-below width from [] apart below = tt
rows-below width from (run ∷ runs) apart below = (
  row-below (2 ^ width) run.address run.bytes apart.1 (λ cell there. below cell (In-left cell (cells_from run.address run.bytes) (run_cells runs) there)),
  rows-below width (run.address + length run.bytes + 1) runs apart.2
      (λ cell there. below cell (In-right cell (cells_from run.address run.bytes) (run_cells runs) there)),
)

-- ---- the bytes of a text

-- how many bytes lists have together
abbrev total : List (List ℕ) → ℕ
total [] = 0
total (list ∷ lists) = length list + total lists

total-onto_first : (b : ℕ) (parts : List (List ℕ)) → total (onto_first b parts) ≡ suc (total parts)
total-onto_first b [] = refl
total-onto_first b (part ∷ parts) = omega arith

total-slice_split : (p : ℕ → Bool) (bytes : List ℕ) → total (slice_split p bytes) ≤ length bytes
total-slice_split p [] = omega arith
total-slice_split p (b ∷ bytes) = by (p b) (total-slice_split p bytes) where
  by : (t : Bool) → total (slice_split p bytes) ≤ length bytes
      → total (cond t ([] ∷ slice_split p bytes) (onto_first b (slice_split p bytes))) ≤ suc (length bytes)
  by true rest = omega (arith, rest)
  by false rest = let more = total-onto_first b (slice_split p bytes) in omega (arith, rest, more)

total-filter : (p : List ℕ → Bool) (lists : List (List ℕ)) → total (filter p lists) ≤ total lists
total-filter p [] = omega arith
total-filter p (list ∷ lists) = by (p list) (total-filter p lists) where
  by : (t : Bool) → total (filter p lists) ≤ total lists → total (cond t (list ∷ filter p lists) (filter p lists)) ≤ length list + total lists
  by true rest = omega (arith, rest)
  by false rest = omega (arith, rest)

length-without_return : (line : List ℕ) → length (without_return line) ≤ length line
length-without_return [] = omega arith
length-without_return (b ∷ []) = by (b == 13) where
  by : (t : Bool) → length (cond t [] (b ∷ [])) ≤ 1
  by true = omega arith
  by false = omega arith
length-without_return (b ∷ c ∷ bytes) = let rest = length-without_return (c ∷ bytes) in omega (arith, rest)

total-ended_lines : (pieces : List (List ℕ)) → total (ended_lines pieces) ≤ total pieces
total-ended_lines [] = omega arith
total-ended_lines (piece ∷ []) = omega arith
total-ended_lines (piece ∷ next ∷ pieces) =
    let first = length-without_return piece in
    let rest = total-ended_lines (next ∷ pieces) in
    omega (arith, first, rest)

-- how many bytes a line gives
abbrev bytes_in : Option Line → ℕ
bytes_in None = 0
bytes_in (Some blank_line) = 0
bytes_in (Some (address_line address)) = 0
bytes_in (Some (byte_line bytes)) = length bytes
bytes_in (Some end_line) = 0

word-length : (word : List ℕ) (n : ℕ) → byte_of word ≡ Some n → length word ≡ 2
word-length word n is = by (length word == 2) refl is where
  by : (t : Bool) → (length word == 2) ≡ t → cond t (hex_after 0 word) None ≡ Some n → length word ≡ 2
  by true same is = equal_numbers (length word) 2 same
  by false same is = absurd cc

words-length : (words : List (List ℕ)) (bytes : List ℕ) → bytes_of words ≡ Some bytes → 2 * length bytes ≤ total words
words-length [] bytes is = let same : [] ≡ bytes = cc in let none = ap (λ (l : List ℕ). length l) same in omega (arith, none)
words-length (word ∷ words) bytes is = by_byte (words-length words) (byte_of word) refl is where
  by_rest : ((b : List ℕ) → bytes_of words ≡ Some b → 2 * length b ≤ total words) → (n : ℕ) → byte_of word ≡ Some n → (o : Option (List ℕ)) → bytes_of words ≡ o
      → option_map (λ more. n ∷ more) o ≡ Some bytes → 2 * length bytes ≤ length word + total words
  by_rest later n first None rest is = absurd cc
  by_rest later n first (Some more) rest is =
      let same : n ∷ more ≡ bytes = cc in
      let count = ap (λ (l : List ℕ). length l) same in
      let two = word-length word n first in
      let others = later more rest in
      omega (arith, count, two, others)

  by_byte : ((b : List ℕ) → bytes_of words ≡ Some b → 2 * length b ≤ total words) → (o : Option ℕ) → byte_of word ≡ o
      → option_and_then (λ n. option_map (λ more. n ∷ more) (bytes_of words)) o ≡ Some bytes → 2 * length bytes ≤ length word + total words
  by_byte later None first is = absurd cc
  by_byte later (Some n) first is = by_rest later n first (bytes_of words) refl is

none-in-address : (words : List (List ℕ)) (o : Option ℕ) → bytes_in (alone words (option_map address_line o)) ≡ 0
none-in-address [] None = refl
none-in-address [] (Some address) = refl
none-in-address (word ∷ words) o = refl

none-in-end : (words : List (List ℕ)) → bytes_in (alone words (Some end_line)) ≡ 0
none-in-end [] = refl
none-in-end (word ∷ words) = refl

half-of-words : (words : List (List ℕ)) → 2 * bytes_in (line_of_words words) ≤ total words
half-of-words [] = omega arith
half-of-words ([] ∷ words) = omega arith
half-of-words ((b ∷ more) ∷ words) = by (b == 64) ((b == 113 || b == 81) && not (has_bytes more)) where
  of_bytes : (o : Option (List ℕ)) → bytes_of ((b ∷ more) ∷ words) ≡ o → 2 * bytes_in (option_map byte_line o) ≤ total ((b ∷ more) ∷ words)
  of_bytes None is = omega arith
  of_bytes (Some bytes) is = words-length ((b ∷ more) ∷ words) bytes is

  by : (s t : Bool) → 2 * bytes_in (cond s (alone words (option_map address_line (address_of more)))
      (cond t (alone words (Some end_line)) (option_map byte_line (bytes_of ((b ∷ more) ∷ words))))) ≤ total ((b ∷ more) ∷ words)
  by true t = let none = none-in-address words (address_of more) in omega (arith, none)
  by false true = let none = none-in-end words in omega (arith, none)
  by false false = of_bytes (bytes_of ((b ∷ more) ∷ words)) refl

half-of-line : (line : List ℕ) → 2 * bytes_in (line_of line) ≤ length line
half-of-line line =
    let half = half-of-words (words_of line) in
    let kept = total-filter has_bytes (slice_split (λ b. b == 32) line) in
    let parts = total-slice_split (λ b. b == 32) line in
    omega (arith, half, kept, parts)

-- how many bytes lines give
abbrev bytes_among : List (Option Line) → ℕ
bytes_among [] = 0
bytes_among (line ∷ lines) = bytes_in line + bytes_among lines

half-of-lines : (lines : List (List ℕ)) → 2 * bytes_among (map line_of lines) ≤ total lines
half-of-lines [] = omega arith
half-of-lines (line ∷ lines) =
    let first = half-of-line line in
    let rest = half-of-lines lines in
    omega (arith, first, rest)

length-cells_at : (next : Option ℕ) (bytes : List ℕ) → length (cells_at next bytes) ≤ length bytes
length-cells_at None bytes = omega arith
length-cells_at (Some address) bytes = let same = length-cells_from address bytes in omega (arith, same)

length-cells_on : (s : SoFar) (line : Option Line) → length (cells_on s line) ≤ bytes_in line
length-cells_on s None = omega arith
length-cells_on s (Some line) = by s.ended where
  inner : (line : Line) → length (line_cells s.next line) ≤ bytes_in (Some line)
  inner blank_line = omega arith
  inner (address_line address) = omega arith
  inner (byte_line bytes) = length-cells_at s.next bytes
  inner end_line = omega arith

  by : (t : Bool) → length (cond t [] (line_cells s.next line)) ≤ bytes_in (Some line)
  by true = omega arith
  by false = inner line

length-cells_after : (s : SoFar) (lines : List (Option Line)) → length (cells_after s lines) ≤ bytes_among lines
length-cells_after s [] = omega arith
length-cells_after s (line ∷ lines) =
    let first = length-cells_on s line in
    let rest = length-cells_after (so_far s line) lines in
    let all = length-append (cells_on s line) (cells_after (so_far s line) lines) in
    omega (arith, first, rest, all)

-- a text gives at most half as many bytes as it has
half-of-text : (text : List ℕ) → 2 * length (txt_cells text) ≤ length text
half-of-text text =
    let cells = length-cells_after nothing_stated (map line_of (lines_of text)) in
    let lines = half-of-lines (lines_of text) in
    let ended = total-ended_lines (slice_split (λ b. b == 10) text) in
    let parts = total-slice_split (λ b. b == 10) text in
    omega (arith, cells, lines, ended, parts)

-- ---- the bytes of a text are bytes

digit-small : (b d : ℕ) → hex_digit b ≡ Some d → d < 16
digit-small b d e =
    let figures : Option ℕ = if nat_le 48 b && nat_le b 57 then Some (b - 48) else None in
    let lower : Option ℕ = if nat_le 97 b && nat_le b 102 then Some (b - 87) else figures in
    one (nat_le 65 b) (nat_le b 70) (b - 55) lower (λ t. below 70 55 t (omega arith))
    (one (nat_le 97 b) (nat_le b 102) (b - 87) figures (λ t. below 102 87 t (omega arith))
    (one (nat_le 48 b) (nat_le b 57) (b - 48) None (λ t. below 57 48 t (omega arith)) (λ f. absurd (cc f)))) e where
      below : (most from : ℕ) → nat_le b most ≡ true → most < from + 16 → b - from < 16
      below most from t near = let low : b ≤ most = grind (arith, t) in omega (arith, low, near)

      one : (p q : Bool) (x : ℕ) (rest : Option ℕ) → (q ≡ true → x < 16) → (rest ≡ Some d → d < 16) → (if p && q then Some x else rest) ≡ Some d → d < 16
      one true true x rest small later e = subst (λ n. n < 16) (some_same x d e) (small refl)
      one true false x rest small later e = later e
      one false q x rest small later e = later e

byte-small : (word : List ℕ) (n : ℕ) → byte_of word ≡ Some n → n < 256
byte-small [] n e = absurd (cc e)
byte-small (a ∷ []) n e = absurd (cc e)
byte-small (a ∷ b ∷ []) n e = by_first (hex_digit a) refl e where
  by_second : (d : ℕ) → d < 16 → (o : Option ℕ) → hex_digit b ≡ o → option_and_then (λ k. Some ((0 * 16 + d) * 16 + k)) o ≡ Some n → n < 256
  by_second d high None f e = absurd (cc e)
  by_second d high (Some k) f e =
      let low = digit-small b k f in
      let same : (0 * 16 + d) * 16 + k ≡ n = some_same ((0 * 16 + d) * 16 + k) n e in omega (arith, high, low, same)

  by_first : (o : Option ℕ) → hex_digit a ≡ o → option_and_then (λ d. hex_after (0 * 16 + d) (b ∷ [])) o ≡ Some n → n < 256
  by_first None f e = absurd (cc e)
  by_first (Some d) f e = by_second d (digit-small a d f) (hex_digit b) refl e
byte-small (a ∷ b ∷ c ∷ word) n e = let two = word-length (a ∷ b ∷ c ∷ word) n e in absurd (omega (arith, two))

words-small : (words : List (List ℕ)) (bytes : List ℕ) → bytes_of words ≡ Some bytes → AreBytes bytes
words-small [] [] e = tt
words-small [] (b ∷ bytes) e = absurd (cc e)
words-small (word ∷ words) bytes e = by_byte (words-small words) (byte_of word) refl e where
  by_rest : ((b : List ℕ) → bytes_of words ≡ Some b → AreBytes b) → (n : ℕ) → n < 256 → (o : Option (List ℕ)) → bytes_of words ≡ o
      → option_map (λ more. n ∷ more) o ≡ Some bytes → AreBytes bytes
  by_rest later n first None rest e = absurd (cc e)
  by_rest later n first (Some more) rest e = subst AreBytes (some_same (n ∷ more) bytes e) (first, later more rest)

  by_byte : ((b : List ℕ) → bytes_of words ≡ Some b → AreBytes b) → (o : Option ℕ) → byte_of word ≡ o
      → option_and_then (λ n. option_map (λ more. n ∷ more) (bytes_of words)) o ≡ Some bytes → AreBytes bytes
  by_byte later None first e = absurd (cc e)
  by_byte later (Some n) first e = by_rest later n (byte-small word n first) (bytes_of words) refl e

-- what a line states has bytes alone
abbrev IsSmall : Option Line → Type 0
IsSmall None = Unit {0}
IsSmall (Some blank_line) = Unit {0}
IsSmall (Some (address_line address)) = Unit {0}
IsSmall (Some (byte_line bytes)) = AreBytes bytes
IsSmall (Some end_line) = Unit {0}

address-is-small : (words : List (List ℕ)) (o : Option ℕ) → IsSmall (alone words (option_map address_line o))
address-is-small [] None = tt
address-is-small [] (Some address) = tt
address-is-small (word ∷ words) o = tt

end-is-small : (words : List (List ℕ)) → IsSmall (alone words (Some end_line))
end-is-small [] = tt
end-is-small (word ∷ words) = tt

line-small : (words : List (List ℕ)) → IsSmall (line_of_words words)
line-small [] = tt
line-small ([] ∷ words) = tt
line-small ((b ∷ more) ∷ words) = by (b == 64) ((b == 113 || b == 81) && not (has_bytes more)) where
  of_bytes : (o : Option (List ℕ)) → bytes_of ((b ∷ more) ∷ words) ≡ o → IsSmall (option_map byte_line o)
  of_bytes None e = tt
  of_bytes (Some bytes) e = words-small ((b ∷ more) ∷ words) bytes e

  by : (s t : Bool) → IsSmall (cond s (alone words (option_map address_line (address_of more)))
      (cond t (alone words (Some end_line)) (option_map byte_line (bytes_of ((b ∷ more) ∷ words)))))
  by true t = address-is-small words (address_of more)
  by false true = end-is-small words
  by false false = of_bytes (bytes_of ((b ∷ more) ∷ words)) refl

cells-small : (a : ℕ) (bytes : List ℕ) → AreBytes bytes → (cell : Cell) → In cell (cells_from a bytes) → cell.1 < 256
cells-small a [] h cell k = absurd k
cells-small a (b ∷ bytes) h cell (inl e) = let same : b ≡ cell.1 = ap (λ (x : Cell). x.1) e in omega (arith, same, h.0)
cells-small a (b ∷ bytes) h cell (inr k) = cells-small (suc a) bytes h.1 cell k

on-small : (s : SoFar) (line : Option Line) → IsSmall line → (cell : Cell) → In cell (cells_on s line) → cell.1 < 256
on-small s None h cell k = absurd k
on-small s (Some line) h cell k = by s.ended k where
  of_next : (next : Option ℕ) (bytes : List ℕ) → AreBytes bytes → In cell (cells_at next bytes) → cell.1 < 256
  of_next None bytes h k = absurd k
  of_next (Some at) bytes h k = cells-small at bytes h cell k

  inner : (line : Line) → IsSmall (Some line) → In cell (line_cells s.next line) → cell.1 < 256
  inner blank_line h k = absurd k
  inner (address_line address) h k = absurd k
  inner (byte_line bytes) h k = of_next s.next bytes h k
  inner end_line h k = absurd k

  by : (t : Bool) → In cell (cond t [] (line_cells s.next line)) → cell.1 < 256
  by true k = absurd k
  by false k = inner line h k

after-small : (s : SoFar) (lines : List (List ℕ)) (cell : Cell) → In cell (cells_after s (map line_of lines)) → cell.1 < 256
after-small s [] cell k = absurd k
after-small s (line ∷ lines) cell k =
    by (In-append cell (cells_on s (line_of line)) (cells_after (so_far s (line_of line)) (map line_of lines)) k)
    (after-small (so_far s (line_of line)) lines cell) where
      by : In cell (cells_on s (line_of line)) ⊎ In cell (cells_after (so_far s (line_of line)) (map line_of lines))
          → (In cell (cells_after (so_far s (line_of line)) (map line_of lines)) → cell.1 < 256) → cell.1 < 256
      by (inl first) small = on-small s (line_of line) (line-small (words_of line)) cell first
      by (inr later) small = small later

text-small : (text : List ℕ) (cell : Cell) → In cell (txt_cells text) → cell.1 < 256
text-small text cell k = after-small nothing_stated (lines_of text) cell k

row-small : (a : ℕ) (bytes : List ℕ) → ((cell : Cell) → In cell (cells_from a bytes) → cell.1 < 256) → AreBytes bytes
row-small a [] h = tt
row-small a (b ∷ bytes) h = (h (a, b) (inl refl), row-small (suc a) bytes (λ cell k. h cell (inr k)))

rows-small : (runs : List Run) → ((cell : Cell) → In cell (run_cells runs) → cell.1 < 256) → AllByRecursion (λ run. AreBytes run.bytes) runs
rows-small [] h = tt
rows-small (run ∷ runs) h = (
  row-small run.address run.bytes (λ cell k. h cell (In-left cell (cells_from run.address run.bytes) (run_cells runs) k)),
  rows-small runs (λ cell k. h cell (In-right cell (cells_from run.address run.bytes) (run_cells runs) k)),
)

-- ---- the rows of a text

module _ (text : List ℕ) (width : ℕ) (runs : List Run) (is : IsTxtOf text width runs) where
  among_cells : (cell : Cell) → In cell (run_cells runs) → In cell (txt_cells text)
  among_cells cell there = Contains-In cell (txt_cells text) ((is.rows.same cell).1 (In-Contains cell (run_cells runs) there))

  abbrev addresses : List ℕ
  addresses = map (λ (cell : Cell). cell.0) (txt_cells text)

  among : (cell : Cell) → In cell (run_cells runs) → In cell.0 addresses
  among cell there = In-map (λ (cell : Cell). cell.0) cell (txt_cells text) (among_cells cell there)

  end_below : EndBelow width runs
  end_below =
      let below = (accepted_is_map text width is.accepted).below in
      rows-below width 0 runs is.rows.apart
      (λ cell there. All-contains (λ a. a < 2 ^ width) addresses cell.0 below (In-Contains cell.0 addresses (among cell there)))

  -- the rows of a text have a module
  pub have-module : length text ≤ MOST_FILE_BYTES → HaveModule width runs
  have-module short =
      let apart = is.rows.apart in
      let fewer = rising-count 0 (run_cells runs) (run_cells-rise 0 runs apart) addresses among in
      let as_many = length-map (txt_cells text) (λ (cell : Cell). cell.0) in
      let half = half-of-text text in
      let bytes = row-bytes runs in
      let rows = row-count 0 runs apart in
      record {
        apart = apart;
        below = end_below;
        few = omega (arith, rows, bytes, fewer, as_many, half, short);
        short = omega (arith, bytes, fewer, as_many, half, short);
      }

  -- and a text
  pub have-text : width ≤ 64 → HaveText width runs
  have-text narrow = record {
    apart = is.rows.apart;
    below = end_below;
    narrow = narrow;
    bytes = rows-small runs (λ cell there. text-small text cell (among_cells cell there));
  }
