-- The bytes that a TI-TXT text gives to addresses, and the errors of a text.
use Rattle.std.specs.Prelude.{◌≡◌, ℕ, suc, ◌+◌, ◌^◌, ◌<◌, nat_lt, Bool, true, false, List, [], ◌∷◌, ◌++◌, length, map, replicate, Option, Some, None}
use Rattle.std.specs.Prelude.{option_map, if◌then◌else◌}
use Rattle.std.specs.List.{All}
use Rattle.mufom_place.specs.Facts.{◌or_else◌}
use Rattle.mufom_meaning.specs.declared.located.Run.{Run}
use Rattle.mufom_meaning.specs.AddressMap.{Cell, cells_from, AreRunsOf}
use Rattle.mufom_meaning.specs.Walk.{has_number, first_twice}
use Rattle.mufom_refusals.specs.declared.text.TxtReason.{TxtReason}
use Rattle.mufom_refusals.specs.declared.text.TxtReason.TheVariants.{BadLine, NoAddress, Beyond, Twice, AfterEnd, NoEnd}
use Rattle.mufom_refusals.specs.declared.text.TxtRefusal.{TxtRefusal}
use Rattle.mufom_titxt.specs.Lines.{Line, blank_line, address_line, byte_line, end_line, line_of, lines_of}

-- ---- lines in sequence

-- the address of the next byte once a line is read, if one is set
abbrev pub next_after : Option ℕ → Line → Option ℕ
next_after next blank_line = next
next_after next (address_line address) = Some address
next_after next (byte_line bytes) = option_map (λ at. at + length bytes) next
next_after next end_line = next

-- the bytes of a line with their addresses
abbrev pub cells_at : Option ℕ → List ℕ → List Cell
cells_at None bytes = []
cells_at (Some at) bytes = cells_from at bytes

-- the same of any line
abbrev pub line_cells : Option ℕ → Line → List Cell
line_cells next blank_line = []
line_cells next (address_line address) = []
line_cells next (byte_line bytes) = cells_at next bytes
line_cells next end_line = []

-- the bytes of lines with their addresses, in the order of the lines
abbrev pub cells_of_lines : Option ℕ → List Line → List Cell
cells_of_lines next [] = []
cells_of_lines next (line ∷ lines) = line_cells next line ++ cells_of_lines (next_after next line) lines

-- the line may come before the end of the text: it does not end the text, and an address is set if it has bytes
abbrev pub IsInside : Option ℕ → Line → Type 0
IsInside next blank_line = Unit {0}
IsInside next (address_line address) = Unit {0}
IsInside None (byte_line bytes) = ⊥
IsInside (Some at) (byte_line bytes) = Unit {0}
IsInside next end_line = ⊥

-- each of the lines may come before the end of the text
abbrev pub AreInside : Option ℕ → List Line → Type 0
AreInside next [] = Unit {0}
AreInside next (line ∷ lines) = IsInside next line × AreInside (next_after next line) lines

-- The text gives these bytes to these addresses, in this order: it has lines, then one line that ends it, and only blank lines after that. A line
-- with bytes follows one with an address, no address has two bytes, and all addresses are below 2^width.
pub record TxtMap (text : List ℕ) (width : ℕ) (cells : List Cell) : Type 0 where
  pub lines : List Line
  pub blanks : ℕ
  pub stated : map line_of (lines_of text) ≡ map (λ line. Some line) (lines ++ end_line ∷ replicate blanks blank_line)
  pub inside : AreInside None lines
  pub given : cells ≡ cells_of_lines None lines
  pub below : All (λ a. a < 2 ^ width) (map (λ (cell : Cell). cell.0) cells)
  pub once : first_twice [] (map (λ (cell : Cell). cell.0) cells) ≡ None

-- ---- the error of a text

-- what the lines have stated so far: whether the text has ended, and the address of the next byte, if one is set
pub record SoFar : Type 0 where
  pub ended : Bool
  pub next : Option ℕ

-- before the first line
abbrev pub nothing_stated : SoFar
nothing_stated = record { ended = false; next = None }

-- after a line
abbrev pub so_far_after : SoFar → Line → SoFar
so_far_after s blank_line = s
so_far_after s (address_line address) = record s { next = Some address }
so_far_after s (byte_line bytes) = record s { next = option_map (λ at. at + length bytes) s.next }
so_far_after s end_line = record s { ended = true }

-- after any line; a bad line changes nothing
abbrev pub so_far : SoFar → Option Line → SoFar
so_far s None = s
so_far s (Some line) = so_far_after s line

-- the error of the first bad byte of a line whose bytes begin at an address, if the addresses `taken` already have bytes
abbrev pub byte_fault : ℕ → List ℕ → ℕ → List ℕ → Option TxtReason
byte_fault modulus taken at [] = None
byte_fault modulus taken at (b ∷ bytes) =
    if nat_lt at modulus then (if has_number taken at then Some (Twice at) else byte_fault modulus (at ∷ taken) (suc at) bytes)
    else Some Beyond

-- the same, if an address is set
abbrev pub bytes_fault : ℕ → List ℕ → Option ℕ → List ℕ → Option TxtReason
bytes_fault modulus taken None bytes = Some NoAddress
bytes_fault modulus taken (Some at) bytes = byte_fault modulus taken at bytes

-- the error of a line before the one that ends the text
abbrev pub inner_fault : ℕ → List ℕ → Option ℕ → Option Line → Option TxtReason
inner_fault modulus taken next None = Some BadLine
inner_fault modulus taken next (Some blank_line) = None
inner_fault modulus taken next (Some (address_line address)) = None
inner_fault modulus taken next (Some (byte_line bytes)) = bytes_fault modulus taken next bytes
inner_fault modulus taken next (Some end_line) = None

-- the error of a line after it: only blank lines may follow
abbrev pub later_fault : Option Line → Option TxtReason
later_fault None = Some AfterEnd
later_fault (Some blank_line) = None
later_fault (Some (address_line address)) = Some AfterEnd
later_fault (Some (byte_line bytes)) = Some AfterEnd
later_fault (Some end_line) = Some AfterEnd

-- the error of a line, given what the lines before it have stated
abbrev pub line_fault : ℕ → List ℕ → SoFar → Option Line → Option TxtReason
line_fault modulus taken s line = if s.ended then later_fault line else inner_fault modulus taken s.next line

-- the bytes of any line with their addresses; none for a bad line and for a line after the end
abbrev pub cells_on : SoFar → Option Line → List Cell
cells_on s None = []
cells_on s (Some line) = if s.ended then [] else line_cells s.next line

-- the addresses that have bytes once the cells of a line are added
abbrev pub taken_after : List ℕ → List Cell → List ℕ
taken_after taken [] = taken
taken_after taken (cell ∷ cells) = taken_after (cell.0 ∷ taken) cells

-- an error at a line
abbrev pub refusal_at : ℕ → TxtReason → TxtRefusal
refusal_at line reason = record { line = line; reason = reason }

-- the error at the end of a text with this many lines
abbrev pub end_fault : ℕ → SoFar → Option TxtRefusal
end_fault count s = if s.ended then None else Some (refusal_at count NoEnd)

-- the first line with an error, after `count` other lines, and the error
abbrev pub refusal_after : ℕ → ℕ → SoFar → List ℕ → List (Option Line) → Option TxtRefusal
refusal_after modulus count s taken [] = end_fault count s
refusal_after modulus count s taken (line ∷ lines) =
    option_map (refusal_at (suc count)) (line_fault modulus taken s line)
    or_else refusal_after modulus (suc count) (so_far s line) (taken_after taken (cells_on s line)) lines

-- the error of a text
abbrev pub txt_refusal : List ℕ → ℕ → Option TxtRefusal
txt_refusal text width = refusal_after (2 ^ width) 0 nothing_stated [] (map line_of (lines_of text))

-- the bytes of lines with their addresses; some lines may be bad
abbrev pub cells_after : SoFar → List (Option Line) → List Cell
cells_after s [] = []
cells_after s (line ∷ lines) = cells_on s line ++ cells_after (so_far s line) lines

-- the bytes that a text gives, with their addresses, in the order of its lines
abbrev pub txt_cells : List ℕ → List Cell
txt_cells text = cells_after nothing_stated (map line_of (lines_of text))

-- the text has no error, and the runs are the maximal runs of its bytes, in increasing order
pub record IsTxtOf (text : List ℕ) (width : ℕ) (runs : List Run) : Type 0 where
  pub accepted : txt_refusal text width ≡ None
  pub rows : AreRunsOf (txt_cells text) runs
