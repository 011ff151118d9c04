-- Reading a text: its bytes up to the first line with an error, when second bytes at an address do not count as errors.
use Rattle.std.specs.Prelude.{ℕ, suc, ◌+◌, ◌-◌, ◌^◌, ◌==◌, min, nat_lt, Bool, false, List, [], ◌∷◌, ◌++◌, map, Option, Some, None, option_map}
use Rattle.std.specs.Prelude.{unwrap_or, if◌then◌else◌}
use Rattle.mufom_place.specs.Facts.{◌or_else◌}
use Rattle.mufom_meaning.specs.AddressMap.{Cell}
use Rattle.mufom_refusals.specs.declared.text.TxtReason.{TxtReason}
use Rattle.mufom_refusals.specs.declared.text.TxtReason.TheVariants.{BadLine, NoAddress, Beyond}
use Rattle.mufom_refusals.specs.declared.text.TxtRefusal.{TxtRefusal}
use Rattle.mufom_titxt.specs.declared.reading.Reading.{Reading}
use Rattle.mufom_titxt.specs.Lines.{Line, blank_line, address_line, byte_line, end_line, byte_of}
use Rattle.mufom_titxt.specs.Texts.{SoFar, later_fault, so_far, refusal_at, end_fault}

-- what the lines have stated so far
abbrev pub stated : Reading → SoFar
stated r = record { ended = r.ended; next = r.next }

-- the bytes of words that spell bytes
abbrev pub word_bytes : List (List ℕ) → List ℕ
word_bytes [] = []
word_bytes (word ∷ words) = unwrap_or (byte_of word) 0 ∷ word_bytes words

-- bytes from an address on, up to the end of the address space
abbrev pub open_cells : ℕ → ℕ → List ℕ → List Cell
open_cells modulus at [] = []
open_cells modulus at (b ∷ bytes) = if nat_lt at modulus then (at, b) ∷ open_cells modulus (suc at) bytes else []

-- an error if the bytes do not fit below the end
abbrev pub open_fault : ℕ → ℕ → List ℕ → Option TxtReason
open_fault modulus at [] = None
open_fault modulus at (b ∷ bytes) = if nat_lt at modulus then open_fault modulus (suc at) bytes else Some Beyond

-- an error if there is no address after the bytes: they do not fit below the end
abbrev pub fault_of : Option ℕ → Option TxtReason
fault_of None = Some Beyond
fault_of (Some at) = None

-- the bytes of a line with bytes
abbrev pub bytes_read : ℕ → Option ℕ → List ℕ → List Cell
bytes_read modulus None bytes = []
bytes_read modulus (Some at) bytes = open_cells modulus at bytes

-- the error of a line with bytes
abbrev pub bytes_stop : ℕ → Option ℕ → List ℕ → Option TxtReason
bytes_stop modulus None bytes = Some NoAddress
bytes_stop modulus (Some at) bytes = open_fault modulus at bytes

-- the bytes of a line before the one that ends the text
abbrev pub inner_read : ℕ → Option ℕ → Option Line → List Cell
inner_read modulus next None = []
inner_read modulus next (Some blank_line) = []
inner_read modulus next (Some (address_line address)) = []
inner_read modulus next (Some (byte_line bytes)) = bytes_read modulus next bytes
inner_read modulus next (Some end_line) = []

-- the error of a line before the one that ends the text
abbrev pub inner_stop : ℕ → Option ℕ → Option Line → Option TxtReason
inner_stop modulus next None = Some BadLine
inner_stop modulus next (Some blank_line) = None
inner_stop modulus next (Some (address_line address)) = None
inner_stop modulus next (Some (byte_line bytes)) = bytes_stop modulus next bytes
inner_stop modulus next (Some end_line) = None

-- the bytes that are read of any line
abbrev pub line_read : ℕ → SoFar → Option Line → List Cell
line_read modulus s line = if s.ended then [] else inner_read modulus s.next line

-- the error of any line
abbrev pub line_stop : ℕ → SoFar → Option Line → Option TxtReason
line_stop modulus s line = if s.ended then later_fault line else inner_stop modulus s.next line

-- a byte with the number of its line and its address
abbrev pub Place : Type 0
Place = ℕ × ℕ

-- the places of bytes of a line
abbrev pub places_at : ℕ → List Cell → List Place
places_at line cells = map (λ (cell : Cell). (line, cell.0)) cells

-- what follows, unless there is an error
abbrev pub unless : {X : Type 0} → Option TxtReason → List X → List X
unless None more = more
unless (Some reason) more = []

-- the bytes that are read of lines
abbrev pub cells_read : ℕ → SoFar → List (Option Line) → List Cell
cells_read modulus s [] = []
cells_read modulus s (line ∷ lines) = line_read modulus s line ++ unless (line_stop modulus s line) (cells_read modulus (so_far s line) lines)

-- the places of the bytes that are read of lines, `count` other lines being before them
abbrev pub places_read : ℕ → ℕ → SoFar → List (Option Line) → List Place
places_read modulus count s [] = []
places_read modulus count s (line ∷ lines) =
    places_at (suc count) (line_read modulus s line) ++ unless (line_stop modulus s line) (places_read modulus (suc count) (so_far s line) lines)

-- the first line with an error, and the error
abbrev pub stop_read : ℕ → ℕ → SoFar → List (Option Line) → Option TxtRefusal
stop_read modulus count s [] = end_fault count s
stop_read modulus count s (line ∷ lines) =
    option_map (refusal_at (suc count)) (line_stop modulus s line) or_else stop_read modulus (suc count) (so_far s line) lines

-- ---- the number of bytes that an address gets

-- the address is the watched one
abbrev pub is_watched : Option ℕ → ℕ → Bool
is_watched None a = false
is_watched (Some watched) a = watched == a

-- the number of bytes at the watched address once these cells are read; the count stops at 2^32 - 1
abbrev pub hits_after : Option ℕ → ℕ → List Cell → ℕ
hits_after watched hits [] = hits
hits_after watched hits (cell ∷ cells) = hits_after watched (if is_watched watched cell.0 then min (hits + 1) (2 ^ 32 - 1) else hits) cells

-- the line at which an address gets its second byte; it has had `hits` bytes before
abbrev pub second_line : ℕ → ℕ → List Place → ℕ
second_line address hits [] = 0
second_line address hits (place ∷ places) =
    if address == place.1 then (if nat_lt 0 hits then place.0 else second_line address 1 places) else second_line address hits places
