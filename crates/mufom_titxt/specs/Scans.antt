-- The rest of a text while it is read.
use Rattle.std.specs.Prelude.{ℕ, suc, length, ◌==◌, Bool, false, List, [], ◌∷◌, Option, Some, None, option_map}
use Rattle.std.specs.Option.{option_and_then}
use Rattle.mufom_titxt.specs.Lines.{Line, blank_line, address_line, byte_line, end_line, lines_of}
use Rattle.mufom_titxt.specs.declared.shape.Shape.{Shape}
use Rattle.mufom_titxt.specs.declared.shape.Shape.TheVariants.{Blank, Address, Bytes, End, Bad}

-- the lines of the text that follows a line, if any does
abbrev pub lines_later : Option (List ℕ) → List (List ℕ)
lines_later None = []
lines_later (Some text) = lines_of text

-- the first byte is a space
abbrev pub begins_with_space : List ℕ → Bool
begins_with_space [] = false
begins_with_space (b ∷ bytes) = b == 32

-- what a line states, without its bytes
abbrev pub shape_of : Option Line → Shape
shape_of None = Bad
shape_of (Some blank_line) = Blank
shape_of (Some (address_line address)) = Address address
shape_of (Some (byte_line bytes)) = Bytes
shape_of (Some end_line) = End

-- this shape if the line has no more words, and `Bad` otherwise
abbrev pub alone_shape : List (List ℕ) → Shape → Shape
alone_shape [] shape = shape
alone_shape (word ∷ words) shape = Bad

-- the number of bytes and ends of lines that are left
abbrev pub bytes_left : Option (List ℕ) → ℕ
bytes_left None = 0
bytes_left (Some text) = suc (length text)

-- this byte and those of later words, if all of these words spell bytes
abbrev pub bytes_from : Option ℕ → Option (List ℕ) → Option (List ℕ)
bytes_from first later = option_and_then (λ b. option_map (λ bytes. b ∷ bytes) later) first
