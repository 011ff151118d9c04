-- The TI-TXT text of runs.
use Rattle.std.specs.Prelude.{ℕ, zero, suc, ◌+◌, ◌/◌, ◌%◌, ◌==◌, nat_lt, List, [], ◌∷◌, ◌++◌, flat_map, if◌then◌else◌}
use Rattle.std.specs.Int.{w64, to_be_bytes}
use Rattle.mufom_meaning.specs.declared.located.Run.{Run}

-- a hexadecimal digit in upper case
abbrev pub upper_digit : ℕ → ℕ
upper_digit d = if nat_lt d 10 then 48 + d else 55 + d

-- the two digits of a byte
abbrev pub byte_digits : ℕ → List ℕ
byte_digits b = upper_digit (b / 16) ∷ upper_digit (b % 16) ∷ []

-- digits without the zeros at the front, of which at most `most` are left out
abbrev pub without_zeros : ℕ → List ℕ → List ℕ
without_zeros zero digits = digits
without_zeros (suc most) [] = []
without_zeros (suc most) (d ∷ digits) = if d == 48 then without_zeros most digits else d ∷ digits

-- an address: its sixteen digits without leading zeros, but at least four digits
abbrev pub address_digits : ℕ → List ℕ
address_digits address = without_zeros 12 (flat_map byte_digits (to_be_bytes w64 address))

-- the lines of a run's bytes: 16 bytes to a line, with one space between two; `count` bytes of the run are before these
abbrev pub byte_lines : ℕ → List ℕ → List ℕ
byte_lines count [] = []
byte_lines count (b ∷ []) = byte_digits b ++ 10 ∷ []
byte_lines count (b ∷ c ∷ bytes) = byte_digits b ++ ((if count % 16 == 15 then 10 else 32) ∷ byte_lines (count + 1) (c ∷ bytes))

-- a run: the line of its address, and the lines of its bytes
abbrev pub run_text : ℕ → List ℕ → List ℕ
run_text address bytes = 64 ∷ (address_digits address ++ 10 ∷ byte_lines 0 bytes)

-- the line that ends a text
abbrev pub end_text : List ℕ
end_text = 113 ∷ 10 ∷ []

-- the text of runs
abbrev pub txt_text : List Run → List ℕ
txt_text runs = flat_map (λ run. run_text run.address run.bytes) runs ++ end_text
