-- A line with bytes, by its words.
use Rattle.std.proofs.Common.{◌≡◌, ℕ, List, [], ◌∷◌, Option, Some, None, option_map, Bool, true, false, not, refl, sym, ◌∙◌, ap}
use Rattle.std.specs.Prelude.{◌==◌, ◌&&◌, ◌||◌, if◌then◌else◌}
use Rattle.std.specs.Option.{option_and_then}
use Rattle.mufom_titxt.specs.declared.shape.Shape.TheVariants.{Bytes}
use Rattle.mufom_titxt.specs.Lines.{address_line, byte_line, end_line, has_bytes, address_of, byte_of, bytes_of, alone, line_of_words, words_of, line_of}
use Rattle.mufom_titxt.specs.Scans.{shape_of}
use Rattle.mufom_titxt.specs.Reading.{word_bytes}

-- the bytes of words
pub bytes_found : (words : List (List ℕ)) (bytes : List ℕ) → bytes_of words ≡ Some bytes → word_bytes words ≡ bytes
bytes_found [] bytes e = cc
bytes_found (word ∷ words) bytes e = by_byte (bytes_found words) (byte_of word) refl e where
  by_rest : ((b : List ℕ) → bytes_of words ≡ Some b → word_bytes words ≡ b) → (n : ℕ) → byte_of word ≡ Some n → (o : Option (List ℕ)) → bytes_of words ≡ o
      → option_map (λ more. n ∷ more) o ≡ Some bytes → word_bytes (word ∷ words) ≡ bytes
  by_rest later n first None rest e = absurd (cc e)
  by_rest later n first (Some more) rest e =
      let same = later more rest in
      let here : n ∷ more ≡ bytes = cc e in
      rw first (ap (λ xs. n ∷ xs) same ∙ here)

  by_byte : ((b : List ℕ) → bytes_of words ≡ Some b → word_bytes words ≡ b) → (o : Option ℕ) → byte_of word ≡ o
      → option_and_then (λ n. option_map (λ more. n ∷ more) (bytes_of words)) o ≡ Some bytes → word_bytes (word ∷ words) ≡ bytes
  by_byte later None first e = absurd (cc e)
  by_byte later (Some n) first e = by_rest later n first (bytes_of words) refl e

-- the line of an address is not a line with bytes
not_address : (words : List (List ℕ)) (o : Option ℕ) → shape_of (alone words (option_map address_line o)) ≡ Bytes → ⊥
not_address [] None h = cc h
not_address [] (Some a) h = cc h
not_address (word ∷ words) o h = cc h

-- nor is the one that ends a text
not_end : (words : List (List ℕ)) → shape_of (alone words (Some end_line)) ≡ Bytes → ⊥
not_end [] h = cc h
not_end (word ∷ words) h = cc h

from_bytes : (words : List (List ℕ)) (o : Option (List ℕ)) → bytes_of words ≡ o → shape_of (option_map byte_line o) ≡ Bytes
    → option_map byte_line o ≡ Some (byte_line (word_bytes words))
from_bytes words None e h = absurd (cc h)
from_bytes words (Some bytes) e h = ap (λ xs. Some (byte_line xs)) (sym (bytes_found words bytes e))

-- a line of the shape of bytes, by its words
line_found : (words : List (List ℕ)) → shape_of (line_of_words words) ≡ Bytes → line_of_words words ≡ Some (byte_line (word_bytes words))
line_found [] h = absurd (cc h)
line_found ([] ∷ words) h = absurd (cc h)
line_found ((b ∷ more) ∷ words) h = by_tests (b == 64) ((b == 113 || b == 81) && not (has_bytes more)) h where
  by_tests : (s t : Bool)
      → shape_of (if s then alone words (option_map address_line (address_of more)) else if t then alone words (Some end_line)
      else option_map byte_line (bytes_of ((b ∷ more) ∷ words))) ≡ Bytes
      → (if s then alone words (option_map address_line (address_of more)) else if t then alone words (Some end_line)
      else option_map byte_line (bytes_of ((b ∷ more) ∷ words)))
      ≡ Some (byte_line (word_bytes ((b ∷ more) ∷ words)))
  by_tests true t h = absurd (not_address words (address_of more) h)
  by_tests false true h = absurd (not_end words h)
  by_tests false false h = from_bytes ((b ∷ more) ∷ words) (bytes_of ((b ∷ more) ∷ words)) refl h

-- the same of a line
pub byte_line_found : (line : List ℕ) → Bytes ≡ shape_of (line_of line) → line_of line ≡ Some (byte_line (word_bytes (words_of line)))
byte_line_found line h = line_found (words_of line) (sym h)
