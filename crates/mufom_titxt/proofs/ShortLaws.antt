-- A line that has bytes alone, and not none.
use Rattle.std.proofs.Common.{◌≡◌, ℕ, suc, ◌+◌, ◌<◌, ◌≤◌, List, [], ◌∷◌, length, Some, None, option_map, Bool, true, false, not, refl, ◌∙◌, ap}
use Rattle.std.proofs.Common.{arith}
use Rattle.std.specs.Prelude.{◌==◌, ◌&&◌, ◌||◌, nat_lt, if◌then◌else◌}
use Rattle.std.proofs.lemmas.Bool.{eqb-true}
use Rattle.mufom_meaning.specs.AddressMap.{Cell, cells_from}
use Rattle.mufom_titxt.specs.Lines.{address_line, byte_line, end_line, has_bytes, hex_after, address_of, byte_of, bytes_of, alone, line_of_words}
use Rattle.mufom_titxt.specs.Reading.{open_cells, open_fault, hits_after}

-- the word of an address spells no byte
address_is_no_byte : (more : List ℕ) → byte_of (64 ∷ more) ≡ None
address_is_no_byte more = by_length (length (64 ∷ more) == 2) where
  by_length : (b : Bool) → (if b then hex_after 0 (64 ∷ more) else None) ≡ None
  by_length true = refl
  by_length false = refl

-- nor does a word of one byte
no_more : (b : ℕ) (more : List ℕ) (c : Bool) → (c && not (has_bytes more)) ≡ true → byte_of (b ∷ more) ≡ None
no_more b [] c e = refl
no_more b (d ∷ more) true e = absurd (cc e)
no_more b (d ∷ more) false e = absurd (cc e)

module _ (words : List (List ℕ)) (bytes : List ℕ) where
  -- words of which the first spells no byte have no bytes
  none_first : (word : List ℕ) → byte_of word ≡ None → bytes_of (word ∷ words) ≡ Some bytes → ⊥
  none_first word none e = cc (none, e)

  by_first : (b : ℕ) (more : List ℕ) → bytes_of ((b ∷ more) ∷ words) ≡ Some bytes → (s : Bool) → (b == 64) ≡ s
      → (t : Bool) → ((b == 113 || b == 81) && not (has_bytes more)) ≡ t
      → (if s then alone words (option_map address_line (address_of more)) else if t then alone words (Some end_line)
      else option_map byte_line (bytes_of ((b ∷ more) ∷ words))) ≡ Some (byte_line bytes)
  by_first b more e true at t end =
      absurd (none_first (b ∷ more) (ap (λ n. byte_of (n ∷ more)) (eqb-true b 64 at) ∙ address_is_no_byte more) e)
  by_first b more e false at true end = absurd (none_first (b ∷ more) (no_more b more (b == 113 || b == 81) end) e)
  by_first b more e false at false end = ap (option_map byte_line) e

-- words that spell bytes are a line with these, if there is one
pub short_words : (words : List (List ℕ)) (bytes : List ℕ) → bytes_of words ≡ Some bytes → 0 < length bytes → line_of_words words ≡ Some (byte_line bytes)
short_words [] [] e some = absurd (omega (arith, some))
short_words [] (b ∷ bytes) e some = absurd (cc e)
short_words ([] ∷ words) bytes e some = absurd (cc e)
short_words ((b ∷ more) ∷ words) bytes e some =
    by_first words bytes b more e (b == 64) refl ((b == 113 || b == 81) && not (has_bytes more)) refl

-- ---- bytes that are all below the end of the address space

-- a number below another
below : (a b : ℕ) → a < b → nat_lt a b ≡ true
below a b h = grind (arith, h)

-- all of them are placed
pub open_cells-whole : (modulus at : ℕ) (bytes : List ℕ) → at + length bytes ≤ modulus → open_cells modulus at bytes ≡ cells_from at bytes
open_cells-whole modulus at [] h = refl
open_cells-whole modulus at (b ∷ bytes) h =
    rw (below at modulus (omega (arith, h))) (ap (λ (cells : List Cell). (at, b) ∷ cells) (open_cells-whole modulus (suc at) bytes (omega (arith, h))))

-- none goes beyond it
pub open_fault-none : (modulus at : ℕ) (bytes : List ℕ) → at + length bytes ≤ modulus → open_fault modulus at bytes ≡ None
open_fault-none modulus at [] h = refl
open_fault-none modulus at (b ∷ bytes) h =
    rw (below at modulus (omega (arith, h))) (open_fault-none modulus (suc at) bytes (omega (arith, h)))

-- nothing is counted if no address is watched
pub unwatched : (hits : ℕ) (cells : List Cell) → hits_after None hits cells ≡ hits
unwatched hits [] = refl
unwatched hits (cell ∷ cells) = unwatched hits cells
