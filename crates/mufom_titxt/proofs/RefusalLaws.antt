-- What is wrong with a text: an address that has two bytes, and else the first line that is wrong by itself.
use Rattle.std.proofs.Common.{◌≡◌, ℕ, suc, ◌<◌, List, [], ◌∷◌, ◌++◌, map, Option, Some, None, option_map, Bool, true, false, refl, sym, ◌∙◌, ap, subst, arith}
use Rattle.std.proofs.lemmas.List.{map-append}
use Rattle.std.specs.Prelude.{◌==◌, ◌||◌, nat_lt, if◌then◌else◌}
use Rattle.std.specs.List.{All}
use Rattle.std.proofs.lemmas.List.Elements.{All-append, All-cons}
use Rattle.mufom_place.specs.Facts.{◌or_else◌}
use Rattle.mufom_meaning.specs.AddressMap.{Cell, cells_from}
use Rattle.mufom_meaning.specs.Facts.{LocateFact, loaded_twice}
use Rattle.mufom_meaning.specs.Walk.{has_number, first_twice}
use Rattle.mufom_numbers.proofs.Choices.{equal_numbers, of_lt}
use Rattle.mufom_image_bytes.specs.Chunks.{cell_addresses}
use Rattle.mufom_refusals.specs.declared.text.TxtReason.{TxtReason}
use Rattle.mufom_refusals.specs.declared.text.TxtReason.TheVariants.{Beyond, Twice}
use Rattle.mufom_refusals.specs.declared.text.TxtRefusal.{TxtRefusal}
use Rattle.mufom_titxt.specs.Lines.{Line, blank_line, address_line, byte_line, end_line}
use Rattle.mufom_titxt.specs.Texts.{SoFar, so_far, cells_at, line_cells, cells_on, byte_fault, bytes_fault, inner_fault, later_fault, line_fault}
use Rattle.mufom_titxt.specs.Texts.{taken_after, refusal_at, refusal_after, cells_after}
use Rattle.mufom_titxt.specs.Reading.{open_cells, open_fault, bytes_read, bytes_stop, inner_read, inner_stop, line_read, line_stop, Place, places_at}
use Rattle.mufom_titxt.specs.Reading.{unless, cells_read, places_read, stop_read, second_line}

-- ---- an address of a line that has a byte already

abbrev pub twice_reason : List ℕ → List Cell → Option TxtReason
twice_reason taken [] = None
twice_reason taken (cell ∷ cells) = if has_number taken cell.0 then Some (Twice cell.0) else twice_reason (cell.0 ∷ taken) cells

byte_fault-parts : (modulus : ℕ) (taken : List ℕ) (at : ℕ) (bytes : List ℕ)
    → byte_fault modulus taken at bytes ≡ (twice_reason taken (open_cells modulus at bytes) or_else open_fault modulus at bytes)
byte_fault-parts modulus taken at [] = refl
byte_fault-parts modulus taken at (b ∷ bytes) = by_case (byte_fault-parts modulus (at ∷ taken) (suc at) bytes) (nat_lt at modulus)
    (has_number taken at) refl where
      by_case : byte_fault modulus (at ∷ taken) (suc at) bytes ≡ (twice_reason (at ∷ taken) (open_cells modulus (suc at) bytes)
          or_else open_fault modulus (suc at) bytes)
          → (low had : Bool) → has_number taken at ≡ had
          → (if low then (if had then Some (Twice at) else byte_fault modulus (at ∷ taken) (suc at) bytes) else Some Beyond)
          ≡ (twice_reason taken (if low then (at, b) ∷ open_cells modulus (suc at) bytes else [])
          or_else (if low then open_fault modulus (suc at) bytes else Some Beyond))
      by_case later false had e = refl
      by_case later true true e = rw e refl
      by_case later true false e = rw e later

bytes_fault-parts : (modulus : ℕ) (taken : List ℕ) (next : Option ℕ) (bytes : List ℕ)
    → bytes_fault modulus taken next bytes ≡ (twice_reason taken (bytes_read modulus next bytes) or_else bytes_stop modulus next bytes)
bytes_fault-parts modulus taken None bytes = refl
bytes_fault-parts modulus taken (Some at) bytes = byte_fault-parts modulus taken at bytes

inner_fault-parts : (modulus : ℕ) (taken : List ℕ) (next : Option ℕ) (line : Option Line)
    → inner_fault modulus taken next line ≡ (twice_reason taken (inner_read modulus next line) or_else inner_stop modulus next line)
inner_fault-parts modulus taken next None = refl
inner_fault-parts modulus taken next (Some blank_line) = refl
inner_fault-parts modulus taken next (Some (address_line address)) = refl
inner_fault-parts modulus taken next (Some (byte_line bytes)) = bytes_fault-parts modulus taken next bytes
inner_fault-parts modulus taken next (Some end_line) = refl

line_fault-parts : (modulus : ℕ) (taken : List ℕ) (s : SoFar) (line : Option Line)
    → line_fault modulus taken s line ≡ (twice_reason taken (line_read modulus s line) or_else line_stop modulus s line)
line_fault-parts modulus taken s line = by_case s.ended where
  by_case : (ended : Bool) → (if ended then later_fault line else inner_fault modulus taken s.next line)
      ≡ (twice_reason taken (if ended then [] else inner_read modulus s.next line) or_else (if ended then later_fault line else inner_stop modulus s.next line))
  by_case true = refl
  by_case false = inner_fault-parts modulus taken s.next line

-- ---- a line with which nothing is wrong is read whole

open_cells-whole : (modulus at : ℕ) (bytes : List ℕ) → open_fault modulus at bytes ≡ None → open_cells modulus at bytes ≡ cells_from at bytes
open_cells-whole modulus at [] e = refl
open_cells-whole modulus at (b ∷ bytes) e = by_case (open_cells-whole modulus (suc at) bytes) (nat_lt at modulus) e where
  by_case : (open_fault modulus (suc at) bytes ≡ None → open_cells modulus (suc at) bytes ≡ cells_from (suc at) bytes)
      → (low : Bool) → (if low then open_fault modulus (suc at) bytes else Some Beyond) ≡ None
      → (if low then (at, b) ∷ open_cells modulus (suc at) bytes else []) ≡ (at, b) ∷ cells_from (suc at) bytes
  by_case later true none = ap (λ cells. (at, b) ∷ cells) (later none)
  by_case later false none = absurd (cc none)

bytes_read-whole : (modulus : ℕ) (next : Option ℕ) (bytes : List ℕ) → bytes_stop modulus next bytes ≡ None → bytes_read modulus next bytes ≡ cells_at next bytes
bytes_read-whole modulus None bytes e = absurd (cc e)
bytes_read-whole modulus (Some at) bytes e = open_cells-whole modulus at bytes e

-- the bytes of a line after others
abbrev on : SoFar → Option Line → Bool → List Cell
on s None ended = []
on s (Some line) ended = if ended then [] else line_cells s.next line

read_on : (modulus : ℕ) (s : SoFar) (line : Option Line) (ended : Bool) → (if ended then later_fault line else inner_stop modulus s.next line) ≡ None
    → (if ended then [] else inner_read modulus s.next line) ≡ on s line ended
read_on modulus s None true e = refl
read_on modulus s None false e = refl
read_on modulus s (Some blank_line) true e = refl
read_on modulus s (Some blank_line) false e = refl
read_on modulus s (Some (address_line address)) true e = refl
read_on modulus s (Some (address_line address)) false e = refl
read_on modulus s (Some (byte_line bytes)) true e = refl
read_on modulus s (Some (byte_line bytes)) false e = bytes_read-whole modulus s.next bytes e
read_on modulus s (Some end_line) true e = refl
read_on modulus s (Some end_line) false e = refl

line_read-whole : (modulus : ℕ) (s : SoFar) (line : Option Line) → line_stop modulus s line ≡ None → line_read modulus s line ≡ cells_on s line
line_read-whole modulus s None e = read_on modulus s None s.ended e
line_read-whole modulus s (Some line) e = read_on modulus s (Some line) s.ended e

-- ---- lines

-- the first byte whose address has one already
abbrev pub first_second : List ℕ → List Place → Option TxtRefusal
first_second taken [] = None
first_second taken (place ∷ places) =
    if has_number taken place.1 then Some (refusal_at place.0 (Twice place.1)) else first_second (place.1 ∷ taken) places

first_second-line : (n : ℕ) (cells : List Cell) (more : List Place) (taken : List ℕ)
    → first_second taken (places_at n cells ++ more) ≡ (option_map (refusal_at n) (twice_reason taken cells)
    or_else first_second (taken_after taken cells) more)
first_second-line n [] more taken = refl
first_second-line n (cell ∷ cells) more taken = by_case (first_second-line n cells more (cell.0 ∷ taken)) (has_number taken cell.0) where
  by_case : first_second (cell.0 ∷ taken) (places_at n cells ++ more)
      ≡ (option_map (refusal_at n) (twice_reason (cell.0 ∷ taken) cells) or_else first_second (taken_after (cell.0 ∷ taken) cells) more)
      → (had : Bool) → (if had then Some (refusal_at n (Twice cell.0)) else first_second (cell.0 ∷ taken) (places_at n cells ++ more))
      ≡ (option_map (refusal_at n) (if had then Some (Twice cell.0) else twice_reason (cell.0 ∷ taken) cells)
      or_else first_second (taken_after (cell.0 ∷ taken) cells) more)
  by_case later true = refl
  by_case later false = later

-- what is wrong with lines
pub refusal-parts : (modulus : ℕ) (lines : List (Option Line)) (count : ℕ) (s : SoFar) (taken : List ℕ)
    → refusal_after modulus count s taken lines ≡ (first_second taken (places_read modulus count s lines) or_else stop_read modulus count s lines)
refusal-parts modulus [] count s taken = refl
refusal-parts modulus (line ∷ lines) count s taken =
    let cells : List Cell = line_read modulus s line in
    let after : SoFar = so_far s line in
    ap (λ o. option_map (refusal_at (suc count)) o or_else refusal_after modulus (suc count) after (taken_after taken (cells_on s line)) lines)
    (line_fault-parts modulus taken s line)
    ∙ (by_case (refusal-parts modulus lines (suc count) after (taken_after taken (cells_on s line))) (twice_reason taken cells) (line_stop modulus s line) refl
    ∙ ap (λ o. o or_else (option_map (refusal_at (suc count)) (line_stop modulus s line) or_else stop_read modulus (suc count) after lines))
    (sym (first_second-line (suc count) cells (unless (line_stop modulus s line) (places_read modulus (suc count) after lines)) taken))) where
      by_case : refusal_after modulus (suc count) (so_far s line) (taken_after taken (cells_on s line)) lines
          ≡ (first_second (taken_after taken (cells_on s line)) (places_read modulus (suc count) (so_far s line) lines)
          or_else stop_read modulus (suc count) (so_far s line) lines)
          → (twice stop : Option TxtReason) → line_stop modulus s line ≡ stop
          → (option_map (refusal_at (suc count)) (twice or_else stop)
          or_else refusal_after modulus (suc count) (so_far s line) (taken_after taken (cells_on s line)) lines)
          ≡ ((option_map (refusal_at (suc count)) twice
          or_else first_second (taken_after taken (line_read modulus s line)) (unless stop (places_read modulus (suc count) (so_far s line) lines)))
          or_else (option_map (refusal_at (suc count)) stop or_else stop_read modulus (suc count) (so_far s line) lines))
      by_case later (Some twice) stop e = refl
      by_case later None (Some stop) e = refl
      by_case later None None e = later
          ∙ ap (λ cells. first_second (taken_after taken cells) (places_read modulus (suc count) (so_far s line) lines)
          or_else stop_read modulus (suc count) (so_far s line) lines)
          (sym (line_read-whole modulus s line e))

-- lines with which nothing is wrong are read whole
pub cells_read-whole : (modulus : ℕ) (lines : List (Option Line)) (count : ℕ) (s : SoFar) → stop_read modulus count s lines ≡ None
    → cells_read modulus s lines ≡ cells_after s lines
cells_read-whole modulus [] count s e = refl
cells_read-whole modulus (line ∷ lines) count s e = by_case (cells_read-whole modulus lines (suc count) (so_far s line)) (line_stop modulus s line) refl e where
  by_case : (stop_read modulus (suc count) (so_far s line) lines ≡ None → cells_read modulus (so_far s line) lines ≡ cells_after (so_far s line) lines)
      → (stop : Option TxtReason) → line_stop modulus s line ≡ stop
      → (option_map (refusal_at (suc count)) stop or_else stop_read modulus (suc count) (so_far s line) lines) ≡ None
      → line_read modulus s line ++ unless stop (cells_read modulus (so_far s line) lines) ≡ cells_on s line ++ cells_after (so_far s line) lines
  by_case later None same none = ap (λ cells. cells ++ cells_read modulus (so_far s line) lines) (line_read-whole modulus s line same)
      ∙ ap (λ cells. cells_on s line ++ cells) (later none)
  by_case later (Some stop) same none = absurd (cc none)

-- the addresses of the places
pub places-addresses : (modulus : ℕ) (lines : List (Option Line)) (count : ℕ) (s : SoFar)
    → map (λ (place : Place). place.1) (places_read modulus count s lines) ≡ cell_addresses (cells_read modulus s lines)
places-addresses modulus [] count s = refl
places-addresses modulus (line ∷ lines) count s =
    map-append (λ (place : Place). place.1) (places_at (suc count) (line_read modulus s line))
    (unless (line_stop modulus s line) (places_read modulus (suc count) (so_far s line) lines))
    ∙ (ap (λ xs. xs ++ map (λ (place : Place). place.1) (unless (line_stop modulus s line) (places_read modulus (suc count) (so_far s line) lines)))
    (of_line (suc count) (line_read modulus s line))
    ∙ (ap (λ xs. cell_addresses (line_read modulus s line) ++ xs)
    (by_case (places-addresses modulus lines (suc count) (so_far s line)) (line_stop modulus s line))
    ∙ sym (map-append (λ (cell : Cell). cell.0) (line_read modulus s line)
    (unless (line_stop modulus s line) (cells_read modulus (so_far s line) lines))))) where
      of_line : (n : ℕ) (cells : List Cell) → map (λ (place : Place). place.1) (places_at n cells) ≡ cell_addresses cells
      of_line n [] = refl
      of_line n (cell ∷ cells) = ap (λ xs. cell.0 ∷ xs) (of_line n cells)

      by_case : map (λ (place : Place). place.1) (places_read modulus (suc count) (so_far s line) lines)
          ≡ cell_addresses (cells_read modulus (so_far s line) lines)
          → (stop : Option TxtReason)
          → map (λ (place : Place). place.1) (unless stop (places_read modulus (suc count) (so_far s line) lines))
          ≡ cell_addresses (unless stop (cells_read modulus (so_far s line) lines))
      by_case later None = later
      by_case later (Some stop) = refl

-- ---- addresses that have two bytes

pub second-none : (places : List Place) (taken : List ℕ) → first_twice taken (map (λ (place : Place). place.1) places) ≡ None → first_second taken places ≡ None
second-none [] taken e = refl
second-none (place ∷ places) taken e = by_case (second-none places (place.1 ∷ taken)) (has_number taken place.1) e where
  by_case : (first_twice (place.1 ∷ taken) (map (λ (place : Place). place.1) places) ≡ None → first_second (place.1 ∷ taken) places ≡ None)
      → (had : Bool) → (if had then Some (loaded_twice place.1) else first_twice (place.1 ∷ taken) (map (λ (place : Place). place.1) places)) ≡ None
      → (if had then Some (refusal_at place.0 (Twice place.1)) else first_second (place.1 ∷ taken) places) ≡ None
  by_case later true e = absurd (cc e)
  by_case later false e = later e

-- how often an address has a byte, as far as it matters
abbrev hits_of : List ℕ → ℕ → ℕ
hits_of taken a = if has_number taken a then 1 else 0

-- a place of another address, or the first of this one
second-later : (a : ℕ) (taken : List ℕ) (place : Place) (places : List Place) → has_number taken place.1 ≡ false
    → second_line a (hits_of (place.1 ∷ taken) a) places ≡ second_line a (hits_of taken a) (place ∷ places)
second-later a taken place places absent = by_case (a == place.1) (place.1 == a) refl refl where
  by_case : (b c : Bool) → (a == place.1) ≡ b → (place.1 == a) ≡ c
      → second_line a (if c || has_number taken a then 1 else 0) places
      ≡ (if b then (if nat_lt 0 (hits_of taken a) then place.0 else second_line a 1 places) else second_line a (hits_of taken a) places)
  by_case true true e f =
      let none : has_number taken a ≡ false = ap (has_number taken) (equal_numbers a place.1 e) ∙ absent in
      sym (ap (λ t. if nat_lt 0 (if t then 1 else 0) then place.0 else second_line a 1 places) none)
  by_case false false e f = refl
  by_case true false e f = absurd (grind (arith, e, f))
  by_case false true e f = absurd (grind (arith, e, f))

-- if an address is the first with two bytes, it gets the second one at this line
pub second-some : (places : List Place) (taken : List ℕ) (a : ℕ) → first_twice taken (map (λ (place : Place). place.1) places) ≡ Some (loaded_twice a)
    → first_second taken places ≡ Some (refusal_at (second_line a (hits_of taken a) places) (Twice a))
second-some [] taken a e = absurd (cc e)
second-some (place ∷ places) taken a e = by_case (second-some places (place.1 ∷ taken) a) (has_number taken place.1) refl e where
  here : has_number taken place.1 ≡ true → place.1 ≡ a → place.0 ≡ second_line a (hits_of taken a) (place ∷ places)
  here had same =
      let P : ℕ → Type 0 = λ x. place.0 ≡ (if x == place.1 then (if nat_lt 0 (hits_of taken x) then place.0 else second_line x 1 places)
      else second_line x (hits_of taken x) places) in
      subst P same (first (place.1 == place.1) (grind arith)) where
        first : (b : Bool) → b ≡ true
            → place.0 ≡ (if b then (if nat_lt 0 (hits_of taken place.1) then place.0 else second_line place.1 1 places)
            else second_line place.1 (hits_of taken place.1) places)
        first b e = rw (e, had) refl

  by_case : (first_twice (place.1 ∷ taken) (map (λ (p : Place). p.1) places) ≡ Some (loaded_twice a)
      → first_second (place.1 ∷ taken) places ≡ Some (refusal_at (second_line a (hits_of (place.1 ∷ taken) a) places) (Twice a)))
      → (had : Bool) → has_number taken place.1 ≡ had
      → (if had then Some (loaded_twice place.1) else first_twice (place.1 ∷ taken) (map (λ (p : Place). p.1) places)) ≡ Some (loaded_twice a)
      → (if had then Some (refusal_at place.0 (Twice place.1)) else first_second (place.1 ∷ taken) places)
      ≡ Some (refusal_at (second_line a (hits_of taken a) (place ∷ places)) (Twice a))
  by_case later true had e =
      let same : place.1 ≡ a = cc e in
      ap (λ x. Some (refusal_at place.0 (Twice x))) same ∙ ap (λ n. Some (refusal_at n (Twice a))) (here had same)
  by_case later false absent e = later e ∙ ap (λ n. Some (refusal_at n (Twice a))) (second-later a taken place places absent)

-- the first address that has two bytes is one of those
pub twice-names : (addresses taken : List ℕ) (fact : LocateFact) → first_twice taken addresses ≡ Some fact → (a : ℕ) × (fact ≡ loaded_twice a)
twice-names [] taken fact e = absurd (cc e)
twice-names (a ∷ addresses) taken fact e = by_case (twice-names addresses (a ∷ taken) fact) (has_number taken a) e where
  by_case : (first_twice (a ∷ taken) addresses ≡ Some fact → (b : ℕ) × (fact ≡ loaded_twice b))
      → (had : Bool) → (if had then Some (loaded_twice a) else first_twice (a ∷ taken) addresses) ≡ Some fact → (b : ℕ) × (fact ≡ loaded_twice b)
  by_case later true e = (a, cc e)
  by_case later false e = later e

-- ---- the addresses that are read are below the modulus

nothing : (modulus : ℕ) → All (λ a. a < modulus) []
nothing modulus = λ k d h. absurd (omega (arith, h))

open_cells-low : (modulus at : ℕ) (bytes : List ℕ) → All (λ a. a < modulus) (cell_addresses (open_cells modulus at bytes))
open_cells-low modulus at [] = nothing modulus
open_cells-low modulus at (b ∷ bytes) = by_case (open_cells-low modulus (suc at) bytes) (nat_lt at modulus) refl where
  by_case : All (λ a. a < modulus) (cell_addresses (open_cells modulus (suc at) bytes)) → (low : Bool) → nat_lt at modulus ≡ low
      → All (λ a. a < modulus) (cell_addresses (if low then (at, b) ∷ open_cells modulus (suc at) bytes else []))
  by_case later true e = All-cons (λ (a : ℕ). a < modulus) at (cell_addresses (open_cells modulus (suc at) bytes)) (of_lt at modulus e) later
  by_case later false e = nothing modulus

line_read-low : (modulus : ℕ) (s : SoFar) (line : Option Line) → All (λ a. a < modulus) (cell_addresses (line_read modulus s line))
line_read-low modulus s line = by_ended s.ended where
  of_next : (next : Option ℕ) (bytes : List ℕ) → All (λ a. a < modulus) (cell_addresses (bytes_read modulus next bytes))
  of_next None bytes = nothing modulus
  of_next (Some at) bytes = open_cells-low modulus at bytes

  inner : (line : Option Line) → All (λ a. a < modulus) (cell_addresses (inner_read modulus s.next line))
  inner None = nothing modulus
  inner (Some blank_line) = nothing modulus
  inner (Some (address_line address)) = nothing modulus
  inner (Some (byte_line bytes)) = of_next s.next bytes
  inner (Some end_line) = nothing modulus

  by_ended : (ended : Bool) → All (λ a. a < modulus) (cell_addresses (if ended then [] else inner_read modulus s.next line))
  by_ended true = nothing modulus
  by_ended false = inner line

pub cells_read-low : (modulus : ℕ) (lines : List (Option Line)) (s : SoFar) → All (λ a. a < modulus) (cell_addresses (cells_read modulus s lines))
cells_read-low modulus [] s = nothing modulus
cells_read-low modulus (line ∷ lines) s =
    rw (map-append (λ (cell : Cell). cell.0) (line_read modulus s line) (unless (line_stop modulus s line) (cells_read modulus (so_far s line) lines)))
    (All-append (λ (a : ℕ). a < modulus) (cell_addresses (line_read modulus s line))
    (cell_addresses (unless (line_stop modulus s line) (cells_read modulus (so_far s line) lines)))
    (line_read-low modulus s line) (by_case (cells_read-low modulus lines (so_far s line)) (line_stop modulus s line))) where
      by_case : All (λ a. a < modulus) (cell_addresses (cells_read modulus (so_far s line) lines)) → (stop : Option TxtReason)
          → All (λ a. a < modulus) (cell_addresses (unless stop (cells_read modulus (so_far s line) lines)))
      by_case later None = later
      by_case later (Some stop) = nothing modulus
