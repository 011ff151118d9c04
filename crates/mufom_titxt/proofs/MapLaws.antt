-- A text that gives bytes to addresses is one with which nothing is wrong.
use Rattle.std.proofs.Common.{◌≡◌, ℕ, zero, suc, ◌+◌, ◌^◌, ◌<◌, List, [], ◌∷◌, ◌++◌, length, map, replicate, Option, Some, None, option_map, true}
use Rattle.std.proofs.Common.{false, refl, sym, ◌∙◌, ap, subst, arith}
use Rattle.std.proofs.lemmas.List.Elements.{All-nil, All-cons, All-head, All-tail}
use Rattle.std.specs.Prelude.{nat_lt, if◌then◌else◌}
use Rattle.std.specs.List.{All}
use Rattle.mufom_place.specs.Facts.{◌or_else◌}
use Rattle.mufom_meaning.specs.AddressMap.{Cell, cells_from}
use Rattle.mufom_meaning.specs.Walk.{first_twice}
use Rattle.mufom_image_bytes.specs.Chunks.{cell_addresses}
use Rattle.mufom_refusals.specs.declared.text.TxtReason.{TxtReason}
use Rattle.mufom_refusals.specs.declared.text.TxtReason.TheVariants.{Beyond}
use Rattle.mufom_titxt.specs.Lines.{Line, blank_line, address_line, byte_line, end_line, line_of, lines_of}
use Rattle.mufom_titxt.specs.Texts.{nothing_stated, cells_of_lines, AreInside, refusal_at, cells_after, txt_refusal, txt_cells, TxtMap}
use Rattle.mufom_titxt.specs.Reading.{open_fault, stop_read, cells_read, places_read}
use Rattle.mufom_titxt.proofs.RefusalLaws.{first_second, refusal-parts, cells_read-whole, places-addresses, second-none}

-- the end of a text, and blank lines after it
abbrev ended : ℕ → List Line
ended blanks = end_line ∷ replicate blanks blank_line

-- lines of which none is bad
abbrev good : List Line → List (Option Line)
good lines = map (λ line. Some line) lines

-- ---- the bytes

-- blank lines give none
blanks-cells : (k : ℕ) (next : Option ℕ) → cells_after (record { ended = true; next = next }) (good (replicate k blank_line)) ≡ []
blanks-cells zero next = refl
blanks-cells (suc k) next = blanks-cells k next

-- the bytes that lines give
lines-cells : (blanks : ℕ) (lines : List Line) (next : Option ℕ) → AreInside next lines
    → cells_after (record { ended = false; next = next }) (good (lines ++ ended blanks)) ≡ cells_of_lines next lines
lines-cells blanks [] next inside = blanks-cells blanks next
lines-cells blanks (blank_line ∷ lines) next inside = lines-cells blanks lines next inside.1
lines-cells blanks (address_line address ∷ lines) next inside = lines-cells blanks lines (Some address) inside.1
lines-cells blanks (byte_line bytes ∷ lines) None inside = absurd inside.0
lines-cells blanks (byte_line bytes ∷ lines) (Some at) inside =
    ap (λ (cells : List Cell). cells_from at bytes ++ cells) (lines-cells blanks lines (Some (at + length bytes)) inside.1)
lines-cells blanks (end_line ∷ lines) next inside = absurd inside.0

-- ---- no line is wrong by itself

module _ (modulus : ℕ) where
  abbrev IsLow : ℕ → Type 0
  IsLow a = a < modulus

  abbrev AreLow : List Cell → Type 0
  AreLow cells = All IsLow (cell_addresses cells)

  low-left : (xs ys : List Cell) → AreLow (xs ++ ys) → AreLow xs
  low-left [] ys h = All-nil IsLow
  low-left (x ∷ xs) ys h =
      All-cons IsLow x.0 (cell_addresses xs) (All-head IsLow x.0 (cell_addresses (xs ++ ys)) h)
      (low-left xs ys (All-tail IsLow x.0 (cell_addresses (xs ++ ys)) h))

  low-right : (xs ys : List Cell) → AreLow (xs ++ ys) → AreLow ys
  low-right [] ys h = h
  low-right (x ∷ xs) ys h = low-right xs ys (All-tail IsLow x.0 (cell_addresses (xs ++ ys)) h)

  -- bytes below the end of the address space
  low-fault : (at : ℕ) (bytes : List ℕ) → AreLow (cells_from at bytes) → open_fault modulus at bytes ≡ None
  low-fault at [] h = refl
  low-fault at (b ∷ bytes) h =
      let first : at < modulus = All-head IsLow at (cell_addresses (cells_from (suc at) bytes)) h in
      let low : nat_lt at modulus ≡ true = grind (arith, first) in
      ap (λ t. if t then open_fault modulus (suc at) bytes else Some Beyond) low
      ∙ low-fault (suc at) bytes (All-tail IsLow at (cell_addresses (cells_from (suc at) bytes)) h)

  -- blank lines after the end
  blanks-good : (k count : ℕ) (next : Option ℕ) → stop_read modulus count (record { ended = true; next = next }) (good (replicate k blank_line)) ≡ None
  blanks-good zero count next = refl
  blanks-good (suc k) count next = blanks-good k (suc count) next

  -- lines whose bytes are below the end of the address space
  lines-good : (blanks : ℕ) (lines : List Line) (count : ℕ) (next : Option ℕ) → AreInside next lines → AreLow (cells_of_lines next lines)
      → stop_read modulus count (record { ended = false; next = next }) (good (lines ++ ended blanks)) ≡ None
  lines-good blanks [] count next inside low = blanks-good blanks (suc count) next
  lines-good blanks (blank_line ∷ lines) count next inside low = lines-good blanks lines (suc count) next inside.1 low
  lines-good blanks (address_line address ∷ lines) count next inside low = lines-good blanks lines (suc count) (Some address) inside.1 low
  lines-good blanks (byte_line bytes ∷ lines) count None inside low = absurd inside.0
  lines-good blanks (byte_line bytes ∷ lines) count (Some at) inside low =
      let more : List Cell = cells_of_lines (Some (at + length bytes)) lines in
      let later = lines-good blanks lines (suc count) (Some (at + length bytes)) inside.1 (low-right (cells_from at bytes) more low) in
      let fault : open_fault modulus at bytes ≡ None = low-fault at bytes (low-left (cells_from at bytes) more low) in
      ap (λ (o : Option TxtReason). option_map (refusal_at (suc count)) o
      or_else stop_read modulus (suc count) (record { ended = false; next = Some (at + length bytes) }) (good (lines ++ ended blanks))) fault
      ∙ later
  lines-good blanks (end_line ∷ lines) count next inside low = absurd inside.0

-- ---- the text

-- the bytes of the text are those given
pub map_cells : (text : List ℕ) (width : ℕ) (cells : List Cell) → TxtMap text width cells → txt_cells text ≡ cells
map_cells text width cells m =
    ap (cells_after nothing_stated) m.stated ∙ (lines-cells m.blanks m.lines None m.inside ∙ sym m.given)

-- nothing is wrong with the text
pub map_is_accepted : (text : List ℕ) (width : ℕ) (cells : List Cell) → TxtMap text width cells → txt_refusal text width ≡ None
map_is_accepted text width cells m =
    let lines : List (Option Line) = map line_of (lines_of text) in
    let modulus : ℕ = 2 ^ width in
    let low = subst (λ (these : List Cell). All (λ (a : ℕ). a < 2 ^ width) (cell_addresses these)) m.given m.below in
    let stop : stop_read modulus 0 nothing_stated lines ≡ None
    = ap (stop_read modulus 0 nothing_stated) m.stated ∙ lines-good modulus m.blanks m.lines 0 None m.inside low in
    let whole : cells_read modulus nothing_stated lines ≡ cells
    = cells_read-whole modulus lines 0 nothing_stated stop ∙ map_cells text width cells m in
    let once : first_second [] (places_read modulus 0 nothing_stated lines) ≡ None
    = second-none (places_read modulus 0 nothing_stated lines) []
    (ap (first_twice []) (places-addresses modulus lines 0 nothing_stated ∙ ap cell_addresses whole) ∙ m.once) in
    refusal-parts modulus lines 0 nothing_stated [] ∙ (λ i. once i or_else stop i)
