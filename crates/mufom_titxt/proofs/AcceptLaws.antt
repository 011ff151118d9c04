-- A text with which nothing is wrong is one that gives its bytes to its addresses.
use Rattle.std.proofs.Common.{◌≡◌, ℕ, suc, ◌+◌, ◌^◌, ◌<◌, List, [], ◌∷◌, ◌++◌, length, map, replicate, Option, Some, None, option_map, Bool, true}
use Rattle.std.proofs.Common.{false, refl, sym, ◌∙◌, ap, subst}
use Rattle.std.specs.Prelude.{if◌then◌else◌}
use Rattle.std.specs.List.{All}
use Rattle.mufom_place.specs.Facts.{◌or_else◌}
use Rattle.mufom_meaning.specs.AddressMap.{Cell}
use Rattle.mufom_meaning.specs.Facts.{loaded_twice}
use Rattle.mufom_meaning.specs.Walk.{has_number, first_twice}
use Rattle.mufom_image_bytes.specs.Chunks.{cell_addresses}
use Rattle.mufom_refusals.specs.declared.text.TxtReason.{TxtReason}
use Rattle.mufom_refusals.specs.declared.text.TxtReason.TheVariants.{Twice}
use Rattle.mufom_refusals.specs.declared.text.TxtRefusal.{TxtRefusal}
use Rattle.mufom_titxt.specs.Lines.{Line, blank_line, address_line, byte_line, end_line, line_of, lines_of}
use Rattle.mufom_titxt.specs.Texts.{nothing_stated, line_cells, next_after, cells_of_lines, IsInside, AreInside, refusal_at, cells_after, txt_refusal}
use Rattle.mufom_titxt.specs.Texts.{txt_cells, TxtMap}
use Rattle.mufom_titxt.specs.Reading.{Place, line_stop, cells_read, places_read, stop_read}
use Rattle.mufom_titxt.proofs.RefusalLaws.{first_second, refusal-parts, cells_read-whole, places-addresses, cells_read-low}

-- lines of which none is wrong
pub record AreLines (next : Option ℕ) (lines : List (Option Line)) (cells : List Cell) : Type 0 where
  pub inner : List Line
  pub blanks : ℕ
  pub stated : lines ≡ map (λ line. Some line) (inner ++ end_line ∷ replicate blanks blank_line)
  pub inside : AreInside next inner
  pub given : cells ≡ cells_of_lines next inner

-- a line more
more_lines : (next : Option ℕ) (line : Line) (lines : List (Option Line)) (cells : List Cell) → IsInside next line
    → AreLines (next_after next line) lines cells → AreLines next (Some line ∷ lines) (line_cells next line ++ cells)
more_lines next line lines cells inside r = record {
  inner = line ∷ r.inner;
  blanks = r.blanks;
  stated = ap (λ (l : List (Option Line)). Some line ∷ l) r.stated;
  inside = (inside, r.inside);
  given = ap (λ (l : List Cell). line_cells next line ++ l) r.given;
}

-- what follows the end
pub after_end : (modulus count : ℕ) (next : Option ℕ) (lines : List (Option Line)) → stop_read modulus count (record { ended = true; next = next }) lines ≡ None
    → (k : ℕ) × (lines ≡ map (λ line. Some line) (replicate k blank_line)) × (cells_after (record { ended = true; next = next }) lines ≡ [])
after_end modulus count next [] e = (0, refl, refl)
after_end modulus count next (None ∷ lines) e = absurd (cc e)
after_end modulus count next (Some blank_line ∷ lines) e =
    let r = after_end modulus (suc count) next lines e in
    (suc r.0, ap (λ (l : List (Option Line)). Some blank_line ∷ l) r.1, r.2)
after_end modulus count next (Some (address_line address) ∷ lines) e = absurd (cc e)
after_end modulus count next (Some (byte_line bytes) ∷ lines) e = absurd (cc e)
after_end modulus count next (Some end_line ∷ lines) e = absurd (cc e)

-- lines of which none is wrong by itself
pub before_end : (modulus count : ℕ) (next : Option ℕ) (lines : List (Option Line))
    → stop_read modulus count (record { ended = false; next = next }) lines ≡ None
    → AreLines next lines (cells_after (record { ended = false; next = next }) lines)
before_end modulus count next [] e = absurd (cc e)
before_end modulus count next (None ∷ lines) e = absurd (cc e)
before_end modulus count next (Some blank_line ∷ lines) e = more_lines next blank_line lines _ tt (before_end modulus (suc count) next lines e)
before_end modulus count next (Some (address_line address) ∷ lines) e =
    more_lines next (address_line address) lines _ tt (before_end modulus (suc count) (Some address) lines e)
before_end modulus count None (Some (byte_line bytes) ∷ lines) e = absurd (cc e)
before_end modulus count (Some at) (Some (byte_line bytes) ∷ lines) e =
    more_lines (Some at) (byte_line bytes) lines _ tt
    (before_end modulus (suc count) (Some (at + length bytes)) lines
    (later (line_stop modulus (record { ended = false; next = Some at }) (Some (byte_line bytes))) e)) where
      later : (stop : Option TxtReason)
          → (option_map (refusal_at (suc count)) stop or_else stop_read modulus (suc count)
          (record { ended = false; next = Some (at + length bytes) }) lines) ≡ None
          → stop_read modulus (suc count) (record { ended = false; next = Some (at + length bytes) }) lines ≡ None
      later None e = e
      later (Some reason) e = absurd (cc e)
before_end modulus count next (Some end_line ∷ lines) e =
    let r = after_end modulus (suc count) next lines e in
    record { inner = []; blanks = r.0; stated = ap (λ (l : List (Option Line)). Some end_line ∷ l) r.1; inside = tt; given = r.2 }

-- no address has two bytes if none gets a second one
none_twice : (places : List Place) (taken : List ℕ) → first_second taken places ≡ None → first_twice taken (map (λ (place : Place). place.1) places) ≡ None
none_twice [] taken e = refl
none_twice (place ∷ places) taken e = by_case (none_twice places (place.1 ∷ taken)) (has_number taken place.1) e where
  by_case : (first_second (place.1 ∷ taken) places ≡ None → first_twice (place.1 ∷ taken) (map (λ (p : Place). p.1) places) ≡ None)
      → (had : Bool) → (if had then Some (refusal_at place.0 (Twice place.1)) else first_second (place.1 ∷ taken) places) ≡ None
      → (if had then Some (loaded_twice place.1) else first_twice (place.1 ∷ taken) (map (λ (p : Place). p.1) places)) ≡ None
  by_case later true e = absurd (cc e)
  by_case later false e = later e

-- both are none
parts_none : (a b : Option TxtRefusal) → (a or_else b) ≡ None → (a ≡ None) × (b ≡ None)
parts_none None b e = (refl, e)
parts_none (Some x) b e = absurd (cc e)

-- the text of which nothing is wrong
pub accepted_is_map : (text : List ℕ) (width : ℕ) → txt_refusal text width ≡ None → TxtMap text width (txt_cells text)
accepted_is_map text width e =
    let lines : List (Option Line) = map line_of (lines_of text) in
    let modulus : ℕ = 2 ^ width in
    let parts = parts_none (first_second [] (places_read modulus 0 nothing_stated lines)) (stop_read modulus 0 nothing_stated lines)
    (sym (refusal-parts modulus lines 0 nothing_stated []) ∙ e) in
    let r = before_end modulus 0 None lines parts.1 in
    let whole : cells_read modulus nothing_stated lines ≡ txt_cells text = cells_read-whole modulus lines 0 nothing_stated parts.1 in
    record {
      lines = r.inner;
      blanks = r.blanks;
      stated = r.stated;
      inside = r.inside;
      given = r.given;
      below = subst (λ (cells : List Cell). All (λ a. a < 2 ^ width) (cell_addresses cells)) whole (cells_read-low modulus lines nothing_stated);
      once = ap (first_twice []) (ap cell_addresses (sym whole) ∙ sym (places-addresses modulus lines 0 nothing_stated))
          ∙ none_twice (places_read modulus 0 nothing_stated lines) [] parts.0;
    }
