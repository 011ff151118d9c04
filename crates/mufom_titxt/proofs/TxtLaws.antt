-- What is read of a text, and what is wrong with it.
use Rattle.std.proofs.Common.{◌≡◌, ℕ, ◌^◌, ◌<◌, ◌≤◌, List, [], map, Option, Some, None, Result, Err, refl, sym, ◌∙◌, ap, subst, arith}
use Rattle.std.specs.List.{Contains}
use Rattle.std.proofs.lemmas.List.Elements.{All-contains}
use Rattle.mufom_place.specs.Facts.{◌or_else◌}
use Rattle.mufom_meaning.specs.declared.located.Run.{Run}
use Rattle.mufom_meaning.specs.AddressMap.{Cell, AreRunsOf}
use Rattle.mufom_meaning.specs.Facts.{LocateFact, loaded_twice}
use Rattle.mufom_meaning.specs.Walk.{first_twice}
use Rattle.mufom_image_bytes.specs.Chunks.{cell_addresses}
use Rattle.mufom_image_bytes.specs.Images.{AreLow, IsRefusal}
use Rattle.mufom_image_bytes.specs.Stops.{fact_of}
use Rattle.mufom_image_bytes.specs.declared.refusal.LoadRefusal.{LoadRefusal}
use Rattle.mufom_image_bytes.specs.declared.refusal.LoadRefusal.TheVariants as refusals
use Rattle.mufom_image_bytes.specs.declared.stop.ImageStop.{ImageStop}
use Rattle.mufom_image_bytes.specs.declared.stop.ImageStop.TheVariants as stops
use Rattle.mufom_refusals.specs.declared.text.TxtReason.TheVariants.{Twice}
use Rattle.mufom_refusals.specs.declared.text.TxtRefusal.{TxtRefusal}
use Rattle.mufom_titxt.specs.declared.refusal.TxtStop.{TxtStop}
use Rattle.mufom_titxt.specs.declared.refusal.TxtStop.TheVariants as answers
use Rattle.mufom_titxt.specs.Twice.{NamesTwice}
use Rattle.mufom_titxt.specs.Lines.{Line, line_of, lines_of}
use Rattle.mufom_titxt.specs.Texts.{nothing_stated, refusal_at, refusal_after, txt_refusal, IsTxtOf}
use Rattle.mufom_titxt.specs.Reading.{Place, cells_read, places_read, stop_read, second_line}
use Rattle.mufom_titxt.proofs.RefusalLaws.{first_second, refusal-parts, cells_read-whole, places-addresses, second-none, second-some, cells_read-low}
use Rattle.mufom_titxt.proofs.RefusalLaws.{twice-names}

module _ (text : List ℕ) (width modulus : ℕ) (same : modulus ≡ 2 ^ width) (cells : List Cell)
    (read : cells ≡ cells_read modulus nothing_stated (map line_of (lines_of text))) where
  abbrev lines : List (Option Line)
  lines = map line_of (lines_of text)

  abbrev places : List Place
  places = places_read modulus 0 nothing_stated lines

  -- the addresses of what is read
  addresses : map (λ (place : Place). place.1) (places_read modulus 0 nothing_stated (map line_of (lines_of text))) ≡ cell_addresses cells
  addresses = places-addresses modulus lines 0 nothing_stated ∙ ap cell_addresses (sym read)

  pub read_is_low : modulus ≤ 2 ^ 64 → AreLow cells
  read_is_low most a there =
      let P : List Cell → Type 0 = λ these. Contains (cell_addresses these) a in
      let below : a < modulus = All-contains (λ (x : ℕ). x < modulus) (cell_addresses (cells_read modulus nothing_stated lines)) a
      (cells_read-low modulus lines nothing_stated) (subst P read there) in
      omega (arith, below, most)

  -- what is wrong, by its parts
  refusal_is : txt_refusal text width ≡ (first_second [] (places_read modulus 0 nothing_stated (map line_of (lines_of text)))
      or_else stop_read modulus 0 nothing_stated (map line_of (lines_of text)))
  refusal_is = ap (λ m. refusal_after m 0 nothing_stated [] lines) (sym same) ∙ refusal-parts modulus lines 0 nothing_stated []

  -- if no address has two bytes, the line that stopped the reading is wrong
  pub refused_by_stop : first_twice [] (cell_addresses cells) ≡ None
      → txt_refusal text width ≡ stop_read modulus 0 nothing_stated (map line_of (lines_of text))
  refused_by_stop once = refusal_is
      ∙ ap (λ o. o or_else stop_read modulus 0 nothing_stated lines) (second-none places [] (ap (first_twice []) addresses ∙ once))

  -- if one has, it is wrong at its second one
  pub refused_by_twice : (a : ℕ) → first_twice [] (cell_addresses cells) ≡ Some (loaded_twice a)
      → txt_refusal text width ≡ Some (refusal_at (second_line a 0 (places_read modulus 0 nothing_stated (map line_of (lines_of text)))) (Twice a))
  refused_by_twice a twice = refusal_is
      ∙ ap (λ o. o or_else stop_read modulus 0 nothing_stated lines) (second-some places [] a (ap (first_twice []) addresses ∙ twice))

  -- if nothing stopped it either, the text is one of these runs
  pub accepted_text : (runs : List Run) → first_twice [] (cell_addresses cells) ≡ None
      → None ≡ stop_read modulus 0 nothing_stated (map line_of (lines_of text)) → AreRunsOf cells runs → IsTxtOf text width runs
  accepted_text runs once whole rows = record {
    accepted = refused_by_stop once ∙ sym whole;
    rows = subst (λ these. AreRunsOf these runs) (read ∙ cells_read-whole modulus lines 0 nothing_stated (sym whole)) rows;
  }

-- ---- the stop that names an address with two bytes

or_none : (o : Option LocateFact) → (o or_else None) ≡ o
or_none None = refl
or_none (Some fact) = refl

-- a refusal of bytes names such an address
pub refusal_names : (cells : List Cell) (refusal : ImageStop) (stop : LoadRefusal) → AreLow cells → refusal ≡ stops.Refused stop
    → IsRefusal cells None refusal → NamesTwice (fact_of stop)
refusal_names cells refusal stop low is h =
    let P : ImageStop → Type 0 = λ r. IsRefusal cells None r in
    let stopped : IsRefusal cells None (stops.Refused stop) = subst P is h in
    let named = twice-names (cell_addresses cells) [] (fact_of stop) (sym (or_none (first_twice [] (cell_addresses cells))) ∙ stopped low) in
    record { address = named.0; same = named.1 }

-- no other stop does
pub names_only : (stop : LoadRefusal) → NamesTwice (fact_of stop) → ((a : ℕ) → stop ≡ refusals.Twice a → ⊥) → ⊥
names_only (refusals.Counter section) h other = cc h.same
names_only (refusals.Field section address) h other = cc h.same
names_only (refusals.Outside section address) h other = cc h.same
names_only (refusals.Overflow section address kind size value) h other = cc h.same
names_only (refusals.Twice address) h other = other address refl

-- a refusal in an answer
pub refused_same : (r s : TxtRefusal) → ◌≡◌ {A = Result (List Run) TxtStop} (Err (answers.Refused r)) (Err (answers.Refused s)) → r ≡ s
refused_same r s e = cc e
