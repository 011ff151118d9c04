-- The loads of the module of a location are plain: sections are set, counters are set to numbers, and literals are short.
use Rattle.std.proofs.Common.{◌≡◌, ℕ, zero, suc, ◌+◌, ◌<◌, ◌≤◌, inl, inr, List, [], ◌∷◌, ◌++◌, length, drop, Option, Some, None, false, refl, ap, subst, arith}
use Rattle.std.specs.Prelude.{flat_map, nat_le}
use Rattle.std.specs.List.{list_any, enumerate_from}
use Rattle.std.proofs.lemmas.List.{length-take}
use Rattle.mufom_numbers.specs.declared.limits.TheConstants.{MOST_STRING_BYTES}
use Rattle.mufom_expr.specs.Tree.{number}
use Rattle.mufom_sections.specs.declared.section.Section.{Section}
use Rattle.mufom_loads.specs.declared.load.Item.TheVariants.{Literal, Field}
use Rattle.mufom_loads.specs.declared.load.Load.{Load}
use Rattle.mufom_loads.specs.declared.load.Load.TheVariants.{SetSection, SetPc, One, Repeat}
use Rattle.mufom_module.specs.Contents.{load_any, any_item, placed_from}
use Rattle.mufom_module.specs.Defects.{counts_of, names_outside, has_bad_place, misplaces_counter, loads_nowhere, is_long_literal, has_bad_size}
use Rattle.mufom_module.specs.Defects.{has_other_counter, counter_of}
use Rattle.mufom_module.specs.declared.module.Parts.{Parts}
use Rattle.mufom_meaning.specs.declared.located.Run.{Run}
use Rattle.mufom_meaning.specs.Absolute.{chunks_within, chunks, run_within, loads_of_run, loads_of_bytes, loads_between, with_section}
use Rattle.mufom_meaning.specs.Absolute.{section_loads_at, section_loads}
use Rattle.mufom_numbers.proofs.Choices.{two_false, not_lt, not_le}
use Rattle.mufom_meaning.proofs.Members.{In, map-In, flat_map-In}

-- a load of such a module, by the number of its sections
abbrev pub IsPlainLoad : ℕ → Load → Type 0
IsPlainLoad k (SetSection n) = n < k
IsPlainLoad k (SetPc n t) = (n < k) × ((a : ℕ) × (t ≡ number a))
IsPlainLoad k (One (Literal bytes)) = length bytes ≤ MOST_STRING_BYTES
IsPlainLoad k (One (Field kind size t)) = ⊥
IsPlainLoad k (Repeat count items) = ⊥

chunk_short : (size n : ℕ) (xs p : List ℕ) → In p (chunks_within n size xs) → length p ≤ size
chunk_short size zero xs p h = absurd h
chunk_short size (suc n) [] p h = absurd h
chunk_short size (suc n) (x ∷ xs) p (inl e) = let long = length-take size (x ∷ xs) in let same = ap length e in omega (arith, long, same)
chunk_short size (suc n) (x ∷ xs) p (inr h) = chunk_short size n (drop size (x ∷ xs)) p h

module _ (k n : ℕ) (less : n < k) where
  row_plain : (row : Run) (load : Load) → In load (loads_of_run n row) → IsPlainLoad k load
  row_plain row load (inl e) = subst (IsPlainLoad k) e (less, (row.address, refl))
  row_plain row load (inr h) =
      let there = map-In (λ chunk. One (Literal chunk)) load (chunks MOST_STRING_BYTES row.bytes) h in
      subst (IsPlainLoad k) there.2 (chunk_short MOST_STRING_BYTES (length row.bytes) row.bytes there.0 there.1)

  run_plain : (row : Run) (bytes : List ℕ) (load : Load) → In load (loads_of_bytes n row bytes) → IsPlainLoad k load
  run_plain row [] load h = absurd h
  run_plain row (byte ∷ bytes) load h = row_plain row load h

  between_plain : (runs : List Run) (from to : ℕ) (load : Load) → In load (loads_between n runs from to) → IsPlainLoad k load
  between_plain runs from to load h =
      let there = flat_map-In (λ run. let row = run_within from to run in loads_of_bytes n row row.bytes) load runs h in
      run_plain (run_within from to there.0) (run_within from to there.0).bytes load there.2

  with_plain : (loads : List Load) → ((load : Load) → In load loads → IsPlainLoad k load) → (load : Load) → In load (with_section n loads) → IsPlainLoad k load
  with_plain [] all load h = absurd h
  with_plain (first ∷ loads) all load (inl e) = subst (IsPlainLoad k) e less
  with_plain (first ∷ loads) all load (inr h) = all load h

  at_plain : (runs : List Run) (section : Section) (o : Option ℕ) (load : Load) → In load (section_loads_at n runs section o) → IsPlainLoad k load
  at_plain runs section None load h = absurd h
  at_plain runs section (Some base) load h = with_plain (loads_between n runs base (base + section.size)) (between_plain runs base (base + section.size)) load h

numbered_below : (k : ℕ) (sections : List Section) (t : ℕ × Section) → In t (enumerate_from k sections) → t.0 < k + length sections
numbered_below k [] t h = absurd h
numbered_below k (s ∷ sections) t (inl e) = let same : k ≡ t.0 = ap (λ (x : ℕ × Section). x.0) e in omega (arith, same)
numbered_below k (s ∷ sections) t (inr h) = let later = numbered_below (k + 1) sections t h in omega (arith, later)

-- each load is plain
pub loads_plain : (runs : List Run) (sections : List Section) (load : Load) → In load (flat_map (section_loads runs) (enumerate_from 0 sections))
    → IsPlainLoad (length sections) load
loads_plain runs sections load h =
    let there = flat_map-In (section_loads runs) load (enumerate_from 0 sections) h in
    let below = numbered_below 0 sections there.0 there.1 in
    at_plain (length sections) there.0.0 (omega (arith, below)) runs there.0.1 there.0.1.base load there.2

-- ---- what follows of a plain load

pub plain_place : (m : Parts) (load : Load) → IsPlainLoad (length m.sections) load → has_bad_place (counts_of m) load ≡ false
plain_place m (SetSection n) h = two_false (nat_le (length m.sections) n) false (not_le (length m.sections) n h) refl
plain_place m (SetPc n t) h = two_false (nat_le (length m.sections) n) (names_outside (counts_of m) t) (not_le (length m.sections) n h.0)
    (ap (names_outside (counts_of m)) h.1.1)
plain_place m (One (Literal bytes)) h = refl
plain_place m (One (Field kind size t)) h = absurd h
plain_place m (Repeat count items) h = absurd h

pub plain_counter : (k : ℕ) (p : Option ℕ × Load) → IsPlainLoad k p.1 → misplaces_counter p ≡ false
plain_counter k p h = by_load p.0 p.1 h where
  by_load : (current : Option ℕ) (load : Load) → IsPlainLoad k load → load_any (has_other_counter (counter_of current load)) load ≡ false
  by_load current (SetSection n) h = refl
  by_load current (SetPc n t) h = ap (has_other_counter (Some n)) h.1.1
  by_load current (One (Literal bytes)) h = refl
  by_load current (One (Field kind size t)) h = absurd h
  by_load current (Repeat count items) h = absurd h

pub plain_short : (k : ℕ) (load : Load) → IsPlainLoad k load → any_item is_long_literal load ≡ false
plain_short k (SetSection n) h = refl
plain_short k (SetPc n t) h = refl
plain_short k (One (Literal bytes)) h = not_lt MOST_STRING_BYTES (length bytes) h
plain_short k (One (Field kind size t)) h = absurd h
plain_short k (Repeat count items) h = absurd h

pub plain_size : (k : ℕ) (load : Load) → IsPlainLoad k load → any_item has_bad_size load ≡ false
plain_size k (SetSection n) h = refl
plain_size k (SetPc n t) h = refl
plain_size k (One (Literal bytes)) h = refl
plain_size k (One (Field kind size t)) h = absurd h
plain_size k (Repeat count items) h = absurd h

pub placed-In : (current : Option ℕ) (loads : List Load) (p : Option ℕ × Load) → In p (placed_from current loads) → In p.1 loads
placed-In current [] p h = absurd h
placed-In current (load ∷ loads) p (inl e) = inl (ap (λ (x : Option ℕ × Load). x.1) e)
placed-In current (load ∷ loads) p (inr h) = inr (placed-In _ loads p h)

-- ---- no load comes before a section is set

somewhere : (n : ℕ) (loads : List Load) → list_any loads_nowhere (placed_from (Some n) loads) ≡ false
somewhere n [] = refl
somewhere n (SetSection m ∷ loads) = somewhere m loads
somewhere n (SetPc m t ∷ loads) = somewhere n loads
somewhere n (One item ∷ loads) = somewhere n loads
somewhere n (Repeat count items ∷ loads) = somewhere n loads

with_somewhere : (n : ℕ) (own rest : List Load) → list_any loads_nowhere (placed_from None rest) ≡ false
    → list_any loads_nowhere (placed_from None (with_section n own ++ rest)) ≡ false
with_somewhere n [] rest h = h
with_somewhere n (load ∷ own) rest h = somewhere n (load ∷ (own ++ rest))

at_somewhere : (n : ℕ) (runs : List Run) (section : Section) (o : Option ℕ) (rest : List Load) → list_any loads_nowhere (placed_from None rest) ≡ false
    → list_any loads_nowhere (placed_from None (section_loads_at n runs section o ++ rest)) ≡ false
at_somewhere n runs section None rest h = h
at_somewhere n runs section (Some base) rest h = with_somewhere n (loads_between n runs base (base + section.size)) rest h

pub all_somewhere : (runs : List Run) (sections : List (ℕ × Section))
    → list_any loads_nowhere (placed_from None (flat_map (section_loads runs) sections)) ≡ false
all_somewhere runs [] = refl
all_somewhere runs (t ∷ sections) = at_somewhere t.0 runs t.1 t.1.base (flat_map (section_loads runs) sections) (all_somewhere runs sections)
