-- The entries of a stream: what further bytes change, and that there is one way to read them.
use Rattle.std.proofs.Common.{◌≡◌, ℕ, zero, suc, ◌+◌, ◌<◌, ◌≤◌, ◌∙◌, sym, ap, refl, Bool, true, false, List, [], ◌∷◌, ◌++◌, length, take, drop, if◌then◌else◌}
use Rattle.std.proofs.Common.{◌&&◌, ◌==◌, nat_eq, Option, Some, None, option_map, subst, length-drop, arith}
use Rattle.std.specs.List.{ends_with, find}
use Rattle.std.proofs.lemmas.Bool.{eqb-true}
use Rattle.std.proofs.lemmas.List.{drop-append-le, length-take, take-append-le}
use Rattle.mufom_archive.specs.declared.entry.Entry.{Entry}
use Rattle.mufom_archive.specs.Entries.{AreEntries, entries_from, entry_at, entry_of, entry_then, is_header, next_offset, size_in}

-- an entry by the parts of its header
pub entry_is : (offset size : ℕ) (header label : List ℕ) → true ≡ is_header header → Some size ≡ size_in (take 10 (drop 48 header)) → label ≡ take 16 header
    → Some (record { offset = offset; start = offset + 60; end = offset + 60 + size; label = label }) ≡ entry_of offset header
entry_is offset size header label whole sized labelled =
    let F : Bool → Option ℕ → List ℕ → Option Entry = λ b s l. if b
    then option_map (λ n. record { offset = offset; start = offset + 60; end = offset + 60 + n; label = l }) s else None in
    λ i. F (whole i) (sized i) (labelled i)

-- what an entry says of its header
pub record IsEntryOf (at : ℕ) (header : List ℕ) (e : Entry) : Type 0 where
  pub whole : length header ≡ 60
  pub offset : e.offset ≡ at
  pub start : e.start ≡ at + 60
  pub order : e.start ≤ e.end

entry_made : (at : ℕ) (header : List ℕ) (e : Entry) (long ends : Bool) → (length header == 60) ≡ long → (size : Option ℕ)
    → (if (long && ends) then option_map {U = Entry}
    (λ n. record { offset = at; start = at + 60; end = at + 60 + n; label = take 16 header }) size else None) ≡ Some e
    → IsEntryOf at header e
entry_made at header e true true whole (Some n) is =
    let made : record { offset = at; start = at + 60; end = at + 60 + n; label = take 16 header } ≡ e = cc in
    let starts : at + 60 ≡ e.start = ap (λ (x : Entry). x.start) made in
    let ends : at + 60 + n ≡ e.end = ap (λ (x : Entry). x.end) made in
    record {
      whole = eqb-true (length header) 60 whole;
      offset = sym (ap (λ (x : Entry). x.offset) made);
      start = sym starts;
      order = omega (
        arith,
        starts,
        ends,
      );
    }
entry_made at header e true true whole None is = absurd (cc)
entry_made at header e true false whole size is = absurd (cc)
entry_made at header e false ends whole size is = absurd (cc)

pub entry_parts : (at : ℕ) (header : List ℕ) (e : Entry) → entry_of at header ≡ Some e → IsEntryOf at header e
entry_parts at header e is = entry_made at header e (length header == 60) (ends_with nat_eq header (96 ∷ 10 ∷ [])) refl (size_in (take 10 (drop 48 header))) is

-- fewer bytes than a header has are none
short_made : (at : ℕ) (header : List ℕ) (long ends : Bool) → (length header == 60) ≡ long → (size : Option ℕ) → length header < 60
    → (if (long && ends) then option_map {U = Entry}
    (λ n. record { offset = at; start = at + 60; end = at + 60 + n; label = take 16 header }) size else None) ≡ None
short_made at header true ends whole size short = absurd (omega (arith, eqb-true (length header) 60 whole))
short_made at header false ends whole size short = refl

pub entry_short : (at : ℕ) (header : List ℕ) → length header < 60 → entry_of at header ≡ None
entry_short at header short = short_made at header (length header == 60) (ends_with nat_eq header (96 ∷ 10 ∷ [])) refl
    (size_in (take 10 (drop 48 header))) short

-- a header that is in the bytes stays when more follow
pub header_stays : (bytes more : List ℕ) (at : ℕ) → at + 60 ≤ length bytes → take 60 (drop at (bytes ++ more)) ≡ take 60 (drop at bytes)
header_stays bytes more at fits =
    let inside : at ≤ length bytes = omega arith in
    let room : 60 ≤ length (drop at bytes) = omega (arith, length-drop at bytes) in
    rw drop-append-le (take-append-le 60 (drop at bytes) more room)

-- where an entry is read, its header is in the bytes
pub header_inside : (bytes : List ℕ) (at : ℕ) (e : Entry) → entry_at bytes at ≡ Some e → at + 60 ≤ length bytes
header_inside bytes at e is =
    let whole = (entry_parts at (take 60 (drop at bytes)) e is).whole in
    omega (arith, whole, length-take 60 (drop at bytes), length-drop at bytes)

pub entry_stays : (bytes more : List ℕ) (at : ℕ) (e : Entry) → entry_at bytes at ≡ Some e → entry_at (bytes ++ more) at ≡ Some e
entry_stays bytes more at e is = ap (entry_of at) (header_stays bytes more at (header_inside bytes at e is)) ∙ is

pub entries_stay : (bytes more : List ℕ) (at : ℕ) (es : List Entry) (next : ℕ) → AreEntries bytes at es next → AreEntries (bytes ++ more) at es next
entries_stay bytes more at [] next found = found
entries_stay bytes more at (e ∷ es) next found = (entry_stays bytes more at e found.0, entries_stay bytes more (next_offset e) es next found.1)

pub entries_grow : (bytes : List ℕ) (at : ℕ) (es : List Entry) (next : ℕ) (e : Entry) → AreEntries bytes at es next → entry_at bytes next ≡ Some e
    → AreEntries bytes at (es ++ e ∷ []) (next_offset e)
entries_grow bytes at [] next e here is = (ap (entry_at bytes) here ∙ is, refl)
entries_grow bytes at (x ∷ es) next e found is = (found.0, entries_grow bytes (next_offset x) es next e found.1 is)

-- an entry that was found among those of the bytes has its header in them
pub found_entry : (p : Entry → Bool) (bytes : List ℕ) (at : ℕ) (es : List Entry) (next : ℕ) (t : Entry) → AreEntries bytes at es next → find p es ≡ Some t
    → (place : ℕ) × (entry_at bytes place ≡ Some t)
found_entry p bytes at [] next t found is = absurd (cc)
found_entry p bytes at (e ∷ es) next t found is = by_case (p e) is (found_entry p bytes (next_offset e) es next t found.1) where
  by_case : (b : Bool) → (if b then Some e else find p es) ≡ Some t → (find p es ≡ Some t → (place : ℕ) × (entry_at bytes place ≡ Some t))
      → (place : ℕ) × (entry_at bytes place ≡ Some t)
  by_case true here further = (at, found.0 ∙ here)
  by_case false here further = further here

-- its contents begin inside the bytes, and so does its header
pub starts_inside : (p : Entry → Bool) (bytes : List ℕ) (at : ℕ) (es : List Entry) (next : ℕ) (t : Entry) → AreEntries bytes at es next → find p es ≡ Some t
    → t.start ≤ length bytes
starts_inside p bytes at es next t found is =
    let entry = found_entry p bytes at es next t found is in
    omega (arith, header_inside bytes entry.0 t entry.1, (entry_parts entry.0 (take 60 (drop entry.0 bytes)) t entry.1).start)

pub offset_inside : (p : Entry → Bool) (bytes : List ℕ) (at : ℕ) (es : List Entry) (next : ℕ) (t : Entry) → AreEntries bytes at es next → find p es ≡ Some t
    → t.offset < length bytes
offset_inside p bytes at es next t found is =
    let entry = found_entry p bytes at es next t found is in
    omega (arith, header_inside bytes entry.0 t entry.1, (entry_parts entry.0 (take 60 (drop entry.0 bytes)) t entry.1).offset)

-- there is one way to read entries
pub one_reading : (bytes : List ℕ) (at : ℕ) (es fs : List Entry) (m n : ℕ) → AreEntries bytes at es m → entry_at bytes m ≡ None
    → AreEntries bytes at fs n → entry_at bytes n ≡ None → (es ≡ fs) × (m ≡ n)
one_reading bytes at [] [] m n a last b end = (refl, sym a ∙ b)
one_reading bytes at [] (f ∷ fs) m n a last b end = let none = ap (entry_at bytes) a ∙ last in let some = b.0 in absurd (cc)
one_reading bytes at (e ∷ es) [] m n a last b end = let none = ap (entry_at bytes) b ∙ end in let some = a.0 in absurd (cc)
one_reading bytes at (e ∷ es) (f ∷ fs) m n a last b end =
    let one = a.0 in let two = b.0 in let same : e ≡ f = cc in
    let rest = one_reading bytes (next_offset e) es fs m n a.1 last (subst (λ (x : Entry). AreEntries bytes (next_offset x) fs n) (sym same) b.1) end in
    ((λ i. same i ∷ rest.0 i), rest.1)

-- the entries from an offset on, by the function: each header is in the bytes, and the next one is at least 60 bytes further, so there
-- are fewer entries than bytes
pub entries_are : (fuel : ℕ) (bytes : List ℕ) (at : ℕ) (es : List Entry) (next : ℕ) → AreEntries bytes at es next → entry_at bytes next ≡ None
    → length bytes ≤ at + fuel → es ≡ entries_from fuel bytes at
entries_are zero bytes at [] next found last enough = refl
entries_are zero bytes at (e ∷ es) next found last enough = absurd (omega (arith, enough, header_inside bytes at e found.0))
entries_are (suc fuel) bytes at [] next found last enough =
    ap (λ o. entry_then o (λ e. entries_from fuel bytes (next_offset e))) (sym (ap (entry_at bytes) found ∙ last))
entries_are (suc fuel) bytes at (e ∷ es) next found last enough =
    let parts = entry_parts at (take 60 (drop at bytes)) e found.0 in
    let start = parts.start in let order = parts.order in
    let rest = entries_are fuel bytes (next_offset e) es next found.1 last (omega (arith, enough, start, order)) in
    ap (λ l. e ∷ l) rest ∙ ap (λ o. entry_then o (λ e. entries_from fuel bytes (next_offset e))) (sym found.0)
