-- Only an archive that is written out is read without an error.
use Rattle.std.proofs.Common.{◌≡◌, ◌<◌, ◌≤◌, ◌+◌, ◌-◌, ◌%◌, ◌⊎◌, inl, inr, ℕ, suc, Bool, true, false, not, cond, ◌&&◌, ◌==◌, nat_eq, nat_lt}
use Rattle.std.proofs.Common.{if◌then◌else◌, List, [], ◌∷◌, ◌++◌, length, take, drop, Option, Some, None, option_map, sym, ◌∙◌, ap, subst, refl}
use Rattle.std.proofs.Common.{append_assoc, length-drop, eqb-true, arith}
use Rattle.std.specs.Char.{is_ascii_digit}
use Rattle.std.specs.Option.{is_none}
use Rattle.std.specs.List.{before_first, ends_with, find, list_all, position_or_len, prefix_len}
use Rattle.std.specs.Str.Parse.{digits_value}
use Rattle.std.proofs.lemmas.Bool.Decides.{nat_tests}
use Rattle.std.proofs.lemmas.List.{drop-drop, drop_all, length-take, take-append-drop, take_all}
use Rattle.std.proofs.lemmas.List.Sums.{prefix_len-le-length}
use Rattle.std.proofs.lemmas.Slice.Eq.{bytes_eq-Decides}
use Rattle.mufom_archive.specs.declared.entry.Entry.{Entry}
use Rattle.mufom_archive.specs.declared.listing.BadArchive.{BadArchive}
use Rattle.mufom_archive.specs.Names.{is_blank, is_member, name_of}
use Rattle.mufom_archive.specs.Entries.{AreEntries, entry_at, entry_of, is_header, long_names, next_offset, size_in}
use Rattle.mufom_archive.specs.Listings.{first_error, is_refused, members_of}
use Rattle.mufom_archive.specs.Laws.{OnlyArchivesAreRead}
use Rattle.mufom_archive.specs.Written.{AreWritten, IsHeader, IsPadding, IsWritten}
use Rattle.mufom_archive.proofs.EntryLaws.{entry_parts, header_inside}
use Rattle.mufom_archive.proofs.InsideLaws.{ends_inside}

-- the front of a list passes
front_passes : (p : ℕ → Bool) (xs : List ℕ) → list_all p (take (prefix_len p xs) xs) ≡ true
front_passes p [] = refl
front_passes p (x ∷ xs) = by_case (p x) refl (front_passes p xs) where
  by_case : (b : Bool) → p x ≡ b → list_all p (take (prefix_len p xs) xs) ≡ true → list_all p (take (cond b (1 + prefix_len p xs) 0) (x ∷ xs)) ≡ true
  by_case true is rest = let one : 1 + prefix_len p xs ≡ suc (prefix_len p xs) = omega arith in
      rw one (ap (λ b. b && list_all p (take (prefix_len p xs) xs)) is ∙ rest)
  by_case false is rest = refl

-- the parts of a field that states a size
record IsField (field : List ℕ) (size : ℕ) : Type 0 where
  digits : ℕ
  some : 0 < digits
  within : digits ≤ length field
  decimal : list_all is_ascii_digit (take digits field) ≡ true
  blank : list_all is_blank (drop digits field) ≡ true
  value : size ≡ digits_value 10 (take digits field)

field_made : (field : List ℕ) (size n : ℕ) (some blank : Bool) → n ≤ length field → list_all is_ascii_digit (take n field) ≡ true → nat_lt 0 n ≡ some
    → list_all is_blank (drop n field) ≡ blank → (if (some && blank) then Some (digits_value 10 (take n field)) else None) ≡ Some size → IsField field size
field_made field size n true true within decimal some blank is = record {
  digits = n;
  some = grind (arith, nat_tests);
  within = within;
  decimal = decimal;
  blank = blank;
  value = cc;
}
field_made field size n true false within decimal some blank is = absurd (cc)
field_made field size n false blank within decimal some rest is = absurd (cc)

field_parts : (field : List ℕ) (size : ℕ) → size_in field ≡ Some size → IsField field size
field_parts field size is =
    let n = prefix_len is_ascii_digit field in
    field_made field size n (nat_lt 0 n) (list_all is_blank (drop n field)) (prefix_len-le-length is_ascii_digit field)
    (front_passes is_ascii_digit field) refl refl is

-- the bytes of a header, in its parts
header_split : (header : List ℕ) (n : ℕ) → drop 58 header ≡ 96 ∷ 10 ∷ []
    → header ≡ take 16 header ++ (take 32 (drop 16 header) ++ (take n (take 10 (drop 48 header)) ++ (drop n (take 10 (drop 48 header)) ++ 96 ∷ 10 ∷ [])))
header_split header n end =
    let tail : List ℕ = 96 ∷ 10 ∷ [] in
    let field : List ℕ = take 10 (drop 48 header) in
    let last : drop 10 (drop 48 header) ≡ tail = drop-drop 10 48 header ∙ end in
    let third : drop 32 (drop 16 header) ≡ take n field ++ (drop n field ++ tail)
    = drop-drop 32 16 header ∙ sym (take-append-drop 10 (drop 48 header)) ∙ ap (λ l. field ++ l) last
    ∙ ap (λ l. l ++ tail) (sym (take-append-drop n field)) ∙ append_assoc (take n field) (drop n field) tail in
    sym (take-append-drop 16 header) ∙ ap (λ l. take 16 header ++ l) (sym (take-append-drop 32 (drop 16 header))
    ∙ ap (λ l. take 32 (drop 16 header) ++ l) third)

header_made : (header : List ℕ) (size : ℕ) → length header ≡ 60 → drop 58 header ≡ 96 ∷ 10 ∷ [] → size_in (take 10 (drop 48 header)) ≡ Some size
    → IsHeader (take 16 header) size header
header_made header size whole end is =
    let field : List ℕ = take 10 (drop 48 header) in
    let parts = field_parts field size is in
    let n = parts.digits in
    let within = parts.within in
    let ten : length field ≡ 10 = omega (arith, length-take 10 (drop 48 header), length-drop 48 header) in
    let front : length (take n field) ≡ n = omega (arith, length-take n field) in
    record {
      unread = take 32 (drop 16 header);
      digits = take n field;
      blanks = drop n field;
      made = header_split header n end;
      label_length = omega (arith, length-take 16 header);
      unread_length = omega (arith, length-take 32 (drop 16 header), length-drop 16 header);
      field_length = omega (arith, length-drop n field);
      some = omega (arith, parts.some);
      decimal = parts.decimal;
      blank = parts.blank;
      value = parts.value;
    }

header_is : (header : List ℕ) → is_header header ≡ true → (length header ≡ 60) × (drop 58 header ≡ 96 ∷ 10 ∷ [])
header_is header is = by_length (length header == 60) refl is where
  by_length : (b : Bool) → (length header == 60) ≡ b → (b && ends_with nat_eq header (96 ∷ 10 ∷ [])) ≡ true
      → (length header ≡ 60) × (drop 58 header ≡ 96 ∷ 10 ∷ [])
  by_length true long ends =
      let tail : List ℕ = 96 ∷ 10 ∷ [] in
      let whole = eqb-true (length header) 60 long in
      let left : length header - 2 ≡ 58 = omega arith in
      (whole, sym ((bytes_eq-Decides tail (drop (length header - 2) header)).0 ends ∙ ap (λ n. drop n header) left))
  by_length false long ends = absurd (cc)

written_made : (at : ℕ) (header : List ℕ) (e : Entry) (b : Bool) (size : Option ℕ) → is_header header ≡ b → size_in (take 10 (drop 48 header)) ≡ size
    → (if b then option_map {U = Entry} (λ n. record { offset = at; start = at + 60; end = at + 60 + n; label = take 16 header }) size else None) ≡ Some e
    → IsHeader e.label (e.end - e.start) header
written_made at header e true (Some n) whole sized is =
    let made : record { offset = at; start = at + 60; end = at + 60 + n; label = take 16 header } ≡ e = cc in
    let starts : at + 60 ≡ e.start = ap (λ (x : Entry). x.start) made in
    let ends : at + 60 + n ≡ e.end = ap (λ (x : Entry). x.end) made in
    let label : take 16 header ≡ e.label = ap (λ (x : Entry). x.label) made in
    let size : n ≡ e.end - e.start = omega arith in
    let parts = header_is header whole in
    let same : IsHeader (take 16 header) n header ≡ IsHeader e.label (e.end - e.start) header = λ i. IsHeader (label i) (size i) header in
    subst (λ (T : Type 0). T) same (header_made header n parts.0 parts.1 sized)
written_made at header e true None whole sized is = absurd (cc)
written_made at header e false size whole sized is = absurd (cc)

header_written : (at : ℕ) (header : List ℕ) (e : Entry) → entry_of at header ≡ Some e → IsHeader e.label (e.end - e.start) header
header_written at header e is = written_made at header e (is_header header) (size_in (take 10 (drop 48 header))) refl refl is

-- the padding that is there
padding_there : (n : ℕ) (xs : List ℕ) → n ≤ 1 → (length (take n xs) ≡ n) ⊎ ((take n xs ≡ []) × (drop n xs ≡ []))
padding_there n [] few = inr (take_all n [] (omega arith), drop_all n [] (omega arith))
padding_there n (x ∷ xs) few = inl (omega (arith, length-take n (x ∷ xs)))

entry_written : (bytes : List ℕ) (at : ℕ) (e : Entry) → entry_at bytes at ≡ Some e → e.end ≤ length bytes
    → IsWritten at e (drop at bytes) (drop (next_offset e) bytes)
entry_written bytes at e is within =
    let body : List ℕ = drop at bytes in
    let size = e.end - e.start in
    let inside = header_inside bytes at e is in
    let parts = entry_parts at (take 60 body) e is in
    let start = parts.start in let order = parts.order in
    let content : List ℕ = take size (drop 60 body) in
    let rest : List ℕ = drop size (drop 60 body) in
    let long : length content ≡ size = omega (arith, length-take size (drop 60 body), length-drop 60 body, length-drop at bytes) in
    let after : rest ≡ drop e.end bytes
    = ap (drop size) (drop-drop 60 at bytes) ∙ drop-drop size (at + 60) bytes
    ∙ ap (λ n. drop n bytes) (let total : at + 60 + size ≡ e.end = omega arith in total) in
    let next : drop (size % 2) rest ≡ drop (next_offset e) bytes = ap (drop (size % 2)) after ∙ drop-drop (size % 2) e.end bytes in
    let split : body ≡ take 60 body ++ (content ++ (take (size % 2) rest ++ drop (next_offset e) bytes))
    = sym (take-append-drop 60 body) ∙ ap (λ l. take 60 body ++ l) (sym (take-append-drop size (drop 60 body))
    ∙ ap (λ l. content ++ l) (sym (take-append-drop (size % 2) rest) ∙ ap (λ l. take (size % 2) rest ++ l) next)) in
    let same : ((length (take (size % 2) rest) ≡ size % 2) ⊎ ((take (size % 2) rest ≡ []) × (drop (size % 2) rest ≡ [])))
    ≡ IsPadding (length content) (take (size % 2) rest) (drop (next_offset e) bytes)
    = λ i. (length (take (size % 2) rest) ≡ sym long i % 2) ⊎ ((take (size % 2) rest ≡ []) × (next i ≡ [])) in
    record {
      header = take 60 body;
      contents = content;
      padding = take (size % 2) rest;
      made = split;
      offset = parts.offset;
      start = parts.start;
      end = omega arith;
      header_is = subst (λ (n : ℕ). IsHeader e.label n (take 60 body)) (sym long) (header_written at (take 60 body) e is);
      padding_is = subst (λ (T : Type 0). T) same (padding_there (size % 2) rest (omega arith));
    }

-- entries that are not refused are written
entries_written : (names : List ℕ) (bytes : List ℕ) (at : ℕ) (es : List Entry) (next : ℕ) → AreEntries bytes at es next → length bytes ≤ next
    → find (is_refused names (length bytes)) es ≡ None → AreWritten at es (drop at bytes)
entries_written names bytes at [] next found past none = let short : length bytes ≤ at = omega (arith, found) in drop_all at bytes short
entries_written names bytes at (e ∷ es) next found past none =
    by_case (is_refused names (length bytes) e) refl none (entries_written names bytes (next_offset e) es next found.1 past) where
      by_case : (b : Bool) → is_refused names (length bytes) e ≡ b → (if b then Some e else find (is_refused names (length bytes)) es) ≡ None
          → (find (is_refused names (length bytes)) es ≡ None → AreWritten (next_offset e) es (drop (next_offset e) bytes))
          → (rest : List ℕ) × IsWritten at e (drop at bytes) rest × AreWritten (next_offset e) es rest
      by_case true is rest further = absurd (cc)
      by_case false is rest further = (
        drop (next_offset e) bytes,
        entry_written bytes at e found.0 (ends_inside (length bytes) e (is_member e.label && is_none (name_of names e.label)) is),
        further rest,
      )

-- what comes before an entry that is not there
pub all_before : (p : Entry → Bool) (es : List Entry) → find p es ≡ None → before_first p es ≡ es
all_before p [] none = refl
all_before p (e ∷ es) none = by_case (p e) none (all_before p es) where
  by_case : (b : Bool) → (if b then Some e else find p es) ≡ None → (find p es ≡ None → before_first p es ≡ es)
      → take (cond (not b) (1 + position_or_len p es) 0) (e ∷ es) ≡ e ∷ es
  by_case true rest further = absurd (cc)
  by_case false rest further = let one : 1 + position_or_len p es ≡ suc (position_or_len p es) = omega arith in
      rw one (ap (λ l. e ∷ l) (further rest))

-- no error: no entry is refused, and the archive has ended
pub no_error : (size next : ℕ) (o : Option Entry) → ◌≡◌ {A = Option BadArchive} None (first_error size next o) → (o ≡ None) × (size ≤ next)
no_error size next (Some e) none = absurd (cc)
no_error size next None none = by_test (nat_lt next size) refl none where
  by_test : (b : Bool) → nat_lt next size ≡ b → ◌≡◌ {A = Option BadArchive} None (if b then Some (record { offset = next }) else None)
      → (◌≡◌ {A = Option Entry} None None) × (size ≤ next)
  by_test true is error = absurd (cc)
  by_test false is error = (refl, grind (arith, nat_tests))

pub only_archives : OnlyArchivesAreRead
only_archives bytes ms begins l =
    let names = long_names bytes l.entries in
    let refused = is_refused names (length bytes) in
    let none = no_error (length bytes) l.next (find refused l.entries) l.refused in (
      l.entries,
      (
        drop 8 bytes,
        sym (take-append-drop 8 bytes) ∙ ap (λ l. l ++ drop 8 bytes) begins,
        entries_written names bytes 8 l.entries l.next l.found none.1 none.0,
      ),
      l.listed ∙ ap (members_of names) (all_before refused l.entries none.0),
    )
