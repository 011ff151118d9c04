-- An archive that is written out is read back.
use Rattle.std.proofs.Common.{◌≡◌, ◌<◌, ◌≤◌, ◌+◌, ◌-◌, ◌%◌, ◌⊎◌, inl, inr, ℕ, suc, Bool, true, false, cond, ◌&&◌, ◌==◌, nat_eq, nat_lt, if◌then◌else◌}
use Rattle.std.proofs.Common.{List, [], ◌∷◌, ◌++◌, length, take, drop, Option, Some, None, option_map, sym, ◌∙◌, ap, subst, refl, append_assoc}
use Rattle.std.proofs.Common.{length-append, eq-eqb, eqb-true, arith}
use Rattle.std.specs.Char.{is_ascii_digit}
use Rattle.std.specs.Cmp.Lexicographic.{pointwise}
use Rattle.std.specs.List.{find, list_all, prefix_len}
use Rattle.std.specs.Str.Parse.{digits_value}
use Rattle.std.proofs.lemmas.Bool.Decides.{nat_tests}
use Rattle.std.proofs.lemmas.List.{drop_at, take_at}
use Rattle.mufom_archive.specs.declared.entry.Entry.{Entry}
use Rattle.mufom_archive.specs.declared.listing.BadArchive.{BadArchive}
use Rattle.mufom_archive.specs.Names.{is_blank}
use Rattle.mufom_archive.specs.Entries.{AreEntries, entry_at, entry_of, is_header, long_names, next_offset, signature, size_in}
use Rattle.mufom_archive.specs.Listings.{first_error, is_refused}
use Rattle.mufom_archive.specs.Laws.{ArchivesAreRead}
use Rattle.mufom_archive.specs.Written.{AreWritten, IsHeader, IsWritten}
use Rattle.mufom_archive.proofs.EntryLaws.{entry_is}
use Rattle.mufom_archive.proofs.ListingLaws.{none_left}

-- no digit is blank
blanks_first : (blanks : List ℕ) → list_all is_blank blanks ≡ true → prefix_len is_ascii_digit blanks ≡ 0
blanks_first [] all = refl
blanks_first (b ∷ blanks) all = by_case (is_blank b) refl all where
  by_case : (t : Bool) → is_blank b ≡ t → (t && list_all is_blank blanks) ≡ true → prefix_len is_ascii_digit (b ∷ blanks) ≡ 0
  by_case true is rest = let code : b ≡ 32 = eqb-true b 32 is in
      ap (λ c. cond (is_ascii_digit c) (1 + prefix_len is_ascii_digit blanks) 0) code
  by_case false is rest = absurd (cc)

-- the digits of a field
digits_first : (digits blanks : List ℕ) → list_all is_ascii_digit digits ≡ true → list_all is_blank blanks ≡ true
    → prefix_len is_ascii_digit (digits ++ blanks) ≡ length digits
digits_first [] blanks decimal blank = blanks_first blanks blank
digits_first (d ∷ digits) blanks decimal blank = by_case (is_ascii_digit d) refl decimal (λ all. digits_first digits blanks all blank) where
  by_case : (t : Bool) → is_ascii_digit d ≡ t → (t && list_all is_ascii_digit digits) ≡ true
      → (list_all is_ascii_digit digits ≡ true → prefix_len is_ascii_digit (digits ++ blanks) ≡ length digits)
      → cond t (1 + prefix_len is_ascii_digit (digits ++ blanks)) 0 ≡ suc (length digits)
  by_case true is rest further = let more = further rest in omega arith
  by_case false is rest further = absurd (cc)

-- the size that digits and blanks state
size_read : (digits blanks : List ℕ) → 0 < length digits → list_all is_ascii_digit digits ≡ true → list_all is_blank blanks ≡ true
    → size_in (digits ++ blanks) ≡ Some (digits_value 10 digits)
size_read digits blanks some decimal blank =
    let of : ℕ → Option ℕ
    = λ n. if nat_lt 0 n && list_all is_blank (drop n (digits ++ blanks)) then Some (digits_value 10 (take n (digits ++ blanks))) else None in
    let parts : Bool → Bool → List ℕ → Option ℕ = λ a b ds. if a && b then Some (digits_value 10 ds) else None in
    let positive : nat_lt 0 (length digits) ≡ true = grind (arith, nat_tests) in
    let blanks_are : list_all is_blank (drop (length digits) (digits ++ blanks)) ≡ true
    = ap (list_all is_blank) (drop_at digits blanks (length digits) refl) ∙ blank in
    let value : take (length digits) (digits ++ blanks) ≡ digits = take_at digits blanks (length digits) refl in
    let first : of (prefix_len is_ascii_digit (digits ++ blanks)) ≡ of (length digits) = ap of (digits_first digits blanks decimal blank) in
    let whole : of (length digits) ≡ parts true true digits = λ i. parts (positive i) (blanks_are i) (value i) in
    first ∙ whole

pub header_length : (label : List ℕ) (size : ℕ) (header : List ℕ) → IsHeader label size header → length header ≡ 60
header_length label size header h =
    let tail : List ℕ = 96 ∷ 10 ∷ [] in
    let two : length tail ≡ 2 = refl in
    omega (
      arith,
      ap length h.made,
      length-append label (h.unread ++ (h.digits ++ (h.blanks ++ tail))),
      length-append h.unread (h.digits ++ (h.blanks ++ tail)),
      length-append h.digits (h.blanks ++ tail),
      length-append h.blanks tail,
      h.label_length,
      h.unread_length,
      h.field_length,
    )

-- a header is read as its entry
header_read : (offset : ℕ) (label : List ℕ) (size : ℕ) (header : List ℕ) → IsHeader label size header
    → entry_of offset header ≡ Some (record { offset = offset; start = offset + 60; end = offset + 60 + size; label = label })
header_read offset label size header h =
    let tail : List ℕ = 96 ∷ 10 ∷ [] in
    let front : List ℕ = label ++ h.unread in
    let field : List ℕ = h.digits ++ h.blanks in
    let whole = header_length label size header h in
    let forty_eight : length front ≡ 48 = omega (arith, length-append label h.unread, h.label_length, h.unread_length) in
    let ten : length field ≡ 10 = omega (arith, length-append h.digits h.blanks, h.field_length) in
    let fifty_eight : length (front ++ field) ≡ 58 = omega (arith, length-append front field) in
    let split : header ≡ front ++ (field ++ tail)
    = h.made ∙ sym (append_assoc label h.unread (h.digits ++ (h.blanks ++ tail))) ∙ ap (λ l. front ++ l) (sym (append_assoc h.digits h.blanks tail)) in
    let split_again : header ≡ (front ++ field) ++ tail = split ∙ sym (append_assoc front field tail) in
    let label_is : label ≡ take 16 header
    = sym (ap (take 16) h.made ∙ take_at label (h.unread ++ (h.digits ++ (h.blanks ++ tail))) 16 h.label_length) in
    let field_is : take 10 (drop 48 header) ≡ field
    = ap (λ l. take 10 (drop 48 l)) split ∙ ap (take 10) (drop_at front (field ++ tail) 48 forty_eight) ∙ take_at field tail 10 ten in
    let size_is : Some size ≡ size_in (take 10 (drop 48 header))
    = ap (λ n. Some n) h.value ∙ sym (size_read h.digits h.blanks h.some h.decimal h.blank) ∙ ap size_in (sym field_is) in
    let left : length header - 2 ≡ 58 = omega arith in
    let end_is : tail ≡ drop (length header - 2) header
    = sym (ap (λ n. drop n header) left ∙ ap (drop 58) split_again ∙ drop_at (front ++ field) tail 58 fifty_eight) in
    let ends : true ≡ pointwise nat_eq tail (drop (length header - 2) header) = ap (pointwise nat_eq tail) end_is in
    let long : true ≡ (length header == 60) = sym (eq-eqb (length header) 60 whole) in
    let header_is : true ≡ is_header header = λ i. long i && ends i in
    sym (entry_is offset size header label header_is size_is label_is)

-- what written entries are read as
record AreReadTo (bytes : List ℕ) (at : ℕ) (es : List Entry) : Type 0 where
  next : ℕ
  found : AreEntries bytes at es next
  past : length bytes ≤ next

-- no entry is written in no bytes
none_written : (at : ℕ) (es : List Entry) → AreWritten at es [] → es ≡ []
none_written at [] written = refl
none_written at (e ∷ es) written =
    let w = written.1 in
    let whole = header_length e.label (length w.contents) w.header w.header_is in
    absurd (omega (arith, ap length w.made, length-append w.header (w.contents ++ (w.padding ++ written.0))))

-- a written entry is read at its place
entry_read : (before body rest : List ℕ) (at : ℕ) (e : Entry) → length before ≡ at → IsWritten at e body rest → entry_at (before ++ body) at ≡ Some e
entry_read before body rest at e here w =
    let whole = header_length e.label (length w.contents) w.header w.header_is in
    let header : take 60 (drop at (before ++ body)) ≡ w.header
    = ap (take 60) (drop_at before body at here ∙ w.made) ∙ take_at w.header (w.contents ++ (w.padding ++ rest)) 60 whole in
    let ends : at + 60 + length w.contents ≡ e.end = omega (arith, w.start, w.end) in
    let same : record { offset = at; start = at + 60; end = at + 60 + length w.contents; label = e.label } ≡ e
    = λ i. record { offset = sym w.offset i; start = sym w.start i; end = ends i; label = e.label } in
    ap (entry_of at) header ∙ header_read at e.label (length w.contents) w.header w.header_is ∙ ap (λ x. Some x) same

-- the entries after one that is written
after_written : (before body rest : List ℕ) (at : ℕ) (e : Entry) (es : List Entry) → length before ≡ at → IsWritten at e body rest
    → AreWritten (next_offset e) es rest
    → ((front : List ℕ) (start : ℕ) → length front ≡ start → AreWritten start es rest → AreReadTo (front ++ rest) start es)
    → AreReadTo (before ++ body) at (e ∷ es)
after_written before body rest at e es here w written further = by_padding w.padding_is where
  by_padding : (length w.padding ≡ length w.contents % 2) ⊎ ((w.padding ≡ []) × (rest ≡ [])) → AreReadTo (before ++ body) at (e ∷ es)
  by_padding (inl padded) =
      let whole = header_length e.label (length w.contents) w.header w.header_is in
      let start = w.start in let end = w.end in
      let entry : List ℕ = w.header ++ (w.contents ++ w.padding) in
      let size : e.end - e.start ≡ length w.contents = omega arith in
      let odd : (e.end - e.start) % 2 ≡ length w.contents % 2 = ap (λ n. n % 2) size in
      let total : length (before ++ entry) ≡ next_offset e
      = omega (arith, length-append before entry, length-append w.header (w.contents ++ w.padding), length-append w.contents w.padding) in
      let joined : entry ++ rest ≡ body
      = append_assoc w.header (w.contents ++ w.padding) rest ∙ ap (λ l. w.header ++ l) (append_assoc w.contents w.padding rest) ∙ sym w.made in
      let same : (before ++ entry) ++ rest ≡ before ++ body = append_assoc before entry rest ∙ ap (λ l. before ++ l) joined in
      let more : AreReadTo (before ++ body) (next_offset e) es
      = subst (λ (l : List ℕ). AreReadTo l (next_offset e) es) same (further (before ++ entry) (next_offset e) total written) in
      record { next = more.next; found = (entry_read before body rest at e here w, more.found); past = more.past }
  by_padding (inr cut) =
      let whole = header_length e.label (length w.contents) w.header w.header_is in
      let start = w.start in let end = w.end in
      let none : es ≡ [] = none_written (next_offset e) es (subst (λ (l : List ℕ). AreWritten (next_offset e) es l) cut.1 written) in
      let total : length (before ++ body) ≤ next_offset e
      = omega (
        arith,
        length-append before body,
        ap length w.made,
        length-append w.header (w.contents ++ (w.padding ++ rest)),
        length-append w.contents (w.padding ++ rest),
        length-append w.padding rest,
        ap length cut.0,
        ap length cut.1,
      ) in
      subst (λ (l : List Entry). AreReadTo (before ++ body) at (e ∷ l)) (sym none)
      (record { next = next_offset e; found = (entry_read before body rest at e here w, refl); past = total })

written_from : (es : List Entry) (before body : List ℕ) (at : ℕ) → length before ≡ at → AreWritten at es body → AreReadTo (before ++ body) at es
written_from [] before body at here written = record {
  next = at;
  found = refl;
  past = omega (arith, length-append before body, ap length written);
}
written_from (e ∷ es) before body at here written =
    after_written before body written.0 at e es here written.1 written.2 (λ front start. written_from es front written.0 start)

error_is : (size next : ℕ) (o : Option Entry) → size ≤ next
    → ◌≡◌ {A = Option BadArchive} (option_map (λ e. record { offset = e.offset }) o) (first_error size next o)
error_is size next (Some e) past = refl
error_is size next None past = by_test (nat_lt next size) refl where
  by_test : (b : Bool) → nat_lt next size ≡ b → ◌≡◌ {A = Option BadArchive} None (if b then Some (record { offset = next }) else None)
  by_test true is = absurd (grind (arith, nat_tests))
  by_test false is = refl

pub read_back : ArchivesAreRead
read_back bytes es archive =
    let same : signature ++ archive.0 ≡ bytes = sym archive.1 in
    let read : AreReadTo bytes 8 es = subst (λ (l : List ℕ). AreReadTo l 8 es) same (written_from es signature archive.0 8 refl archive.2) in
    record {
      entries = es;
      next = read.next;
      found = read.found;
      last = none_left bytes read.next read.past;
      listed = refl;
      refused = error_is (length bytes) read.next (find (is_refused (long_names bytes es) (length bytes)) es) read.past;
    }
