-- Listings: there is one, and the position of its first error.
use Rattle.std.proofs.Common.{◌≡◌, ◌<◌, ◌≤◌, ℕ, Bool, true, false, not, cond, nat_le, nat_lt, List, [], ◌∷◌, length, take, drop, zero, suc, ◌+◌}
use Rattle.std.proofs.Common.{◌&&◌, Option, Some, None, sym, ◌∙◌, ap, refl, if◌then◌else◌, length-drop, arith}
use Rattle.std.specs.Option.{is_none, is_some}
use Rattle.std.specs.List.{before_first, find, position, position_or_len}
use Rattle.std.proofs.lemmas.Bool.Decides.{nat_tests}
use Rattle.std.proofs.lemmas.List.Sums.{prefix_len-le-length}
use Rattle.mufom_archive.specs.declared.entry.Entry.{Entry}
use Rattle.mufom_archive.specs.declared.listing.BadArchive.{BadArchive}
use Rattle.mufom_archive.specs.Entries.{AreEntries, contents_of_table, entry_at, entry_of, lacks_header, long_names, next_offset, offset_after, room_for_names}
use Rattle.mufom_archive.specs.Entries.{size_of_table, table_among}
use Rattle.mufom_archive.specs.Listings.{IsBadHeader, IsListing, Member, first_error, first_nameless, is_refused, members_of, nameless_in}
use Rattle.mufom_archive.specs.Laws.{HaveListing, HaveOneListing}
use Rattle.mufom_archive.specs.Reading.{Knows}
use Rattle.mufom_archive.proofs.EntryLaws.{entries_are, entry_parts, entry_short, one_reading}
use Rattle.std.proofs.lemmas.List.{length-take}

pub one_listing : HaveOneListing
one_listing bytes ms ns a b one two =
    let same = one_reading bytes 8 one.entries two.entries one.next two.next one.found one.last two.found two.last in
    let listed : List Entry → List Member
    = λ es. members_of (long_names bytes es) (before_first (is_refused (long_names bytes es) (length bytes)) es) in
    let refused : List Entry → ℕ → Option BadArchive
    = λ es n. first_error (length bytes) n (find (is_refused (long_names bytes es) (length bytes)) es) in
    let errors : refused one.entries one.next ≡ refused two.entries two.next = λ i. refused (same.0 i) (same.1 i) in
    (one.listed ∙ ap listed same.0 ∙ sym two.listed, one.refused ∙ errors ∙ sym two.refused)

-- no element passes
pub none_passes : {X : Type 0} (p : X → Bool) (xs : List X) → position p xs ≡ None → length xs ≡ position_or_len p xs
none_passes p xs none = by_test (nat_lt (position_or_len p xs) (length xs)) refl none where
  by_test : (b : Bool) → nat_lt (position_or_len p xs) (length xs) ≡ b → cond b (Some (position_or_len p xs)) None ≡ None
      → length xs ≡ position_or_len p xs
  by_test true is some = absurd (cc)
  by_test false is some = let within = prefix_len-le-length (λ x. not (p x)) xs in grind (arith, nat_tests)

-- what a reader knows of a whole stream is its listing
pub listing_known : (stream : List ℕ) (size : ℕ) (entries : List Entry) (next : ℕ) (header : List ℕ) (table : Option Entry) (names : List ℕ)
    → Knows stream size entries next header table names
    → IsListing stream (members_of names (before_first (is_refused names size) entries)) (first_error size next (find (is_refused names size) entries))
listing_known stream size entries next header table names k =
    let named : names ≡ long_names stream entries = k.named ∙ ap (contents_of_table stream) k.first in
    record {
      entries = entries;
      next = next;
      found = k.found;
      last = ap (entry_of next) (sym k.pending) ∙ k.last;
      listed = λ i. members_of (named i) (before_first (is_refused (named i) (k.counted i)) entries);
      refused = λ i. first_error (k.counted i) next (find (is_refused (named i) (k.counted i)) entries);
    }

-- what a reader knows of the bytes after the entries
module _ (stream : List ℕ) (size : ℕ) (entries : List Entry) (next : ℕ) (header : List ℕ) (table : Option Entry) (names : List ℕ)
    (k : Knows stream size entries next header table names) where
  bad_at : (place : Option ℕ) → place ≡ (if nat_le (next + 60) (length stream) then Some next else None) → IsBadHeader stream place
  bad_at place is = record { entries = entries; next = next; found = k.found; last = ap (entry_of next) (sym k.pending) ∙ k.last; place = is }

  pub header_complete : 60 ≤ length header → IsBadHeader stream (Some next)
  header_complete whole = bad_at (Some next) (by_test (nat_le (next + 60) (length stream)) refl) where
    by_test : (b : Bool) → nat_le (next + 60) (length stream) ≡ b → Some next ≡ (if b then Some next else None)
    by_test true is = refl
    by_test false is = absurd (grind (
      arith,
      nat_tests,
      whole,
      ap length k.pending,
      length-take 60 (drop next stream),
      length-drop next stream,
    ))

  pub header_short : length header < 60 → IsBadHeader stream None
  header_short short = bad_at None (by_test (nat_le (next + 60) (length stream)) refl) where
    by_test : (b : Bool) → nat_le (next + 60) (length stream) ≡ b → ◌≡◌ {A = Option ℕ} None (if b then Some next else None)
    by_test false is = refl
    by_test true is = absurd (grind (
      arith,
      nat_tests,
      short,
      ap length k.pending,
      length-take 60 (drop next stream),
      length-drop next stream,
    ))

-- ---- the first member that lacks its long name

pub offset_after_is : (bytes : List ℕ) (at : ℕ) (es : List Entry) (next : ℕ) → AreEntries bytes at es next → offset_after at es ≡ next
offset_after_is bytes at [] next found = found
offset_after_is bytes at (e ∷ es) next found = offset_after_is bytes (next_offset e) es next found.1

-- whether there is what is no header after the entries
pub header_lacks : (bytes : List ℕ) (entries : List Entry) (next : ℕ) (place : Option ℕ) → AreEntries bytes 8 entries next → entry_at bytes next ≡ None
    → IsBadHeader bytes place → is_some place ≡ lacks_header bytes (offset_after 8 entries)
header_lacks bytes entries next place found last h =
    ap is_some (h.place ∙ ap (λ n. if nat_le (n + 60) (length bytes) then Some n else None) same)
    ∙ by_size (nat_le (next + 60) (length bytes))
    ∙ ap (λ (o : Option Entry). nat_le (next + 60) (length bytes) && is_none o) (sym last)
    ∙ ap (lacks_header bytes) (sym (offset_after_is bytes 8 entries next found)) where
      same : h.next ≡ next
      same = (one_reading bytes 8 h.entries entries h.next next h.found h.last found last).1

      by_size : (b : Bool) → is_some (if b then Some next else None) ≡ (b && true)
      by_size true = refl
      by_size false = refl

-- the room for names, if there is no table
pub room_without : (stream : List ℕ) (size : ℕ) (entries : List Entry) (next : ℕ) (header : List ℕ) (table : Option Entry) (names : List ℕ)
    → Knows stream size entries next header table names → table ≡ None → (place : Option ℕ) → IsBadHeader stream place → (b : Bool) → is_some place ≡ b
    → size_of_table None b ≡ room_for_names stream entries
room_without stream size entries next header table names k none place h b is =
    let lacks = header_lacks stream entries next place k.found (ap (entry_of next) (sym k.pending) ∙ k.last) h in
    let first : None ≡ table_among entries = sym none ∙ k.first in
    λ i. size_of_table (first i) ((sym is ∙ lacks) i)

pub nameless_known : (stream : List ℕ) (size : ℕ) (entries : List Entry) (next : ℕ) (header : List ℕ) (table : Option Entry) (names : List ℕ)
    → Knows stream size entries next header table names → (room : Option ℕ) → room ≡ room_for_names stream entries
    → first_nameless entries room ≡ nameless_in stream
nameless_known stream size entries next header table names k room is =
    let same = entries_are (length stream) stream 8 entries next k.found (ap (entry_of next) (sym k.pending) ∙ k.last) (omega arith) in
    λ i. first_nameless (same i) ((is ∙ ap (room_for_names stream) same) i)

-- ---- all bytes have a listing

-- the entries from an offset on, and where they stop
pub record AreAll (bytes : List ℕ) (at : ℕ) : Type 0 where
  pub entries : List Entry
  pub next : ℕ
  pub found : AreEntries bytes at entries next
  pub last : entry_at bytes next ≡ None

pub none_left : (bytes : List ℕ) (at : ℕ) → length bytes ≤ at → entry_at bytes at ≡ None
none_left bytes at past = entry_short at (take 60 (drop at bytes)) (omega (arith, length-take 60 (drop at bytes), length-drop at bytes))

all_entries : (fuel : ℕ) (bytes : List ℕ) (at : ℕ) → length bytes ≤ at + fuel → AreAll bytes at
all_entries zero bytes at enough = record { entries = []; next = at; found = refl; last = none_left bytes at (omega arith) }
all_entries (suc fuel) bytes at enough = by_entry (entry_at bytes at) refl (λ next. all_entries fuel bytes next) where
  by_entry : (o : Option Entry) → entry_at bytes at ≡ o → ((next : ℕ) → length bytes ≤ next + fuel → AreAll bytes next) → AreAll bytes at
  by_entry None is further = record { entries = []; next = at; found = refl; last = is }
  by_entry (Some e) is further =
      let parts = entry_parts at (take 60 (drop at bytes)) e is in
      let start = parts.start in let order = parts.order in
      let rest = further (next_offset e) (omega arith) in
      record { entries = e ∷ rest.entries; next = rest.next; found = (is, rest.found); last = rest.last }

pub each_listing : HaveListing
each_listing bytes =
    let all = all_entries (length bytes) bytes 8 (omega arith) in
    let names = long_names bytes all.entries in
    let refused = is_refused names (length bytes) in (
      members_of names (before_first refused all.entries),
      first_error (length bytes) all.next (find refused all.entries),
      record { entries = all.entries; next = all.next; found = all.found; last = all.last; listed = refl; refused = refl },
    )
