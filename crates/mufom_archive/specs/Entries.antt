-- The entries of an archive: a header of 60 bytes, the contents, and a byte of padding if their size is odd.
use Rattle.std.specs.Prelude.{◌≡◌, ℕ, zero, suc, ◌+◌, ◌-◌, ◌%◌, Bool, true, false, ◌&&◌, List, [], ◌∷◌, length, take, drop, nat_eq, nat_le, nat_lt, ◌==◌}
use Rattle.std.specs.Prelude.{Option, Some, None, is_none, option_map, if◌then◌else◌}
use Rattle.std.specs.Char.{is_ascii_digit}
use Rattle.std.specs.List.{ends_with, find, list_all, prefix_len}
use Rattle.std.specs.Str.{bytes_eq}
use Rattle.std.specs.Str.Parse.{digits_value}
use Rattle.mufom_archive.specs.declared.entry.Entry.{Entry}
use Rattle.mufom_archive.specs.Names.{is_blank, is_long_names}

-- the line with which an archive begins: !<arch>
abbrev pub signature : List ℕ
signature = 33 ∷ 60 ∷ 97 ∷ 114 ∷ 99 ∷ 104 ∷ 62 ∷ 10 ∷ []

-- the bytes are those of an archive
abbrev pub BeginsArchive : List ℕ → Type 0
BeginsArchive bytes = take 8 bytes ≡ signature

abbrev pub begins_archive : List ℕ → Bool
begins_archive bytes = bytes_eq (take 8 bytes) signature

-- the size that a field states: decimal digits, at least one, and then blanks
abbrev pub size_in : List ℕ → Option ℕ
size_in field = let digits = prefix_len is_ascii_digit field in
    if nat_lt 0 digits && list_all is_blank (drop digits field) then Some (digits_value 10 (take digits field)) else None

-- the bytes are as many as a header has, and end as a header does
abbrev pub is_header : List ℕ → Bool
is_header bytes = (length bytes == 60) && ends_with nat_eq bytes (96 ∷ 10 ∷ [])

-- The entry with this header, which is at this offset: a label of 16 bytes, 32 bytes that are not read, a size of 10 bytes, and
-- the bytes 60 0A. None if these bytes are not a header.
abbrev pub entry_of : ℕ → List ℕ → Option Entry
entry_of offset header = if is_header header
    then option_map (λ size. record { offset = offset; start = offset + 60; end = offset + 60 + size; label = take 16 header })
    (size_in (take 10 (drop 48 header)))
    else None

-- the entry whose header is at this offset of the bytes
abbrev pub entry_at : List ℕ → ℕ → Option Entry
entry_at bytes at = entry_of at (take 60 (drop at bytes))

-- the bytes at this offset are as many as a header has, and are none
abbrev pub lacks_header : List ℕ → ℕ → Bool
lacks_header bytes at = nat_le (at + 60) (length bytes) && is_none (entry_at bytes at)

-- the offset of the next header: after the contents, and after the padding if their size is odd
abbrev pub next_offset : Entry → ℕ
next_offset e = e.end + (e.end - e.start) % 2

-- From an offset on, the bytes have these headers, one after the other. The header of a further entry would be at `next`. The
-- contents of the last entry may end after the bytes do.
abbrev pub AreEntries : List ℕ → ℕ → List Entry → ℕ → Type 0
AreEntries bytes at [] next = at ≡ next
AreEntries bytes at (e ∷ es) next = (entry_at bytes at ≡ Some e) × AreEntries bytes (next_offset e) es next

-- the offset after entries, the first of which is at this offset
abbrev pub offset_after : ℕ → List Entry → ℕ
offset_after at [] = at
offset_after at (e ∷ es) = offset_after (next_offset e) es

-- an entry, if there is one, and the others after it
abbrev pub entry_then : Option Entry → (Entry → List Entry) → List Entry
entry_then None others = []
entry_then (Some e) others = e ∷ others e

-- The entries whose headers the bytes have from an offset on, one after the other, at most `count` of them. If `count` is the number
-- of bytes, they are all.
abbrev pub entries_from : ℕ → List ℕ → ℕ → List Entry
entries_from zero bytes at = []
entries_from (suc count) bytes at = entry_then (entry_at bytes at) (λ e. entries_from count bytes (next_offset e))

-- the contents of an entry
abbrev pub contents_of : List ℕ → Entry → List ℕ
contents_of bytes e = take (e.end - e.start) (drop e.start bytes)

-- the first table of long names
abbrev pub table_among : List Entry → Option Entry
table_among entries = find (λ e. is_long_names e.label) entries

-- the contents of that table; empty if there is none
abbrev pub contents_of_table : List ℕ → Option Entry → List ℕ
contents_of_table bytes None = []
contents_of_table bytes (Some e) = contents_of bytes e

abbrev pub long_names : List ℕ → List Entry → List ℕ
long_names bytes entries = contents_of_table bytes (table_among entries)

-- the size of the first table of long names, if there is one; otherwise 0, if it is known that none follows
abbrev pub size_of_table : Option Entry → Bool → Option ℕ
size_of_table (Some e) none_follows = Some (e.end - e.start)
size_of_table None true = Some 0
size_of_table None false = None

-- The size that the table of long names has at most, whatever follows the bytes, given the entries whose headers are in them. No entry
-- follows what is no header. None if a table may follow.
abbrev pub room_for_names : List ℕ → List Entry → Option ℕ
room_for_names bytes entries = size_of_table (table_among entries) (lacks_header bytes (offset_after 8 entries))
