-- What it means that a reader has read a stream of bytes.
use Rattle.std.specs.Prelude.{◌≡◌, ℕ, ◌-◌, List, ◌++◌, length, take, drop, if◌then◌else◌, Option, Some, None}
use Rattle.mufom_archive.specs.declared.entry.Entry.{Entry}
use Rattle.mufom_archive.specs.declared.archive.Archive.{Archive}
use Rattle.mufom_archive.specs.declared.listing.Listing.{Listing}
use Rattle.mufom_archive.specs.Names.{is_long_names}
use Rattle.mufom_archive.specs.Entries.{AreEntries, entry_of, table_among, contents_of_table}
use Rattle.mufom_archive.specs.Listings.{Member, members_of}

-- A reader knows of a stream: its length; the entries whose headers are in it; the offset of the next header, and the bytes of it
-- that are there, which are no header of an entry; and the first table of long names with its contents so far.
pub record Knows (stream : List ℕ) (size : ℕ) (entries : List Entry) (next : ℕ) (header : List ℕ) (table : Option Entry) (names : List ℕ) : Type 0 where
  pub counted : size ≡ length stream
  pub found : AreEntries stream 8 entries next
  pub pending : header ≡ take 60 (drop next stream)
  pub last : entry_of next header ≡ None
  pub first : table ≡ table_among entries
  pub named : names ≡ contents_of_table stream table

-- The reader has read the stream.
abbrev pub HasRead : Archive → List ℕ → Type 0
HasRead a stream = Knows stream a.length a.entries a.next a.header.items a.table a.names.items

-- the members of a listing
abbrev pub members_in : Listing → List Member
members_in l = members_of l.names.items l.entries

-- the bytes of the table of long names, given those before and further bytes of the stream, which begin at this offset
abbrev pub names_after : Option Entry → ℕ → List ℕ → List ℕ → List ℕ
names_after None at names bytes = names
names_after (Some table) at names bytes = names ++ take (table.end - at) bytes

-- the first table of long names once a further entry is known
abbrev pub table_with : Option Entry → Entry → Option Entry
table_with (Some table) e = Some table
table_with None e = if is_long_names e.label then Some e else None

-- the number of bytes that a reader has read, and the entries whose headers are among them
abbrev pub length_of : Archive → ℕ
length_of a = a.length

abbrev pub entries_of : Archive → List Entry
entries_of a = a.entries
