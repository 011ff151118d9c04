-- What an archive has: its members before the first error, and the first error.
use Rattle.std.specs.Prelude.{◌≡◌, ℕ, ◌+◌, Bool, false, ◌||◌, ◌&&◌, ◌==◌, List, length, nat_le, nat_lt, if◌then◌else◌, Option, Some, None, option_map, is_none}
use Rattle.std.specs.List.{filter_map, before_first, find}
use Rattle.mufom_archive.specs.declared.entry.Entry.{Entry}
use Rattle.mufom_archive.specs.declared.listing.BadArchive.{BadArchive}
use Rattle.mufom_archive.specs.Names.{begins_past, is_member, name_of}
use Rattle.mufom_archive.specs.Entries.{AreEntries, entries_from, entry_at, long_names, room_for_names}

-- a member: its name, and the offsets in the archive at which its contents start and end
pub record Member : Type 0 where
  pub name : List ℕ
  pub start : ℕ
  pub end : ℕ

-- An entry is refused, given the table of long names and the length of the archive: its contents end after the archive does, or
-- its long name begins past the end of the table.
abbrev pub is_refused : List ℕ → ℕ → Entry → Bool
is_refused table size e = nat_lt size e.end || (is_member e.label && is_none (name_of table e.label))

-- the member that an entry is, if it is one
abbrev pub member_of : List ℕ → Entry → Option Member
member_of table e = if is_member e.label then option_map (λ name. record { name = name; start = e.start; end = e.end }) (name_of table e.label) else None

abbrev pub members_of : List ℕ → List Entry → List Member
members_of table entries = filter_map (member_of table) entries

-- The first error: that of the first entry that is refused; or, if there is none, that of the bytes at `next`, which are no
-- header, unless the archive has ended there.
abbrev pub first_error : ℕ → ℕ → Option Entry → Option BadArchive
first_error size next (Some e) = Some (record { offset = e.offset })
first_error size next None = if nat_lt next size then Some (record { offset = next }) else None

-- These are the members of an archive before the first error, in their order, and the first error.
pub record IsListing (bytes : List ℕ) (members : List Member) (error : Option BadArchive) : Type 0 where
  pub entries : List Entry
  pub next : ℕ
  pub found : AreEntries bytes 8 entries next
  pub last : entry_at bytes next ≡ None
  pub listed : members ≡ members_of (long_names bytes entries) (before_first (is_refused (long_names bytes entries) (length bytes)) entries)
  pub refused : error ≡ first_error (length bytes) next (find (is_refused (long_names bytes entries) (length bytes)) entries)

-- The entries of the bytes are followed by as many bytes as a header has, which are none, and this is their offset; None if there are
-- fewer bytes.
pub record IsBadHeader (bytes : List ℕ) (header : Option ℕ) : Type 0 where
  pub entries : List Entry
  pub next : ℕ
  pub found : AreEntries bytes 8 entries next
  pub last : entry_at bytes next ≡ None
  pub place : header ≡ (if nat_le (next + 60) (length bytes) then Some next else None)

-- ---- errors that last, whatever follows the bytes

-- there is a place, and it is this offset
abbrev pub is_at : Option ℕ → ℕ → Bool
is_at None offset = false
is_at (Some at) offset = at == offset

-- the entry is a member, and its long name begins past the end of a table of long names of this size
abbrev pub lacks_name : ℕ → Entry → Bool
lacks_name size e = is_member e.label && begins_past size e.label

-- the offset of the first entry that lacks its name, given the size of the table of long names
abbrev pub first_nameless : List Entry → Option ℕ → Option ℕ
first_nameless entries None = None
first_nameless entries (Some size) = option_map (λ e. e.offset) (find (lacks_name size) entries)

-- the offset of the first member that lacks its long name, whatever follows the bytes
abbrev pub nameless_in : List ℕ → Option ℕ
nameless_in bytes = let entries = entries_from (length bytes) bytes 8 in first_nameless entries (room_for_names bytes entries)

-- the first member that lacks its long name, whatever follows the bytes, is at this offset
abbrev pub lacks_long_name : List ℕ → ℕ → Bool
lacks_long_name bytes offset = is_at (nameless_in bytes) offset
