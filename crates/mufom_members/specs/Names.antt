-- The names of the modules of an archive.
use Rattle.std.specs.Prelude.{◌≡◌, ℕ, Bool, ◌&&◌, is_some, List, length, map, slice_get, Option, Some, None, if◌then◌else◌}
use Rattle.mufom_archive.specs.declared.entry.Entry.{Entry}
use Rattle.mufom_archive.specs.declared.listing.Listing.{Listing}
use Rattle.mufom_archive.specs.Entries.{begins_archive, entries_from, long_names}
use Rattle.mufom_archive.specs.Listings.{Member, members_of}
use Rattle.mufom_archive.specs.Names.{is_member, name_of}

-- the name of an entry, if there is one, given the table of long names
abbrev pub entry_name : List ℕ → Option Entry → Option (List ℕ)
entry_name table None = None
entry_name table (Some e) = name_of table e.label

-- the name of the entry at a position of a listing, if there is one
abbrev pub name_at : Option Listing → ℕ → Option (List ℕ)
name_at None position = None
name_at (Some l) position = entry_name l.names.items (slice_get l.entries position)

-- the names of the members of an archive, in the order of its entries
abbrev pub names_of_entries : List ℕ → List Entry → List (List ℕ)
names_of_entries bytes entries = map (λ (m : Member). m.name) (members_of (long_names bytes entries) entries)

-- The names of the members that a file has if it is an archive; None if it is not. They are those of a file that is accepted.
abbrev pub member_names : List ℕ → Option (List (List ℕ))
member_names bytes = if begins_archive bytes then Some (names_of_entries bytes (entries_from (length bytes) bytes 8)) else None

-- the entry is a member with a name
abbrev pub is_named : List ℕ → Entry → Bool
is_named table e = is_member e.label && is_some (name_of table e.label)

-- These are the names at the positions of the listing of an archive; there are none if the file is not an archive.
abbrev pub AreNames : Option Listing → Option (List (List ℕ)) → Type 0
AreNames listing None = listing ≡ None
AreNames listing (Some names) = (position : ℕ) → name_at listing position ≡ slice_get names position
