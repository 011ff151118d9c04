-- Laws about archives.
use Rattle.std.specs.Prelude.{◌≡◌, ℕ, ◌<◌, ◌≤◌, List, length, Option, None, option_map, IfSome}
use Rattle.std.specs.List.{AllByRecursion, before_first, find}
use Rattle.mufom_archive.specs.declared.entry.Entry.{Entry}
use Rattle.mufom_archive.specs.declared.listing.BadArchive.{BadArchive}
use Rattle.mufom_archive.specs.Entries.{BeginsArchive, long_names}
use Rattle.mufom_archive.specs.Listings.{IsListing, Member, is_refused, members_of}
use Rattle.mufom_archive.specs.Written.{IsArchive}

-- Bytes have only one listing.
abbrev pub HaveOneListing : Type 0
HaveOneListing = (bytes : List ℕ) (ms ns : List Member) (a b : Option BadArchive) → IsListing bytes ms a → IsListing bytes ns b → (ms ≡ ns) × (a ≡ b)

-- All bytes have a listing.
abbrev pub HaveListing : Type 0
HaveListing = (bytes : List ℕ) → (ms : List Member) × (error : Option BadArchive) × IsListing bytes ms error

-- the contents of a member are inside the archive
abbrev pub IsInside : ℕ → Member → Type 0
IsInside size m = (m.start ≤ m.end) × (m.end ≤ size)

-- The members of a listing and its error are inside the archive.
abbrev pub ListingsAreInside : Type 0
ListingsAreInside = (bytes : List ℕ) (ms : List Member) (error : Option BadArchive) → IsListing bytes ms error
    → AllByRecursion (IsInside (length bytes)) ms × IfSome error (λ e. e.offset < length bytes)

-- An archive that is written out has the members that its entries are. Only a long name can be wrong in it.
abbrev pub ArchivesAreRead : Type 0
ArchivesAreRead = (bytes : List ℕ) (es : List Entry) → IsArchive bytes es
    → IsListing bytes (members_of (long_names bytes es) (before_first (is_refused (long_names bytes es) (length bytes)) es))
    (option_map (λ e. record { offset = e.offset }) (find (is_refused (long_names bytes es) (length bytes)) es))

-- Bytes that begin as an archive and whose listing has no error are an archive that is written out, and the members are those that
-- its entries are.
abbrev pub OnlyArchivesAreRead : Type 0
OnlyArchivesAreRead = (bytes : List ℕ) (ms : List Member) → BeginsArchive bytes → IsListing bytes ms None
    → (es : List Entry) × IsArchive bytes es × (ms ≡ members_of (long_names bytes es) es)
