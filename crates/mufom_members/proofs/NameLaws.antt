-- The names of the entries that are members, by their positions.
use Rattle.std.proofs.Common.{◌≡◌, ℕ, zero, suc, refl, Bool, true, false, ◌&&◌, is_some, if◌then◌else◌, List, [], ◌∷◌, filter, map, slice_get}
use Rattle.std.proofs.Common.{Option, Some, None, option_map}
use Rattle.std.specs.List.{cons_option}
use Rattle.mufom_archive.specs.declared.entry.Entry.{Entry}
use Rattle.mufom_archive.specs.Names.{is_member, name_of}
use Rattle.mufom_archive.specs.Listings.{Member, members_of}
use Rattle.mufom_members.specs.Names.{entry_name, is_named}

abbrev the_name : Member → List ℕ
the_name m = m.name

abbrev made : Entry → Bool → Option (List ℕ) → Option Member
made e member name = if member then option_map (λ n. record { name = n; start = e.start; end = e.end }) name else None

pub names_are : (table : List ℕ) (entries : List Entry) (position : ℕ)
    → entry_name table (slice_get (filter (is_named table) entries) position) ≡ slice_get (map the_name (members_of table entries)) position
names_are table [] position = refl
names_are table (e ∷ entries) position = by_kind (is_member e.label) (name_of table e.label) refl position (names_are table entries) where
  by_kind : (member : Bool) (name : Option (List ℕ)) → name_of table e.label ≡ name → (k : ℕ)
      → ((k : ℕ) → entry_name table (slice_get (filter (is_named table) entries) k) ≡ slice_get (map the_name (members_of table entries)) k)
      → entry_name table (slice_get (if (member && is_some name) then e ∷ filter (is_named table) entries else filter (is_named table) entries) k)
      ≡ slice_get (map the_name (cons_option (made e member name) (members_of table entries))) k
  by_kind true (Some name) is zero rest = is
  by_kind true (Some name) is (suc k) rest = rest k
  by_kind true None is k rest = rest k
  by_kind false name is k rest = rest k
