-- The names of the entries of an archive. A header has a label of 16 bytes. It holds a short name, or says where a long
-- name begins in the table of long names, or marks an entry that is a table of the archive itself.
use Rattle.std.specs.Prelude.{ℕ, ◌-◌, Bool, not, ◌&&◌, ◌||◌, List, [], ◌∷◌, length, take, drop, nat_le, nat_lt, ◌==◌, slice_index, if◌then◌else◌, Option}
use Rattle.std.specs.Prelude.{Some, None, codes, false}
use Rattle.std.specs.Char.{is_ascii_digit}
use Rattle.std.specs.List.{before_first, list_all, suffix_len}
use Rattle.std.specs.Str.{bytes_eq}
use Rattle.std.specs.Str.Parse.{digits_value}

abbrev pub is_blank : ℕ → Bool
is_blank b = b == 32

-- a label without the blanks at its end
abbrev pub trimmed : List ℕ → List ℕ
trimmed label = take (length label - suffix_len is_blank label) label

-- a name without one slash at its end, if there is one
abbrev pub without_slash : List ℕ → List ℕ
without_slash name = if nat_lt 0 (length name) && (slice_index name (length name - 1) == 47) then take (length name - 1) name else name

-- the label is this word and blanks
abbrev pub is_word : List ℕ → List ℕ → Bool
is_word word label = bytes_eq (trimmed label) word

-- the entry is the table of long names
abbrev pub is_long_names : List ℕ → Bool
is_long_names label = is_word (codes "//") label

-- the entry is a table of symbols, as GNU binutils and others write it
abbrev pub is_symbols : List ℕ → Bool
is_symbols label = is_word (codes "/") label || (is_word (codes "/SYM64/") label || is_word (codes "__.SYMDEF") label)

-- the entry is a member, and no table
abbrev pub is_member : List ℕ → Bool
is_member label = not (is_long_names label || is_symbols label)

-- a name that says where the name itself begins in the table of long names: a slash and decimal digits
abbrev pub is_reference : List ℕ → Bool
is_reference [] = false
is_reference (b ∷ digits) = (b == 47) && (nat_lt 0 (length digits) && list_all is_ascii_digit digits)

-- a byte that ends a long name: a slash or a line feed
abbrev pub ends_name : ℕ → Bool
ends_name b = (b == 47) || (b == 10)

-- the long name that begins at this position of the table, or None past the end of the table
abbrev pub long_name : List ℕ → ℕ → Option (List ℕ)
long_name table at = if nat_le at (length table) then Some (before_first ends_name (drop at table)) else None

-- the long name of a member with this label begins past the end of a table of long names of this size
abbrev pub begins_past : ℕ → List ℕ → Bool
begins_past size label = let name = without_slash (trimmed label) in is_reference name && nat_lt size (digits_value 10 (drop 1 name))

-- the name of a member with this label, or None if it begins past the end of the table of long names
abbrev pub name_of : List ℕ → List ℕ → Option (List ℕ)
name_of table label = let name = without_slash (trimmed label) in
    if is_reference name then long_name table (digits_value 10 (drop 1 name)) else Some name
