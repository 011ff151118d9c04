-- The TOML document that bytes spell, as `toml` defines it, and the values in it.
use Rattle.std.specs.Prelude.{ℕ, ◌==◌, ℤ, pos, negsuc, List, [], ◌∷◌, length, Option, Some, None, option_map, option_and_then, Bool, true, false}
use Rattle.std.specs.Prelude.{◌&&◌, if◌then◌else◌}
use Rattle.std.specs.Str.Lossy.{utf8_valid_len}
use Rattle.toml.specs.Data.{Data, as_bool, as_str, as_integer, as_array, Items, no_items, item, Members, no_members, member}
use Rattle.toml.specs.Parse.{parse_document}
use Rattle.mufom_plan.specs.Names.{has_name}

-- the members of the document that the bytes spell, or None if they are not UTF-8 or not a document
abbrev pub document_of : List ℕ → Option Members
document_of bytes = if utf8_valid_len bytes == length bytes then parse_document bytes else None

-- each key of the table is one of these
abbrev pub has_only_keys : List (List ℕ) → Members → Bool
has_only_keys keys no_members = true
has_only_keys keys (member key value more) = has_name keys key && has_only_keys keys more

-- the items of an array as a list
abbrev pub list_of : Items → List Data
list_of no_items = []
list_of (item value more) = value ∷ list_of more

-- the items of a value, if it is an array
abbrev pub items_at : Option Data → Option (List Data)
items_at value = option_map list_of (option_and_then as_array value)

-- the integer as a natural number, or None if it is negative
abbrev pub natural : ℤ → Option ℕ
natural (pos n) = Some n
natural (negsuc n) = None

-- the number, if the value is an integer that is not negative
abbrev pub number_at : Option Data → Option ℕ
number_at value = option_and_then natural (option_and_then as_integer value)

-- the bytes of a value, if it is a text
abbrev pub text_at : Option Data → Option (List ℕ)
text_at value = option_and_then as_str value

-- the truth value at a key: false if the key is absent, and None if its value is not a truth value
abbrev pub truth_at : Option Data → Option Bool
truth_at None = Some false
truth_at (Some value) = as_bool value
