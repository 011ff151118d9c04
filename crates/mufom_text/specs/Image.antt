-- The text of a located image: a line for each 16 addresses with loaded bytes, the start, each public, and each debug address.
use Rattle.std.specs.Prelude.{ℕ, ◌+◌, ◌%◌, ◌==◌, ◌||◌, Bool, true, false, List, [], ◌∷◌, ◌++◌, map, flat_map, Option, Some, None, unwrap_or}
use Rattle.std.specs.Prelude.{slice_get, codes, if◌then◌else◌}
use Rattle.std.specs.Int.{bytes_high_first}
use Rattle.std.specs.Fmt.{decimal}
use Rattle.hex.specs.Hex.{encode_upper}
use Rattle.mufom_expr.specs.Tree.{Tree}
use Rattle.mufom_expr.specs.Numbers.{number_of}
use Rattle.mufom_debug.specs.declared.item.DebugItem.{DebugItem, fold-DebugItem}
use Rattle.mufom_debug.specs.declared.item.DebugItem.TheOpen.{DebugItem-F, Block-F}
use Rattle.mufom_debug.specs.Marks.{DebugMark, block_begin, block_end, name_mark, note_mark, value_mark, joined, kind_number, marks_of, offset_of}
use Rattle.mufom_meaning.specs.declared.located.Run.{Run}
use Rattle.mufom_meaning.specs.declared.located.PublicValue.{PublicValue}
use Rattle.mufom_meaning.specs.declared.located.LocatedParts.{LocatedParts}
use Rattle.mufom_text.specs.Words.{Text, line, quoted, each}

-- an address in upper-case hexadecimal, two digits for each of the `maus` units
abbrev pub address : ℕ → ℕ → Text
address maus a = encode_upper (bytes_high_first maus a)

-- ---- loaded bytes

-- what comes before a byte: its address and a colon, if a line begins there (at the first byte of a run, and at each multiple of 16)
abbrev pub line_start : ℕ → Bool → ℕ → Text
line_start maus first a = if first || (a % 16 == 0) then address maus a ++ codes ":" else []

-- what comes after a byte: a line feed, if the line ends there (at the last byte of a run, and before each multiple of 16)
abbrev pub line_end : Bool → ℕ → Text
line_end last a = if last || ((a + 1) % 16 == 0) then 10 ∷ [] else []

abbrev pub is_last : List ℕ → Bool
is_last [] = true
is_last (_ ∷ _) = false

-- a byte of a run: a space and two digits, with the start and the end of its line if they are there
abbrev pub byte_text : ℕ → Bool → Bool → ℕ → ℕ → Text
byte_text maus first last a b = line_start maus first a ++ ((32 ∷ encode_upper (b ∷ [])) ++ line_end last a)

-- the lines of a run's bytes, from an address on
abbrev pub row_text : ℕ → Bool → ℕ → List ℕ → Text
row_text maus first a [] = []
row_text maus first a (b ∷ bytes) = byte_text maus first (is_last bytes) a b ++ row_text maus false (a + 1) bytes

abbrev pub run_text : ℕ → Run → Text
run_text maus run = row_text maus true run.address run.bytes

-- ---- the start and the publics

abbrev pub start_text : ℕ → Option ℕ → Text
start_text maus None = []
start_text maus (Some a) = line (codes "start " ++ address maus a)

abbrev pub public_text : ℕ → PublicValue → Text
public_text maus p = line (codes "public " ++ address maus p.value ++ codes " " ++ quoted p.name)

-- ---- debug addresses

-- the names that a debug record declares
abbrev pub mark_names : DebugMark → List (List ℕ)
mark_names (block_begin head name) = []
mark_names (block_end end) = []
mark_names (name_mark name) = name ∷ []
mark_names (note_mark name note) = []
mark_names (value_mark name value) = []

-- all debug names, in the order of the file
abbrev pub names_of : List DebugMark → List (List ℕ)
names_of marks = flat_map mark_names marks

-- what a debug address is: the start or the end of a block, with the number of its kind and its name, or the value of a name
pub data Role : Type 0 where
  begin_of : (kind : ℕ) → (name : List ℕ) → Role
  end_of : (kind : ℕ) → (name : List ℕ) → Role
  value_of : (name : List ℕ) → Role

abbrev pub block_text : Text → ℕ → List ℕ → Text
block_text word kind name = word ++ decimal kind ++ codes " " ++ quoted name

abbrev pub role_text : Role → Text
role_text (begin_of kind name) = block_text (codes " begin ") kind name
role_text (end_of kind name) = block_text (codes " end ") kind name
role_text (value_of name) = codes " name " ++ quoted name

-- a debug address
abbrev pub Address : Type 0
Address = ℕ × Role

-- the address that an expression gives, with its role; none if there is no expression
abbrev pub address_in : Role → Option Tree → List Address
address_in role None = []
address_in role (Some t) = (number_of t, role) ∷ []

-- the addresses of a block, in which each item is replaced by its addresses
abbrev pub block_addresses : Block-F (List Address) (List Address) → List Address
block_addresses b = address_in (begin_of (kind_number b.head) b.name) (offset_of b.head)
    ++ (joined b.items ++ address_in (end_of (kind_number b.head) b.name) b.end)

-- the addresses of an item, in which a block is replaced by its addresses; `names` are all debug names of the module
abbrev pub item_addresses : List (List ℕ) → DebugItem-F (List Address) (List Address) → List Address
item_addresses names (DebugItem-F.Block addresses) = addresses
item_addresses names (DebugItem-F.Name name) = []
item_addresses names (DebugItem-F.Note name note) = []
item_addresses names (DebugItem-F.Value name value) = (number_of value, value_of (unwrap_or (slice_get names name) [])) ∷ []

-- the addresses of an item: for a block that of its start, those of its items, and that of its end
abbrev pub addresses_of_item : List (List ℕ) → DebugItem → List Address
addresses_of_item names = fold-DebugItem (List Address) (List Address) (item_addresses names) block_addresses

-- the addresses of items, one after another
abbrev pub addresses_of : List (List ℕ) → List DebugItem → List Address
addresses_of names items = joined (map (addresses_of_item names) items)

abbrev pub address_text : ℕ → ℕ → Address → Text
address_text maus n a = line ((codes "debug " ++ decimal n) ++ ((codes " " ++ address maus a.0) ++ role_text a.1))

-- ---- the whole

-- The loaded bytes, the start, the publics and the debug addresses.
abbrev pub image_text : LocatedParts → Text
image_text r = flat_map (run_text r.maus) r.runs ++ (start_text r.maus r.start ++ (flat_map (public_text r.maus) r.publics
    ++ each (address_text r.maus) (addresses_of (names_of (marks_of r.debug)) r.debug)))
