-- The number of bytes that loads put into sections (IEEE Std 695, load commands).
use Rattle.std.specs.Prelude.{ℕ, zero, suc, ◌*◌, List, [], ◌∷◌, ◌++◌, length, sum_by, flat_map}
use Rattle.mufom_loads.specs.declared.load.Item.{Item}
use Rattle.mufom_loads.specs.declared.load.Item.TheVariants.{Literal, Field}
use Rattle.mufom_loads.specs.declared.load.Load.{Load}
use Rattle.mufom_loads.specs.declared.load.Load.TheVariants.{SetSection, SetPc, One, Repeat}

-- the number of bytes that an item loads
abbrev pub byte_count : Item → ℕ
byte_count (Literal bytes) = length bytes
byte_count (Field kind size value) = size

-- the number of bytes that items load, one after another
abbrev pub lengths_of : List Item → ℕ
lengths_of items = sum_by byte_count items

-- this many copies of the list, one after another
abbrev pub repeated : {X : Type 0} → ℕ → List X → List X
repeated zero xs = []
repeated (suc n) xs = xs ++ repeated n xs

-- the items that a load puts into its section, one after another; a repeat puts `count` copies of its items there
abbrev pub copies_of : Load → List Item
copies_of (SetSection section) = []
copies_of (SetPc section value) = []
copies_of (One item) = item ∷ []
copies_of (Repeat count items) = repeated count items

abbrev pub item_copies : List Load → List Item
item_copies loads = flat_map copies_of loads

-- the number of bytes that a load puts into its section; for a repeat it is a product
abbrev pub length_loaded : Load → ℕ
length_loaded (SetSection section) = 0
length_loaded (SetPc section value) = 0
length_loaded (One item) = byte_count item
length_loaded (Repeat count items) = count * lengths_of items

abbrev pub lengths_loaded : List Load → ℕ
lengths_loaded loads = sum_by length_loaded loads

-- the same, with the items of a repeat counted once
abbrev pub length_once : Load → ℕ
length_once (SetSection section) = 0
length_once (SetPc section value) = 0
length_once (One item) = byte_count item
length_once (Repeat count items) = lengths_of items

abbrev pub lengths_once : List Load → ℕ
lengths_once loads = sum_by length_once loads
