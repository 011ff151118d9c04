-- The entry that matches a name.
use Rattle.std.specs.Prelude.{ℕ, List, Option, position, codes}
use Rattle.std.specs.Str.{bytes_eq}
use Rattle.mufom_place.specs.Bases.{last_of}

-- the position of the entry that matches a name: that of the name itself, or that of the star
abbrev pub entry_for : List (List ℕ) → List ℕ → Option ℕ
entry_for listed name = last_of (position (bytes_eq (codes "*")) listed) (position (bytes_eq name) listed)
