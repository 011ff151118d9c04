-- A worked map: two modules with a section and a common each, and a plan of one region.
use Rattle.std.proofs.Common.{◌≡◌, ℕ, List, [], ◌∷◌, ◌++◌, Some, None, true, false, refl}
use Rattle.std.specs.Prelude.{codes}
use Rattle.std.specs.Fmt.{digits}
use Rattle.hex.proofs.OnLiterals.{hex_on_literals}
use Rattle.mufom_expr.specs.declared.token.Letter.TheVariants.{R}
use Rattle.mufom_expr.specs.Tree.{number, variable, two, plus}
use Rattle.mufom_sections.specs.declared.section.Section.{Section}
use Rattle.mufom_loads.specs.declared.load.Item.TheVariants.{Literal}
use Rattle.mufom_loads.specs.declared.load.Load.TheVariants.{SetSection, One}
use Rattle.mufom_module.specs.declared.module.Order.TheVariants.{Most}
use Rattle.mufom_module.specs.declared.module.Parts.{Parts}
use Rattle.mufom_plan.specs.declared.plan.Plan.{Plan}
use Rattle.mufom_plan.specs.declared.plan.SymbolValue.TheVariants.{Load, Start}
use Rattle.mufom_meaning.specs.declared.located.LocatedParts.{LocatedParts}
use Rattle.mufom_origins.specs.Origins.{numbered}
use Rattle.mufom_origins.specs.Places.{with_chosen}
use Rattle.mufom_origins.specs.Words.{ModuleFiles, one_each}
use Rattle.mufom_text.specs.Words.{line}
use Rattle.mufom_map.specs.Mapped.{mapped}
use Rattle.mufom_map.specs.MapText.{address_text, map_text}
use Rattle.mufom_text.specs.Digits.{hex}
use Rattle.mufom_map.specs.Room.{signs_from}

abbrev files : ModuleFiles
files = one_each 0 (codes "a.695" ∷ codes "b.695" ∷ codes "m1" ∷ [])

abbrev first : Parts
first = record {
  processor = [];
  name = codes "a";
  maus = 4;
  order = Most;
  ext = [];
  env = [];
  sections = record { name = codes "t"; absolute = false; purpose = None; size = 4; align = 4; base = None } ∷ [];
  names = record { publics = []; references = record { name = codes "c"; weak = Some (record { size = 4; «default» = 0 }); notes = [] } ∷ [] };
  debug = [];
  loads = [];
  start = None;
}

abbrev second : Parts
second = record first {
  name = codes "b";
  names = record {
    publics = record { name = codes "end"; value = two plus (variable R 0) (number 4); notes = [] } ∷ [];
    references = record { name = codes "c"; weak = Some (record { size = 6; «default» = 0 }); notes = [] } ∷ [];
  };
}

abbrev plan : Plan
plan = record { regions = record { name = codes "ram"; base = 256; size = 64; sections = codes "t" ∷ []; common = true; load = None } ∷ []; symbols = []; keep = [] }

abbrev place : LocatedParts
place = record {
  processor = [];
  name = codes "a";
  maus = 4;
  order = Most;
  sections = [];
  publics = record { name = codes "end"; value = 264; notes = [] } ∷ [];
  runs = record { address = 256; bytes = 0 ∷ 0 ∷ 1 ∷ 8 ∷ 0 ∷ 0 ∷ 1 ∷ 8 ∷ [] } ∷ [];
  start = None;
  debug = [];
}

map_is : map_text files (mapped (numbered (first ∷ second ∷ [])) plan place)
    ≡ line (codes "module 0 \"a\" file 0: \"a.695\"") ++ (line (codes "module 1 \"b\" file 1: \"b.695\"")
    ++ (line (codes "region 0 \"ram\" at 00000100 size 64 used 14 free 50 [#######.........................]")
    ++ (line (codes "section 0 00000100 size 4 align 4 \"t\" module 0 region 0") ++ (line (codes "section 1 00000104 size 4 align 4 \"t\" module 1 region 0")
    ++ (line (codes "common 2 00000108 size 6 align 8 \"c\" region 0") ++ (line (codes "public 00000108 \"end\" module 1")
    ++ line (codes "sections 3 bytes 14 loaded 8")))))))
unfolding hex_on_literals digits signs_from
map_is = refl

-- ---- a section with a base of its own uses room of a region, and a partly used cell is not a full one

abbrev absolute : Parts
absolute = record first {
  names = record { publics = []; references = [] };
  sections = record { name = codes "code"; absolute = true; purpose = None; size = 4; align = 2; base = Some 4096 } ∷ [];
}

abbrev started : LocatedParts
started = record place { publics = []; runs = record { address = 4096; bytes = 1 ∷ 2 ∷ 3 ∷ 4 ∷ [] } ∷ []; start = Some 4096 }

abbrev around : Plan
around = record { regions = record { name = codes "rom"; base = 4090; size = 320; sections = codes "*" ∷ []; common = false; load = None } ∷ []; symbols = []; keep = [] }

abbrev with_start : Parts
with_start = record absolute { name = codes "A"; start = Some (variable R 0) }

no_plan : map_text files (mapped (numbered (with_start ∷ [])) (record { regions = []; symbols = []; keep = [] }) started)
    ≡ line (codes "module 0 \"A\" file 0: \"a.695\"") ++ (line (codes "section 0 00001000 size 4 align 2 \"code\" module 0") ++ (line (codes "start 00001000 module 0")
    ++ line (codes "sections 1 bytes 4 loaded 4")))
unfolding hex_on_literals digits signs_from
no_plan = refl

own_base : map_text files (mapped (numbered (with_start ∷ [])) around started)
    ≡ line (codes "module 0 \"A\" file 0: \"a.695\"") ++ (line (codes "region 0 \"rom\" at 00000FFA size 320 used 4 free 316 [+...............................]")
    ++ (line (codes "section 0 00001000 size 4 align 2 \"code\" module 0") ++ (line (codes "start 00001000 module 0")
    ++ line (codes "sections 1 bytes 4 loaded 4"))))
unfolding hex_on_literals digits signs_from
own_base = refl

-- ---- a member that is selected keeps the number of its file

abbrev defines : List ℕ → List ℕ → Parts
defines name public = record first {
  name = name;
  sections = [];
  names = record {
    publics = record { name = public; value = number 0; notes = [] }
        ∷ [];
    references = [];
  };
}

abbrev values : LocatedParts
values = record place { publics = record { name = codes "f"; value = 0; notes = [] } ∷ record { name = codes "g"; value = 0; notes = [] } ∷ []; runs = [] }

selected : map_text files (mapped (with_chosen 1 (1 ∷ []) (numbered (defines (codes "r") (codes "f") ∷ defines (codes "m0") (codes "h")
    ∷ defines (codes "m1") (codes "g") ∷ [])))
    (record { regions = []; symbols = []; keep = [] }) values)
    ≡ line (codes "module 0 \"r\" file 0: \"a.695\"") ++ (line (codes "module 1 \"m1\" file 2: \"m1\"") ++ (line (codes "public 00000000 \"f\" module 0")
    ++ (line (codes "public 00000000 \"g\" module 1") ++ line (codes "sections 0 bytes 0 loaded 0"))))
unfolding hex_on_literals digits signs_from
selected = refl

-- ---- addresses

one_unit : hex 1 255 ≡ codes "FF"
unfolding hex_on_literals digits
one_unit = refl

longer : hex 1 4096 ≡ codes "1000"
unfolding hex_on_literals digits
longer = refl

nothing : hex 2 0 ≡ codes "0000"
unfolding hex_on_literals digits
nothing = refl

-- ---- sections and publics go by their addresses, not by their numbers or names

abbrev apart : Parts
apart = record first {
  names = record {
    publics = record { name = codes "a"; value = number 0; notes = [] } ∷ record { name = codes "b"; value = number 0; notes = [] }
        ∷ record { name = codes "c"; value = number 0; notes = [] } ∷ [];
    references = [];
  };
  sections = record { name = codes "high"; absolute = true; purpose = None; size = 2; align = 1; base = Some 512 }
      ∷ record { name = codes "low"; absolute = true; purpose = None; size = 1; align = 1; base = Some 256 } ∷ [];
}

abbrev spread : LocatedParts
spread = record place {
  publics = record { name = codes "a"; value = 48; notes = [] } ∷ record { name = codes "b"; value = 16; notes = [] }
      ∷ record { name = codes "c"; value = 48; notes = [] } ∷ [];
  runs = [];
}

by_address : map_text files (mapped (numbered (apart ∷ [])) (record { regions = []; symbols = []; keep = [] }) spread)
    ≡ line (codes "module 0 \"a\" file 0: \"a.695\"") ++ (line (codes "section 1 00000100 size 1 align 1 \"low\" module 0")
    ++ (line (codes "section 0 00000200 size 2 align 1 \"high\" module 0") ++ (line (codes "public 00000010 \"b\" module 0")
    ++ (line (codes "public 00000030 \"a\" module 0") ++ (line (codes "public 00000030 \"c\" module 0")
    ++ line (codes "sections 2 bytes 3 loaded 0"))))))
unfolding hex_on_literals digits signs_from
by_address = refl

-- ---- entries that place no section: the second is the name of a section with a base of its own

abbrev spelled : Plan
spelled = record {
  regions = record {
    name = codes "ram";
    base = 256;
    size = 64;
    sections = codes "tt" ∷ codes "code" ∷ codes "t" ∷ codes "*" ∷ [];
    common = true;
    load = None;
  }
      ∷ [];
  symbols = [];
  keep = [];
}

unused_are : map_text files (mapped (numbered (with_start ∷ record second { names = record { publics = []; references = [] } } ∷ [])) spelled started)
    ≡ line (codes "module 0 \"A\" file 0: \"a.695\"") ++ (line (codes "module 1 \"b\" file 1: \"b.695\"")
    ++ (line (codes "region 0 \"ram\" at 00000100 size 64 used 4 free 60 [##..............................]")
    ++ (line (codes "unused region 0 \"tt\"") ++ (line (codes "unused region 0 \"code\"")
    ++ (line (codes "section 1 00000100 size 4 align 4 \"t\" module 1 region 0") ++ (line (codes "section 0 00001000 size 4 align 2 \"code\" module 0")
    ++ (line (codes "start 00001000 module 0") ++ line (codes "sections 2 bytes 8 loaded 4"))))))))
unfolding hex_on_literals digits signs_from
unused_are = refl

-- ---- one address

address_of_a_common : address_text 266 (mapped (numbered (first ∷ second ∷ [])) plan place)
    ≡ line (codes "common 2 00000108 size 6 align 8 \"c\" region 0") ++ line (codes "public 00000108 \"end\" module 1 offset 2")
unfolding hex_on_literals digits
address_of_a_common = refl

address_below_a_public : address_text 263 (mapped (numbered (first ∷ second ∷ [])) plan place)
    ≡ line (codes "section 1 00000104 size 4 align 4 \"t\" module 1 region 0") ++ line (codes "public none")
unfolding hex_on_literals digits
address_below_a_public = refl

address_of_no_section : address_text 270 (mapped (numbered (first ∷ second ∷ [])) plan place) ≡ line (codes "section none") ++ line (codes "public none")
unfolding hex_on_literals digits
address_of_no_section = refl

abbrev labelled : LocatedParts
labelled = record place {
  publics = record { name = codes "a"; value = 514; notes = [] } ∷ record { name = codes "b"; value = 512; notes = [] }
      ∷ record { name = codes "c"; value = 514; notes = [] } ∷ [];
  runs = [];
}

-- the greatest value, and of equal values the first
first_of_equal_values : address_text 515 (mapped (numbered (record apart {
  sections = record { name = codes "t"; absolute = true; purpose = None; size = 4; align = 1; base = Some 512 } ∷ [];
} ∷ [])) (record { regions = []; symbols = []; keep = [] }) labelled)
    ≡ line (codes "section 0 00000200 size 4 align 1 \"t\" module 0") ++ line (codes "public 00000202 \"a\" module 0 offset 1")
unfolding hex_on_literals digits
first_of_equal_values = refl

-- ---- data that is loaded into another region, and symbols of the plan

abbrev waiting : List ℕ → ℕ → ℕ → Section
waiting name size align = record { name = name; absolute = false; purpose = None; size = size; align = align; base = None }

-- code, data with initial values, and data without
abbrev program : Parts
program = record first {
  sections = waiting (codes "code") 4 2 ∷ waiting (codes "data") 6 4 ∷ waiting (codes "bss") 16 4 ∷ [];
  names = record { publics = record { name = codes "main"; value = variable R 0; notes = [] } ∷ []; references = [] };
  loads = SetSection 0 ∷ One (Literal (78 ∷ 113 ∷ 78 ∷ 117 ∷ [])) ∷ SetSection 1 ∷ One (Literal (1 ∷ 2 ∷ 3 ∷ 4 ∷ 5 ∷ 6 ∷ [])) ∷ [];
}

abbrev from_rom : Plan
from_rom = record {
  regions = record { name = codes "rom"; base = 0; size = 64; sections = codes "code" ∷ []; common = false; load = None }
      ∷ record { name = codes "ram"; base = 256; size = 64; sections = codes "data" ∷ codes "bss" ∷ []; common = false; load = Some (codes "rom") } ∷ [];
  symbols = record { name = codes "image"; value = Load (codes "data") } ∷ record { name = codes "zero"; value = Start (codes "bss") } ∷ [];
  keep = [];
}

abbrev copied : LocatedParts
copied = record place {
  publics = record { name = codes "main"; value = 0; notes = [] } ∷ record { name = codes "image"; value = 8; notes = [] }
      ∷ record { name = codes "zero"; value = 264; notes = [] } ∷ [];
  runs = record { address = 0; bytes = 78 ∷ 113 ∷ 78 ∷ 117 ∷ [] } ∷ record { address = 8; bytes = 1 ∷ 2 ∷ 3 ∷ 4 ∷ 5 ∷ 6 ∷ [] } ∷ [];
}

copy_is_shown : map_text files (mapped (numbered (program ∷ [])) from_rom copied)
    ≡ line (codes "module 0 \"a\" file 0: \"a.695\"")
    ++ (line (codes "region 0 \"rom\" at 00000000 size 64 used 10 free 54 [##..###.........................]")
    ++ (line (codes "region 1 \"ram\" at 00000100 size 64 used 22 free 42 [###.########....................]")
    ++ (line (codes "section 0 00000000 size 4 align 2 \"code\" module 0 region 0") ++ (line (codes "copy 3 00000008 size 6 align 8 \"ram\" region 0")
    ++ (line (codes "section 1 00000100 size 6 align 4 \"data\" module 0 region 1") ++ (line (codes "section 2 00000108 size 16 align 4 \"bss\" module 0 region 1")
    ++ (line (codes "public 00000000 \"main\" module 0") ++ (line (codes "public 00000008 \"image\" plan") ++ (line (codes "public 00000108 \"zero\" plan")
    ++ line (codes "sections 4 bytes 32 loaded 10"))))))))))
unfolding hex_on_literals digits signs_from
copy_is_shown = refl

address_of_a_symbol : address_text 266 (mapped (numbered (program ∷ [])) from_rom copied)
    ≡ line (codes "section 2 00000108 size 16 align 4 \"bss\" module 0 region 1") ++ line (codes "public 00000108 \"zero\" plan offset 2")
unfolding hex_on_literals digits
address_of_a_symbol = refl

address_of_a_copy : address_text 8 (mapped (numbered (program ∷ [])) from_rom copied)
    ≡ line (codes "copy 3 00000008 size 6 align 8 \"ram\" region 0") ++ line (codes "public 00000008 \"image\" plan offset 0")
unfolding hex_on_literals digits
address_of_a_copy = refl
