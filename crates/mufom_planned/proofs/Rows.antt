-- Plans with symbols and copies, computed on concrete modules.
use Rattle.std.proofs.Common.{◌≡◌, ℕ, List, [], ◌∷◌, ◌++◌, map, Some, None, true, false, refl}
use Rattle.std.specs.Prelude.{codes, ◌^◌}
use Rattle.mufom_expr.specs.declared.token.FieldKind.TheVariants.{Either}
use Rattle.mufom_expr.specs.declared.token.Letter.TheVariants.{R, X}
use Rattle.mufom_expr.specs.Tree.{number, variable}
use Rattle.mufom_sections.specs.declared.section.Section.{Section}
use Rattle.mufom_loads.specs.declared.load.Item.TheVariants.{Literal, Field}
use Rattle.mufom_loads.specs.declared.load.Load.TheVariants.{SetSection, One}
use Rattle.mufom_module.specs.declared.module.Order.TheVariants.{Most}
use Rattle.mufom_module.specs.declared.module.Parts.{Parts}
use Rattle.mufom_plan.specs.declared.plan.Region.{Region}
use Rattle.mufom_plan.specs.declared.plan.SymbolValue.{SymbolValue}
use Rattle.mufom_plan.specs.declared.plan.SymbolValue.TheVariants.{Value, Start, End, Load, RegionEnd}
use Rattle.mufom_plan.specs.declared.plan.PlanSymbol.{PlanSymbol}
use Rattle.mufom_plan.specs.declared.plan.Plan.{Plan}
use Rattle.mufom_place.specs.declared.refusal.PlaceRefusal.TheVariants.{Misfit, Overlap}
use Rattle.mufom_meaning.specs.Flat.{width, common_names}
use Rattle.mufom_meaning.specs.Placed.{planned_bases}
use Rattle.mufom_meaning.specs.Readings.{readings, PublicReading}
use Rattle.mufom_meaning.specs.Steps.{counter}
use Rattle.mufom_meaning.specs.Values.{value_within}
use Rattle.mufom_meaning.specs.Facts.{placement}
use Rattle.mufom_meaning.specs.AddressMap.{Cell}
use Rattle.mufom_meaning.proofs.rows.Built.{a_module, absolute_at, public_of, strong, weak, region_at}
use Rattle.mufom_planned.specs.Layout.{layout, layout_bases, whole_list}
use Rattle.mufom_planned.specs.PlanSymbols.{with_symbols}
use Rattle.mufom_planned.specs.Planned.{shared_name, of_list, planned_answer, load_map}

-- a section that waits for its base, of an alignment
abbrev aligned : List ℕ → ℕ → ℕ → Section
aligned name size align = record { name = name; absolute = false; purpose = None; size = size; align = align; base = None }

abbrev symbol : List ℕ → SymbolValue → PlanSymbol
symbol name value = record { name = name; value = value }

-- a public with its value, in a list by a plan
abbrev valued : List ℕ → ℕ → PublicReading
valued name value = record { name = name; notes = []; value = Some value }

-- the publics of a list with the plan's symbols
abbrev publics_of : List Parts → Plan → List PublicReading
publics_of ms plan = let all = with_symbols ms plan in (readings all (planned_bases all plan)).publics

-- the loaded bytes of a list with the plan's symbols, each at its address
abbrev bytes_of : List Parts → Plan → List Cell
bytes_of ms plan = let all = with_symbols ms plan in load_map (layout all plan) Most (2 ^ width all) (readings all (planned_bases all plan)).steps

-- ---- symbols: the start and the end of a section, a number, and an entry without a section

-- a section that loads three names
abbrev asking : Parts
asking = a_module (aligned (codes "t") 12 4 ∷ []) [] (strong (codes "s") ∷ strong (codes "e") ∷ strong (codes "v") ∷ [])
    (SetSection 0 ∷ One (Field Either 4 (variable X 0)) ∷ One (Field Either 4 (variable X 1)) ∷ One (Field Either 4 (variable X 2)) ∷ [])

abbrev four_symbols : Plan
four_symbols = record {
  regions = region_at 256 64 (codes "u" ∷ codes "t" ∷ []) ∷ [];
  symbols = symbol (codes "s") (Start (codes "t")) ∷ symbol (codes "e") (End (codes "t")) ∷ symbol (codes "v") (Value 7)
      ∷ symbol (codes "w") (Start (codes "u")) ∷ [];
  keep = [];
}

symbols_valued : publics_of (asking ∷ []) four_symbols ≡ valued (codes "s") 256 ∷ valued (codes "e") 268 ∷ valued (codes "v") 7
    ∷ valued (codes "w") 256 ∷ []
unfolding readings value_within
symbols_valued = refl

symbols_loaded : map (λ (c : Cell). c.1) (bytes_of (asking ∷ []) four_symbols) ≡ 0 ∷ 0 ∷ 1 ∷ 0 ∷ 0 ∷ 0 ∷ 1 ∷ 12 ∷ 0 ∷ 0 ∷ 0 ∷ 7 ∷ []
unfolding readings counter value_within
symbols_loaded = refl

symbols_fine : planned_answer (asking ∷ []) four_symbols ≡ None
unfolding counter value_within
symbols_fine = refl

-- a public of the list that has the name of a symbol
abbrev defining : Parts
defining = a_module [] (public_of (codes "e") (number 1) ∷ []) [] []

symbol_shared : planned_answer (asking ∷ defining ∷ []) four_symbols ≡ Some (shared_name (codes "e"))
symbol_shared = refl

-- a name that the plan defines is no common
abbrev asking_weakly : Parts
asking_weakly = a_module [] [] (weak (codes "v") 4 0 ∷ []) []

no_common : common_names (with_symbols (asking ∷ asking_weakly ∷ []) four_symbols) ≡ []
no_common = refl

-- ---- a region that is loaded into another one

-- code, data with initial values, and data without
abbrev program : Parts
program = a_module (aligned (codes "t") 4 2 ∷ aligned (codes "d") 6 4 ∷ aligned (codes "b") 16 4 ∷ []) [] []
    (SetSection 0 ∷ One (Literal (78 ∷ 113 ∷ 78 ∷ 117 ∷ [])) ∷ SetSection 1 ∷ One (Literal (1 ∷ 2 ∷ [])) ∷ One (Field Either 4 (variable R 1)) ∷ [])

abbrev rom : ℕ → Region
rom size = region_at 0 size (codes "t" ∷ [])

abbrev ram : Region
ram = record { name = codes "ram"; base = 256; size = 64; sections = codes "d" ∷ codes "b" ∷ []; common = false; load = Some (codes "rom") }

abbrev from_rom : ℕ → Plan
from_rom size = record {
  regions = rom size ∷ ram ∷ [];
  symbols = symbol (codes "from") (Load (codes "d")) ∷ symbol (codes "to") (Start (codes "d")) ∷ symbol (codes "till") (End (codes "d"))
      ∷ symbol (codes "zero") (Start (codes "b")) ∷ symbol (codes "top") (End (codes "b")) ∷ symbol (codes "heap") (RegionEnd (codes "ram"))
      ∷ symbol (codes "last") (RegionEnd (codes "rom")) ∷ [];
  keep = [];
}

bytes_in_copy : bytes_of (program ∷ []) (from_rom 64)
    ≡ (0, 78) ∷ (1, 113) ∷ (2, 78) ∷ (3, 117) ∷ (8, 1) ∷ (9, 2) ∷ (10, 0) ∷ (11, 0) ∷ (12, 1) ∷ (13, 0) ∷ []
unfolding readings counter value_within
bytes_in_copy = refl

addresses_in_copy : publics_of (program ∷ []) (from_rom 64) ≡ valued (codes "from") 8 ∷ valued (codes "to") 256 ∷ valued (codes "till") 262
    ∷ valued (codes "zero") 264 ∷ valued (codes "top") 280 ∷ valued (codes "heap") 280 ∷ valued (codes "last") 14 ∷ []
unfolding readings value_within
addresses_in_copy = refl

-- the copy is the last section, and has the bytes up to the end of the last section with bytes
placed_with_copy : layout_bases (layout (program ∷ []) (from_rom 64)) ≡ 0 ∷ 256 ∷ 264 ∷ 8 ∷ []
placed_with_copy = refl

copy_is_placed : whole_list (layout (program ∷ []) (from_rom 64)) ≡ program.sections ++ aligned (codes "ram") 6 8 ∷ []
copy_is_placed = refl

fine_with_copy : planned_answer (program ∷ []) (from_rom 64) ≡ None
unfolding counter value_within
fine_with_copy = refl

-- the copy ends past the end of its region
copy_too_long : planned_answer (program ∷ []) (from_rom 13) ≡ Some (of_list (placement (Misfit 3 (Some 0))))
copy_too_long = refl

-- an absolute section lies in the copy
copy_overlaps : planned_answer (program ∷ a_module (absolute_at 13 1 ∷ []) [] [] [] ∷ []) (from_rom 64) ≡ Some (of_list (placement (Overlap 4 3)))
copy_overlaps = refl

-- nothing is loaded into the region, so there is no copy
abbrev empty : Parts
empty = a_module (aligned (codes "t") 4 2 ∷ aligned (codes "d") 6 4 ∷ aligned (codes "b") 16 4 ∷ []) [] [] []

without_copy : layout_bases (layout (empty ∷ []) (from_rom 64)) ≡ 0 ∷ 256 ∷ 264 ∷ []
without_copy = refl

loaded_in_place : publics_of (empty ∷ []) (from_rom 64) ≡ valued (codes "from") 256 ∷ valued (codes "to") 256 ∷ valued (codes "till") 262
    ∷ valued (codes "zero") 264 ∷ valued (codes "top") 280 ∷ valued (codes "heap") 280 ∷ valued (codes "last") 4 ∷ []
unfolding readings value_within
loaded_in_place = refl

-- the region's commons follow its sections, and are part of its end
abbrev with_commons : Plan
with_commons = record (from_rom 64) { regions = rom 64 ∷ record ram { common = true } ∷ [] }

end_after_commons : publics_of (program ∷ a_module [] [] (weak (codes "c") 4 0 ∷ []) [] ∷ []) with_commons
    ≡ valued (codes "from") 8 ∷ valued (codes "to") 256 ∷ valued (codes "till") 262
    ∷ valued (codes "zero") 264 ∷ valued (codes "top") 280 ∷ valued (codes "heap") 284 ∷ valued (codes "last") 14 ∷ []
unfolding readings value_within
end_after_commons = refl
