-- What the worked examples are built of.
use Rattle.std.proofs.Common.{ℕ, List, [], Some, None, true, false}
use Rattle.std.specs.Prelude.{codes, ◌^◌}
use Rattle.mufom_expr.specs.Tree.{Tree}
use Rattle.mufom_sections.specs.declared.section.Section.{Section}
use Rattle.mufom_names.specs.declared.name.Public.{Public}
use Rattle.mufom_names.specs.declared.name.Reference.{Reference}
use Rattle.mufom_loads.specs.declared.load.Load.{Load}
use Rattle.mufom_module.specs.declared.module.Order.TheVariants.{Most}
use Rattle.mufom_module.specs.declared.module.Parts.{Parts}
use Rattle.mufom_plan.specs.declared.plan.Region.{Region}
use Rattle.mufom_plan.specs.declared.plan.Plan.{Plan}
use Rattle.mufom_meaning.specs.Bases.{Bases}
use Rattle.mufom_meaning.specs.Placed.{planned_bases}
use Rattle.mufom_meaning.specs.Flat.{width}
use Rattle.mufom_meaning.specs.Readings.{readings}
use Rattle.mufom_meaning.specs.AddressMap.{Cell, address_map}

-- a module with these lists, and nothing else
abbrev pub a_module : List Section → List Public → List Reference → List Load → Parts
a_module sections publics references loads = record {
  processor = codes "68000";
  name = codes "a";
  maus = 4;
  order = Most;
  ext = [];
  env = [];
  sections = sections;
  names = record { publics = publics; references = references };
  debug = [];
  loads = loads;
  start = None;
}

-- a section that waits for its base
abbrev pub relocatable : List ℕ → ℕ → Section
relocatable name size = record { name = name; absolute = false; purpose = None; size = size; align = 1; base = None }

-- a section with a base of its own
abbrev pub absolute_at : ℕ → ℕ → Section
absolute_at base size = record { name = codes "t"; absolute = true; purpose = None; size = size; align = 1; base = Some base }

-- a public without notes
abbrev pub public_of : List ℕ → Tree → Public
public_of name t = record { name = name; value = t; notes = [] }

-- a strong reference
abbrev pub strong : List ℕ → Reference
strong name = record { name = name; weak = None; notes = [] }

-- a weak reference of a size and a default
abbrev pub weak : List ℕ → ℕ → ℕ → Reference
weak name size default = record { name = name; weak = Some (record { size = size; default = default }); notes = [] }

-- a region for sections of these names
abbrev pub region_at : ℕ → ℕ → List (List ℕ) → Region
region_at base size sections = record { name = codes "rom"; base = base; size = size; sections = sections; common = false; load = None }

-- a plan of regions
abbrev pub plan_of : List Region → Plan
plan_of regions = record { regions = regions; symbols = []; keep = [] }

-- the cells of an image
abbrev pub image_of : List Parts → Plan → List Cell
image_of ms plan = address_map Most (2 ^ width ms) (readings ms (planned_bases ms plan)).steps

-- sections have these bases, and no common has one
abbrev pub sections_at : List ℕ → Bases
sections_at placed = record { sections = placed; commons = λ name. None }
