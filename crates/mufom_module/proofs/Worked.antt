-- A small absolute module: it is valid, its written form has these 122 bytes, and its weight is 298 bytes.
use Rattle.std.proofs.Common.{◌≡◌, true, [], ◌∷◌, Some, refl}
use Rattle.mufom_expr.specs.Tree.{number, variable}
use Rattle.mufom_expr.specs.declared.token.Letter.TheVariants as letters
use Rattle.mufom_expr.specs.declared.token.FieldKind.TheVariants as kinds
use Rattle.mufom_sections.specs.declared.section.Purpose.TheVariants as purposes
use Rattle.mufom_loads.specs.declared.load.Item.TheVariants as items
use Rattle.mufom_loads.specs.declared.load.Load.TheVariants as loads
use Rattle.mufom_module.specs.declared.module.Order.TheVariants as orders
use Rattle.mufom_module.specs.declared.module.Defect.TheVariants as d
use Rattle.mufom_module.specs.declared.module.Parts.{Parts}
use Rattle.mufom_module.specs.Written.{written, weight}
use Rattle.mufom_module.specs.Defects.{first_defect, IsValid}

abbrev pub small : Parts
small = record {
  processor = 0x36 ∷ 0x38 ∷ 0x30 ∷ 0x30 ∷ 0x30 ∷ [];
  name = 0x41 ∷ [];
  maus = 4;
  order = orders.Most;
  ext = [];
  env = [];
  sections = record { name = 0x63 ∷ 0x6F ∷ 0x64 ∷ 0x65 ∷ []; absolute = true; purpose = Some purposes.Code; size = 4; align = 2; base = Some 4096 } ∷ [];
  names = record { publics = []; references = [] };
  debug = [];
  loads = loads.SetSection 0 ∷ loads.SetPc 0 (number 4096) ∷ loads.One (items.Literal (0x4E ∷ 0x71 ∷ 0x4E ∷ 0x75 ∷ [])) ∷ [];
  start = Some (number 4096);
}

pub small_is_valid : IsValid small
unfolding weight
small_is_valid = refl

form : written small
    ≡ 0xe0 ∷ 0x5 ∷ 0x36 ∷ 0x38 ∷ 0x30 ∷ 0x30 ∷ 0x30 ∷ 0x1 ∷ 0x41 ∷ 0xec ∷ 0x8 ∷ 0x4 ∷ 0xcd ∷ 0xe2 ∷ 0xd7 ∷ 0x0 ∷ 0x84 ∷ 0x0 ∷ 0x0 ∷ 0x0 ∷ 0x0 ∷ 0xe2 ∷
    0xd7 ∷ 0x1 ∷ 0x84 ∷ 0x0 ∷ 0x0 ∷ 0x0 ∷ 0x0 ∷ 0xe2 ∷ 0xd7 ∷ 0x2 ∷ 0x84 ∷ 0x0 ∷ 0x0 ∷ 0x0 ∷ 0x4d ∷ 0xe2 ∷ 0xd7 ∷ 0x3 ∷ 0x84 ∷ 0x0 ∷ 0x0 ∷ 0x0 ∷
    0x0 ∷ 0xe2 ∷ 0xd7 ∷ 0x4 ∷ 0x84 ∷ 0x0 ∷ 0x0 ∷ 0x0 ∷ 0x0 ∷ 0xe2 ∷ 0xd7 ∷ 0x5 ∷ 0x84 ∷ 0x0 ∷ 0x0 ∷ 0x0 ∷ 0x64 ∷ 0xe2 ∷ 0xd7 ∷ 0x6 ∷ 0x84 ∷ 0x0 ∷
    0x0 ∷ 0x0 ∷ 0x72 ∷ 0xe2 ∷ 0xd7 ∷ 0x7 ∷ 0x84 ∷ 0x0 ∷ 0x0 ∷ 0x0 ∷ 0x79 ∷ 0xe6 ∷ 0x1 ∷ 0xc1 ∷ 0xd3 ∷ 0xd0 ∷ 0x4 ∷ 0x63 ∷ 0x6f ∷ 0x64 ∷ 0x65 ∷
    0xe7 ∷ 0x1 ∷ 0x2 ∷ 0xe2 ∷ 0xd3 ∷ 0x1 ∷ 0x4 ∷ 0xe2 ∷ 0xcc ∷ 0x1 ∷ 0x82 ∷ 0x10 ∷ 0x0 ∷ 0xe5 ∷ 0x1 ∷ 0xe2 ∷ 0xd0 ∷ 0x1 ∷ 0x82 ∷ 0x10 ∷ 0x0 ∷
    0xed ∷ 0x4 ∷ 0x4e ∷ 0x71 ∷ 0x4e ∷ 0x75 ∷ 0xe2 ∷ 0xc7 ∷ 0xbe ∷ 0x82 ∷ 0x10 ∷ 0x0 ∷ 0xbf ∷ 0xe1 ∷ []
form = refl

weighs : weight small ≡ 298
unfolding weight
weighs = refl

-- a field of nine bytes
wide : first_defect (record small { loads = loads.SetSection 0 ∷ loads.One (items.Field kinds.Either 9 (number 0)) ∷ [] }) ≡ Some d.FieldSize
wide = refl

-- a variable of a section that is not there goes before its being a program counter
other_counter : first_defect (record small { loads = loads.SetSection 0 ∷ loads.One (items.Field kinds.Either 4 (variable letters.P 1)) ∷ [] })
    ≡ Some d.Position
other_counter = refl

-- a program counter in the start address
start_counter : first_defect (record small { start = Some (variable letters.P 0) }) ≡ Some d.MisplacedP
start_counter = refl

-- an item before the first section is set
early : first_defect (record small { loads = loads.One (items.Literal []) ∷ [] }) ≡ Some d.NoSection
early = refl
