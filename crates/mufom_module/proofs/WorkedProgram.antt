-- A relocatable module with all parts except the debug part, record by record: its 164 bytes are its file.
use Rattle.std.proofs.Common.{ℕ, false, List, [], ◌∷◌, Some, None, refl, inl, inr}
use Rattle.mufom_expr.specs.Tree.{Tree, number, variable, two, plus, minus}
use Rattle.mufom_expr.specs.declared.token.Letter.TheVariants as letters
use Rattle.mufom_expr.specs.declared.token.FieldKind.TheVariants as kinds
use Rattle.mufom_records.specs.declared.record.Record.TheVariants as r
use Rattle.mufom_records.specs.Fields.{span_at, items_of}
use Rattle.mufom_sections.specs.declared.section.Purpose.TheVariants as purposes
use Rattle.mufom_loads.specs.declared.load.Item.TheVariants as items
use Rattle.mufom_loads.specs.declared.load.Load.TheVariants as loads
use Rattle.mufom_module.specs.declared.module.Order.TheVariants as orders
use Rattle.mufom_module.specs.declared.module.Parts.{Parts}
use Rattle.mufom_module.specs.Written.{weight}
use Rattle.mufom_module.specs.Defects.{IsValid}
use Rattle.mufom_module.specs.Grammar.{FileParts, SpellsModule}
use Rattle.mufom_module.proofs.Cutting.{spelled}
use Rattle.mufom_module.proofs.WorkedFile.{begin_of, plain_descriptor, offsets_from, spells, with_debug}

-- the base of the section and 4
abbrev entry : Tree
entry = two plus (variable letters.R 0) (number 4)

abbrev program : Parts
program = record {
  processor = 0x36 ∷ 0x38 ∷ 0x30 ∷ 0x30 ∷ 0x30 ∷ [];
  name = 0x70 ∷ 0x72 ∷ 0x6F ∷ 0x67 ∷ [];
  maus = 4;
  order = orders.Most;
  ext = 0xF0 ∷ 0x20 ∷ 0x00 ∷ [];
  env = 0xF0 ∷ 0x21 ∷ 0x00 ∷ [];
  sections = record { name = 0x2E ∷ 0x74 ∷ 0x65 ∷ 0x78 ∷ 0x74 ∷ []; absolute = false; purpose = Some purposes.Code; size = 12; align = 2; base = None } ∷ [];
  names = record {
    publics = record {
      name = 0x6D ∷ 0x61 ∷ 0x69 ∷ 0x6E ∷ [];
      value = entry;
      notes =
          record { type_index = 15; attribute = 19; numbers = items_of (1 ∷ []) } ∷ [];
    } ∷ [];
    references = record { name = 0x65 ∷ 0x78 ∷ 0x69 ∷ 0x74 ∷ []; weak = None; notes = [] } ∷ [];
  };
  debug = [];
  loads = loads.SetSection 0
      ∷ loads.SetPc 0 (variable letters.R 0)
      ∷ loads.One (items.Literal (0x4E ∷ 0x71 ∷ 0x4E ∷ 0x71 ∷ []))
      ∷ loads.One (items.Field kinds.Either 4 entry)
      ∷ loads.One (items.Field kinds.Signed 4 (two minus (variable letters.X 0) (variable letters.P 0)))
      ∷ [];
  start = Some entry;
}

program_is_valid : IsValid program
unfolding weight
program_is_valid = refl

abbrev program_bytes : List ℕ
program_bytes =
    0xE0 ∷ 0x05 ∷ 0x36 ∷ 0x38 ∷ 0x30 ∷ 0x30 ∷ 0x30 ∷ 0x04 ∷ 0x70 ∷ 0x72 ∷ 0x6F ∷ 0x67 ∷ 0xEC ∷ 0x08 ∷ 0x04 ∷ 0xE2 ∷ 0xD7 ∷ 0x00 ∷ 0x84 ∷ 0x00 ∷ 0x00 ∷
    0x00 ∷ 0x4F ∷ 0xE2 ∷ 0xD7 ∷ 0x01 ∷ 0x84 ∷ 0x00 ∷ 0x00 ∷ 0x00 ∷ 0x52 ∷ 0xE2 ∷ 0xD7 ∷ 0x02 ∷ 0x84 ∷ 0x00 ∷ 0x00 ∷ 0x00 ∷ 0x55 ∷ 0xE2 ∷ 0xD7 ∷
    0x03 ∷ 0x84 ∷ 0x00 ∷ 0x00 ∷ 0x00 ∷ 0x66 ∷ 0xE2 ∷ 0xD7 ∷ 0x04 ∷ 0x84 ∷ 0x00 ∷ 0x00 ∷ 0x00 ∷ 0x00 ∷ 0xE2 ∷ 0xD7 ∷ 0x05 ∷ 0x84 ∷ 0x00 ∷ 0x00 ∷
    0x00 ∷ 0x81 ∷ 0xE2 ∷ 0xD7 ∷ 0x06 ∷ 0x84 ∷ 0x00 ∷ 0x00 ∷ 0x00 ∷ 0x9B ∷ 0xE2 ∷ 0xD7 ∷ 0x07 ∷ 0x84 ∷ 0x00 ∷ 0x00 ∷ 0x00 ∷ 0xA3 ∷ 0xF0 ∷ 0x20 ∷
    0x00 ∷ 0xF0 ∷ 0x21 ∷ 0x00 ∷ 0xE6 ∷ 0x01 ∷ 0xC3 ∷ 0xD0 ∷ 0x05 ∷ 0x2E ∷ 0x74 ∷ 0x65 ∷ 0x78 ∷ 0x74 ∷ 0xE7 ∷ 0x01 ∷ 0x02 ∷ 0xE2 ∷ 0xD3 ∷ 0x01 ∷
    0x0C ∷ 0xE8 ∷ 0x20 ∷ 0x04 ∷ 0x6D ∷ 0x61 ∷ 0x69 ∷ 0x6E ∷ 0xF1 ∷ 0xC9 ∷ 0x20 ∷ 0x0F ∷ 0x13 ∷ 0x01 ∷ 0xE2 ∷ 0xC9 ∷ 0x20 ∷ 0xD2 ∷ 0x01 ∷ 0x04 ∷
    0xA5 ∷ 0xE9 ∷ 0x0B ∷ 0x04 ∷ 0x65 ∷ 0x78 ∷ 0x69 ∷ 0x74 ∷ 0xE5 ∷ 0x01 ∷ 0xE2 ∷ 0xD0 ∷ 0x01 ∷ 0xD2 ∷ 0x01 ∷ 0xE4 ∷ 0x04 ∷ 0x4E ∷ 0x71 ∷ 0x4E ∷
    0x71 ∷ 0xBE ∷ 0xD2 ∷ 0x01 ∷ 0x04 ∷ 0xA5 ∷ 0xBF ∷ 0xBA ∷ 0xD8 ∷ 0x0B ∷ 0xD0 ∷ 0x01 ∷ 0xA6 ∷ 0xBB ∷ 0xE2 ∷ 0xC7 ∷ 0xBE ∷ 0xD2 ∷ 0x01 ∷ 0x04 ∷ 0xA5 ∷
    0xBF ∷ 0xE1 ∷ []

abbrev program_file : FileParts
program_file = record {
  begin = begin_of (0x70 ∷ 0x72 ∷ 0x6F ∷ 0x67 ∷ []);
  descriptor = plain_descriptor;
  offsets = offsets_from 0 (79 ∷ 82 ∷ 85 ∷ 102 ∷ 0 ∷ 129 ∷ 155 ∷ 163 ∷ []);
  extension = 0xF0 ∷ 0x20 ∷ 0x00 ∷ [];
  environment = 0xF0 ∷ 0x21 ∷ 0x00 ∷ [];
  sections = spelled (r.SectionType 1 false (Some 0xD0) (span_at 5 5) None None None) (0xE6 ∷ 0x01 ∷ 0xC3 ∷ 0xD0 ∷ 0x05 ∷ 0x2E ∷ 0x74 ∷ 0x65 ∷ 0x78 ∷ 0x74 ∷ [])
      ∷ spelled (r.Alignment 1 2 None) (0xE7 ∷ 0x01 ∷ 0x02 ∷ [])
      ∷ spelled (r.SectionSize 1 12) (0xE2 ∷ 0xD3 ∷ 0x01 ∷ 0x0C ∷ [])
      ∷ [];
  externals = spelled (r.PublicName 32 (span_at 3 4)) (0xE8 ∷ 0x20 ∷ 0x04 ∷ 0x6D ∷ 0x61 ∷ 0x69 ∷ 0x6E ∷ [])
      ∷ spelled (r.PublicNote 32 15 19 (items_of (1 ∷ []))) (0xF1 ∷ 0xC9 ∷ 0x20 ∷ 0x0F ∷ 0x13 ∷ 0x01 ∷ [])
      ∷ spelled (r.PublicValue 32 (span_at 3 4)) (0xE2 ∷ 0xC9 ∷ 0x20 ∷ 0xD2 ∷ 0x01 ∷ 0x04 ∷ 0xA5 ∷ [])
      ∷ spelled (r.ReferenceName 11 (span_at 3 4)) (0xE9 ∷ 0x0B ∷ 0x04 ∷ 0x65 ∷ 0x78 ∷ 0x69 ∷ 0x74 ∷ [])
      ∷ [];
  debug = [];
  skipped = [];
  loads = spelled (r.SetSection 1) (0xE5 ∷ 0x01 ∷ [])
      ∷ spelled (r.SetPc 1 (span_at 3 2)) (0xE2 ∷ 0xD0 ∷ 0x01 ∷ 0xD2 ∷ 0x01 ∷ [])
      ∷ spelled r.Relocate (0xE4 ∷ [])
      ∷ spelled (r.ConstantItem (span_at 1 4)) (0x04 ∷ 0x4E ∷ 0x71 ∷ 0x4E ∷ 0x71 ∷ [])
      ∷ spelled (r.FieldItem kinds.Either (span_at 1 4) None) (0xBE ∷ 0xD2 ∷ 0x01 ∷ 0x04 ∷ 0xA5 ∷ 0xBF ∷ [])
      ∷ spelled (r.FieldItem kinds.Signed (span_at 1 5) None) (0xBA ∷ 0xD8 ∷ 0x0B ∷ 0xD0 ∷ 0x01 ∷ 0xA6 ∷ 0xBB ∷ [])
      ∷ [];
  trailer = spelled (r.Start (span_at 3 4)) (0xE2 ∷ 0xC7 ∷ 0xBE ∷ 0xD2 ∷ 0x01 ∷ 0x04 ∷ 0xA5 ∷ 0xBF ∷ [])
      ∷ [];
}

program_spells : SpellsModule program program_bytes with_debug
program_spells = spells program program_bytes with_debug program_file program_is_valid
    (inl refl, (inl refl, (inl refl, (inl refl, (inr (refl, refl), (inl refl, (inl refl, refl)))))))
    (refl, refl, refl, refl, (refl, refl, refl), (refl, refl, refl), (refl, refl, refl), (refl, refl, refl), (refl, refl, refl), refl)
    (refl, refl, refl)
    ((refl, refl), (refl, refl, inr refl), refl, refl, refl, refl, refl, refl, refl, refl)
