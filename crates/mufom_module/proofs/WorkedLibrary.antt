-- A relocatable module without raw parts and without a start, record by record: its 111 bytes are its file.
use Rattle.std.proofs.Common.{ℕ, false, List, [], ◌∷◌, Some, None, refl, inl, inr}
use Rattle.mufom_expr.specs.Tree.{variable}
use Rattle.mufom_expr.specs.declared.token.Letter.TheVariants as letters
use Rattle.mufom_records.specs.declared.record.Record.TheVariants as r
use Rattle.mufom_records.specs.Fields.{span_at}
use Rattle.mufom_sections.specs.declared.section.Purpose.TheVariants as purposes
use Rattle.mufom_loads.specs.declared.load.Item.TheVariants as items
use Rattle.mufom_loads.specs.declared.load.Load.TheVariants as loads
use Rattle.mufom_module.specs.declared.module.Order.TheVariants as orders
use Rattle.mufom_module.specs.declared.module.Parts.{Parts}
use Rattle.mufom_module.specs.Written.{weight}
use Rattle.mufom_module.specs.Defects.{IsValid}
use Rattle.mufom_module.specs.Grammar.{FileParts, SpellsModule}
use Rattle.mufom_module.proofs.Cutting.{spelled}
use Rattle.mufom_module.proofs.WorkedFile.{begin_of, plain_descriptor, offsets_from, spells, with_debug}

abbrev library : Parts
library = record {
  processor = 0x36 ∷ 0x38 ∷ 0x30 ∷ 0x30 ∷ 0x30 ∷ [];
  name = 0x6C ∷ 0x69 ∷ 0x62 ∷ [];
  maus = 4;
  order = orders.Most;
  ext = [];
  env = [];
  sections = record { name = 0x2E ∷ 0x74 ∷ 0x65 ∷ 0x78 ∷ 0x74 ∷ []; absolute = false; purpose = Some purposes.Code; size = 2; align = 1; base = None } ∷ [];
  names = record {
    publics = record { name = 0x65 ∷ 0x78 ∷ 0x69 ∷ 0x74 ∷ []; value = variable letters.R 0; notes = [] } ∷ [];
    references = [];
  };
  debug = [];
  loads = loads.SetSection 0 ∷ loads.One (items.Literal (0x4E ∷ 0x75 ∷ [])) ∷ [];
  start = None;
}

library_is_valid : IsValid library
unfolding weight
library_is_valid = refl

abbrev library_bytes : List ℕ
library_bytes =
    0xE0 ∷ 0x05 ∷ 0x36 ∷ 0x38 ∷ 0x30 ∷ 0x30 ∷ 0x30 ∷ 0x03 ∷ 0x6C ∷ 0x69 ∷ 0x62 ∷ 0xEC ∷ 0x08 ∷ 0x04 ∷ 0xE2 ∷ 0xD7 ∷ 0x00 ∷ 0x84 ∷ 0x00 ∷ 0x00 ∷ 0x00 ∷
    0x00 ∷ 0xE2 ∷ 0xD7 ∷ 0x01 ∷ 0x84 ∷ 0x00 ∷ 0x00 ∷ 0x00 ∷ 0x00 ∷ 0xE2 ∷ 0xD7 ∷ 0x02 ∷ 0x84 ∷ 0x00 ∷ 0x00 ∷ 0x00 ∷ 0x4E ∷ 0xE2 ∷ 0xD7 ∷ 0x03 ∷
    0x84 ∷ 0x00 ∷ 0x00 ∷ 0x00 ∷ 0x5C ∷ 0xE2 ∷ 0xD7 ∷ 0x04 ∷ 0x84 ∷ 0x00 ∷ 0x00 ∷ 0x00 ∷ 0x00 ∷ 0xE2 ∷ 0xD7 ∷ 0x05 ∷ 0x84 ∷ 0x00 ∷ 0x00 ∷ 0x00 ∷
    0x68 ∷ 0xE2 ∷ 0xD7 ∷ 0x06 ∷ 0x84 ∷ 0x00 ∷ 0x00 ∷ 0x00 ∷ 0x00 ∷ 0xE2 ∷ 0xD7 ∷ 0x07 ∷ 0x84 ∷ 0x00 ∷ 0x00 ∷ 0x00 ∷ 0x6E ∷ 0xE6 ∷ 0x01 ∷ 0xC3 ∷
    0xD0 ∷ 0x05 ∷ 0x2E ∷ 0x74 ∷ 0x65 ∷ 0x78 ∷ 0x74 ∷ 0xE2 ∷ 0xD3 ∷ 0x01 ∷ 0x02 ∷ 0xE8 ∷ 0x20 ∷ 0x04 ∷ 0x65 ∷ 0x78 ∷ 0x69 ∷ 0x74 ∷ 0xE2 ∷ 0xC9 ∷ 0x20 ∷
    0xD2 ∷ 0x01 ∷ 0xE5 ∷ 0x01 ∷ 0xED ∷ 0x02 ∷ 0x4E ∷ 0x75 ∷ 0xE1 ∷ []

abbrev library_file : FileParts
library_file = record {
  begin = begin_of (0x6C ∷ 0x69 ∷ 0x62 ∷ []);
  descriptor = plain_descriptor;
  offsets = offsets_from 0 (0 ∷ 0 ∷ 78 ∷ 92 ∷ 0 ∷ 104 ∷ 0 ∷ 110 ∷ []);
  extension = [];
  environment = [];
  sections = spelled (r.SectionType 1 false (Some 0xD0) (span_at 5 5) None None None) (0xE6 ∷ 0x01 ∷ 0xC3 ∷ 0xD0 ∷ 0x05 ∷ 0x2E ∷ 0x74 ∷ 0x65 ∷ 0x78 ∷ 0x74 ∷ [])
      ∷ spelled (r.SectionSize 1 2) (0xE2 ∷ 0xD3 ∷ 0x01 ∷ 0x02 ∷ [])
      ∷ [];
  externals = spelled (r.PublicName 32 (span_at 3 4)) (0xE8 ∷ 0x20 ∷ 0x04 ∷ 0x65 ∷ 0x78 ∷ 0x69 ∷ 0x74 ∷ [])
      ∷ spelled (r.PublicValue 32 (span_at 3 2)) (0xE2 ∷ 0xC9 ∷ 0x20 ∷ 0xD2 ∷ 0x01 ∷ [])
      ∷ [];
  debug = [];
  skipped = [];
  loads = spelled (r.SetSection 1) (0xE5 ∷ 0x01 ∷ [])
      ∷ spelled (r.Constant (span_at 2 2)) (0xED ∷ 0x02 ∷ 0x4E ∷ 0x75 ∷ [])
      ∷ [];
  trailer = [];
}

library_spells : SpellsModule library library_bytes with_debug
library_spells = spells library library_bytes with_debug library_file library_is_valid
    (inr (refl, refl), (inr (refl, refl), (inl refl, (inl refl, (inr (refl, refl), (inl refl, (inr (refl, refl), refl)))))))
    (refl, refl, refl, refl, (refl, refl, refl), (refl, refl, refl), (refl, refl, refl), (refl, refl, refl), (refl, refl, refl), refl)
    (refl, refl, refl)
    ((refl, refl), (refl, refl, inr refl), refl, refl, refl, refl, refl, refl, refl, refl)
