-- A module with two debug blocks, names, a note and a value: the bytes of its debug part are 48, and all bytes are its file.
use Rattle.std.proofs.Common.{◌≡◌, ℕ, false, List, [], ◌∷◌, Some, None, refl, inl, inr, rules}
use Rattle.mufom_expr.specs.Tree.{number, variable, two, plus}
use Rattle.mufom_expr.specs.declared.token.Letter.TheVariants as letters
use Rattle.mufom_records.specs.declared.record.Record.TheVariants as r
use Rattle.mufom_records.specs.declared.record.BlockTail.TheVariants as tail
use Rattle.mufom_records.specs.Fields.{span_at, items_of}
use Rattle.mufom_sections.specs.declared.section.Purpose.TheVariants as purposes
use Rattle.mufom_debug.specs.declared.item.BlockHead.TheVariants as heads
use Rattle.mufom_debug.specs.declared.item.DebugItem.{DebugItem, Block as block_item, Name as name_item, Note as note_item, Value as value_item, the_lemmas}
use Rattle.mufom_debug.specs.Marks.{DebugMark, block_begin, block_end, name_mark, note_mark, value_mark, marks_of}
use Rattle.mufom_module.specs.Contents.{HeadAndEnd, blocks_of}
use Rattle.mufom_module.specs.declared.module.Order.TheVariants as orders
use Rattle.mufom_module.specs.declared.module.Parts.{Parts}
use Rattle.mufom_module.specs.Written.{weight}
use Rattle.mufom_module.specs.Defects.{IsValid}
use Rattle.mufom_module.specs.Grammar.{FileParts, SpellsModule}
use Rattle.mufom_module.proofs.Cutting.{spelled}
use Rattle.mufom_module.proofs.WorkedFile.{begin_of, lettered_descriptor, offsets_from, spells, with_debug}

-- the function inside the block of the module
abbrev inner : List DebugItem
inner = name_item (0x6C ∷ [])
    ∷ note_item 1 (record { type_index = 0; attribute = 7; numbers = items_of (12 ∷ 0 ∷ []) })
    ∷ value_item 1 (two plus (variable letters.R 0) (number 2))
    ∷ []

abbrev outer : List DebugItem
outer = name_item (0x78 ∷ [])
    ∷ block_item (record {
      head = heads.Global 0 0 (variable letters.R 0);
      name = 0x6D ∷ 0x61 ∷ 0x69 ∷ 0x6E ∷ [];
      items = inner;
      end =
          Some (two plus (variable letters.R 0) (number 15));
    })
    ∷ []

abbrev all_items : List DebugItem
all_items = block_item (record { head = heads.Module; name = 0x70 ∷ 0x72 ∷ 0x6F ∷ 0x67 ∷ []; items = outer; end = None }) ∷ []

abbrev debugged : Parts
debugged = record {
  processor = 0x36 ∷ 0x38 ∷ 0x30 ∷ 0x30 ∷ 0x30 ∷ [];
  name = 0x41 ∷ [];
  maus = 4;
  order = orders.Most;
  ext = [];
  env = [];
  sections = record { name = 0x63 ∷ 0x6F ∷ 0x64 ∷ 0x65 ∷ []; absolute = false; purpose = Some purposes.Code; size = 16; align = 1; base = None } ∷ [];
  names = record { publics = []; references = [] };
  debug = all_items;
  loads = [];
  start = None;
}

abbrev all_marks : List DebugMark
all_marks = block_begin heads.Module (0x70 ∷ 0x72 ∷ 0x6F ∷ 0x67 ∷ [])
    ∷ name_mark (0x78 ∷ [])
    ∷ block_begin (heads.Global 0 0 (variable letters.R 0)) (0x6D ∷ 0x61 ∷ 0x69 ∷ 0x6E ∷ [])
    ∷ name_mark (0x6C ∷ [])
    ∷ note_mark 1 (record { type_index = 0; attribute = 7; numbers = items_of (12 ∷ 0 ∷ []) })
    ∷ value_mark 1 (two plus (variable letters.R 0) (number 2))
    ∷ block_end (Some (two plus (variable letters.R 0) (number 15)))
    ∷ block_end None
    ∷ []

marks_are : marks_of all_items ≡ all_marks
marks_are = search (rules, the_lemmas)

abbrev all_blocks : List HeadAndEnd
all_blocks = (heads.Module, None) ∷ (heads.Global 0 0 (variable letters.R 0), Some (two plus (variable letters.R 0) (number 15))) ∷ []

blocks_are : blocks_of all_items ≡ all_blocks
blocks_are = search (rules, the_lemmas)

debugged_is_valid : IsValid debugged
unfolding weight
debugged_is_valid = rw (marks_are, blocks_are) refl

abbrev debugged_bytes : List ℕ
debugged_bytes =
    0xE0 ∷ 0x05 ∷ 0x36 ∷ 0x38 ∷ 0x30 ∷ 0x30 ∷ 0x30 ∷ 0x01 ∷ 0x41 ∷ 0xEC ∷ 0x08 ∷ 0x04 ∷ 0xCD ∷ 0xE2 ∷ 0xD7 ∷ 0x00 ∷ 0x84 ∷ 0x00 ∷ 0x00 ∷ 0x00 ∷ 0x00 ∷
    0xE2 ∷ 0xD7 ∷ 0x01 ∷ 0x84 ∷ 0x00 ∷ 0x00 ∷ 0x00 ∷ 0x00 ∷ 0xE2 ∷ 0xD7 ∷ 0x02 ∷ 0x84 ∷ 0x00 ∷ 0x00 ∷ 0x00 ∷ 0x4D ∷ 0xE2 ∷ 0xD7 ∷ 0x03 ∷ 0x84 ∷
    0x00 ∷ 0x00 ∷ 0x00 ∷ 0x00 ∷ 0xE2 ∷ 0xD7 ∷ 0x04 ∷ 0x84 ∷ 0x00 ∷ 0x00 ∷ 0x00 ∷ 0x5A ∷ 0xE2 ∷ 0xD7 ∷ 0x05 ∷ 0x84 ∷ 0x00 ∷ 0x00 ∷ 0x00 ∷ 0x00 ∷
    0xE2 ∷ 0xD7 ∷ 0x06 ∷ 0x84 ∷ 0x00 ∷ 0x00 ∷ 0x00 ∷ 0x00 ∷ 0xE2 ∷ 0xD7 ∷ 0x07 ∷ 0x84 ∷ 0x00 ∷ 0x00 ∷ 0x00 ∷ 0x8A ∷ 0xE6 ∷ 0x01 ∷ 0xC3 ∷ 0xD0 ∷
    0x04 ∷ 0x63 ∷ 0x6F ∷ 0x64 ∷ 0x65 ∷ 0xE2 ∷ 0xD3 ∷ 0x01 ∷ 0x10 ∷ 0xF8 ∷ 0x03 ∷ 0x00 ∷ 0x04 ∷ 0x70 ∷ 0x72 ∷ 0x6F ∷ 0x67 ∷ 0xF0 ∷ 0x20 ∷ 0x01 ∷
    0x78 ∷ 0xF8 ∷ 0x04 ∷ 0x00 ∷ 0x04 ∷ 0x6D ∷ 0x61 ∷ 0x69 ∷ 0x6E ∷ 0x00 ∷ 0x00 ∷ 0xD2 ∷ 0x01 ∷ 0xF0 ∷ 0x21 ∷ 0x01 ∷ 0x6C ∷ 0xF1 ∷ 0xCE ∷ 0x21 ∷
    0x00 ∷ 0x07 ∷ 0x0C ∷ 0x00 ∷ 0xE2 ∷ 0xCE ∷ 0x21 ∷ 0xD2 ∷ 0x01 ∷ 0x02 ∷ 0xA5 ∷ 0xF9 ∷ 0xD2 ∷ 0x01 ∷ 0x0F ∷ 0xA5 ∷ 0xF9 ∷ 0xE1 ∷ []

abbrev debugged_file : FileParts
debugged_file = record {
  begin = begin_of (0x41 ∷ []);
  descriptor = lettered_descriptor;
  offsets = offsets_from 0 (0 ∷ 0 ∷ 77 ∷ 0 ∷ 90 ∷ 0 ∷ 0 ∷ 138 ∷ []);
  extension = [];
  environment = [];
  sections = spelled (r.SectionType 1 false (Some 0xD0) (span_at 5 4) None None None) (0xE6 ∷ 0x01 ∷ 0xC3 ∷ 0xD0 ∷ 0x04 ∷ 0x63 ∷ 0x6F ∷ 0x64 ∷ 0x65 ∷ [])
      ∷ spelled (r.SectionSize 1 16) (0xE2 ∷ 0xD3 ∷ 0x01 ∷ 0x10 ∷ [])
      ∷ [];
  externals = [];
  debug = spelled (r.BlockBegin 3 0 (span_at 4 4) tail.Module) (0xF8 ∷ 0x03 ∷ 0x00 ∷ 0x04 ∷ 0x70 ∷ 0x72 ∷ 0x6F ∷ 0x67 ∷ [])
      ∷ spelled (r.DebugName 32 (span_at 3 1)) (0xF0 ∷ 0x20 ∷ 0x01 ∷ 0x78 ∷ [])
      ∷ spelled (r.BlockBegin 4 0 (span_at 4 4) (tail.Scope 0 0 (span_at 10 2)))
      (0xF8 ∷ 0x04 ∷ 0x00 ∷ 0x04 ∷ 0x6D ∷ 0x61 ∷ 0x69 ∷ 0x6E ∷ 0x00 ∷ 0x00 ∷ 0xD2 ∷ 0x01 ∷ [])
      ∷ spelled (r.DebugName 33 (span_at 3 1)) (0xF0 ∷ 0x21 ∷ 0x01 ∷ 0x6C ∷ [])
      ∷ spelled (r.DebugNote 33 0 7 (items_of (12 ∷ 0 ∷ []))) (0xF1 ∷ 0xCE ∷ 0x21 ∷ 0x00 ∷ 0x07 ∷ 0x0C ∷ 0x00 ∷ [])
      ∷ spelled (r.DebugValue 33 (span_at 3 4)) (0xE2 ∷ 0xCE ∷ 0x21 ∷ 0xD2 ∷ 0x01 ∷ 0x02 ∷ 0xA5 ∷ [])
      ∷ spelled (r.BlockEnd (Some (span_at 1 4))) (0xF9 ∷ 0xD2 ∷ 0x01 ∷ 0x0F ∷ 0xA5 ∷ [])
      ∷ spelled (r.BlockEnd None) (0xF9 ∷ [])
      ∷ [];
  skipped = [];
  loads = [];
  trailer = [];
}

debugged_spells : SpellsModule debugged debugged_bytes with_debug
debugged_spells = spells debugged debugged_bytes with_debug debugged_file debugged_is_valid
    (inr (refl, refl), (inr (refl, refl), (inl refl, (inr (refl, refl), (inl refl, (inr (refl, refl), (inr (refl, refl), refl)))))))
    (refl, refl, refl, refl, (refl, refl, refl), (refl, refl, refl), (refl, refl, refl), (refl, refl, refl), (refl, refl, refl), refl)
    (refl, refl, refl)
    ((refl, refl), (refl, refl, inl refl), refl, refl, refl, refl, refl, marks_are, refl, refl)
