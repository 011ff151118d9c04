-- A debug part of 48 bytes: its records are complete, belong to it, and are these marks.
use Rattle.std.proofs.Common.{◌≡◌, List, [], ◌∷◌, Some, None, refl}
use Rattle.mufom_expr.specs.Tree.{number, variable, two, plus}
use Rattle.mufom_expr.specs.declared.token.Letter.TheVariants as letters
use Rattle.mufom_expr.specs.Spelled.{Indexes}
use Rattle.mufom_records.specs.declared.record.Record.TheVariants as r
use Rattle.mufom_records.specs.declared.record.BlockTail.TheVariants as tail
use Rattle.mufom_records.specs.Fields.{span_at, items_of}
use Rattle.mufom_debug.specs.declared.item.BlockHead.TheVariants as heads
use Rattle.mufom_debug.specs.Marks.{block_begin, block_end, name_mark, note_mark, value_mark}
use Rattle.mufom_module.specs.SpelledRecords.{SpelledRecord, bytes_of, debug_name, declared}
use Rattle.mufom_module.specs.RecordParts.{debug_part}
use Rattle.mufom_module.specs.Gathered.{marks}
use Rattle.mufom_module.specs.Grammar.{IsPart}
use Rattle.mufom_module.proofs.Cutting.{spelled, is_part}
use Rattle.mufom_module.proofs.WorkedFile.{with_debug}

abbrev records : List SpelledRecord
records = spelled (r.BlockBegin 3 0 (span_at 4 4) tail.Module) (0xF8 ∷ 0x03 ∷ 0x00 ∷ 0x04 ∷ 0x70 ∷ 0x72 ∷ 0x6F ∷ 0x67 ∷ [])
    ∷ spelled (r.DebugName 32 (span_at 3 1)) (0xF0 ∷ 0x20 ∷ 0x01 ∷ 0x78 ∷ [])
    ∷ spelled (r.BlockBegin 4 0 (span_at 4 4) (tail.Scope 0 0 (span_at 10 2)))
    (0xF8 ∷ 0x04 ∷ 0x00 ∷ 0x04 ∷ 0x6D ∷ 0x61 ∷ 0x69 ∷ 0x6E ∷ 0x00 ∷ 0x00 ∷ 0xD2 ∷ 0x01 ∷ [])
    ∷ spelled (r.DebugName 33 (span_at 3 1)) (0xF0 ∷ 0x21 ∷ 0x01 ∷ 0x6C ∷ [])
    ∷ spelled (r.DebugNote 33 0 7 (items_of (12 ∷ 0 ∷ []))) (0xF1 ∷ 0xCE ∷ 0x21 ∷ 0x00 ∷ 0x07 ∷ 0x0C ∷ 0x00 ∷ [])
    ∷ spelled (r.DebugValue 33 (span_at 3 4)) (0xE2 ∷ 0xCE ∷ 0x21 ∷ 0xD2 ∷ 0x01 ∷ 0x02 ∷ 0xA5 ∷ [])
    ∷ spelled (r.BlockEnd (Some (span_at 1 4))) (0xF9 ∷ 0xD2 ∷ 0x01 ∷ 0x0F ∷ 0xA5 ∷ [])
    ∷ spelled (r.BlockEnd None) (0xF9 ∷ [])
    ∷ []

has_bytes : bytes_of records
    ≡ 0xF8 ∷ 0x03 ∷ 0x00 ∷ 0x04 ∷ 0x70 ∷ 0x72 ∷ 0x6F ∷ 0x67 ∷ 0xF0 ∷ 0x20 ∷ 0x01 ∷ 0x78 ∷ 0xF8 ∷ 0x04 ∷ 0x00 ∷ 0x04 ∷ 0x6D ∷ 0x61 ∷ 0x69 ∷ 0x6E ∷
    0x00 ∷ 0x00 ∷ 0xD2 ∷ 0x01 ∷ 0xF0 ∷ 0x21 ∷ 0x01 ∷ 0x6C ∷ 0xF1 ∷ 0xCE ∷ 0x21 ∷ 0x00 ∷ 0x07 ∷ 0x0C ∷ 0x00 ∷ 0xE2 ∷ 0xCE ∷ 0x21 ∷ 0xD2 ∷ 0x01 ∷ 0x02 ∷
    0xA5 ∷ 0xF9 ∷ 0xD2 ∷ 0x01 ∷ 0x0F ∷ 0xA5 ∷ 0xF9 ∷ []
has_bytes = refl

-- the data part begins after it
is_debug_part : IsPart with_debug debug_part records (0xE5 ∷ 0x01 ∷ 0xE1 ∷ [])
is_debug_part = is_part with_debug debug_part records (0xE5 ∷ 0x01 ∷ 0xE1 ∷ []) refl refl refl

abbrev indexes : Indexes
indexes = record { sections = 1 ∷ []; publics = []; references = []; debug_names = declared debug_name records }

gives : marks indexes records
    ≡ block_begin heads.Module (0x70 ∷ 0x72 ∷ 0x6F ∷ 0x67 ∷ [])
    ∷ name_mark (0x78 ∷ [])
    ∷ block_begin (heads.Global 0 0 (variable letters.R 0)) (0x6D ∷ 0x61 ∷ 0x69 ∷ 0x6E ∷ [])
    ∷ name_mark (0x6C ∷ [])
    ∷ note_mark 1 (record { type_index = 0; attribute = 7; numbers = items_of (12 ∷ 0 ∷ []) })
    ∷ value_mark 1 (two plus (variable letters.R 0) (number 2))
    ∷ block_end (Some (two plus (variable letters.R 0) (number 15)))
    ∷ block_end None
    ∷ []
gives = refl
