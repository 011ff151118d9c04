-- A worked debug part: its records, what they mean if the section is at 256, and the records of the location.
use Rattle.std.proofs.Common.{◌≡◌, List, [], ◌∷◌, ◌++◌, map, Some, None, refl, ap, rules}
use Rattle.std.specs.Prelude.{codes}
use Rattle.mufom_expr.specs.declared.token.Letter.TheVariants.{R}
use Rattle.mufom_expr.specs.Tree.{number, variable, two, plus}
use Rattle.mufom_names.specs.declared.name.Note.{Note}
use Rattle.mufom_debug.specs.declared.item.BlockHead.TheVariants as heads
use Rattle.mufom_debug.specs.declared.item.DebugItem.{DebugItem, Block as block_case, Name as name_case, Note as note_case, Value as value_case, the_lemmas}
use Rattle.mufom_debug.specs.Marks.{DebugMark, block_begin, block_end, name_mark, note_mark, value_mark, marks_of}
use Rattle.mufom_module.specs.declared.module.Parts.{Parts}
use Rattle.mufom_meaning.specs.Flat.{Sited}
use Rattle.mufom_meaning.specs.Values.{setting, value_within}
use Rattle.mufom_meaning.specs.Readings.{readings, MarkReading, mark_reading, module_head, global_head, begin_reading, end_reading, name_reading}
use Rattle.mufom_meaning.specs.Readings.{note_reading, value_reading}
use Rattle.mufom_meaning.specs.Location.{located_mark}
use Rattle.mufom_meaning.proofs.rows.Built.{a_module, relocatable, sections_at}

abbrev note : Note
note = record { type_index = 0; attribute = 7; numbers = record { items = 12 ∷ 0 ∷ [] } }

abbrev inner : DebugItem
inner = block_case (record {
  head = heads.Global 0 0 (variable R 0);
  name = codes "main";
  items = name_case (codes "l") ∷ note_case 1 note ∷ value_case 1 (two plus (variable R 0) (number 2)) ∷ [];
  end = Some (two plus (variable R 0) (number 15));
})

abbrev outer : DebugItem
outer = block_case (record { head = heads.Module; name = codes "prog"; items = name_case (codes "x") ∷ inner ∷ []; end = None })

abbrev debugged : Parts
debugged = record (a_module (relocatable (codes "code") 16 ∷ []) [] [] []) { debug = outer ∷ [] }

-- the records, if the expressions are made from those of the section's base
abbrev its_marks : List DebugMark
its_marks = block_begin heads.Module (codes "prog") ∷ name_mark (codes "x") ∷ block_begin (heads.Global 0 0 (variable R 0)) (codes "main") ∷ name_mark
    (codes "l")
    ∷ note_mark 1 note ∷ value_mark 1 (two plus (variable R 0) (number 2)) ∷ block_end (Some (two plus (variable R 0) (number 15))) ∷ block_end None ∷ []

has_marks : marks_of (outer ∷ []) ≡ its_marks
has_marks = search (rules, the_lemmas)

abbrev the_site : Sited
the_site = record { parts = debugged; first_section = 0; first_public = 0; first_name = 0 }

abbrev its_readings : List MarkReading
its_readings = begin_reading module_head (codes "prog") ∷ name_reading (codes "x") ∷ begin_reading (global_head 0 0 (Some 256))
    (codes "main") ∷ name_reading (codes "l")
    ∷ note_reading 1 note ∷ value_reading 1 (Some 258) ∷ end_reading (Some (Some 271)) ∷ end_reading None ∷ []

reads : (readings (debugged ∷ []) (sections_at (256 ∷ []))).debug ≡ its_readings
unfolding readings value_within
reads = ap (λ marks. map (mark_reading (setting (debugged ∷ []) (sections_at (256 ∷ []))) the_site) marks ++ []) has_marks

locates : map located_mark its_readings
    ≡ map (λ mark. Some mark) (block_begin heads.Module (codes "prog") ∷ name_mark (codes "x") ∷ block_begin (heads.Global 0 0 (number 256))
    (codes "main") ∷ name_mark (codes "l")
    ∷ note_mark 1 note ∷ value_mark 1 (number 258) ∷ block_end (Some (number 271)) ∷ block_end None ∷ [])
locates = refl
