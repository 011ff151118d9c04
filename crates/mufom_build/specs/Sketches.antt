-- An incomplete module, as the rows of a listing build it one after another.
use Rattle.std.specs.Prelude.{◌≡◌, ◌<◌, List, [], ◌∷◌, ◌++◌, length, drop, map, flat_map, Option, Some, None, is_some, true}
use Rattle.mufom_names.specs.declared.name.Note.{Note}
use Rattle.mufom_names.specs.declared.name.Public.{Public}
use Rattle.mufom_names.specs.declared.name.Reference.{Reference}
use Rattle.mufom_loads.specs.declared.load.Item.{Item}
use Rattle.mufom_loads.specs.declared.load.Item.TheVariants.{Literal, Field}
use Rattle.mufom_loads.specs.declared.load.Load.{Load}
use Rattle.mufom_loads.specs.declared.load.Load.TheVariants.{SetSection, SetPc, One, Repeat}
use Rattle.mufom_expr.specs.Tree.{Tree}
use Rattle.mufom_debug.specs.Marks.{DebugMark, block_begin, block_end, name_mark, note_mark, value_mark, closes, joined, names_after_all}
use Rattle.mufom_module.specs.declared.module.Parts.{Parts}
use Rattle.mufom_text.specs.Show.{depth_after_all}
use Rattle.mufom_build.specs.declared.draft.OpenRepeat.{OpenRepeat}
use Rattle.mufom_build.specs.declared.order.Stage.{Stage}
use Rattle.mufom_build.specs.declared.order.Stage.TheVariants as stages
use Rattle.mufom_build.specs.Order.{State, stage_number}
use Rattle.mufom_build.specs.Rows.{on_module, on_extension, on_environment, on_section, on_public, on_note, on_reference, on_block, on_end}
use Rattle.mufom_build.specs.Rows.{on_name, on_value, on_select, on_counter, on_bytes, on_field, on_repeat, on_start, Row}
use Rattle.mufom_build.specs.Rows.{extension_rows, environment_rows, section_row, public_rows, reference_rows, mark_row, item_row, load_rows, start_rows}

-- The parts of a module so far, with its debug items as a list of records. A repeat that is still open is not a load yet.
pub record Sketch : Type 0 where
  pub stage : Stage
  pub parts : Parts
  pub marks : List DebugMark
  pub repeat : Option OpenRepeat

-- ---- its rows, and the state of the listing

-- none before the first row
abbrev pub title_rows : Stage → Parts → List Row
title_rows stages.Nothing m = []
title_rows _ m = (on_module, (m.name, m.processor, m.maus, m.order)) ∷ []

abbrev pub repeat_rows : Option OpenRepeat → List Row
repeat_rows None = []
repeat_rows (Some r) = (on_repeat, r.count) ∷ map item_row r.items

-- the rows of each part, by the numbers of the stages from 0
abbrev pub rows_by_part : Sketch → List (List Row)
rows_by_part k = title_rows k.stage k.parts ∷ extension_rows k.parts.ext ∷ environment_rows k.parts.env ∷ map section_row k.parts.sections
    ∷ flat_map public_rows k.parts.names.publics ∷ flat_map reference_rows k.parts.names.references ∷ map mark_row k.marks
    ∷ (flat_map load_rows k.parts.loads ++ repeat_rows k.repeat) ∷ start_rows k.parts.start ∷ []

-- The rows that a sketch states.
abbrev pub sketch_rows : Sketch → List Row
sketch_rows k = joined (rows_by_part k)

-- The state of a listing after these rows.
abbrev pub sketch_state : Sketch → State
sketch_state k = record {
  stage = k.stage;
  sections = length k.parts.sections;
  publics = length k.parts.names.publics;
  references = length k.parts.names.references;
  names = names_after_all 0 k.marks;
  depth = depth_after_all 0 k.marks;
  repeats = is_some k.repeat;
}

abbrev pub HasLast : {X : Type 0} → List X → Type 0
HasLast {X} xs = (rest : List X) × (x : X) × (xs ≡ rest ++ x ∷ [])

-- The stage of a sketch is that of its last row: debug items if blocks are open, loads if a repeat is. Its debug records end no more blocks than they
-- begin.
pub record IsOrderly (k : Sketch) : Type 0 where
  pub later : joined (drop (stage_number k.stage) (rows_by_part k)) ≡ []
  pub public : k.stage ≡ stages.Publics → HasLast k.parts.names.publics
  pub reference : k.stage ≡ stages.References → HasLast k.parts.names.references
  pub in_debug : 0 < depth_after_all 0 k.marks → k.stage ≡ stages.Debug
  pub in_loads : is_some k.repeat ≡ true → k.stage ≡ stages.Loads
  pub nested : (rest : List DebugMark) → closes 0 (k.marks ++ rest) ≡ closes (depth_after_all 0 k.marks) rest

-- ---- the effect of a row

-- the last element is changed
abbrev pub with_last : {X : Type 0} → (X → X) → List X → List X
with_last change [] = []
with_last change (x ∷ []) = change x ∷ []
with_last change (x ∷ (y ∷ xs)) = x ∷ with_last change (y ∷ xs)

abbrev pub noted_public : Note → Public → Public
noted_public note p = record p { notes = p.notes ++ note ∷ [] }

abbrev pub noted_reference : Note → Reference → Reference
noted_reference note r = record r { notes = r.notes ++ note ∷ [] }

abbrev pub put_public : Sketch → Public → Sketch
put_public k p = record k {
  stage = stages.Publics;
  parts = record k.parts { names = record k.parts.names { publics = k.parts.names.publics ++ p ∷ [] } };
}

abbrev pub put_reference : Sketch → Reference → Sketch
put_reference k r = record k {
  stage = stages.References;
  parts = record k.parts { names = record k.parts.names { references = k.parts.names.references ++ r ∷ [] } };
}

-- a note is added to the last name
abbrev pub put_note : Stage → Sketch → Note → Sketch
put_note stages.Publics k note = record k {
  parts = record k.parts { names = record k.parts.names { publics = with_last (noted_public note) k.parts.names.publics } };
}
put_note _ k note = record k {
  parts = record k.parts { names = record k.parts.names { references = with_last (noted_reference note) k.parts.names.references } };
}

abbrev pub put_mark : Sketch → DebugMark → Sketch
put_mark k mark = record k { stage = stages.Debug; marks = k.marks ++ mark ∷ [] }

abbrev pub put_load : Sketch → Load → Sketch
put_load k load = record k { stage = stages.Loads; parts = record k.parts { loads = k.parts.loads ++ load ∷ [] } }

-- an item is added: to the repeat if one is open, otherwise as a load
abbrev pub put_item : Option OpenRepeat → Sketch → Item → Sketch
put_item None k item = put_load k (One item)
put_item (Some r) k item = record k { stage = stages.Loads; repeat = Some (record { count = r.count; items = r.items ++ item ∷ [] }) }

-- the repeat ends if one is open, otherwise a block
abbrev pub put_end : Option OpenRepeat → Sketch → Option Tree → Sketch
put_end None k end = record k { marks = k.marks ++ block_end end ∷ [] }
put_end (Some r) k end = record k { parts = record k.parts { loads = k.parts.loads ++ Repeat r.count r.items ∷ [] }; repeat = None }

-- The sketch with one more row, which must be one that may come next.
abbrev pub put : Sketch → Row → Sketch
put k (on_module, (name, processor, maus, order)) = record k {
  stage = stages.Module;
  parts = record k.parts { name = name; processor = processor; maus = maus; order = order };
}
put k (on_extension, (b, bytes)) = record k { stage = stages.Extension; parts = record k.parts { ext = b ∷ bytes } }
put k (on_environment, (b, bytes)) = record k { stage = stages.Environment; parts = record k.parts { env = b ∷ bytes } }
put k (on_section, s) = record k { stage = stages.Sections; parts = record k.parts { sections = k.parts.sections ++ s ∷ [] } }
put k (on_public, (name, value)) = put_public k (record { name = name; value = value; notes = [] })
put k (on_note, (None, note)) = put_note k.stage k note
put k (on_note, (Some place, note)) = put_mark k (note_mark place note)
put k (on_reference, (name, weak)) = put_reference k (record { name = name; weak = weak; notes = [] })
put k (on_block, (head, name)) = put_mark k (block_begin head name)
put k (on_end, end) = put_end k.repeat k end
put k (on_name, name) = put_mark k (name_mark name)
put k (on_value, (place, value)) = put_mark k (value_mark place value)
put k (on_select, place) = put_load k (SetSection place)
put k (on_counter, (place, value)) = put_load k (SetPc place value)
put k (on_bytes, bytes) = put_item k.repeat k (Literal bytes)
put k (on_field, (kind, size, value)) = put_item k.repeat k (Field kind size value)
put k (on_repeat, times) = record k { stage = stages.Loads; repeat = Some (record { count = times; items = [] }) }
put k (on_start, value) = record k { stage = stages.Start; parts = record k.parts { start = Some value } }
