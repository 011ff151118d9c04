-- The row that a value of the code states.
use Rattle.std.specs.Prelude.{◌≡◌, List, [], ◌∷◌, Some, None}
use Rattle.mufom_build.specs.declared.order.Kind.{Kind}
use Rattle.mufom_build.specs.declared.order.Kind.TheVariants as kinds
use Rattle.mufom_build.specs.declared.row.Row.{Row as ReadRow}
use Rattle.mufom_build.specs.declared.row.Row.TheVariants as read
use Rattle.mufom_build.specs.Rows.{on_module, on_section, on_public, on_note, on_reference, on_block, on_end, on_name}
use Rattle.mufom_build.specs.Rows.{on_value, on_select, on_counter, on_repeat, on_start, Row, extension_rows, environment_rows, item_row}

-- the one row that a value states, or none for an extension or an environment of no bytes
abbrev pub shown : ReadRow → List Row
shown (read.Title title) = (on_module, (title.name, title.processor, title.maus, title.order)) ∷ []
shown (read.Extension bytes) = extension_rows bytes
shown (read.Environment bytes) = environment_rows bytes
shown (read.Section section) = (on_section, section) ∷ []
shown (read.Public name value) = (on_public, (name, value)) ∷ []
shown (read.Reference name weak) = (on_reference, (name, weak)) ∷ []
shown (read.Note note) = (on_note, (None, note)) ∷ []
shown (read.DebugNote name note) = (on_note, (Some name, note)) ∷ []
shown (read.Block head name) = (on_block, (head, name)) ∷ []
shown (read.End value) = (on_end, value) ∷ []
shown (read.Name name) = (on_name, name) ∷ []
shown (read.Value name value) = (on_value, (name, value)) ∷ []
shown (read.Select section) = (on_select, section) ∷ []
shown (read.Counter section value) = (on_counter, (section, value)) ∷ []
shown (read.Item item) = item_row item ∷ []
shown (read.Repeat times) = (on_repeat, times) ∷ []
shown (read.Start value) = (on_start, value) ∷ []

-- The value states this row.
abbrev pub Shows : ReadRow → Row → Type 0
Shows value r = shown value ≡ r ∷ []

-- the kind of a value
abbrev pub shown_kind : ReadRow → Kind
shown_kind (read.Title title) = kinds.Title
shown_kind (read.Extension bytes) = kinds.Extension
shown_kind (read.Environment bytes) = kinds.Environment
shown_kind (read.Section section) = kinds.Section
shown_kind (read.Public name value) = kinds.Public
shown_kind (read.Reference name weak) = kinds.Reference
shown_kind (read.Note note) = kinds.Note
shown_kind (read.DebugNote name note) = kinds.Debug
shown_kind (read.Block head name) = kinds.Debug
shown_kind (read.End None) = kinds.End
shown_kind (read.End (Some value)) = kinds.EndWithValue
shown_kind (read.Name name) = kinds.Debug
shown_kind (read.Value name value) = kinds.Debug
shown_kind (read.Select section) = kinds.Load
shown_kind (read.Counter section value) = kinds.Load
shown_kind (read.Item item) = kinds.Item
shown_kind (read.Repeat times) = kinds.Load
shown_kind (read.Start value) = kinds.Start
