-- The lines about files that are checked, and those about an address that is looked up.
use Rattle.std.specs.Prelude.{ℕ, ◌+◌, Bool, true, false, List, [], ◌∷◌, ◌++◌, length, filter, codes, Option, Some, None}
use Rattle.std.specs.Fmt.{decimal}
use Rattle.mufom_debug.specs.Marks.{DebugMark, block_begin, block_end, name_mark, note_mark, value_mark, marks_of}
use Rattle.mufom_module.specs.declared.module.Parts.{Parts}
use Rattle.mufom_addr.specs.declared.hit.FunctionHit.{FunctionHit}
use Rattle.mufom_addr.specs.declared.hit.LineHit.{LineHit}
use Rattle.mufom_addr.specs.declared.hit.Hit.{Hit}
use Rattle.mufom_text.specs.Image.{address}
pub use Rattle.mufom_text.specs.Words.{Text, line, quoted, quoted_byte, stands_for_itself}

-- the record is a debug item by itself: any record except the end of a block
abbrev pub is_item : DebugMark → Bool
is_item (block_begin head name) = true
is_item (block_end end) = false
is_item (name_mark name) = true
is_item (note_mark name note) = true
is_item (value_mark name value) = true

-- the number of debug items at all depths
abbrev pub item_count : List DebugMark → ℕ
item_count marks = length (filter is_item marks)

-- the text of a line after the name
abbrev pub counts_text : Parts → Text
counts_text m = codes ": sections " ++ decimal (length m.sections) ++ codes " publics " ++ decimal (length m.names.publics)
    ++ codes " references " ++ decimal (length m.names.references) ++ codes " loads " ++ decimal (length m.loads)
    ++ codes " debug " ++ decimal (item_count (marks_of m.debug))

-- the line of this module, from the file with this number
abbrev pub check_line : ℕ → Parts → Text
check_line number m = line (codes "file " ++ decimal number ++ codes " " ++ quoted m.name ++ counts_text m)

-- the lines of files that are numbered from `number` on
abbrev pub check_lines : ℕ → List Parts → Text
check_lines number [] = []
check_lines number (m ∷ ms) = check_line number m ++ check_lines (number + 1) ms

-- One line for each file, in their order.
abbrev pub check_text : List Parts → Text
check_text ms = check_lines 0 ms

-- ---- the lines about an address

-- the name of a source file, or `none`
abbrev pub source_text : Option (List ℕ) → Text
source_text None = codes "none"
source_text (Some name) = quoted name

-- addresses have the given number of units
abbrev pub function_line : ℕ → Option FunctionHit → Text
function_line maus None = line (codes "function none")
function_line maus (Some f) = line (codes "function " ++ decimal f.kind ++ codes " " ++ quoted f.name ++ codes " " ++ address maus f.begin
    ++ codes " " ++ address maus f.«end»)

abbrev pub source_line : ℕ → Option LineHit → Text
source_line maus None = line (codes "line none")
source_line maus (Some l) = line (codes "line " ++ decimal l.line ++ codes " " ++ address maus l.address ++ codes " source " ++ source_text l.source)

-- The line of the innermost function around an address, and that of the nearest source line.
abbrev pub hit_text : ℕ → Hit → Text
hit_text maus hit = function_line maus hit.function ++ source_line maus hit.line
