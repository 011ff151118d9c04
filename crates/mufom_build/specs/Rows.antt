-- The rows of a listing: the first word of each line with what else it states; and the rows of a module.
use Rattle.std.specs.Prelude.{ℕ, List, [], ◌∷◌, ◌++◌, map, flat_map, Option, Some, None, codes}
use Rattle.mufom_expr.specs.declared.token.FieldKind.{FieldKind}
use Rattle.mufom_expr.specs.Tree.{Tree}
use Rattle.mufom_sections.specs.declared.section.Section.{Section}
use Rattle.mufom_names.specs.declared.name.Note.{Note}
use Rattle.mufom_names.specs.declared.name.Weak.{Weak}
use Rattle.mufom_names.specs.declared.name.Public.{Public}
use Rattle.mufom_names.specs.declared.name.Reference.{Reference}
use Rattle.mufom_loads.specs.declared.load.Item.{Item}
use Rattle.mufom_loads.specs.declared.load.Item.TheVariants.{Literal, Field}
use Rattle.mufom_loads.specs.declared.load.Load.{Load}
use Rattle.mufom_loads.specs.declared.load.Load.TheVariants.{SetSection, SetPc, One, Repeat}
use Rattle.mufom_debug.specs.declared.item.BlockHead.{BlockHead}
use Rattle.mufom_debug.specs.Marks.{DebugMark, block_begin, block_end, name_mark, note_mark, value_mark, marks_of, kind_number}
use Rattle.mufom_module.specs.declared.module.Order.{Order}
use Rattle.mufom_module.specs.declared.module.Parts.{Parts}
use Rattle.mufom_text.specs.Words.{Text}
use Rattle.mufom_text.specs.Show.{order_letter, type_letters, purpose_letter, kind_text}
use Rattle.mufom_build_text.specs.Pieces.{Piece, gap, figure, position, count, name, digits, words, value_pieces}
use Rattle.mufom_build_text.specs.Pieces.{MOST_BYTE, MOST_POSITION, MOST_NUMBER}
use Rattle.mufom_build.specs.Lines.{Line, base_pieces, note_pieces, weak_pieces, head_pieces}
use Rattle.mufom_build.specs.Marked.{end_value_pieces, spaced_digits}

-- ---- the first word of a line

pub data Keyword : Type 0 where
  on_module : Keyword
  on_extension : Keyword
  on_environment : Keyword
  on_section : Keyword
  on_public : Keyword
  on_note : Keyword
  on_reference : Keyword
  on_block : Keyword
  on_end : Keyword
  on_name : Keyword
  on_value : Keyword
  on_select : Keyword
  on_counter : Keyword
  on_bytes : Keyword
  on_field : Keyword
  on_repeat : Keyword
  on_start : Keyword

abbrev pub word_of : Keyword → Text
word_of on_module = codes "module"
word_of on_extension = codes "extension"
word_of on_environment = codes "environment"
word_of on_section = codes "section"
word_of on_public = codes "public"
word_of on_note = codes "note"
word_of on_reference = codes "reference"
word_of on_block = codes "block"
word_of on_end = codes "end"
word_of on_name = codes "name"
word_of on_value = codes "value"
word_of on_select = codes "select"
word_of on_counter = codes "counter"
word_of on_bytes = codes "bytes"
word_of on_field = codes "field"
word_of on_repeat = codes "repeat"
word_of on_start = codes "start"

-- ---- the rest of a line

-- what a line states after its first word; a note belongs to the name before it, or to the debug name at a position
abbrev pub Payload : Keyword → Type 0
Payload on_module = List ℕ × List ℕ × ℕ × Order
Payload on_extension = ℕ × List ℕ
Payload on_environment = ℕ × List ℕ
Payload on_section = Section
Payload on_public = List ℕ × Tree
Payload on_note = Option ℕ × Note
Payload on_reference = List ℕ × Option Weak
Payload on_block = BlockHead × List ℕ
Payload on_end = Option Tree
Payload on_name = List ℕ
Payload on_value = ℕ × Tree
Payload on_select = ℕ
Payload on_counter = ℕ × Tree
Payload on_bytes = List ℕ
Payload on_field = FieldKind × ℕ × Tree
Payload on_repeat = ℕ
Payload on_start = Tree

abbrev pub named_note : Option ℕ × Note → List Piece
named_note (None, note) = note_pieces note
named_note (Some place, note) = gap ∷ figure MOST_POSITION place ∷ note_pieces note

-- the pieces after the first word; `n` is the position or the count that the line states
abbrev pub rest_pieces : ℕ → (k : Keyword) → Payload k → List Piece
rest_pieces n on_module (title, processor, maus, order) = words (codes " ") ++ (name title ∷ (words (codes " processor ") ++ (name processor
    ∷ (words (codes " maus ") ++ (figure MOST_BYTE maus ∷ (words (codes " order ") ++ words (order_letter order)))))))
rest_pieces n on_extension (b, bytes) = gap ∷ digits (b ∷ bytes) ∷ []
rest_pieces n on_environment (b, bytes) = gap ∷ digits (b ∷ bytes) ∷ []
rest_pieces n on_section s = gap ∷ position n ∷ gap ∷ name s.name ∷ gap ∷ (words (type_letters s.absolute)
    ++ (words (purpose_letter s.purpose) ++ (words (codes " size ") ++ (figure MOST_NUMBER s.size ∷ (words (codes " align ")
    ++ (figure MOST_NUMBER s.align ∷ base_pieces s.base))))))
rest_pieces n on_public (title, value) = gap ∷ position n ∷ gap ∷ name title ∷ (words (codes " = ") ++ value_pieces value)
rest_pieces n on_note note = named_note note
rest_pieces n on_reference (title, weak) = gap ∷ position n ∷ gap ∷ name title ∷ weak_pieces weak
rest_pieces n on_block (head, title) = gap ∷ figure MOST_NUMBER (kind_number head) ∷ gap ∷ name title ∷ head_pieces head
rest_pieces n on_end value = end_value_pieces value
rest_pieces n on_name title = gap ∷ position n ∷ gap ∷ name title ∷ []
rest_pieces n on_value (place, value) = gap ∷ figure MOST_POSITION place ∷ (words (codes " = ") ++ value_pieces value)
rest_pieces n on_select place = gap ∷ figure MOST_POSITION place ∷ []
rest_pieces n on_counter (place, value) = gap ∷ figure MOST_POSITION place ∷ (words (codes " = ") ++ value_pieces value)
rest_pieces n on_bytes bytes = gap ∷ count n ∷ spaced_digits bytes
rest_pieces n on_field (kind, size, value) = gap ∷ (words (kind_text kind) ++
    (gap ∷ figure MOST_BYTE size ∷ (words (codes " = ") ++ value_pieces value)))
rest_pieces n on_repeat times = gap ∷ figure MOST_NUMBER times ∷ []
rest_pieces n on_start value = words (codes " = ") ++ value_pieces value

-- a line by its first word and what else it states
abbrev pub Row : Type 0
Row = (k : Keyword) × Payload k

-- the pieces of the line; `n` is the position or the count that it states
abbrev pub line_of : ℕ → Row → Line
line_of n (k, p) = words (word_of k) ++ rest_pieces n k p

-- ---- the rows of a module

abbrev pub extension_rows : List ℕ → List Row
extension_rows [] = []
extension_rows (b ∷ bytes) = (on_extension, (b, bytes)) ∷ []

abbrev pub environment_rows : List ℕ → List Row
environment_rows [] = []
environment_rows (b ∷ bytes) = (on_environment, (b, bytes)) ∷ []

abbrev pub section_row : Section → Row
section_row s = (on_section, s)

abbrev pub note_row : Note → Row
note_row note = (on_note, (None, note))

abbrev pub public_row : Public → Row
public_row p = (on_public, (p.name, p.value))

abbrev pub reference_row : Reference → Row
reference_row r = (on_reference, (r.name, r.weak))

-- a name and its notes
abbrev pub named_rows : {X : Type 0} → (X → Row) → (X → List Note) → X → List Row
named_rows row notes x = row x ∷ map note_row (notes x)

abbrev pub public_rows : Public → List Row
public_rows = named_rows public_row (λ p. p.notes)

abbrev pub reference_rows : Reference → List Row
reference_rows = named_rows reference_row (λ r. r.notes)

abbrev pub mark_row : DebugMark → Row
mark_row (block_begin head title) = (on_block, (head, title))
mark_row (block_end end) = (on_end, end)
mark_row (name_mark title) = (on_name, title)
mark_row (note_mark n note) = (on_note, (Some n, note))
mark_row (value_mark n value) = (on_value, (n, value))

abbrev pub item_row : Item → Row
item_row (Literal bytes) = (on_bytes, bytes)
item_row (Field kind size value) = (on_field, (kind, size, value))

abbrev pub load_rows : Load → List Row
load_rows (SetSection n) = (on_select, n) ∷ []
load_rows (SetPc n value) = (on_counter, (n, value)) ∷ []
load_rows (One item) = item_row item ∷ []
load_rows (Repeat times items) = (on_repeat, times) ∷ (map item_row items ++ (on_end, None) ∷ [])

abbrev pub start_rows : Option Tree → List Row
start_rows None = []
start_rows (Some value) = (on_start, value) ∷ []

abbrev pub from_loads : Parts → List Row
from_loads m = flat_map load_rows m.loads ++ start_rows m.start

abbrev pub from_marks : Parts → List Row
from_marks m = map mark_row (marks_of m.debug) ++ from_loads m

abbrev pub from_references : Parts → List Row
from_references m = flat_map reference_rows m.names.references ++ from_marks m

abbrev pub from_publics : Parts → List Row
from_publics m = flat_map public_rows m.names.publics ++ from_references m

abbrev pub from_sections : Parts → List Row
from_sections m = map section_row m.sections ++ from_publics m

abbrev pub from_environment : Parts → List Row
from_environment m = environment_rows m.env ++ from_sections m

abbrev pub rows_of : Parts → List Row
rows_of m = (on_module, (m.name, m.processor, m.maus, m.order)) ∷ (extension_rows m.ext ++ from_environment m)
