-- The lines of the listing of a module, each as a list of pieces, and the texts that are a listing of a module.
use Rattle.std.specs.Prelude.{ℕ, ◌+◌, ◌≤◌, List, [], ◌∷◌, ◌++◌, length, flat_map, map, Option, Some, None, codes, All}
use Rattle.mufom_expr.specs.Tree.{Tree}
use Rattle.mufom_sections.specs.declared.section.Section.{Section}
use Rattle.mufom_names.specs.declared.name.Note.{Note}
use Rattle.mufom_names.specs.declared.name.Weak.{Weak}
use Rattle.mufom_names.specs.declared.name.Public.{Public}
use Rattle.mufom_names.specs.declared.name.Reference.{Reference}
use Rattle.mufom_loads.specs.declared.load.Item.{Item}
use Rattle.mufom_loads.specs.declared.load.Item.TheVariants.{Literal, Field}
use Rattle.mufom_loads.specs.declared.load.Load.{Load}
use Rattle.mufom_loads.specs.declared.load.Load.TheVariants.{SetSection, SetPc, One, Repeat}
use Rattle.mufom_debug.specs.declared.item.BlockHead.{BlockHead}
use Rattle.mufom_debug.specs.declared.item.BlockHead.TheVariants as heads
use Rattle.mufom_debug.specs.Marks.{DebugMark, block_begin, block_end, name_mark, note_mark, value_mark, marks_of}
use Rattle.mufom_debug.specs.Marks.{kind_number, names_after, open_after}
use Rattle.mufom_module.specs.declared.module.Parts.{Parts}
use Rattle.mufom_module.specs.Defects.{IsValid}
use Rattle.mufom_module.specs.Made.{IsMade}
use Rattle.mufom_text.specs.Words.{Text}
use Rattle.mufom_text.specs.Show.{order_letter, type_letters, purpose_letter, kind_text}
use Rattle.mufom_build_text.specs.Pieces.{Piece, block, position, count, digits, exact, loose, words, number_piece, place_piece, small_piece}
use Rattle.mufom_build_text.specs.Pieces.{name_piece, value_pieces}
use Rattle.mufom_build_text.specs.Places.{SpellsLines}

abbrev pub Line : Type 0
Line = List Piece

abbrev pub module_pieces : Parts → Line
module_pieces m = words (codes "module ") ++ name_piece m.name ++ words (codes " processor ") ++ name_piece m.processor
    ++ words (codes " maus ") ++ small_piece m.maus
    ++ words (codes " order ") ++ words (order_letter m.order)

-- the line of a part that is kept as bytes; none if the part is empty
abbrev pub raw_lines : Text → List ℕ → List Line
raw_lines word [] = []
raw_lines word (b ∷ bytes) = (words word ++ words (codes " ") ++ digits (b ∷ bytes) ∷ []) ∷ []

-- ---- sections

abbrev pub base_pieces : Option ℕ → List Piece
base_pieces None = []
base_pieces (Some base) = words (codes " base ") ++ number_piece base

abbrev pub section_pieces : ℕ → Section → Line
section_pieces n s = words (codes "section ") ++ position n ∷ [] ++ words (codes " ") ++ name_piece s.name ++ words (codes " ")
    ++ words (type_letters s.absolute)
    ++ words (purpose_letter s.purpose) ++ words (codes " size ") ++ number_piece s.size ++ words (codes " align ") ++ number_piece s.align
    ++ base_pieces s.base

abbrev pub section_lines : ℕ → Section → List Line
section_lines n s = section_pieces n s ∷ []

-- ---- names

-- the numbers, each after a space
abbrev pub spaced_pieces : List ℕ → List Piece
spaced_pieces ns = flat_map (λ n. words (codes " ") ++ number_piece n) ns

abbrev pub note_pieces : Note → List Piece
note_pieces note = words (codes " type ") ++ number_piece note.type_index ++ words (codes " attribute ") ++ number_piece note.attribute
    ++ spaced_pieces note.numbers.items

abbrev pub note_line : Note → Line
note_line note = words (codes "note") ++ note_pieces note

abbrev pub public_lines : ℕ → Public → List Line
public_lines n p = (words (codes "public ") ++ position n ∷ [] ++ words (codes " ") ++ name_piece p.name ++ words (codes " = ")
    ++ value_pieces p.value) ∷ map note_line p.notes

abbrev pub weak_pieces : Option Weak → List Piece
weak_pieces None = []
weak_pieces (Some weak) = words (codes " weak size ") ++ number_piece weak.size ++ words (codes " default ") ++ number_piece weak.default

abbrev pub reference_lines : ℕ → Reference → List Line
reference_lines n q = (words (codes "reference ") ++ position n ∷ [] ++ words (codes " ") ++ name_piece q.name
    ++ weak_pieces q.weak) ∷ map note_line q.notes

-- ---- debug items

abbrev pub scope_pieces : ℕ → ℕ → Tree → List Piece
scope_pieces stack type_index offset = words (codes " stack ") ++ number_piece stack ++ words (codes " type ") ++ number_piece type_index
    ++ words (codes " offset ") ++ value_pieces offset

abbrev pub part_pieces : ℕ → ℕ → Tree → List Piece
part_pieces section_type section offset = words (codes " section-type ") ++ number_piece section_type ++ words (codes " section ")
    ++ place_piece section ++ words (codes " offset ") ++ value_pieces offset

-- what the kind of a block adds to its line
abbrev pub head_pieces : BlockHead → List Piece
head_pieces heads.Module = []
head_pieces (heads.Global stack type_index offset) = scope_pieces stack type_index offset
head_pieces (heads.Local stack type_index offset) = scope_pieces stack type_index offset
head_pieces (heads.Source numbers) = spaced_pieces numbers.items
head_pieces (heads.Section section_type section offset) = part_pieces section_type section offset

abbrev pub end_pieces : Option Tree → Line
end_pieces None = words (codes "end")
end_pieces (Some value) = words (codes "end = ") ++ value_pieces value

-- the line of a debug record, in `depth` open blocks, after `n` debug names
abbrev pub mark_pieces : ℕ → ℕ → DebugMark → Line
mark_pieces depth n (block_begin head name) = block (depth + 1) ∷ [] ++ words (codes "block ") ++ number_piece (kind_number head)
    ++ words (codes " ") ++ name_piece name ++ head_pieces head
mark_pieces depth n (block_end end) = end_pieces end
mark_pieces depth n (name_mark name) = words (codes "name ") ++ position n ∷ [] ++ words (codes " ") ++ name_piece name
mark_pieces depth n (note_mark name note) = words (codes "note ") ++ place_piece name ++ note_pieces note
mark_pieces depth n (value_mark name value) = words (codes "value ") ++ place_piece name ++ words (codes " = ") ++ value_pieces value

abbrev pub mark_lines : ℕ → ℕ → List DebugMark → List Line
mark_lines depth n [] = []
mark_lines depth n (mark ∷ marks) = mark_pieces depth n mark ∷ mark_lines (open_after depth mark) (names_after n mark) marks

-- ---- loads

abbrev pub bytes_pieces : List ℕ → Line
bytes_pieces [] = words (codes "bytes ") ++ count 0 ∷ []
bytes_pieces (b ∷ bytes) = words (codes "bytes ") ++ count (length (b ∷ bytes)) ∷ [] ++ words (codes " ") ++ digits (b ∷ bytes) ∷ []

abbrev pub item_pieces : Item → Line
item_pieces (Literal bytes) = bytes_pieces bytes
item_pieces (Field kind size value) = words (codes "field ") ++ words (kind_text kind) ++ words (codes " ") ++ small_piece size
    ++ words (codes " = ") ++ value_pieces value

abbrev pub load_lines : Load → List Line
load_lines (SetSection n) = (words (codes "select ") ++ place_piece n) ∷ []
load_lines (SetPc n value) = (words (codes "counter ") ++ place_piece n ++ words (codes " = ") ++ value_pieces value) ∷ []
load_lines (One item) = item_pieces item ∷ []
load_lines (Repeat times items) = (words (codes "repeat ") ++ number_piece times) ∷ (map item_pieces items ++ words (codes "end") ∷ [])

abbrev pub start_lines : Option Tree → List Line
start_lines None = []
start_lines (Some value) = (words (codes "start = ") ++ value_pieces value) ∷ []

-- ---- the module

-- the lines of entries, each made from its position and itself; positions count from n
abbrev pub each_lines : {X : Type 0} → ℕ → (ℕ → X → List Line) → List X → List Line
each_lines n lines_of [] = []
each_lines n lines_of (x ∷ xs) = lines_of n x ++ each_lines (n + 1) lines_of xs

-- The lines of the listing of a module.
abbrev pub listing_lines : Parts → List Line
listing_lines m = module_pieces m ∷ [] ++ raw_lines (codes "extension") m.ext ++ raw_lines (codes "environment") m.env
    ++ each_lines 0 section_lines m.sections ++ each_lines 0 public_lines m.names.publics ++ each_lines 0 reference_lines m.names.references
    ++ mark_lines 0 0 (marks_of m.debug) ++ flat_map load_lines m.loads ++ start_lines m.start

-- at most four numbers after the type and the attribute
abbrev pub HasFewNumbers : Note → Type 0
HasFewNumbers note = length note.numbers.items ≤ 4

-- a source block has at most six numbers
abbrev pub HasFewHeadNumbers : BlockHead → Type 0
HasFewHeadNumbers heads.Module = Unit {0}
HasFewHeadNumbers (heads.Global stack type_index offset) = Unit {0}
HasFewHeadNumbers (heads.Source numbers) = length numbers.items ≤ 6
HasFewHeadNumbers (heads.Local stack type_index offset) = Unit {0}
HasFewHeadNumbers (heads.Section section_type section offset) = Unit {0}

abbrev pub HasFewMarkNumbers : DebugMark → Type 0
HasFewMarkNumbers (block_begin head name) = HasFewHeadNumbers head
HasFewMarkNumbers (block_end end) = Unit {0}
HasFewMarkNumbers (name_mark name) = Unit {0}
HasFewMarkNumbers (note_mark name note) = HasFewNumbers note
HasFewMarkNumbers (value_mark name value) = Unit {0}

-- No note and no source block of the parts has more numbers than the format has fields for.
pub record AreFew (m : Parts) : Type 0 where
  pub publics : All (λ p. All HasFewNumbers p.notes) m.names.publics
  pub references : All (λ r. All HasFewNumbers r.notes) m.names.references
  pub debug : All HasFewMarkNumbers (marks_of m.debug)

-- The text has the shape of a listing: it lists some parts, whatever positions and counts it states. Its numbers may be of any size, its blocks of
-- any depth and its expressions of any length.
pub record Shape (text : Text) : Type 0 where
  pub parts : Parts
  pub listed : SpellsLines loose (listing_lines parts) text
  pub few : AreFew parts

-- The text is a listing of the module m, from which m can be built.
pub record Build (text : Text) (m : Parts) : Type 0 where
  pub listed : SpellsLines exact (listing_lines m) text
  pub made : IsMade m
  pub valid : IsValid m
