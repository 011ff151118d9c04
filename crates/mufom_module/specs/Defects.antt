-- What keeps parts from being a valid module: thirteen defects, in the order in which they are checked.
use Rattle.std.specs.Prelude.{◌≡◌, ℕ, ◌+◌, ◌^◌, ◌==◌, ◌&&◌, ◌||◌, nat_lt, nat_le, Bool, true, false, not, List, [], ◌∷◌, length, Option, Some, None}
use Rattle.std.specs.Prelude.{is_some, is_none, if◌then◌else◌, option_and_then}
use Rattle.std.specs.List.{list_any, find}
use Rattle.mufom_numbers.specs.declared.limits.TheConstants.{MOST_ALIGNMENT, MOST_STRING_BYTES}
use Rattle.mufom_expr.specs.declared.token.Letter.{Letter}
use Rattle.mufom_expr.specs.declared.token.Letter.TheVariants.{I, L, P, R, S, X}
use Rattle.mufom_expr.specs.Tree.{Tree}
use Rattle.mufom_expr.specs.Value.{variables_of}
use Rattle.mufom_records.specs.Fields.{is_one_of}
use Rattle.mufom_records.specs.Layouts.{debug_attributes}
use Rattle.mufom_sections.specs.declared.section.Section.{Section}
use Rattle.mufom_loads.specs.declared.load.Item.{Item}
use Rattle.mufom_loads.specs.declared.load.Item.TheVariants.{Literal, Field}
use Rattle.mufom_loads.specs.declared.load.Load.{Load}
use Rattle.mufom_loads.specs.declared.load.Load.TheVariants.{SetSection, SetPc, One, Repeat}
use Rattle.mufom_debug.specs.declared.item.BlockHead.{BlockHead}
use Rattle.mufom_debug.specs.declared.item.BlockHead.TheVariants as heads
use Rattle.mufom_debug.specs.Marks.{DebugMark, block_begin, block_end, name_mark, note_mark, value_mark, depth_of}
use Rattle.mufom_module.specs.declared.module.Parts.{Parts}
use Rattle.mufom_module.specs.declared.module.Defect.{Defect}
use Rattle.mufom_module.specs.declared.module.Defect.TheVariants as d
use Rattle.mufom_module.specs.declared.rules.Counts.{Counts}
use Rattle.mufom_module.specs.declared.rules.Rule.{Rule}
use Rattle.mufom_module.specs.declared.rules.Rule.TheVariants as rules
use Rattle.mufom_module.specs.Contents.{any_of, any_expression, load_any, any_item, debug_marks, placed_loads, HeadAndEnd, blocks_of}
use Rattle.mufom_module.specs.Written.{weight}

-- ---- strings, sections, sizes

-- a string of more than 65,535 bytes, for which there is no lead
abbrev pub is_long : List ℕ → Bool
is_long text = nat_lt MOST_STRING_BYTES (length text)

-- a mark with a name that is too long
abbrev pub has_long_name : DebugMark → Bool
has_long_name (block_begin head name) = is_long name
has_long_name (block_end end) = false
has_long_name (name_mark name) = is_long name
has_long_name (note_mark name note) = false
has_long_name (value_mark name value) = false

-- a string of the module is too long: the processor, the module's name, or that of a section, a public, a reference, a
-- debug block or a debug name
abbrev pub has_long_string : Parts → Bool
has_long_string m = is_long m.processor || (is_long m.name
    || (list_any (λ s. is_long s.name) m.sections
    || (list_any (λ p. is_long p.name) m.names.publics
    || (list_any (λ r. is_long r.name) m.names.references
    || list_any has_long_name (debug_marks m)))))

-- the size of an address is 1 to 8 addressable units
abbrev pub is_unit_count : ℕ → Bool
is_unit_count n = nat_le 1 n && nat_le n 8

-- a section whose alignment is not 1 to 2^31
abbrev pub has_bad_alignment : Section → Bool
has_bad_alignment s = (s.align == 0) || nat_lt MOST_ALIGNMENT s.align

-- an absolute section (letters `A S`) without a base
abbrev pub lacks_base : Section → Bool
lacks_base s = s.absolute && is_none s.base

-- a literal of more than 65,535 bytes
abbrev pub is_long_literal : Item → Bool
is_long_literal (Literal bytes) = is_long bytes
is_long_literal (Field kind size value) = false

-- a field whose size is not 1 to 8 bytes
abbrev pub has_bad_size : Item → Bool
has_bad_size (Literal bytes) = false
has_bad_size (Field kind size value) = (size == 0) || nat_lt 8 size

-- ---- positions

-- the number of entries in each list of a module
abbrev pub counts_of : Parts → Counts
counts_of m = record { sections = length m.sections; publics = length m.names.publics; references = length m.names.references }

-- the number of entries in the list to which a letter belongs
abbrev pub count_for : Counts → Letter → ℕ
count_for n I = n.publics
count_for n L = n.sections
count_for n P = n.sections
count_for n R = n.sections
count_for n S = n.sections
count_for n X = n.references

-- a variable whose position is outside its list
abbrev pub is_outside : Counts → Letter × ℕ → Bool
is_outside n v = nat_le (count_for n v.0) v.1

-- an expression with a variable whose position is outside its list
abbrev pub names_outside : Counts → Tree → Bool
names_outside n tree = list_any (is_outside n) (variables_of tree)

-- a load that names a section that the module does not have
abbrev pub names_no_section : Counts → Load → Bool
names_no_section n (SetSection section) = nat_le n.sections section
names_no_section n (SetPc section value) = nat_le n.sections section
names_no_section n (One item) = false
names_no_section n (Repeat count items) = false

-- a load that names a section that the module does not have, or has a variable whose position is outside its list
abbrev pub has_bad_place : Counts → Load → Bool
has_bad_place n load = names_no_section n load || load_any (names_outside n) load

-- a block for a section that the module does not have
abbrev pub names_bad_section : Counts → BlockHead → Bool
names_bad_section n heads.Module = false
names_bad_section n (heads.Global stack type_index offset) = false
names_bad_section n (heads.Source numbers) = false
names_bad_section n (heads.Local stack type_index offset) = false
names_bad_section n (heads.Section section_type section offset) = nat_le n.sections section

-- a mark that begins a block for a section that the module does not have
abbrev pub begins_badly : Counts → DebugMark → Bool
begins_badly n (block_begin head name) = names_bad_section n head
begins_badly n (block_end end) = false
begins_badly n (name_mark name) = false
begins_badly n (note_mark name note) = false
begins_badly n (value_mark name value) = false

-- a mark that begins a block for a section that the module does not have, or has a variable whose position is outside its list
abbrev pub has_bad_mark : Counts → DebugMark → Bool
has_bad_mark n mark = begins_badly n mark || any_expression (names_outside n) mark

-- the number of debug names declared after a mark, or None if the mark uses a name that is not declared yet
abbrev pub declared_after_mark : ℕ → DebugMark → Option ℕ
declared_after_mark n (block_begin head name) = Some n
declared_after_mark n (block_end end) = Some n
declared_after_mark n (name_mark name) = Some (n + 1)
declared_after_mark n (note_mark name note) = if nat_lt name n then Some n else None
declared_after_mark n (value_mark name value) = if nat_lt name n then Some n else None

-- the same for marks, one after another
abbrev pub declared_after : ℕ → List DebugMark → Option ℕ
declared_after n [] = Some n
declared_after n (mark ∷ marks) = option_and_then (λ k. declared_after k marks) (declared_after_mark n mark)

-- a variable, a load or a block has a position outside its list, or a debug name is used before it is declared
abbrev pub has_bad_position : Parts → Bool
has_bad_position m = let n = counts_of m in
    list_any (λ p. names_outside n p.value) m.names.publics
    || (list_any (has_bad_place n) m.loads
    || (list_any (has_bad_mark n) (debug_marks m)
    || (any_of (names_outside n) m.start
    || is_none (declared_after 0 (debug_marks m)))))

-- ---- program counters

-- a section is given, and it is at this position
abbrev pub is_this : Option ℕ → ℕ → Bool
is_this None place = false
is_this (Some section) place = section == place

-- the program counter of a section other than this one, or any program counter if no section is given
abbrev pub is_other_counter : Option ℕ → Letter × ℕ → Bool
is_other_counter allowed (I, place) = false
is_other_counter allowed (L, place) = false
is_other_counter allowed (P, place) = not (is_this allowed place)
is_other_counter allowed (R, place) = false
is_other_counter allowed (S, place) = false
is_other_counter allowed (X, place) = false

-- an expression with such a program counter: one that it may not use
abbrev pub has_other_counter : Option ℕ → Tree → Bool
has_other_counter allowed tree = list_any (is_other_counter allowed) (variables_of tree)

-- the section whose program counter the expressions of a load may use: the one whose counter it sets, or the current one
abbrev pub counter_of : Option ℕ → Load → Option ℕ
counter_of current (SetSection section) = current
counter_of current (SetPc section value) = Some section
counter_of current (One item) = current
counter_of current (Repeat count items) = current

-- a load, with the section that is current before it, that uses a program counter other than the one that it may use
abbrev pub misplaces_counter : Option ℕ × Load → Bool
misplaces_counter p = load_any (has_other_counter (counter_of p.0 p.1)) p.1

-- a public, the start or a debug expression uses a program counter, or a load uses one that it may not use
abbrev pub has_misplaced_counter : Parts → Bool
has_misplaced_counter m = list_any (λ p. has_other_counter None p.value) m.names.publics
    || (any_of (has_other_counter None) m.start
    || (list_any (any_expression (has_other_counter None)) (debug_marks m)
    || list_any misplaces_counter (placed_loads m)))

-- ---- loads and debug items

-- an item or a repeat, even one without items
abbrev pub is_loading : Load → Bool
is_loading (SetSection section) = false
is_loading (SetPc section value) = false
is_loading (One item) = true
is_loading (Repeat count items) = true

-- an item or a repeat while no section is set
abbrev pub loads_nowhere : Option ℕ × Load → Bool
loads_nowhere p = is_none p.0 && is_loading p.1

-- a note of a debug name with an attribute that the format does not have
abbrev pub has_unknown_attribute : DebugMark → Bool
has_unknown_attribute (block_begin head name) = false
has_unknown_attribute (block_end end) = false
has_unknown_attribute (name_mark name) = false
has_unknown_attribute (note_mark name note) = not (is_one_of debug_attributes note.attribute)
has_unknown_attribute (value_mark name value) = false

-- the kinds of blocks that have no expression at their end
abbrev pub ends_plainly : BlockHead → Bool
ends_plainly heads.Module = true
ends_plainly (heads.Global stack type_index offset) = false
ends_plainly (heads.Source numbers) = true
ends_plainly (heads.Local stack type_index offset) = false
ends_plainly (heads.Section section_type section offset) = false

-- a block with an expression at its end that its kind does not have
abbrev pub has_bad_end : HeadAndEnd → Bool
has_bad_end block = ends_plainly block.0 && is_some block.1

-- ---- marks of the debug part, by the rule that they break

-- the mark breaks the rule
abbrev pub breaks : Rule → DebugMark → Bool
breaks rules.Length mark = has_long_name mark
breaks (rules.Position counts) mark = has_bad_mark counts mark
breaks rules.Counter mark = any_expression (has_other_counter None) mark
breaks rules.Attribute mark = has_unknown_attribute mark

-- ---- all of them

-- the parts have the defect
abbrev pub has_defect : Parts → Defect → Bool
has_defect m d.Depth = nat_lt 32 (depth_of (debug_marks m))
has_defect m d.LongId = has_long_string m
has_defect m d.BadMaus = not (is_unit_count m.maus)
has_defect m d.BadAlign = list_any has_bad_alignment m.sections
has_defect m d.MissingBase = list_any lacks_base m.sections
has_defect m d.Position = has_bad_position m
has_defect m d.MisplacedP = has_misplaced_counter m
has_defect m d.NoSection = list_any loads_nowhere (placed_loads m)
has_defect m d.LongRun = list_any (any_item is_long_literal) m.loads
has_defect m d.FieldSize = list_any (any_item has_bad_size) m.loads
has_defect m d.Attribute = list_any has_unknown_attribute (debug_marks m)
has_defect m d.Nesting = list_any has_bad_end (blocks_of m.debug)
has_defect m d.Weight = nat_le (2 ^ 32) (weight m)

-- the defects in the order in which they are checked
abbrev pub defects : List Defect
defects = d.Depth ∷ d.LongId ∷ d.BadMaus ∷ d.BadAlign ∷ d.MissingBase ∷ d.Position ∷ d.MisplacedP ∷ d.NoSection
    ∷ d.LongRun ∷ d.FieldSize ∷ d.Attribute ∷ d.Nesting ∷ d.Weight ∷ []

-- the first defect of the parts, if they have one
abbrev pub first_defect : Parts → Option Defect
first_defect m = find (has_defect m) defects

-- the parts have no defect
abbrev pub IsValid : Parts → Type 0
IsValid m = first_defect m ≡ None
