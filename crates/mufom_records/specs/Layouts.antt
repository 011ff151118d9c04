-- The table of records: the fields that follow the code of each record, in order (IEEE Std 695, MUFOM commands; the codes are
-- those of the public `ieee.h`, the fields are this project's profile).
use Rattle.std.specs.Prelude.{◌≡◌, ℕ, ◌+◌, ◌^◌, Bool, true, false, List, [], ◌∷◌, ◌++◌, length, Option, Some, None, ◌==◌, nat_le, nat_lt, ◌&&◌, if◌then◌else◌}
use Rattle.mufom_numbers.specs.declared.limits.TheConstants.{MOST_STRING_BYTES}
use Rattle.mufom_numbers.specs.declared.codes.TheConstants.{ASSIGNMENT, BLOCK_BEGIN, BLOCK_END, COMMA, CONSTANT, DEBUG_NAME, DESCRIPTOR, LETTER_A}
use Rattle.mufom_numbers.specs.declared.codes.TheConstants.{LETTER_B, LETTER_C, LETTER_D, LETTER_F, LETTER_G, LETTER_I, LETTER_L, LETTER_M, LETTER_N}
use Rattle.mufom_numbers.specs.declared.codes.TheConstants.{LETTER_P, LETTER_R, LETTER_S, LETTER_W, LETTER_X, MODULE_BEGIN, MODULE_END, NOTE}
use Rattle.mufom_numbers.specs.declared.codes.TheConstants.{OPEN_EITHER, OPEN_SIGNED, OPEN_UNSIGNED, PUBLIC_NAME, REFERENCE_NAME, RELOCATE, REPEAT}
use Rattle.mufom_numbers.specs.declared.codes.TheConstants.{SECTION_ALIGNMENT, SECTION_TYPE, SET_SECTION, TYPE, WEAK_REFERENCE}
use Rattle.arrayvec.specs.ArrayVec.{ArrayVec}
use Rattle.mufom_numbers.specs.declared.reason.Reason.{Reason}
use Rattle.mufom_numbers.specs.declared.reason.Reason.TheVariants.{BadNumber, BadRecord, UnsupportedRecord, LongRun, BadFieldSize, BracketMismatch}
use Rattle.mufom_numbers.specs.declared.reason.Reason.TheVariants.{BadSectionType, UnsupportedBlock, UnsupportedAttribute, BadHeader}
use Rattle.mufom_numbers.specs.declared.taken.Span.{Span}
use Rattle.mufom_expr.specs.declared.token.FieldKind.{FieldKind}
use Rattle.mufom_expr.specs.declared.token.FieldKind.TheVariants.{Signed, Unsigned, Either}
use Rattle.mufom_records.specs.declared.size.PlainSize.{PlainSize}
use Rattle.mufom_records.specs.declared.record.Mode.{Mode}
use Rattle.mufom_records.specs.declared.record.Mode.TheVariants as mode
use Rattle.mufom_records.specs.declared.record.BlockTail.TheVariants as tail
use Rattle.mufom_records.specs.declared.record.Record.{Record}
use Rattle.mufom_records.specs.declared.record.Record.TheVariants as r
use Rattle.mufom_records.specs.Fields.{Field, ValueOf, byte, number, string, run, letter, optional_number, numbers, expression, optional_expression}
use Rattle.mufom_records.specs.Fields.{sized_expression, is_one_of, is_size, SpellsField, first_of}

-- A layout is a field and the layout that follows it, which may depend on the field's value; or the end, with the complete
-- record; or an error, reported `back` bytes before the offset that was reached.
pub data Layout : Type 0 where
  whole : Record → Layout
  refused : (back : ℕ) → (reason : Reason) → Layout
  field : (f : Field) → (ValueOf f → Layout) → Layout

-- a field, and the layout after it for each value of the field
infixr 20 ◌▹◌
abbrev pub ◌▹◌ : (f : Field) → (ValueOf f → Layout) → Layout
f ▹ rest = field f rest

-- The bytes, which are at offset `at` and are followed by the byte `next` (or end the input), are a record with the layout.
abbrev pub SpellsRecord : Layout → Record → ℕ → List ℕ → Option ℕ → Type 0
SpellsRecord (whole row) record_ at bytes next = (record_ ≡ row) × (bytes ≡ [])
SpellsRecord (refused back reason) record_ at bytes next = ⊥
SpellsRecord (field f rest) record_ at bytes next = (x : ValueOf f) × (prefix : List ℕ) × (back : List ℕ) × SpellsField f x at prefix (first_of back next)
    × SpellsRecord (rest x) record_ (at + length prefix) back next × (bytes ≡ prefix ++ back)

-- ---- numbers with their tests

-- an error is reported at the field itself
abbrev pub here : ℕ → ℕ
here at = at

-- an error is reported at the first byte of the record
abbrev pub start : ℕ → ℕ
start at = 0

-- any number
abbrev pub any_number : Field
any_number = number (λ n. true) here BadNumber

-- an index is below 2^32
abbrev pub index : Field
index = number (λ n. nat_lt n (2 ^ 32)) here BadNumber

-- the count of literal bytes: at most 65,535
abbrev pub count : Field
count = number (λ n. nat_le n MOST_STRING_BYTES) here LongRun

-- the supported kinds of blocks
abbrev pub block_kinds : List ℕ
block_kinds = 3 ∷ 4 ∷ 5 ∷ 6 ∷ 11 ∷ []

-- the kind of a block
abbrev pub block_kind : Field
block_kind = number (is_one_of block_kinds) here UnsupportedBlock

-- the supported attributes of debug notes
abbrev pub debug_attributes : List ℕ
debug_attributes = 1 ∷ 2 ∷ 3 ∷ 4 ∷ 5 ∷ 7 ∷ 8 ∷ 10 ∷ []

-- an attribute of a debug note
abbrev pub debug_attribute : Field
debug_attribute = number (is_one_of debug_attributes) here UnsupportedAttribute

-- the size of a field: 1 to 8 MAUs
abbrev pub field_size : Field
field_size = number is_size here BadFieldSize

-- the number of a part in the header, which must be `k`
abbrev pub offset_number : ℕ → Field
offset_number k = number (λ n. n == k) start BadHeader

-- ---- letters and brackets

-- the letters of the byte order: CC for the least significant byte first, CD for the most significant byte first
abbrev pub orders : List ℕ
orders = LETTER_L ∷ LETTER_M ∷ []

-- the letters of purposes: D0 for code, C4 for data, D2 for ROM data
abbrev pub purposes : List ℕ
purposes = LETTER_P ∷ LETTER_D ∷ LETTER_R ∷ []

-- the comma before the size of a field
abbrev pub comma : ℕ
comma = COMMA

-- the bracket that opens a field of a kind
abbrev pub opening : FieldKind → ℕ
opening Signed = OPEN_SIGNED
opening Unsigned = OPEN_UNSIGNED
opening Either = OPEN_EITHER

-- the opening brackets of the three kinds of fields
abbrev pub opening_brackets : List ℕ
opening_brackets = opening Signed ∷ opening Unsigned ∷ opening Either ∷ []

-- the closing bracket of an opening one, which has the next code
abbrev pub partner : ℕ → ℕ
partner bracket = bracket + 1

-- the bracket that closes a field of a kind
abbrev pub closing : FieldKind → ℕ
closing kind = partner (opening kind)

-- the kind of field that begins with this opening bracket
abbrev pub kind_of : ℕ → FieldKind
kind_of b = if b == opening Signed then Signed else (if b == opening Unsigned then Unsigned else Either)

-- the next byte must be the closing bracket of this opening one
abbrev pub closed_by : ℕ → Layout → Layout
closed_by bracket rest = byte ▹ λ b. if b == partner bracket then rest else refused 1 BracketMismatch

-- ---- rows, each after its code

-- MB: the processor and the module's name
abbrev pub module_begin : Layout
module_begin = string ▹ λ processor. string ▹ λ name. whole (r.ModuleBegin processor name)

-- AD: bits per addressable unit (MAU), MAUs per address, and the byte order, which is optional
abbrev pub descriptor : Layout
descriptor = any_number ▹ λ bits. any_number ▹ λ maus. letter orders ▹ λ order. whole (r.Descriptor bits maus order)

-- ASW: the number of a part and its offset
abbrev pub offset : Layout
offset = any_number ▹ λ n. any_number ▹ λ value. whole (r.Offset n value)

-- ASW, which must be that of part `k`
abbrev pub numbered_offset : ℕ → Layout
numbered_offset k = offset_number k ▹ λ n. any_number ▹ λ value. whole (r.Offset n value)

-- ST after the letters of its type: an optional purpose, the name, and three optional numbers
abbrev pub named_section : ℕ → Bool → Layout
named_section i absolute = letter purposes ▹ λ purpose. string ▹ λ name. optional_number ▹ λ a. optional_number ▹ λ b. optional_number ▹ λ c.
    whole (r.SectionType i absolute purpose name a b c)

-- ST after its letter A: S
abbrev pub absolute_section : ℕ → Layout
absolute_section i = byte ▹ λ s. if s == LETTER_S then named_section i true else refused 2 BadSectionType

-- ST: C, relocatable, or A S, absolute
abbrev pub section_type : Layout
section_type = index ▹ λ i. byte ▹ λ c. if c == LETTER_C then named_section i false
    else (if c == LETTER_A then absolute_section i else refused 1 BadSectionType)

-- SA: the alignment, and an optional number
abbrev pub alignment : Layout
alignment = index ▹ λ i. any_number ▹ λ n. optional_number ▹ λ other. whole (r.Alignment i n other)

-- ASS and ASL
abbrev pub index_and_number : (ℕ → ℕ → Record) → Layout
index_and_number row = index ▹ λ i. any_number ▹ λ n. whole (row i n)

-- NI, NX and NN
abbrev pub index_and_string : (ℕ → Span → Record) → Layout
index_and_string row = index ▹ λ i. string ▹ λ name. whole (row i name)

-- ASI, ASN and ASP
abbrev pub index_and_expression : (ℕ → Span → Record) → Layout
index_and_expression row = index ▹ λ i. expression ▹ λ value. whole (row i value)

-- ATI and ATX: an index, a type, an attribute, and at most four numbers
abbrev pub note : (ℕ → ℕ → ℕ → ArrayVec ℕ → Record) → Layout
note row = index ▹ λ i. any_number ▹ λ type_index. any_number ▹ λ attribute. numbers 4 ▹ λ ns. whole (row i type_index attribute ns)

-- ATN: the same with an attribute of debug names
abbrev pub debug_note : Layout
debug_note = index ▹ λ i. any_number ▹ λ type_index. debug_attribute ▹ λ attribute. numbers 4 ▹ λ ns. whole (r.DebugNote i type_index attribute ns)

-- WX: the size, and an optional default
abbrev pub weak_reference : Layout
weak_reference = index ▹ λ i. any_number ▹ λ n. optional_number ▹ λ default. whole (r.WeakReference i n default)

-- BB 4 and 6: the size of the stack, the type, and the offset
abbrev pub scope_begin : ℕ → ℕ → Span → Layout
scope_begin kind n name = any_number ▹ λ stack. any_number ▹ λ type_index. expression ▹ λ value. whole
    (r.BlockBegin kind n name (tail.Scope stack type_index value))

-- BB 5: at most six numbers
abbrev pub source_begin : ℕ → ℕ → Span → Layout
source_begin kind n name = numbers 6 ▹ λ ns. whole (r.BlockBegin kind n name (tail.Source ns))

-- BB 11: the type of the section, the section, and the offset
abbrev pub section_begin : ℕ → ℕ → Span → Layout
section_begin kind n name = any_number ▹ λ type_. index ▹ λ section. expression ▹ λ value. whole (r.BlockBegin kind n name (tail.Section type_ section value))

-- BB after its name: the fields that the kind adds; kind 3 adds none
abbrev pub block_by_kind : ℕ → ℕ → Span → Layout
block_by_kind kind n name = if kind == 3 then whole (r.BlockBegin kind n name tail.Module)
    else (if kind == 5 then source_begin kind n name
    else (if kind == 11 then section_begin kind n name else scope_begin kind n name))

-- BB: the kind, the size, the name, and the fields that the kind adds
abbrev pub block_begin : Layout
block_begin = block_kind ▹ λ kind. any_number ▹ λ n. string ▹ λ name. block_by_kind kind n name

-- BE: an optional expression
abbrev pub block_end : Layout
block_end = optional_expression ▹ λ value. whole (r.BlockEnd value)

-- SB
abbrev pub set_section : Layout
set_section = index ▹ λ i. whole (r.SetSection i)

-- LD, and an item of literal bytes: a count and the bytes that it counts
abbrev pub constant : (Span → Record) → Layout
constant row = count ▹ λ n. run n ▹ λ bytes. whole (row bytes)

-- RE after its repeat count: LD, or LR whose items follow
abbrev pub repeated : ℕ → ℕ → Layout
repeated times b = if b == CONSTANT then constant (r.RepeatConstant times)
    else (if b == RELOCATE then whole (r.RepeatRelocate times) else refused 1 BadRecord)

-- RE: the repeat count, and then LD or LR
abbrev pub repeat : Layout
repeat = any_number ▹ λ times. byte ▹ λ b. repeated times b

-- ASG after its opening bracket, or without one: an expression, and the closing bracket if there was an opening one
abbrev pub start_by_bracket : Option ℕ → Layout
start_by_bracket None = expression ▹ λ value. whole (r.Start value)
start_by_bracket (Some bracket) = expression ▹ λ value. closed_by bracket (whole (r.Start value))

-- ASG: an expression, alone or in a pair of brackets of any kind
abbrev pub start_address : Layout
start_address = letter opening_brackets ▹ λ bracket. start_by_bracket bracket

-- a field of an LR after its expression and its comma, if there is one: the size after a comma, and the closing bracket
abbrev pub item_by_comma : ℕ → Span → Option ℕ → Layout
item_by_comma bracket value None = closed_by bracket (whole (r.FieldItem (kind_of bracket) value None))
item_by_comma bracket value (Some comma_) = field_size ▹ λ n. closed_by bracket (whole (r.FieldItem (kind_of bracket) value (Some n)))

-- an item after its opening bracket, or one without a bracket
abbrev pub item_by_bracket : Option ℕ → Layout
item_by_bracket None = constant r.ConstantItem
item_by_bracket (Some bracket) = expression ▹ λ value. letter (comma ∷ []) ▹ λ c. item_by_comma bracket value c

-- an item of an LR: literal bytes, or a field in brackets, in which a comma and a size are optional
abbrev pub item : Layout
item = letter opening_brackets ▹ λ bracket. item_by_bracket bracket

-- The kind of a field whose size has no comma. GNU binutils writes each field in the brackets of either kind. If the program
-- counter occurs in its expression, the field holds a distance, which has a sign.
abbrev pub kind_without_comma : ℕ → Bool → FieldKind
kind_without_comma bracket uses_pc = if uses_pc && (bracket == opening Either) then Signed else kind_of bracket

-- a field of an LR after its expression, and after its size if that has no comma
abbrev pub item_by_size : ℕ → Span → Option PlainSize → Layout
item_by_size bracket value None = letter (comma ∷ []) ▹ λ c. item_by_comma bracket value c
item_by_size bracket value (Some last) = closed_by bracket (whole (r.FieldItem (kind_without_comma bracket last.uses_pc) value (Some last.size)))

-- an item after its opening bracket, or one without a bracket; the comma before a size is optional
abbrev pub gnu_item_by_bracket : Option ℕ → Layout
gnu_item_by_bracket None = constant r.ConstantItem
gnu_item_by_bracket (Some bracket) = sized_expression ▹ λ e. item_by_size bracket e.0 e.1

-- an item of an LR as GNU binutils writes it: like any item, but the comma before a size is optional
abbrev pub gnu_item : Layout
gnu_item = letter opening_brackets ▹ λ bracket. gnu_item_by_bracket bracket

-- ---- codes

-- second bytes after E2 of records that this profile knows but does not support
abbrev pub left_out_assignments : List ℕ
left_out_assignments = LETTER_A ∷ LETTER_B ∷ LETTER_F ∷ LETTER_M ∷ LETTER_R ∷ []

-- the record after E2 and this second byte
abbrev pub assignment : ℕ → Layout
assignment b = if b == LETTER_W then offset
    else (if b == LETTER_S then index_and_number r.SectionSize
    else (if b == LETTER_L then index_and_number r.SectionBase
    else (if b == LETTER_I then index_and_expression r.PublicValue
    else (if b == LETTER_N then index_and_expression r.DebugValue
    else (if b == LETTER_P then index_and_expression r.SetPc
    else (if b == LETTER_G then start_address
    else (if is_one_of left_out_assignments b then refused 2 UnsupportedRecord else refused 1 BadRecord)))))))

-- a record after E2
abbrev pub assigned : Layout
assigned = byte ▹ λ second. assignment second

-- the record after F1 and this second byte
abbrev pub noted : ℕ → Layout
noted b = if b == LETTER_I then note r.PublicNote
    else (if b == LETTER_X then note r.ReferenceNote
    else (if b == LETTER_N then debug_note else refused 1 BadRecord))

-- a record after F1
abbrev pub any_note : Layout
any_note = byte ▹ λ second. noted second

-- the record after this first byte
abbrev pub coded : ℕ → Layout
coded b = if b == MODULE_BEGIN then module_begin
    else (if b == MODULE_END then whole r.ModuleEnd
    else (if b == ASSIGNMENT then assigned
    else (if b == RELOCATE then whole r.Relocate
    else (if b == SET_SECTION then set_section
    else (if b == SECTION_TYPE then section_type
    else (if b == SECTION_ALIGNMENT then alignment
    else (if b == PUBLIC_NAME then index_and_string r.PublicName
    else (if b == REFERENCE_NAME then index_and_string r.ReferenceName
    else (if b == DESCRIPTOR then descriptor
    else (if b == CONSTANT then constant r.Constant
    else (if b == DEBUG_NAME then index_and_string r.DebugName
    else (if b == NOTE then any_note
    else (if b == TYPE then refused 1 UnsupportedRecord
    else (if b == WEAK_REFERENCE then weak_reference
    else (if b == REPEAT then repeat
    else (if b == BLOCK_BEGIN then block_begin
    else (if b == BLOCK_END then block_end else refused 1 BadRecord)))))))))))))))))

-- any record except an item
abbrev pub body : Layout
body = byte ▹ λ b. coded b

-- the next byte must be this code, otherwise the header is bad, and the error is reported `back` bytes before the offset after that byte
abbrev pub begins_with : ℕ → ℕ → Layout → Layout
begins_with back code rest = byte ▹ λ b. if b == code then rest else refused back BadHeader

-- The layout of the record that is expected in each mode.
abbrev pub layout_of : Mode → Layout
layout_of mode.Begin = begins_with 1 MODULE_BEGIN module_begin
layout_of mode.Descriptor = begins_with 1 DESCRIPTOR descriptor
layout_of (mode.Offset k) = begins_with 1 ASSIGNMENT (begins_with 2 LETTER_W (numbered_offset k))
layout_of mode.Body = body
layout_of mode.Items = item
layout_of mode.GnuItems = gnu_item

-- The bytes are a complete record before the byte `next` or, if that is None, at the end of the input: no optional field could still begin.
abbrev pub IsWholeRecord : Mode → Record → List ℕ → Option ℕ → Type 0
IsWholeRecord mode record_ bytes next = SpellsRecord (layout_of mode) record_ 0 bytes next
