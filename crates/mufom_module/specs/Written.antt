-- The written form of a module, and its weight (IEEE Std 695, module structure, in this project's profile; the bytes
-- of commands and brackets are those of the public `ieee.h`).
use Rattle.std.specs.Prelude.{ℕ, ◌+◌, ◌==◌, Bool, true, false, List, [], ◌∷◌, ◌++◌, length, Option, Some, None, if◌then◌else◌}
use Rattle.std.specs.Int.{w16, w32, w64, to_be_bytes}
use Rattle.mufom_numbers.specs.declared.codes.TheConstants.{ASSIGNMENT, BLOCK_BEGIN, BLOCK_END, CONSTANT, DEBUG_NAME, DESCRIPTOR, LAST_NUMBER}
use Rattle.mufom_numbers.specs.declared.codes.TheConstants.{LETTER_A, LETTER_C, LETTER_D, LETTER_G, LETTER_I, LETTER_L, LETTER_M, LETTER_N, LETTER_P}
use Rattle.mufom_numbers.specs.declared.codes.TheConstants.{LETTER_R, LETTER_S, LETTER_W, LETTER_X, LONG_STRING, MODULE_BEGIN, MODULE_END, NOTE}
use Rattle.mufom_numbers.specs.declared.codes.TheConstants.{NUMBER_OF_FOUR_BYTES, PUBLIC_NAME, REFERENCE_NAME, RELOCATE, REPEAT, SECTION_ALIGNMENT}
use Rattle.mufom_numbers.specs.declared.codes.TheConstants.{SECTION_TYPE, SET_SECTION, WEAK_REFERENCE}
use Rattle.mufom_numbers.specs.Spelling.{shortest_number, shortest_lead}
use Rattle.mufom_expr.specs.declared.token.Letter.{Letter}
use Rattle.mufom_expr.specs.declared.token.Letter.TheVariants.{I, L, P, R, S, X}
use Rattle.mufom_expr.specs.declared.token.FieldKind.{FieldKind}
use Rattle.mufom_expr.specs.declared.token.FieldKind.TheVariants.{Either}
use Rattle.mufom_expr.specs.declared.token.Token.{Token}
use Rattle.mufom_expr.specs.declared.token.Token.TheVariants.{Number, Var, Fun}
use Rattle.mufom_expr.specs.Codes.{letter_byte, function_byte}
use Rattle.mufom_expr.specs.Tree.{Tree, tokens_of}
use Rattle.mufom_records.specs.Layouts.{comma, opening, closing}
use Rattle.mufom_sections.specs.declared.section.Purpose.{Purpose}
use Rattle.mufom_sections.specs.declared.section.Purpose.TheVariants as purpose
use Rattle.mufom_sections.specs.declared.section.Section.{Section}
use Rattle.mufom_names.specs.declared.name.Note.{Note}
use Rattle.mufom_names.specs.declared.name.Weak.{Weak}
use Rattle.mufom_names.specs.declared.name.Public.{Public}
use Rattle.mufom_names.specs.declared.name.Reference.{Reference}
use Rattle.mufom_loads.specs.declared.load.Item.{Item}
use Rattle.mufom_loads.specs.declared.load.Item.TheVariants.{Literal, Field}
use Rattle.mufom_loads.specs.declared.load.Load.{Load}
use Rattle.mufom_loads.specs.declared.load.Load.TheVariants.{SetSection, SetPc, One, Repeat}
use Rattle.mufom_debug.specs.declared.item.BlockHead.{BlockHead}
use Rattle.mufom_debug.specs.declared.item.BlockHead.TheVariants as heads
use Rattle.mufom_debug.specs.Marks.{DebugMark, block_begin, block_end, name_mark, note_mark, value_mark, joined, marks_of, kind_number, names_after}
use Rattle.mufom_module.specs.declared.module.Order.{Order}
use Rattle.mufom_module.specs.declared.module.Order.TheVariants.{Least, Most}
use Rattle.mufom_module.specs.declared.module.Parts.{Parts}

-- how numbers and the leads of strings are spelled
pub record Style : Type 0 where
  pub number : ℕ → List ℕ
  pub lead : ℕ → List ℕ

-- the style of a writer
abbrev pub shortest : Style
shortest = record { number = shortest_number; lead = shortest_lead }

-- nine bytes for each number, and three for each lead
abbrev pub widest : Style
widest = record { number = λ n. LAST_NUMBER ∷ to_be_bytes w64 n; lead = λ len. LONG_STRING ∷ to_be_bytes w16 len }

-- the forms of the entries of a list, each with its position, counted from n
abbrev pub each_from : {X : Type 0} → ℕ → (ℕ → X → List ℕ) → List X → List ℕ
each_from n write [] = []
each_from n write (x ∷ xs) = write n x ++ each_from (n + 1) write xs

-- the forms of all entries of a list
abbrev pub each : {X : Type 0} → (ℕ → X → List ℕ) → List X → List ℕ
each write xs = each_from 0 write xs

-- ---- the indexes that a written file uses

-- sections count from 1
abbrev pub section_index : ℕ → ℕ
section_index position = position + 1

-- publics count from 32
abbrev pub public_index : ℕ → ℕ
public_index position = position + 32

-- references count from 11
abbrev pub reference_index : ℕ → ℕ
reference_index position = position + 11

-- debug names count from 32
abbrev pub debug_name_index : ℕ → ℕ
debug_name_index position = position + 32

-- the index of the entry that a variable names
abbrev pub index_of : Letter → ℕ → ℕ
index_of I position = public_index position
index_of L position = section_index position
index_of P position = section_index position
index_of R position = section_index position
index_of S position = section_index position
index_of X position = reference_index position

-- the letters of a section: `A S` for an absolute one, otherwise `C`
abbrev pub section_letters : Bool → List ℕ
section_letters true = LETTER_A ∷ LETTER_S ∷ []
section_letters false = LETTER_C ∷ []

-- the letter of a purpose, if there is one
abbrev pub purpose_letter : Option Purpose → List ℕ
purpose_letter None = []
purpose_letter (Some purpose.Code) = LETTER_P ∷ []
purpose_letter (Some purpose.Data) = LETTER_D ∷ []
purpose_letter (Some purpose.Rom) = LETTER_R ∷ []

-- the letter of an order of bytes
abbrev pub order_letter : Order → ℕ
order_letter Least = LETTER_L
order_letter Most = LETTER_M

-- the offsets of parts that start at an offset, and then the offset of their end; an empty part has the offset 0
abbrev pub offsets_from : ℕ → List (List ℕ) → List ℕ
offsets_from at [] = at ∷ []
offsets_from at ([] ∷ rest) = 0 ∷ offsets_from at rest
offsets_from at ((b ∷ bytes) ∷ rest) = at ∷ offsets_from (at + length (b ∷ bytes)) rest

-- ---- the records, in a style
module _ (style : Style) where
  -- a number in the style
  abbrev pub number : ℕ → List ℕ
  number n = style.number n

  -- a string is its lead and its bytes
  abbrev pub string : List ℕ → List ℕ
  string text = style.lead (length text) ++ text

  -- the number of bytes of a literal, and then the bytes
  abbrev pub counted : List ℕ → List ℕ
  counted bytes = number (length bytes) ++ bytes

  -- a token: a number, a letter with its index, or the byte of a function
  abbrev pub token : Token → List ℕ
  token (Number n) = number n
  token (Var letter position) = letter_byte letter ∷ number (index_of letter position)
  token (Fun f) = function_byte f ∷ []

  -- the tokens of an expression, one after another
  abbrev pub expression : Tree → List ℕ
  expression tree = each (λ _. token) (tokens_of tree)

  -- numbers, one after another
  abbrev pub numbers : List ℕ → List ℕ
  numbers ns = each (λ _. number) ns

  -- ---- sections

  -- the declaration, ST
  abbrev pub section_record : ℕ → Section → List ℕ
  section_record i s = SECTION_TYPE ∷ (number i ++ (section_letters s.absolute ++ (purpose_letter s.purpose ++ string s.name)))

  -- SA, unless the alignment is 1
  abbrev pub alignment_record : ℕ → ℕ → List ℕ
  alignment_record i align = if align == 1 then [] else SECTION_ALIGNMENT ∷ (number i ++ number align)

  -- ASS, unless the size is 0
  abbrev pub size_record : ℕ → ℕ → List ℕ
  size_record i size = if size == 0 then [] else ASSIGNMENT ∷ LETTER_S ∷ (number i ++ number size)

  -- ASL, for a section with a base
  abbrev pub base_record : ℕ → Option ℕ → List ℕ
  base_record i None = []
  base_record i (Some base) = ASSIGNMENT ∷ LETTER_L ∷ (number i ++ number base)

  -- all records of a section
  abbrev pub section : ℕ → Section → List ℕ
  section position s = let i = section_index position in
      section_record i s ++ (alignment_record i s.align ++ (size_record i s.size ++ base_record i s.base))

  -- ---- names

  -- a note on a name of a kind (I of publics, X of references, N of debug names)
  abbrev pub note : ℕ → ℕ → Note → List ℕ
  note letter i n = NOTE ∷ letter ∷ (number i ++ (number n.type_index ++ (number n.attribute ++ numbers n.numbers.items)))

  -- NI, the notes as ATI, and ASI
  abbrev pub public : ℕ → Public → List ℕ
  public position p = let i = public_index position in
      (PUBLIC_NAME ∷ (number i ++ string p.name)) ++ (each (λ _. note LETTER_I i) p.notes ++ (ASSIGNMENT ∷ LETTER_I ∷ (number i ++ expression p.value)))

  -- the default, unless it is 0
  abbrev pub default_number : ℕ → List ℕ
  default_number default = if default == 0 then [] else number default

  -- WX, only for a weak reference
  abbrev pub weak : ℕ → Option Weak → List ℕ
  weak i None = []
  weak i (Some w) = WEAK_REFERENCE ∷ (number i ++ (number w.size ++ default_number w.default))

  -- NX, the notes as ATX, and WX if it is weak
  abbrev pub reference : ℕ → Reference → List ℕ
  reference position r = let i = reference_index position in
      (REFERENCE_NAME ∷ (number i ++ string r.name)) ++ (each (λ _. note LETTER_X i) r.notes ++ weak i r.weak)

  -- ---- debug items

  -- what the kind of a block adds to its BB
  abbrev pub head_fields : BlockHead → List ℕ
  head_fields heads.Module = []
  head_fields (heads.Global stack type_index offset) = number stack ++ (number type_index ++ expression offset)
  head_fields (heads.Source ns) = numbers ns.items
  head_fields (heads.Local stack type_index offset) = number stack ++ (number type_index ++ expression offset)
  head_fields (heads.Section section_type section offset) = number section_type ++ (number (section_index section) ++ expression offset)

  -- the expression of BE, if there is one
  abbrev pub end_expression : Option Tree → List ℕ
  end_expression None = []
  end_expression (Some value) = expression value

  -- the record of a mark, if n names are declared before it; the size of a block is written as 0
  abbrev pub debug_record : ℕ → DebugMark → List ℕ
  debug_record n (block_begin head name) = BLOCK_BEGIN ∷ (number (kind_number head) ++ (number 0 ++ (string name ++ head_fields head)))
  debug_record n (block_end value) = BLOCK_END ∷ end_expression value
  debug_record n (name_mark name) = DEBUG_NAME ∷ (number (debug_name_index n) ++ string name)
  debug_record n (note_mark name its) = note LETTER_N (debug_name_index name) its
  debug_record n (value_mark name value) = ASSIGNMENT ∷ LETTER_N ∷ (number (debug_name_index name) ++ expression value)

  -- the records of marks, if `n` names are declared before them
  abbrev pub debug_records : ℕ → List DebugMark → List ℕ
  debug_records n [] = []
  debug_records n (mark ∷ marks) = debug_record n mark ++ debug_records (names_after n mark) marks

  -- ---- loads

  -- a field in its brackets, with comma and size
  abbrev pub field : FieldKind → Tree → ℕ → List ℕ
  field kind value size = opening kind ∷ (expression value ++ (comma ∷ (number size ++ closing kind ∷ [])))

  -- an item of an LR
  abbrev pub item : Item → List ℕ
  item (Literal bytes) = counted bytes
  item (Field kind size value) = field kind value size

  -- a literal is an LD, a field an LR of its own
  abbrev pub single : Item → List ℕ
  single (Literal bytes) = CONSTANT ∷ counted bytes
  single (Field kind size value) = RELOCATE ∷ field kind value size

  -- exactly one literal is repeated as an LD, anything else as an LR of its items
  abbrev pub repeated : List Item → List ℕ
  repeated [] = RELOCATE ∷ []
  repeated (first ∷ []) = single first
  repeated (first ∷ second ∷ more) = RELOCATE ∷ each (λ _. item) (first ∷ second ∷ more)

  -- SB, ASP, an item of its own, or RE
  abbrev pub load : Load → List ℕ
  load (SetSection section) = SET_SECTION ∷ number (section_index section)
  load (SetPc section value) = ASSIGNMENT ∷ LETTER_P ∷ (number (section_index section) ++ expression value)
  load (One x) = single x
  load (Repeat count items) = REPEAT ∷ (number count ++ repeated items)

  -- ---- parts

  -- ASG, with the expression in brackets
  abbrev pub start : Option Tree → List ℕ
  start None = []
  start (Some value) = ASSIGNMENT ∷ LETTER_G ∷ opening Either ∷ (expression value ++ closing Either ∷ [])

  -- publics, then references
  abbrev pub external : Parts → List ℕ
  external m = each public m.names.publics ++ each reference m.names.references

  -- the extension, environment, section, external, debug, data and trailer parts
  abbrev pub parts : Parts → List (List ℕ)
  parts m = m.ext ∷ m.env ∷ each section m.sections ∷ external m
      ∷ debug_records 0 (marks_of m.debug) ∷ each (λ _. load) m.loads ∷ start m.start ∷ []

  -- MB and AD
  abbrev pub module_begin : Parts → List ℕ
  module_begin m = (MODULE_BEGIN ∷ (string m.processor ++ string m.name)) ++ (DESCRIPTOR ∷ (number 8 ++ (number m.maus ++ order_letter m.order ∷ [])))

  -- the ASW record of a part; its offset always takes four bytes
  abbrev pub offset_record : ℕ → ℕ → List ℕ
  offset_record k offset = ASSIGNMENT ∷ LETTER_W ∷ (number k ++ NUMBER_OF_FOUR_BYTES ∷ to_be_bytes w32 offset)

  -- the length of MB, AD and the eight ASW records
  abbrev pub header_length : Parts → ℕ
  header_length m = length (module_begin m ++ each offset_record (0 ∷ 0 ∷ 0 ∷ 0 ∷ 0 ∷ 0 ∷ 0 ∷ 0 ∷ []))

  -- W0 to W7
  abbrev pub offsets : Parts → List ℕ
  offsets m = offsets_from (header_length m) (parts m)

  -- the whole file, with ME at its end
  abbrev pub form : Parts → List ℕ
  form m = module_begin m ++ (each offset_record (offsets m) ++ (joined (parts m) ++ MODULE_END ∷ []))

-- the written form
abbrev pub written : Parts → List ℕ
written m = form shortest m

-- the length in bytes that the written form would have with nine bytes for each number (except the eight offsets) and three for each lead
unfoldable pub weight : Parts → ℕ
weight m = length (form widest m)
