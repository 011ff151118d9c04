-- The records of a file with their bytes: what each declares, names and states once (IEEE Std 695, MUFOM commands).
use Rattle.std.specs.Prelude.{ℕ, ◌+◌, ◌==◌, Bool, true, false, List, [], ◌++◌, map, filter_map, position, slice_range, Option, Some, None, option_map}
use Rattle.std.specs.Prelude.{option_to_list, unwrap_or, if◌then◌else◌}
use Rattle.std.specs.List.{list_any, list_all}
use Rattle.mufom_numbers.specs.declared.taken.Span.{Span}
use Rattle.mufom_expr.specs.declared.token.Letter.{Letter}
use Rattle.mufom_expr.specs.declared.token.Letter.TheVariants.{I, X}
use Rattle.mufom_expr.specs.Tree.{Tree}
use Rattle.mufom_expr.specs.Terms.{the_term}
use Rattle.mufom_expr.specs.TokenAt.{tokens_in}
use Rattle.mufom_expr.specs.Value.{variables_of, with_variables}
use Rattle.mufom_expr.specs.Spelled.{Indexes, list_of}
use Rattle.mufom_records.specs.declared.record.Record.{Record}
use Rattle.mufom_records.specs.declared.record.Record.TheVariants as r
use Rattle.mufom_records.specs.declared.record.BlockTail.{BlockTail}
use Rattle.mufom_records.specs.declared.record.BlockTail.TheVariants as tail
use Rattle.mufom_records.specs.Parts.{expression_of}
use Rattle.mufom_debug.specs.Marks.{joined}

-- a record and its bytes
pub record SpelledRecord : Type 0 where
  pub row : Record
  pub bytes : List ℕ

-- the bytes of records, one after another
abbrev pub bytes_of : List SpelledRecord → List ℕ
bytes_of records = joined (map (λ p. p.bytes) records)

-- the bytes of the record at a position in it
abbrev pub text_in : SpelledRecord → Span → List ℕ
text_in p span = slice_range p.bytes span.start (span.start + span.len)

-- the tree that an expression of the record spells, over the indexes of the file
abbrev pub tree_in : SpelledRecord → Span → Tree
tree_in p span = the_term (tokens_in (text_in p span))

-- ---- indexes

-- the kinds of entries to which a file gives indexes
pub data Kind : Type 0 where
  section : Kind
  public : Kind
  reference : Kind
  debug_name : Kind

-- two kinds are the same
abbrev pub is_same_kind : Kind → Kind → Bool
is_same_kind section section = true
is_same_kind public public = true
is_same_kind reference reference = true
is_same_kind debug_name debug_name = true
is_same_kind _ _ = false

-- an index of a kind
abbrev pub FileIndex : Type 0
FileIndex = Kind × ℕ

-- the kind of entry that a variable's letter names
abbrev pub kind_of_letter : Letter → Kind
kind_of_letter I = public
kind_of_letter X = reference
kind_of_letter _ = section

-- the index that a record declares: ST, NI, NX and NN declare one
abbrev pub declared_by : Record → Option FileIndex
declared_by (r.SectionType i _ _ _ _ _ _) = Some (section, i)
declared_by (r.PublicName i _) = Some (public, i)
declared_by (r.ReferenceName i _) = Some (reference, i)
declared_by (r.DebugName i _) = Some (debug_name, i)
declared_by _ = None

-- the index, if it is of this kind
abbrev pub of_kind : Kind → Option FileIndex → Option ℕ
of_kind kind None = None
of_kind kind (Some index) = if is_same_kind kind index.0 then Some index.1 else None

-- the indexes of a kind that records declare, in order
abbrev pub declared : Kind → List SpelledRecord → List ℕ
declared kind records = filter_map (λ p. of_kind kind (declared_by p.row)) records

-- the records declare the index
abbrev pub is_declared : List SpelledRecord → FileIndex → Bool
is_declared records index = list_any (λ i. i == index.1) (declared index.0 records)

-- the section of a block of kind 11
abbrev pub section_of_block : BlockTail → Option FileIndex
section_of_block (tail.Section _ i _) = Some (section, i)
section_of_block _ = None

-- the index that a record refers to and does not declare
abbrev pub named_by : Record → Option FileIndex
named_by (r.Alignment i _ _) = Some (section, i)
named_by (r.SectionSize i _) = Some (section, i)
named_by (r.SectionBase i _) = Some (section, i)
named_by (r.PublicValue i _) = Some (public, i)
named_by (r.PublicNote i _ _ _) = Some (public, i)
named_by (r.WeakReference i _ _) = Some (reference, i)
named_by (r.ReferenceNote i _ _ _) = Some (reference, i)
named_by (r.BlockBegin _ _ _ block) = section_of_block block
named_by (r.DebugValue i _) = Some (debug_name, i)
named_by (r.DebugNote i _ _ _) = Some (debug_name, i)
named_by (r.SetSection i) = Some (section, i)
named_by (r.SetPc i _) = Some (section, i)
named_by _ = None

-- the tree of its expression
abbrev pub tree_of_record : SpelledRecord → Option Tree
tree_of_record p = option_map (tree_in p) (expression_of p.row)

-- the index that a variable names
abbrev pub index_of_variable : Letter × ℕ → FileIndex
index_of_variable v = (kind_of_letter v.0, v.1)

-- the indexes that the variables of its expression name
abbrev pub named_in_expression : SpelledRecord → List FileIndex
named_in_expression p = map index_of_variable (joined (map variables_of (option_to_list (tree_of_record p))))

-- ASI
abbrev pub is_public_value : Record → Bool
is_public_value (r.PublicValue _ _) = true
is_public_value _ = false

-- The indexes that must be declared before the record: the one that it refers to, and those of its variables. The
-- variables of a public's value may be declared later.
abbrev pub named_at_once : SpelledRecord → List FileIndex
named_at_once p = option_to_list (named_by p.row) ++ (if is_public_value p.row then [] else named_in_expression p)

-- ---- what is stated once

-- what records may state only once: once for each index, and the start address once in a file
pub data Once : Type 0 where
  value_of_public : ℕ → Once
  weakness : ℕ → Once
  alignment : ℕ → Once
  section_size : ℕ → Once
  section_base : ℕ → Once
  start_address : Once

-- two records state the same thing about the same index
abbrev pub is_same_statement : Once → Once → Bool
is_same_statement (value_of_public i) (value_of_public j) = i == j
is_same_statement (weakness i) (weakness j) = i == j
is_same_statement (alignment i) (alignment j) = i == j
is_same_statement (section_size i) (section_size j) = i == j
is_same_statement (section_base i) (section_base j) = i == j
is_same_statement start_address start_address = true
is_same_statement _ _ = false

-- what the record states that may be stated only once; the records ASI, WX, SA, ASS, ASL and ASG do
abbrev pub assigned_by : Record → Option Once
assigned_by (r.PublicValue i _) = Some (value_of_public i)
assigned_by (r.WeakReference i _ _) = Some (weakness i)
assigned_by (r.Alignment i _ _) = Some (alignment i)
assigned_by (r.SectionSize i _) = Some (section_size i)
assigned_by (r.SectionBase i _) = Some (section_base i)
assigned_by (r.Start _) = Some start_address
assigned_by _ = None

-- one of the records states it
abbrev pub is_assigned : List SpelledRecord → Once → Bool
is_assigned records once = list_any (is_same_statement once) (filter_map (λ p. assigned_by p.row) records)

-- ---- positions

-- the position of an index in the list, or 0 if it is not there
abbrev pub position_in : List ℕ → ℕ → ℕ
position_in indexes i = unwrap_or (position (λ j. j == i) indexes) 0

-- the variable with the position of the entry that its index names
abbrev pub positioned_variable : Indexes → Letter → ℕ → Letter × ℕ
positioned_variable ix letter i = (letter, position_in (list_of ix letter) i)

-- the tree with positions in place of the indexes of the file
abbrev pub positioned : Indexes → Tree → Tree
positioned ix tree = with_variables (positioned_variable ix) tree

-- the index of each variable of the tree is in the list of its kind
abbrev pub are_listed : Indexes → Tree → Bool
are_listed ix tree = list_all (λ v. list_any (λ j. j == v.1) (list_of ix v.0)) (variables_of tree)
