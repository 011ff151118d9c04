-- What the code keeps of the records of a prefix: which indexes they declare, and for which they state a size, a value and so on.
use Rattle.std.specs.Prelude.{ℕ, zero, suc, ◌<◌, ◌-◌, ◌^◌, ◌==◌, ◌||◌, ◌&&◌, Bool, true, false, not, List, [], ◌∷◌, ◌++◌, length, filter_map, Option}
use Rattle.std.specs.Prelude.{Some, None, is_none, option_to_list, if◌then◌else◌}
use Rattle.std.specs.List.{list_any, list_all}
use Rattle.mufom_numbers.specs.declared.reason.Reason.{Reason}
use Rattle.mufom_numbers.specs.declared.reason.Reason.TheVariants as why
use Rattle.mufom_expr.specs.declared.token.Letter.{Letter}
use Rattle.mufom_expr.specs.Tree.{Tree}
use Rattle.mufom_expr.specs.Value.{variables_of}
use Rattle.mufom_expr.specs.Spelled.{Indexes}
use Rattle.mufom_records.specs.declared.record.Record.{Record}
use Rattle.mufom_records.specs.declared.record.Record.TheVariants as r
use Rattle.mufom_module.specs.Contents.{any_of}
use Rattle.mufom_module.specs.Defects.{has_other_counter}
use Rattle.mufom_module.specs.RecordParts.{is_loading}
use Rattle.mufom_module.specs.SpelledRecords.{SpelledRecord, Kind, FileIndex, section, public, reference, debug_name, declared, named_by}
use Rattle.mufom_module.specs.SpelledRecords.{is_public_value, tree_of_record, index_of_variable, Once, value_of_public, weakness, alignment}
use Rattle.mufom_module.specs.SpelledRecords.{section_size, section_base, start_address, assigned_by, is_assigned}
use Rattle.mufom_read.specs.declared.tables.Tables.{Tables}
use Rattle.std.specs.Option.{option_or}
use Rattle.mufom_records.specs.Parts.{HasParts, HasTokens}
use Rattle.mufom_read.specs.declared.seen.SeenRecord.{SeenRecord}
use Rattle.mufom_read.specs.declared.refusal.ReadRefusal.{ReadRefusal}
use Rattle.mufom_judging.specs.Prefixes.{OffsetRecord}
use Rattle.mufom_judging.specs.Faults.{Fault, fault_if, OpenBlock, ends_badly, is_too_deep, current_section, has_bad_alignment, public_declared}

-- ---- what records state once

-- the index whose alignment, size, base, value or weakness is stated
abbrev pub alignment_stated : Once → Option ℕ
alignment_stated (alignment i) = Some i
alignment_stated _ = None

abbrev pub size_stated : Once → Option ℕ
size_stated (section_size i) = Some i
size_stated _ = None

abbrev pub base_stated : Once → Option ℕ
base_stated (section_base i) = Some i
base_stated _ = None

abbrev pub value_stated : Once → Option ℕ
value_stated (value_of_public i) = Some i
value_stated _ = None

abbrev pub weakness_stated : Once → Option ℕ
weakness_stated (weakness i) = Some i
weakness_stated _ = None

-- what records may state only once, in order
abbrev pub statements : List SpelledRecord → List Once
statements records = filter_map (λ p. assigned_by p.row) records

-- ---- the tables

-- the tables that records fill
abbrev pub tables_of : List SpelledRecord → Tables
tables_of records = record {
  sections = declared section records;
  publics = declared public records;
  references = declared reference records;
  debug_names = declared debug_name records;
  alignments = filter_map alignment_stated (statements records);
  sizes = filter_map size_stated (statements records);
  bases = filter_map base_stated (statements records);
  values = filter_map value_stated (statements records);
  weaknesses = filter_map weakness_stated (statements records);
  current = current_section records;
  has_start = is_assigned records start_address;
}

-- the index lists of the tables
abbrev pub indexes_by : Tables → Indexes
indexes_by t = record { sections = t.sections; publics = t.publics; references = t.references; debug_names = t.debug_names }

-- the tables with what one more record declares or states
abbrev pub with_row : Tables → Record → Tables
with_row t (r.SectionType i _ _ _ _ _ _) = record t { sections = t.sections ++ i ∷ [] }
with_row t (r.PublicName i _) = record t { publics = t.publics ++ i ∷ [] }
with_row t (r.ReferenceName i _) = record t { references = t.references ++ i ∷ [] }
with_row t (r.DebugName i _) = record t { debug_names = t.debug_names ++ i ∷ [] }
with_row t (r.Alignment i _ _) = record t { alignments = t.alignments ++ i ∷ [] }
with_row t (r.SectionSize i _) = record t { sizes = t.sizes ++ i ∷ [] }
with_row t (r.SectionBase i _) = record t { bases = t.bases ++ i ∷ [] }
with_row t (r.PublicValue i _) = record t { values = t.values ++ i ∷ [] }
with_row t (r.WeakReference i _ _) = record t { weaknesses = t.weaknesses ++ i ∷ [] }
with_row t (r.SetSection i) = record t { current = Some i }
with_row t (r.Start _) = record t { has_start = true }
with_row t _ = t

abbrev pub has : List ℕ → ℕ → Bool
has indexes index = list_any (λ i. i == index) indexes

-- the record declares an index that its table has already
abbrev pub declares_again_in : Tables → Record → Bool
declares_again_in t (r.SectionType i _ _ _ _ _ _) = has t.sections i
declares_again_in t (r.PublicName i _) = has t.publics i
declares_again_in t (r.ReferenceName i _) = has t.references i
declares_again_in t (r.DebugName i _) = has t.debug_names i
declares_again_in t _ = false

-- the record states something that, by the tables, was stated already
abbrev pub states_again_in : Tables → Record → Bool
states_again_in t (r.PublicValue i _) = has t.values i
states_again_in t (r.WeakReference i _ _) = has t.weaknesses i
states_again_in t (r.Alignment i _ _) = has t.alignments i
states_again_in t (r.SectionSize i _) = has t.sizes i
states_again_in t (r.SectionBase i _) = has t.bases i
states_again_in t (r.Start _) = t.has_start
states_again_in t _ = false

abbrev pub is_new : Tables → Record → Bool
is_new t row = not (declares_again_in t row) && not (states_again_in t row)

-- ---- the rules, read off the tables

-- the declared indexes of a kind
abbrev pub entries_in : Tables → Kind → List ℕ
entries_in t section = t.sections
entries_in t public = t.publics
entries_in t reference = t.references
entries_in t debug_name = t.debug_names

-- the index is declared
abbrev pub is_declared_in : Tables → FileIndex → Bool
is_declared_in t index = has (entries_in t index.0) index.1

-- a variable whose index is not declared
abbrev pub is_unknown : Tables → Letter × ℕ → Bool
is_unknown t v = not (is_declared_in t (index_of_variable v))

abbrev pub names_unknown_entry_in : Tables → Record → Bool
names_unknown_entry_in t row = not (list_all (is_declared_in t) (option_to_list (named_by row)))

-- the record, with this expression, refers to an index that is not declared
abbrev pub names_unknown_in : Tables → Record → Option Tree → Bool
names_unknown_in t row tree = names_unknown_entry_in t row || (not (is_public_value row) && any_of (λ e. list_any (is_unknown t) (variables_of e)) tree)

abbrev pub has_no_section_in : Tables → Record → Bool
has_no_section_in t row = is_loading row && is_none t.current

abbrev pub counter_allowed_in : Tables → Record → Option ℕ
counter_allowed_in t (r.SetPc i value) = Some i
counter_allowed_in t (r.FieldItem kind value size) = t.current
counter_allowed_in t _ = None

abbrev pub misplaces_counter_in : Tables → Record → Option Tree → Bool
misplaces_counter_in t row tree = any_of (has_other_counter (counter_allowed_in t row)) tree

-- the first rule that the record, with this expression, breaks; `blocks` are the open blocks
abbrev pub rule_broken_in : Tables → List OpenBlock → Record → Option Tree → Option Reason
rule_broken_in t blocks row tree = if declares_again_in t row then Some why.DuplicateIndex
    else (if names_unknown_in t row tree then Some why.UnknownIndex
    else (if states_again_in t row then Some why.DuplicateValue
    else (if has_bad_alignment row then Some why.BadAlignment
    else (if has_no_section_in t row then Some why.NoSection
    else (if misplaces_counter_in t row tree then Some why.BadP
    else (if ends_badly blocks row then Some why.BlockNesting
    else (if is_too_deep blocks row then Some why.Depth else None)))))))

-- ---- parts as wholes, read off the tables

abbrev pub lacks_value_in : Tables → Record → Bool
lacks_value_in t row = any_of (λ i. not (has t.values i)) (public_declared row)

-- the record states a public's value with a variable whose index is not declared
abbrev pub has_unknown_value_in : Tables → SpelledRecord → Bool
has_unknown_value_in t p = is_public_value p.row && any_of (λ e. list_any (is_unknown t) (variables_of e)) (tree_of_record p)

abbrev pub external_fault_in : Tables → OffsetRecord → Option Fault
external_fault_in t p = option_or (fault_if (has_unknown_value_in t p.1) p.0 why.UnknownIndex) (fault_if (lacks_value_in t p.1.row) p.0 why.MissingValue)

-- ---- the record that is being checked

abbrev pub as_record : Record → List ℕ → SpelledRecord
as_record row bytes = record { row = row; bytes = bytes }

-- the record that is being checked, with its bytes
abbrev pub record_of_seen : SeenRecord → SpelledRecord
record_of_seen s = as_record s.row.now s.bytes.now

-- the same with its offset
abbrev pub placed : SeenRecord → OffsetRecord
placed s = (s.start, record_of_seen s)

-- its strings, its literal bytes and its expressions are within its bytes
abbrev pub HasOwnParts : SeenRecord → Type 0
HasOwnParts s = HasParts s.bytes.now s.row.now

-- its tokens are those of its expression, if it has one
abbrev pub HasOwnTokens : SeenRecord → Type 0
HasOwnTokens s = HasTokens s.bytes.now s.row.now s.tokens.now

-- an error of the code as an error of the specs
abbrev pub as_fault : ReadRefusal → Fault
as_fault f = (f.offset, f.reason)

-- the first of two numbers that is not 0
abbrev pub first_or : ℕ → ℕ → ℕ
first_or zero w = w
first_or (suc v) w = suc v

-- no table is full
pub record HasRoom (t : Tables) : Type 0 where
  pub sections : length t.sections < 2 ^ 32 - 1
  pub publics : length t.publics < 2 ^ 32 - 1
  pub references : length t.references < 2 ^ 32 - 1
  pub debug_names : length t.debug_names < 2 ^ 32 - 1
  pub alignments : length t.alignments < 2 ^ 32 - 1
  pub sizes : length t.sizes < 2 ^ 32 - 1
  pub bases : length t.bases < 2 ^ 32 - 1
  pub values : length t.values < 2 ^ 32 - 1
  pub weaknesses : length t.weaknesses < 2 ^ 32 - 1
