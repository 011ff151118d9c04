-- The errors of records at their locations, and of whole parts, after a prefix of the stream. Each is defined by the bytes
-- before it alone: no running state is kept here.
use Rattle.std.specs.Prelude.{ℕ, ◌+◌, ◌-◌, ◌==◌, ◌&&◌, ◌||◌, nat_lt, nat_le, Bool, true, false, not, List, [], ◌∷◌, ◌++◌, length, filter_map, Option}
use Rattle.std.specs.Prelude.{Some, None, is_some, if◌then◌else◌}
use Rattle.std.specs.List.{list_all, list_any, find, last_or}
use Rattle.std.specs.Option.{option_or}
use Rattle.mufom_numbers.specs.declared.limits.TheConstants.{MOST_ALIGNMENT}
use Rattle.mufom_numbers.specs.declared.reason.Reason.{Reason}
use Rattle.mufom_numbers.specs.declared.reason.Reason.TheVariants as why
use Rattle.mufom_numbers.specs.declared.taken.Taken.{Taken}
use Rattle.mufom_numbers.specs.declared.taken.Taken.TheVariants.{Got, More, Bad}
use Rattle.mufom_records.specs.declared.record.Record.{Record}
use Rattle.mufom_records.specs.declared.record.Record.TheVariants as r
use Rattle.mufom_module.specs.Contents.{any_of}
use Rattle.mufom_module.specs.Defects.{is_unit_count, has_other_counter}
use Rattle.mufom_module.specs.SpelledRecords.{SpelledRecord, value_of_public, section_base, is_declared, named_in_expression, is_assigned}
use Rattle.mufom_module.specs.SpelledRecords.{is_public_value, tree_of_record}
use Rattle.mufom_module.specs.RecordParts.{Part, section_part, external_part, debug_part, end_part, stands_in}
use Rattle.mufom_module.specs.Grammar.{declares_again, states_again, names_unknown, has_no_section}
use Rattle.mufom_judging.specs.Prefixes.{Step, raw, read, OffsetRecord, Extent, Location, in_header, in_part, at_end, size_of, records_of}
use Rattle.mufom_judging.specs.Prefixes.{offset_records_of, offsets_of, first_present, part_at, location_after, next_step}
use Rattle.mufom_records.specs.declared.options.ReadOptions.{ReadOptions}

-- an error in a stream: its offset and its reason
abbrev pub Fault : Type 0
Fault = ℕ × Reason

-- this error, if the test is true
abbrev pub fault_if : Bool → ℕ → Reason → Option Fault
fault_if test fault_offset reason = if test then Some (fault_offset, reason) else None

-- the error for this reason, if there is one
abbrev pub fault_for : ℕ → Option Reason → Option Fault
fault_for fault_offset None = None
fault_for fault_offset (Some reason) = Some (fault_offset, reason)

-- ---- whole records of the header

-- an addressable unit (MAU) does not have 8 bits, or an address does not have 1 to 8 MAUs
abbrev pub is_bad_descriptor : Record → Bool
is_bad_descriptor (r.Descriptor bits maus letter) = not ((bits == 8) && is_unit_count maus)
is_bad_descriptor _ = false

-- the offset is not 0 and below an earlier one, or is the eighth one (that of the module's end) and 0
abbrev pub is_out_of_order : List ℕ → ℕ → Bool
is_out_of_order earlier w = (not (w == 0) && list_any (λ e. nat_lt w e) earlier) || ((length earlier == 7) && (w == 0))

-- there are eight offsets, and the first of them that is not 0 differs from `end`, the offset after their records
abbrev pub leaves_gap : List ℕ → ℕ → Bool
leaves_gap offsets end = (length offsets == 8) && not (first_present offsets == end)

-- the error of a part's offset after the earlier ones, if there is one; its record is at `start` up to `end` in the file
abbrev pub offset_fault : List ℕ → ℕ → ℕ → ℕ → Option Fault
offset_fault earlier w start end = option_or (fault_if (is_out_of_order earlier w) start why.OffsetOrder)
    (fault_if (leaves_gap (earlier ++ w ∷ []) end) end why.PartGap)

abbrev pub header_fault : List ℕ → ℕ → ℕ → Record → Option Fault
header_fault earlier start end (r.Offset n w) = offset_fault earlier w start end
header_fault earlier start end row = fault_if (is_bad_descriptor row) start why.BadDescriptor

-- ---- whole records of the parts

-- an alignment outside 1 to 2^31 MAUs
abbrev pub has_bad_alignment : Record → Bool
has_bad_alignment (r.Alignment i n other) = (n == 0) || nat_lt MOST_ALIGNMENT n
has_bad_alignment _ = false

-- the section that a record makes the current section
abbrev pub set_by : Record → Option ℕ
set_by (r.SetSection i) = Some i
set_by _ = None

-- the index of the current section: that of the last SB
abbrev pub current_section : List SpelledRecord → Option ℕ
current_section before = last_or None (filter_map (λ p. set_by p.row) before)

-- the section whose program counter the record's expression may use
abbrev pub counter_allowed : List SpelledRecord → Record → Option ℕ
counter_allowed before (r.SetPc i value) = Some i
counter_allowed before (r.FieldItem kind value size) = current_section before
counter_allowed before _ = None

-- its expression uses the program counter of another section
abbrev pub misplaces_counter : List SpelledRecord → SpelledRecord → Bool
misplaces_counter before p = any_of (has_other_counter (counter_allowed before p.row)) (tree_of_record p)

-- a debug block: the offset of its BB, and its kind
abbrev pub OpenBlock : Type 0
OpenBlock = ℕ × ℕ

-- the blocks that are open after a record, if these were open before it; the innermost is first
abbrev pub opened_after : List OpenBlock → ℕ → Record → List OpenBlock
opened_after blocks start (r.BlockBegin kind n name block) = (start, kind) ∷ blocks
opened_after [] start (r.BlockEnd value) = []
opened_after (innermost ∷ blocks) start (r.BlockEnd value) = blocks
opened_after blocks start _ = blocks

abbrev pub open_from : List OpenBlock → List OffsetRecord → List OpenBlock
open_from blocks [] = blocks
open_from blocks (p ∷ more) = open_from (opened_after blocks p.0 p.1.row) more

-- the blocks that are open after records
abbrev pub open_blocks : List OffsetRecord → List OpenBlock
open_blocks before = open_from [] before

-- a BE with no open block, or a BE with an expression for a block whose kind allows none (3 and 5)
abbrev pub ends_badly : List OpenBlock → Record → Bool
ends_badly [] (r.BlockEnd value) = true
ends_badly (innermost ∷ blocks) (r.BlockEnd value) = is_some value && ((innermost.1 == 3) || (innermost.1 == 5))
ends_badly blocks _ = false

-- a BB although 32 blocks are open already
abbrev pub is_too_deep : List OpenBlock → Record → Bool
is_too_deep blocks (r.BlockBegin kind n name block) = nat_le 32 (length blocks)
is_too_deep blocks _ = false

-- Whether a record in its part breaks a rule, given the records before it.
abbrev pub breaks : List OffsetRecord → List SpelledRecord → SpelledRecord → Reason → Bool
breaks placed before p why.DuplicateIndex = declares_again before p.row
breaks placed before p why.UnknownIndex = names_unknown before p
breaks placed before p why.DuplicateValue = states_again before p.row
breaks placed before p why.BadAlignment = has_bad_alignment p.row
breaks placed before p why.NoSection = has_no_section before p.row
breaks placed before p why.BadP = misplaces_counter before p
breaks placed before p why.BlockNesting = ends_badly (open_blocks placed) p.row
breaks placed before p why.Depth = is_too_deep (open_blocks placed) p.row
breaks placed before p _ = false

-- the rules in the order in which they are checked, which is that of `Reason`
abbrev pub rules : List Reason
rules = why.DuplicateIndex ∷ why.UnknownIndex ∷ why.DuplicateValue ∷ why.BadAlignment ∷ why.NoSection ∷ why.BadP ∷ why.BlockNesting ∷ why.Depth ∷ []

-- the first rule that a record breaks after a prefix
abbrev pub rule_broken : List Step → SpelledRecord → Option Reason
rule_broken prefix p = find (breaks (offset_records_of prefix) (records_of prefix) p) rules

-- In this order: the record goes past the part's end, it belongs to another part, or it breaks a rule.
abbrev pub part_record_fault : List Step → Extent → ℕ → SpelledRecord → Option Fault
part_record_fault prefix extent start p = option_or (fault_if (nat_lt extent.to (start + length p.bytes)) start why.PartGap)
    (option_or (fault_if (not (stands_in extent.part p.row)) start why.WrongPart)
    (fault_for start (rule_broken prefix p)))

-- The error of a complete record at its location, if there is one. Where the module must end, any record but ME is in the
-- wrong part.
abbrev pub record_fault : List Step → Location → ℕ → SpelledRecord → Option Fault
record_fault prefix (in_header k) start p = header_fault (offsets_of prefix) start (start + length p.bytes) p.row
record_fault prefix (in_part extent) start p = part_record_fault prefix extent start p
record_fault prefix at_end start p = fault_if (not (stands_in end_part p.row)) start why.WrongPart

-- the error of what follows a prefix, if there is one: of a field, or of a complete record
abbrev pub step_fault : List Step → Taken Step → Option Fault
step_fault prefix (Got (raw b) used) = None
step_fault prefix (Got (read start p) used) = record_fault prefix (location_after prefix) start p
step_fault prefix More = None
step_fault prefix (Bad offset reason) = Some (size_of prefix + offset, reason)

-- ---- parts as wholes

-- the public that a record declares
abbrev pub public_declared : Record → Option ℕ
public_declared (r.PublicName i name) = Some i
public_declared _ = None

-- the record declares a public that no record of the part gives a value
abbrev pub lacks_value : List SpelledRecord → Record → Bool
lacks_value all row = any_of (λ i. not (is_assigned all (value_of_public i))) (public_declared row)

-- a variable of a public's value is still not declared at the part's end
abbrev pub has_unknown_variable : List SpelledRecord → SpelledRecord → Bool
has_unknown_variable all p = is_public_value p.row && not (list_all (is_declared all) (named_in_expression p))

abbrev pub external_fault : List SpelledRecord → OffsetRecord → Option Fault
external_fault all p = option_or (fault_if (has_unknown_variable all p.1) p.0 why.UnknownIndex) (fault_if (lacks_value all p.1.row) p.0 why.MissingValue)

-- the absolute section that a record declares
abbrev pub absolute_declared : Record → Option ℕ
absolute_declared (r.SectionType i true purpose name a b c) = Some i
absolute_declared _ = None

-- the record declares an absolute section that no record of the part gives a base
abbrev pub lacks_base : List SpelledRecord → Record → Bool
lacks_base all row = any_of (λ i. not (is_assigned all (section_base i))) (absolute_declared row)

abbrev pub section_fault : List SpelledRecord → OffsetRecord → Option Fault
section_fault all p = fault_if (lacks_base all p.1.row) p.0 why.MissingBase

-- the error of the first record that has one
abbrev pub first_fault : (OffsetRecord → Option Fault) → List OffsetRecord → Option Fault
first_fault fault [] = None
first_fault fault (p ∷ more) = option_or (fault p) (first_fault fault more)

-- the error for blocks that are left open, at the start of the innermost one
abbrev pub open_fault : List OpenBlock → Option Fault
open_fault [] = None
open_fault (innermost ∷ blocks) = Some (innermost.0, why.BlockNesting)

-- the error of a whole part; if there are several, the one with the smallest offset
abbrev pub whole_fault : Part → List Step → Option Fault
whole_fault section_part prefix = first_fault (section_fault (records_of prefix)) (offset_records_of prefix)
whole_fault external_part prefix = first_fault (external_fault (records_of prefix)) (offset_records_of prefix)
whole_fault debug_part prefix = open_fault (open_blocks (offset_records_of prefix))
whole_fault _ prefix = None

-- the error of this part, if the part ends where the prefix does
abbrev pub ended_fault : List Step → Option Extent → Option Fault
ended_fault prefix None = None
ended_fault prefix (Some extent) = if extent.to == size_of prefix then whole_fault extent.part prefix else None

-- If a part ends where the prefix does: the error of that part, which contains the prefix's last byte.
abbrev pub ended_part_fault : List Step → Option Fault
ended_part_fault prefix = ended_fault prefix (part_at prefix (size_of prefix - 1))

-- ---- together

-- The first error after a prefix: the error of the part that has just ended, and otherwise the error of the next step.
abbrev pub fault_after : ReadOptions → List Step → List ℕ → Option Fault
fault_after options prefix rest = option_or (ended_part_fault prefix) (step_fault prefix (next_step options prefix rest))
