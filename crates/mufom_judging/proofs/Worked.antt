-- Worked examples: streams read record by record. The definitions give each of them the result that the format states.
use Rattle.std.proofs.Common.{◌≡◌, ℕ, zero, suc, ◌+◌, Bool, true, false, List, [], ◌∷◌, ◌++◌, length, take, drop, Option, Some, None, refl}
use Rattle.mufom_numbers.specs.declared.reason.Reason.{Reason}
use Rattle.mufom_numbers.specs.declared.reason.Reason.TheVariants as why
use Rattle.mufom_numbers.specs.declared.taken.Taken.{Taken}
use Rattle.mufom_numbers.specs.declared.taken.Taken.TheVariants.{Got}
use Rattle.mufom_records.specs.declared.options.ReadOptions.{ReadOptions}
use Rattle.mufom_judging.specs.Prefixes.{Step, size_of, next_step, is_ended}
use Rattle.mufom_judging.specs.Faults.{Fault, fault_after}

-- the offset at which the module ended, the error, or the offset from which more bytes are needed
data Outcome : Type 0 where
  ended : ℕ → Outcome
  fault : ℕ × Reason → Outcome
  waiting : ℕ → Outcome

abbrev after_step : List Step → Taken Step → (Step → ℕ → Outcome) → Outcome
after_step prefix (Got step used) next = next step used
after_step prefix _ next = waiting (size_of prefix)

abbrev after_fault : Option Fault → (ℕ → Outcome) → Outcome
after_fault (Some f) next = fault f
after_fault None next = next 0

abbrev unless_ended : Bool → ℕ → (ℕ → Outcome) → Outcome
unless_ended true size next = ended size
unless_ended false size next = next 0

-- the result of this number of steps after a prefix
abbrev judged_from : ℕ → ReadOptions → List Step → List ℕ → Outcome
judged_from zero options prefix rest = waiting 0
judged_from (suc k) options prefix rest = unless_ended (is_ended prefix) (size_of prefix) (λ _. after_fault (fault_after options prefix rest)
    (λ _. after_step prefix (next_step options prefix rest) (λ step used. judged_from k options (prefix ++ step ∷ []) (drop used rest))))

abbrev judged : List ℕ → Outcome
judged bytes = judged_from 200 (record { debug = true; gnu = false }) [] bytes

abbrev judged_without_debug : List ℕ → Outcome
judged_without_debug bytes = judged_from 200 (record { debug = false; gnu = false }) [] bytes

-- the bytes with another one at an offset
abbrev patched : ℕ → ℕ → List ℕ → List ℕ
patched at b bytes = take at bytes ++ b ∷ drop (at + 1) bytes

-- a small absolute module
abbrev small : List ℕ
small = 0xE0 ∷ 0x05 ∷ 0x36 ∷ 0x38 ∷ 0x30 ∷ 0x30 ∷ 0x30 ∷ 0x01 ∷ 0x41 ∷ 0xEC ∷ 0x08 ∷ 0x04 ∷ 0xCD ∷ 0xE2 ∷ 0xD7 ∷ 0x00 ∷ 0x84 ∷ 0x00 ∷ 0x00 ∷ 0x00 ∷
    0x00 ∷ 0xE2 ∷ 0xD7 ∷ 0x01 ∷ 0x84 ∷ 0x00 ∷ 0x00 ∷ 0x00 ∷ 0x00 ∷ 0xE2 ∷ 0xD7 ∷ 0x02 ∷ 0x84 ∷ 0x00 ∷ 0x00 ∷ 0x00 ∷ 0x4D ∷ 0xE2 ∷ 0xD7 ∷ 0x03 ∷ 0x84 ∷
    0x00 ∷ 0x00 ∷ 0x00 ∷ 0x00 ∷ 0xE2 ∷ 0xD7 ∷ 0x04 ∷ 0x84 ∷ 0x00 ∷ 0x00 ∷ 0x00 ∷ 0x00 ∷ 0xE2 ∷ 0xD7 ∷ 0x05 ∷ 0x84 ∷ 0x00 ∷ 0x00 ∷ 0x00 ∷ 0x64 ∷ 0xE2 ∷
    0xD7 ∷ 0x06 ∷ 0x84 ∷ 0x00 ∷ 0x00 ∷ 0x00 ∷ 0x72 ∷ 0xE2 ∷ 0xD7 ∷ 0x07 ∷ 0x84 ∷ 0x00 ∷ 0x00 ∷ 0x00 ∷ 0x77 ∷ 0xE6 ∷ 0x01 ∷ 0xC1 ∷ 0xD3 ∷ 0xD0 ∷ 0x04 ∷
    0x63 ∷ 0x6F ∷ 0x64 ∷ 0x65 ∷ 0xE7 ∷ 0x01 ∷ 0x02 ∷ 0xE2 ∷ 0xD3 ∷ 0x01 ∷ 0x04 ∷ 0xE2 ∷ 0xCC ∷ 0x01 ∷ 0x82 ∷ 0x10 ∷ 0x00 ∷ 0xE5 ∷ 0x01 ∷ 0xE2 ∷ 0xD0 ∷
    0x01 ∷ 0x82 ∷ 0x10 ∷ 0x00 ∷ 0xED ∷ 0x04 ∷ 0x4E ∷ 0x71 ∷ 0x4E ∷ 0x75 ∷ 0xE2 ∷ 0xC7 ∷ 0x82 ∷ 0x10 ∷ 0x00 ∷ 0xE1 ∷ []

-- its header and sections with this data part, or with this external or debug part alone, and the end
abbrev with_data : List ℕ → List ℕ
with_data part = take 100 (patched 68 0 (patched 76 (100 + length part) small)) ++ part ++ 0xE1 ∷ []

abbrev with_externals : List ℕ → List ℕ
with_externals part = take 100 (patched 44 100 (patched 60 0 (patched 68 0 (patched 76 (100 + length part) small)))) ++ part ++ 0xE1 ∷ []

abbrev with_debug : List ℕ → List ℕ
with_debug part = take 100 (patched 52 100 (patched 60 0 (patched 68 0 (patched 76 (100 + length part) small)))) ++ part ++ 0xE1 ∷ []

whole : judged small ≡ ended 120
whole = refl

nothing : judged [] ≡ waiting 0
nothing = refl

cut_off : judged (take 119 small) ≡ waiting 114
cut_off = refl

other_begin : judged (patched 0 0xE1 small) ≡ fault (0, why.BadHeader)
other_begin = refl

other_descriptor : judged (patched 9 0xE2 small) ≡ fault (9, why.BadHeader)
other_descriptor = refl

bad_bits : judged (patched 10 0x89 small) ≡ fault (10, why.BadNumber)
bad_bits = refl

sixteen_bits : judged (patched 10 0x10 small) ≡ fault (9, why.BadDescriptor)
sixteen_bits = refl

no_end_offset : judged (patched 76 0x00 small) ≡ fault (69, why.OffsetOrder)
no_end_offset = refl

first_offset_late : judged (patched 36 0x4E small) ≡ fault (77, why.PartGap)
first_offset_late = refl

offset_in_a_record : judged (patched 60 0x65 small) ≡ fault (100, why.PartGap)
offset_in_a_record = refl

alignment_of_another_section : judged (patched 78 0x02 small) ≡ fault (87, why.UnknownIndex)
alignment_of_another_section = refl

alignment_of_zero : judged (patched 89 0x00 small) ≡ fault (87, why.BadAlignment)
alignment_of_zero = refl

current_section_unknown : judged (patched 101 0x02 small) ≡ fault (100, why.UnknownIndex)
current_section_unknown = refl

string_without_lead : judged (patched 108 0xE0 small) ≡ fault (114, why.BadId)
string_without_lead = refl

section_of_no_type : judged (patched 79 0xC2 small) ≡ fault (79, why.BadSectionType)
section_of_no_type = refl

bad_index : judged (with_data (0xE5 ∷ 0x89 ∷ [])) ≡ fault (101, why.BadNumber)
bad_index = refl

no_record : judged (with_data (0xE2 ∷ 0xAA ∷ [])) ≡ fault (101, why.BadRecord)
no_record = refl

left_out_record : judged (with_data (0xF2 ∷ [])) ≡ fault (100, why.UnsupportedRecord)
left_out_record = refl

left_out_function : judged (with_data (0xE2 ∷ 0xD0 ∷ 0x01 ∷ 0x01 ∷ 0x02 ∷ 0xB9 ∷ [])) ≡ fault (105, why.UnsupportedFunction)
left_out_function = refl

left_out_variable : judged (with_data (0xE2 ∷ 0xD0 ∷ 0x01 ∷ 0xC1 ∷ 0x01 ∷ [])) ≡ fault (103, why.UnsupportedVariable)
left_out_variable = refl

too_few_terms : judged (with_data (0xE2 ∷ 0xD0 ∷ 0x01 ∷ 0xA5 ∷ [])) ≡ fault (103, why.Underflow)
too_few_terms = refl

two_terms : judged (with_data (0xE2 ∷ 0xD0 ∷ 0x01 ∷ 0x01 ∷ 0x02 ∷ 0xE5 ∷ 0x01 ∷ [])) ≡ fault (105, why.SurplusTerms)
two_terms = refl

no_term : judged (with_data (0xE2 ∷ 0xD0 ∷ 0x01 ∷ 0xE5 ∷ 0x01 ∷ [])) ≡ fault (103, why.Empty)
no_term = refl

long_run : judged (with_data (0xED ∷ 0x83 ∷ 0x01 ∷ 0x00 ∷ 0x00 ∷ [])) ≡ fault (101, why.LongRun)
long_run = refl

field_of_nine_bytes : judged (with_data (0xE5 ∷ 0x01 ∷ 0xE4 ∷ 0xBE ∷ 0x00 ∷ 0x90 ∷ 0x09 ∷ 0xBF ∷ [])) ≡ fault (106, why.BadFieldSize)
field_of_nine_bytes = refl

other_bracket : judged (with_data (0xE5 ∷ 0x01 ∷ 0xE4 ∷ 0xBE ∷ 0x00 ∷ 0xBB ∷ [])) ≡ fault (105, why.BracketMismatch)
other_bracket = refl

wrong_part : judged (with_data (0xE7 ∷ 0x01 ∷ 0x02 ∷ [])) ≡ fault (100, why.WrongPart)
wrong_part = refl

no_section : judged (with_data (0xED ∷ 0x01 ∷ 0xAA ∷ [])) ≡ fault (100, why.NoSection)
no_section = refl

value_missing : judged (with_externals (0xE8 ∷ 0x20 ∷ 0x01 ∷ 0x61 ∷ [])) ≡ fault (100, why.MissingValue)
value_missing = refl

counter_in_a_public : judged (with_externals (0xE8 ∷ 0x20 ∷ 0x01 ∷ 0x61 ∷ 0xE2 ∷ 0xC9 ∷ 0x20 ∷ 0xD0 ∷ 0x01 ∷ [])) ≡ fault (104, why.BadP)
counter_in_a_public = refl

declared_twice : judged (with_externals (0xE8 ∷ 0x20 ∷ 0x01 ∷ 0x61 ∷ 0xE8 ∷ 0x20 ∷ 0x01 ∷ 0x62 ∷ [])) ≡ fault (104, why.DuplicateIndex)
declared_twice = refl

variable_never_declared : judged (with_externals (0xE8 ∷ 0x20 ∷ 0x01 ∷ 0x61 ∷ 0xE2 ∷ 0xC9 ∷ 0x20 ∷ 0xD8 ∷ 0x0B ∷ [])) ≡ fault (104, why.UnknownIndex)
variable_never_declared = refl

variable_declared_later : judged (with_externals (0xE8 ∷ 0x20 ∷ 0x01 ∷ 0x61 ∷ 0xE2 ∷ 0xC9 ∷ 0x20 ∷ 0xD8 ∷ 0x0B ∷ 0xE9 ∷ 0x0B ∷ 0x01 ∷ 0x62 ∷ [])) ≡ ended 114
variable_declared_later = refl

two_starts : judged (patched 76 0x7A (take 119 small) ++ 0xE2 ∷ 0xC7 ∷ 0x00 ∷ 0xE1 ∷ []) ≡ fault (119, why.DuplicateValue)
two_starts = refl

base_missing : judged (patched 60 0 (patched 68 0 (patched 76 0x5E (take 94 small))) ++ 0xE1 ∷ []) ≡ fault (77, why.MissingBase)
base_missing = refl

block_ended : judged (with_debug (0xF8 ∷ 0x03 ∷ 0x00 ∷ 0x01 ∷ 0x61 ∷ 0xF9 ∷ [])) ≡ ended 107
block_ended = refl

scope_ended : judged (with_debug (0xF8 ∷ 0x04 ∷ 0x00 ∷ 0x01 ∷ 0x66 ∷ 0x00 ∷ 0x00 ∷ 0xD2 ∷ 0x01 ∷ 0xF9 ∷ 0xD2 ∷ 0x01 ∷ [])) ≡ ended 113
scope_ended = refl

end_without_a_block : judged (with_debug (0xF9 ∷ [])) ≡ fault (100, why.BlockNesting)
end_without_a_block = refl

expression_after_a_module : judged (with_debug (0xF8 ∷ 0x03 ∷ 0x00 ∷ 0x01 ∷ 0x61 ∷ 0xF9 ∷ 0x00 ∷ [])) ≡ fault (105, why.BlockNesting)
expression_after_a_module = refl

expression_after_a_source : judged (with_debug (0xF8 ∷ 0x05 ∷ 0x00 ∷ 0x01 ∷ 0x61 ∷ 0xF9 ∷ 0x00 ∷ [])) ≡ fault (105, why.BlockNesting)
expression_after_a_source = refl

blocks_left_open : judged (with_debug (0xF8 ∷ 0x03 ∷ 0x00 ∷ 0x01 ∷ 0x61 ∷ 0xF8 ∷ 0x03 ∷ 0x00 ∷ 0x01 ∷ 0x62 ∷ [])) ≡ fault (105, why.BlockNesting)
blocks_left_open = refl

unknown_variable_of_an_end_without_a_block : judged (with_debug (0xF9 ∷ 0xD2 ∷ 0x02 ∷ [])) ≡ fault (100, why.UnknownIndex)
unknown_variable_of_an_end_without_a_block = refl

block_of_an_unknown_section : judged (with_debug (0xF8 ∷ 0x0B ∷ 0x00 ∷ 0x00 ∷ 0x00 ∷ 0x02 ∷ 0x00 ∷ [])) ≡ fault (100, why.UnknownIndex)
block_of_an_unknown_section = refl

debug_name_declared_twice : judged (with_debug (0xF0 ∷ 0x20 ∷ 0x01 ∷ 0x61 ∷ 0xF0 ∷ 0x20 ∷ 0x01 ∷ 0x62 ∷ [])) ≡ fault (104, why.DuplicateIndex)
debug_name_declared_twice = refl

value_of_an_unknown_debug_name : judged (with_debug (0xE2 ∷ 0xCE ∷ 0x20 ∷ 0x00 ∷ [])) ≡ fault (100, why.UnknownIndex)
value_of_an_unknown_debug_name = refl

note_of_an_unknown_debug_name : judged (with_debug (0xF1 ∷ 0xCE ∷ 0x20 ∷ 0x0F ∷ 0x07 ∷ [])) ≡ fault (100, why.UnknownIndex)
note_of_an_unknown_debug_name = refl

counter_in_a_debug_value : judged (with_debug (0xF0 ∷ 0x20 ∷ 0x01 ∷ 0x61 ∷ 0xE2 ∷ 0xCE ∷ 0x20 ∷ 0xD0 ∷ 0x01 ∷ [])) ≡ fault (104, why.BadP)
counter_in_a_debug_value = refl

public_in_the_debug_part : judged (with_debug (0xE8 ∷ 0x20 ∷ 0x01 ∷ 0x61 ∷ [])) ≡ fault (100, why.WrongPart)
public_in_the_debug_part = refl

unsupported_block : judged (with_debug (0xF8 ∷ 0x07 ∷ 0x00 ∷ 0x01 ∷ 0x61 ∷ [])) ≡ fault (101, why.UnsupportedBlock)
unsupported_block = refl

unsupported_debug_attribute : judged (with_debug (0xF1 ∷ 0xCE ∷ 0x20 ∷ 0x00 ∷ 0x06 ∷ [])) ≡ fault (104, why.UnsupportedAttribute)
unsupported_debug_attribute = refl

-- this number of blocks of kind 3, each within the one before it
abbrev begun : ℕ → List ℕ
begun zero = []
begun (suc k) = 0xF8 ∷ 0x03 ∷ 0x00 ∷ 0x00 ∷ begun k

deepest_block : judged (with_debug (begun 32)) ≡ fault (224, why.BlockNesting)
deepest_block = refl

block_too_deep : judged (with_debug (begun 33)) ≡ fault (228, why.Depth)
block_too_deep = refl

debug_part_passed_over : judged_without_debug (with_debug (0xF2 ∷ 0x20 ∷ 0xCE ∷ 0x01 ∷ [])) ≡ ended 105
debug_part_passed_over = refl

-- a relocatable module
abbrev relocatable : List ℕ
relocatable =
    0xE0 ∷ 0x05 ∷ 0x36 ∷ 0x38 ∷ 0x30 ∷ 0x30 ∷ 0x30 ∷ 0x04 ∷ 0x70 ∷ 0x72 ∷ 0x6F ∷ 0x67 ∷ 0xEC ∷ 0x08 ∷ 0x04 ∷ 0xE2 ∷ 0xD7 ∷ 0x00 ∷ 0x84 ∷ 0x00 ∷ 0x00 ∷
    0x00 ∷ 0x4F ∷ 0xE2 ∷ 0xD7 ∷ 0x01 ∷ 0x84 ∷ 0x00 ∷ 0x00 ∷ 0x00 ∷ 0x52 ∷ 0xE2 ∷ 0xD7 ∷ 0x02 ∷ 0x84 ∷ 0x00 ∷ 0x00 ∷ 0x00 ∷ 0x55 ∷ 0xE2 ∷ 0xD7 ∷
    0x03 ∷ 0x84 ∷ 0x00 ∷ 0x00 ∷ 0x00 ∷ 0x66 ∷ 0xE2 ∷ 0xD7 ∷ 0x04 ∷ 0x84 ∷ 0x00 ∷ 0x00 ∷ 0x00 ∷ 0x00 ∷ 0xE2 ∷ 0xD7 ∷ 0x05 ∷ 0x84 ∷ 0x00 ∷ 0x00 ∷
    0x00 ∷ 0x81 ∷ 0xE2 ∷ 0xD7 ∷ 0x06 ∷ 0x84 ∷ 0x00 ∷ 0x00 ∷ 0x00 ∷ 0x9B ∷ 0xE2 ∷ 0xD7 ∷ 0x07 ∷ 0x84 ∷ 0x00 ∷ 0x00 ∷ 0x00 ∷ 0xA3 ∷ 0xF0 ∷ 0x20 ∷
    0x00 ∷ 0xF0 ∷ 0x21 ∷ 0x00 ∷ 0xE6 ∷ 0x01 ∷ 0xC3 ∷ 0xD0 ∷ 0x05 ∷ 0x2E ∷ 0x74 ∷ 0x65 ∷ 0x78 ∷ 0x74 ∷ 0xE7 ∷ 0x01 ∷ 0x02 ∷ 0xE2 ∷ 0xD3 ∷ 0x01 ∷
    0x0C ∷ 0xE8 ∷ 0x20 ∷ 0x04 ∷ 0x6D ∷ 0x61 ∷ 0x69 ∷ 0x6E ∷ 0xF1 ∷ 0xC9 ∷ 0x20 ∷ 0x0F ∷ 0x13 ∷ 0x01 ∷ 0xE2 ∷ 0xC9 ∷ 0x20 ∷ 0xD2 ∷ 0x01 ∷ 0x04 ∷
    0xA5 ∷ 0xE9 ∷ 0x0B ∷ 0x04 ∷ 0x65 ∷ 0x78 ∷ 0x69 ∷ 0x74 ∷ 0xE5 ∷ 0x01 ∷ 0xE2 ∷ 0xD0 ∷ 0x01 ∷ 0xD2 ∷ 0x01 ∷ 0xE4 ∷ 0x04 ∷ 0x4E ∷ 0x71 ∷ 0x4E ∷
    0x71 ∷ 0xBE ∷ 0xD2 ∷ 0x01 ∷ 0x04 ∷ 0xA5 ∷ 0xBF ∷ 0xBA ∷ 0xD8 ∷ 0x0B ∷ 0xD0 ∷ 0x01 ∷ 0xA6 ∷ 0xBB ∷ 0xE2 ∷ 0xC7 ∷ 0xBE ∷ 0xD2 ∷ 0x01 ∷ 0x04 ∷ 0xA5 ∷
    0xBF ∷ 0xE1 ∷ []

relocatable_whole : judged relocatable ≡ ended 164
relocatable_whole = refl

relocatable_cut_off : judged (take 150 relocatable) ≡ waiting 148
relocatable_cut_off = refl

-- ---- the forms of GNU binutils

abbrev judged_gnu : Bool → List ℕ → Outcome
judged_gnu reads_debug bytes = judged_from 200 (record { debug = reads_debug; gnu = true }) [] bytes

-- the header and sections with this external part and these bytes of a debug part
abbrev with_externals_and_debug : List ℕ → List ℕ → List ℕ
with_externals_and_debug part raw = take 100 (patched 44 100 (patched 52 (100 + length part) (patched 60 0 (patched 68 0
    (patched 76 (100 + length part + length raw) small))))) ++ part ++ raw ++ 0xE1 ∷ []

abbrev size_without_comma : List ℕ
size_without_comma = with_data (0xE5 ∷ 0x01 ∷ 0xE4 ∷ 0xBE ∷ 0xD2 ∷ 0x01 ∷ 0x02 ∷ 0xBF ∷ [])

size_after_one_term : judged_gnu true size_without_comma ≡ ended 109
size_after_one_term = refl

comma_missing : judged size_without_comma ≡ fault (107, why.SurplusTerms)
comma_missing = refl

size_of_nine_bytes : judged_gnu true (with_data (0xE5 ∷ 0x01 ∷ 0xE4 ∷ 0xBE ∷ 0x00 ∷ 0x09 ∷ 0xBF ∷ [])) ≡ fault (106, why.SurplusTerms)
size_of_nine_bytes = refl

-- the value of a public, and debug data that would continue it
abbrev ended_by_debug : List ℕ
ended_by_debug = with_externals_and_debug (0xE8 ∷ 0x20 ∷ 0x01 ∷ 0x61 ∷ 0xE2 ∷ 0xC9 ∷ 0x20 ∷ 0x00 ∷ []) (0x01 ∷ 0x02 ∷ 0x03 ∷ 0xE1 ∷ [])

value_ends_before_debug : judged_gnu false ended_by_debug ≡ ended 113
value_ends_before_debug = refl

value_goes_on_into_debug : judged_without_debug ended_by_debug ≡ fault (111, why.SurplusTerms)
value_goes_on_into_debug = refl

debug_that_is_read_ends_nothing : judged_gnu true ended_by_debug ≡ fault (111, why.SurplusTerms)
debug_that_is_read_ends_nothing = refl

-- a name whose last letters are debug data
name_goes_on_into_debug : judged_gnu false (with_externals_and_debug (0xE8 ∷ 0x20 ∷ 0x03 ∷ 0x61 ∷ []) (0x62 ∷ 0x63 ∷ 0xE1 ∷ 0xE1 ∷ []))
    ≡ fault (100, why.PartGap)
name_goes_on_into_debug = refl
