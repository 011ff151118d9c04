-- Every record may end before the code of the module's end, which begins no field that is optional. And an item is one too
-- if the comma before a size is optional.
use Rattle.std.proofs.Common.{◌≡◌, ℕ, ◌+◌, ◌==◌, Bool, true, false, List, [], ◌∷◌, ◌++◌, length, Option, Some, None, refl, sym, ap, subst, ◌∙◌, cond}
use Rattle.arrayvec.specs.ArrayVec.{ArrayVec}
use Rattle.mufom_numbers.specs.declared.taken.Span.{Span}
use Rattle.mufom_numbers.specs.Spelling.{SpellsNumber}
use Rattle.mufom_records.specs.declared.size.PlainSize.{PlainSize}
use Rattle.mufom_records.specs.declared.record.Mode.{Mode}
use Rattle.mufom_records.specs.declared.record.Mode.TheVariants as mode
use Rattle.mufom_records.specs.declared.record.Record.{Record}
use Rattle.mufom_records.specs.declared.record.Record.TheVariants as r
use Rattle.mufom_records.specs.Fields.{Field, ValueOf, byte, number, string, run, letter, optional_number, numbers, expression, optional_expression}
use Rattle.mufom_records.specs.Fields.{sized_expression, is_one_of, SpellsField}
use Rattle.mufom_records.specs.Layouts as rows
use Rattle.mufom_records.specs.Layouts.{Layout, whole, refused, field, SpellsRecord, layout_of, partner, IsWholeRecord}

-- The field may end before the code of the module's end. One that may end in a size ends before a closing bracket alone.
abbrev EndsHere : (f : Field) → (ValueOf f → Layout) → Type 0
EndsHere (letter known) rest = is_one_of known 0xE1 ≡ false
EndsHere byte rest = Unit {0}
EndsHere (number fits fault_offset fault) rest = Unit {0}
EndsHere string rest = Unit {0}
EndsHere (run n) rest = Unit {0}
EndsHere optional_number rest = Unit {0}
EndsHere (numbers most) rest = Unit {0}
EndsHere expression rest = Unit {0}
EndsHere optional_expression rest = Unit {0}
EndsHere sized_expression rest = (x : ValueOf sized_expression) (entry : Record) (at : ℕ) (next : Option ℕ) → SpellsRecord (rest x) entry at [] next → ⊥

abbrev Ends : Layout → Type 0
Ends (whole entry) = Unit {0}
Ends (refused back reason) = Unit {0}
Ends (field f rest) = EndsHere f rest × ((x : ValueOf f) → Ends (rest x))

field_ends : (f : Field) (rest : ValueOf f → Layout) (x : ValueOf f) (at : ℕ) (bytes : List ℕ) (next : Option ℕ) (entry : Record) (after : ℕ)
    → EndsHere f rest → SpellsField f x at bytes next → SpellsRecord (rest x) entry after [] next → SpellsField f x at bytes (Some 0xE1)
field_ends byte rest x at bytes next entry after ends is none = is
field_ends (number fits fault_offset fault) rest x at bytes next entry after ends is none = is
field_ends string rest x at bytes next entry after ends is none = is
field_ends (run n) rest x at bytes next entry after ends is none = is
field_ends (letter known) rest None at bytes next entry after ends is none = (is.0, ends)
field_ends (letter known) rest (Some b) at bytes next entry after ends is none = is
field_ends optional_number rest None at bytes next entry after ends is none = (is.0, refl)
field_ends optional_number rest (Some n) at bytes next entry after ends is none = is
field_ends (numbers most) rest x at bytes next entry after ends is none = (is.0, is.1, λ few. refl)
field_ends expression rest x at bytes next entry after ends is none = (is.0, is.1, refl)
field_ends optional_expression rest None at bytes next entry after ends is none = (is.0, refl)
field_ends optional_expression rest (Some x) at bytes next entry after ends is none = (is.0, is.1, refl)
field_ends sized_expression rest x at bytes next entry after ends is none = absurd (ends x entry after next none)

record_ends : (l : Layout) (entry : Record) (at : ℕ) (bytes : List ℕ) (next : Option ℕ) → Ends l → SpellsRecord l entry at bytes next
    → SpellsRecord l entry at bytes (Some 0xE1)
record_ends (whole made) entry at bytes next ends is = is
record_ends (refused back reason) entry at bytes next ends is = is
record_ends (field f rest) entry at bytes next ends (x, prefix, [], spelled, spells, parts) = (
  x,
  prefix,
  [],
  field_ends f rest x at prefix next entry (at + length prefix) ends.0 spelled spells,
  record_ends (rest x) entry (at + length prefix) [] next (ends.1 x) spells,
  parts,
)
record_ends (field f rest) entry at bytes next ends (x, prefix, b ∷ back, spelled, spells, parts) =
    (x, prefix, b ∷ back, spelled, record_ends (rest x) entry (at + length prefix) (b ∷ back) next (ends.1 x) spells, parts)

choose : (c : Bool) (a b : Layout) → Ends a → Ends b → Ends (cond c a b)
choose true a b first second = first
choose false a b first second = second

-- ---- the table, entry by entry

module_begin_ends : Ends rows.module_begin
module_begin_ends = (tt, λ processor. (tt, λ name. tt))

descriptor_ends : Ends rows.descriptor
descriptor_ends = (tt, λ bits. (tt, λ maus. (refl, λ order. tt)))

offset_ends : Ends rows.offset
offset_ends = (tt, λ n. (tt, λ value. tt))

numbered_offset_ends : (k : ℕ) → Ends (rows.numbered_offset k)
numbered_offset_ends k = (tt, λ n. (tt, λ value. tt))

named_section_ends : (i : ℕ) (absolute : Bool) → Ends (rows.named_section i absolute)
named_section_ends i absolute = (refl, λ purpose. (tt, λ name. (tt, λ a. (tt, λ b. (tt, λ c. tt)))))

section_type_ends : Ends rows.section_type
section_type_ends = (
  tt,
  λ i. (
    tt,
    λ c. choose (c == 0xC3) _ _ (named_section_ends i false)
        (choose (c == 0xC1) _ _ (tt, λ s. choose (s == 0xD3) _ _ (named_section_ends i true) tt) tt),
  ),
)

alignment_ends : Ends rows.alignment
alignment_ends = (tt, λ i. (tt, λ n. (tt, λ other. tt)))

index_and_number_ends : (entry : ℕ → ℕ → Record) → Ends (rows.index_and_number entry)
index_and_number_ends entry = (tt, λ i. (tt, λ n. tt))

index_and_string_ends : (entry : ℕ → Span → Record) → Ends (rows.index_and_string entry)
index_and_string_ends entry = (tt, λ i. (tt, λ name. tt))

index_and_expression_ends : (entry : ℕ → Span → Record) → Ends (rows.index_and_expression entry)
index_and_expression_ends entry = (tt, λ i. (tt, λ value. tt))

note_ends : (entry : ℕ → ℕ → ℕ → ArrayVec ℕ → Record) → Ends (rows.note entry)
note_ends entry = (tt, λ i. (tt, λ type_index. (tt, λ attribute. (tt, λ ns. tt))))

debug_note_ends : Ends rows.debug_note
debug_note_ends = (tt, λ i. (tt, λ type_index. (tt, λ attribute. (tt, λ ns. tt))))

weak_reference_ends : Ends rows.weak_reference
weak_reference_ends = (tt, λ i. (tt, λ n. (tt, λ default. tt)))

block_by_kind_ends : (kind size : ℕ) (name : Span) → Ends (rows.block_by_kind kind size name)
block_by_kind_ends kind size name = choose (kind == 3) _ _ tt (choose (kind == 5) _ _ (tt, λ ns. tt)
    (choose (kind == 11) _ _ (tt, λ type_. (tt, λ section. (tt, λ value. tt))) (tt, λ stack. (tt, λ type_index. (tt, λ value. tt)))))

block_begin_ends : Ends rows.block_begin
block_begin_ends = (tt, λ kind. (tt, λ n. (tt, λ name. block_by_kind_ends kind n name)))

block_end_ends : Ends rows.block_end
block_end_ends = (tt, λ value. tt)

set_section_ends : Ends rows.set_section
set_section_ends = (tt, λ i. tt)

constant_ends : (entry : Span → Record) → Ends (rows.constant entry)
constant_ends entry = (tt, λ count. (tt, λ bytes. tt))

repeat_ends : Ends rows.repeat
repeat_ends = (tt, λ times. (tt, λ b. choose (b == 0xED) _ _ (constant_ends (r.RepeatConstant times)) (choose (b == 0xE4) _ _ tt tt)))

closed_ends : (bracket : ℕ) (rest : Layout) → Ends rest → Ends (rows.closed_by bracket rest)
closed_ends bracket rest h = (tt, λ b. choose (b == partner bracket) _ _ h tt)

start_by_bracket_ends : (bracket : Option ℕ) → Ends (rows.start_by_bracket bracket)
start_by_bracket_ends None = (tt, λ value. tt)
start_by_bracket_ends (Some bracket) = (tt, λ value. closed_ends bracket _ tt)

start_ends : Ends rows.start_address
start_ends = (refl, λ bracket. start_by_bracket_ends bracket)

item_by_comma_ends : (bracket : ℕ) (value : Span) (found : Option ℕ) → Ends (rows.item_by_comma bracket value found)
item_by_comma_ends bracket value None = closed_ends bracket _ tt
item_by_comma_ends bracket value (Some comma_) = (tt, λ n. closed_ends bracket _ tt)

item_by_bracket_ends : (bracket : Option ℕ) → Ends (rows.item_by_bracket bracket)
item_by_bracket_ends None = constant_ends r.ConstantItem
item_by_bracket_ends (Some bracket) = (tt, λ value. (refl, λ c. item_by_comma_ends bracket value c))

item_ends : Ends rows.item
item_ends = (refl, λ bracket. item_by_bracket_ends bracket)

item_by_size_ends : (bracket : ℕ) (value : Span) (found : Option PlainSize) → Ends (rows.item_by_size bracket value found)
item_by_size_ends bracket value None = (refl, λ c. item_by_comma_ends bracket value c)
item_by_size_ends bracket value (Some last) = closed_ends bracket _ tt

-- a closing bracket follows, or a comma
empty_prefix : (xs ys : List ℕ) → [] ≡ xs ++ ys → xs ≡ []
empty_prefix [] ys e = refl
empty_prefix (x ∷ xs) ys e = absurd cc

no_closed : (bracket : ℕ) (rest : Layout) (entry : Record) (at : ℕ) (next : Option ℕ) → SpellsRecord (rows.closed_by bracket rest) entry at [] next → ⊥
no_closed bracket rest entry at next (b, prefix, back, spelled, spells, parts) =
    let none : b ∷ [] ≡ [] = sym spelled ∙ empty_prefix prefix back parts in absurd cc

no_number : (n : ℕ) (bytes : List ℕ) → SpellsNumber n bytes → bytes ≡ [] → ⊥
no_number n [] spells none = spells
no_number n (b ∷ bytes) spells none = cc

no_comma : (bracket : ℕ) (value : Span) (found : Option ℕ) (entry : Record) (at : ℕ) (next : Option ℕ)
    → SpellsRecord (rows.item_by_comma bracket value found) entry at [] next → ⊥
no_comma bracket value None entry at next is = no_closed bracket _ entry at next is
no_comma bracket value (Some comma_) entry at next (n, prefix, back, spelled, spells, parts) = no_number n prefix spelled.0 (empty_prefix prefix back parts)

no_size : (bracket : ℕ) (value : Span) (found : Option PlainSize) (entry : Record) (at : ℕ) (next : Option ℕ)
    → SpellsRecord (rows.item_by_size bracket value found) entry at [] next → ⊥
no_size bracket value (Some last) entry at next is = no_closed bracket _ entry at next is
no_size bracket value None entry at next (None, prefix, back, spelled, spells, parts) =
    no_comma bracket value None entry (at + length prefix) next
    (subst (λ (l : List ℕ). SpellsRecord (rows.item_by_comma bracket value None) entry (at + length prefix) l next)
    (sym (parts ∙ ap (λ (l : List ℕ). l ++ back) spelled.0)) spells)
no_size bracket value None entry at next (Some b, prefix, back, spelled, spells, parts) =
    let none : b ∷ [] ≡ [] = sym spelled.0 ∙ empty_prefix prefix back parts in absurd cc

gnu_item_by_bracket_ends : (bracket : Option ℕ) → Ends (rows.gnu_item_by_bracket bracket)
gnu_item_by_bracket_ends None = constant_ends r.ConstantItem
gnu_item_by_bracket_ends (Some bracket) = (λ x entry at next is. no_size bracket x.0 x.1 entry at next is, λ e. item_by_size_ends bracket e.0 e.1)

gnu_item_ends : Ends rows.gnu_item
gnu_item_ends = (refl, λ bracket. gnu_item_by_bracket_ends bracket)

assignment_ends : (b : ℕ) → Ends (rows.assignment b)
assignment_ends b = choose (b == 0xD7) _ _ offset_ends (choose (b == 0xD3) _ _ (index_and_number_ends r.SectionSize)
    (choose (b == 0xCC) _ _ (index_and_number_ends r.SectionBase) (choose (b == 0xC9) _ _ (index_and_expression_ends r.PublicValue)
    (choose (b == 0xCE) _ _ (index_and_expression_ends r.DebugValue) (choose (b == 0xD0) _ _ (index_and_expression_ends r.SetPc)
    (choose (b == 0xC7) _ _ start_ends (choose (is_one_of rows.left_out_assignments b) _ _ tt tt)))))))

noted_ends : (b : ℕ) → Ends (rows.noted b)
noted_ends b = choose (b == 0xC9) _ _ (note_ends r.PublicNote)
    (choose (b == 0xD8) _ _ (note_ends r.ReferenceNote) (choose (b == 0xCE) _ _ debug_note_ends tt))

coded_ends : (b : ℕ) → Ends (rows.coded b)
coded_ends b = choose (b == 0xE0) _ _ module_begin_ends (choose (b == 0xE1) _ _ tt (choose (b == 0xE2) _ _ (tt, λ c. assignment_ends c)
    (choose (b == 0xE4) _ _ tt (choose (b == 0xE5) _ _ set_section_ends (choose (b == 0xE6) _ _ section_type_ends
    (choose (b == 0xE7) _ _ alignment_ends (choose (b == 0xE8) _ _ (index_and_string_ends r.PublicName)
    (choose (b == 0xE9) _ _ (index_and_string_ends r.ReferenceName) (choose (b == 0xEC) _ _ descriptor_ends
    (choose (b == 0xED) _ _ (constant_ends r.Constant) (choose (b == 0xF0) _ _ (index_and_string_ends r.DebugName)
    (choose (b == 0xF1) _ _ (tt, λ c. noted_ends c) (choose (b == 0xF2) _ _ tt (choose (b == 0xF4) _ _ weak_reference_ends
    (choose (b == 0xF7) _ _ repeat_ends (choose (b == 0xF8) _ _ block_begin_ends (choose (b == 0xF9) _ _ block_end_ends tt)))))))))))))))))

records_end : (m : Mode) → Ends (layout_of m)
records_end mode.Begin = (tt, λ b. choose (b == 0xE0) _ _ module_begin_ends tt)
records_end mode.Descriptor = (tt, λ b. choose (b == 0xEC) _ _ descriptor_ends tt)
records_end (mode.Offset k) = (tt, λ b. choose (b == 0xE2) _ _ (tt, λ c. choose (c == 0xD7) _ _ (numbered_offset_ends k) tt) tt)
records_end mode.Body = (tt, λ b. coded_ends b)
records_end mode.Items = item_ends
records_end mode.GnuItems = gnu_item_ends

-- a complete record may as well be followed by the code of the module's end
pub ends-anywhere : (m : Mode) (entry : Record) (bytes : List ℕ) (next : Option ℕ) → IsWholeRecord m entry bytes next → IsWholeRecord m entry bytes (Some 0xE1)
ends-anywhere m entry bytes next is = record_ends (layout_of m) entry 0 bytes next (records_end m) is

-- an item is the same item if the comma before a size is optional
pub item-gnu : (entry : Record) (bytes : List ℕ) (next : Option ℕ) → IsWholeRecord mode.Items entry bytes next → IsWholeRecord mode.GnuItems entry bytes next
item-gnu entry bytes next (None, prefix, back, spelled, spells, parts) = (None, prefix, back, spelled, spells, parts)
item-gnu entry bytes next (Some bracket, prefix, back, spelled, (value, text, more, is, spells, split), parts) =
    (Some bracket, prefix, back, spelled, ((value, None), text, more, is, spells, split), parts)
