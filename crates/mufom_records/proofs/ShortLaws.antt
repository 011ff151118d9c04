-- An input that needs more bytes is short: the longest record that may still be incomplete is an MB with two strings.
use Rattle.std.proofs.Common.{◌≡◌, ◌≢◌, ℕ, ◌+◌, ◌-◌, ◌*◌, ◌<◌, ◌≤◌, ◌==◌, Bool, true, false, List, [], ◌∷◌, ◌++◌, length, Option, Some, None, refl}
use Rattle.std.proofs.Common.{ap, ◌∙◌, inl, inr, arith, length-append, if◌then◌else◌}
use Rattle.std.proofs.lemmas.Bool.{leb-true}
use Rattle.mufom_numbers.specs.Spelling.{AreBytes, SpellsNumber, SpellsString, IsStringLead}
use Rattle.mufom_expr.specs.declared.token.Token.{Token}
use Rattle.mufom_expr.specs.declared.token.Token.TheVariants.{Number, Var, Fun}
use Rattle.mufom_expr.specs.Spelled.{SpellsToken, SpellsTokens, IsCutOffToken}
use Rattle.mufom_records.specs.declared.record.Mode.{Mode}
use Rattle.mufom_records.specs.declared.record.Mode.TheVariants as mode
use Rattle.mufom_records.specs.Fields.{Field, ValueOf, byte, number, string, run, letter, optional_number, numbers, expression, optional_expression}
use Rattle.mufom_records.specs.Fields.{sized_expression, is_one_of, SpellsField, SpellsNumbers}
use Rattle.mufom_records.specs.Faults.{IsCutOffNumber, IsCutOffExpression, IsCutOffField, IsCutOffLayout}
use Rattle.mufom_records.specs.declared.size.PlainSize.{PlainSize}
use Rattle.mufom_records.specs.declared.record.Record.{Record}
use Rattle.mufom_records.specs.declared.record.Record.TheVariants as r
use Rattle.mufom_numbers.specs.declared.taken.Span.{Span}
use Rattle.arrayvec.specs.ArrayVec.{ArrayVec}
use Rattle.mufom_records.specs.Reading.{record_at}
use Rattle.mufom_numbers.specs.declared.taken.Taken.TheVariants.{More}
use Rattle.mufom_records.proofs.RecordLaws.{more-record_at}
use Rattle.mufom_records.specs.Layouts as rows
use Rattle.mufom_records.specs.Layouts.{Layout, whole, refused, field, layout_of, partner}

-- ---- the length of fields

number_short : (n : ℕ) (bytes : List ℕ) → SpellsNumber n bytes → length bytes ≤ 9
number_short n [] is = elim is [ ]
number_short n (lead ∷ bytes) (inl low) = let none : length bytes ≡ 0 = ap length low.1 in omega (arith, none)
number_short n (lead ∷ bytes) (inr high) = let few = high.1 in omega (arith, few)

lead_short : (len : ℕ) (lead : List ℕ) → IsStringLead len lead → length lead + len < 65539
lead_short len [] is = elim is [ ]
lead_short len (a ∷ []) is = let few = is.0 in omega (arith, few)
lead_short len (a ∷ b ∷ []) is = let few = is.1 in omega (arith, few)
lead_short len (a ∷ b ∷ c ∷ []) is = let high = is.1 in let low = is.2 in let all = is.3 in omega (arith, high, low, all)
lead_short len (a ∷ (b ∷ (c ∷ (d ∷ more)))) is = elim is [ ]

string_short : (text bytes : List ℕ) → SpellsString text bytes → length bytes < 65539
string_short text bytes (lead, is, fits, same) =
    let few = lead_short (length text) lead is in
    let all = ap length same ∙ length-append lead text in
    omega (arith, few, all)

token_short : (token : Token) (bytes : List ℕ) → SpellsToken token bytes → length bytes ≤ 10
token_short (Number n) bytes is = let few = number_short n bytes is in omega (arith, few)
token_short (Var it index) bytes (below, text, is, same) = let few = number_short index text is in let all = ap length same in omega (arith, few, all)
token_short (Fun f) bytes is = let all = ap length is in omega (arith, all)

tokens_short : (tokens : List Token) (bytes : List ℕ) → SpellsTokens tokens bytes → length bytes ≤ 10 * length tokens
tokens_short [] bytes is = let none = ap length is in omega (arith, none)
tokens_short (token ∷ tokens) bytes (prefix, back, first, later, same) =
    let one = token_short token prefix first in
    let rest = tokens_short tokens back later in
    let all = ap length same ∙ length-append prefix back in
    omega (arith, one, rest, all)

numbers_short : (ns bytes : List ℕ) → SpellsNumbers ns bytes → length bytes ≤ 9 * length ns
numbers_short [] bytes is = let none = ap length is in omega (arith, none)
numbers_short (n ∷ ns) bytes (prefix, back, first, later, same) =
    let one = number_short n prefix first in
    let rest = numbers_short ns back later in
    let all = ap length same ∙ length-append prefix back in
    omega (arith, one, rest, all)

-- a list that is not empty has a length
some_length : (rest : List ℕ) → rest ≢ [] → 0 < length rest
some_length [] none = absurd (none refl)
some_length (b ∷ rest) none = omega arith

-- the start of a number, but not all of it
cut_number_short : (bytes : List ℕ) → IsCutOffNumber bytes → length bytes < 9
cut_number_short bytes (n, cut) =
    let rest = cut.0 in
    let some = cut.1 in
    let few = number_short n (bytes ++ rest) cut.2 in
    let more = some_length rest some in
    omega (arith, few, more, length-append bytes rest)

cut_token_short : (bytes : List ℕ) → IsCutOffToken bytes → length bytes < 10
cut_token_short bytes (inl is) = let few = cut_number_short bytes is in omega (arith, few)
cut_token_short bytes (inr (it, rest, same, n, cut)) = let few = cut_number_short rest (n, cut) in let all = ap length same in omega (arith, few, all)

-- the largest number of bytes in a field
abbrev most : Field → ℕ
most byte = 1
most (number fits fault_offset fault) = 9
most string = 65538
most (run n) = n
most (letter known) = 1
most optional_number = 9
most (numbers count) = 9 * count
most expression = 2560
most optional_expression = 2560
most sized_expression = 2560

expression_short : (bytes : List ℕ) (x : ValueOf expression) (at : ℕ) (next : Option ℕ) → SpellsField expression x at bytes next → length bytes ≤ 2560
expression_short bytes x at next is = let few = is.0.1.0 in let all = tokens_short _ bytes is.0.1.1 in omega (arith, few, all)

ends_short : (bytes : List ℕ) → IsCutOffExpression bytes → length bytes < 2560
ends_short bytes (tokens, terms, prefix, rest, spells, leave, few, cut, same) =
    let one = tokens_short tokens prefix spells in
    let last = cut_token_short rest cut in
    let all = ap length same ∙ length-append prefix rest in
    omega (arith, one, last, all, few)

spelled_short : (f : Field) (x : ValueOf f) (at : ℕ) (bytes : List ℕ) (next : Option ℕ) → SpellsField f x at bytes next → length bytes ≤ most f
spelled_short byte x at bytes next is = let all = ap length is in omega (arith, all)
spelled_short (number fits fault_offset fault) x at bytes next is = number_short x bytes is.0
spelled_short string x at bytes next (lead, text, leads, fits, fault_offset, same) = let few = string_short text bytes (lead, leads, fits, same) in
    omega (arith, few)
spelled_short (run n) x at bytes next is = let all = is.0 in omega (arith, all)
spelled_short (letter known) None at bytes next is = let all = ap length is.0 in omega (arith, all)
spelled_short (letter known) (Some b) at bytes next is = let all = ap length is.0 in omega (arith, all)
spelled_short optional_number None at bytes next is = let all = ap length is.0 in omega (arith, all)
spelled_short optional_number (Some n) at bytes next is = number_short n bytes is
spelled_short (numbers count) x at bytes next is = let all = numbers_short x.items bytes is.0 in let few = is.1 in omega (arith, all, few)
spelled_short expression x at bytes next is = expression_short bytes x at next is
spelled_short optional_expression None at bytes next is = let all = ap length is.0 in omega (arith, all)
spelled_short optional_expression (Some x) at bytes next is = expression_short bytes x at next is
spelled_short sized_expression (x, None) at bytes next is = expression_short bytes x at next is
spelled_short sized_expression (x, Some last) at bytes next (tree, text, number_bytes, spells, few, spelled, fits, uses, span_is, closed, parts) =
    let one = tokens_short _ text spells.1 in
    let more = number_short last.size number_bytes spelled in
    let all = ap length parts ∙ length-append text number_bytes in
    omega (arith, one, few, more, all)

-- bytes that end before a field or within it are fewer than the longest such field has
unended_short : (f : Field) (bytes : List ℕ) → IsCutOffField f bytes → length bytes < most f
unended_short byte bytes is = let none = ap length is in omega (arith, none)
unended_short (number fits fault_offset fault) bytes is = cut_number_short bytes is
unended_short string bytes (text, cut) =
    let rest = cut.0 in
    let some = cut.1 in
    let few = string_short text (bytes ++ rest) cut.2 in
    let more = some_length rest some in
    omega (arith, few, more, length-append bytes rest)
unended_short (run n) bytes is = is
unended_short (letter known) bytes is = let none = ap length is in omega (arith, none)
unended_short optional_number bytes is = cut_number_short bytes is
unended_short (numbers count) bytes (ns, prefix, rest, spells, few, cut, same) =
    let one = numbers_short ns prefix spells in
    let last = cut_number_short rest cut in
    let all = ap length same ∙ length-append prefix rest in
    omega (arith, one, last, all, few)
unended_short expression bytes is = ends_short bytes is
unended_short optional_expression bytes is = ends_short bytes is
unended_short sized_expression bytes is = ends_short bytes is

-- ---- the length of records

-- what is known of a field's value
abbrev Admits : (f : Field) → ValueOf f → Type 0
Admits (number fits fault_offset fault) n = fits n ≡ true
Admits byte x = Unit {0}
Admits string x = Unit {0}
Admits (run n) x = Unit {0}
Admits (letter known) x = Unit {0}
Admits optional_number x = Unit {0}
Admits (numbers count) x = Unit {0}
Admits expression x = Unit {0}
Admits optional_expression x = Unit {0}
Admits sized_expression x = Unit {0}

admitted : (f : Field) (x : ValueOf f) (at : ℕ) (bytes : List ℕ) (next : Option ℕ) → SpellsField f x at bytes next → Admits f x
admitted (number fits fault_offset fault) x at bytes next is = is.1
admitted byte x at bytes next is = tt
admitted string x at bytes next is = tt
admitted (run n) x at bytes next is = tt
admitted (letter known) x at bytes next is = tt
admitted optional_number x at bytes next is = tt
admitted (numbers count) x at bytes next is = tt
admitted expression x at bytes next is = tt
admitted optional_expression x at bytes next is = tt
admitted sized_expression x at bytes next is = tt

-- the fields of the layout have at most `n` bytes
abbrev AtMost : Layout → ℕ → Type 0
AtMost (whole row) n = Unit {0}
AtMost (refused back reason) n = Unit {0}
AtMost (field f rest) n = (most f ≤ n) × ((x : ValueOf f) → Admits f x → AtMost (rest x) (n - most f))

early_short : (l : Layout) (n at : ℕ) (bytes : List ℕ) → AtMost l n → IsCutOffLayout l at bytes → length bytes < n
early_short (whole row) n at bytes fits early = elim early [ ]
early_short (refused back reason) n at bytes fits early = elim early [ ]
early_short (field f rest) n at bytes fits (inl ends) = let few = unended_short f bytes ends in let room = fits.0 in omega (arith, few, room)
early_short (field f rest) n at bytes fits (inr (x, prefix, back, spells, ends, same)) =
    let first = spelled_short f x at prefix _ spells in
    let later = early_short (rest x) (n - most f) (at + length prefix) back (fits.1 x (admitted f x at prefix _ spells)) ends in
    let all = ap length same ∙ length-append prefix back in
    omega (arith, first, later, all)

choose : (c : Bool) (a b : Layout) (n : ℕ) → AtMost a n → AtMost b n → AtMost (if c then a else b) n
choose true a b n first second = first
choose false a b n first second = second

-- ---- the table, row by row

-- a closing bracket and these fields have at most `n` bytes
closed_short : (bracket : ℕ) (rest : Layout) (n : ℕ) → 1 ≤ n → AtMost rest (n - 1) → AtMost (rows.closed_by bracket rest) n
closed_short bracket rest n room h = (room, λ b ok. choose (b == partner bracket) rest (refused 1 _) (n - 1) h tt)

module_begin_short : AtMost rows.module_begin 131076
module_begin_short = (omega arith, λ processor ok. (omega arith, λ name ok. tt))

descriptor_short : AtMost rows.descriptor 131076
descriptor_short = (omega arith, λ bits ok. (omega arith, λ maus ok. (omega arith, λ order ok. tt)))

offset_short : AtMost rows.offset 131075
offset_short = (omega arith, λ n ok. (omega arith, λ value ok. tt))

numbered_offset_short : (k : ℕ) → AtMost (rows.numbered_offset k) 131075
numbered_offset_short k = (omega arith, λ n ok. (omega arith, λ value ok. tt))

named_section_short : (i : ℕ) (absolute : Bool) (n : ℕ) → 65566 ≤ n → AtMost (rows.named_section i absolute) n
named_section_short i absolute n room = (
  omega (arith, room),
  λ purpose ok. (
    omega (arith, room),
    λ name ok. (
      omega (arith, room),
      λ a ok. (omega (arith, room), λ b ok. (omega (arith, room), λ c ok. tt)),
    ),
  ),
)

section_type_short : AtMost rows.section_type 131076
section_type_short = (
  omega arith,
  λ i ok. (
    omega arith,
    λ c ok. choose (c == 0xC3) _ _ _ (named_section_short i false _ (omega arith))
        (choose (c == 0xC1) _ _ _ (omega arith, λ s ok. choose (s == 0xD3) _ _ _ (named_section_short i true _ (omega arith)) tt) tt),
  ),
)

alignment_short : AtMost rows.alignment 131076
alignment_short = (omega arith, λ i ok. (omega arith, λ n ok. (omega arith, λ other ok. tt)))

index_and_number_short : (row : ℕ → ℕ → Record) → AtMost (rows.index_and_number row) 131075
index_and_number_short row = (omega arith, λ i ok. (omega arith, λ n ok. tt))

index_and_string_short : (row : ℕ → Span → Record) → AtMost (rows.index_and_string row) 131076
index_and_string_short row = (omega arith, λ i ok. (omega arith, λ name ok. tt))

index_and_expression_short : (row : ℕ → Span → Record) → AtMost (rows.index_and_expression row) 131075
index_and_expression_short row = (omega arith, λ i ok. (omega arith, λ value ok. tt))

note_short : (row : ℕ → ℕ → ℕ → ArrayVec ℕ → Record) → AtMost (rows.note row) 131075
note_short row = (omega arith, λ i ok. (omega arith, λ type_index ok. (omega arith, λ attribute ok. (omega arith, λ ns ok. tt))))

debug_note_short : AtMost rows.debug_note 131075
debug_note_short = (omega arith, λ i ok. (omega arith, λ type_index ok. (omega arith, λ attribute ok. (omega arith, λ ns ok. tt))))

weak_reference_short : AtMost rows.weak_reference 131076
weak_reference_short = (omega arith, λ i ok. (omega arith, λ n ok. (omega arith, λ default ok. tt)))

block_by_kind_short : (kind size : ℕ) (name : Span) (n : ℕ) → 2578 ≤ n → AtMost (rows.block_by_kind kind size name) n
block_by_kind_short kind size name n room = choose (kind == 3) _ _ n tt (choose (kind == 5) _ _ n (omega (arith, room), λ ns ok. tt)
    (choose (kind == 11) _ _ n (omega (arith, room), λ type_ ok. (omega (arith, room), λ section ok. (omega (arith, room), λ value ok. tt)))
    (omega (arith, room), λ stack ok. (omega (arith, room), λ type_index ok. (omega (arith, room), λ value ok. tt)))))

block_begin_short : AtMost rows.block_begin 131076
block_begin_short = (omega arith, λ kind ok. (omega arith, λ n ok. (omega arith, λ name ok. block_by_kind_short kind n name _ (omega arith))))

block_end_short : AtMost rows.block_end 131076
block_end_short = (omega arith, λ value ok. tt)

set_section_short : AtMost rows.set_section 131076
set_section_short = (omega arith, λ i ok. tt)

constant_short : (row : Span → Record) (n : ℕ) → 65545 ≤ n → AtMost (rows.constant row) n
constant_short row n room = (omega (arith, room), λ count ok. (let few = leb-true _ _ ok in omega (arith, room, few), λ bytes ok. tt))

repeat_short : AtMost rows.repeat 131076
repeat_short = (
  omega arith,
  λ times ok. (
    omega arith,
    λ b ok. choose (b == 0xED) _ _ _ (constant_short (r.RepeatConstant times) _ (omega arith))
        (choose (b == 0xE4) _ _ _ tt tt),
  ),
)

by_bracket : (bracket : Option ℕ) → AtMost (rows.start_by_bracket bracket) 131074
by_bracket None = (omega arith, λ value ok. tt)
by_bracket (Some bracket) = (omega arith, λ value ok. closed_short bracket _ _ (omega arith) tt)

start_short : AtMost rows.start_address 131075
start_short = (omega arith, λ bracket ok. by_bracket bracket)

item_by_comma_short : (bracket : ℕ) (value : Span) (found : Option ℕ) → AtMost (rows.item_by_comma bracket value found) 128515
item_by_comma_short bracket value None = closed_short bracket _ _ (omega arith) tt
item_by_comma_short bracket value (Some comma_) = (omega arith, λ n ok. closed_short bracket _ _ (omega arith) tt)

item_by_bracket_short : (bracket : Option ℕ) → AtMost (rows.item_by_bracket bracket) 131076
item_by_bracket_short None = constant_short r.ConstantItem _ (omega arith)
item_by_bracket_short (Some bracket) = (omega arith, λ value ok. (omega arith, λ c ok. item_by_comma_short bracket value c))

item_short : AtMost rows.item 131077
item_short = (omega arith, λ bracket ok. item_by_bracket_short bracket)

item_by_size_short : (bracket : ℕ) (value : Span) (found : Option PlainSize) → AtMost (rows.item_by_size bracket value found) 128516
item_by_size_short bracket value None = (omega arith, λ c ok. item_by_comma_short bracket value c)
item_by_size_short bracket value (Some last) = closed_short bracket _ _ (omega arith) tt

gnu_item_by_bracket_short : (bracket : Option ℕ) → AtMost (rows.gnu_item_by_bracket bracket) 131076
gnu_item_by_bracket_short None = constant_short r.ConstantItem _ (omega arith)
gnu_item_by_bracket_short (Some bracket) = (omega arith, λ e ok. item_by_size_short bracket e.0 e.1)

gnu_item_short : AtMost rows.gnu_item 131077
gnu_item_short = (omega arith, λ bracket ok. gnu_item_by_bracket_short bracket)

assignment_short : (b : ℕ) → AtMost (rows.assignment b) 131075
assignment_short b = choose (b == 0xD7) _ _ _ offset_short (choose (b == 0xD3) _ _ _ (index_and_number_short r.SectionSize)
    (choose (b == 0xCC) _ _ _ (index_and_number_short r.SectionBase) (choose (b == 0xC9) _ _ _ (index_and_expression_short r.PublicValue)
    (choose (b == 0xCE) _ _ _ (index_and_expression_short r.DebugValue) (choose (b == 0xD0) _ _ _ (index_and_expression_short r.SetPc)
    (choose (b == 0xC7) _ _ _ start_short (choose (is_one_of rows.left_out_assignments b) _ _ _ tt tt)))))))

noted_short : (b : ℕ) → AtMost (rows.noted b) 131075
noted_short b = choose (b == 0xC9) _ _ _ (note_short r.PublicNote)
    (choose (b == 0xD8) _ _ _ (note_short r.ReferenceNote) (choose (b == 0xCE) _ _ _ debug_note_short tt))

coded_short : (b : ℕ) → AtMost (rows.coded b) 131076
coded_short b = choose (b == 0xE0) _ _ _ module_begin_short (choose (b == 0xE1) _ _ _ tt (choose (b == 0xE2) _ _ _ (omega arith, λ c ok. assignment_short c)
    (choose (b == 0xE4) _ _ _ tt (choose (b == 0xE5) _ _ _ set_section_short (choose (b == 0xE6) _ _ _ section_type_short
    (choose (b == 0xE7) _ _ _ alignment_short (choose (b == 0xE8) _ _ _ (index_and_string_short r.PublicName)
    (choose (b == 0xE9) _ _ _ (index_and_string_short r.ReferenceName) (choose (b == 0xEC) _ _ _ descriptor_short
    (choose (b == 0xED) _ _ _ (constant_short r.Constant _ (omega arith)) (choose (b == 0xF0) _ _ _ (index_and_string_short r.DebugName)
    (choose (b == 0xF1) _ _ _ (omega arith, λ c ok. noted_short c) (choose (b == 0xF2) _ _ _ tt (choose (b == 0xF4) _ _ _ weak_reference_short
    (choose (b == 0xF7) _ _ _ repeat_short (choose (b == 0xF8) _ _ _ block_begin_short (choose (b == 0xF9) _ _ _ block_end_short tt)))))))))))))))))

records_short : (m : Mode) → AtMost (layout_of m) 131077
records_short mode.Begin = (omega arith, λ b ok. choose (b == 0xE0) _ _ _ module_begin_short tt)
records_short mode.Descriptor = (omega arith, λ b ok. choose (b == 0xEC) _ _ _ descriptor_short tt)
records_short (mode.Offset k) = (omega arith, λ b ok. choose (b == 0xE2) _ _ _ (omega arith, λ c ok. choose (c == 0xD7) _ _ _ (numbered_offset_short k) tt) tt)
records_short mode.Body = (omega arith, λ b ok. coded_short b)
records_short mode.Items = item_short
records_short mode.GnuItems = gnu_item_short

-- only an input of fewer bytes than this needs more
pub unended-short : (m : Mode) (input : List ℕ) → AreBytes input → record_at m input ≡ More → length input < 131077
unended-short m input fits wants = early_short (layout_of m) 131077 0 input (records_short m) (more-record_at m input fits wants)
