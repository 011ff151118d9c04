-- What the records of the header are, and that strings and runs of literal bytes are short.
use Rattle.std.proofs.Common.{◌≡◌, ◌⊎◌, inl, inr, ℕ, ◌+◌, ◌<◌, ◌≤◌, Bool, true, false, cond, ◌==◌, ◌&&◌, ◌||◌, nat_le, List, [], ◌∷◌, ◌++◌}
use Rattle.std.proofs.Common.{length, Option, Some, None, refl, sym, ap, subst, ◌∙◌, arith, eqb-true, eq-eqb, ne_eqb, leb-true}
use Rattle.std.proofs.lemmas.Bool.{and_parts, both_ways, cases_eq}
use Rattle.mufom_numbers.specs.declared.limits.TheConstants.{MOST_STRING_BYTES}
use Rattle.mufom_numbers.specs.declared.taken.Span.{Span}
use Rattle.mufom_numbers.specs.Spelling.{IsStringLead}
use Rattle.mufom_records.specs.declared.record.Mode.TheVariants as mode
use Rattle.mufom_records.specs.declared.record.Record.{Record}
use Rattle.mufom_records.specs.declared.record.Record.TheVariants as r
use Rattle.mufom_records.specs.Fields.{Field, ValueOf, byte, number, string, run, letter, optional_number, numbers, expression, optional_expression}
use Rattle.mufom_records.specs.Fields.{sized_expression, is_one_of, is_size, SpellsField, first_of}
use Rattle.mufom_records.specs.Layouts
use Rattle.mufom_judging.specs.Prefixes.{is_module_end}
use Rattle.mufom_judging.specs.RecordFields.{FitsKind, HasKind}

abbrev Layout : Type 0
Layout = Layouts.Layout

-- ---- what each field promises of its value, and a layout of its records

lead_short : (len : ℕ) (lead : List ℕ) → IsStringLead len lead → len < 65536
lead_short len [] is = absurd is
lead_short len (a ∷ []) is = omega (arith, is.0)
lead_short len (a ∷ b ∷ []) is = omega (arith, is.1)
lead_short len (a ∷ b ∷ c ∷ []) is = omega (arith, is.1, is.2, is.3)
lead_short len (a ∷ b ∷ c ∷ d ∷ lead) is = absurd is

-- what a field states of its value
abbrev pub Promised : (f : Field) → ValueOf f → Type 0
Promised byte b = Unit {0}
Promised (number fits fault_offset fault) n = fits n ≡ true
Promised string span = span.len < 65536
Promised (run n) span = span.len ≡ n
Promised (letter known) None = Unit {0}
Promised (letter known) (Some b) = is_one_of known b ≡ true
Promised optional_number n = Unit {0}
Promised (numbers most) ns = Unit {0}
Promised expression span = Unit {0}
Promised optional_expression span = Unit {0}
Promised sized_expression (span, None) = Unit {0}
Promised sized_expression (span, Some last) = is_size last.size ≡ true

-- each record of the layout has this
abbrev pub Promises : (Record → Type 0) → Layout → Type 0
Promises P (Layouts.whole row) = P row
Promises P (Layouts.refused back reason) = Unit {0}
Promises P (Layouts.field f rest) = (x : ValueOf f) → Promised f x → Promises P (rest x)

field_promised : (f : Field) (x : ValueOf f) (at : ℕ) (bytes : List ℕ) (next : Option ℕ) → SpellsField f x at bytes next → Promised f x
field_promised byte x at bytes next is = tt
field_promised (number fits fault_offset fault) x at bytes next is = is.1
field_promised string x at bytes next is = subst (λ (s : Span). s.len < 65536) (sym is.4) (lead_short (length is.1) is.0 is.2)
field_promised (run n) x at bytes next is = ap (λ (s : Span). s.len) is.2
field_promised (letter known) None at bytes next is = tt
field_promised (letter known) (Some b) at bytes next is = is.1
field_promised optional_number x at bytes next is = tt
field_promised (numbers most) x at bytes next is = tt
field_promised expression x at bytes next is = tt
field_promised optional_expression x at bytes next is = tt
field_promised sized_expression (span, None) at bytes next is = tt
field_promised sized_expression (span, Some last) at bytes next is = is.6

pub promised : (P : Record → Type 0) (layout : Layout) (row : Record) (at : ℕ) (bytes : List ℕ) (next : Option ℕ)
    → Layouts.SpellsRecord layout row at bytes next → Promises P layout → P row
promised P (Layouts.whole it) row at bytes next is has = subst P (sym is.0) has
promised P (Layouts.refused back reason) row at bytes next is has = absurd is
promised P (Layouts.field f rest) row at bytes next is has =
    promised P (rest is.0) row (at + length is.1) is.2 next is.4 (has is.0 (field_promised f is.0 at is.1 (first_of is.2 next) is.3))

pub by_test : (P : Record → Type 0) (test : Bool) (a b : Layout) → (test ≡ true → Promises P a) → (test ≡ false → Promises P b) → Promises P (cond test a b)
by_test P true a b x y = x refl
by_test P false a b x y = y refl

-- ---- the header

-- the processor and the name of the module are short
abbrev pub IsBegin : Record → Type 0
IsBegin row = (processor : Span) × (name : Span) × (row ≡ r.ModuleBegin processor name) × (processor.len < 65536) × (name.len < 65536)

-- the order has a letter that is known, or none
abbrev pub IsOrder : Option ℕ → Type 0
IsOrder None = Unit {0}
IsOrder (Some b) = is_one_of Layouts.orders b ≡ true

abbrev pub IsDescriptor : Record → Type 0
IsDescriptor row = (bits : ℕ) × (maus : ℕ) × (order : Option ℕ) × (row ≡ r.Descriptor bits maus order) × IsOrder order

abbrev pub IsOffset : ℕ → Record → Type 0
IsOffset k row = (w : ℕ) × (row ≡ r.Offset k w)

its_order : (o : Option ℕ) → Promised (letter Layouts.orders) o → IsOrder o
its_order None h = tt
its_order (Some b) h = h

pub begin_row : (row : Record) (bytes : List ℕ) (next : Option ℕ) → Layouts.IsWholeRecord mode.Begin row bytes next → IsBegin row
begin_row it bytes next is = promised IsBegin (Layouts.layout_of mode.Begin) it 0 bytes next is
    (λ (b : ℕ) _. by_test IsBegin (b == 0xE0) Layouts.module_begin (Layouts.refused 1 _)
    (λ _. λ (processor : Span) x (name : Span) y. (processor, name, refl, x, y)) (λ _. tt))

pub descriptor_row : (row : Record) (bytes : List ℕ) (next : Option ℕ) → Layouts.IsWholeRecord mode.Descriptor row bytes next → IsDescriptor row
descriptor_row it bytes next is = promised IsDescriptor (Layouts.layout_of mode.Descriptor) it 0 bytes next is
    (λ (b : ℕ) _. by_test IsDescriptor (b == 0xEC) Layouts.descriptor (Layouts.refused 1 _)
    (λ _. λ (bits : ℕ) _ (maus : ℕ) _ (order : Option ℕ) x. (bits, maus, order, refl, its_order order x)) (λ _. tt))

pub offset_row : (k : ℕ) (row : Record) (bytes : List ℕ) (next : Option ℕ) → Layouts.IsWholeRecord (mode.Offset k) row bytes next → IsOffset k row
offset_row k it bytes next is = promised (IsOffset k) (Layouts.layout_of (mode.Offset k)) it 0 bytes next is
    (λ (b : ℕ) _. by_test (IsOffset k) (b == 0xE2) (Layouts.begins_with 2 0xD7 (Layouts.numbered_offset k)) (Layouts.refused 1 _)
    (λ _. λ (c : ℕ) _. by_test (IsOffset k) (c == 0xD7) (Layouts.numbered_offset k) (Layouts.refused 2 _)
    (λ _. λ (n : ℕ) same (w : ℕ) _. (w, ap (λ (m : ℕ). r.Offset m w) (eqb-true n k same))) (λ _. tt)) (λ _. tt))

-- ---- the other records

-- a field has 1 to 8 bytes
abbrev pub IsFieldSize : Option ℕ → Type 0
IsFieldSize None = Unit {0}
IsFieldSize (Some n) = (1 ≤ n) × (n ≤ 8)

-- Strings and literal bytes are short, a block has what its kind adds, the attribute of a debug note is one of the format, and it is
-- not the end.
abbrev pub IsShort : Record → Type 0
IsShort (r.SectionType i absolute purpose name a b c) = name.len < 65536
IsShort (r.PublicName i name) = name.len < 65536
IsShort (r.ReferenceName i name) = name.len < 65536
IsShort (r.Constant bytes) = bytes.len < 65536
IsShort (r.ConstantItem bytes) = bytes.len < 65536
IsShort (r.RepeatConstant times bytes) = bytes.len < 65536
IsShort (r.FieldItem kind value n) = IsFieldSize n
IsShort (r.BlockBegin kind n name block) = (name.len < 65536) × FitsKind kind block
IsShort (r.DebugName i name) = name.len < 65536
IsShort (r.DebugNote i type_index attribute ns) = is_one_of Layouts.debug_attributes attribute ≡ true
IsShort r.ModuleEnd = ⊥
IsShort _ = Unit {0}

run_short : (n : ℕ) (span : Span) → nat_le n MOST_STRING_BYTES ≡ true → span.len ≡ n → span.len < 65536
run_short n span h e = let below = leb-true n MOST_STRING_BYTES h in omega arith

named_short : (i : ℕ) (absolute : Bool) → Promises IsShort (Layouts.named_section i absolute)
named_short i absolute = λ (p : Option ℕ) _ (name : Span) x (a : Option ℕ) _ (b : Option ℕ) _ (c : Option ℕ) _. x

section_short : Promises IsShort Layouts.section_type
section_short = λ (i : ℕ) _ (c : ℕ) _. by_test IsShort (c == 0xC3) (Layouts.named_section i false) _ (λ _. named_short i false)
    (λ _. by_test IsShort (c == 0xC1) (Layouts.absolute_section i) _
    (λ _. λ (s : ℕ) _. by_test IsShort (s == 0xD3) (Layouts.named_section i true) _ (λ _. named_short i true) (λ _. tt)) (λ _. tt))

repeat_short : Promises IsShort Layouts.repeat
repeat_short = λ (times : ℕ) _ (b : ℕ) _. by_test IsShort (b == 0xED) (Layouts.constant (r.RepeatConstant times)) _
    (λ _. λ (n : ℕ) small (span : Span) its. run_short n span small its)
    (λ _. by_test IsShort (b == 0xE4) (Layouts.whole (r.RepeatRelocate times)) _ (λ _. tt) (λ _. tt))

start_short : (o : Option ℕ) → Promises IsShort (Layouts.start_by_bracket o)
start_short None = λ (v : Span) _. tt
start_short (Some b) = λ (v : Span) _ (c : ℕ) _. by_test IsShort (c == Layouts.partner b) (Layouts.whole (r.Start v)) _ (λ _. tt) (λ _. tt)

size_from : (n : ℕ) → (nat_le 1 n && nat_le n 8) ≡ true → (1 ≤ n) × (n ≤ 8)
size_from n h = let both = and_parts (nat_le 1 n) (nat_le n 8) h in (leb-true 1 n both.0, leb-true n 8 both.1)

comma_short : (b : ℕ) (v : Span) (c : Option ℕ) → Promises IsShort (Layouts.item_by_comma b v c)
comma_short b v None = λ (e : ℕ) _. by_test IsShort (e == Layouts.partner b) (Layouts.whole (r.FieldItem (Layouts.kind_of b) v None)) _ (λ _. tt) (λ _. tt)
comma_short b v (Some c) = λ (n : ℕ) fits (e : ℕ) _. by_test IsShort (e == Layouts.partner b)
    (Layouts.whole (r.FieldItem (Layouts.kind_of b) v (Some n))) _ (λ _. size_from n fits) (λ _. tt)

bracket_short : (o : Option ℕ) → Promises IsShort (Layouts.item_by_bracket o)
bracket_short None = λ (n : ℕ) small (span : Span) its. run_short n span small its
bracket_short (Some b) = λ (v : Span) _ (c : Option ℕ) _. comma_short b v c

by_size_short : (b : ℕ) (x : ValueOf sized_expression) → Promised sized_expression x → Promises IsShort (Layouts.item_by_size b x.0 x.1)
by_size_short b (v, None) fits = λ (c : Option ℕ) _. comma_short b v c
by_size_short b (v, Some last) fits = λ (e : ℕ) _. by_test IsShort (e == Layouts.partner b)
    (Layouts.whole (r.FieldItem (Layouts.kind_without_comma b last.uses_pc) v (Some last.size))) _ (λ _. size_from last.size fits) (λ _. tt)

gnu_bracket_short : (o : Option ℕ) → Promises IsShort (Layouts.gnu_item_by_bracket o)
gnu_bracket_short None = λ (n : ℕ) small (span : Span) its. run_short n span small its
gnu_bracket_short (Some b) = λ (x : ValueOf sized_expression) fits. by_size_short b x fits

gnu_item_short : Promises IsShort Layouts.gnu_item
gnu_item_short = λ (o : Option ℕ) _. gnu_bracket_short o

item_short : Promises IsShort Layouts.item
item_short = λ (o : Option ℕ) _. bracket_short o

turned : (a b : ℕ) → (a == b) ≡ false → (b == a) ≡ false
turned a b h = elim (cases_eq b a) [ inl is ↦ absurd (both_ways (a == b) h (eq-eqb a b (sym is))) | inr differ ↦ ne_eqb b a differ ]

-- the kinds that are neither 3 nor 5 nor 11
scope_kind : (kind : ℕ) → is_one_of Layouts.block_kinds kind ≡ true → (kind == 3) ≡ false → (kind == 5) ≡ false → (kind == 11) ≡ false → (kind ≡ 4) ⊎ (kind ≡ 6)
scope_kind kind known no_3 no_5 no_11 = elim (cases_eq kind 4) [
  | inl is ↦ inl is
  | inr no_4 ↦ elim (cases_eq kind 6) [
    | inl is ↦ inr is
    | inr no_6 ↦ absurd (both_ways (is_one_of Layouts.block_kinds kind) (λ i. turned kind 3 no_3 i
        || (ne_eqb 4 kind (λ e. no_4 (sym e)) i || (turned kind 5 no_5 i || (ne_eqb 6 kind (λ e. no_6 (sym e)) i || (turned kind 11 no_11 i || false))))) known)
  ]
]

block_short : Promises IsShort Layouts.block_begin
block_short = λ (kind : ℕ) known (n : ℕ) _ (name : Span) short.
    by_test IsShort (kind == 3) _ _ (λ is. (short, eqb-true kind 3 is))
    (λ no_3. by_test IsShort (kind == 5) (Layouts.source_begin kind n name) _ (λ is. λ _ _. (short, eqb-true kind 5 is))
    (λ no_5. by_test IsShort (kind == 11) (Layouts.section_begin kind n name) _ (λ is. λ _ _ _ _ _ _. (short, eqb-true kind 11 is))
    (λ no_11. λ _ _ _ _ _ _. (short, scope_kind kind known no_3 no_5 no_11))))

assignment_short : (b : ℕ) → Promises IsShort (Layouts.assignment b)
assignment_short b =
    by_test IsShort (b == 0xD7) Layouts.offset _ (λ _ _ _ _ _. tt)
    (λ _. by_test IsShort (b == 0xD3) (Layouts.index_and_number r.SectionSize) _ (λ _ _ _ _ _. tt)
    (λ _. by_test IsShort (b == 0xCC) (Layouts.index_and_number r.SectionBase) _ (λ _ _ _ _ _. tt)
    (λ _. by_test IsShort (b == 0xC9) (Layouts.index_and_expression r.PublicValue) _ (λ _ _ _ _ _. tt)
    (λ _. by_test IsShort (b == 0xCE) (Layouts.index_and_expression r.DebugValue) _ (λ _ _ _ _ _. tt)
    (λ _. by_test IsShort (b == 0xD0) (Layouts.index_and_expression r.SetPc) _ (λ _ _ _ _ _. tt)
    (λ _. by_test IsShort (b == 0xC7) Layouts.start_address _ (λ _ (o : Option ℕ) _. start_short o)
    (λ _. by_test IsShort (is_one_of Layouts.left_out_assignments b) _ _ (λ _. tt) (λ _. tt))))))))

noted_short : (b : ℕ) → Promises IsShort (Layouts.noted b)
noted_short b =
    by_test IsShort (b == 0xC9) (Layouts.note r.PublicNote) _ (λ _ _ _ _ _ _ _ _ _. tt)
    (λ _. by_test IsShort (b == 0xD8) (Layouts.note r.ReferenceNote) _ (λ _ _ _ _ _ _ _ _ _. tt)
    (λ _. by_test IsShort (b == 0xCE) Layouts.debug_note _ (λ _. λ (i : ℕ) _ (type_index : ℕ) _ (attribute : ℕ) known ns _. known) (λ _. tt)))

coded_short : (b : ℕ) → (b == 0xE1) ≡ false → Promises IsShort (Layouts.coded b)
coded_short b other =
    by_test IsShort (b == 0xE0) Layouts.module_begin _ (λ _ _ _ _ _. tt)
    (λ _. by_test IsShort (b == 0xE1) (Layouts.whole r.ModuleEnd) _ (λ is. both_ways (b == 0xE1) other is)
    (λ _. by_test IsShort (b == 0xE2) Layouts.assigned _ (λ _ (c : ℕ) _. assignment_short c)
    (λ _. by_test IsShort (b == 0xE4) (Layouts.whole r.Relocate) _ (λ _. tt)
    (λ _. by_test IsShort (b == 0xE5) Layouts.set_section _ (λ _ _ _. tt)
    (λ _. by_test IsShort (b == 0xE6) Layouts.section_type _ (λ _. section_short)
    (λ _. by_test IsShort (b == 0xE7) Layouts.alignment _ (λ _ _ _ _ _ _ _. tt)
    (λ _. by_test IsShort (b == 0xE8) (Layouts.index_and_string r.PublicName) _ (λ _ _ _ (name : Span) x. x)
    (λ _. by_test IsShort (b == 0xE9) (Layouts.index_and_string r.ReferenceName) _ (λ _ _ _ (name : Span) x. x)
    (λ _. by_test IsShort (b == 0xEC) Layouts.descriptor _ (λ _ _ _ _ _ _ _. tt)
    (λ _. by_test IsShort (b == 0xED) (Layouts.constant r.Constant) _ (λ _ (n : ℕ) small (span : Span) its. run_short n span small its)
    (λ _. by_test IsShort (b == 0xF0) (Layouts.index_and_string r.DebugName) _ (λ _ _ _ (name : Span) x. x)
    (λ _. by_test IsShort (b == 0xF1) Layouts.any_note _ (λ _ (c : ℕ) _. noted_short c)
    (λ _. by_test IsShort (b == 0xF2) _ _ (λ _. tt)
    (λ _. by_test IsShort (b == 0xF4) Layouts.weak_reference _ (λ _ _ _ _ _ _ _. tt)
    (λ _. by_test IsShort (b == 0xF7) Layouts.repeat _ (λ _. repeat_short)
    (λ _. by_test IsShort (b == 0xF8) Layouts.block_begin _ (λ _. block_short)
    (λ _. by_test IsShort (b == 0xF9) Layouts.block_end _ (λ _ _ _. tt) (λ _. tt))))))))))))))))))

-- a whole record is the end and its byte, or short
end_or_short : (row : Record) (bytes : List ℕ) (next : Option ℕ) → Layouts.IsWholeRecord mode.Body row bytes next
    → ((row ≡ r.ModuleEnd) × (bytes ≡ 0xE1 ∷ [])) ⊎ IsShort row
end_or_short row bytes next is = by_byte (is.0 == 0xE1) refl where
  by_byte : (test : Bool) → (is.0 == 0xE1) ≡ test → ((row ≡ r.ModuleEnd) × (bytes ≡ 0xE1 ∷ [])) ⊎ IsShort row
  by_byte true e =
      let its : is.0 ≡ 0xE1 = eqb-true is.0 0xE1 e in
      let all : Layouts.SpellsRecord (Layouts.coded 0xE1) row (0 + length is.1) is.2 next =
      subst (λ (b : ℕ). Layouts.SpellsRecord (Layouts.coded b) row (0 + length is.1) is.2 next) its is.4 in
      inl (all.0, is.5 ∙ (λ i. is.3 i ++ all.1 i) ∙ ap (λ (b : ℕ). b ∷ []) its)
  by_byte false e = inr (promised IsShort (Layouts.coded is.0) row (0 + length is.1) is.2 next is.4 (coded_short is.0 e))

pub body_short : (row : Record) (bytes : List ℕ) (next : Option ℕ) → is_module_end row ≡ false → Layouts.IsWholeRecord mode.Body row bytes next → IsShort row
body_short row bytes next other is = elim (end_or_short row bytes next is) [
  | inl end ↦
      absurd (both_ways (is_module_end row) other (ap is_module_end end.0))
  | inr short ↦ short
]

end_not_short : (row : Record) → is_module_end row ≡ true → IsShort row → ⊥
end_not_short r.ModuleEnd h short = short
end_not_short row h short = cc

pub end_bytes : (row : Record) (bytes : List ℕ) (next : Option ℕ) → is_module_end row ≡ true → Layouts.IsWholeRecord mode.Body row bytes next
    → (row ≡ r.ModuleEnd) × (bytes ≡ 0xE1 ∷ [])
end_bytes row bytes next ends is = elim (end_or_short row bytes next is) [ inl end ↦ end | inr short ↦ absurd (end_not_short row ends short) ]

-- an item, whose comma before a size may be optional
pub items_short : (gnu : Bool) (row : Record) (bytes : List ℕ) (next : Option ℕ)
    → Layouts.IsWholeRecord (cond gnu mode.GnuItems mode.Items) row bytes next → IsShort row
items_short false it bytes next is = promised IsShort Layouts.item it 0 bytes next is item_short
items_short true it bytes next is = promised IsShort Layouts.gnu_item it 0 bytes next is gnu_item_short

kind_of_short : (row : Record) → IsShort row → HasKind row
kind_of_short (r.BlockBegin kind n name block) short = short.1
kind_of_short row short = tt

-- the kind of a block that was read is one with what it adds
pub body_kind : (row : Record) (bytes : List ℕ) (next : Option ℕ) → Layouts.IsWholeRecord mode.Body row bytes next → HasKind row
body_kind row bytes next is = elim (end_or_short row bytes next is) [ inl end ↦ subst HasKind (sym end.0) tt | inr short ↦ kind_of_short row short ]

pub items_kind : (gnu : Bool) (row : Record) (bytes : List ℕ) (next : Option ℕ)
    → Layouts.IsWholeRecord (cond gnu mode.GnuItems mode.Items) row bytes next → HasKind row
items_kind gnu row bytes next is = kind_of_short row (items_short gnu row bytes next is)
