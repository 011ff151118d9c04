-- If no items may follow, the record that is read is not an item.
use Rattle.std.proofs.Common.{◌≡◌, ℕ, Bool, true, false, ◌==◌, List, Option, Some, None, refl}
use Rattle.mufom_numbers.specs.declared.taken.Span.{Span}
use Rattle.mufom_records.specs.declared.record.Mode.TheVariants as mode
use Rattle.mufom_records.specs.declared.record.Record.{Record}
use Rattle.mufom_records.specs.declared.record.Record.TheVariants as r
use Rattle.mufom_records.specs.Fields.{is_one_of}
use Rattle.mufom_records.specs.Layouts
use Rattle.mufom_judging.proofs.ended.Rows.{Promises, promised, by_test}

-- an item of an LR
abbrev pub is_item : Record → Bool
is_item (r.ConstantItem run) = true
is_item (r.FieldItem kind value n) = true
is_item row = false

abbrev NoItem : Record → Type 0
NoItem row = is_item row ≡ false

named_plain : (i : ℕ) (absolute : Bool) → Promises NoItem (Layouts.named_section i absolute)
named_plain i absolute = λ (p : Option ℕ) _ (name : Span) _ (a : Option ℕ) _ (b : Option ℕ) _ (c : Option ℕ) _. refl

section_plain : Promises NoItem Layouts.section_type
section_plain = λ (i : ℕ) _ (c : ℕ) _. by_test NoItem (c == 0xC3) (Layouts.named_section i false) _ (λ _. named_plain i false)
    (λ _. by_test NoItem (c == 0xC1) (Layouts.absolute_section i) _
    (λ _. λ (s : ℕ) _. by_test NoItem (s == 0xD3) (Layouts.named_section i true) _ (λ _. named_plain i true) (λ _. tt)) (λ _. tt))

repeat_plain : Promises NoItem Layouts.repeat
repeat_plain = λ (times : ℕ) _ (b : ℕ) _. by_test NoItem (b == 0xED) (Layouts.constant (r.RepeatConstant times)) _ (λ _. λ (n : ℕ) _ (span : Span) _. refl)
    (λ _. by_test NoItem (b == 0xE4) (Layouts.whole (r.RepeatRelocate times)) _ (λ _. refl) (λ _. tt))

start_plain : (o : Option ℕ) → Promises NoItem (Layouts.start_by_bracket o)
start_plain None = λ (v : Span) _. refl
start_plain (Some b) = λ (v : Span) _ (c : ℕ) _. by_test NoItem (c == Layouts.partner b) (Layouts.whole (r.Start v)) _ (λ _. refl) (λ _. tt)

block_plain : Promises NoItem Layouts.block_begin
block_plain = λ (kind : ℕ) _ (n : ℕ) _ (name : Span) _.
    by_test NoItem (kind == 3) _ _ (λ _. refl)
    (λ _. by_test NoItem (kind == 5) (Layouts.source_begin kind n name) _ (λ _ _ _. refl)
    (λ _. by_test NoItem (kind == 11) (Layouts.section_begin kind n name) _ (λ _ _ _ _ _ _ _. refl) (λ _ _ _ _ _ _ _. refl)))

assignment_plain : (b : ℕ) → Promises NoItem (Layouts.assignment b)
assignment_plain b =
    by_test NoItem (b == 0xD7) Layouts.offset _ (λ _ _ _ _ _. refl)
    (λ _. by_test NoItem (b == 0xD3) (Layouts.index_and_number r.SectionSize) _ (λ _ _ _ _ _. refl)
    (λ _. by_test NoItem (b == 0xCC) (Layouts.index_and_number r.SectionBase) _ (λ _ _ _ _ _. refl)
    (λ _. by_test NoItem (b == 0xC9) (Layouts.index_and_expression r.PublicValue) _ (λ _ _ _ _ _. refl)
    (λ _. by_test NoItem (b == 0xCE) (Layouts.index_and_expression r.DebugValue) _ (λ _ _ _ _ _. refl)
    (λ _. by_test NoItem (b == 0xD0) (Layouts.index_and_expression r.SetPc) _ (λ _ _ _ _ _. refl)
    (λ _. by_test NoItem (b == 0xC7) Layouts.start_address _ (λ _ (o : Option ℕ) _. start_plain o)
    (λ _. by_test NoItem (is_one_of Layouts.left_out_assignments b) _ _ (λ _. tt) (λ _. tt))))))))

noted_plain : (b : ℕ) → Promises NoItem (Layouts.noted b)
noted_plain b =
    by_test NoItem (b == 0xC9) (Layouts.note r.PublicNote) _ (λ _ _ _ _ _ _ _ _ _. refl)
    (λ _. by_test NoItem (b == 0xD8) (Layouts.note r.ReferenceNote) _ (λ _ _ _ _ _ _ _ _ _. refl)
    (λ _. by_test NoItem (b == 0xCE) Layouts.debug_note _ (λ _ _ _ _ _ _ _ _ _. refl) (λ _. tt)))

coded_plain : (b : ℕ) → Promises NoItem (Layouts.coded b)
coded_plain b =
    by_test NoItem (b == 0xE0) Layouts.module_begin _ (λ _ _ _ _ _. refl)
    (λ _. by_test NoItem (b == 0xE1) (Layouts.whole r.ModuleEnd) _ (λ _. refl)
    (λ _. by_test NoItem (b == 0xE2) Layouts.assigned _ (λ _ (c : ℕ) _. assignment_plain c)
    (λ _. by_test NoItem (b == 0xE4) (Layouts.whole r.Relocate) _ (λ _. refl)
    (λ _. by_test NoItem (b == 0xE5) Layouts.set_section _ (λ _ _ _. refl)
    (λ _. by_test NoItem (b == 0xE6) Layouts.section_type _ (λ _. section_plain)
    (λ _. by_test NoItem (b == 0xE7) Layouts.alignment _ (λ _ _ _ _ _ _ _. refl)
    (λ _. by_test NoItem (b == 0xE8) (Layouts.index_and_string r.PublicName) _ (λ _ _ _ _ _. refl)
    (λ _. by_test NoItem (b == 0xE9) (Layouts.index_and_string r.ReferenceName) _ (λ _ _ _ _ _. refl)
    (λ _. by_test NoItem (b == 0xEC) Layouts.descriptor _ (λ _ _ _ _ _ _ _. refl)
    (λ _. by_test NoItem (b == 0xED) (Layouts.constant r.Constant) _ (λ _ _ _ _ _. refl)
    (λ _. by_test NoItem (b == 0xF0) (Layouts.index_and_string r.DebugName) _ (λ _ _ _ _ _. refl)
    (λ _. by_test NoItem (b == 0xF1) Layouts.any_note _ (λ _ (c : ℕ) _. noted_plain c)
    (λ _. by_test NoItem (b == 0xF2) _ _ (λ _. tt)
    (λ _. by_test NoItem (b == 0xF4) Layouts.weak_reference _ (λ _ _ _ _ _ _ _. refl)
    (λ _. by_test NoItem (b == 0xF7) Layouts.repeat _ (λ _. repeat_plain)
    (λ _. by_test NoItem (b == 0xF8) Layouts.block_begin _ (λ _. block_plain)
    (λ _. by_test NoItem (b == 0xF9) Layouts.block_end _ (λ _ _ _. refl) (λ _. tt))))))))))))))))))

pub body_plain : (row : Record) (bytes : List ℕ) (next : Option ℕ) → Layouts.IsWholeRecord mode.Body row bytes next → is_item row ≡ false
body_plain row bytes next (b, prefix, back, first, others, split) = promised NoItem (Layouts.coded b) row _ back next others (coded_plain b)
