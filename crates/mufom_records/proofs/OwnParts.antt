-- The positions in a record are within its bytes.
use Rattle.std.proofs.Common.{◌≡◌, ℕ, ◌+◌, ◌-◌, ◌≤◌, Bool, true, false, cond, ◌==◌, List, [], ◌∷◌, ◌++◌, length, take, drop, Option, Some, None, refl}
use Rattle.std.proofs.Common.{sym, ap, subst, ◌∙◌, arith, append_assoc, length-append}
use Rattle.std.specs.Prelude.{slice_range}
use Rattle.mufom_numbers.specs.declared.taken.Span.{Span}
use Rattle.mufom_expr.specs.Tree.{Tree}
use Rattle.mufom_expr.specs.Spelled.{SpellsTree}
use Rattle.mufom_records.specs.declared.record.Mode.{Mode}
use Rattle.mufom_records.specs.declared.record.Mode.TheVariants as mode
use Rattle.mufom_records.specs.declared.record.Record.{Record}
use Rattle.mufom_records.specs.declared.record.Record.TheVariants as r
use Rattle.mufom_records.specs.Fields.{Field, ValueOf, byte, number, string, run, letter, optional_number, numbers, expression, optional_expression}
use Rattle.mufom_records.specs.Fields.{sized_expression, is_one_of, SpellsField, span_at, first_of}
use Rattle.mufom_records.specs.Layouts
use Rattle.mufom_records.specs.Parts.{LiesIn, IsExpressionIn, IsOptionalExpressionIn, HasParts}

abbrev Layout : Type 0
Layout = Layouts.Layout

-- ---- fields

-- the position that is a field's value is within the text
abbrev pub Owned : List ℕ → (f : Field) → ValueOf f → Type 0
Owned text byte b = Unit {0}
Owned text (number fits fault_offset fault) n = Unit {0}
Owned text string span = LiesIn text span
Owned text (run n) span = LiesIn text span
Owned text (letter known) b = Unit {0}
Owned text optional_number n = Unit {0}
Owned text (numbers most) ns = Unit {0}
Owned text expression span = IsExpressionIn text span
Owned text optional_expression span = IsOptionalExpressionIn text span
Owned text sized_expression x = IsExpressionIn text x.0

-- each record of the layout has its parts in the text
abbrev pub Owns : List ℕ → Layout → Type 0
Owns text (Layouts.whole row) = HasParts text row
Owns text (Layouts.refused back reason) = Unit {0}
Owns text (Layouts.field f rest) = (x : ValueOf f) → Owned text f x → Owns text (rest x)

drop_prefix : (prefix back : List ℕ) → drop (length prefix) (prefix ++ back) ≡ back
drop_prefix [] back = refl
drop_prefix (b ∷ prefix) back = drop_prefix prefix back

take_prefix : (prefix back : List ℕ) → take (length prefix) (prefix ++ back) ≡ prefix
take_prefix [] back = refl
take_prefix (b ∷ prefix) back = ap (λ l. b ∷ l) (take_prefix prefix back)

slice_mid : (pre x back : List ℕ) → slice_range (pre ++ (x ++ back)) (length pre) (length pre + length x) ≡ x
slice_mid pre x back =
    let count : length pre + length x - length pre ≡ length x = omega arith in
    ap (take (length pre + length x - length pre)) (drop_prefix pre (x ++ back)) ∙ ap (λ n. take n (x ++ back)) count ∙ take_prefix x back

expression_in : (text pre bytes back : List ℕ) (span : Span) → text ≡ pre ++ (bytes ++ back) → ((tree : Tree) × SpellsTree tree bytes) → span
    ≡ span_at (length pre) (length bytes) → IsExpressionIn text span
expression_in text pre bytes back span all tree is =
    subst (λ (t : List ℕ). IsExpressionIn t span) (sym all) (subst (λ (s : Span). IsExpressionIn (pre ++ (bytes ++ back)) s) (sym is) (
      omega (arith, length-append pre (bytes ++ back), length-append bytes back),
      (tree.0, subst (λ (b : List ℕ). SpellsTree tree.0 b) (sym (slice_mid pre bytes back)) tree.1),
    ))

lies_in : (text pre bytes back : List ℕ) (span : Span) (start len : ℕ) → text ≡ pre ++ (bytes ++ back) → span ≡ span_at start len → length pre ≤ start
    → start + len ≤ length pre + length bytes → LiesIn text span
lies_in text pre bytes back span start len all is low high =
    subst (λ (s : Span). LiesIn text s) (sym is) (omega (arith, high, ap length all, length-append pre (bytes ++ back), length-append bytes back))

field_owned : (f : Field) (x : ValueOf f) (text pre bytes back : List ℕ) (next : Option ℕ) → text ≡ pre ++ (bytes ++ back)
    → SpellsField f x (length pre) bytes next → Owned text f x
field_owned byte x text pre bytes back next all is = tt
field_owned (number fits fault_offset fault) x text pre bytes back next all is = tt
field_owned string x text pre bytes back next all is =
    lies_in text pre bytes back x (length pre + length is.0) (length is.1) all is.4 (omega arith) (omega (arith, ap length is.5, length-append is.0 is.1))
field_owned (run n) x text pre bytes back next all is = lies_in text pre bytes back x (length pre) n all is.2 (omega arith) (omega (arith, is.0))
field_owned (letter known) x text pre bytes back next all is = tt
field_owned optional_number x text pre bytes back next all is = tt
field_owned (numbers most) x text pre bytes back next all is = tt
field_owned expression x text pre bytes back next all is = expression_in text pre bytes back x all is.0 is.1
field_owned optional_expression None text pre bytes back next all is = tt
field_owned optional_expression (Some span) text pre bytes back next all is = expression_in text pre bytes back span all is.0 is.1
field_owned sized_expression (span, None) text pre bytes back next all is = expression_in text pre bytes back span all is.0 is.1
field_owned sized_expression (span, Some last) text pre bytes back next all
    (tree, own, number_bytes, spells, few, spelled, fits, uses, span_is, closed, parts) =
    expression_in text pre own (number_bytes ++ back) span
    (all ∙ ap (λ l. pre ++ (l ++ back)) parts ∙ ap (λ l. pre ++ l) (append_assoc own number_bytes back)) (tree, spells) span_is

owned : (text pre bytes : List ℕ) (layout : Layout) (row : Record) (next : Option ℕ) → text ≡ pre ++ bytes
    → Layouts.SpellsRecord layout row (length pre) bytes next → Owns text layout → HasParts text row
owned text pre bytes (Layouts.whole it) row next all is has = subst (HasParts text) (sym is.0) has
owned text pre bytes (Layouts.refused back reason) row next all is has = absurd is
owned text pre bytes (Layouts.field f rest) row next all is has =
    let split : text ≡ pre ++ (is.1 ++ is.2) = all ∙ ap (λ l. pre ++ l) is.5 in
    owned text (pre ++ is.1) is.2 (rest is.0) row next (split ∙ sym (append_assoc pre is.1 is.2))
    (subst (λ n. Layouts.SpellsRecord (rest is.0) row n is.2 next) (sym (length-append pre is.1)) is.4)
    (has is.0 (field_owned f is.0 text pre is.1 is.2 (first_of is.2 next) split is.3))

-- ---- records

by_test : (text : List ℕ) (test : Bool) (a b : Layout) → Owns text a → Owns text b → Owns text (cond test a b)
by_test text true a b x y = x
by_test text false a b x y = y

named_owned : (text : List ℕ) (i : ℕ) (absolute : Bool) → Owns text (Layouts.named_section i absolute)
named_owned text i absolute = λ (p : Option ℕ) _ (name : Span) x (a : Option ℕ) _ (b : Option ℕ) _ (c : Option ℕ) _. x

section_owned : (text : List ℕ) → Owns text Layouts.section_type
section_owned text = λ (i : ℕ) _ (c : ℕ) _. by_test text (c == 0xC3) (Layouts.named_section i false) _ (named_owned text i false)
    (by_test text (c == 0xC1) (Layouts.absolute_section i) _ (λ (s : ℕ) _. by_test text (s == 0xD3) (Layouts.named_section i true) _
    (named_owned text i true) tt) tt)

repeat_owned : (text : List ℕ) → Owns text Layouts.repeat
repeat_owned text = λ (times : ℕ) _ (b : ℕ) _. by_test text (b == 0xED) (Layouts.constant (r.RepeatConstant times)) _ (λ (n : ℕ) _ (span : Span) x. x)
    (by_test text (b == 0xE4) (Layouts.whole (r.RepeatRelocate times)) _ tt tt)

start_owned : (text : List ℕ) (o : Option ℕ) → Owns text (Layouts.start_by_bracket o)
start_owned text None = λ (v : Span) x. x
start_owned text (Some b) = λ (v : Span) x (c : ℕ) _. by_test text (c == Layouts.partner b) (Layouts.whole (r.Start v)) _ x tt

comma_owned : (text : List ℕ) (b : ℕ) (v : Span) (c : Option ℕ) → IsExpressionIn text v → Owns text (Layouts.item_by_comma b v c)
comma_owned text b v None x = λ (e : ℕ) _. by_test text (e == Layouts.partner b) (Layouts.whole (r.FieldItem (Layouts.kind_of b) v None)) _ x tt
comma_owned text b v (Some c) x = λ (n : ℕ) _ (e : ℕ) _. by_test text (e == Layouts.partner b)
    (Layouts.whole (r.FieldItem (Layouts.kind_of b) v (Some n))) _ x tt

bracket_owned : (text : List ℕ) (o : Option ℕ) → Owns text (Layouts.item_by_bracket o)
bracket_owned text None = λ (n : ℕ) _ (span : Span) x. x
bracket_owned text (Some b) = λ (v : Span) x (c : Option ℕ) _. comma_owned text b v c x

size_owned : (text : List ℕ) (b : ℕ) (s : ValueOf sized_expression) → IsExpressionIn text s.0 → Owns text (Layouts.item_by_size b s.0 s.1)
size_owned text b (v, None) x = λ (c : Option ℕ) _. comma_owned text b v c x
size_owned text b (v, Some last) x = λ (e : ℕ) _. by_test text (e == Layouts.partner b)
    (Layouts.whole (r.FieldItem (Layouts.kind_without_comma b last.uses_pc) v (Some last.size))) _ x tt

gnu_bracket_owned : (text : List ℕ) (o : Option ℕ) → Owns text (Layouts.gnu_item_by_bracket o)
gnu_bracket_owned text None = λ (n : ℕ) _ (span : Span) x. x
gnu_bracket_owned text (Some b) = λ (v : ValueOf sized_expression) x. size_owned text b v x

block_owned : (text : List ℕ) → Owns text Layouts.block_begin
block_owned text = λ (kind : ℕ) _ (n : ℕ) _ (name : Span) x.
    by_test text (kind == 3) _ _ (x, tt)
    (by_test text (kind == 5) (Layouts.source_begin kind n name) _ (λ _ _. (x, tt))
    (by_test text (kind == 11) (Layouts.section_begin kind n name) _ (λ (a : ℕ) _ (b : ℕ) _ (v : Span) y. (x, y)) (λ (a : ℕ) _ (b : ℕ) _ (v : Span) y. (x, y))))

assignment_owned : (text : List ℕ) (b : ℕ) → Owns text (Layouts.assignment b)
assignment_owned text b =
    by_test text (b == 0xD7) Layouts.offset _ (λ _ _ _ _. tt)
    (by_test text (b == 0xD3) (Layouts.index_and_number r.SectionSize) _ (λ _ _ _ _. tt)
    (by_test text (b == 0xCC) (Layouts.index_and_number r.SectionBase) _ (λ _ _ _ _. tt)
    (by_test text (b == 0xC9) (Layouts.index_and_expression r.PublicValue) _ (λ _ _ (v : Span) x. x)
    (by_test text (b == 0xCE) (Layouts.index_and_expression r.DebugValue) _ (λ _ _ (v : Span) x. x)
    (by_test text (b == 0xD0) (Layouts.index_and_expression r.SetPc) _ (λ _ _ (v : Span) x. x)
    (by_test text (b == 0xC7) Layouts.start_address _ (λ (o : Option ℕ) _. start_owned text o)
    (by_test text (is_one_of Layouts.left_out_assignments b) _ _ tt tt)))))))

noted_owned : (text : List ℕ) (b : ℕ) → Owns text (Layouts.noted b)
noted_owned text b =
    by_test text (b == 0xC9) (Layouts.note r.PublicNote) _ (λ _ _ _ _ _ _ _ _. tt)
    (by_test text (b == 0xD8) (Layouts.note r.ReferenceNote) _ (λ _ _ _ _ _ _ _ _. tt)
    (by_test text (b == 0xCE) Layouts.debug_note _ (λ _ _ _ _ _ _ _ _. tt) tt))

coded_owned : (text : List ℕ) (b : ℕ) → Owns text (Layouts.coded b)
coded_owned text b =
    by_test text (b == 0xE0) Layouts.module_begin _ (λ (p : Span) x (n : Span) y. (x, y))
    (by_test text (b == 0xE1) (Layouts.whole r.ModuleEnd) _ tt
    (by_test text (b == 0xE2) Layouts.assigned _ (λ (c : ℕ) _. assignment_owned text c)
    (by_test text (b == 0xE4) (Layouts.whole r.Relocate) _ tt
    (by_test text (b == 0xE5) Layouts.set_section _ (λ _ _. tt)
    (by_test text (b == 0xE6) Layouts.section_type _ (section_owned text)
    (by_test text (b == 0xE7) Layouts.alignment _ (λ _ _ _ _ _ _. tt)
    (by_test text (b == 0xE8) (Layouts.index_and_string r.PublicName) _ (λ _ _ (name : Span) x. x)
    (by_test text (b == 0xE9) (Layouts.index_and_string r.ReferenceName) _ (λ _ _ (name : Span) x. x)
    (by_test text (b == 0xEC) Layouts.descriptor _ (λ _ _ _ _ _ _. tt)
    (by_test text (b == 0xED) (Layouts.constant r.Constant) _ (λ (n : ℕ) _ (span : Span) x. x)
    (by_test text (b == 0xF0) (Layouts.index_and_string r.DebugName) _ (λ _ _ (name : Span) x. x)
    (by_test text (b == 0xF1) Layouts.any_note _ (λ (c : ℕ) _. noted_owned text c)
    (by_test text (b == 0xF2) _ _ tt
    (by_test text (b == 0xF4) Layouts.weak_reference _ (λ _ _ _ _ _ _. tt)
    (by_test text (b == 0xF7) Layouts.repeat _ (repeat_owned text)
    (by_test text (b == 0xF8) Layouts.block_begin _ (block_owned text)
    (by_test text (b == 0xF9) Layouts.block_end _ (λ (v : Option Span) x. x) tt)))))))))))))))))

descriptor_owned : (text : List ℕ) → Owns text (Layouts.begins_with 1 0xEC Layouts.descriptor)
descriptor_owned text = λ (b : ℕ) _. by_test text (b == 0xEC) Layouts.descriptor _ (λ _ _ _ _ _ _. tt) tt

offset_owned : (text : List ℕ) (k : ℕ) → Owns text (Layouts.begins_with 1 0xE2 (Layouts.begins_with 2 0xD7 (Layouts.numbered_offset k)))
offset_owned text k = λ (b : ℕ) _. by_test text (b == 0xE2) (Layouts.begins_with 2 0xD7 (Layouts.numbered_offset k)) _
    (λ (c : ℕ) _. by_test text (c == 0xD7) (Layouts.numbered_offset k) _ (λ _ _ _ _. tt) tt) tt

begin_owned : (text : List ℕ) → Owns text (Layouts.begins_with 1 0xE0 Layouts.module_begin)
begin_owned text = λ (b : ℕ) _. by_test text (b == 0xE0) Layouts.module_begin _ (λ (p : Span) x (n : Span) y. (x, y)) tt

mode_owned : (text : List ℕ) (m : Mode) → Owns text (Layouts.layout_of m)
mode_owned text mode.Begin = begin_owned text
mode_owned text mode.Descriptor = descriptor_owned text
mode_owned text (mode.Offset k) = offset_owned text k
mode_owned text mode.Body = λ (b : ℕ) _. coded_owned text b
mode_owned text mode.Items = λ (o : Option ℕ) _. bracket_owned text o
mode_owned text mode.GnuItems = λ (o : Option ℕ) _. gnu_bracket_owned text o

-- each record has its parts in its bytes
pub own_parts : (m : Mode) (it : Record) (bytes : List ℕ) (next : Option ℕ) → Layouts.IsWholeRecord m it bytes next → HasParts bytes it
own_parts m it bytes next is = owned bytes [] bytes (Layouts.layout_of m) it next refl is (mode_owned bytes m)
