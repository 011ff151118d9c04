-- The offset of a record's error is that of a byte of the input, or of the byte right after its last.
use Rattle.std.proofs.Common.{inl, inr, ℕ, ◌+◌, ◌≤◌, Bool, true, false, cond, ◌==◌, ◌≡◌}
use Rattle.std.proofs.Common.{List, [], ◌∷◌, length, take, length-take, Option, Some, None, ap, arith, length-append}
use Rattle.mufom_numbers.specs.declared.reason.Reason.{Reason}
use Rattle.mufom_numbers.specs.declared.reason.Reason.TheVariants as why
use Rattle.mufom_numbers.specs.declared.taken.Span.{Span}
use Rattle.mufom_records.specs.declared.record.Mode.{Mode}
use Rattle.mufom_records.specs.declared.record.Mode.TheVariants as mode
use Rattle.mufom_records.specs.declared.record.Record.{Record}
use Rattle.mufom_records.specs.declared.record.Record.TheVariants as r
use Rattle.mufom_records.specs.Fields.{Field, ValueOf, byte, number, string, run, letter, optional_number, numbers, expression, optional_expression, is_one_of}
use Rattle.mufom_records.specs.Fields.{sized_expression}
use Rattle.mufom_numbers.specs.Spelling.{AreBytes}
use Rattle.mufom_numbers.specs.declared.taken.Taken.TheVariants.{Bad}
use Rattle.mufom_records.specs.Reading.{record_within, closed_at}
use Rattle.mufom_records.proofs.BeforeLaws.{record_within-bad}
use Rattle.mufom_records.specs.Layouts
use Rattle.mufom_records.specs.Faults.{TokenFault, ExpressionFault, SizedFault, FieldFault, HasFault, IsFaulty}

abbrev Layout : Type 0
Layout = Layouts.Layout

-- ---- layouts whose numbers report no error after themselves

abbrev pub IsNear : Field → Type 0
IsNear (number fits fault_offset fault) = (n : ℕ) → fault_offset n ≤ n
IsNear _ = Unit {0}

abbrev pub AreNear : Layout → Type 0
AreNear (Layouts.whole row) = Unit {0}
AreNear (Layouts.refused back reason) = Unit {0}
AreNear (Layouts.field f rest) = IsNear f × ((x : ValueOf f) → AreNear (rest x))

token_near : (tokens terms : ℕ) (bytes : List ℕ) (offset : ℕ) (reason : Reason) → TokenFault tokens terms bytes offset reason → offset ≤ length bytes
token_near tokens terms bytes offset why.BadNumber is = omega (arith, is.0, ap length is.2.2)
token_near tokens terms bytes offset why.BadId is = absurd is
token_near tokens terms bytes offset why.BadRecord is = absurd is
token_near tokens terms bytes offset why.UnsupportedRecord is = absurd is
token_near tokens terms bytes offset why.UnsupportedFunction is = omega (arith, is.0)
token_near tokens terms bytes offset why.UnsupportedVariable is = omega (arith, is.0)
token_near tokens terms bytes offset why.Underflow is = omega (arith, is.0)
token_near tokens terms bytes offset why.SurplusTerms is = omega (arith, is.0)
token_near tokens terms bytes offset why.Empty is = omega (arith, is.0)
token_near tokens terms bytes offset why.TooLong is = omega (arith, is.0)
token_near tokens terms bytes offset why.LongRun is = absurd is
token_near tokens terms bytes offset why.BadFieldSize is = absurd is
token_near tokens terms bytes offset why.BracketMismatch is = absurd is
token_near tokens terms bytes offset why.BadSectionType is = absurd is
token_near tokens terms bytes offset why.UnsupportedBlock is = absurd is
token_near tokens terms bytes offset why.UnsupportedAttribute is = absurd is
token_near tokens terms bytes offset why.Truncated is = absurd is
token_near tokens terms bytes offset why.BadHeader is = absurd is
token_near tokens terms bytes offset why.BadDescriptor is = absurd is
token_near tokens terms bytes offset why.OffsetOrder is = absurd is
token_near tokens terms bytes offset why.PartGap is = absurd is
token_near tokens terms bytes offset why.WrongPart is = absurd is
token_near tokens terms bytes offset why.DuplicateIndex is = absurd is
token_near tokens terms bytes offset why.UnknownIndex is = absurd is
token_near tokens terms bytes offset why.DuplicateValue is = absurd is
token_near tokens terms bytes offset why.MissingValue is = absurd is
token_near tokens terms bytes offset why.MissingBase is = absurd is
token_near tokens terms bytes offset why.BadAlignment is = absurd is
token_near tokens terms bytes offset why.NoSection is = absurd is
token_near tokens terms bytes offset why.BadP is = absurd is
token_near tokens terms bytes offset why.BlockNesting is = absurd is
token_near tokens terms bytes offset why.Depth is = absurd is
token_near tokens terms bytes offset why.AfterEnd is = absurd is
token_near tokens terms bytes offset why.FileLimit is = absurd is
token_near tokens terms bytes offset why.BadArchive is = absurd is

expression_near : (at : ℕ) (bytes : List ℕ) (fault_offset : ℕ) (reason : Reason) → ExpressionFault at bytes fault_offset reason
    → fault_offset ≤ at + length bytes
expression_near at bytes fault_offset reason (offset, (tokens, terms, prefix, rest, spells, leaves, few, (fault, here), all)) =
    omega (arith, here, token_near _ _ rest offset reason fault, ap length all, length-append prefix rest)

sized_near : (at : ℕ) (bytes : List ℕ) (fault_offset : ℕ) (reason : Reason) → SizedFault at bytes fault_offset reason → fault_offset ≤ at + length bytes
sized_near at bytes fault_offset reason (offset, tokens, terms, prefix, rest, spells, leaves, few, fault, here, test, all) =
    omega (arith, here, token_near _ _ rest offset reason fault, ap length all, length-append prefix rest)

field_near : (f : Field) (at : ℕ) (bytes : List ℕ) (fault_offset : ℕ) (reason : Reason) → IsNear f → FieldFault f at bytes fault_offset reason
    → fault_offset ≤ at + length bytes
field_near byte at bytes fault_offset reason near is = absurd is
field_near (number fits where_ fault) at bytes fault_offset reason near (inl is) = omega (arith, is.1)
field_near (number fits where_ fault) at bytes fault_offset reason near (inr is) = omega (arith, is.1, near at)
field_near string at bytes fault_offset reason near is = omega (arith, is.1)
field_near (run n) at bytes fault_offset reason near is = absurd is
field_near (letter known) at bytes fault_offset reason near is = absurd is
field_near optional_number at bytes fault_offset reason near is = absurd is
field_near (numbers most) at bytes fault_offset reason near is = absurd is
field_near expression at bytes fault_offset reason near is = expression_near at bytes fault_offset reason is
field_near optional_expression at bytes fault_offset reason near is = expression_near at bytes fault_offset reason is.1
field_near sized_expression at bytes fault_offset reason near is = sized_near at bytes fault_offset reason is

near : (layout : Layout) (at : ℕ) (bytes : List ℕ) (fault_offset : ℕ) (reason : Reason) → AreNear layout
    → HasFault layout at bytes fault_offset reason → fault_offset ≤ at + length bytes
near (Layouts.whole row) at bytes fault_offset reason good is = absurd is
near (Layouts.refused back why_) at bytes fault_offset reason good is = omega (arith, is.0)
near (Layouts.field f rest) at bytes fault_offset reason good (inl is) = field_near f at bytes fault_offset reason good.0 is
near (Layouts.field f rest) at bytes fault_offset reason good (inr (x, prefix, back, spells, fault, all)) =
    omega (arith, near (rest x) (at + length prefix) back fault_offset reason (good.1 x) fault, ap length all, length-append prefix back)

-- ---- the table

by_test : (test : Bool) (a b : Layout) → AreNear a → AreNear b → AreNear (cond test a b)
by_test true a b x y = x
by_test false a b x y = y

itself : (n : ℕ) → n ≤ n
itself n = omega arith

start_near : (n : ℕ) → 0 ≤ n
start_near n = omega arith

named_near : (i : ℕ) (absolute : Bool) → AreNear (Layouts.named_section i absolute)
named_near i absolute = (tt, λ (p : Option ℕ). (tt, λ (name : Span). (tt, λ (a : Option ℕ). (tt, λ (b : Option ℕ). (tt, λ (c : Option ℕ). tt)))))

constant_near : (row : Span → Record) → AreNear (Layouts.constant row)
constant_near row = (itself, λ (n : ℕ). (tt, λ (span : Span). tt))

section_near : AreNear Layouts.section_type
section_near = (
  itself,
  λ (i : ℕ). (
    tt,
    λ (c : ℕ). by_test (c == 0xC3) (Layouts.named_section i false) _ (named_near i false)
        (by_test (c == 0xC1) (Layouts.absolute_section i) _ (tt, λ (s : ℕ). by_test (s == 0xD3) (Layouts.named_section i true) _ (named_near i true) tt) tt),
  ),
)

repeat_near : AreNear Layouts.repeat
repeat_near = (
  itself,
  λ (times : ℕ). (
    tt,
    λ (b : ℕ). by_test (b == 0xED) (Layouts.constant (r.RepeatConstant times)) _ (constant_near (r.RepeatConstant times))
        (by_test (b == 0xE4) (Layouts.whole (r.RepeatRelocate times)) _ tt tt),
  ),
)

start_by : (o : Option ℕ) → AreNear (Layouts.start_by_bracket o)
start_by None = (tt, λ (v : Span). tt)
start_by (Some b) = (tt, λ (v : Span). (tt, λ (c : ℕ). by_test (c == Layouts.partner b) (Layouts.whole (r.Start v)) _ tt tt))

comma_near : (b : ℕ) (v : Span) (c : Option ℕ) → AreNear (Layouts.item_by_comma b v c)
comma_near b v None = (tt, λ (e : ℕ). by_test (e == Layouts.partner b) (Layouts.whole (r.FieldItem (Layouts.kind_of b) v None)) _ tt tt)
comma_near b v (Some c) = (
  itself,
  λ (n : ℕ). (
    tt,
    λ (e : ℕ). by_test (e == Layouts.partner b)
        (Layouts.whole (r.FieldItem (Layouts.kind_of b) v (Some n))) _ tt tt,
  ),
)

bracket_near : (o : Option ℕ) → AreNear (Layouts.item_by_bracket o)
bracket_near None = constant_near r.ConstantItem
bracket_near (Some b) = (tt, λ (v : Span). (tt, λ (c : Option ℕ). comma_near b v c))

size_near : (b : ℕ) (x : ValueOf sized_expression) → AreNear (Layouts.item_by_size b x.0 x.1)
size_near b (v, None) = (tt, λ (c : Option ℕ). comma_near b v c)
size_near b (v, Some last) = (
  tt,
  λ (e : ℕ). by_test (e == Layouts.partner b)
      (Layouts.whole (r.FieldItem (Layouts.kind_without_comma b last.uses_pc) v (Some last.size))) _ tt tt,
)

gnu_bracket_near : (o : Option ℕ) → AreNear (Layouts.gnu_item_by_bracket o)
gnu_bracket_near None = constant_near r.ConstantItem
gnu_bracket_near (Some b) = (tt, λ (x : ValueOf sized_expression). size_near b x)

block_near : AreNear Layouts.block_begin
block_near = (
  itself,
  λ (kind : ℕ). (
    itself,
    λ (n : ℕ). (
      tt,
      λ (name : Span).
          by_test (kind == 3) _ _ tt
          (by_test (kind == 5) (Layouts.source_begin kind n name) _ (tt, λ _. tt)
          (by_test (kind == 11) (Layouts.section_begin kind n name) _ (itself, λ (a : ℕ). (itself, λ (b : ℕ). (tt, λ (v : Span). tt))) (
            itself,
            λ (a : ℕ). (itself, λ (b : ℕ). (tt, λ (v : Span). tt)),
          ))),
    ),
  ),
)

assignment_near : (b : ℕ) → AreNear (Layouts.assignment b)
assignment_near b =
    by_test (b == 0xD7) Layouts.offset _ (itself, λ (n : ℕ). (itself, λ (w : ℕ). tt))
    (by_test (b == 0xD3) (Layouts.index_and_number r.SectionSize) _ (itself, λ (n : ℕ). (itself, λ (w : ℕ). tt))
    (by_test (b == 0xCC) (Layouts.index_and_number r.SectionBase) _ (itself, λ (n : ℕ). (itself, λ (w : ℕ). tt))
    (by_test (b == 0xC9) (Layouts.index_and_expression r.PublicValue) _ (itself, λ (n : ℕ). (tt, λ (v : Span). tt))
    (by_test (b == 0xCE) (Layouts.index_and_expression r.DebugValue) _ (itself, λ (n : ℕ). (tt, λ (v : Span). tt))
    (by_test (b == 0xD0) (Layouts.index_and_expression r.SetPc) _ (itself, λ (n : ℕ). (tt, λ (v : Span). tt))
    (by_test (b == 0xC7) Layouts.start_address _ (tt, λ (o : Option ℕ). start_by o)
    (by_test (is_one_of Layouts.left_out_assignments b) _ _ tt tt)))))))

noted_near : (b : ℕ) → AreNear (Layouts.noted b)
noted_near b =
    by_test (b == 0xC9) (Layouts.note r.PublicNote) _ (itself, λ (i : ℕ). (itself, λ (t : ℕ). (itself, λ (a : ℕ). (tt, λ _. tt))))
    (by_test (b == 0xD8) (Layouts.note r.ReferenceNote) _ (itself, λ (i : ℕ). (itself, λ (t : ℕ). (itself, λ (a : ℕ). (tt, λ _. tt))))
    (by_test (b == 0xCE) Layouts.debug_note _ (itself, λ (i : ℕ). (itself, λ (t : ℕ). (itself, λ (a : ℕ). (tt, λ _. tt)))) tt))

string_near : (row : ℕ → Span → Record) → AreNear (Layouts.index_and_string row)
string_near row = (itself, λ (i : ℕ). (tt, λ (name : Span). tt))

descriptor_near : AreNear Layouts.descriptor
descriptor_near = (itself, λ (bits : ℕ). (itself, λ (maus : ℕ). (tt, λ (o : Option ℕ). tt)))

begin_near : AreNear Layouts.module_begin
begin_near = (tt, λ (p : Span). (tt, λ (n : Span). tt))

coded_near : (b : ℕ) → AreNear (Layouts.coded b)
coded_near b =
    by_test (b == 0xE0) Layouts.module_begin _ begin_near
    (by_test (b == 0xE1) (Layouts.whole r.ModuleEnd) _ tt
    (by_test (b == 0xE2) Layouts.assigned _ (tt, λ (c : ℕ). assignment_near c)
    (by_test (b == 0xE4) (Layouts.whole r.Relocate) _ tt
    (by_test (b == 0xE5) Layouts.set_section _ (itself, λ (i : ℕ). tt)
    (by_test (b == 0xE6) Layouts.section_type _ section_near
    (by_test (b == 0xE7) Layouts.alignment _ (itself, λ (i : ℕ). (itself, λ (n : ℕ). (tt, λ (o : Option ℕ). tt)))
    (by_test (b == 0xE8) (Layouts.index_and_string r.PublicName) _ (string_near r.PublicName)
    (by_test (b == 0xE9) (Layouts.index_and_string r.ReferenceName) _ (string_near r.ReferenceName)
    (by_test (b == 0xEC) Layouts.descriptor _ descriptor_near
    (by_test (b == 0xED) (Layouts.constant r.Constant) _ (constant_near r.Constant)
    (by_test (b == 0xF0) (Layouts.index_and_string r.DebugName) _ (string_near r.DebugName)
    (by_test (b == 0xF1) Layouts.any_note _ (tt, λ (c : ℕ). noted_near c)
    (by_test (b == 0xF2) _ _ tt
    (by_test (b == 0xF4) Layouts.weak_reference _ (itself, λ (i : ℕ). (itself, λ (n : ℕ). (tt, λ (o : Option ℕ). tt)))
    (by_test (b == 0xF7) Layouts.repeat _ repeat_near
    (by_test (b == 0xF8) Layouts.block_begin _ block_near
    (by_test (b == 0xF9) Layouts.block_end _ (tt, λ (o : Option Span). tt) tt)))))))))))))))))

mode_near : (m : Mode) → AreNear (Layouts.layout_of m)
mode_near mode.Begin = (tt, λ (b : ℕ). by_test (b == 0xE0) Layouts.module_begin _ begin_near tt)
mode_near mode.Descriptor = (tt, λ (b : ℕ). by_test (b == 0xEC) Layouts.descriptor _ descriptor_near tt)
mode_near (mode.Offset k) = (
  tt,
  λ (b : ℕ). by_test (b == 0xE2) (Layouts.begins_with 2 0xD7 (Layouts.numbered_offset k)) _
      (tt, λ (c : ℕ). by_test (c == 0xD7) (Layouts.numbered_offset k) _ (start_near, λ (n : ℕ). (itself, λ (w : ℕ). tt)) tt) tt,
)
mode_near mode.Body = (tt, λ (b : ℕ). coded_near b)
mode_near mode.Items = (tt, λ (o : Option ℕ). bracket_near o)
mode_near mode.GnuItems = (tt, λ (o : Option ℕ). gnu_bracket_near o)

pub bad-within : (m : Mode) (input : List ℕ) (offset : ℕ) (reason : Reason) → IsFaulty m input offset reason → offset ≤ length input
bad-within m input offset reason is = let e = near (Layouts.layout_of m) 0 input offset reason (mode_near m) is in omega (arith, e)

pub within-bad : (end : Option ℕ) (m : Mode) (input : List ℕ) (offset : ℕ) (reason : Reason) → AreBytes input
    → record_within end m input ≡ Bad offset reason → offset ≤ length input
within-bad end m input offset reason fits e = elim (record_within-bad end m input fits offset reason e) [
  | inl is ↦ bad-within m input offset reason is
  | inr closed ↦
      let near = bad-within m (closed_at closed.0 input) offset reason closed.2 in
      omega (arith, near, closed.1, length-append (take closed.0 input) (0xE1 ∷ []), length-take closed.0 input)
]
