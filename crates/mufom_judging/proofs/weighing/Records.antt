-- What is written for a record weighs at most ten times the record's bytes.
use Rattle.std.proofs.Common.{◌≡◌, ℕ, ◌+◌, ◌-◌, ◌*◌, ◌≤◌, Bool, true, false, cond, ◌==◌, ◌&&◌, List, [], ◌∷◌, ◌++◌, length, take, drop, slice_range}
use Rattle.std.proofs.Common.{Option, Some, None, option_map, refl, sym, ap, subst, ◌∙◌, arith, append_assoc, length-append, length-take}
use Rattle.std.proofs.lemmas.List.{drop_at, take_at}
use Rattle.mufom_numbers.specs.declared.taken.Span.{Span}
use Rattle.mufom_numbers.specs.Spelling.{IsStringLead}
use Rattle.mufom_records.specs.declared.record.Mode.TheVariants as mode
use Rattle.mufom_records.specs.declared.record.Record.{Record}
use Rattle.mufom_records.specs.declared.record.Record.TheVariants as r
use Rattle.mufom_records.specs.declared.record.BlockTail.{BlockTail}
use Rattle.mufom_records.specs.declared.record.BlockTail.TheVariants as tail
use Rattle.arrayvec.specs.ArrayVec.{ArrayVec}
use Rattle.mufom_expr.specs.Spelled.{SpellsTree}
use Rattle.mufom_records.specs.Fields.{Field, ValueOf, byte, number, string, run, letter, optional_number, numbers, expression, optional_expression}
use Rattle.mufom_records.specs.Fields.{is_one_of, SpellsNumbers, SpellsField, first_of, sized_expression}
use Rattle.mufom_records.specs.Layouts
use Rattle.mufom_module.specs.SpelledRecords.{SpelledRecord, text_in, tree_in}
use Rattle.mufom_module.specs.RecordParts.{begins_item, mode_of, items_mode}
use Rattle.mufom_module.specs.Gathered.{purpose_of}
use Rattle.mufom_module.specs.Weights.{expression_weight, section_letters_weight, purpose_weight}
use Rattle.mufom_judging.proofs.weighing.Trees.{number_long, tree_tenfold}
use Rattle.mufom_records.specs.declared.options.ReadOptions.{ReadOptions}

abbrev Layout : Type 0
Layout = Layouts.Layout

-- ---- what is written for a record

abbrev pub present : {X : Type 0} → Option X → ℕ
present None = 0
present (Some x) = 1

abbrev pub tail_cost : SpelledRecord → BlockTail → ℕ
tail_cost p tail.Module = 0
tail_cost p (tail.Scope stack type_index offset) = 18 + expression_weight (tree_in p offset)
tail_cost p (tail.Source ns) = 9 * length ns.items
tail_cost p (tail.Section section_type section offset) = 18 + expression_weight (tree_in p offset)

abbrev pub end_cost : SpelledRecord → Option Span → ℕ
end_cost p None = 0
end_cost p (Some span) = expression_weight (tree_in p span)

-- what the record that is written for this one weighs; an item of an LR is written with a code of its own
abbrev pub cost : SpelledRecord → Record → ℕ
cost p (r.ModuleBegin processor name) = 7 + length (text_in p processor) + length (text_in p name)
cost p (r.SectionType i absolute purpose name a b c) = 13 + section_letters_weight absolute + purpose_weight (option_map purpose_of purpose) + length
    (text_in p name)
cost p (r.Alignment i n other) = 19
cost p (r.SectionSize i n) = 20
cost p (r.SectionBase i n) = 20
cost p (r.PublicName i name) = 13 + length (text_in p name)
cost p (r.PublicValue i value) = 11 + expression_weight (tree_in p value)
cost p (r.PublicNote i type_index attribute ns) = 29 + 9 * length ns.items
cost p (r.ReferenceName i name) = 13 + length (text_in p name)
cost p (r.WeakReference i n default) = 19 + 9 * present default
cost p (r.ReferenceNote i type_index attribute ns) = 29 + 9 * length ns.items
cost p (r.BlockBegin kind n name block) = 22 + length (text_in p name) + tail_cost p block
cost p (r.BlockEnd value) = 1 + end_cost p value
cost p (r.DebugName i name) = 13 + length (text_in p name)
cost p (r.DebugValue i value) = 11 + expression_weight (tree_in p value)
cost p (r.DebugNote i type_index attribute ns) = 29 + 9 * length ns.items
cost p (r.SetSection i) = 10
cost p (r.SetPc i value) = 11 + expression_weight (tree_in p value)
cost p (r.Constant bytes) = 10 + length (text_in p bytes)
cost p (r.ConstantItem bytes) = 10 + length (text_in p bytes)
cost p (r.FieldItem kind value n) = 13 + expression_weight (tree_in p value)
cost p (r.RepeatConstant times bytes) = 20 + length (text_in p bytes)
cost p (r.RepeatRelocate times) = 11
cost p (r.Start value) = 4 + expression_weight (tree_in p value)
cost p _ = 0

-- ---- the smallest number of bytes in a field

abbrev pub span_length : Option Span → ℕ
span_length None = 0
span_length (Some span) = span.len

abbrev pub least : (f : Field) → ValueOf f → ℕ
least byte b = 1
least (number fits fault_offset fault) n = 1
least string span = 1 + span.len
least (run n) span = span.len
least (letter known) b = present b
least optional_number n = present n
least (numbers most) ns = length ns.items
least expression span = span.len
least optional_expression span = span_length span
least sized_expression x = x.0.len

lead_long : (len : ℕ) (lead : List ℕ) → IsStringLead len lead → 1 ≤ length lead
lead_long len [] is = absurd is
lead_long len (b ∷ lead) is = omega arith

numbers_long : (ns : List ℕ) (bytes : List ℕ) → SpellsNumbers ns bytes → length ns ≤ length bytes
numbers_long [] bytes is = omega arith
numbers_long (n ∷ ns) bytes (prefix, back, first, others, split) =
    let own = number_long n prefix first in
    let rest = numbers_long ns back others in
    let all = ap length split in
    let parts = length-append prefix back in
    omega (arith, own, rest, all, parts)

field_long : (f : Field) (x : ValueOf f) (at : ℕ) (bytes : List ℕ) (next : Option ℕ) → SpellsField f x at bytes next → least f x ≤ length bytes
field_long byte x at bytes next is = let all : length bytes ≡ length (x ∷ []) = ap length is in omega (arith, all)
field_long (number fits fault_offset fault) x at bytes next is = number_long x bytes is.0
field_long string x at bytes next (lead, text, leads, are, fault_offset, split) =
    let own = lead_long (length text) lead leads in
    let all = ap length split in
    let parts = length-append lead text in
    let its : x.len ≡ length text = ap (λ (s : Span). s.len) fault_offset in
    omega (arith, own, all, parts, its)
field_long (run n) x at bytes next (count, are, fault_offset) = let its : x.len ≡ n = ap (λ (s : Span). s.len) fault_offset in omega (arith, count, its)
field_long (letter known) None at bytes next is = omega arith
field_long (letter known) (Some b) at bytes next is = let all : length bytes ≡ length (b ∷ []) = ap length is.0 in omega (arith, all)
field_long optional_number None at bytes next is = omega arith
field_long optional_number (Some n) at bytes next is = number_long n bytes is
field_long (numbers most) x at bytes next is = numbers_long x.items bytes is.0
field_long expression x at bytes next (tree, fault_offset, stops) = let its : x.len ≡ length bytes = ap (λ (s : Span). s.len) fault_offset in omega (arith, its)
field_long optional_expression None at bytes next is = omega arith
field_long optional_expression (Some x) at bytes next (tree, fault_offset, stops) = let its : x.len ≡ length bytes =
    ap (λ (s : Span). s.len) fault_offset in omega (arith, its)
field_long sized_expression (x, None) at bytes next (tree, fault_offset, stops) = let its : x.len ≡ length bytes =
    ap (λ (s : Span). s.len) fault_offset in omega (arith, its)
field_long sized_expression (x, Some last) at bytes next (tree, text, number_bytes, spells, few, spelled, fits, uses, span_is, closed, parts) =
    let its : x.len ≡ length text = ap (λ (s : Span). s.len) span_is in
    let all = ap length parts in
    let both = length-append text number_bytes in
    omega (arith, its, all, both)

-- ---- what is written for a field

abbrev pub HasTree : SpelledRecord → Span → Type 0
HasTree p span = expression_weight (tree_in p span) ≤ 10 * span.len

-- a string has at most as many bytes as its span, and an expression weighs at most ten times its span
abbrev pub InRecord : SpelledRecord → (f : Field) → ValueOf f → Type 0
InRecord p string span = length (text_in p span) ≤ span.len
InRecord p (run n) span = length (text_in p span) ≤ span.len
InRecord p expression span = HasTree p span
InRecord p optional_expression (Some span) = HasTree p span
InRecord p sized_expression x = HasTree p x.0
InRecord p _ _ = Unit {0}

text_long : (p : SpelledRecord) (span : Span) → length (text_in p span) ≤ span.len
text_long p span = omega (arith, length-take (span.start + span.len - span.start) (drop span.start p.bytes))

-- the bytes at a position
slice_at : (before prefix back : List ℕ) (start len : ℕ) → start ≡ length before → len ≡ length prefix
    → slice_range (before ++ (prefix ++ back)) start (start + len) ≡ prefix
slice_at before prefix back start len a b = ap (take (start + len - start)) (drop_at before (prefix ++ back) start (sym a))
    ∙ take_at prefix back (start + len - start) (omega arith)

text_at : (p : SpelledRecord) (span : Span) (before prefix back : List ℕ) → p.bytes ≡ before ++ (prefix ++ back) → span.start ≡ length before
    → span.len ≡ length prefix → text_in p span ≡ prefix
text_at p span before prefix back whole start len = ap (λ (l : List ℕ). slice_range l span.start (span.start + span.len)) whole
    ∙ slice_at before prefix back span.start span.len start len

has_tree : (p : SpelledRecord) (span : Span) (at : ℕ) (before prefix back : List ℕ) (next : Option ℕ) → SpellsField expression span at prefix next
    → p.bytes ≡ before ++ (prefix ++ back) → at ≡ length before → HasTree p span
has_tree p span at before prefix back next (tree, fault_offset, stops) whole start =
    let starts : span.start ≡ length before = ap (λ (s : Span). s.start) fault_offset ∙ start in
    let len : span.len ≡ length prefix = ap (λ (s : Span). s.len) fault_offset in
    let text = text_at p span before prefix back whole starts len in
    let its = tree_tenfold tree.0 (text_in p span) (subst (λ (l : List ℕ). SpellsTree tree.0 l) (sym text) tree.1) in
    let long : length (text_in p span) ≡ length prefix = ap length text in
    omega (arith, its, long, len)

in_record : (p : SpelledRecord) (f : Field) (x : ValueOf f) (at : ℕ) (before prefix back : List ℕ) (next : Option ℕ) → SpellsField f x at prefix next
    → p.bytes ≡ before ++ (prefix ++ back) → at ≡ length before → InRecord p f x
in_record p byte x at before prefix back next is whole start = tt
in_record p (number fits fault_offset fault) x at before prefix back next is whole start = tt
in_record p string x at before prefix back next is whole start = text_long p x
in_record p (run n) x at before prefix back next is whole start = text_long p x
in_record p (letter known) x at before prefix back next is whole start = tt
in_record p optional_number x at before prefix back next is whole start = tt
in_record p (numbers most) x at before prefix back next is whole start = tt
in_record p expression x at before prefix back next is whole start = has_tree p x at before prefix back next is whole start
in_record p optional_expression None at before prefix back next is whole start = tt
in_record p optional_expression (Some x) at before prefix back next is whole start = has_tree p x at before prefix back next is whole start
in_record p sized_expression (x, None) at before prefix back next is whole start = has_tree p x at before prefix back next is whole start
in_record p sized_expression (x, Some last) at before prefix back next
    (tree, text, number_bytes, spells, few, spelled, fits, uses, span_is, closed, parts) whole
    start =
    has_tree p x at before text (number_bytes ++ back) (Some 0xBB) ((tree, spells), span_is, refl)
    (whole ∙ ap (λ l. before ++ (l ++ back)) parts ∙ ap (λ l. before ++ l) (append_assoc text number_bytes back)) start

-- ---- a layout whose records are paid for

-- each record of the layout costs at most ten times its bytes, of which `n` come before these fields
abbrev pub Pays : SpelledRecord → (Record → ℕ) → Layout → ℕ → Type 0
Pays p price (Layouts.whole row) n = price row ≤ 10 * n
Pays p price (Layouts.refused back reason) n = Unit {0}
Pays p price (Layouts.field f rest) n = (x : ValueOf f) → InRecord p f x → Pays p price (rest x) (n + least f x)

paid_from : (p : SpelledRecord) (price : Record → ℕ) (layout : Layout) (row : Record) (at : ℕ) (before bytes : List ℕ) (next : Option ℕ) (n : ℕ)
    → Layouts.SpellsRecord layout row at bytes next
    → p.bytes ≡ before ++ bytes → at ≡ length before → n ≤ at → Pays p price layout n → price row ≤ 10 * length p.bytes
paid_from p price (Layouts.whole it) row at before bytes next n is whole start few pays =
    let same : price row ≡ price it = ap price is.0 in
    let all = ap length whole in
    let parts = length-append before bytes in
    omega (arith, same, all, parts, few, start, pays)
paid_from p price (Layouts.refused back reason) row at before bytes next n is whole start few pays = absurd is
paid_from p price (Layouts.field f rest) row at before bytes next n (x, prefix, back, first, others, split) whole start few pays =
    let its : p.bytes ≡ before ++ (prefix ++ back) = whole ∙ ap (λ l. before ++ l) split in
    let long = field_long f x at prefix (first_of back next) first in
    paid_from p price (rest x) row (at + length prefix) (before ++ prefix) back next (n + least f x) others
    (its ∙ sym (append_assoc before prefix back)) (ap (λ m. m + length prefix) start ∙ sym (length-append before prefix)) (omega (arith, few, long))
    (pays x (in_record p f x at before prefix back (first_of back next) first its start))

paid : (p : SpelledRecord) (price : Record → ℕ) (layout : Layout) (next : Option ℕ) → Layouts.SpellsRecord layout (p.row) 0 p.bytes next
    → Pays p price layout 0 → price p.row ≤ 10 * length p.bytes
paid p price layout next is pays = paid_from p price layout (p.row) 0 [] p.bytes next 0 is refl refl (omega arith) pays

by_test : (p : SpelledRecord) (price : Record → ℕ) (n : ℕ) (test : Bool) (a b : Layout) → Pays p price a n → Pays p price b n → Pays p price (cond test a b) n
by_test p price n true a b x y = x
by_test p price n false a b x y = y

-- ---- the records of the header

begins_paid : (p : SpelledRecord) (price : Record → ℕ) (n back code : ℕ) (rest : Layout) → Pays p price rest (n + 1)
    → Pays p price (Layouts.begins_with back code rest) n
begins_paid p price n back code rest pays = λ (b : ℕ) _. by_test p price (n + 1) (b == code) rest _ pays tt

pub begin_paid : (p : SpelledRecord) (next : Option ℕ) → Layouts.IsWholeRecord mode.Begin p.row p.bytes next → cost p p.row ≤ 10 * length p.bytes
begin_paid p next is = paid p (cost p) (Layouts.layout_of mode.Begin) next is
    (begins_paid p (cost p) 0 1 0xE0 Layouts.module_begin (λ (processor : Span) x (name : Span) y. omega (arith, x, y)))

pub descriptor_paid : (p : SpelledRecord) (next : Option ℕ) → Layouts.IsWholeRecord mode.Descriptor p.row p.bytes next → 20 ≤ 10 * length p.bytes
descriptor_paid p next is = paid p (λ _. 20) (Layouts.layout_of mode.Descriptor) next is
    (begins_paid p (λ _. 20) 0 1 0xEC Layouts.descriptor (λ (bits : ℕ) _ (maus : ℕ) _ (order : Option ℕ) _. omega arith))

pub offset_paid : (k : ℕ) (p : SpelledRecord) (next : Option ℕ) → Layouts.IsWholeRecord (mode.Offset k) p.row p.bytes next → 16 ≤ 10 * length p.bytes
offset_paid k p next is = paid p (λ _. 16) (Layouts.layout_of (mode.Offset k)) next is
    (begins_paid p (λ _. 16) 0 1 0xE2 (Layouts.begins_with 2 0xD7 (Layouts.numbered_offset k))
    (begins_paid p (λ _. 16) 1 2 0xD7 (Layouts.numbered_offset k) (λ (n : ℕ) _ (w : ℕ) _. omega arith)))

-- ---- the other records

purpose_paid : (o : Option ℕ) → purpose_weight (option_map purpose_of o) ≤ present o
purpose_paid None = omega arith
purpose_paid (Some b) = omega arith

present_small : (o : Option ℕ) → present o ≤ 1
present_small None = omega arith
present_small (Some b) = omega arith

named_paid : (p : SpelledRecord) (i n : ℕ) (absolute : Bool) → 2 + section_letters_weight absolute ≤ n → Pays p (cost p) (Layouts.named_section i absolute) n
named_paid p i n absolute letters = λ (purpose : Option ℕ) _ (name : Span) x (a : Option ℕ) _ (b : Option ℕ) _ (c : Option ℕ) _. let its =
    purpose_paid purpose in omega (arith, letters, x, its)

section_paid : (p : SpelledRecord) → Pays p (cost p) Layouts.section_type 1
section_paid p = λ (i : ℕ) _ (c : ℕ) _. by_test p (cost p) 3 (c == 0xC3) (Layouts.named_section i false) _ (named_paid p i 3 false (omega arith))
    (by_test p (cost p) 3 (c == 0xC1) (Layouts.absolute_section i) _
    (λ (s : ℕ) _. by_test p (cost p) 4 (s == 0xD3) (Layouts.named_section i true) _ (named_paid p i 4 true (omega arith)) tt) tt)

repeat_paid : (p : SpelledRecord) → Pays p (cost p) Layouts.repeat 1
repeat_paid p = λ (times : ℕ) _ (b : ℕ) _. by_test p (cost p) 3 (b == 0xED) (Layouts.constant (r.RepeatConstant times)) _
    (λ (n : ℕ) _ (span : Span) x. omega (arith, x))
    (by_test p (cost p) 3 (b == 0xE4) (Layouts.whole (r.RepeatRelocate times)) _ (omega arith) tt)

start_paid : (p : SpelledRecord) (o : Option ℕ) (n : ℕ) → 1 ≤ n → Pays p (cost p) (Layouts.start_by_bracket o) n
start_paid p None n some = λ (v : Span) x. omega (arith, some, x)
start_paid p (Some b) n some = λ (v : Span) x (c : ℕ) _. by_test p (cost p) _ (c == Layouts.partner b) (Layouts.whole (r.Start v)) _ (omega (arith, some, x)) tt

comma_paid : (p : SpelledRecord) (b : ℕ) (v : Span) (c : Option ℕ) (n : ℕ) → HasTree p v → 1 + v.len ≤ n → Pays p (cost p) (Layouts.item_by_comma b v c) n
comma_paid p b v None n x some = λ (e : ℕ) _. by_test p (cost p) (n + 1) (e == Layouts.partner b)
    (Layouts.whole (r.FieldItem (Layouts.kind_of b) v None)) _ (omega (arith, some, x)) tt
comma_paid p b v (Some c) n x some = λ (k : ℕ) _ (e : ℕ) _. by_test p (cost p) (n + 1 + 1) (e == Layouts.partner b)
    (Layouts.whole (r.FieldItem (Layouts.kind_of b) v (Some k))) _ (omega (arith, some, x)) tt

size_paid : (p : SpelledRecord) (b : ℕ) (s : ValueOf sized_expression) (n : ℕ) → HasTree p s.0 → 1 + s.0.len ≤ n
    → Pays p (cost p) (Layouts.item_by_size b s.0 s.1) n
size_paid p b (v, None) n x some = λ (c : Option ℕ) _. comma_paid p b v c (n + present c) x (omega (arith, some))
size_paid p b (v, Some last) n x some = λ (e : ℕ) _. by_test p (cost p) (n + 1) (e == Layouts.partner b)
    (Layouts.whole (r.FieldItem (Layouts.kind_without_comma b last.uses_pc) v (Some last.size))) _ (omega (arith, some, x)) tt

gnu_bracket_paid : (p : SpelledRecord) (o : Option ℕ) → Pays p (cost p) (Layouts.gnu_item_by_bracket o) (0 + present o)
gnu_bracket_paid p None = λ (n : ℕ) _ (span : Span) x. omega (arith, x)
gnu_bracket_paid p (Some b) = λ (e : ValueOf sized_expression) x. size_paid p b e _ x (omega arith)

bracket_paid : (p : SpelledRecord) (o : Option ℕ) → Pays p (cost p) (Layouts.item_by_bracket o) (0 + present o)
bracket_paid p None = λ (n : ℕ) _ (span : Span) x. omega (arith, x)
bracket_paid p (Some b) = λ (v : Span) x (c : Option ℕ) _. comma_paid p b v c _ x (omega arith)

block_paid : (p : SpelledRecord) → Pays p (cost p) Layouts.block_begin 1
block_paid p = λ (kind : ℕ) _ (n : ℕ) _ (name : Span) x.
    by_test p (cost p) _ (kind == 3) (Layouts.whole (r.BlockBegin kind n name tail.Module)) _ (omega (arith, x))
    (by_test p (cost p) _ (kind == 5) (Layouts.source_begin kind n name) _ (λ (ns : ArrayVec ℕ) _. omega (arith, x))
    (by_test p (cost p) _ (kind == 11) (Layouts.section_begin kind n name) _ (λ (a : ℕ) _ (b : ℕ) _ (v : Span) y. omega (arith, x, y))
    (λ (a : ℕ) _ (b : ℕ) _ (v : Span) y. omega (arith, x, y))))

end_paid : (p : SpelledRecord) (o : Option Span) → InRecord p optional_expression o → cost p (r.BlockEnd o) ≤ 10 * (1 + span_length o)
end_paid p None x = omega arith
end_paid p (Some v) x = omega (arith, x)

assignment_paid : (p : SpelledRecord) (b : ℕ) → Pays p (cost p) (Layouts.assignment b) 2
assignment_paid p b =
    by_test p (cost p) 2 (b == 0xD7) Layouts.offset _ (λ (n : ℕ) _ (v : ℕ) _. omega arith)
    (by_test p (cost p) 2 (b == 0xD3) (Layouts.index_and_number r.SectionSize) _ (λ (i : ℕ) _ (n : ℕ) _. omega arith)
    (by_test p (cost p) 2 (b == 0xCC) (Layouts.index_and_number r.SectionBase) _ (λ (i : ℕ) _ (n : ℕ) _. omega arith)
    (by_test p (cost p) 2 (b == 0xC9) (Layouts.index_and_expression r.PublicValue) _ (λ (i : ℕ) _ (v : Span) x. omega (arith, x))
    (by_test p (cost p) 2 (b == 0xCE) (Layouts.index_and_expression r.DebugValue) _ (λ (i : ℕ) _ (v : Span) x. omega (arith, x))
    (by_test p (cost p) 2 (b == 0xD0) (Layouts.index_and_expression r.SetPc) _ (λ (i : ℕ) _ (v : Span) x. omega (arith, x))
    (by_test p (cost p) 2 (b == 0xC7) Layouts.start_address _ (λ (o : Option ℕ) _. start_paid p o _ (omega arith))
    (by_test p (cost p) 2 (is_one_of Layouts.left_out_assignments b) _ _ tt tt)))))))

noted_paid : (p : SpelledRecord) (b : ℕ) → Pays p (cost p) (Layouts.noted b) 2
noted_paid p b =
    by_test p (cost p) 2 (b == 0xC9) (Layouts.note r.PublicNote) _ (λ (i : ℕ) _ (t : ℕ) _ (a : ℕ) _ (ns : ArrayVec ℕ) _. omega arith)
    (by_test p (cost p) 2 (b == 0xD8) (Layouts.note r.ReferenceNote) _ (λ (i : ℕ) _ (t : ℕ) _ (a : ℕ) _ (ns : ArrayVec ℕ) _. omega arith)
    (by_test p (cost p) 2 (b == 0xCE) Layouts.debug_note _ (λ (i : ℕ) _ (t : ℕ) _ (a : ℕ) _ (ns : ArrayVec ℕ) _. omega arith) tt))

coded_paid : (p : SpelledRecord) (b : ℕ) → Pays p (cost p) (Layouts.coded b) 1
coded_paid p b =
    by_test p (cost p) 1 (b == 0xE0) Layouts.module_begin _ (λ (processor : Span) x (name : Span) y. omega (arith, x, y))
    (by_test p (cost p) 1 (b == 0xE1) (Layouts.whole r.ModuleEnd) _ (omega arith)
    (by_test p (cost p) 1 (b == 0xE2) Layouts.assigned _ (λ (c : ℕ) _. assignment_paid p c)
    (by_test p (cost p) 1 (b == 0xE4) (Layouts.whole r.Relocate) _ (omega arith)
    (by_test p (cost p) 1 (b == 0xE5) Layouts.set_section _ (λ (i : ℕ) _. omega arith)
    (by_test p (cost p) 1 (b == 0xE6) Layouts.section_type _ (section_paid p)
    (by_test p (cost p) 1 (b == 0xE7) Layouts.alignment _ (λ (i : ℕ) _ (n : ℕ) _ (o : Option ℕ) _. omega arith)
    (by_test p (cost p) 1 (b == 0xE8) (Layouts.index_and_string r.PublicName) _ (λ (i : ℕ) _ (name : Span) x. omega (arith, x))
    (by_test p (cost p) 1 (b == 0xE9) (Layouts.index_and_string r.ReferenceName) _ (λ (i : ℕ) _ (name : Span) x. omega (arith, x))
    (by_test p (cost p) 1 (b == 0xEC) Layouts.descriptor _ (λ (bits : ℕ) _ (maus : ℕ) _ (order : Option ℕ) _. omega arith)
    (by_test p (cost p) 1 (b == 0xED) (Layouts.constant r.Constant) _ (λ (n : ℕ) _ (span : Span) x. omega (arith, x))
    (by_test p (cost p) 1 (b == 0xF0) (Layouts.index_and_string r.DebugName) _ (λ (i : ℕ) _ (name : Span) x. omega (arith, x))
    (by_test p (cost p) 1 (b == 0xF1) Layouts.any_note _ (λ (c : ℕ) _. noted_paid p c)
    (by_test p (cost p) 1 (b == 0xF2) _ _ tt
    (by_test p (cost p) 1 (b == 0xF4) Layouts.weak_reference _ (λ (i : ℕ) _ (n : ℕ) _ (o : Option ℕ) _. let small = present_small o in omega (arith, small))
    (by_test p (cost p) 1 (b == 0xF7) Layouts.repeat _ (repeat_paid p)
    (by_test p (cost p) 1 (b == 0xF8) Layouts.block_begin _ (block_paid p)
    (by_test p (cost p) 1 (b == 0xF9) Layouts.block_end _ (λ (o : Option Span) x. end_paid p o x) tt)))))))))))))))))

body_paid : (p : SpelledRecord) (next : Option ℕ) → Layouts.IsWholeRecord mode.Body p.row p.bytes next → cost p p.row ≤ 10 * length p.bytes
body_paid p next is = paid p (cost p) Layouts.body next is (λ (b : ℕ) _. coded_paid p b)

item_paid : (gnu : Bool) (p : SpelledRecord) (next : Option ℕ) → Layouts.IsWholeRecord (cond gnu mode.GnuItems mode.Items) p.row p.bytes next
    → cost p p.row ≤ 10 * length p.bytes
item_paid true p next is = paid p (cost p) Layouts.gnu_item next is (λ (o : Option ℕ) _. gnu_bracket_paid p o)
item_paid false p next is = paid p (cost p) Layouts.item next is (λ (o : Option ℕ) _. bracket_paid p o)

-- a record after the header, or an item
pub record_paid : (options : ReadOptions) (p : SpelledRecord) (items : Bool) (next : Option ℕ) → Layouts.IsWholeRecord
    (mode_of options items p.bytes) p.row p.bytes next
    → cost p p.row ≤ 10 * length p.bytes
record_paid options p items next is = by_mode (items && begins_item p.bytes) is where
  by_mode : (b : Bool) → Layouts.IsWholeRecord (cond b (items_mode options) mode.Body) p.row p.bytes next → cost p p.row ≤ 10 * length p.bytes
  by_mode true is = item_paid options.gnu p next is
  by_mode false is = body_paid p next is
