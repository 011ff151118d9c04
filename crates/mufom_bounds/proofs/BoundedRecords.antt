-- What a record of a file states is within the bounds of the types of a module.
use Rattle.std.proofs.Common.{◌≡◌, ℕ, ◌+◌, ◌-◌, ◌^◌, ◌≤◌, Bool, true, false, cond, ◌==◌, ◌&&◌, List, [], ◌∷◌, ◌++◌, length, take, drop, slice_range}
use Rattle.std.proofs.Common.{Option, Some, None, refl, sym, ap, subst, ◌∙◌, inl, inr, arith, append_assoc, length-append}
use Rattle.std.specs.Prelude.{All, IfSome}
use Rattle.std.specs.List.{AllByRecursion}
use Rattle.std.proofs.Math.Nat.{pow-le-pow_right}
use Rattle.std.proofs.lemmas.List.{drop_at, take_at}
use Rattle.std.proofs.lemmas.List.Elements.{All-from_recursion}
use Rattle.mufom_numbers.specs.declared.taken.Span.{Span}
use Rattle.mufom_numbers.specs.Spelling.{AreBytes, SpellsNumber}
use Rattle.mufom_numbers.proofs.Values.{big_endian-below}
use Rattle.mufom_expr.specs.declared.token.Token.{Token}
use Rattle.mufom_expr.specs.declared.token.Token.TheVariants.{Number, Var, Fun}
use Rattle.mufom_expr.specs.Spelled.{SpellsToken, SpellsTokens, SpellsTree}
use Rattle.mufom_expr.specs.Terms.{the_term}
use Rattle.mufom_expr.specs.TokenAt.{tokens_in}
use Rattle.mufom_expr.specs.Tree.{Tree, tokens_of}
use Rattle.mufom_records.specs.declared.options.ReadOptions.{ReadOptions}
use Rattle.mufom_records.specs.declared.record.BlockTail.{BlockTail}
use Rattle.mufom_records.specs.declared.record.BlockTail.TheVariants as tail
use Rattle.mufom_records.specs.declared.record.Mode.TheVariants as mode
use Rattle.mufom_records.specs.declared.record.Record.{Record}
use Rattle.mufom_records.specs.declared.record.Record.TheVariants as r
use Rattle.mufom_records.specs.Fields.{Field, ValueOf, byte, number, string, run, letter, optional_number, numbers, expression, optional_expression}
use Rattle.mufom_records.specs.Fields.{is_one_of, SpellsNumbers, SpellsField, first_of, sized_expression}
use Rattle.mufom_records.specs.Layouts
use Rattle.mufom_module.specs.Gathered.{note_of}
use Rattle.mufom_module.specs.Made.{IsMadeNote, IsNumber}
use Rattle.mufom_module.specs.RecordParts.{begins_item, mode_of, items_mode}
use Rattle.mufom_module.specs.SpelledRecords.{SpelledRecord, text_in, tree_in}
use Rattle.mufom_module.proofs.SpelledLaws.{term-spelling}
use Rattle.mufom_judging.proofs.judged.Stays.{AreBytes-drop, AreBytes-take}
use Rattle.mufom_bounds.specs.Bounded.{IsBoundedToken, IsBoundedTree}

abbrev Layout : Type 0
Layout = Layouts.Layout

-- ---- numbers and expressions

-- a number that is spelled has 64 bits
number-below : (n : ℕ) (bytes : List ℕ) → SpellsNumber n bytes → IsNumber n
number-below n [] is = absurd is
number-below n (lead ∷ bytes) (inl (small, none, same)) = omega (arith, small, same)
number-below n (lead ∷ bytes) (inr (leads, few, are, same)) =
    let below = big_endian-below bytes are in
    let most : 256 ^ length bytes ≤ 256 ^ 8 = pow-le-pow_right {n = 256} (omega arith) {i = length bytes} {j = 8} few in
    omega (arith, below, most, same)

numbers-below : (ns : List ℕ) (bytes : List ℕ) → SpellsNumbers ns bytes → AllByRecursion IsNumber ns
numbers-below [] bytes is = tt
numbers-below (n ∷ ns) bytes (prefix, back, first, others, split) = (number-below n prefix first, numbers-below ns back others)

token-bounded : (token : Token) (bytes : List ℕ) → SpellsToken token bytes → IsBoundedToken token
token-bounded (Number n) bytes is = number-below n bytes is
token-bounded (Var name i) bytes is = tt
token-bounded (Fun f) bytes is = tt

tokens-bounded : (tokens : List Token) (bytes : List ℕ) → SpellsTokens tokens bytes → AllByRecursion IsBoundedToken tokens
tokens-bounded [] bytes is = tt
tokens-bounded (token ∷ tokens) bytes (prefix, back, first, others, split) =
    (token-bounded token prefix first, tokens-bounded tokens back others)

tree-bounded : (tree : Tree) (bytes : List ℕ) → SpellsTree tree bytes → IsBoundedTree (the_term (tokens_in bytes))
tree-bounded tree bytes is =
    subst IsBoundedTree (sym (term-spelling tree bytes is)) (is.0, tokens-bounded (tokens_of tree) bytes is.1)

-- ---- fields

-- the value of a field of the record is within its bounds
abbrev IsBoundedField : SpelledRecord → (f : Field) → ValueOf f → Type 0
IsBoundedField p (number fits offset fault) n = IsNumber n
IsBoundedField p optional_number n = IfSome n IsNumber
IsBoundedField p (numbers most) ns = (length ns.items ≤ most) × All IsNumber ns.items
IsBoundedField p expression span = IsBoundedTree (tree_in p span)
IsBoundedField p optional_expression o = IfSome o (λ span. IsBoundedTree (tree_in p span))
IsBoundedField p sized_expression x = IsBoundedTree (tree_in p x.0)
IsBoundedField p _ _ = Unit {0}

-- the bytes at a position
slice_at : (before prefix back : List ℕ) (start len : ℕ) → start ≡ length before → len ≡ length prefix
    → slice_range (before ++ (prefix ++ back)) start (start + len) ≡ prefix
slice_at before prefix back start len a b = ap (take (start + len - start)) (drop_at before (prefix ++ back) start (sym a))
    ∙ take_at prefix back (start + len - start) (omega arith)

text_at : (p : SpelledRecord) (span : Span) (before prefix back : List ℕ) → p.bytes ≡ before ++ (prefix ++ back) → span.start ≡ length before
    → span.len ≡ length prefix → text_in p span ≡ prefix
text_at p span before prefix back whole start len = ap (λ (l : List ℕ). slice_range l span.start (span.start + span.len)) whole
    ∙ slice_at before prefix back span.start span.len start len

bounded-span : (p : SpelledRecord) (span : Span) (at : ℕ) (before prefix back : List ℕ) (next : Option ℕ) → SpellsField expression span at prefix next
    → p.bytes ≡ before ++ (prefix ++ back) → at ≡ length before → IsBoundedTree (tree_in p span)
bounded-span p span at before prefix back next (tree, same, stops) whole start =
    let starts : span.start ≡ length before = ap (λ (s : Span). s.start) same ∙ start in
    let len : span.len ≡ length prefix = ap (λ (s : Span). s.len) same in
    let text = text_at p span before prefix back whole starts len in
    tree-bounded tree.0 (text_in p span) (subst (λ (l : List ℕ). SpellsTree tree.0 l) (sym text) tree.1)

bounded-field : (p : SpelledRecord) (f : Field) (x : ValueOf f) (at : ℕ) (before prefix back : List ℕ) (next : Option ℕ) → SpellsField f x at prefix next
    → p.bytes ≡ before ++ (prefix ++ back) → at ≡ length before → IsBoundedField p f x
bounded-field p byte x at before prefix back next is whole start = tt
bounded-field p (number fits offset fault) x at before prefix back next is whole start = number-below x prefix is.0
bounded-field p string x at before prefix back next is whole start = tt
bounded-field p (run n) x at before prefix back next is whole start = tt
bounded-field p (letter known) x at before prefix back next is whole start = tt
bounded-field p optional_number None at before prefix back next is whole start = tt
bounded-field p optional_number (Some n) at before prefix back next is whole start = number-below n prefix is
bounded-field p (numbers most) x at before prefix back next is whole start =
    (is.1, All-from_recursion IsNumber x.items (numbers-below x.items prefix is.0))
bounded-field p expression x at before prefix back next is whole start = bounded-span p x at before prefix back next is whole start
bounded-field p optional_expression None at before prefix back next is whole start = tt
bounded-field p optional_expression (Some x) at before prefix back next is whole start = bounded-span p x at before prefix back next is whole start
bounded-field p sized_expression (x, None) at before prefix back next is whole start = bounded-span p x at before prefix back next is whole start
bounded-field p sized_expression (x, Some last) at before prefix back next
    (tree, text, number_bytes, spells, few, spelled, fits, uses, span_is, closed, parts) whole start =
    bounded-span p x at before text (number_bytes ++ back) (Some 0xBB) ((tree, spells), span_is, refl)
    (whole ∙ ap (λ l. before ++ (l ++ back)) parts ∙ ap (λ l. before ++ l) (append_assoc text number_bytes back)) start

-- ---- records

abbrev pub IsBoundedTail : SpelledRecord → BlockTail → Type 0
IsBoundedTail p tail.Module = Unit {0}
IsBoundedTail p (tail.Scope stack type_index offset) = IsNumber stack × IsNumber type_index × IsBoundedTree (tree_in p offset)
IsBoundedTail p (tail.Source ns) = (length ns.items ≤ 6) × All IsNumber ns.items
IsBoundedTail p (tail.Section section_type section offset) = IsNumber section_type × IsBoundedTree (tree_in p offset)

-- the numbers and the expression of the record are within their bounds
abbrev pub IsBoundedRow : SpelledRecord → Record → Type 0
IsBoundedRow p (r.Alignment i n other) = IsNumber n
IsBoundedRow p (r.SectionSize i n) = IsNumber n
IsBoundedRow p (r.SectionBase i n) = IsNumber n
IsBoundedRow p (r.PublicValue i value) = IsBoundedTree (tree_in p value)
IsBoundedRow p (r.PublicNote i type_index attribute ns) = IsMadeNote (note_of type_index attribute ns)
IsBoundedRow p (r.WeakReference i n default) = IsNumber n × IfSome default IsNumber
IsBoundedRow p (r.ReferenceNote i type_index attribute ns) = IsMadeNote (note_of type_index attribute ns)
IsBoundedRow p (r.BlockBegin kind n name block) = IsBoundedTail p block
IsBoundedRow p (r.BlockEnd value) = IfSome value (λ span. IsBoundedTree (tree_in p span))
IsBoundedRow p (r.DebugValue i value) = IsBoundedTree (tree_in p value)
IsBoundedRow p (r.DebugNote i type_index attribute ns) = IsMadeNote (note_of type_index attribute ns)
IsBoundedRow p (r.SetPc i value) = IsBoundedTree (tree_in p value)
IsBoundedRow p (r.FieldItem kind value n) = IsBoundedTree (tree_in p value)
IsBoundedRow p (r.RepeatConstant times bytes) = IsNumber times
IsBoundedRow p (r.RepeatRelocate times) = IsNumber times
IsBoundedRow p (r.Start value) = IsBoundedTree (tree_in p value)
IsBoundedRow p _ = Unit {0}

-- each record of the layout is within its bounds
abbrev Grants : SpelledRecord → Layout → Type 0
Grants p (Layouts.whole row) = IsBoundedRow p row
Grants p (Layouts.refused back reason) = Unit {0}
Grants p (Layouts.field f rest) = (x : ValueOf f) → IsBoundedField p f x → Grants p (rest x)

granted-from : (p : SpelledRecord) (layout : Layout) (row : Record) (at : ℕ) (before bytes : List ℕ) (next : Option ℕ)
    → Layouts.SpellsRecord layout row at bytes next → p.bytes ≡ before ++ bytes → at ≡ length before → Grants p layout → IsBoundedRow p row
granted-from p (Layouts.whole it) row at before bytes next is whole start grants = subst (IsBoundedRow p) (sym is.0) grants
granted-from p (Layouts.refused back reason) row at before bytes next is whole start grants = absurd is
granted-from p (Layouts.field f rest) row at before bytes next (x, prefix, back, first, others, split) whole start grants =
    let its : p.bytes ≡ before ++ (prefix ++ back) = whole ∙ ap (λ l. before ++ l) split in
    granted-from p (rest x) row (at + length prefix) (before ++ prefix) back next others
    (its ∙ sym (append_assoc before prefix back)) (ap (λ m. m + length prefix) start ∙ sym (length-append before prefix))
    (grants x (bounded-field p f x at before prefix back (first_of back next) first its start))

granted : (p : SpelledRecord) (layout : Layout) (next : Option ℕ) → Layouts.SpellsRecord layout p.row 0 p.bytes next → Grants p layout
    → IsBoundedRow p p.row
granted p layout next is grants = granted-from p layout p.row 0 [] p.bytes next is refl refl grants

by_test : (p : SpelledRecord) (test : Bool) (a b : Layout) → Grants p a → Grants p b → Grants p (cond test a b)
by_test p true a b x y = x
by_test p false a b x y = y

-- ---- layouts

named-granted : (p : SpelledRecord) (i : ℕ) (absolute : Bool) → Grants p (Layouts.named_section i absolute)
named-granted p i absolute = λ (purpose : Option ℕ) _ (name : Span) _ (a : Option ℕ) _ (b : Option ℕ) _ (c : Option ℕ) _. tt

section-granted : (p : SpelledRecord) → Grants p Layouts.section_type
section-granted p = λ (i : ℕ) _ (c : ℕ) _. by_test p (c == 0xC3) (Layouts.named_section i false) _ (named-granted p i false)
    (by_test p (c == 0xC1) (Layouts.absolute_section i) _
    (λ (s : ℕ) _. by_test p (s == 0xD3) (Layouts.named_section i true) _ (named-granted p i true) tt) tt)

repeat-granted : (p : SpelledRecord) → Grants p Layouts.repeat
repeat-granted p = λ (times : ℕ) x (b : ℕ) _. by_test p (b == 0xED) (Layouts.constant (r.RepeatConstant times)) _
    (λ (n : ℕ) _ (span : Span) _. x)
    (by_test p (b == 0xE4) (Layouts.whole (r.RepeatRelocate times)) _ x tt)

start-granted : (p : SpelledRecord) (o : Option ℕ) → Grants p (Layouts.start_by_bracket o)
start-granted p None = λ (v : Span) x. x
start-granted p (Some b) = λ (v : Span) x (c : ℕ) _. by_test p (c == Layouts.partner b) (Layouts.whole (r.Start v)) _ x tt

comma-granted : (p : SpelledRecord) (b : ℕ) (v : Span) (c : Option ℕ) → IsBoundedTree (tree_in p v) → Grants p (Layouts.item_by_comma b v c)
comma-granted p b v None x = λ (e : ℕ) _. by_test p (e == Layouts.partner b) (Layouts.whole (r.FieldItem (Layouts.kind_of b) v None)) _ x tt
comma-granted p b v (Some c) x = λ (k : ℕ) _ (e : ℕ) _. by_test p (e == Layouts.partner b)
    (Layouts.whole (r.FieldItem (Layouts.kind_of b) v (Some k))) _ x tt

size-granted : (p : SpelledRecord) (b : ℕ) (s : ValueOf sized_expression) → IsBoundedTree (tree_in p s.0) → Grants p (Layouts.item_by_size b s.0 s.1)
size-granted p b (v, None) x = λ (c : Option ℕ) _. comma-granted p b v c x
size-granted p b (v, Some last) x = λ (e : ℕ) _. by_test p (e == Layouts.partner b)
    (Layouts.whole (r.FieldItem (Layouts.kind_without_comma b last.uses_pc) v (Some last.size))) _ x tt

gnu-granted : (p : SpelledRecord) (o : Option ℕ) → Grants p (Layouts.gnu_item_by_bracket o)
gnu-granted p None = λ (n : ℕ) _ (span : Span) _. tt
gnu-granted p (Some b) = λ (e : ValueOf sized_expression) x. size-granted p b e x

bracket-granted : (p : SpelledRecord) (o : Option ℕ) → Grants p (Layouts.item_by_bracket o)
bracket-granted p None = λ (n : ℕ) _ (span : Span) _. tt
bracket-granted p (Some b) = λ (v : Span) x (c : Option ℕ) _. comma-granted p b v c x

block-granted : (p : SpelledRecord) → Grants p Layouts.block_begin
block-granted p = λ (kind : ℕ) _ (n : ℕ) _ (name : Span) _.
    by_test p (kind == 3) (Layouts.whole (r.BlockBegin kind n name tail.Module)) _ tt
    (by_test p (kind == 5) (Layouts.source_begin kind n name) _ (λ (ns : ValueOf (numbers 6)) x. x)
    (by_test p (kind == 11) (Layouts.section_begin kind n name) _ (λ (a : ℕ) x (b : ℕ) _ (v : Span) y. (x, y))
    (λ (a : ℕ) x (b : ℕ) y (v : Span) z. (x, y, z))))

note-made : (t a : ℕ) (ns : ValueOf (numbers 4)) → IsNumber t → IsNumber a → (length ns.items ≤ 4) × All IsNumber ns.items → IsMadeNote (note_of t a ns)
note-made t a ns x y z = record { type_index = x; attribute = y; few = z.0; numbers = z.1 }

assignment-granted : (p : SpelledRecord) (b : ℕ) → Grants p (Layouts.assignment b)
assignment-granted p b =
    by_test p (b == 0xD7) Layouts.offset _ (λ (n : ℕ) _ (v : ℕ) _. tt)
    (by_test p (b == 0xD3) (Layouts.index_and_number r.SectionSize) _ (λ (i : ℕ) _ (n : ℕ) x. x)
    (by_test p (b == 0xCC) (Layouts.index_and_number r.SectionBase) _ (λ (i : ℕ) _ (n : ℕ) x. x)
    (by_test p (b == 0xC9) (Layouts.index_and_expression r.PublicValue) _ (λ (i : ℕ) _ (v : Span) x. x)
    (by_test p (b == 0xCE) (Layouts.index_and_expression r.DebugValue) _ (λ (i : ℕ) _ (v : Span) x. x)
    (by_test p (b == 0xD0) (Layouts.index_and_expression r.SetPc) _ (λ (i : ℕ) _ (v : Span) x. x)
    (by_test p (b == 0xC7) Layouts.start_address _ (λ (o : Option ℕ) _. start-granted p o)
    (by_test p (is_one_of Layouts.left_out_assignments b) _ _ tt tt)))))))

noted-granted : (p : SpelledRecord) (b : ℕ) → Grants p (Layouts.noted b)
noted-granted p b =
    by_test p (b == 0xC9) (Layouts.note r.PublicNote) _ (λ (i : ℕ) _ (t : ℕ) x (a : ℕ) y (ns : ValueOf (numbers 4)) z. note-made t a ns x y z)
    (by_test p (b == 0xD8) (Layouts.note r.ReferenceNote) _ (λ (i : ℕ) _ (t : ℕ) x (a : ℕ) y (ns : ValueOf (numbers 4)) z. note-made t a ns x y z)
    (by_test p (b == 0xCE) Layouts.debug_note _ (λ (i : ℕ) _ (t : ℕ) x (a : ℕ) y (ns : ValueOf (numbers 4)) z. note-made t a ns x y z) tt))

coded-granted : (p : SpelledRecord) (b : ℕ) → Grants p (Layouts.coded b)
coded-granted p b =
    by_test p (b == 0xE0) Layouts.module_begin _ (λ (processor : Span) _ (name : Span) _. tt)
    (by_test p (b == 0xE1) (Layouts.whole r.ModuleEnd) _ tt
    (by_test p (b == 0xE2) Layouts.assigned _ (λ (c : ℕ) _. assignment-granted p c)
    (by_test p (b == 0xE4) (Layouts.whole r.Relocate) _ tt
    (by_test p (b == 0xE5) Layouts.set_section _ (λ (i : ℕ) _. tt)
    (by_test p (b == 0xE6) Layouts.section_type _ (section-granted p)
    (by_test p (b == 0xE7) Layouts.alignment _ (λ (i : ℕ) _ (n : ℕ) x (o : Option ℕ) _. x)
    (by_test p (b == 0xE8) (Layouts.index_and_string r.PublicName) _ (λ (i : ℕ) _ (name : Span) _. tt)
    (by_test p (b == 0xE9) (Layouts.index_and_string r.ReferenceName) _ (λ (i : ℕ) _ (name : Span) _. tt)
    (by_test p (b == 0xEC) Layouts.descriptor _ (λ (bits : ℕ) _ (maus : ℕ) _ (order : Option ℕ) _. tt)
    (by_test p (b == 0xED) (Layouts.constant r.Constant) _ (λ (n : ℕ) _ (span : Span) _. tt)
    (by_test p (b == 0xF0) (Layouts.index_and_string r.DebugName) _ (λ (i : ℕ) _ (name : Span) _. tt)
    (by_test p (b == 0xF1) Layouts.any_note _ (λ (c : ℕ) _. noted-granted p c)
    (by_test p (b == 0xF2) _ _ tt
    (by_test p (b == 0xF4) Layouts.weak_reference _ (λ (i : ℕ) _ (n : ℕ) x (o : Option ℕ) y. (x, y))
    (by_test p (b == 0xF7) Layouts.repeat _ (repeat-granted p)
    (by_test p (b == 0xF8) Layouts.block_begin _ (block-granted p)
    (by_test p (b == 0xF9) Layouts.block_end _ (λ (o : Option Span) x. x) tt)))))))))))))))))

item-bounded : (gnu : Bool) (p : SpelledRecord) (next : Option ℕ) → Layouts.IsWholeRecord (cond gnu mode.GnuItems mode.Items) p.row p.bytes next
    → IsBoundedRow p p.row
item-bounded true p next is = granted p Layouts.gnu_item next is (λ (o : Option ℕ) _. gnu-granted p o)
item-bounded false p next is = granted p Layouts.item next is (λ (o : Option ℕ) _. bracket-granted p o)

-- a record after the header, or an item
pub row-bounded : (options : ReadOptions) (p : SpelledRecord) (items : Bool) (next : Option ℕ)
    → Layouts.IsWholeRecord (mode_of options items p.bytes) p.row p.bytes next → IsBoundedRow p p.row
row-bounded options p items next is = by_mode (items && begins_item p.bytes) is where
  by_mode : (b : Bool) → Layouts.IsWholeRecord (cond b (items_mode options) mode.Body) p.row p.bytes next → IsBoundedRow p p.row
  by_mode true is = item-bounded options.gnu p next is
  by_mode false is = granted p Layouts.body next is (λ (b : ℕ) _. coded-granted p b)

-- a string or a run of a record consists of bytes
pub text-bytes : (p : SpelledRecord) (span : Span) → AreBytes p.bytes → AreBytes (text_in p span)
text-bytes p span are = AreBytes-take (span.start + span.len - span.start) (drop span.start p.bytes) (AreBytes-drop span.start p.bytes are)
