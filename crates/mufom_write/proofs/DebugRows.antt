-- The records of blocks in a written form.
use Rattle.std.proofs.Common.{◌≡◌, ℕ, ◌+◌, ◌^◌, ◌<◌, ◌≤◌, List, [], ◌∷◌, ◌++◌, length, Option, Some, None, true, false, inl, refl, sym, subst, arith}
use Rattle.std.specs.List.{AllByRecursion}
use Rattle.std.proofs.lemmas.List.{append-nil}
use Rattle.mufom_numbers.specs.Spelling.{AreBytes}
use Rattle.mufom_numbers.specs.declared.taken.Span.{Span}
use Rattle.mufom_expr.specs.Tree.{Tree}
use Rattle.mufom_expr.specs.Spelled.{SpellsTree}
use Rattle.mufom_records.specs.declared.record.Record.TheVariants as r
use Rattle.mufom_records.specs.declared.record.BlockTail.{BlockTail}
use Rattle.mufom_records.specs.declared.record.BlockTail.TheVariants as tail
use Rattle.mufom_records.specs.Fields.{span_at, is_one_of, first_of}
use Rattle.mufom_records.specs.Layouts.{block_kinds, block_by_kind, scope_begin, SpellsRecord}
use Rattle.mufom_debug.specs.declared.item.BlockHead.{BlockHead}
use Rattle.mufom_debug.specs.declared.item.BlockHead.TheVariants as heads
use Rattle.mufom_debug.specs.Marks.{kind_number, block_begin}
use Rattle.mufom_module.specs.Written.{shortest, section_index}
use Rattle.mufom_module.specs.Written as w
use Rattle.mufom_module.specs.Defects.{is_long}
use Rattle.mufom_write.proofs.Rows.{IsCode, IsWhole, stops-number, stops-token, spells, spells_index, spells_numbers, spells_string, spells_expression, text_at}

-- the place of what the kind of a block adds, after its name
abbrev pub tail_place : List ℕ → ℕ
tail_place name = 3 + length (w.string shortest name)

-- the place of the offset of a block, after two numbers
abbrev pub offset_at : List ℕ → ℕ → ℕ → Tree → Span
offset_at name a b offset = span_at (tail_place name + length (w.number shortest a) + length (w.number shortest b)) (length (w.expression shortest offset))

-- what the kind of a block adds, as a record has it
abbrev pub tail_for : List ℕ → BlockHead → BlockTail
tail_for name heads.Module = tail.Module
tail_for name (heads.Global stack type_index offset) = tail.Scope stack type_index (offset_at name stack type_index offset)
tail_for name (heads.Source numbers) = tail.Source numbers
tail_for name (heads.Local stack type_index offset) = tail.Scope stack type_index (offset_at name stack type_index offset)
tail_for name (heads.Section section_type section offset) =
    tail.Section section_type (section_index section) (offset_at name section_type (section_index section) offset)

-- an expression that the bytes of the form spell
abbrev pub IsSpelled : Tree → Type 0
IsSpelled value = (tree : Tree) × SpellsTree tree (w.expression shortest value)

-- what the numbers and the offset of a block keep to
abbrev pub IsSpelledHead : BlockHead → Type 0
IsSpelledHead heads.Module = Unit {0}
IsSpelledHead (heads.Global stack type_index offset) = (stack < 2 ^ 64) × (type_index < 2 ^ 64) × IsSpelled offset
IsSpelledHead (heads.Source numbers) = (length numbers.items ≤ 6) × AllByRecursion (λ n. n < 2 ^ 64) numbers.items
IsSpelledHead (heads.Local stack type_index offset) = (stack < 2 ^ 64) × (type_index < 2 ^ 64) × IsSpelled offset
IsSpelledHead (heads.Section section_type section offset) = (section_type < 2 ^ 64) × (section_index section < 2 ^ 32) × IsSpelled offset

scope-spells : (kind : ℕ) (name : List ℕ) (stack type_index : ℕ) (offset : Tree) (next : Option ℕ) → stack < 2 ^ 64 → type_index < 2 ^ 64
    → IsSpelled offset → IsCode next
    → SpellsRecord (scope_begin kind 0 (text_at 3 name)) (r.BlockBegin kind 0 (text_at 3 name)
    (tail.Scope stack type_index (offset_at name stack type_index offset))) (tail_place name)
    (w.number shortest stack ++ (w.number shortest type_index ++ w.expression shortest offset)) next
scope-spells kind name stack type_index offset next hs ht spelled code = (
  stack,
  w.number shortest stack,
  w.number shortest type_index ++ w.expression shortest offset,
  (spells stack hs, refl),
  (
    type_index,
    w.number shortest type_index,
    w.expression shortest offset,
    (spells type_index ht, refl),
    (
      offset_at name stack type_index offset,
      w.expression shortest offset,
      [],
      spells_expression spelled.0 (w.expression shortest offset)
          (tail_place name + length (w.number shortest stack) + length (w.number shortest type_index)) next spelled.1 (stops-token next code),
      (refl, refl),
      sym (append-nil (w.expression shortest offset)),
    ),
    refl,
  ),
  refl,
)

head-spells : (head : BlockHead) (name : List ℕ) (next : Option ℕ) → IsSpelledHead head → IsCode next
    → SpellsRecord (block_by_kind (kind_number head) 0 (text_at 3 name)) (r.BlockBegin (kind_number head) 0 (text_at 3 name) (tail_for name head))
    (tail_place name) (w.head_fields shortest head) next
head-spells heads.Module name next spelled code = (refl, refl)
head-spells (heads.Global stack type_index offset) name next spelled code = scope-spells 4 name stack type_index offset next spelled.0 spelled.1 spelled.2 code
head-spells (heads.Source numbers) name next spelled code = (
  numbers,
  w.numbers shortest numbers.items,
  [],
  (spells_numbers 0 numbers.items spelled.1, spelled.0, λ _. stops-number next code),
  (refl, refl),
  sym (append-nil (w.numbers shortest numbers.items)),
)
head-spells (heads.Local stack type_index offset) name next spelled code = scope-spells 6 name stack type_index offset next spelled.0 spelled.1 spelled.2 code
head-spells (heads.Section section_type section offset) name next spelled code = (
  section_type,
  w.number shortest section_type,
  w.number shortest (section_index section) ++ w.expression shortest offset,
  (spells section_type spelled.0, refl),
  (
    section_index section,
    w.number shortest (section_index section),
    w.expression shortest offset,
    spells_index (section_index section) spelled.1,
    (
      offset_at name section_type (section_index section) offset,
      w.expression shortest offset,
      [],
      spells_expression spelled.2.0 (w.expression shortest offset)
          (tail_place name + length (w.number shortest section_type) + length (w.number shortest (section_index section))) next spelled.2.1
          (stops-token next code),
      (refl, refl),
      sym (append-nil (w.expression shortest offset)),
    ),
    refl,
  ),
  refl,
)

-- BB, of a kind whose number is one byte
block-whole : (kind : ℕ) (head : BlockHead) (name : List ℕ) → kind < 128 → kind ≡ kind_number head → is_one_of block_kinds kind ≡ true → is_long name
    ≡ false → AreBytes name → IsSpelledHead head
    → IsWhole (r.BlockBegin kind 0 (text_at 3 name) (tail_for name head)) (0xF8 ∷ kind ∷ 0 ∷ (w.string shortest name ++ w.head_fields shortest head))
block-whole kind head name small is known short bytes spelled next code = (
  0xF8,
  0xF8 ∷ [],
  kind ∷ 0 ∷ (w.string shortest name ++ w.head_fields shortest head),
  refl,
  (
    kind,
    kind ∷ [],
    0 ∷ (w.string shortest name ++ w.head_fields shortest head),
    (inl (small, refl, refl), known),
    (
      0,
      0 ∷ [],
      w.string shortest name ++ w.head_fields shortest head,
      (inl (omega arith, refl, refl), refl),
      (
        text_at 3 name,
        w.string shortest name,
        w.head_fields shortest head,
        spells_string name 3 (first_of (w.head_fields shortest head) next) short bytes,
        subst (λ (k : ℕ). SpellsRecord (block_by_kind k 0 (text_at 3 name)) (r.BlockBegin k 0 (text_at 3 name) (tail_for name head)) (tail_place name)
            (w.head_fields shortest head) next) (sym is) (head-spells head name next spelled code),
        refl,
      ),
      refl,
    ),
    refl,
  ),
  refl,
)

-- BB
pub block_begin-whole : (n : ℕ) (head : BlockHead) (name : List ℕ) → is_long name ≡ false → AreBytes name → IsSpelledHead head
    → IsWhole (r.BlockBegin (kind_number head) 0 (text_at 3 name) (tail_for name head)) (w.debug_record shortest n (block_begin head name))
block_begin-whole n heads.Module name short bytes spelled = block-whole 3 heads.Module name (omega arith) refl refl short bytes spelled
block_begin-whole n (heads.Global stack type_index offset) name short bytes spelled =
    block-whole 4 (heads.Global stack type_index offset) name (omega arith) refl refl short bytes spelled
block_begin-whole n (heads.Source numbers) name short bytes spelled = block-whole 5 (heads.Source numbers) name (omega arith) refl refl short bytes spelled
block_begin-whole n (heads.Local stack type_index offset) name short bytes spelled =
    block-whole 6 (heads.Local stack type_index offset) name (omega arith) refl refl short bytes spelled
block_begin-whole n (heads.Section section_type section offset) name short bytes spelled =
    block-whole 11 (heads.Section section_type section offset) name (omega arith) refl refl short bytes spelled

-- ---- BE

-- the expression of an end, as a record has it
abbrev pub end_for : Option Tree → Option Span
end_for None = None
end_for (Some value) = Some (span_at 1 (length (w.expression shortest value)))

-- it is spelled, if there is one
abbrev pub IsSpelledEnd : Option Tree → Type 0
IsSpelledEnd None = Unit {0}
IsSpelledEnd (Some value) = IsSpelled value

pub block_end-whole : (value : Option Tree) → IsSpelledEnd value → IsWhole (r.BlockEnd (end_for value)) (0xF9 ∷ w.end_expression shortest value)
block_end-whole None spelled next code = (0xF9, 0xF9 ∷ [], [], refl, (None, [], [], (refl, stops-token next code), (refl, refl), refl), refl)
block_end-whole (Some value) spelled next code = (
  0xF9,
  0xF9 ∷ [],
  w.expression shortest value,
  refl,
  (
    Some (span_at 1 (length (w.expression shortest value))),
    w.expression shortest value,
    [],
    spells_expression spelled.0 (w.expression shortest value) 1 next spelled.1 (stops-token next code),
    (refl, refl),
    sym (append-nil (w.expression shortest value)),
  ),
  refl,
)
