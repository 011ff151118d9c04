-- The records and items of loads, and of the start, in a written form.
use Rattle.std.proofs.Common.{◌≡◌, ℕ, ◌+◌, ◌^◌, ◌<◌, true, false, nat_lt, nat_le, ◌&&◌, ◌||◌, ◌==◌, List, [], ◌∷◌, ◌++◌, length, Option, Some, None}
use Rattle.std.proofs.Common.{refl, sym, ap, ◌∙◌, arith}
use Rattle.std.proofs.lemmas.List.{append-nil}
use Rattle.std.proofs.lemmas.Bool.{le-leb, ltb-false}
use Rattle.mufom_numbers.specs.declared.limits.TheConstants.{MOST_STRING_BYTES}
use Rattle.mufom_numbers.specs.Spelling.{AreBytes, SpellsNumber}
use Rattle.mufom_numbers.specs.declared.taken.Span.{Span}
use Rattle.mufom_expr.specs.declared.token.FieldKind.{FieldKind}
use Rattle.mufom_expr.specs.declared.token.FieldKind.TheVariants.{Signed, Unsigned, Either}
use Rattle.mufom_expr.specs.Tree.{Tree}
use Rattle.mufom_expr.specs.Spelled.{SpellsTree}
use Rattle.mufom_expr.specs.TokenAt.{begins_number}
use Rattle.mufom_records.specs.declared.record.Mode.TheVariants as mode
use Rattle.mufom_records.specs.declared.record.Record.{Record}
use Rattle.mufom_records.specs.declared.record.Record.TheVariants as r
use Rattle.mufom_records.specs.Fields.{span_at, is_one_of, Stops, first_of}
use Rattle.mufom_records.specs.Layouts.{whole, comma, opening_brackets, kind_of, closed_by, constant, SpellsRecord, IsWholeRecord}
use Rattle.mufom_records.proofs.NumberLaws.{number_first}
use Rattle.mufom_module.specs.Written.{shortest}
use Rattle.mufom_module.specs.Written as w
use Rattle.mufom_module.specs.Defects.{is_long}
use Rattle.mufom_write.proofs.Rows.{IsWhole, spells, spells_index, spells_expression}

-- SB
pub set_section-whole : (i : ℕ) → i < 2 ^ 32 → IsWhole (r.SetSection i) (0xE5 ∷ w.number shortest i)
set_section-whole i hi next code =
    (0xE5, 0xE5 ∷ [], w.number shortest i, refl, (i, w.number shortest i, [], spells_index i hi, (refl, refl), sym (append-nil (w.number shortest i))), refl)

count-fits : (n : ℕ) → nat_lt MOST_STRING_BYTES n ≡ false → (n < 2 ^ 64) × (nat_le n MOST_STRING_BYTES ≡ true)
count-fits n short = let few = ltb-false MOST_STRING_BYTES n short in (omega (arith, few), le-leb n MOST_STRING_BYTES (omega (arith, few)))

-- the place of the bytes of a run after their count, which begins at a place
abbrev pub run_at : ℕ → List ℕ → Span
run_at at bytes = span_at (at + length (w.number shortest (length bytes))) (length bytes)

constant-spells : (row : Span → Record) (bytes : List ℕ) (at : ℕ) (next : Option ℕ) → is_long bytes ≡ false → AreBytes bytes
    → SpellsRecord (constant row) (row (run_at at bytes)) at (w.counted shortest bytes) next
constant-spells row bytes at next short are =
    let fits = count-fits (length bytes) short in (
      length bytes,
      w.number shortest (length bytes),
      bytes,
      (spells (length bytes) fits.0, fits.1),
      (run_at at bytes, bytes, [], (refl, are, refl), (refl, refl), sym (append-nil bytes)),
      refl,
    )

-- LD
pub constant-whole : (bytes : List ℕ) → is_long bytes ≡ false → AreBytes bytes → IsWhole (r.Constant (run_at 1 bytes)) (0xED ∷ w.counted shortest bytes)
constant-whole bytes short are next code = (0xED, 0xED ∷ [], w.counted shortest bytes, refl, constant-spells r.Constant bytes 1 next short are, refl)

-- LR, whatever follows it
pub relocate-whole : (next : Option ℕ) → IsWholeRecord mode.Body r.Relocate (0xE4 ∷ []) next
relocate-whole next = (0xE4, 0xE4 ∷ [], [], refl, (refl, refl), refl)

-- RE with LD
pub repeat_constant-whole : (count : ℕ) (bytes : List ℕ) → count < 2 ^ 64 → is_long bytes ≡ false → AreBytes bytes
    → IsWhole (r.RepeatConstant count (run_at (1 + length (w.number shortest count) + 1) bytes))
    (0xF7 ∷ (w.number shortest count ++ 0xED ∷ w.counted shortest bytes))
repeat_constant-whole count bytes hc short are next code = (
  0xF7,
  0xF7 ∷ [],
  w.number shortest count ++ 0xED ∷ w.counted shortest bytes,
  refl,
  (
    count,
    w.number shortest count,
    0xED ∷ w.counted shortest bytes,
    (spells count hc, refl),
    (
      0xED,
      0xED ∷ [],
      w.counted shortest bytes,
      refl,
      constant-spells (r.RepeatConstant count) bytes (1 + length (w.number shortest count) + 1) next
          short are,
      refl,
    ),
    refl,
  ),
  refl,
)

-- RE with LR, whatever follows it
pub repeat_relocate-whole : (count : ℕ) → count < 2 ^ 64 → (next : Option ℕ)
    → IsWholeRecord mode.Body (r.RepeatRelocate count) (0xF7 ∷ (w.number shortest count ++ 0xE4 ∷ [])) next
repeat_relocate-whole count hc next = (
  0xF7,
  0xF7 ∷ [],
  w.number shortest count ++ 0xE4 ∷ [],
  refl,
  (count, w.number shortest count, 0xE4 ∷ [], (spells count hc, refl), (0xE4, 0xE4 ∷ [], [], refl, (refl, refl), refl), refl),
  refl,
)

-- ---- items

-- whatever follows it
abbrev pub IsWholeItem : Record → List ℕ → Type 0
IsWholeItem row bytes = (next : Option ℕ) → IsWholeRecord mode.Items row bytes next

no_bracket : (b : ℕ) → begins_number b ≡ true → is_one_of opening_brackets b ≡ false
no_bracket b h = grind arith

number-stops : (n : ℕ) (prefix rest : List ℕ) (next : Option ℕ) → SpellsNumber n prefix → Stops (is_one_of opening_brackets) (first_of (prefix ++ rest) next)
number-stops n [] rest next spelled = absurd spelled
number-stops n (b ∷ prefix) rest next spelled =
    let first = number_first n (b ∷ prefix) spelled in
    let same : b ≡ first.0 = cc in
    no_bracket b (ap begins_number same ∙ first.3)

-- literal bytes
pub constant_item-whole : (bytes : List ℕ) → is_long bytes ≡ false → AreBytes bytes → IsWholeItem (r.ConstantItem (run_at 0 bytes)) (w.counted shortest bytes)
constant_item-whole bytes short are next =
    let fits = count-fits (length bytes) short in (
      None,
      [],
      w.counted shortest bytes,
      (refl, number-stops (length bytes) (w.number shortest (length bytes)) bytes next (spells (length bytes) fits.0)),
      constant-spells r.ConstantItem bytes 0 next short are,
      refl,
    )

size-fits : (size : ℕ) → ((size == 0) || nat_lt 8 size) ≡ false → (nat_le 1 size && nat_le size 8) ≡ true
size-fits size h = grind arith

-- a field in these brackets
bracketed-whole : (bracket close : ℕ) → is_one_of opening_brackets bracket ≡ true
    → ((row : Record) (at : ℕ) (next : Option ℕ) → SpellsRecord (closed_by bracket (whole row)) row at (close ∷ []) next)
    → (tree value : Tree) (size : ℕ) → SpellsTree tree (w.expression shortest value) → size < 2 ^ 64 → ((size == 0) || nat_lt 8 size) ≡ false
    → IsWholeItem (r.FieldItem (kind_of bracket) (span_at 1 (length (w.expression shortest value))) (Some size))
    (bracket ∷ (w.expression shortest value ++ (comma ∷ (w.number shortest size ++ close ∷ []))))
bracketed-whole bracket close opens closes tree value size spelled fits good next =
    let text = w.expression shortest value in
    let span = span_at 1 (length text) in (
      Some bracket,
      bracket ∷ [],
      text ++ (comma ∷ (w.number shortest size ++ close ∷ [])),
      (refl, opens),
      (
        span,
        text,
        comma ∷ (w.number shortest size ++ close ∷ []),
        spells_expression tree text 1 (Some comma) spelled refl,
        (
          Some comma,
          comma ∷ [],
          w.number shortest size ++ close ∷ [],
          (refl, refl),
          (
            size,
            w.number shortest size,
            close ∷ [],
            (spells size fits, size-fits size good),
            closes (r.FieldItem (kind_of bracket) span (Some size)) (1 + length text + 1 + length (w.number shortest size)) next,
            refl,
          ),
          refl,
        ),
        refl,
      ),
      refl,
    )

-- a field
pub field-whole : (kind : FieldKind) (tree : Tree) (value : Tree) (size : ℕ) → SpellsTree tree (w.expression shortest value) → size < 2 ^ 64
    → ((size == 0) || nat_lt 8 size) ≡ false
    → IsWholeItem (r.FieldItem kind (span_at 1 (length (w.expression shortest value))) (Some size)) (w.field shortest kind value size)
field-whole Signed = bracketed-whole 0xBA 0xBB refl (λ row at next. (0xBB, 0xBB ∷ [], [], refl, (refl, refl), refl))
field-whole Unsigned = bracketed-whole 0xBC 0xBD refl (λ row at next. (0xBD, 0xBD ∷ [], [], refl, (refl, refl), refl))
field-whole Either = bracketed-whole 0xBE 0xBF refl (λ row at next. (0xBF, 0xBF ∷ [], [], refl, (refl, refl), refl))

-- ---- the start

-- ASG
pub start-whole : (tree : Tree) (value : Tree) → SpellsTree tree (w.expression shortest value)
    → IsWhole (r.Start (span_at 3 (length (w.expression shortest value)))) (w.start shortest (Some value))
start-whole tree value spelled next code = (
  0xE2,
  0xE2 ∷ [],
  0xC7 ∷ 0xBE ∷ (w.expression shortest value ++ 0xBF ∷ []),
  refl,
  (
    0xC7,
    0xC7 ∷ [],
    0xBE ∷ (w.expression shortest value ++ 0xBF ∷ []),
    refl,
    (
      Some 0xBE,
      0xBE ∷ [],
      w.expression shortest value ++ 0xBF ∷ [],
      (refl, refl),
      (
        span_at 3 (length (w.expression shortest value)),
        w.expression shortest value,
        0xBF ∷ [],
        spells_expression tree (w.expression shortest value) 3 (Some 0xBF) spelled refl,
        (0xBF, 0xBF ∷ [], [], refl, (refl, refl), refl),
        refl,
      ),
      refl,
    ),
    refl,
  ),
  refl,
)
