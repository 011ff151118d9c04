-- The bytes with which records and items begin.
use Rattle.std.proofs.Common.{◌≡◌, ℕ, ◌+◌, ◌≤◌, Bool, true, false, cond, ◌==◌, nat_le, List, [], ◌∷◌, ◌++◌, length, Option, Some, None, refl, ap, ◌∙◌}
use Rattle.std.proofs.Common.{arith, eqb-true}
use Rattle.std.proofs.lemmas.Bool.{or_left, or_right, or_from}
use Rattle.mufom_expr.specs.TokenAt.{begins_number}
use Rattle.mufom_numbers.specs.declared.reason.Reason.TheVariants as why
use Rattle.mufom_records.specs.declared.record.Mode.TheVariants as mode
use Rattle.mufom_records.specs.declared.record.Record.{Record}
use Rattle.mufom_records.specs.declared.record.Record.TheVariants as r
use Rattle.mufom_records.specs.Fields.{ValueOf}
use Rattle.mufom_records.specs.Layouts
use Rattle.mufom_records.proofs.NumberLaws.{number_first}
use Rattle.mufom_module.specs.RecordParts.{begins_item, items_mode}
use Rattle.mufom_judging.proofs.ended.Rows.{Promises, promised, by_test}
use Rattle.mufom_records.specs.declared.options.ReadOptions.{ReadOptions}

-- ---- records

-- what is true holds of each record of a layout
always : (X : Type 0) → X → (layout : Layouts.Layout) → Promises (λ (_ : Record). X) layout
always X x (Layouts.whole row) = x
always X x (Layouts.refused back reason) = tt
always X x (Layouts.field f rest) = λ (v : ValueOf f) _. always X x (rest v)

-- one code, and what another byte is
by_code : (b code : ℕ) (layout others : Layouts.Layout) → 0xE0 ≤ code → Promises (λ (_ : Record). 0xE0 ≤ b) others
    → Promises (λ (_ : Record). 0xE0 ≤ b) (cond (b == code) layout others)
by_code b code layout others low rest = by_test (λ (_ : Record). 0xE0 ≤ b) (b == code) layout others
    (λ same. always (0xE0 ≤ b) (let e = eqb-true b code same in omega arith) layout) (λ _. rest)

-- the codes are E0 and above
coded_high : (b : ℕ) → Promises (λ (_ : Record). 0xE0 ≤ b) (Layouts.coded b)
coded_high b =
    let t18 = Layouts.refused 1 why.BadRecord in
    let t17 = cond (b == 0xF9) Layouts.block_end t18 in
    let t16 = cond (b == 0xF8) Layouts.block_begin t17 in
    let t15 = cond (b == 0xF7) Layouts.repeat t16 in
    let t14 = cond (b == 0xF4) Layouts.weak_reference t15 in
    let t13 = cond (b == 0xF2) (Layouts.refused 1 why.UnsupportedRecord) t14 in
    let t12 = cond (b == 0xF1) Layouts.any_note t13 in
    let t11 = cond (b == 0xF0) (Layouts.index_and_string r.DebugName) t12 in
    let t10 = cond (b == 0xED) (Layouts.constant r.Constant) t11 in
    let t9 = cond (b == 0xEC) Layouts.descriptor t10 in
    let t8 = cond (b == 0xE9) (Layouts.index_and_string r.ReferenceName) t9 in
    let t7 = cond (b == 0xE8) (Layouts.index_and_string r.PublicName) t8 in
    let t6 = cond (b == 0xE7) Layouts.alignment t7 in
    let t5 = cond (b == 0xE6) Layouts.section_type t6 in
    let t4 = cond (b == 0xE5) Layouts.set_section t5 in
    let t3 = cond (b == 0xE4) (Layouts.whole r.Relocate) t4 in
    let t2 = cond (b == 0xE2) Layouts.assigned t3 in
    let t1 = cond (b == 0xE1) (Layouts.whole r.ModuleEnd) t2 in
    (by_code b 0xE0 Layouts.module_begin t1 (omega arith)
    (by_code b 0xE1 (Layouts.whole r.ModuleEnd) t2 (omega arith)
    (by_code b 0xE2 Layouts.assigned t3 (omega arith)
    (by_code b 0xE4 (Layouts.whole r.Relocate) t4 (omega arith)
    (by_code b 0xE5 Layouts.set_section t5 (omega arith)
    (by_code b 0xE6 Layouts.section_type t6 (omega arith)
    (by_code b 0xE7 Layouts.alignment t7 (omega arith)
    (by_code b 0xE8 (Layouts.index_and_string r.PublicName) t8 (omega arith)
    (by_code b 0xE9 (Layouts.index_and_string r.ReferenceName) t9 (omega arith)
    (by_code b 0xEC Layouts.descriptor t10 (omega arith)
    (by_code b 0xED (Layouts.constant r.Constant) t11 (omega arith)
    (by_code b 0xF0 (Layouts.index_and_string r.DebugName) t12 (omega arith)
    (by_code b 0xF1 Layouts.any_note t13 (omega arith)
    (by_code b 0xF2 (Layouts.refused 1 why.UnsupportedRecord) t14 (omega arith)
    (by_code b 0xF4 Layouts.weak_reference t15 (omega arith)
    (by_code b 0xF7 Layouts.repeat t16 (omega arith)
    (by_code b 0xF8 Layouts.block_begin t17 (omega arith)
    (by_code b 0xF9 Layouts.block_end t18 (omega arith) tt))))))))))))))))))

no_item : (b : ℕ) (bytes : List ℕ) → 0xE0 ≤ b → begins_item (b ∷ bytes) ≡ false
no_item b bytes h =
    let number : nat_le b 0x88 ≡ false = grind arith in
    let first : (0xBA == b) ≡ false = grind arith in
    let second : (0xBC == b) ≡ false = grind arith in
    let third : (0xBE == b) ≡ false = grind arith in
    or_from _ _ number (or_from _ _ first (or_from _ _ second (or_from _ _ third refl)))

-- no record except an item begins as an item does
pub body_begins : (row : Record) (bytes : List ℕ) (next : Option ℕ) → Layouts.IsWholeRecord mode.Body row bytes next → begins_item bytes ≡ false
body_begins row bytes next (b, prefix, back, first, others, split) =
    let low : 0xE0 ≤ b = promised (λ (_ : Record). 0xE0 ≤ b) (Layouts.coded b) row (0 + _) back next others (coded_high b) in
    ap begins_item (split ∙ ap (λ l. l ++ back) first) ∙ no_item b back low

-- ---- items

number_begins : (n : ℕ) (prefix back : List ℕ) (more : (b : ℕ) × (rest : List ℕ) × (prefix ≡ b ∷ rest) × (begins_number b ≡ true))
    → begins_item (prefix ++ back) ≡ true
number_begins n prefix back (b, rest, same, begins) = ap (λ l. begins_item (l ++ back)) same ∙ or_left (begins_number b) _ begins

-- an item begins with a number or an opening bracket
pub items_begin : (gnu : Bool) (row : Record) (bytes : List ℕ) (next : Option ℕ)
    → Layouts.IsWholeRecord (cond gnu mode.GnuItems mode.Items) row bytes next → begins_item bytes ≡ true
items_begin true row bytes next (None, prefix, back, first, (n, count, rest, spelled, others, parts), split) =
    ap begins_item (split ∙ (λ i. first.0 i ++ parts i)) ∙ number_begins n count rest (number_first n count spelled.0)
items_begin true row bytes next (Some b, prefix, back, first, others, split) =
    ap begins_item (split ∙ ap (λ l. l ++ back) first.0) ∙ or_right (begins_number b) _ first.1
items_begin false row bytes next (None, prefix, back, first, (n, count, rest, spelled, others, parts), split) =
    ap begins_item (split ∙ (λ i. first.0 i ++ parts i)) ∙ number_begins n count rest (number_first n count spelled.0)
items_begin false row bytes next (Some b, prefix, back, first, others, split) =
    ap begins_item (split ∙ ap (λ l. l ++ back) first.0) ∙ or_right (begins_number b) _ first.1

-- ---- no record is empty

body_some : (row : Record) (bytes : List ℕ) (next : Option ℕ) → Layouts.IsWholeRecord mode.Body row bytes next → 1 ≤ length bytes
body_some row bytes next (b, prefix, back, first, others, split) = let e = ap length (split ∙ ap (λ l. l ++ back) first) in omega arith

item_some : (bytes : List ℕ) → begins_item bytes ≡ true → 1 ≤ length bytes
item_some [] h = cc
item_some (b ∷ bytes) h = omega arith

pub record_some : (options : ReadOptions) (test : Bool) (row : Record) (bytes : List ℕ) (next : Option ℕ)
    → Layouts.IsWholeRecord (cond test (items_mode options) mode.Body) row bytes next → 1 ≤ length bytes
record_some options true row bytes next is = item_some bytes (items_begin options.gnu row bytes next is)
record_some options false row bytes next is = body_some row bytes next is

-- bytes after a record do not change what it begins with
pub begins_grown : (bytes rest : List ℕ) → 1 ≤ length bytes → begins_item (bytes ++ rest) ≡ begins_item bytes
begins_grown [] rest some = absurd (omega arith)
begins_grown (b ∷ bytes) rest some = refl
