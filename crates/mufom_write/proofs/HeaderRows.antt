-- The records of the header of a written form.
use Rattle.std.proofs.Common.{◌≡◌, ℕ, ◌+◌, ◌^◌, ◌<◌, false, List, [], ◌∷◌, ◌++◌, length, Option, Some, refl, sym, inr, arith}
use Rattle.std.specs.Int.{w32, to_be_bytes}
use Rattle.std.proofs.lemmas.List.{append-nil}
use Rattle.std.proofs.lemmas.Bool.{eq-eqb}
use Rattle.std.proofs.lemmas.Nat.{from_be_bytes-to_be_bytes_4}
use Rattle.mufom_numbers.specs.Spelling.{AreBytes, SpellsNumber}
use Rattle.mufom_numbers.specs.declared.taken.Span.{Span}
use Rattle.mufom_records.specs.declared.record.Mode.TheVariants as mode
use Rattle.mufom_records.specs.declared.record.Record.TheVariants as r
use Rattle.mufom_records.specs.Fields.{first_of}
use Rattle.mufom_records.specs.Layouts.{IsWholeRecord}
use Rattle.mufom_module.specs.declared.module.Order.{Order}
use Rattle.mufom_module.specs.declared.module.Order.TheVariants.{Least, Most}
use Rattle.mufom_module.specs.Written.{shortest}
use Rattle.mufom_module.specs.Written as w
use Rattle.mufom_module.specs.Defects.{is_long}
use Rattle.mufom_write.proofs.Rows.{spells, spells_string, text_at}

-- the place of the module's name, after the processor
abbrev pub module_name_at : List ℕ → List ℕ → Span
module_name_at processor name = text_at (1 + length (w.string shortest processor)) name

-- MB
pub begin-whole : (processor name : List ℕ) (next : Option ℕ) → is_long processor ≡ false → AreBytes processor → is_long name ≡ false → AreBytes name
    → IsWholeRecord mode.Begin (r.ModuleBegin (text_at 1 processor) (module_name_at processor name))
    (0xE0 ∷ (w.string shortest processor ++ w.string shortest name)) next
begin-whole processor name next hp bp hn bn = (
  0xE0,
  0xE0 ∷ [],
  w.string shortest processor ++ w.string shortest name,
  refl,
  (
    text_at 1 processor,
    w.string shortest processor,
    w.string shortest name,
    spells_string processor 1 (first_of (w.string shortest name) next) hp bp,
    (
      module_name_at processor name,
      w.string shortest name,
      [],
      spells_string name (1 + length (w.string shortest processor)) next hn bn,
      (refl, refl),
      sym (append-nil (w.string shortest name)),
    ),
    refl,
  ),
  refl,
)

order-whole : (maus : ℕ) (order : Order) (next : Option ℕ) → maus < 2 ^ 64
    → IsWholeRecord mode.Descriptor (r.Descriptor 8 maus (Some (w.order_letter order))) (0xEC ∷ 8 ∷ (w.number shortest maus ++ w.order_letter order ∷ [])) next
order-whole maus Least next hm = (
  0xEC,
  0xEC ∷ [],
  8 ∷ (w.number shortest maus ++ 0xCC ∷ []),
  refl,
  (
    8,
    8 ∷ [],
    w.number shortest maus ++ 0xCC ∷ [],
    (spells 8 (omega arith), refl),
    (maus, w.number shortest maus, 0xCC ∷ [], (spells maus hm, refl), (Some 0xCC, 0xCC ∷ [], [], (refl, refl), (refl, refl), refl), refl),
    refl,
  ),
  refl,
)
order-whole maus Most next hm = (
  0xEC,
  0xEC ∷ [],
  8 ∷ (w.number shortest maus ++ 0xCD ∷ []),
  refl,
  (
    8,
    8 ∷ [],
    w.number shortest maus ++ 0xCD ∷ [],
    (spells 8 (omega arith), refl),
    (maus, w.number shortest maus, 0xCD ∷ [], (spells maus hm, refl), (Some 0xCD, 0xCD ∷ [], [], (refl, refl), (refl, refl), refl), refl),
    refl,
  ),
  refl,
)

-- AD
pub descriptor-whole : (maus : ℕ) (order : Order) (next : Option ℕ) → maus < 2 ^ 64
    → IsWholeRecord mode.Descriptor (r.Descriptor 8 maus (Some (w.order_letter order)))
    (0xEC ∷ (w.number shortest 8 ++ (w.number shortest maus ++ w.order_letter order ∷ []))) next
descriptor-whole = order-whole

four_bytes : (n : ℕ) → n < 2 ^ 32 → SpellsNumber n (0x84 ∷ to_be_bytes w32 n)
four_bytes n h = inr (refl, omega arith, (omega arith, (omega arith, (omega arith, (omega arith, tt)))), omega (arith, from_be_bytes-to_be_bytes_4 n h))

-- ASW, in four bytes
pub offset-whole : (k n : ℕ) (next : Option ℕ) → k < 2 ^ 64 → n < 2 ^ 32 → IsWholeRecord (mode.Offset k) (r.Offset k n) (w.offset_record shortest k n) next
offset-whole k n next hk hn = (
  0xE2,
  0xE2 ∷ [],
  0xD7 ∷ (w.number shortest k ++ 0x84 ∷ to_be_bytes w32 n),
  refl,
  (
    0xD7,
    0xD7 ∷ [],
    w.number shortest k ++ 0x84 ∷ to_be_bytes w32 n,
    refl,
    (
      k,
      w.number shortest k,
      0x84 ∷ to_be_bytes w32 n,
      (spells k hk, eq-eqb k k refl),
      (n, 0x84 ∷ to_be_bytes w32 n, [], (four_bytes n hn, refl), (refl, refl), sym (append-nil (0x84 ∷ to_be_bytes w32 n))),
      refl,
    ),
    refl,
  ),
  refl,
)
