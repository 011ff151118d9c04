-- A record has at least one byte.
use Rattle.std.proofs.Common.{◌≡◌, ℕ, ◌+◌, ◌<◌, List, [], ◌∷◌, ◌++◌, length, Option, Some, None, ap, ◌∙◌, arith, length-append}
use Rattle.mufom_numbers.specs.Spelling.{SpellsNumber}
use Rattle.mufom_records.specs.declared.record.Mode.{Mode}
use Rattle.mufom_records.specs.declared.record.Mode.TheVariants as mode
use Rattle.mufom_records.specs.declared.record.Record.{Record}
use Rattle.mufom_records.specs.declared.record.Record.TheVariants as r
use Rattle.mufom_records.specs.Layouts

number_some : (n : ℕ) (bytes : List ℕ) → SpellsNumber n bytes → 0 < length bytes
number_some n [] is = absurd is
number_some n (b ∷ bytes) is = omega arith

byte_some : (b : ℕ) (prefix back bytes : List ℕ) → prefix ≡ b ∷ [] → bytes ≡ prefix ++ back → 0 < length bytes
byte_some b prefix back bytes is all = omega (arith, ap length is, ap length all, length-append prefix back)

item_some : (row : Record) (at : ℕ) (after : Option ℕ) (back bytes : List ℕ)
    → Layouts.SpellsRecord (Layouts.constant r.ConstantItem) row at back after → bytes ≡ back → 0 < length bytes
item_some row at after back bytes is all = omega (arith, number_some is.0 is.1 is.3.0, ap length is.5, length-append is.1 is.2, ap length all)

-- a whole record has a byte
pub got-some : (m : Mode) (row : Record) (bytes : List ℕ) (after : Option ℕ) → Layouts.IsWholeRecord m row bytes after → 0 < length bytes
got-some mode.Begin row bytes after is = byte_some is.0 is.1 is.2 bytes is.3 is.5
got-some mode.Descriptor row bytes after is = byte_some is.0 is.1 is.2 bytes is.3 is.5
got-some (mode.Offset k) row bytes after is = byte_some is.0 is.1 is.2 bytes is.3 is.5
got-some mode.Body row bytes after is = byte_some is.0 is.1 is.2 bytes is.3 is.5
got-some mode.Items row bytes after (None, prefix, back, none, constant, all) =
    item_some row (0 + length prefix) after back bytes constant (all ∙ ap (λ l. l ++ back) none.0)
got-some mode.Items row bytes after (Some b, prefix, back, here, field, all) = byte_some b prefix back bytes here.0 all
got-some mode.GnuItems row bytes after (None, prefix, back, none, constant, all) =
    item_some row (0 + length prefix) after back bytes constant (all ∙ ap (λ l. l ++ back) none.0)
got-some mode.GnuItems row bytes after (Some b, prefix, back, here, field, all) = byte_some b prefix back bytes here.0 all
