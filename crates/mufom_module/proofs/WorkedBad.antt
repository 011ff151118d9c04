-- Bytes that are not the file of a module: an offset a byte late, an index that is not declared, an index that is declared twice, a value that
-- is stated twice, bytes before a section is set, and a record in another part.
use Rattle.std.proofs.Common.{◌≡◌, ◌⊎◌, ℕ, true, false, List, [], ◌∷◌, None, refl, inl, inr, arith}
use Rattle.mufom_records.specs.declared.record.Record.TheVariants as r
use Rattle.mufom_records.specs.Fields.{span_at}
use Rattle.mufom_module.specs.SpelledRecords.{SpelledRecord}
use Rattle.mufom_module.specs.RecordParts.{external_part, stands_in}
use Rattle.mufom_module.specs.Grammar.{StandAt, declares_again, states_again, names_unknown, has_no_section}
use Rattle.mufom_module.proofs.Cutting.{spelled, cut}
use Rattle.mufom_module.proofs.WorkedFile.{absolute_code, with_debug}

-- parts of 23, 14 and 5 bytes after a header of 77, whose data part is stated to begin at 101 instead of 100
abbrev data_bytes : List ℕ
data_bytes = 0xE5 ∷ 0x01 ∷ 0xE2 ∷ 0xD0 ∷ 0x01 ∷ 0x82 ∷ 0x10 ∷ 0x00 ∷ 0xED ∷ 0x04 ∷ 0x4E ∷ 0x71 ∷ 0x4E ∷ 0x75 ∷ []

-- the place of one part
abbrev IsAt : ℕ → ℕ → List ℕ → Type 0
IsAt w at bytes = (w ≡ at) ⊎ ((w ≡ 0) × (bytes ≡ []))

late : StandAt (0 ∷ 0 ∷ 77 ∷ 0 ∷ 0 ∷ 101 ∷ 114 ∷ 119 ∷ []) 77
    ([] ∷ [] ∷ (0xE6 ∷ 0x01 ∷ 0xC1 ∷ 0xD3 ∷ 0xD0 ∷ 0x04 ∷ 0x63 ∷ 0x6F ∷ 0x64 ∷ 0x65 ∷ 0xE7 ∷ 0x01 ∷ 0x02 ∷ 0xE2 ∷ 0xD3 ∷ 0x01 ∷ 0x04 ∷ 0xE2 ∷ 0xCC ∷
    0x01 ∷ 0x82 ∷ 0x10 ∷ 0x00 ∷ []) ∷ [] ∷ [] ∷ data_bytes ∷ (0xE2 ∷ 0xC7 ∷ 0x82 ∷ 0x10 ∷ 0x00 ∷ []) ∷ []) → ⊥
late h = elsewhere_than h.1.1.1.1.1.0 where
  elsewhere_than : IsAt 101 100 data_bytes → ⊥
  elsewhere_than (inl e) = absurd (omega (arith, e))
  elsewhere_than (inr e) = absurd (omega (arith, e.0))

abbrev before : List SpelledRecord
before = absolute_code

-- SB of index 2, when only 1 is declared
unknown : names_unknown before (spelled (r.SetSection 2) (0xE5 ∷ 0x02 ∷ [])) ≡ true
unknown = refl

-- a start address with the base of section 2
unknown_variable : names_unknown before (spelled (r.Start (span_at 2 2)) (0xE2 ∷ 0xC7 ∷ 0xD2 ∷ 0x02 ∷ [])) ≡ true
unknown_variable = refl

-- the value of a public may name a section that is declared later
known_later : names_unknown (spelled (r.PublicName 32 (span_at 3 1)) (0xE8 ∷ 0x20 ∷ 0x01 ∷ 0x66 ∷ []) ∷ [])
    (spelled (r.PublicValue 32 (span_at 3 2)) (0xE2 ∷ 0xC9 ∷ 0x20 ∷ 0xD2 ∷ 0x02 ∷ [])) ≡ false
known_later = refl

again : declares_again before (r.SectionType 1 false None (span_at 3 1) None None None) ≡ true
again = refl

twice : states_again before (r.SectionBase 1 0) ≡ true
twice = refl

-- an LR without items, when no section is set
nowhere : has_no_section before r.Relocate ≡ true
nowhere = refl

-- SB occurs only in the data part
elsewhere : stands_in external_part (r.SetSection 1) ≡ false
elsewhere = refl

-- an item cannot be the first record of a part
no_item : cut with_debug 2 false (0x01 ∷ 0x4E ∷ []) (0xE1 ∷ []) ≡ None
no_item = refl
