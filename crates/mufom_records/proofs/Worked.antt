-- Worked examples: records of a small absolute module, read at their offsets, and some with errors, each computed.
use Rattle.std.proofs.Common.{◌≡◌, ℕ, [], ◌∷◌, Some, None, true, refl}
use Rattle.mufom_numbers.specs.declared.reason.Reason.TheVariants.{BadHeader, BadId, BracketMismatch, SurplusTerms, Underflow}
use Rattle.mufom_numbers.specs.declared.taken.Taken.{Taken}
use Rattle.mufom_numbers.specs.declared.taken.Taken.TheVariants.{Got, More, Bad}
use Rattle.mufom_expr.specs.declared.token.FieldKind.TheVariants as kinds
use Rattle.mufom_records.specs.declared.record.Mode.TheVariants as mode
use Rattle.mufom_records.specs.declared.record.Record.{Record}
use Rattle.mufom_records.specs.declared.record.Record.TheVariants as r
use Rattle.mufom_records.specs.Fields.{span_at}
use Rattle.mufom_records.specs.Reading.{record_at, record_before}

abbrev got : Record → ℕ → Taken Record
got row used = Got row used

begins : record_at mode.Begin (0xE0 ∷ 0x05 ∷ 0x36 ∷ 0x38 ∷ 0x30 ∷ 0x30 ∷ 0x30 ∷ 0x01 ∷ 0x41 ∷ 0xEC ∷ []) ≡ got (r.ModuleBegin (span_at 2 5) (span_at 8 1)) 9
begins = refl

bad_header : record_at mode.Begin (0xE1 ∷ 0x05 ∷ []) ≡ Bad 0 BadHeader
bad_header = refl

describes : record_at mode.Descriptor (0xEC ∷ 0x08 ∷ 0x04 ∷ 0xCD ∷ []) ≡ got (r.Descriptor 8 4 (Some 0xCD)) 4
describes = refl

second_offset : record_at (mode.Offset 2) (0xE2 ∷ 0xD7 ∷ 0x02 ∷ 0x84 ∷ 0x00 ∷ 0x00 ∷ 0x00 ∷ 0x4D ∷ []) ≡ got (r.Offset 2 77) 8
second_offset = refl

declares : record_at mode.Body (0xE6 ∷ 0x01 ∷ 0xC1 ∷ 0xD3 ∷ 0xD0 ∷ 0x04 ∷ 0x63 ∷ 0x6F ∷ 0x64 ∷ 0x65 ∷ 0xE7 ∷ [])
    ≡ got (r.SectionType 1 true (Some 0xD0) (span_at 6 4) None None None) 10
declares = refl

-- a number could still follow
wants : record_at mode.Body (0xE6 ∷ 0x01 ∷ 0xC1 ∷ 0xD3 ∷ 0xD0 ∷ 0x04 ∷ 0x63 ∷ 0x6F ∷ 0x64 ∷ 0x65 ∷ []) ≡ More
wants = refl

sets_counter : record_at mode.Body (0xE2 ∷ 0xD0 ∷ 0x01 ∷ 0x82 ∷ 0x10 ∷ 0x00 ∷ 0xED ∷ []) ≡ got (r.SetPc 1 (span_at 3 3)) 6
sets_counter = refl

bad_id : record_at mode.Body (0xE0 ∷ 0x04 ∷ 0x4E ∷ 0x71 ∷ 0x4E ∷ 0x75 ∷ 0xE2 ∷ []) ≡ Bad 6 BadId
bad_id = refl

field : record_at mode.Items (0xBE ∷ 0xD2 ∷ 0x01 ∷ 0x04 ∷ 0xA5 ∷ 0xBF ∷ []) ≡ got (r.FieldItem kinds.Either (span_at 1 4) None) 6
field = refl

surplus : record_at mode.Body (0xE2 ∷ 0xD0 ∷ 0x01 ∷ 0x01 ∷ 0x02 ∷ 0xE5 ∷ 0x01 ∷ []) ≡ Bad 5 SurplusTerms
surplus = refl

underflow : record_at mode.Body (0xE2 ∷ 0xD0 ∷ 0x01 ∷ 0xA5 ∷ []) ≡ Bad 3 Underflow
underflow = refl

-- ---- a size without a comma

plain_size : record_at mode.GnuItems (0xBE ∷ 0xD2 ∷ 0x01 ∷ 0x02 ∷ 0xBF ∷ []) ≡ got (r.FieldItem kinds.Either (span_at 1 2) (Some 2)) 5
plain_size = refl

-- without the forms of GNU binutils it is an error
no_plain_size : record_at mode.Items (0xBE ∷ 0xD2 ∷ 0x01 ∷ 0x02 ∷ 0xBF ∷ []) ≡ Bad 4 SurplusTerms
no_plain_size = refl

constant_value : record_at mode.GnuItems (0xBE ∷ 0x05 ∷ 0x02 ∷ 0xBF ∷ []) ≡ got (r.FieldItem kinds.Either (span_at 1 1) (Some 2)) 4
constant_value = refl

long_size : record_at mode.GnuItems (0xBE ∷ 0xD2 ∷ 0x01 ∷ 0x81 ∷ 0x02 ∷ 0xBF ∷ []) ≡ got (r.FieldItem kinds.Either (span_at 1 2) (Some 2)) 6
long_size = refl

-- a distance is signed
distance : record_at mode.GnuItems (0xBE ∷ 0xD2 ∷ 0x01 ∷ 0xD0 ∷ 0x01 ∷ 0xA6 ∷ 0x02 ∷ 0xBF ∷ []) ≡ got (r.FieldItem kinds.Signed (span_at 1 5) (Some 2)) 8
distance = refl

unsigned_distance : record_at mode.GnuItems (0xBC ∷ 0xD2 ∷ 0x01 ∷ 0xD0 ∷ 0x01 ∷ 0xA6 ∷ 0x02 ∷ 0xBD ∷ [])
    ≡ got (r.FieldItem kinds.Unsigned (span_at 1 5) (Some 2)) 8
unsigned_distance = refl

large_size : record_at mode.GnuItems (0xBE ∷ 0xD2 ∷ 0x01 ∷ 0x09 ∷ 0xBF ∷ []) ≡ Bad 4 SurplusTerms
large_size = refl

no_size : record_at mode.GnuItems (0xBE ∷ 0xD2 ∷ 0x01 ∷ 0x00 ∷ 0xBF ∷ []) ≡ Bad 4 SurplusTerms
no_size = refl

three_terms : record_at mode.GnuItems (0xBE ∷ 0x01 ∷ 0x02 ∷ 0x03 ∷ 0xBF ∷ []) ≡ Bad 4 SurplusTerms
three_terms = refl

both_sizes : record_at mode.GnuItems (0xBE ∷ 0xD2 ∷ 0x01 ∷ 0x02 ∷ 0x90 ∷ 0x02 ∷ 0xBF ∷ []) ≡ Bad 4 SurplusTerms
both_sizes = refl

other_partner : record_at mode.GnuItems (0xBE ∷ 0xD2 ∷ 0x01 ∷ 0x02 ∷ 0xBB ∷ []) ≡ Bad 4 BracketMismatch
other_partner = refl

one_term : record_at mode.GnuItems (0xBE ∷ 0x02 ∷ 0xBF ∷ []) ≡ got (r.FieldItem kinds.Either (span_at 1 1) None) 3
one_term = refl

-- ---- before bytes that are not records

before_debug : record_before 4 mode.Body (0xE2 ∷ 0xC9 ∷ 0x20 ∷ 0x00 ∷ 0x01 ∷ 0x02 ∷ 0x03 ∷ 0xE1 ∷ []) ≡ got (r.PublicValue 32 (span_at 3 1)) 4
before_debug = refl

-- a name that takes the byte in is read as it is
through_debug : record_before 4 mode.Body (0xE8 ∷ 0x20 ∷ 0x03 ∷ 0x61 ∷ 0x62 ∷ 0x63 ∷ []) ≡ got (r.PublicName 32 (span_at 3 3)) 6
through_debug = refl
