-- A record that is stored in place: what its reading says of the offset, of the record and of errors.
use Rattle.std.proofs.Common.{◌≡◌, ℕ, Result, Ok, Err, IfOk, ap}
use Rattle.mufom_records.specs.declared.record.Record.{Record}
use Rattle.mufom_records.specs.declared.stop.Stop.{Stop}
use Rattle.mufom_records.specs.Reading.{Reading, in_place}

pub ok_in_place : (P : Record × ℕ → Type 0) (row : Record) (result : Result ℕ Stop) → IfOk (in_place row result) P
    → IfOk result (λ used. P (row, used))
ok_in_place P row (Ok used) holds = holds
ok_in_place P row (Err stop) holds = tt

abbrev stopped : Stop → Reading Record
stopped stop = Err stop

abbrev stored_at : Record → ℕ → Reading Record
stored_at row used = Ok (row, used)

pub stored_in_place : (row stored : Record) (result : Result ℕ Stop) (used : ℕ) → in_place row result ≡ Ok (stored, used)
    → (result ≡ Ok used) × (row ≡ stored)
stored_in_place row stored (Ok n) used e =
    let same : (row, n) ≡ (stored, used) = cc in
    (ap (λ (p : Record × ℕ). Ok p.1) same, ap (λ (p : Record × ℕ). p.0) same)
stored_in_place row stored (Err stop) used e = absurd (never e) where
  never : stopped stop ≡ stored_at stored used → ⊥
  never is = cc

pub error_in_place : (row : Record) (result : Result ℕ Stop) (stop : Stop) → in_place row result ≡ Err stop → result ≡ Err stop
error_in_place row (Ok n) stop e = absurd (never e) where
  never : stored_at row n ≡ stopped stop → ⊥
  never is = cc
error_in_place row (Err other) stop e = cc
