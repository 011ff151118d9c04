-- What a stream is within a limit of bytes.
use Rattle.std.specs.Prelude.{◌⊎◌, ℕ, ◌<◌, ◌≤◌, List, length, take}
use Rattle.mufom_numbers.specs.declared.reason.Reason.{Reason}
use Rattle.mufom_records.specs.declared.options.ReadOptions.{ReadOptions}
use Rattle.mufom_judging.specs.Judging.{IsRefusedAt, IsJudged, refusal}

-- the stream contains no error
abbrev pub IsUnrefused : ReadOptions → List ℕ → Type 0
IsUnrefused options bytes = (offset : ℕ) (reason : Reason) → ¬ IsRefusedAt options bytes offset reason

-- The first `limit` bytes have this error; or there are at most `limit` bytes, and reading all of them results in this error.
abbrev pub IsRefusedWithin : ReadOptions → ℕ → List ℕ → ℕ → Reason → Type 0
IsRefusedWithin options limit bytes offset reason = IsRefusedAt options (take limit bytes) offset reason
    ⊎ ((length bytes ≤ limit) × IsJudged options bytes (refusal offset reason))

-- There are more than `limit` bytes, and the first `limit` of them contain no error.
abbrev pub IsPastLimit : ReadOptions → ℕ → List ℕ → Type 0
IsPastLimit options limit bytes = (limit < length bytes) × IsUnrefused options (take limit bytes)
