-- What reading a stream results in: a module, or an error at an offset. The stream is taken as a whole; how it is cut into
-- chunks makes no difference.
use Rattle.std.specs.Prelude.{◌≡◌, ◌⊎◌, ℕ, ◌<◌, ◌≤◌, true, false, List, [], ◌∷◌, ◌++◌, length, take, drop, Some, None}
use Rattle.mufom_numbers.specs.declared.reason.Reason.{Reason}
use Rattle.mufom_numbers.specs.declared.reason.Reason.TheVariants as why
use Rattle.mufom_numbers.specs.declared.taken.Taken.TheVariants.{Got, More}
use Rattle.mufom_module.specs.declared.module.Parts.{Parts}
use Rattle.mufom_module.specs.Grammar.{SpellsModule, file_limit}
use Rattle.mufom_judging.specs.Prefixes.{Step, step_bytes, size_of, next_step, is_ended}
use Rattle.mufom_judging.specs.Faults.{fault_after}
use Rattle.mufom_records.specs.declared.options.ReadOptions.{ReadOptions}

-- these steps come next in the stream after a prefix, and none of them has an error
abbrev pub IsSoundFrom : ReadOptions → List Step → List Step → List ℕ → Type 0
IsSoundFrom options before [] rest = Unit {0}
IsSoundFrom options before (step ∷ steps) rest = (is_ended before ≡ false) × (fault_after options before rest ≡ None)
    × (next_step options before rest ≡ Got step (length (step_bytes step)))
    × IsSoundFrom options (before ++ step ∷ []) steps (drop (length (step_bytes step)) rest)

-- The stream begins with these steps, and neither a record in them nor a part that ends before their end has an error. Such
-- a prefix is called sound.
abbrev pub IsSoundPrefix : ReadOptions → List Step → List ℕ → Type 0
IsSoundPrefix options prefix bytes = IsSoundFrom options [] prefix bytes

-- the bytes that are checked: a file may have no more
abbrev pub within_limit : List ℕ → List ℕ
within_limit bytes = take file_limit bytes

-- an error follows a sound prefix, which is then the longest one
pub record HasFault (options : ReadOptions) (bytes : List ℕ) (offset : ℕ) (reason : Reason) : Type 0 where
  pub prefix : List Step
  pub sound : IsSoundPrefix options prefix (within_limit bytes)
  pub unended : is_ended prefix ≡ false
  pub fault : fault_after options prefix (drop (size_of prefix) (within_limit bytes)) ≡ Some (offset, reason)

-- the module ends at this offset, and no error is before it
pub record EndsAt (options : ReadOptions) (bytes : List ℕ) (offset : ℕ) : Type 0 where
  pub prefix : List Step
  pub sound : IsSoundPrefix options prefix (within_limit bytes)
  pub ended : is_ended prefix ≡ true
  pub here : size_of prefix ≡ offset

-- after the longest sound prefix more bytes are needed; `pending` are the bytes after it
pub record IsWaiting (options : ReadOptions) (bytes pending : List ℕ) : Type 0 where
  pub prefix : List Step
  pub sound : IsSoundPrefix options prefix (within_limit bytes)
  pub unended : is_ended prefix ≡ false
  pub faultless : fault_after options prefix pending ≡ None
  pub wanting : next_step options prefix pending ≡ More
  pub after : pending ≡ drop (size_of prefix) (within_limit bytes)

-- The stream has an error, with this offset and reason: that of a record or a part, a byte after the module's end, or a
-- byte beyond the limit of a file.
abbrev pub IsRefusedAt : ReadOptions → List ℕ → ℕ → Reason → Type 0
IsRefusedAt options bytes offset reason = HasFault options bytes offset reason
    ⊎ (((reason ≡ why.AfterEnd) × EndsAt options bytes offset × (offset < length bytes))
    ⊎ ((reason ≡ why.FileLimit) × (offset ≡ file_limit) × (file_limit < length bytes) × (pending : List ℕ) × IsWaiting options bytes pending))

-- The stream ends too early: it has no error, and the module has not ended.
abbrev pub IsTruncated : ReadOptions → List ℕ → Type 0
IsTruncated options bytes = (length bytes ≤ file_limit) × (pending : List ℕ) × IsWaiting options bytes pending

-- the number of bytes that wait for the rest of their record
abbrev pub IsPending : ReadOptions → List ℕ → ℕ → Type 0
IsPending options bytes n = ((pending : List ℕ) × IsWaiting options bytes pending × (length pending ≡ n))
    ⊎ (EndsAt options bytes (length bytes) × (n ≡ 0))

-- the judgment of a complete stream: it is the file of a module, or it has an error
pub data Judgment : Type 0 where
  module_of : Parts → Judgment
  refusal : ℕ → Reason → Judgment

-- the stream is the file of a module
abbrev pub IsModule : ReadOptions → List ℕ → Parts → Type 0
IsModule options bytes m = SpellsModule m bytes options

abbrev pub IsJudged : ReadOptions → List ℕ → Judgment → Type 0
IsJudged options bytes (module_of m) = IsModule options bytes m
IsJudged options bytes (refusal offset reason) = IsRefusedAt options bytes offset reason
    ⊎ ((reason ≡ why.Truncated) × (offset ≡ length bytes) × IsTruncated options bytes)
