-- A sound prefix as a walk: each step with the bytes from it on, read at its location.
use Rattle.std.proofs.Common.{◌≡◌, ◌⊎◌, ℕ, zero, suc, ◌+◌, ◌≤◌, Bool, true, false, List, [], ◌∷◌, ◌++◌, length, take, drop, Option, Some, None, refl}
use Rattle.std.proofs.Common.{sym, ap, subst, ◌∙◌, inl, inr, arith, append_assoc, append-nil}
use Rattle.std.specs.Option.{option_or}
use Rattle.std.proofs.lemmas.List.{length-append, take-append-drop, drop_at}
use Rattle.std.proofs.lemmas.List.Elements.{filter_map-append}
use Rattle.mufom_numbers.specs.declared.taken.Taken.{Taken}
use Rattle.mufom_numbers.specs.declared.taken.Taken.TheVariants.{Got, More, Bad}
use Rattle.mufom_numbers.specs.Spelling.{AreBytes, IfGot}
use Rattle.mufom_records.specs.declared.record.Mode.{Mode}
use Rattle.mufom_records.specs.declared.record.Mode.TheVariants as mode
use Rattle.mufom_records.specs.declared.record.Record.{Record}
use Rattle.mufom_records.specs.Layouts.{IsWholeRecord}
use Rattle.mufom_records.specs.Reading.{record_within, next_seen}
use Rattle.mufom_records.proofs.BeforeLaws.{record_within-got}
use Rattle.mufom_module.specs.SpelledRecords.{SpelledRecord}
use Rattle.mufom_judging.specs.Prefixes.{Step, raw, read, step_bytes, prefix_bytes, size_of, record_of, records_of, Extent, Location, in_header, in_part}
use Rattle.mufom_judging.specs.Prefixes.{at_end, location_after, header_mode, is_raw, body_mode, as_step, raw_step, step_in, step_at, next_step}
use Rattle.mufom_judging.specs.Prefixes.{is_ended, bytes_to_debug}
use Rattle.mufom_judging.specs.Faults.{Fault, ended_part_fault, step_fault}
use Rattle.mufom_judging.specs.Judging.{IsSoundFrom, IsSoundPrefix}
use Rattle.mufom_records.specs.declared.options.ReadOptions.{ReadOptions}

-- ---- bytes and records of prefixes

pub bytes-append : (a b : List Step) → prefix_bytes (a ++ b) ≡ prefix_bytes a ++ prefix_bytes b
bytes-append [] b = refl
bytes-append (s ∷ a) b = ap (λ l. step_bytes s ++ l) (bytes-append a b) ∙ sym (append_assoc (step_bytes s) (prefix_bytes a) (prefix_bytes b))

pub size-append : (a b : List Step) → size_of (a ++ b) ≡ size_of a + size_of b
size-append a b = ap length (bytes-append a b) ∙ length-append (prefix_bytes a) (prefix_bytes b)

pub records-append : (a b : List Step) → records_of (a ++ b) ≡ records_of a ++ records_of b
records-append a b = filter_map-append record_of a b

-- ---- one step

abbrev pub the_record : Record → List ℕ → SpelledRecord
the_record row bytes = record { row = row; bytes = bytes }

-- the step is a record of the mode at the start of the rest
pub record IsRead (end : Option ℕ) (m : Mode) (before : List Step) (rest : List ℕ) (step : Step) (n : ℕ) : Type 0 where
  pub row : Record
  pub inside : n ≤ length rest
  pub is_whole : IsWholeRecord m row (take n rest) (next_seen end n rest)
  pub is_this : step ≡ read (size_of before) (the_record row (take n rest))

-- the step is the first byte of the rest
pub record IsRaw (rest : List ℕ) (step : Step) (n : ℕ) : Type 0 where
  pub byte : ℕ
  pub more : List ℕ
  pub split : rest ≡ byte ∷ more
  pub is_this : step ≡ raw byte
  pub count : n ≡ 1

-- what a step is at its place
abbrev pub IsNextAt : ReadOptions → List Step → Location → List ℕ → Step → ℕ → Type 0
IsNextAt options before (in_header k) rest step n = IsRead None (header_mode k) before rest step n
IsNextAt options before (in_part e) rest step n = ((is_raw options.debug e.part ≡ true) × IsRaw rest step n)
    ⊎ ((is_raw options.debug e.part ≡ false) × IsRead (bytes_to_debug options before) (body_mode options before e rest) before rest step n)
IsNextAt options before at_end rest step n = IsRead None mode.Body before rest step n

abbrev pub taken : Step → ℕ → Taken Step
taken step n = Got step n

abbrev wanting : Taken Step
wanting = More

read_by : (end : Option ℕ) (m : Mode) (before : List Step) (rest : List ℕ) (answer : Taken Record) (step : Step) (n : ℕ)
    → IfGot answer (λ row used. (used ≤ length rest) × IsWholeRecord m row (take used rest) (next_seen end used rest))
    → as_step (size_of before) rest answer ≡ taken step n → IsRead end m before rest step n
read_by end m before rest (Got row used) step n got h =
    let e : taken (read (size_of before) (the_record row (take used rest))) used ≡ taken step n = h in
    let its : read (size_of before) (the_record row (take used rest)) ≡ step = cc in
    let count : used ≡ n = cc in
    subst (λ (k : ℕ). IsRead end m before rest step k) count (record { row = row; inside = got.0; is_whole = got.1; is_this = sym its })
read_by end m before rest More step n got h = let e : wanting ≡ taken step n = h in absurd cc
read_by end m before rest (Bad offset reason) step n got h = cc

pub read_at : (end : Option ℕ) (m : Mode) (before : List Step) (rest : List ℕ) (step : Step) (n : ℕ) → AreBytes rest
    → as_step (size_of before) rest (record_within end m rest) ≡ taken step n → IsRead end m before rest step n
read_at end m before rest step n fits h = read_by end m before rest (record_within end m rest) step n (record_within-got end m rest fits) h

raw_at : (rest : List ℕ) (step : Step) (n : ℕ) → raw_step rest ≡ taken step n → IsRaw rest step n
raw_at [] step n h = let e : wanting ≡ taken step n = h in absurd cc
raw_at (b ∷ more) step n h =
    let e : taken (raw b) 1 ≡ taken step n = h in
    let its : raw b ≡ step = cc in
    let count : 1 ≡ n = cc in
    record { byte = b; more = more; split = refl; is_this = sym its; count = sym count }

part_at_test : (options : ReadOptions) (before : List Step) (e : Extent) (rest : List ℕ) (step : Step) (n : ℕ) (test : Bool) → is_raw options.debug e.part
    ≡ test → AreBytes rest
    → step_in options before e rest ≡ taken step n → IsNextAt options before (in_part e) rest step n
part_at_test options before e rest step n true is fits h = inl (is, raw_at rest step n (rw is at h))
part_at_test options before e rest step n false is fits h = inr (
  is,
  read_at (bytes_to_debug options before)
      (body_mode options before e rest) before rest step n fits (rw is at h),
)

pub next_at : (options : ReadOptions) (before : List Step) (fault_offset : Location) (rest : List ℕ) (step : Step) (n : ℕ) → AreBytes rest
    → step_at options before fault_offset rest ≡ taken step n → IsNextAt options before fault_offset rest step n
next_at options before (in_header k) rest step n fits h = read_at None (header_mode k) before rest step n fits h
next_at options before (in_part e) rest step n fits h = part_at_test options before e rest step n (is_raw options.debug e.part) refl fits h
next_at options before at_end rest step n fits h = read_at None mode.Body before rest step n fits h

-- ---- all of them

-- what the step takes is the prefix of the rest
read_prefix : (end : Option ℕ) (m : Mode) (before : List Step) (rest : List ℕ) (step : Step) (n : ℕ) → IsRead end m before rest step n
    → step_bytes step ≡ take n rest
read_prefix end m before rest step n is = ap step_bytes is.is_this

raw_prefix : (rest : List ℕ) (step : Step) (n : ℕ) → IsRaw rest step n → step_bytes step ≡ take n rest
raw_prefix rest step n is = ap step_bytes is.is_this ∙ sym (ap (take n) is.split ∙ ap (λ k. take k (is.byte ∷ is.more)) is.count)

pub next_prefix : (options : ReadOptions) (before : List Step) (fault_offset : Location) (rest : List ℕ) (step : Step) (n : ℕ)
    → IsNextAt options before fault_offset rest step n → step_bytes step ≡ take n rest
next_prefix options before (in_header k) rest step n is = read_prefix None (header_mode k) before rest step n is
next_prefix options before (in_part e) rest step n (inl is) = raw_prefix rest step n is.1
next_prefix options before (in_part e) rest step n (inr is) = read_prefix (bytes_to_debug options before)
    (body_mode options before e rest) before rest step n is.1
next_prefix options before at_end rest step n is = read_prefix None mode.Body before rest step n is

pub no_fault : (a b : Option Fault) → option_or a b ≡ None → (a ≡ None) × (b ≡ None)
no_fault None b h = (refl, h)
no_fault (Some fault) b h = absurd cc

-- Each step is the one that is read after those before it, and has no error; no part that ends before it has one; and the
-- module has not ended before it.
abbrev pub IsWalk : ReadOptions → List Step → List Step → Type 0
IsWalk options before [] = Unit {0}
IsWalk options before (step ∷ steps) = (is_ended before ≡ false) × (ended_part_fault before ≡ None)
    × (step_fault before (taken step (length (step_bytes step))) ≡ None)
    × IsNextAt options before (location_after before) (prefix_bytes (step ∷ steps)) step (length (step_bytes step))
    × IsWalk options (before ++ step ∷ []) steps

AreBytes-drop : (n : ℕ) (bytes : List ℕ) → AreBytes bytes → AreBytes (drop n bytes)
AreBytes-drop zero bytes fits = fits
AreBytes-drop (suc n) [] fits = tt
AreBytes-drop (suc n) (b ∷ bytes) fits = AreBytes-drop n bytes fits.1

-- the stream begins with the bytes of a sound prefix
pub prefix_first : (options : ReadOptions) (before steps : List Step) (rest : List ℕ) → AreBytes rest → IsSoundFrom options before steps rest
    → (later : List ℕ) × (rest ≡ prefix_bytes steps ++ later)
prefix_first options before [] rest fits sound = (rest, refl)
prefix_first options before (step ∷ steps) rest fits sound =
    let n = length (step_bytes step) in
    let first = next_prefix options before (location_after before) rest step n
    (next_at options before (location_after before) rest step n fits sound.2) in
    let rec = prefix_first options (before ++ step ∷ []) steps (drop n rest) (AreBytes-drop n rest fits) sound.3 in (
      rec.0,
      sym (take-append-drop n rest) ∙ ap (λ l. l ++ drop n rest) (sym first) ∙ ap (λ l. step_bytes step ++ l) rec.1
          ∙ sym (append_assoc (step_bytes step) (prefix_bytes steps) rec.0),
    )

-- a prefix that is the whole stream is a walk
pub walk_of : (options : ReadOptions) (before steps : List Step) → AreBytes (prefix_bytes steps)
    → IsSoundFrom options before steps (prefix_bytes steps) → IsWalk options before steps
walk_of options before [] fits sound = tt
walk_of options before (step ∷ steps) fits sound =
    let n = length (step_bytes step) in
    let rest = prefix_bytes (step ∷ steps) in
    let back : drop n rest ≡ prefix_bytes steps = drop_at (step_bytes step) (prefix_bytes steps) n refl in
    let faults = no_fault (ended_part_fault before) (step_fault before (next_step options before rest)) sound.1 in (
      sound.0,
      faults.0,
      subst (λ (t : Taken Step). step_fault before t ≡ None) sound.2 faults.1,
      next_at options before (location_after before) rest step n fits sound.2,
      walk_of options (before ++ step ∷ []) steps (subst (λ (l : List ℕ). AreBytes l) back (AreBytes-drop n rest fits))
          (subst (λ (l : List ℕ). IsSoundFrom options (before ++ step ∷ []) steps l) back sound.3),
    )

-- the bytes of a sound prefix that is as long as the stream are the stream
pub all_bytes : (options : ReadOptions) (prefix : List Step) (bytes : List ℕ) → AreBytes bytes → IsSoundPrefix options prefix bytes → size_of prefix
    ≡ length bytes → bytes ≡ prefix_bytes prefix
all_bytes options prefix bytes fits sound size =
    let first = prefix_first options [] prefix bytes fits sound in
    let count : length bytes ≡ size_of prefix + length first.0 = ap length first.1 ∙ length-append (prefix_bytes prefix) first.0 in
    let none : length first.0 ≡ 0 = omega arith in
    first.1 ∙ ap (λ l. prefix_bytes prefix ++ l) (nothing first.0 none) ∙ append-nil (prefix_bytes prefix)
  where
    nothing : (l : List ℕ) → length l ≡ 0 → l ≡ []
    nothing [] h = refl
    nothing (x ∷ l) h = absurd (omega arith)
