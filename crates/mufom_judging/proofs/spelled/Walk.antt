-- The records of a file as steps, and how a sound prefix goes on with one.
use Rattle.std.proofs.Common.{◌≡◌, ◌⊎◌, ℕ, ◌+◌, ◌-◌, ◌<◌, ◌≤◌, Bool, true, false, cond, not, ◌==◌, ◌&&◌, nat_lt, nat_le, List, [], ◌∷◌, ◌++◌, length}
use Rattle.std.proofs.Common.{map, drop, Option, Some, None, refl, sym, ap, subst, ◌∙◌, inl, inr, arith, append_assoc, append-nil, IfSome}
use Rattle.std.specs.List.{AllByRecursion}
use Rattle.std.specs.Option.{option_or}
use Rattle.std.proofs.lemmas.List.{take_at, drop_at}
use Rattle.mufom_records.specs.declared.record.Mode.{Mode}
use Rattle.mufom_records.specs.Fields.{first_of}
use Rattle.mufom_records.specs.Layouts.{IsWholeRecord}
use Rattle.mufom_records.specs.Reading.{record_at, record_within, next_seen}
use Rattle.mufom_records.proofs.BeforeLaws.{record_within-only}
use Rattle.mufom_records.proofs.RecordLaws.{record_at-only}
use Rattle.mufom_module.specs.SpelledRecords.{SpelledRecord, bytes_of}
use Rattle.mufom_module.specs.RecordParts.{Part}
use Rattle.mufom_judging.specs.Prefixes.{Step, raw, read, step_bytes, prefix_bytes, size_of, records_of, offsets_of, Extent, Location, first_present}
use Rattle.mufom_judging.specs.Prefixes.{part_among, parts_in_order, location_after, as_step, step_at, next_step, is_ended}
use Rattle.mufom_judging.specs.Faults.{ended_fault, ended_part_fault, step_fault}
use Rattle.mufom_judging.specs.Judging.{IsSoundFrom}
use Rattle.mufom_judging.proofs.ended.Walk.{the_record, taken}
use Rattle.mufom_records.specs.declared.options.ReadOptions.{ReadOptions}

-- ---- steps

-- records one after another from an offset on
abbrev pub steps_of : ℕ → List SpelledRecord → List Step
steps_of at [] = []
steps_of at (p ∷ records) = read at p ∷ steps_of (at + length p.bytes) records

-- bytes that are not read as records
abbrev pub raw_steps : List ℕ → List Step
raw_steps bytes = map (λ b. raw b) bytes

pub steps_bytes : (at : ℕ) (records : List SpelledRecord) → prefix_bytes (steps_of at records) ≡ bytes_of records
steps_bytes at [] = refl
steps_bytes at (p ∷ records) = ap (λ l. p.bytes ++ l) (steps_bytes (at + length p.bytes) records)

pub steps_records : (at : ℕ) (records : List SpelledRecord) → records_of (steps_of at records) ≡ records
steps_records at [] = refl
steps_records at (p ∷ records) = ap (λ l. p ∷ l) (steps_records (at + length p.bytes) records)

pub raw_bytes : (bytes : List ℕ) → prefix_bytes (raw_steps bytes) ≡ bytes
raw_bytes [] = refl
raw_bytes (b ∷ bytes) = ap (λ l. b ∷ l) (raw_bytes bytes)

pub raw_none : (bytes : List ℕ) → records_of (raw_steps bytes) ≡ []
raw_none [] = refl
raw_none (b ∷ bytes) = raw_none bytes

-- ---- one step

-- the next step has no error, and neither has a part that ends before it
pub record IsStep (options : ReadOptions) (before : List Step) (step : Step) (after : List ℕ) : Type 0 where
  pub unended : is_ended before ≡ false
  pub whole : ended_part_fault before ≡ None
  pub own : step_fault before (taken step (length (step_bytes step))) ≡ None
  pub next : next_step options before (step_bytes step ++ after) ≡ taken step (length (step_bytes step))

pub sound_step : (options : ReadOptions) (before : List Step) (step : Step) (steps : List Step) (after : List ℕ) → IsStep options before step after
    → IsSoundFrom options (before ++ step ∷ []) steps after
    → IsSoundFrom options before (step ∷ steps) (step_bytes step ++ after)
sound_step options before step steps after is later = (
  is.unended,
  (λ i. option_or (is.whole i) (step_fault before (is.next i))) ∙ is.own,
  is.next,
  subst (λ (l : List ℕ). IsSoundFrom options (before ++ step ∷ []) steps l) (sym (drop_at (step_bytes step) after (length (step_bytes step)) refl)) later,
)

pub sound-append : (options : ReadOptions) (before a b : List Step) (rest : List ℕ) → IsSoundFrom options before a (prefix_bytes a ++ rest)
    → IsSoundFrom options (before ++ a) b rest
    → IsSoundFrom options before (a ++ b) (prefix_bytes a ++ rest)
sound-append options before [] b rest x y = subst (λ (l : List Step). IsSoundFrom options l b rest) (append-nil before) y
sound-append options before (s ∷ a) b rest x y =
    let n = length (step_bytes s) in
    let split : drop n (prefix_bytes (s ∷ a) ++ rest) ≡ prefix_bytes a ++ rest = ap (drop n) (append_assoc (step_bytes s) (prefix_bytes a) rest)
    ∙ drop_at (step_bytes s) (prefix_bytes a ++ rest) n refl in (
      x.0,
      x.1,
      x.2,
      subst (λ (l : List ℕ). IsSoundFrom options (before ++ s ∷ []) (a ++ b) l) (sym split)
          (sound-append options (before ++ s ∷ []) a b rest (subst (λ (l : List ℕ). IsSoundFrom options (before ++ s ∷ []) a l) split x.3)
          (subst (λ (l : List Step). IsSoundFrom options l b rest) (sym (append_assoc before (s ∷ []) a)) y)),
    )

-- the next step is a record
pub next_read : (options : ReadOptions) (before : List Step) (offset : Location) (m : Mode) (p : SpelledRecord) (after : List ℕ)
    → location_after before ≡ offset
    → step_at options before offset (p.bytes ++ after) ≡ as_step (size_of before) (p.bytes ++ after) (record_at m (p.bytes ++ after))
    → IsWholeRecord m p.row p.bytes (first_of after None) → next_step options before (p.bytes ++ after) ≡ taken (read (size_of before) p) (length p.bytes)
next_read options before offset m p after here as_it is =
    let rest = p.bytes ++ after in
    ap (λ (q : Location). step_at options before q rest) here ∙ as_it
    ∙ ap (as_step (size_of before) rest) (record_at-only m rest p.row p.bytes after is refl)
    ∙ ap (λ l. taken (read (size_of before) (the_record p.row l)) (length p.bytes)) (take_at p.bytes after (length p.bytes) refl)

-- the same where it is read before bytes that are not records
pub next_within : (options : ReadOptions) (before : List Step) (offset : Location) (end : Option ℕ) (m : Mode) (p : SpelledRecord) (after : List ℕ)
    → location_after before ≡ offset
    → step_at options before offset (p.bytes ++ after) ≡ as_step (size_of before) (p.bytes ++ after) (record_within end m (p.bytes ++ after))
    → IsWholeRecord m p.row p.bytes (next_seen end (length p.bytes) (p.bytes ++ after))
    → IfSome end (λ n. (length p.bytes ≤ n) × (n < length (p.bytes ++ after)))
    → next_step options before (p.bytes ++ after) ≡ taken (read (size_of before) p) (length p.bytes)
next_within options before offset end m p after here as_it is bounds =
    let rest = p.bytes ++ after in
    ap (λ (q : Location). step_at options before q rest) here ∙ as_it
    ∙ ap (as_step (size_of before) rest) (record_within-only end m p.row p.bytes after is bounds)
    ∙ ap (λ l. taken (read (size_of before) (the_record p.row l)) (length p.bytes)) (take_at p.bytes after (length p.bytes) refl)

-- ---- no part before the first offset

-- no offset except 0 is below this one
abbrev pub Beyond : ℕ → List ℕ → Type 0
Beyond n offsets = AllByRecursion (λ w. (w ≡ 0) ⊎ (n ≤ w)) offsets

before_all : (w at to n : ℕ) → (w ≡ 0) ⊎ (n ≤ w) → at < n → (not (w == 0) && (nat_le w at && nat_lt at to)) ≡ false
before_all w at to n (inl none) low = ap (λ (k : ℕ). not (k == 0) && (nat_le k at && nat_lt at to)) none
before_all w at to n (inr there) low = middle (not (w == 0)) (nat_le w at) (nat_lt at to) (above w at (omega arith)) where
  above : (w at : ℕ) → at < w → nat_le w at ≡ false
  above w at h = grind arith

  middle : (a b c : Bool) → b ≡ false → (a && (b && c)) ≡ false
  middle true true c h = cc
  middle true false c h = refl
  middle false b c h = refl

pub none_among : (parts : List Part) (offsets : List ℕ) (at n : ℕ) → Beyond n offsets → at < n → part_among parts offsets at ≡ None
none_among [] offsets at n beyond low = refl
none_among (part ∷ parts) [] at n beyond low = refl
none_among (part ∷ parts) (w ∷ offsets) at n beyond low =
    ap (λ b. cond b (Some (record { part = part; from = w; to = first_present offsets })) (part_among parts offsets at))
    (before_all w at (first_present offsets) n beyond.0 low)
    ∙ none_among parts offsets at n beyond.1 low

pub none_ended : (before : List Step) (n : ℕ) → Beyond n (offsets_of before) → size_of before ≤ n → 1 ≤ n → ended_part_fault before ≡ None
none_ended before n beyond low some = ap (λ (o : Option Extent). ended_fault before o)
    (none_among parts_in_order (offsets_of before) (size_of before - 1) n beyond (omega arith))
