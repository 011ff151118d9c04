-- The offset of an error is within the bytes that are checked.
use Rattle.std.proofs.Common.{◌≡◌, ℕ, ◌+◌, ◌-◌, ◌==◌, ◌≤◌, ◌<◌, Bool, true, false, nat_lt, if◌then◌else◌, List, [], ◌∷◌, ◌++◌, length, drop}
use Rattle.std.proofs.Common.{Option, Some, None, IfSome, refl, sym, ap, subst, inl, inr, arith, append_assoc, length-append, length-drop}
use Rattle.std.specs.List.{AllByRecursion, cons_option}
use Rattle.std.specs.Option.{option_or}
use Rattle.std.proofs.lemmas.List.{length-take}
use Rattle.mufom_numbers.specs.declared.reason.Reason.{Reason}
use Rattle.mufom_numbers.specs.declared.reason.Reason.TheVariants as why
use Rattle.mufom_numbers.specs.declared.taken.Taken.{Taken}
use Rattle.mufom_numbers.specs.declared.taken.Taken.TheVariants.{Got, More, Bad}
use Rattle.mufom_numbers.specs.Spelling.{AreBytes}
use Rattle.mufom_records.specs.declared.options.ReadOptions.{ReadOptions}
use Rattle.mufom_records.specs.declared.record.Mode.{Mode}
use Rattle.mufom_records.specs.declared.record.Mode.TheVariants as mode
use Rattle.mufom_records.specs.declared.record.Record.{Record}
use Rattle.mufom_records.specs.declared.record.Record.TheVariants as r
use Rattle.mufom_records.specs.Reading.{record_within}
use Rattle.mufom_module.specs.SpelledRecords.{SpelledRecord}
use Rattle.mufom_module.specs.RecordParts.{Part, section_part, external_part, debug_part}
use Rattle.mufom_module.specs.Grammar.{file_limit}
use Rattle.mufom_judging.specs.Prefixes.{Step, raw, read, step_bytes, prefix_bytes, size_of}
use Rattle.mufom_judging.specs.Prefixes.{records_of, OffsetRecord, offset_record, offset_records_of, Extent, Location}
use Rattle.mufom_judging.specs.Prefixes.{in_header, in_part, at_end, as_step, body_mode, bytes_to_debug, header_mode}
use Rattle.mufom_judging.specs.Prefixes.{is_raw, location_after, next_step, part_at}
use Rattle.mufom_judging.specs.Prefixes.{offsets_of, raw_step, step_at}
use Rattle.mufom_judging.specs.Faults.{Fault, OpenBlock, ended_fault, ended_part_fault, external_fault, fault_after, fault_for, fault_if, first_fault}
use Rattle.mufom_judging.specs.Faults.{has_unknown_variable, header_fault, is_bad_descriptor, is_out_of_order, lacks_base, lacks_value, leaves_gap, open_blocks}
use Rattle.mufom_judging.specs.Faults.{open_fault, open_from, opened_after, record_fault, rule_broken, section_fault}
use Rattle.mufom_judging.specs.Faults.{step_fault, whole_fault}
use Rattle.mufom_judging.specs.Judging.{IsJudged, IsRefusedAt, IsSoundFrom, IsSoundPrefix, refusal, within_limit}
use Rattle.mufom_read.proofs.NearFaults.{within-bad}
use Rattle.mufom_judging.proofs.ended.Walk.{IsNextAt, IsRaw, IsRead, next_at, prefix_first, size-append}
use Rattle.mufom_judging.proofs.judged.Stays.{AreBytes-drop, AreBytes-take}

-- the error is at this offset or before it
abbrev IsWithin : ℕ → Option Fault → Type 0
IsWithin n fault = IfSome fault (λ f. f.0 ≤ n)

-- the records are at this offset or before it
abbrev AreWithin : ℕ → List OffsetRecord → Type 0
AreWithin n records = AllByRecursion (λ p. p.0 ≤ n) records

-- ---- what a step is

abbrev IsStepAt : List Step → List ℕ → Step → Type 0
IsStepAt before rest (raw b) = Unit {0}
IsStepAt before rest (read start p) = (start ≡ size_of before) × (length p.bytes ≤ length rest)

step_read : (end : Option ℕ) (m : Mode) (before : List Step) (rest : List ℕ) (step : Step) (n : ℕ) → IsRead end m before rest step n
    → IsStepAt before rest step
step_read end m before rest step n is =
    subst (IsStepAt before rest) (sym is.is_this) (refl, omega (arith, length-take n rest))

step_raw : (before : List Step) (rest : List ℕ) (step : Step) (n : ℕ) → IsRaw rest step n → IsStepAt before rest step
step_raw before rest step n is = subst (IsStepAt before rest) (sym is.is_this) tt

step_is : (options : ReadOptions) (before : List Step) (at : Location) (rest : List ℕ) (step : Step) (n : ℕ) → IsNextAt options before at rest step n
    → IsStepAt before rest step
step_is options before (in_header k) rest step n is = step_read None (header_mode k) before rest step n is
step_is options before (in_part e) rest step n (inl is) = step_raw before rest step n is.1
step_is options before (in_part e) rest step n (inr is) = step_read (bytes_to_debug options before) (body_mode options before e rest) before rest step n is.1
step_is options before at_end rest step n is = step_read None mode.Body before rest step n is

-- the records of a sound prefix are inside it
records_within : (options : ReadOptions) (before steps : List Step) (rest : List ℕ) → AreBytes rest → IsSoundFrom options before steps rest
    → AreWithin (size_of (before ++ steps)) (offset_records_of steps)
records_within options before [] rest fits sound = tt
records_within options before (step ∷ steps) rest fits sound =
    let n = length (step_bytes step) in
    let is = step_is options before (location_after before) rest step n (next_at options before (location_after before) rest step n fits sound.2) in
    let rec = records_within options (before ++ step ∷ []) steps (drop n rest) (AreBytes-drop n rest fits) sound.3 in
    let same = ap size_of (append_assoc before (step ∷ []) steps) in
    by_step step is (subst (λ k. AreWithin k (offset_records_of steps)) same rec)
  where
    by_step : (s : Step) → IsStepAt before rest s → AreWithin (size_of (before ++ step ∷ steps)) (offset_records_of steps)
        → AreWithin (size_of (before ++ step ∷ steps)) (cons_option (offset_record s) (offset_records_of steps))
    by_step (raw b) is all = all
    by_step (read start p) is all = (omega (arith, is.0, size-append before (step ∷ steps)), all)

-- ---- errors of whole parts

fault_if_within : (test : Bool) (at n : ℕ) (reason : Reason) → at ≤ n → IsWithin n (fault_if test at reason)
fault_if_within true at n reason le = le
fault_if_within false at n reason le = tt

fault_for_within : (o : Option Reason) (at n : ℕ) → at ≤ n → IsWithin n (fault_for at o)
fault_for_within None at n le = tt
fault_for_within (Some reason) at n le = le

or_within : (a b : Option Fault) (n : ℕ) → IsWithin n a → IsWithin n b → IsWithin n (option_or a b)
or_within None b n one other = other
or_within (Some f) b n one other = one

first_within : (fault : OffsetRecord → Option Fault) (n : ℕ) → ((p : OffsetRecord) → p.0 ≤ n → IsWithin n (fault p)) → (records : List OffsetRecord)
    → AreWithin n records → IsWithin n (first_fault fault records)
first_within fault n each [] all = tt
first_within fault n each (p ∷ records) all =
    or_within (fault p) (first_fault fault records) n (each p all.0) (first_within fault n each records all.1)

abbrev AreOpenWithin : ℕ → List OpenBlock → Type 0
AreOpenWithin n blocks = AllByRecursion (λ b. b.0 ≤ n) blocks

opened_within : (n : ℕ) (blocks : List OpenBlock) (start : ℕ) (row : Record) → AreOpenWithin n blocks → start ≤ n
    → AreOpenWithin n (opened_after blocks start row)
opened_within n blocks start (r.BlockBegin kind k name block) all le = (le, all)
opened_within n [] start (r.BlockEnd value) all le = tt
opened_within n (innermost ∷ blocks) start (r.BlockEnd value) all le = all.1
opened_within n blocks start _ all le = all

open_within : (n : ℕ) (blocks : List OpenBlock) (records : List OffsetRecord) → AreOpenWithin n blocks → AreWithin n records
    → AreOpenWithin n (open_from blocks records)
open_within n blocks [] open_all all = open_all
open_within n blocks (p ∷ records) open_all all =
    open_within n (opened_after blocks p.0 p.1.row) records (opened_within n blocks p.0 p.1.row open_all all.0) all.1

open_fault_within : (n : ℕ) (blocks : List OpenBlock) → AreOpenWithin n blocks → IsWithin n (open_fault blocks)
open_fault_within n [] all = tt
open_fault_within n (innermost ∷ blocks) all = all.0

whole_within : (n : ℕ) (part : Part) (prefix : List Step) → AreWithin n (offset_records_of prefix) → IsWithin n (whole_fault part prefix)
whole_within n section_part prefix all =
    first_within (section_fault (records_of prefix)) n
    (λ p le. fault_if_within (lacks_base (records_of prefix) p.1.row) p.0 n why.MissingBase le) (offset_records_of prefix) all
whole_within n external_part prefix all =
    first_within (external_fault (records_of prefix)) n
    (λ p le. or_within _ _ n (fault_if_within (has_unknown_variable (records_of prefix) p.1) p.0 n why.UnknownIndex le)
    (fault_if_within (lacks_value (records_of prefix) p.1.row) p.0 n why.MissingValue le)) (offset_records_of prefix) all
whole_within n debug_part prefix all = open_fault_within n (open_blocks (offset_records_of prefix)) (open_within n [] (offset_records_of prefix) tt all)
whole_within n _ prefix all = tt

ended_within : (n : ℕ) (prefix : List Step) (o : Option Extent) → AreWithin n (offset_records_of prefix) → IsWithin n (ended_fault prefix o)
ended_within n prefix None all = tt
ended_within n prefix (Some extent) all = by_test (extent.to == size_of prefix) where
  by_test : (b : Bool) → IsWithin n (if b then whole_fault extent.part prefix else None)
  by_test true = whole_within n extent.part prefix all
  by_test false = tt

-- ---- errors of records

header_within : (n : ℕ) (earlier : List ℕ) (start end : ℕ) (row : Record) → start ≤ n → end ≤ n → IsWithin n (header_fault earlier start end row)
header_within n earlier start end (r.Offset k w) low high =
    or_within _ _ n (fault_if_within (is_out_of_order earlier w) start n why.OffsetOrder low)
    (fault_if_within (leaves_gap (earlier ++ w ∷ []) end) end n why.PartGap high)
header_within n earlier start end row low high = fault_if_within (is_bad_descriptor row) start n why.BadDescriptor low

record_within_bytes : (n : ℕ) (prefix : List Step) (at : Location) (start : ℕ) (p : SpelledRecord) → start ≤ n → start + length p.bytes ≤ n
    → IsWithin n (record_fault prefix at start p)
record_within_bytes n prefix (in_header k) start p low high = header_within n (offsets_of prefix) start (start + length p.bytes) p.row low high
record_within_bytes n prefix (in_part extent) start p low high =
    or_within _ _ n (fault_if_within (nat_lt extent.to (start + length p.bytes)) start n why.PartGap low)
    (or_within _ _ n (fault_if_within _ start n why.WrongPart low) (fault_for_within (rule_broken prefix p) start n low))
record_within_bytes n prefix at_end start p low high = fault_if_within _ start n why.WrongPart low

-- ---- errors of fields

abbrev bad_step : ℕ → Reason → Taken Step
bad_step offset reason = Bad offset reason

as_bad : (end : Option ℕ) (m : Mode) (at : ℕ) (rest : List ℕ) (answer : Taken Record) (offset : ℕ) (reason : Reason) → AreBytes rest
    → record_within end m rest ≡ answer → as_step at rest answer ≡ bad_step offset reason → offset ≤ length rest
as_bad end m at rest (Got row used) offset reason fits is bad = absurd (cc)
as_bad end m at rest More offset reason fits is bad = absurd (cc)
as_bad end m at rest (Bad o why_) offset reason fits is bad =
    let e : bad_step o why_ ≡ bad_step offset reason = bad in
    let same : o ≡ offset = cc in
    let near = within-bad end m rest o why_ fits is in omega (arith, same, near)

raw_no_bad : (rest : List ℕ) (offset : ℕ) (reason : Reason) → raw_step rest ≡ bad_step offset reason → ⊥
raw_no_bad [] offset reason bad = let e : ◌≡◌ {A = Taken Step} More (bad_step offset reason) = bad in cc
raw_no_bad (b ∷ rest) offset reason bad = let e : ◌≡◌ {A = Taken Step} (Got (raw b) 1) (bad_step offset reason) = bad in cc

bad_within : (options : ReadOptions) (prefix : List Step) (at : Location) (rest : List ℕ) (offset : ℕ) (reason : Reason) → AreBytes rest
    → step_at options prefix at rest ≡ bad_step offset reason → offset ≤ length rest
bad_within options prefix (in_header k) rest offset reason fits bad =
    as_bad None (header_mode k) (size_of prefix) rest (record_within None (header_mode k) rest) offset reason fits refl bad
bad_within options prefix (in_part e) rest offset reason fits bad = by_test (is_raw options.debug e.part) bad where
  by_test : (b : Bool) → (if b then raw_step rest else as_step (size_of prefix) rest
      (record_within (bytes_to_debug options prefix) (body_mode options prefix e rest) rest)) ≡ bad_step offset reason → offset ≤ length rest
  by_test true it = absurd (raw_no_bad rest offset reason it)
  by_test false it = as_bad (bytes_to_debug options prefix) (body_mode options prefix e rest) (size_of prefix) rest _ offset reason fits refl it
bad_within options prefix at_end rest offset reason fits bad =
    as_bad None mode.Body (size_of prefix) rest (record_within None mode.Body rest) offset reason fits refl bad

-- ---- together

step_within : (options : ReadOptions) (prefix : List Step) (rest : List ℕ) (n : ℕ) → AreBytes rest → size_of prefix + length rest ≤ n
    → (answer : Taken Step) → next_step options prefix rest ≡ answer → IsWithin n (step_fault prefix answer)
step_within options prefix rest n fits le (Got (raw b) used) is = tt
step_within options prefix rest n fits le (Got (read start p) used) is =
    let its = step_is options prefix (location_after prefix) rest (read start p) used
    (next_at options prefix (location_after prefix) rest (read start p) used fits is) in
    let here = its.0 in let few = its.1 in
    record_within_bytes n prefix (location_after prefix) start p (omega arith) (omega arith)
step_within options prefix rest n fits le More is = tt
step_within options prefix rest n fits le (Bad offset reason) is =
    let near = bad_within options prefix (location_after prefix) rest offset reason fits is in omega arith

after_within : (options : ReadOptions) (prefix : List Step) (bytes : List ℕ) → AreBytes bytes → IsSoundPrefix options prefix bytes
    → IsWithin (length bytes) (fault_after options prefix (drop (size_of prefix) bytes))
after_within options prefix bytes fits sound =
    let first = prefix_first options [] prefix bytes fits sound in
    let inside : size_of prefix ≤ length bytes = omega (arith, ap length first.1, length-append (prefix_bytes prefix) first.0) in
    let rest = drop (size_of prefix) bytes in
    or_within (ended_part_fault prefix) (step_fault prefix (next_step options prefix rest)) (length bytes)
    (ended_within (length bytes) prefix (part_at prefix (size_of prefix - 1))
    (all_within (offset_records_of prefix) inside (records_within options [] prefix bytes fits sound)))
    (step_within options prefix rest (length bytes) (AreBytes-drop (size_of prefix) bytes fits) (omega (arith, length-drop (size_of prefix) bytes))
    (next_step options prefix rest) refl)
  where
    all_within : (records : List OffsetRecord) → size_of prefix ≤ length bytes → AreWithin (size_of prefix) records → AreWithin (length bytes) records
    all_within [] le all = tt
    all_within (p ∷ records) le all = (omega (arith, le, all.0), all_within records le all.1)

-- The offset of an error of a stream is not after the bytes that are checked.
pub refused_inside : (options : ReadOptions) (bytes : List ℕ) (offset : ℕ) (reason : Reason) → AreBytes bytes → IsRefusedAt options bytes offset reason
    → offset ≤ length (within_limit bytes)
refused_inside options bytes offset reason fits (inl fault) =
    subst (IsWithin (length (within_limit bytes))) fault.fault
    (after_within options fault.prefix (within_limit bytes) (AreBytes-take file_limit bytes fits) fault.sound)
refused_inside options bytes offset reason fits (inr (inl after)) =
    let its = after.1 in
    let first = prefix_first options [] its.prefix (within_limit bytes) (AreBytes-take file_limit bytes fits) its.sound in
    let here = its.here in
    omega (arith, ap length first.1, length-append (prefix_bytes its.prefix) first.0, here)
refused_inside options bytes offset reason fits (inr (inr long)) =
    let here : offset ≡ file_limit = long.1 in
    let many : file_limit < length bytes = long.2 in
    omega (arith, here, many, length-take file_limit bytes)

pub judged_inside : (options : ReadOptions) (bytes : List ℕ) (offset : ℕ) (reason : Reason) → AreBytes bytes
    → IsJudged options bytes (refusal offset reason) → (offset ≤ length bytes) × (offset ≤ file_limit)
judged_inside options bytes offset reason fits (inl refused) =
    let inside = refused_inside options bytes offset reason fits refused in
    (omega (arith, inside, length-take file_limit bytes), omega (arith, inside, length-take file_limit bytes))
judged_inside options bytes offset reason fits (inr cut) =
    let here : offset ≡ length bytes = cut.1 in
    let few : length bytes ≤ file_limit = cut.2.0 in
    (omega (arith, here), omega (arith, here, few))
