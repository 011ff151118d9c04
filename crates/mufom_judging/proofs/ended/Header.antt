-- The header at the start of a walk: ten records, and what holds of the offsets in them.
use Rattle.std.proofs.Common.{◌≡◌, ℕ, zero, suc, ◌+◌, ◌<◌, ◌≤◌, Bool, true, false, cond, not, ◌==◌, ◌&&◌, nat_lt, List, [], ◌∷◌, ◌++◌, length, take}
use Rattle.std.proofs.Common.{drop, Option, Some, None, is_none, refl, sym, ap, subst, ◌∙◌, arith, append_assoc, append-nil, lt-ltb, eqb-true, eq-eqb}
use Rattle.std.proofs.Common.{length-append}
use Rattle.std.specs.List.{list_all, last_or}
use Rattle.std.proofs.lemmas.Bool.{not-false, both_ways}
use Rattle.std.proofs.lemmas.List.{drop_at}
use Rattle.std.proofs.lemmas.List.Elements.{filter_map-append}
use Rattle.mufom_numbers.specs.declared.reason.Reason.{Reason}
use Rattle.mufom_records.specs.declared.record.Mode.{Mode}
use Rattle.mufom_records.specs.declared.record.Mode.TheVariants as mode
use Rattle.mufom_records.specs.declared.record.Record.{Record}
use Rattle.mufom_records.specs.declared.record.Record.TheVariants as r
use Rattle.mufom_records.specs.Fields.{first_of}
use Rattle.mufom_records.specs.Layouts.{IsWholeRecord}
use Rattle.mufom_module.specs.SpelledRecords.{SpelledRecord, bytes_of}
use Rattle.mufom_module.specs.RecordParts.{part_of}
use Rattle.mufom_module.specs.Grammar.{AreOfModes, offset_in, offsets_in}
use Rattle.mufom_judging.specs.Prefixes.{Step, raw, read, step_bytes, prefix_bytes, size_of, records_of, offsets_of, Location, in_header, first_present}
use Rattle.mufom_judging.specs.Prefixes.{location_by, part_at, location_after, header_mode, is_module_end, ends_with, is_ended}
use Rattle.mufom_judging.specs.Faults.{fault_if, is_bad_descriptor, is_out_of_order, leaves_gap, offset_fault, header_fault, record_fault, step_fault}
use Rattle.mufom_judging.proofs.ended.Walk.{bytes-append, size-append, records-append, IsRead, IsNextAt, IsWalk, taken, no_fault}
use Rattle.mufom_judging.proofs.ended.Rows.{IsDescriptor, begin_row, descriptor_row, offset_row}
use Rattle.mufom_records.specs.declared.options.ReadOptions.{ReadOptions}

-- ---- small facts

pub last-append : {X : Type 0} (o : Option X) (xs : List X) (x : X) → last_or o (xs ++ x ∷ []) ≡ Some x
last-append o [] x = refl
last-append o (y ∷ xs) x = last-append (Some y) xs x

-- a prefix with one more record has ended exactly if the record ends the module
pub ended-read : (before : List Step) (start : ℕ) (p : SpelledRecord) → is_ended (before ++ read start p ∷ []) ≡ is_module_end p.row
ended-read before start p = ap (λ ps. ends_with (last_or None ps)) (records-append before (read start p ∷ []))
    ∙ ap (λ o. ends_with o) (last-append None (records_of before) p)

pub ended-raw : (before : List Step) (b : ℕ) → is_ended (before ++ raw b ∷ []) ≡ is_ended before
ended-raw before b = ap (λ ps. ends_with (last_or None ps)) (records-append before (raw b ∷ []) ∙ append-nil (records_of before))

pub offsets-append : (a b : List Step) → offsets_of (a ++ b) ≡ offsets_of a ++ offsets_of b
offsets-append a b = ap offsets_in (records-append a b) ∙ filter_map-append (λ p. offset_in p.row) (records_of a) (records_of b)

pub no_fault_if : (test : Bool) (offset : ℕ) (reason : Reason) → fault_if test offset reason ≡ None → test ≡ false
no_fault_if true offset reason h = cc
no_fault_if false offset reason h = refl

-- a record with those bytes of the stream after it
pub record IsHere (m : Mode) (before : List Step) (step : Step) (steps : List Step) : Type 0 where
  pub spelled : SpelledRecord
  pub is_this : step ≡ read (size_of before) spelled
  pub is_whole : IsWholeRecord m spelled.row spelled.bytes (first_of (prefix_bytes steps) None)

pub read_here : (m : Mode) (before : List Step) (step : Step) (steps : List Step)
    → IsRead None m before (prefix_bytes (step ∷ steps)) step (length (step_bytes step)) → IsHere m before step steps
read_here m before step steps is =
    let n = length (step_bytes step) in
    let back : drop n (prefix_bytes (step ∷ steps)) ≡ prefix_bytes steps = drop_at (step_bytes step) (prefix_bytes steps) n refl in
    record {
      spelled = record { row = is.row; bytes = take n (prefix_bytes (step ∷ steps)) };
      is_this = is.is_this;
      is_whole = subst (λ (l : List ℕ). IsWholeRecord m is.row (take n (prefix_bytes (step ∷ steps))) (first_of l None)) back is.is_whole;
    }

-- after fewer than ten steps the header goes on
pub header_location : (prefix : List Step) (k : ℕ) → length prefix ≡ k → k < 10 → location_after prefix ≡ in_header k
header_location prefix k count few =
    let test : nat_lt (length prefix) 10 ≡ true = lt-ltb (length prefix) 10 (omega arith) in
    ap (λ b. cond b (in_header (length prefix)) (location_by (part_at prefix (size_of prefix)))) test ∙ ap in_header count

pub after_header : (prefix : List Step) → 10 ≤ length prefix → location_after prefix ≡ location_by (part_at prefix (size_of prefix))
after_header prefix many =
    let test : nat_lt (length prefix) 10 ≡ false = le-false (length prefix) 10 many in
    ap (λ b. cond b (in_header (length prefix)) (location_by (part_at prefix (size_of prefix)))) test
  where
    le-false : (a b : ℕ) → b ≤ a → nat_lt a b ≡ false
    le-false a b h = grind arith

-- the next record of the header
pub record HeaderStep (options : ReadOptions) (k : ℕ) (before steps : List Step) : Type 0 where
  pub spelled : SpelledRecord
  pub later : List Step
  pub split : steps ≡ read (size_of before) spelled ∷ later
  pub is_whole : IsWholeRecord (header_mode k) spelled.row spelled.bytes (first_of (prefix_bytes later) None)
  pub faultless : header_fault (offsets_of before) (size_of before) (size_of before + length spelled.bytes) spelled.row ≡ None
  pub walk : IsWalk options (before ++ read (size_of before) spelled ∷ []) later
  pub ends : is_ended ((before ++ read (size_of before) spelled ∷ []) ++ later) ≡ true

pub header_step : (options : ReadOptions) (k : ℕ) (before steps : List Step) → length before ≡ k → k < 10 → is_ended before ≡ false
    → is_ended (before ++ steps) ≡ true → IsWalk options before steps
    → HeaderStep options k before steps
header_step options k before [] count few open_ ends walk =
    absurd (both_ways (is_ended before) open_ (ap (λ l. is_ended l) (sym (append-nil before)) ∙ ends))
header_step options k before (step ∷ later) count few open_ ends walk =
    let offset = header_location before k count few in
    let here = read_here (header_mode k) before step later (subst
    (λ (p : Location). IsNextAt options before p (prefix_bytes (step ∷ later)) step (length (step_bytes step))) offset walk.3) in
    let n = length here.spelled.bytes in
    let it = read (size_of before) here.spelled in
    let fault : step_fault before (taken it n) ≡ None = subst (λ (s : Step). step_fault before (taken s (length (step_bytes s))) ≡ None) here.is_this walk.2 in
    record {
      spelled = here.spelled;
      later = later;
      split = ap (λ s. s ∷ later) here.is_this;
      is_whole = here.is_whole;
      faultless = subst (λ (p : Location). record_fault before p (size_of before) here.spelled ≡ None) offset fault;
      walk = subst (λ (s : Step). IsWalk options (before ++ s ∷ []) later) here.is_this walk.4;
      ends = ap (λ l. is_ended l) (append_assoc before (it ∷ []) later) ∙ ap (λ s. is_ended (before ++ s ∷ later)) (sym here.is_this) ∙ ends;
    }

-- ---- the offsets

-- no offset is out of order after those before it
abbrev pub InOrder : List ℕ → List ℕ → Type 0
InOrder earlier [] = Unit {0}
InOrder earlier (w ∷ offsets) = (is_out_of_order earlier w ≡ false) × InOrder (earlier ++ w ∷ []) offsets

abbrev pub modes_from : ℕ → ℕ → List Mode
modes_from k zero = []
modes_from k (suc n) = mode.Offset k ∷ modes_from (suc k) n

-- this number of offset records, from a number on
pub record OffsetRun (options : ReadOptions) (n k : ℕ) (earlier : List ℕ) (before steps : List Step) : Type 0 where
  pub own : List Step
  pub later : List Step
  pub offsets : List ℕ
  pub split : steps ≡ own ++ later
  pub count : length own ≡ n
  pub modes : AreOfModes (modes_from k n) (records_of own) (prefix_bytes later)
  pub bytes : bytes_of (records_of own) ≡ prefix_bytes own
  pub values : offsets_in (records_of own) ≡ offsets
  pub many : length offsets ≡ n
  pub in_order : InOrder earlier offsets
  pub gap : 0 < n → length (earlier ++ offsets) ≡ 8 → first_present (earlier ++ offsets) ≡ size_of (before ++ own)
  pub silent : list_all (λ p. is_none (part_of p.row)) (records_of own) ≡ true
  pub walk : IsWalk options (before ++ own) later
  pub unended : is_ended (before ++ own) ≡ false
  pub ends : is_ended ((before ++ own) ++ later) ≡ true

no_gap : (offsets : List ℕ) (end : ℕ) → leaves_gap offsets end ≡ false → length offsets ≡ 8 → first_present offsets ≡ end
no_gap offsets end h count =
    let test : (length offsets == 8) ≡ true = eq-eqb (length offsets) 8 count in
    let same : not (first_present offsets == end) ≡ false = subst (λ (b : Bool). (b && not (first_present offsets == end)) ≡ false) test h in
    eqb-true (first_present offsets) end (not-false (first_present offsets == end) same)

offset_run_none : (options : ReadOptions) (k : ℕ) (earlier : List ℕ) (before steps : List Step) → is_ended before ≡ false → is_ended (before ++ steps)
    ≡ true → IsWalk options before steps → OffsetRun options 0 k earlier before steps
offset_run_none options k earlier before steps open_ ends walk =
    let same = sym (append-nil before) in
    record {
      own = [];
      later = steps;
      offsets = [];
      split = refl;
      count = refl;
      modes = tt;
      bytes = refl;
      values = refl;
      many = refl;
      in_order = tt;
      gap = λ some all. absurd (omega arith);
      silent = refl;
      walk = subst (λ (l : List Step). IsWalk options l steps) same walk;
      unended = ap (λ l. is_ended l) (append-nil before) ∙ open_;
      ends = ap (λ l. is_ended (l ++ steps)) (append-nil before) ∙ ends;
    }

-- what the checks of an offset record state
record OffsetFacts (earlier : List ℕ) (w end : ℕ) : Type 0 where
  order : is_out_of_order earlier w ≡ false
  gap : leaves_gap (earlier ++ w ∷ []) end ≡ false

offset_facts : (earlier : List ℕ) (w start end : ℕ) → offset_fault earlier w start end ≡ None → OffsetFacts earlier w end
offset_facts earlier w start end h =
    let first = no_fault (fault_if (is_out_of_order earlier w) start _) _ h in
    record {
      order = no_fault_if (is_out_of_order earlier w) start _ first.0;
      gap = no_fault_if (leaves_gap (earlier ++ w ∷ []) end) end _ first.1;
    }

-- the gap is checked after the last offset
gap_of : (n : ℕ) (earlier : List ℕ) (w : ℕ) (offsets : List ℕ) (end : ℕ) (before : List Step) (it : Step) (own : List Step) → length offsets ≡ n
    → length own ≡ n
    → leaves_gap (earlier ++ w ∷ []) end ≡ false → size_of (before ++ it ∷ []) ≡ end
    → (0 < n → length ((earlier ++ w ∷ []) ++ offsets) ≡ 8 → first_present ((earlier ++ w ∷ []) ++ offsets) ≡ size_of ((before ++ it ∷ []) ++ own))
    → 0 < suc n → length (earlier ++ w ∷ offsets) ≡ 8 → first_present (earlier ++ w ∷ offsets) ≡ size_of (before ++ it ∷ own)
gap_of zero earlier w [] end before it [] many count leaves size later some eight = no_gap (earlier ++ w ∷ []) end leaves eight ∙ sym size
gap_of zero earlier w [] end before it (s ∷ own) many count leaves size later some eight = absurd (omega arith)
gap_of zero earlier w (v ∷ offsets) end before it own many count leaves size later some eight = absurd (omega arith)
gap_of (suc n) earlier w offsets end before it own many count leaves size later some eight =
    let values = append_assoc earlier (w ∷ []) offsets in
    ap first_present (sym values) ∙ later (omega arith) (ap length values ∙ eight) ∙ ap size_of (append_assoc before (it ∷ []) own)

pub offset_run : (n k : ℕ) (options : ReadOptions) (earlier : List ℕ) (before steps : List Step) → length before ≡ suc (suc k) → k + n ≡ 8
    → offsets_of before ≡ earlier
    → is_ended before ≡ false → is_ended (before ++ steps) ≡ true → IsWalk options before steps → OffsetRun options n k earlier before steps
offset_run zero k options earlier before steps at all are open_ ends walk = offset_run_none options k earlier before steps open_ ends walk
offset_run (suc n) k options earlier before steps at all are open_ ends walk =
    let next = header_step options (suc (suc k)) before steps at (omega arith) open_ ends walk in
    let it = read (size_of before) next.spelled in
    let prefix = before ++ it ∷ [] in
    let row = offset_row k next.spelled.row next.spelled.bytes (first_of (prefix_bytes next.later) None) next.is_whole in
    let w = row.0 in
    let end = size_of before + length next.spelled.bytes in
    let facts = offset_facts earlier w (size_of before) end
    (subst (λ (l : List ℕ). offset_fault l w (size_of before) end ≡ None) are
    (subst (λ (s : Record). header_fault (offsets_of before) (size_of before) end s ≡ None) row.1 next.faultless)) in
    let long : length prefix ≡ suc (suc (suc k)) = length-append before (it ∷ []) ∙ omega arith in
    let value : offsets_of (it ∷ []) ≡ w ∷ [] = ap (λ (s : Record). offsets_in (record { row = s; bytes = next.spelled.bytes } ∷ [])) row.1 in
    let grown : offsets_of prefix ≡ earlier ++ w ∷ [] = offsets-append before (it ∷ []) ∙ (λ i. are i ++ value i) in
    let open_now : is_ended prefix ≡ false = ended-read before (size_of before) next.spelled ∙ ap is_module_end row.1 in
    let rec = offset_run n (suc k) options (earlier ++ w ∷ []) prefix next.later long (omega arith) grown open_now next.ends next.walk in
    let size : size_of prefix ≡ end = size-append before (it ∷ []) ∙ ap (λ (l : List ℕ). size_of before + length l) (append-nil next.spelled.bytes) in
    let after : bytes_of (records_of rec.own) ++ prefix_bytes rec.later ≡ prefix_bytes next.later = ap (λ l. l ++ prefix_bytes rec.later) rec.bytes
    ∙ sym (bytes-append rec.own rec.later) ∙ ap prefix_bytes (sym rec.split) in
    record {
      own = it ∷ rec.own;
      later = rec.later;
      offsets = w ∷ rec.offsets;
      split = next.split ∙ ap (λ l. it ∷ l) rec.split;
      count = ap suc rec.count;
      modes = (
        subst (λ (l : List ℕ). IsWholeRecord (mode.Offset k) next.spelled.row next.spelled.bytes (first_of l None)) (sym after) next.is_whole,
        rec.modes,
      );
      bytes = ap (λ l. next.spelled.bytes ++ l) rec.bytes;
      values = filter_map-append (λ p. offset_in p.row) (next.spelled ∷ []) (records_of rec.own) ∙ (λ i. value i ++ rec.values i);
      many = ap suc rec.many;
      in_order = (facts.order, rec.in_order);
      gap = gap_of n earlier w rec.offsets end before it rec.own rec.many rec.count facts.gap size rec.gap;
      silent = subst (λ (s : Record). (is_none (part_of s) && list_all (λ p. is_none (part_of p.row)) (records_of rec.own)) ≡ true) (sym row.1) rec.silent;
      walk = subst (λ (l : List Step). IsWalk options l rec.later) (append_assoc before (it ∷ []) rec.own) rec.walk;
      unended = ap (λ l. is_ended l) (sym (append_assoc before (it ∷ []) rec.own)) ∙ rec.unended;
      ends = ap (λ l. is_ended (l ++ rec.later)) (sym (append_assoc before (it ∷ []) rec.own)) ∙ rec.ends;
    }

-- ---- the header

-- the ten records of the header, and the steps after them
pub record HeaderRun (options : ReadOptions) (steps : List Step) : Type 0 where
  pub begin : SpelledRecord
  pub descriptor : SpelledRecord
  pub rest : OffsetRun options 8 0 [] (read 0 begin ∷ read (length begin.bytes) descriptor ∷ []) (drop 2 steps)
  pub split : steps ≡ read 0 begin ∷ read (length begin.bytes) descriptor ∷ drop 2 steps
  pub begins : IsWholeRecord mode.Begin begin.row begin.bytes (first_of (prefix_bytes (read (length begin.bytes) descriptor ∷ drop 2 steps)) None)
  pub describes : IsWholeRecord mode.Descriptor descriptor.row descriptor.bytes (first_of (prefix_bytes (drop 2 steps)) None)
  pub no_bad : is_bad_descriptor descriptor.row ≡ false

descriptor_kept : (options : ReadOptions) (start end : ℕ) (row : Record) → IsDescriptor row → header_fault [] start end row ≡ None
    → is_bad_descriptor row ≡ false
descriptor_kept options start end row is h =
    let its = r.Descriptor is.0 is.1 is.2 in
    let fault : header_fault [] start end its ≡ None = subst (λ (s : Record). header_fault [] start end s ≡ None) is.3 h in
    ap is_bad_descriptor is.3 ∙ no_fault_if (is_bad_descriptor its) start _ fault

pub header_run : (options : ReadOptions) (steps : List Step) → is_ended steps ≡ true → IsWalk options [] steps → HeaderRun options steps
header_run options steps ends walk =
    let one = header_step options 0 [] steps refl (omega arith) refl ends walk in
    let a = read 0 one.spelled in
    let first = begin_row one.spelled.row one.spelled.bytes (first_of (prefix_bytes one.later) None) one.is_whole in
    let open_one : is_ended (a ∷ []) ≡ false = ap is_module_end first.2 in
    let two = header_step options 1 (a ∷ []) one.later refl (omega arith) open_one one.ends one.walk in
    let size : size_of (a ∷ []) ≡ length one.spelled.bytes = ap length (append-nil one.spelled.bytes) in
    let b = read (length one.spelled.bytes) two.spelled in
    let same : read (size_of (a ∷ [])) two.spelled ≡ b = ap (λ (n : ℕ). read n two.spelled) size in
    let second = descriptor_row two.spelled.row two.spelled.bytes (first_of (prefix_bytes two.later) None) two.is_whole in
    let open_two : is_ended (a ∷ b ∷ []) ≡ false = ap is_module_end second.3 in
    let split : steps ≡ a ∷ b ∷ two.later = one.split ∙ ap (λ l. a ∷ l) two.split ∙ ap (λ s. a ∷ s ∷ two.later) same in
    let left : drop 2 steps ≡ two.later = ap (drop 2) split in
    let none : offsets_of (a ∷ []) ≡ [] = ap (λ (s : Record). offsets_in (record { row = s; bytes = one.spelled.bytes } ∷ [])) first.2 in
    let none_two : offsets_of (a ∷ b ∷ []) ≡ [] = offsets-append (a ∷ []) (b ∷ [])
    ∙ (λ i. none i ++ offsets_in (record { row = second.3 i; bytes = two.spelled.bytes } ∷ [])) in
    let later = offset_run 8 0 options [] (a ∷ b ∷ []) two.later refl refl none_two open_two
    (subst (λ (s : Step). is_ended (a ∷ s ∷ two.later) ≡ true) same two.ends) (subst (λ (s : Step). IsWalk options (a ∷ s ∷ []) two.later) same two.walk) in
    record {
      begin = one.spelled;
      descriptor = two.spelled;
      rest = subst (λ (l : List Step). OffsetRun options 8 0 [] (a ∷ b ∷ []) l) (sym left) later;
      split = split ∙ ap (λ l. a ∷ b ∷ l) (sym left);
      begins = subst (λ (l : List ℕ). IsWholeRecord mode.Begin one.spelled.row one.spelled.bytes (first_of l None))
          (ap prefix_bytes (two.split ∙ (λ i. same i ∷ sym left i))) one.is_whole;
      describes = subst (λ (l : List Step). IsWholeRecord mode.Descriptor two.spelled.row two.spelled.bytes (first_of (prefix_bytes l) None))
          (sym left) two.is_whole;
      no_bad = descriptor_kept options (size_of (a ∷ [])) (size_of (a ∷ []) + length two.spelled.bytes) two.spelled.row second
          (subst (λ (l : List ℕ). header_fault l (size_of (a ∷ [])) (size_of (a ∷ []) + length two.spelled.bytes) two.spelled.row ≡ None) none two.faultless);
    }
