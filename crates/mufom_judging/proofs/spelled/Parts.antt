-- The parts of a module's file as steps, one part after another.
use Rattle.std.proofs.Common.{◌≡◌, ◌⊎◌, ℕ, zero, suc, ◌+◌, ◌-◌, ◌<◌, ◌≤◌, Bool, true, false, cond, not, ◌==◌, ◌&&◌, nat_lt, List, [], ◌∷◌, ◌++◌}
use Rattle.std.proofs.Common.{length, Option, Some, None, refl, sym, ap, subst, ◌∙◌, inl, inr, arith, append_assoc, append-nil, filter_map, eq-eqb}
use Rattle.std.proofs.Common.{ne_eqb, length-append, IfSome, ltb-true}
use Rattle.std.specs.List.{last_or, cons_option}
use Rattle.std.specs.Option.{option_or}
use Rattle.std.proofs.lemmas.Bool.{not_from_true, not_from_false}
use Rattle.mufom_numbers.specs.declared.reason.Reason.TheVariants as why
use Rattle.mufom_records.specs.declared.record.Mode.TheVariants as mode
use Rattle.mufom_records.specs.Fields.{first_of}
use Rattle.mufom_records.specs.Layouts.{IsWholeRecord}
use Rattle.mufom_records.specs.Reading.{record_within, next_seen}
use Rattle.mufom_records.proofs.Exact.{first_of-append}
use Rattle.mufom_debug.specs.Marks.{joined}
use Rattle.mufom_module.specs.SpelledRecords.{SpelledRecord, bytes_of}
use Rattle.mufom_module.specs.RecordParts.{Part, number_of, stands_in, opens_items, begins_item, mode_of, items_mode}
use Rattle.mufom_module.specs.Grammar.{offsets_in, StandAt, AreWhole, ends_before_debug, debug_offset}
use Rattle.mufom_judging.specs.Prefixes.{Step, raw, read, prefix_bytes, size_of, records_of, offsets_of, Extent, Location, in_part, at_end}
use Rattle.mufom_judging.specs.Prefixes.{first_present, part_among, parts_in_order, part_at, location_by, location_after, is_raw, awaits_items}
use Rattle.mufom_judging.specs.Prefixes.{body_mode, as_step, raw_step, step_at, is_module_end, is_ended, bytes_to_debug}
use Rattle.mufom_judging.specs.Faults.{Fault, fault_if, fault_for, rule_broken, part_record_fault, record_fault, whole_fault, ended_fault, ended_part_fault}
use Rattle.mufom_judging.specs.Judging.{IsSoundFrom}
use Rattle.mufom_judging.proofs.BlockKinds.{ends-kinds, deep-kinds}
use Rattle.mufom_judging.proofs.ended.Walk.{bytes-append, size-append, records-append}
use Rattle.mufom_judging.proofs.ended.Header.{last-append, ended-read, ended-raw, offsets-append, after_header}
use Rattle.mufom_judging.proofs.ended.Seen.{seen_later, IsOutside, seen_as, no_records}
use Rattle.mufom_judging.proofs.ended.Parts.{IsKept, KeptFrom, AllInside, location_inside, extent, not_end, no_offset}
use Rattle.mufom_judging.proofs.ended.Chunks.{is_within, is_after}
use Rattle.mufom_judging.proofs.ended.Stated.{first_at}
use Rattle.mufom_judging.proofs.spelled.Begin.{record_some, begins_grown}
use Rattle.mufom_judging.proofs.spelled.Walk.{steps_of, raw_steps, steps_bytes, steps_records, raw_bytes, raw_none}
use Rattle.mufom_judging.proofs.spelled.Walk.{IsStep, sound_step, sound-append, next_within}
use Rattle.mufom_records.specs.declared.options.ReadOptions.{ReadOptions}

-- ---- a place in a part

-- what holds inside a part
record Inside (from to : ℕ) (all : List ℕ) (before : List Step) : Type 0 where
  many : 10 ≤ length before
  offsets : offsets_of before ≡ all
  begun : from ≤ size_of before
  unended : is_ended before ≡ false
  whole : size_of before < to → ended_part_fault before ≡ None

-- no part ends inside a part
none_inside : (part : Part) (from to : ℕ) (all : List ℕ) (prefix : List Step) → AllInside part from to all → offsets_of prefix ≡ all
    → from < size_of prefix → size_of prefix < to → ended_part_fault prefix ≡ None
none_inside part from to all prefix within offsets low high =
    let offset : part_at prefix (size_of prefix - 1) ≡ Some (extent part from to) =
    ap (λ ws. part_among parts_in_order ws (size_of prefix - 1)) offsets ∙ within (size_of prefix - 1) (omega arith) (omega arith) in
    ap (λ (o : Option Extent). ended_fault prefix o) offset ∙ ap (λ b. cond b (whole_fault part prefix) None) (ne_eqb to (size_of prefix) (λ same. omega arith))

-- ---- bytes that are not read as records

raw_is_step : (options : ReadOptions) (part : Part) (from to : ℕ) (all : List ℕ) (before : List Step) (b : ℕ) (after : List ℕ)
    → AllInside part from to all → is_raw options.debug part ≡ true
    → Inside from to all before → size_of before < to → IsStep options before (raw b) after
raw_is_step options part from to all before b after within is at below =
    let rest = b ∷ after in
    let offset = location_inside part from to all before within at.many at.offsets at.begun below in
    record {
      unended = at.unended;
      whole = at.whole below;
      own = refl;
      next = ap (λ (q : Location). step_at options before q rest) offset
          ∙ ap (λ t. cond t (raw_step rest) (as_step (size_of before) rest (record_within (bytes_to_debug options before)
          (body_mode options before (extent part from to) rest) rest))) is;
    }

raw_inside : (part : Part) (from to : ℕ) (all : List ℕ) (before : List Step) (b : ℕ) → AllInside part from to all → Inside from to all before
    → Inside from to all (before ++ raw b ∷ [])
raw_inside part from to all before b within at =
    let prefix = before ++ raw b ∷ [] in
    let size : size_of prefix ≡ size_of before + 1 = size-append before (raw b ∷ []) in
    let offsets = offsets-append before (raw b ∷ []) ∙ append-nil (offsets_of before) ∙ at.offsets in
    record {
      many = omega (arith, at.many, length-append before (raw b ∷ []));
      offsets = offsets;
      begun = omega (arith, at.begun, size);
      unended = ended-raw before b ∙ at.unended;
      whole = λ below. none_inside part from to all prefix within offsets (omega (arith, at.begun, size)) below;
    }

raw_sound : (options : ReadOptions) (part : Part) (from to : ℕ) (all : List ℕ) (before : List Step) (bytes after : List ℕ) → AllInside part from to all
    → is_raw options.debug part ≡ true
    → Inside from to all before → size_of before + length bytes ≡ to → IsSoundFrom options before (raw_steps bytes) (bytes ++ after)
raw_sound options part from to all before [] after within is at total = tt
raw_sound options part from to all before (b ∷ bytes) after within is at total =
    sound_step options before (raw b) (raw_steps bytes) (bytes
    ++ after) (raw_is_step options part from to all before b (bytes ++ after) within is at (omega arith))
    (raw_sound options part from to all (before ++ raw b ∷ []) bytes after within is (raw_inside part from to all before b within at)
    (let size = size-append before (raw b ∷ []) in omega arith))

-- ---- records

-- records of this part do not end the module
abbrev pub IsPlain : Part → Type 0
IsPlain part = (number_of part == 7) ≡ false

no_rule : (prefix : List Step) (p : SpelledRecord) → IsKept (records_of prefix) p → rule_broken prefix p ≡ None
no_rule prefix p keeps =
    let nested = ends-kinds prefix p.row ∙ keeps.nested in
    let deep = deep-kinds prefix p.row ∙ keeps.shallow in
    (λ i. cond (keeps.new i) (Some why.DuplicateIndex) (cond (keeps.known i) (Some why.UnknownIndex) (cond (keeps.once i) (Some why.DuplicateValue)
    (cond (keeps.aligned i) (Some why.BadAlignment) (cond (keeps.placed i) (Some why.NoSection) (cond (keeps.counter i) (Some why.BadP)
    (cond (nested i) (Some why.BlockNesting) (cond (deep i) (Some why.Depth) None))))))))

no_fault_here : (part : Part) (from to : ℕ) (before : List Step) (p : SpelledRecord) → size_of before + length p.bytes ≤ to → stands_in part p.row
    ≡ true → IsKept (records_of before) p
    → part_record_fault before (extent part from to) (size_of before) p ≡ None
no_fault_here part from to before p below own keeps =
    let start = size_of before in
    let short : nat_lt to (start + length p.bytes) ≡ false = not_above to (start + length p.bytes) below in
    let its : not (stands_in part p.row) ≡ false = not_from_true (stands_in part p.row) own in
    let kept = no_rule before p keeps in
    (λ i. option_or (fault_if (short i) start why.PartGap) (option_or (fault_if (its i) start why.WrongPart) (fault_for start (kept i))))
  where
    not_above : (a b : ℕ) → b ≤ a → nat_lt a b ≡ false
    not_above a b h = grind arith

-- the mode in which the record is read
mode_here : (options : ReadOptions) (items a b : Bool) (p : SpelledRecord) (rest : List ℕ) (next : Option ℕ) → (a && b) ≡ items
    → IsWholeRecord (mode_of options items p.bytes) p.row p.bytes next
    → IsWholeRecord (cond (a && (b && begins_item (p.bytes ++ rest))) (items_mode options) mode.Body) p.row p.bytes next
mode_here options items a b p rest next flag is =
    let some = record_some options (items && begins_item p.bytes) p.row p.bytes next is in
    let same : (items && begins_item p.bytes) ≡ (a && (b && begins_item (p.bytes ++ rest))) =
    (λ i. sym flag i && begins_item p.bytes) ∙ and_assoc a b (begins_item p.bytes) ∙ (λ i. a && (b && sym (begins_grown p.bytes rest some) i)) in
    subst (λ (t : Bool). IsWholeRecord (cond t (items_mode options) mode.Body) p.row p.bytes next) same is
  where
    and_assoc : (x y z : Bool) → ((x && y) && z) ≡ (x && (y && z))
    and_assoc true y z = refl
    and_assoc false y z = refl

-- items may follow these steps
abbrev awaiting : ℕ → List Step → Bool
awaiting from before = not (size_of before == from) && awaits_items (last_or None (records_of before))

-- what is around a part with these offsets: the debug part does not begin in it, its records see these bytes after it, and the
-- stream reaches beyond the start of the debug part
pub record Around (options : ReadOptions) (all : List ℕ) (from to : ℕ) (seen after : List ℕ) : Type 0 where
  pub outside : IsOutside from to (debug_offset all)
  pub sees : from < to → first_of (seen_later options all to after) None ≡ first_of seen None
  pub deep : ends_before_debug options all ≡ true → debug_offset all < to + length after

-- a record ends before the debug part, which begins in the stream
within_bounds : (options : ReadOptions) (all : List ℕ) (from to : ℕ) (seen after : List ℕ) (before : List Step) (text own : List ℕ)
    → Around options all from to seen after → offsets_of before ≡ all → from ≤ size_of before → size_of before + length text + length own ≡ to
    → IfSome (bytes_to_debug options before) (λ n. (length text ≤ n) × (n < length (text ++ (own ++ after))))
within_bounds options all from to seen after before text own around offsets begun total =
    subst (λ (ws : List ℕ). IfSome (cond (ends_before_debug options ws && nat_lt (size_of before) (debug_offset ws))
    (Some (debug_offset ws - size_of before)) None) (λ n. (length text ≤ n) × (n < length (text ++ (own ++ after))))) (sym offsets)
    (by_tests (ends_before_debug options all) (nat_lt (size_of before) (debug_offset all)) refl refl)
  where
    by_tests : (t b : Bool) → ends_before_debug options all ≡ t → nat_lt (size_of before) (debug_offset all) ≡ b
        → IfSome (cond (t && b) (Some (debug_offset all - size_of before)) None) (λ n. (length text ≤ n) × (n < length (text ++ (own ++ after))))
    by_tests false b ends below = tt
    by_tests true false ends below = tt
    by_tests true true ends below =
        let low = ltb-true (size_of before) (debug_offset all) below in
        let deep = around.deep ends in
        let lengths = length-append text (own ++ after) in
        let more = length-append own after in
        elim around.outside [
          | inl none ↦ absurd (omega (arith, low, none))
          | inr placed ↦ elim placed [
            | inl before_it ↦ absurd (omega (arith, low, before_it, begun))
            | inr after_it ↦ (omega (arith, after_it, total, low), omega (arith, deep, total, lengths, more, low))
          ]
        ]

read_is_step : (options : ReadOptions) (part : Part) (from to : ℕ) (all : List ℕ) (items : Bool) (before : List Step) (p : SpelledRecord)
    (own_bytes seen after : List ℕ) → AllInside part from to all → is_raw options.debug part ≡ false → IsPlain part
    → Inside from to all before → Around options all from to seen after → awaiting from before ≡ items → size_of before < to
    → size_of before + length p.bytes + length own_bytes ≡ to → stands_in part p.row ≡ true → IsKept (records_of before) p
    → IsWholeRecord (mode_of options items p.bytes) p.row p.bytes (first_of (own_bytes ++ seen) None)
    → IsStep options before (read (size_of before) p) (own_bytes ++ after)
read_is_step options part from to all items before p own_bytes seen after within is plain at around flag below total own keeps whole_p =
    let rest = p.bytes ++ (own_bytes ++ after) in
    let e = extent part from to in
    let offset = location_inside part from to all before within at.many at.offsets at.begun below in
    let m = body_mode options before e rest in
    let some = record_some options (items && begins_item p.bytes) p.row p.bytes (first_of (own_bytes ++ seen) None) whole_p in
    let seen_is : next_seen (bytes_to_debug options before) (length p.bytes) rest ≡ first_of (own_bytes ++ seen) None =
    seen_as options before all from to p.bytes own_bytes after at.offsets around.outside at.begun (omega (arith, some)) total
    ∙ first_of-append own_bytes (seen_later options all to after) None ∙ ap (first_of own_bytes) (around.sees (omega (arith, at.begun, below)))
    ∙ sym (first_of-append own_bytes seen None) in
    let whole_here = subst (λ (n : Option ℕ). IsWholeRecord (mode_of options items p.bytes) p.row p.bytes n) (sym seen_is) whole_p in
    record {
      unended = at.unended;
      whole = at.whole below;
      own = ap (λ (q : Location). record_fault before q (size_of before) p) offset
          ∙ no_fault_here part from to before p (omega (arith, total)) own keeps;
      next = next_within options before (in_part e) (bytes_to_debug options before) m p (own_bytes ++ after) offset
          (ap (λ t. cond t (raw_step rest) (as_step (size_of before) rest (record_within (bytes_to_debug options before) m rest))) is)
          (mode_here options items (not (size_of before == from)) (awaits_items (last_or None (records_of before))) p (own_bytes ++ after)
          (next_seen (bytes_to_debug options before) (length p.bytes) rest) flag whole_here)
          (within_bounds options all from to seen after before p.bytes own_bytes around at.offsets at.begun total);
    }

read_inside : (part : Part) (from to : ℕ) (all : List ℕ) (before : List Step) (p : SpelledRecord) → AllInside part from to all → IsPlain part
    → Inside from to all before → stands_in part p.row ≡ true → 1 ≤ length p.bytes
    → Inside from to all (before ++ read (size_of before) p ∷ [])
read_inside part from to all before p within plain at own some =
    let it = read (size_of before) p in
    let prefix = before ++ it ∷ [] in
    let size : size_of prefix ≡ size_of before + length p.bytes = size-append before (it ∷ [])
    ∙ ap (λ (l : List ℕ). size_of before + length l) (append-nil p.bytes) in
    let none : offsets_of (it ∷ []) ≡ [] = ap (λ (o : Option ℕ). filter_map (λ (y : Option ℕ). y) (o ∷ [])) (no_offset part p.row own) in
    let offsets = offsets-append before (it ∷ []) ∙ (λ i. at.offsets i ++ none i) ∙ append-nil all in
    record {
      many = omega (arith, at.many, length-append before (it ∷ []));
      offsets = offsets;
      begun = omega (arith, at.begun, size);
      unended = ended-read before (size_of before) p ∙ not_end part p.row plain own;
      whole = λ below. none_inside part from to all prefix within offsets (omega (arith, at.begun, size)) below;
    }

awaits_next : (from : ℕ) (before : List Step) (p : SpelledRecord) → from ≤ size_of before → 1 ≤ length p.bytes
    → awaiting from (before ++ read (size_of before) p ∷ []) ≡ opens_items p.row
awaits_next from before p begun some =
    let it = read (size_of before) p in
    let size : size_of (before ++ it ∷ []) ≡ size_of before + length p.bytes = size-append before (it ∷ [])
    ∙ ap (λ (l : List ℕ). size_of before + length l) (append-nil p.bytes) in
    let after : not (size_of (before ++ it ∷ []) == from) ≡ true =
    not_from_false _ (ne_eqb (size_of (before ++ it ∷ [])) from (λ same. omega (arith, size, begun, some))) in
    let last : awaits_items (last_or None (records_of (before ++ it ∷ []))) ≡ opens_items p.row =
    ap (λ ps. awaits_items (last_or None ps)) (records-append before (it ∷ [])) ∙ ap (λ o. awaits_items o) (last-append None (records_of before) p) in
    (λ i. after i && last i)

read_sound : (options : ReadOptions) (part : Part) (from to : ℕ) (all : List ℕ) (items : Bool) (before : List Step) (records : List SpelledRecord)
    (seen after : List ℕ) → AllInside part from to all → is_raw options.debug part ≡ false → IsPlain part
    → Inside from to all before → Around options all from to seen after → awaiting from before ≡ items → AreWhole options items records seen
    → KeptFrom part (records_of before) records
    → size_of before + length (bytes_of records) ≡ to
    → IsSoundFrom options before (steps_of (size_of before) records) (bytes_of records ++ after)
read_sound options part from to all items before [] seen after within is plain at around flag are own total = tt
read_sound options part from to all items before (p ∷ records) seen after within is plain at around flag are own total =
    let it = read (size_of before) p in
    let prefix = before ++ it ∷ [] in
    let rest = bytes_of records ++ after in
    let some = record_some options (items && begins_item p.bytes) p.row p.bytes (first_of (bytes_of records ++ seen) None) are.0 in
    let all_in = length-append p.bytes (bytes_of records) in
    let size : size_of prefix ≡ size_of before + length p.bytes = size-append before (it ∷ [])
    ∙ ap (λ (l : List ℕ). size_of before + length l) (append-nil p.bytes) in
    let step = read_is_step options part from to all items before p (bytes_of records) seen after within is plain at around flag
    (omega (arith, all_in, some, total)) (omega (arith, all_in, total)) own.0 own.1 are.0 in
    let later = read_sound options part from to all (opens_items p.row) prefix records seen after within is plain
    (read_inside part from to all before p within plain at own.0 some) around
    (awaits_next from before p at.begun some) are.1 (subst (λ (l : List SpelledRecord). KeptFrom part l records)
    (sym (records-append before (it ∷ []))) own.2) (omega (arith, size, all_in, total)) in
    subst (λ (l : List ℕ). IsSoundFrom options before (steps_of (size_of before) (p ∷ records)) l) (sym (append_assoc p.bytes (bytes_of records) after))
    (sound_step options before it (steps_of (size_of before + length p.bytes) records) rest step
    (subst (λ (n : ℕ). IsSoundFrom options prefix (steps_of n records) rest) size later))

-- ---- what fills a part

-- what holds between parts
pub record Joint (all : List ℕ) (before : List Step) : Type 0 where
  pub many : 10 ≤ length before
  pub offsets : offsets_of before ≡ all
  pub unended : is_ended before ≡ false
  pub whole : ended_part_fault before ≡ None

-- steps that fill a part with these bytes
pub record Content (options : ReadOptions) (all : List ℕ) (part : Part) (before own : List Step) (bytes after : List ℕ) : Type 0 where
  pub goes_on : AllInside part (size_of before) (size_of before + length bytes) all → Joint all before
      → IsSoundFrom options before own (bytes ++ after)
  pub its_bytes : prefix_bytes own ≡ bytes
  pub none : length bytes ≡ 0 → own ≡ []
  pub no_offsets : offsets_of own ≡ []
  pub unended : is_ended before ≡ false → is_ended (before ++ own) ≡ false
  pub whole : whole_fault part (before ++ own) ≡ None

joint_inside : (from to : ℕ) (all : List ℕ) (before : List Step) → Joint all before → from ≡ size_of before → Inside from to all before
joint_inside from to all before at same = record { many = at.many; offsets = at.offsets; begun = omega arith; unended = at.unended; whole = λ _. at.whole }

ended-raws : (before : List Step) (bytes : List ℕ) → is_ended (before ++ raw_steps bytes) ≡ is_ended before
ended-raws before bytes =
    ap (λ (ps : List SpelledRecord). is_ended_of ps) (records-append before (raw_steps bytes) ∙ ap (λ l. records_of before ++ l) (raw_none bytes)
    ∙ append-nil (records_of before))
  where
    is_ended_of : List SpelledRecord → Bool
    is_ended_of ps = ends (last_or None ps) where
      ends : Option SpelledRecord → Bool
      ends None = false
      ends (Some p) = is_module_end p.row

pub raw_content : (options : ReadOptions) (all : List ℕ) (part : Part) (before : List Step) (bytes after : List ℕ) → is_raw options.debug part ≡ true
    → whole_fault part (before ++ raw_steps bytes) ≡ None → Content options all part before (raw_steps bytes) bytes after
raw_content options all part before bytes after is whole = record {
  goes_on = λ within at. raw_sound options part (size_of before) (size_of before + length bytes) all before bytes after within is
      (joint_inside (size_of before) (size_of before + length bytes) all before at refl) refl;
  its_bytes = raw_bytes bytes;
  none = λ h. ap raw_steps (empty bytes h);
  no_offsets = ap offsets_in (raw_none bytes);
  unended = λ open_. ended-raws before bytes ∙ open_;
  whole = whole;
}
  where
    empty : (l : List ℕ) → length l ≡ 0 → l ≡ []
    empty [] h = refl
    empty (b ∷ l) h = absurd (omega arith)

no_offset_in : (part : Part) (before records : List SpelledRecord) → KeptFrom part before records → offsets_in records ≡ []
no_offset_in part before [] own = refl
no_offset_in part before (p ∷ records) own = ap (λ o. cons_option o (offsets_in records)) (no_offset part p.row own.0)
    ∙ no_offset_in part (before ++ p ∷ []) records own.2

ended-reads : (part : Part) (before : List Step) (at : ℕ) (earlier records : List SpelledRecord) → IsPlain part → KeptFrom part earlier records
    → is_ended before ≡ false → is_ended (before ++ steps_of at records) ≡ false
ended-reads part before at earlier [] plain own open_ = ap (λ l. is_ended l) (append-nil before) ∙ open_
ended-reads part before at earlier (p ∷ records) plain own open_ =
    ap (λ l. is_ended l) (sym (append_assoc before (read at p ∷ []) (steps_of (at + length p.bytes) records)))
    ∙ ended-reads part (before ++ read at p ∷ []) (at + length p.bytes) (earlier ++ p ∷ []) records plain own.2 (ended-read before at p
    ∙ not_end part p.row plain own.0)

pub read_content : (options : ReadOptions) (all : List ℕ) (part : Part) (before : List Step) (records : List SpelledRecord) (seen after : List ℕ)
    → is_raw options.debug part ≡ false → IsPlain part → Around options all (size_of before) (size_of before + length (bytes_of records)) seen after
    → AreWhole options false records seen → KeptFrom part (records_of before) records
    → whole_fault part (before ++ steps_of (size_of before) records) ≡ None
    → Content options all part before (steps_of (size_of before) records) (bytes_of records) after
read_content options all part before records seen after is plain around are own whole = record {
  goes_on = λ within at. read_sound options part (size_of before) (size_of before + length (bytes_of records)) all false before records seen after
      within is plain
      (joint_inside (size_of before) (size_of before + length (bytes_of records)) all before at refl) around
      (ap (λ b. not b && awaits_items (last_or None (records_of before))) (eq-eqb (size_of before) (size_of before) refl)) are own refl;
  its_bytes = steps_bytes (size_of before) records;
  none = λ h. ap (steps_of (size_of before)) (no_records options false records seen are h);
  no_offsets = ap offsets_in (steps_records (size_of before) records) ∙ no_offset_in part (records_of before) records own;
  unended = λ open_. ended-reads part before (size_of before) (records_of before) records plain own open_;
  whole = whole;
}

-- ---- all parts

-- contents of the parts, one after another, with these bytes after the last
abbrev pub Contents : ReadOptions → List ℕ → List Part → List Step → List (List Step) → List (List ℕ) → List ℕ → Type 0
Contents options all [] before [] [] after = Unit {0}
Contents options all (part ∷ parts) before (own ∷ contents) (bytes ∷ texts) after = Content options all part before own bytes (joined texts ++ after)
    × Contents options all parts (before ++ own) contents texts after
Contents options all _ before _ _ after = ⊥

-- a sound prefix up to the end of the parts
pub record Parted (options : ReadOptions) (all : List ℕ) (before : List Step) (contents : List (List Step)) (texts : List (List ℕ))
    (after : List ℕ) : Type 0 where
  pub sound : IsSoundFrom options before (joined contents) (joined texts ++ after)
  pub joint : Joint all (before ++ joined contents)
  pub place : location_after (before ++ joined contents) ≡ at_end
  pub bytes : prefix_bytes (joined contents) ≡ joined texts

-- the parts after these steps are those
abbrev pub Places : List ℕ → List Part → List ℕ → ℕ → Type 0
Places all parts offsets from = (at : ℕ) → from ≤ at → part_among parts_in_order all at ≡ part_among parts offsets at

some_there : (bytes : List ℕ) (w at : ℕ) → 1 ≤ length bytes → (w ≡ at) ⊎ ((w ≡ 0) × (bytes ≡ [])) → w ≡ at
some_there bytes w at some (inl here) = here
some_there bytes w at some (inr none) = absurd (let e = ap length none.1 in omega arith)

within_part : (all : List ℕ) (part : Part) (parts : List Part) (w n : ℕ) (offsets bytes : List ℕ) → Places all (part ∷ parts) (w ∷ offsets) n
    → (w ≡ n) ⊎ ((w ≡ 0) × (bytes ≡ [])) → 1 ≤ n → first_present offsets ≡ n + length bytes
    → AllInside part n (n + length bytes) all
within_part all part parts w n offsets bytes offsets_named stands some first = λ at low high.
    let here : w ≡ n = some_there bytes w n (omega arith) stands in
    let test = is_within w at (first_present offsets) (λ none. omega arith) (omega arith) (omega arith) in
    offsets_named at low ∙ ap (λ b. cond b (Some (record { part = part; from = w; to = first_present offsets })) (part_among parts offsets at)) test
    ∙ (λ i. Some (record { part = part; from = here i; to = first i }))

places_after : (all : List ℕ) (part : Part) (parts : List Part) (w n m : ℕ) (offsets : List ℕ) → Places all (part ∷ parts) (w ∷ offsets) n → n ≤ m
    → first_present offsets ≡ m → Places all parts offsets m
places_after all part parts w n m offsets offsets_named low first = λ at from.
    offsets_named at (omega arith) ∙ ap (λ b. cond b (Some (record { part = part; from = w; to = first_present offsets }))
    (part_among parts offsets at)) (is_after w at (first_present offsets) (omega arith))

-- after a part
joint_after : (options : ReadOptions) (all : List ℕ) (part : Part) (before own : List Step) (bytes after : List ℕ)
    → (c : Content options all part before own bytes after) → AllInside part (size_of before) (size_of before + length bytes) all
    → Joint all before → (count : ℕ) → length bytes ≡ count → Joint all (before ++ own)
joint_after options all part before own bytes after c within at zero count =
    subst (λ (l : List Step). Joint all l) (sym (append-nil before) ∙ ap (λ l. before ++ l) (sym (c.none count))) at
joint_after options all part before own bytes after c within at (suc n) count =
    let grown : offsets_of (before ++ own) ≡ all = offsets-append before own ∙ (λ i. at.offsets i ++ c.no_offsets i) ∙ append-nil all in
    let size : size_of (before ++ own) ≡ size_of before + length bytes = size-append before own ∙ ap (λ (l : List ℕ). size_of before + length l) c.its_bytes in
    let offset : part_at (before ++ own) (size_of (before ++ own) - 1) ≡ Some (extent part (size_of before) (size_of before + length bytes)) =
    ap (λ ws. part_among parts_in_order ws (size_of (before ++ own) - 1)) grown ∙ within (size_of (before ++ own) - 1) (omega arith) (omega arith) in
    record {
      many = omega (arith, at.many, length-append before own);
      offsets = grown;
      unended = c.unended at.unended;
      whole = ap (λ (o : Option Extent). ended_fault (before ++ own) o) offset
          ∙ either_none (size_of before + length bytes == size_of (before ++ own)) (whole_fault part (before ++ own)) c.whole;
    }
  where
    either_none : (b : Bool) (o : Option Fault) → o ≡ None → cond b o None ≡ None
    either_none true o h = h
    either_none false o h = refl

pub walk_contents : (options : ReadOptions) (all : List ℕ) (parts : List Part) (offsets : List ℕ) (before : List Step) (contents : List (List Step))
    (texts : List (List ℕ)) (after : List ℕ) → Places all parts offsets (size_of before)
    → StandAt offsets (size_of before) texts → 1 ≤ size_of before → Contents options all parts before contents texts after → Joint all before
    → Parted options all before contents texts after
walk_contents options all [] offsets before [] [] after offsets_named stand some fill at =
    let same = append-nil before in
    record {
      sound = tt;
      joint = subst (λ (l : List Step). Joint all l) (sym same) at;
      place = ap location_after same ∙ after_header before at.many ∙ ap (λ ws. location_by (part_among parts_in_order ws (size_of before))) at.offsets
          ∙ ap location_by (offsets_named (size_of before) (omega arith));
      bytes = refl;
    }
walk_contents options all [] offsets before [] (bytes ∷ texts) after offsets_named stand some fill at = absurd fill
walk_contents options all [] offsets before (own ∷ contents) texts after offsets_named stand some fill at = absurd fill
walk_contents options all (part ∷ parts) offsets before [] texts after offsets_named stand some fill at = absurd fill
walk_contents options all (part ∷ parts) offsets before (own ∷ contents) [] after offsets_named stand some fill at = absurd fill
walk_contents options all (part ∷ parts) [] before (own ∷ contents) (bytes ∷ texts) after offsets_named stand some fill at = absurd stand
walk_contents options all (part ∷ parts) (w ∷ offsets) before (own ∷ contents) (bytes ∷ texts) after offsets_named stand some fill at =
    let c = fill.0 in
    let rest = joined texts ++ after in
    let first = first_at offsets (size_of before + length bytes) texts (omega arith) stand.1 in
    let within = within_part all part parts w (size_of before) offsets bytes offsets_named stand.0 some first in
    let size : size_of (before ++ own) ≡ size_of before + length bytes = size-append before own ∙ ap (λ (l : List ℕ). size_of before + length l) c.its_bytes in
    let joint = joint_after options all part before own bytes rest c within at (length bytes) refl in
    let later = walk_contents options all parts offsets (before ++ own) contents texts after
    (places_after all part parts w (size_of before) (size_of (before ++ own)) offsets offsets_named (omega arith) (first ∙ sym size))
    (subst (λ (n : ℕ). StandAt offsets n texts) (sym size) stand.1) (omega arith) fill.1 joint in
    let same = append_assoc before own (joined contents) in
    record {
      sound = subst (λ (l : List ℕ). IsSoundFrom options before (own ++ joined contents) l) (ap (λ l. l ++ rest) c.its_bytes
          ∙ sym (append_assoc bytes (joined texts) after))
          (sound-append options before own (joined contents) rest
          (subst (λ (l : List ℕ). IsSoundFrom options before own (l ++ rest)) (sym c.its_bytes) (c.goes_on within at)) later.sound);
      joint = subst (λ (l : List Step). Joint all l) same later.joint;
      place = ap location_after (sym same) ∙ later.place;
      bytes = bytes-append own (joined contents) ∙ (λ i. c.its_bytes i ++ later.bytes i);
    }
