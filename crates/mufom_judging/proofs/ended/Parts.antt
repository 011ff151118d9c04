-- One part of a walk: the steps up to the part's end all lie in it.
use Rattle.std.proofs.Common.{◌≡◌, ◌⊎◌, ℕ, ◌+◌, ◌<◌, ◌≤◌, Bool, true, false, cond, not, ◌==◌, ◌&&◌, nat_lt, List, [], ◌∷◌, ◌++◌, length, Option, Some}
use Rattle.std.proofs.Common.{None, refl, sym, ap, subst, ◌∙◌, inl, inr, arith, append_assoc, append-nil, ltb-false, filter_map, length-append, take}
use Rattle.std.specs.List.{last_or, list_all}
use Rattle.std.proofs.lemmas.Bool.{and_parts, and_from, not-false, both_ways, cases_eq, cases_lt}
use Rattle.mufom_numbers.specs.declared.reason.Reason.{Reason}
use Rattle.mufom_numbers.specs.declared.reason.Reason.TheVariants as why
use Rattle.mufom_records.specs.declared.record.Mode.TheVariants as mode
use Rattle.mufom_records.specs.declared.record.Record.{Record}
use Rattle.mufom_records.specs.declared.record.Record.TheVariants as r
use Rattle.mufom_records.specs.Fields.{first_of}
use Rattle.mufom_records.specs.Layouts.{IsWholeRecord}
use Rattle.mufom_module.specs.SpelledRecords.{SpelledRecord, bytes_of}
use Rattle.mufom_module.specs.RecordParts.{Part, number_of, stands_in, opens_items, begins_item, mode_of, items_mode}
use Rattle.mufom_module.specs.Grammar.{offset_in, AreWhole, declares_again, states_again, names_unknown, has_no_section, debug_offset}
use Rattle.mufom_judging.specs.Prefixes.{Step, raw, read, step_bytes, prefix_bytes, size_of, records_of, offset_records_of, offsets_of, Extent, Location}
use Rattle.mufom_judging.specs.Prefixes.{in_part, part_among, parts_in_order, location_by, location_after, is_raw, awaits_items, body_mode}
use Rattle.mufom_judging.specs.Prefixes.{is_module_end, is_ended, bytes_to_debug}
use Rattle.mufom_judging.specs.Faults.{fault_if, fault_for, has_bad_alignment, misplaces_counter, breaks, rule_broken}
use Rattle.mufom_judging.specs.Faults.{part_record_fault, record_fault, step_fault}
use Rattle.mufom_judging.proofs.BlockKinds.{open_kinds, ends_badly_in, is_too_deep_in, ends-kinds, deep-kinds}
use Rattle.mufom_judging.proofs.ended.Walk.{bytes-append, size-append, records-append, IsRaw, IsNextAt, IsWalk, taken, no_fault, IsRead, IsRead}
use Rattle.mufom_judging.proofs.spelled.Begin.{body_begins, items_begin, record_some, record_some}
use Rattle.mufom_judging.proofs.ended.Header.{last-append, ended-read, ended-raw, offsets-append, no_fault_if, after_header}
use Rattle.mufom_records.specs.declared.options.ReadOptions.{ReadOptions}
use Rattle.mufom_records.specs.Reading.{next_seen}
use Rattle.mufom_judging.proofs.ended.Seen.{seen_later, IsOutside, seen_as}
use Rattle.mufom_records.specs.declared.record.Mode.{Mode}
use Rattle.std.proofs.lemmas.List.{take_at}

-- ---- the rules

-- a record keeps to the rules after those before it
pub record IsKept (before : List SpelledRecord) (p : SpelledRecord) : Type 0 where
  pub new : declares_again before p.row ≡ false
  pub known : names_unknown before p ≡ false
  pub once : states_again before p.row ≡ false
  pub aligned : has_bad_alignment p.row ≡ false
  pub placed : has_no_section before p.row ≡ false
  pub counter : misplaces_counter before p ≡ false
  pub nested : ends_badly_in (open_kinds before) p.row ≡ false
  pub shallow : is_too_deep_in (open_kinds before) p.row ≡ false

-- records of a part, each of which keeps to them
abbrev pub KeptFrom : Part → List SpelledRecord → List SpelledRecord → Type 0
KeptFrom part before [] = Unit {0}
KeptFrom part before (p ∷ records) = (stands_in part p.row ≡ true) × IsKept before p × KeptFrom part (before ++ p ∷ []) records

-- they are records of the part
pub own_of : (part : Part) (before records : List SpelledRecord) → KeptFrom part before records → list_all (λ p. stands_in part p.row) records ≡ true
own_of part before [] h = refl
own_of part before (p ∷ records) h = and_from (stands_in part p.row) _ h.0 (own_of part (before ++ p ∷ []) records h.2)

pub cond_none : {X : Type 0} (b : Bool) (x : X) (o : Option X) → cond b (Some x) o ≡ None → (b ≡ false) × (o ≡ None)
cond_none true x o h = absurd cc
cond_none false x o h = (refl, h)

no_rule : (start : ℕ) (o : Option Reason) → fault_for start o ≡ None → o ≡ None
no_rule start None h = refl
no_rule start (Some reason) h = absurd cc

kept : (prefix : List Step) (p : SpelledRecord) → rule_broken prefix p ≡ None → IsKept (records_of prefix) p
kept prefix p h =
    let test = breaks (offset_records_of prefix) (records_of prefix) p in
    let a = cond_none (test why.DuplicateIndex) _ _ h in
    let b = cond_none (test why.UnknownIndex) _ _ a.1 in
    let c = cond_none (test why.DuplicateValue) _ _ b.1 in
    let d = cond_none (test why.BadAlignment) _ _ c.1 in
    let e = cond_none (test why.NoSection) _ _ d.1 in
    let f = cond_none (test why.BadP) _ _ e.1 in
    let g = cond_none (test why.BlockNesting) _ _ f.1 in
    let last = cond_none (test why.Depth) _ _ g.1 in
    record {
      new = a.0;
      known = b.0;
      once = c.0;
      aligned = d.0;
      placed = e.0;
      counter = f.0;
      nested = sym (ends-kinds prefix p.row) ∙ g.0;
      shallow = sym (deep-kinds prefix p.row) ∙ last.0;
    }

-- what the checks of a record in its part state
record RecordFacts (prefix : List Step) (e : Extent) (start : ℕ) (p : SpelledRecord) : Type 0 where
  inside : start + length p.bytes ≤ e.to
  own : stands_in e.part p.row ≡ true
  keeps : IsKept (records_of prefix) p

record_facts : (prefix : List Step) (e : Extent) (start : ℕ) (p : SpelledRecord) → part_record_fault prefix e start p ≡ None → RecordFacts prefix e start p
record_facts prefix e start p h =
    let first = no_fault (fault_if (nat_lt e.to (start + length p.bytes)) start _) _ h in
    let second = no_fault (fault_if (not (stands_in e.part p.row)) start _) _ first.1 in
    record {
      inside = ltb-false e.to (start + length p.bytes) (no_fault_if (nat_lt e.to (start + length p.bytes)) start _ first.0);
      own = not-false (stands_in e.part p.row) (no_fault_if (not (stands_in e.part p.row)) start _ second.0);
      keeps = kept prefix p (no_rule start (rule_broken prefix p) second.1);
    }

-- ---- records of a part are neither offsets nor the end

pub not_end : (part : Part) (row : Record) → (number_of part == 7) ≡ false → stands_in part row ≡ true → is_module_end row ≡ false
not_end part r.ModuleEnd other h = absurd (both_ways (number_of part == 7) other h)
not_end part row other h = refl

pub no_offset : (part : Part) (row : Record) → stands_in part row ≡ true → offset_in row ≡ None
no_offset part (r.Offset n w) h = absurd cc
no_offset part row h = refl

-- ---- one part

-- what holds at a step of a part
pub record Ready (options : ReadOptions) (from to : ℕ) (all : List ℕ) (items : Bool) (before steps : List Step) : Type 0 where
  pub many : 10 ≤ length before
  pub offsets : offsets_of before ≡ all
  pub begun : from ≤ size_of before
  pub inside : size_of before ≤ to
  pub unended : is_ended before ≡ false
  pub ends : is_ended (before ++ steps) ≡ true
  pub flag : (not (size_of before == from) && awaits_items (last_or None (records_of before))) ≡ true → items ≡ true
  pub outside : IsOutside from to (debug_offset all)
  pub walk : IsWalk options before steps

-- the steps of a part that is not read as records, or those of one that is
abbrev pub IsOwn : ReadOptions → Part → Bool → List SpelledRecord → List Step → List ℕ → Type 0
IsOwn options part items before own after = ((is_raw options.debug part ≡ true) × (records_of own ≡ []))
    ⊎ ((is_raw options.debug part ≡ false) × (bytes_of (records_of own) ≡ prefix_bytes own) × AreWhole options items (records_of own) after
    × KeptFrom part before (records_of own))

-- the steps up to the part's end, and those after them
pub record Split (options : ReadOptions) (part : Part) (to : ℕ) (all : List ℕ) (items : Bool) (before steps : List Step) : Type 0 where
  pub own : List Step
  pub later : List Step
  pub split : steps ≡ own ++ later
  pub walk : IsWalk options (before ++ own) later
  pub unended : is_ended (before ++ own) ≡ false
  pub ends : is_ended ((before ++ own) ++ later) ≡ true
  pub size : size_of (before ++ own) ≡ to
  pub offsets : offsets_of own ≡ []
  pub is_own : IsOwn options part items (records_of before) own (seen_later options all to (prefix_bytes later))

raw_or_read : (test : Bool) → (test ≡ true) ⊎ (test ≡ false)
raw_or_read true = inl refl
raw_or_read false = inr refl

pub nothing_own : (options : ReadOptions) (part : Part) (items : Bool) (before : List SpelledRecord) (after : List ℕ)
    → IsOwn options part items before [] after
nothing_own options part items before after = elim (raw_or_read (is_raw options.debug part)) [
  | inl yes_ ↦ inl (yes_, refl)
  | inr no_ ↦ inr (no_, refl, tt, tt)
]

-- at the part's end
pub at_its_end : (options : ReadOptions) (part : Part) (from to : ℕ) (all : List ℕ) (items : Bool) (before steps : List Step)
    → Ready options from to all items before steps → size_of before ≡ to
    → Split options part to all items before steps
at_its_end options part from to all items before steps ready here =
    let same = append-nil before in
    record {
      own = [];
      later = steps;
      split = refl;
      walk = subst (λ (l : List Step). IsWalk options l steps) (sym same) ready.walk;
      unended = ap (λ l. is_ended l) same ∙ ready.unended;
      ends = ap (λ l. is_ended (l ++ steps)) same ∙ ready.ends;
      size = ap size_of same ∙ here;
      offsets = refl;
      is_own = nothing_own options part items (records_of before) (seen_later options all to (prefix_bytes steps));
    }

-- the place of the next byte is in the part
abbrev pub AllInside : Part → ℕ → ℕ → List ℕ → Type 0
AllInside part from to all = (at : ℕ) → from ≤ at → at < to → part_among parts_in_order all at ≡ Some (record { part = part; from = from; to = to })

pub location_inside : (part : Part) (from to : ℕ) (all : List ℕ) (before : List Step) → AllInside part from to all → 10 ≤ length before
    → offsets_of before ≡ all → from ≤ size_of before → size_of before < to
    → location_after before ≡ in_part (record { part = part; from = from; to = to })
location_inside part from to all before inside many offsets begun below =
    after_header before many ∙ ap (λ ws. location_by (part_among parts_in_order ws (size_of before))) offsets
    ∙ ap location_by (inside (size_of before) begun below)

-- a record is complete in the mode of its location
whole_by : (options : ReadOptions) (items test : Bool) (p : SpelledRecord) (next : Option ℕ) → (test ≡ true → items ≡ true)
    → IsWholeRecord (cond test (items_mode options) mode.Body) p.row p.bytes next
    → IsWholeRecord (mode_of options items p.bytes) p.row p.bytes next
whole_by options items true p next may is =
    let so : (items && begins_item p.bytes) ≡ true = and_from items (begins_item p.bytes) (may refl) (items_begin options.gnu p.row p.bytes next is) in
    subst (λ (b : Bool). IsWholeRecord (cond b (items_mode options) mode.Body) p.row p.bytes next) (sym so) is
whole_by options items false p next may is =
    let so : (items && begins_item p.bytes) ≡ false = ap (λ b. items && b) (body_begins p.row p.bytes next is) ∙ nothing items in
    subst (λ (b : Bool). IsWholeRecord (cond b (items_mode options) mode.Body) p.row p.bytes next) (sym so) is
  where
    nothing : (a : Bool) → (a && false) ≡ false
    nothing true = refl
    nothing false = refl

may_by : (a b c items : Bool) → ((a && b) ≡ true → items ≡ true) → (a && (b && c)) ≡ true → items ≡ true
may_by true true c items may h = may refl
may_by true false c items may h = cc
may_by false b c items may h = cc

abbrev pub extent : Part → ℕ → ℕ → Extent
extent part from to = record { part = part; from = from; to = to }

-- a byte that is not read as a record
raw_ready : (options : ReadOptions) (from to : ℕ) (all : List ℕ) (items : Bool) (before : List Step) (b : ℕ) (steps : List Step)
    → Ready options from to all items before (raw b ∷ steps) → size_of before < to
    → Ready options from to all true (before ++ raw b ∷ []) steps
raw_ready options from to all items before b steps ready below =
    let size : size_of (before ++ raw b ∷ []) ≡ size_of before + 1 = size-append before (raw b ∷ []) in
    record {
      many = omega (arith, ready.many, length-append before (raw b ∷ []));
      offsets = offsets-append before (raw b ∷ []) ∙ append-nil (offsets_of before) ∙ ready.offsets;
      begun = omega (arith, ready.begun, size);
      inside = omega (arith, size);
      unended = ended-raw before b ∙ ready.unended;
      ends = ap (λ l. is_ended l) (append_assoc before (raw b ∷ []) steps) ∙ ready.ends;
      flag = λ _. refl;
      outside = ready.outside;
      walk = ready.walk.4;
    }

raw_split : (options : ReadOptions) (part : Part) (to : ℕ) (all : List ℕ) (items : Bool) (before : List Step) (b : ℕ) (steps : List Step)
    → is_raw options.debug part ≡ true
    → Split options part to all true (before ++ raw b ∷ []) steps → Split options part to all items before (raw b ∷ steps)
raw_split options part to all items before b steps is rest =
    let same = append_assoc before (raw b ∷ []) rest.own in
    record {
      own = raw b ∷ rest.own;
      later = rest.later;
      split = ap (λ l. raw b ∷ l) rest.split;
      walk = subst (λ (l : List Step). IsWalk options l rest.later) same rest.walk;
      unended = ap (λ l. is_ended l) (sym same) ∙ rest.unended;
      ends = ap (λ l. is_ended (l ++ rest.later)) (sym same) ∙ rest.ends;
      size = ap size_of (sym same) ∙ rest.size;
      offsets = rest.offsets;
      is_own = elim rest.is_own [
        | inl yes_ ↦ inl (is, yes_.1)
        | inr no_ ↦ absurd (both_ways (is_raw options.debug part) no_.0 is)
      ];
    }

-- a record of the part
read_ready : (options : ReadOptions) (part : Part) (from to : ℕ) (all : List ℕ) (items : Bool) (before : List Step) (start : ℕ) (p : SpelledRecord)
    (steps : List Step) → (number_of part == 7) ≡ false
    → Ready options from to all items before (read start p ∷ steps) → stands_in part p.row ≡ true → size_of before + length p.bytes ≤ to
    → Ready options from to all (opens_items p.row) (before ++ read start p ∷ []) steps
read_ready options part from to all items before start p steps other ready own below =
    let it = read start p in
    let size : size_of (before ++ it ∷ []) ≡ size_of before + length p.bytes = size-append before (it ∷ [])
    ∙ ap (λ (l : List ℕ). size_of before + length l) (append-nil p.bytes) in
    let none : offsets_of (it ∷ []) ≡ [] = none_of (offset_in p.row) (no_offset part p.row own) in
    let awaits : awaits_items (last_or None (records_of (before ++ it ∷ []))) ≡ opens_items p.row =
    ap (λ ps. awaits_items (last_or None ps)) (records-append before (it ∷ [])) ∙ ap (λ o. awaits_items o) (last-append None (records_of before) p) in
    record {
      many = omega (arith, ready.many, length-append before (it ∷ []));
      offsets = offsets-append before (it ∷ []) ∙ (λ i. ready.offsets i ++ none i) ∙ append-nil all;
      begun = omega (arith, ready.begun, size);
      inside = omega (arith, size);
      unended = ended-read before start p ∙ not_end part p.row other own;
      ends = ap (λ l. is_ended l) (append_assoc before (it ∷ []) steps) ∙ ready.ends;
      flag = λ h. sym awaits ∙ (and_parts _ _ h).1;
      outside = ready.outside;
      walk = ready.walk.4;
    }
  where
    none_of : (o : Option ℕ) → o ≡ None → filter_map (λ (x : Option ℕ). x) (o ∷ []) ≡ []
    none_of o h = ap (λ (x : Option ℕ). filter_map (λ (y : Option ℕ). y) (x ∷ [])) h

read_split : (options : ReadOptions) (part : Part) (from to : ℕ) (all : List ℕ) (items : Bool) (before : List Step) (start : ℕ) (p : SpelledRecord)
    (steps : List Step) → is_raw options.debug part ≡ false
    → IsWholeRecord (mode_of options items p.bytes) p.row p.bytes (next_seen (bytes_to_debug options before) (length p.bytes) (p.bytes ++ prefix_bytes steps))
    → stands_in part p.row ≡ true → IsKept (records_of before) p → offsets_of before ≡ all → IsOutside from to (debug_offset all) → from ≤ size_of before
    → Split options part to all (opens_items p.row) (before ++ read start p ∷ []) steps → Split options part to all items before (read start p ∷ steps)
read_split options part from to all items before start p steps is its own keeps offsets outside begun rest =
    let it = read start p in
    let same = append_assoc before (it ∷ []) rest.own in
    let none : offsets_of (it ∷ []) ≡ [] = ap (λ (o : Option ℕ). filter_map (λ (y : Option ℕ). y) (o ∷ [])) (no_offset part p.row own) in
    record {
      own = it ∷ rest.own;
      later = rest.later;
      split = ap (λ l. it ∷ l) rest.split;
      walk = subst (λ (l : List Step). IsWalk options l rest.later) same rest.walk;
      unended = ap (λ l. is_ended l) (sym same) ∙ rest.unended;
      ends = ap (λ l. is_ended (l ++ rest.later)) (sym same) ∙ rest.ends;
      size = ap size_of (sym same) ∙ rest.size;
      offsets = offsets-append (it ∷ []) rest.own ∙ (λ i. none i ++ rest.offsets i);
      is_own = elim rest.is_own [
        | inl yes_ ↦ absurd (both_ways (is_raw options.debug part) is yes_.0)
        | inr no_ ↦ inr (
          is,
          ap (λ l. p.bytes ++ l) no_.1,
          (sees rest no_.1, no_.2),
          (own, keeps, subst (λ (l : List SpelledRecord). KeptFrom part l (records_of rest.own)) (records-append before (it ∷ [])) no_.3),
        )
      ];
    }
  where
    sees : (rest : Split options part to all (opens_items p.row) (before ++ read start p ∷ []) steps) → bytes_of (records_of rest.own) ≡ prefix_bytes rest.own
        → IsWholeRecord (mode_of options items p.bytes) p.row p.bytes
        (first_of (bytes_of (records_of rest.own) ++ seen_later options all to (prefix_bytes rest.later)) None)
    sees rest same =
        let text = p.bytes in
        let own_bytes = bytes_of (records_of rest.own) in
        let split : prefix_bytes steps ≡ own_bytes ++ prefix_bytes rest.later = ap prefix_bytes rest.split ∙ bytes-append rest.own rest.later
        ∙ ap (λ l. l ++ prefix_bytes rest.later) (sym same) in
        let size : size_of (before ++ read start p ∷ []) ≡ size_of before + length text = size-append before (read start p ∷ [])
        ∙ ap (λ (l : List ℕ). size_of before + length l) (append-nil text) in
        let longer : size_of ((before ++ read start p ∷ []) ++ rest.own) ≡ size_of (before ++ read start p ∷ []) + size_of rest.own =
        size-append (before ++ read start p ∷ []) rest.own in
        let count : length own_bytes ≡ size_of rest.own = ap length same in
        let some = record_some options (items && begins_item text) p.row text
        (next_seen (bytes_to_debug options before) (length text) (text ++ prefix_bytes steps)) its in
        let seen = seen_as options before all from to text own_bytes (prefix_bytes rest.later) offsets outside begun (omega (arith, some))
        (omega (arith, size, longer, count, rest.size)) in
        subst (λ (n : Option ℕ). IsWholeRecord (mode_of options items p.bytes) p.row p.bytes n) seen
        (subst (λ (l : List ℕ). IsWholeRecord (mode_of options items p.bytes) p.row p.bytes
        (next_seen (bytes_to_debug options before) (length text) (text ++ l))) split its)

-- a record with the byte that it sees after it
pub record IsThere (end : Option ℕ) (m : Mode) (before : List Step) (step : Step) (steps : List Step) : Type 0 where
  pub spelled : SpelledRecord
  pub is_this : step ≡ read (size_of before) spelled
  pub is_whole : IsWholeRecord m spelled.row spelled.bytes (next_seen end (length spelled.bytes) (spelled.bytes ++ prefix_bytes steps))

read_there : (end : Option ℕ) (m : Mode) (before : List Step) (step : Step) (steps : List Step)
    → IsRead end m before (prefix_bytes (step ∷ steps)) step (length (step_bytes step)) → IsThere end m before step steps
read_there end m before step steps is =
    let n = length (step_bytes step) in
    let rest = prefix_bytes (step ∷ steps) in
    let text = take n rest in
    let first : text ≡ step_bytes step = take_at (step_bytes step) (prefix_bytes steps) n refl in
    let count : n ≡ length text = sym (ap length first) in
    let whole : rest ≡ text ++ prefix_bytes steps = ap (λ (l : List ℕ). l ++ prefix_bytes steps) (sym first) in
    record {
      spelled = record { row = is.row; bytes = text };
      is_this = is.is_this;
      is_whole = subst (λ (k : ℕ). IsWholeRecord m is.row text (next_seen end k (text ++ prefix_bytes steps))) count
          (subst (λ (l : List ℕ). IsWholeRecord m is.row text (next_seen end n l)) whole is.is_whole);
    }

-- what is left to do after a step
abbrev Rest : ReadOptions → Part → ℕ → ℕ → List ℕ → List Step → Step → List Step → Type 0
Rest options part from to all before step steps = (later : Bool) → Ready options from to all later (before ++ step ∷ []) steps
    → Split options part to all later (before ++ step ∷ []) steps

as_raw : (options : ReadOptions) (part : Part) (from to : ℕ) (all : List ℕ) (items : Bool) (before : List Step) (step : Step) (steps : List Step)
    → is_raw options.debug part ≡ true
    → IsRaw (prefix_bytes (step ∷ steps)) step (length (step_bytes step)) → Ready options from to all items before (step ∷ steps) → size_of before < to
    → Rest options part from to all before step steps → Split options part to all items before (step ∷ steps)
as_raw options part from to all items before step steps is its ready below rest =
    subst (λ (s : Step). Ready options from to all items before (s ∷ steps) → Rest options part from to all before s steps
    → Split options part to all items before (s ∷ steps)) (sym its.is_this)
    (λ ready rest. raw_split options part to all items before its.byte steps is
    (rest true (raw_ready options from to all items before its.byte steps ready below))) ready rest

as_read : (options : ReadOptions) (part : Part) (from to : ℕ) (all : List ℕ) (items : Bool) (before : List Step) (step : Step) (steps : List Step)
    → is_raw options.debug part ≡ false → (number_of part == 7) ≡ false
    → location_after before ≡ in_part (extent part from to) → Ready options from to all items before (step ∷ steps)
    → IsThere (bytes_to_debug options before) (body_mode options before (extent part from to) (prefix_bytes (step ∷ steps))) before step steps
    → Rest options part from to all before step steps → Split options part to all items before (step ∷ steps)
as_read options part from to all items before step steps is other offset ready here rest =
    let start = size_of before in
    let p = here.spelled in
    let fault : step_fault before (taken (read start p) (length p.bytes)) ≡ None =
    subst (λ (s : Step). step_fault before (taken s (length (step_bytes s))) ≡ None) here.is_this ready.walk.2 in
    let facts = record_facts before (extent part from to) start p (subst (λ (q : Location). record_fault before q start p ≡ None) offset fault) in
    let a = not (size_of before == from) in
    let b = awaits_items (last_or None (records_of before)) in
    let c = begins_item (prefix_bytes (step ∷ steps)) in
    let whole_p = whole_by options items (a && (b && c)) p _ (may_by a b c items ready.flag) here.is_whole in
    subst (λ (s : Step). Ready options from to all items before (s ∷ steps) → Rest options part from to all before s steps
    → Split options part to all items before (s ∷ steps)) (sym here.is_this)
    (λ ready rest. read_split options part from to all items before start p steps is whole_p facts.own facts.keeps ready.offsets ready.outside ready.begun
    (rest (opens_items p.row) (read_ready options part from to all items before start p steps other ready facts.own facts.inside))) ready rest

-- a step of the part
split_step : (options : ReadOptions) (part : Part) (from to : ℕ) (all : List ℕ) (items : Bool) (before : List Step) (step : Step) (steps : List Step)
    → AllInside part from to all → (number_of part == 7) ≡ false
    → Ready options from to all items before (step ∷ steps) → size_of before < to
    → ((later : Bool) → Ready options from to all later (before ++ step ∷ []) steps → Split options part to all later (before ++ step ∷ []) steps)
    → Split options part to all items before (step ∷ steps)
split_step options part from to all items before step steps within other ready below rest =
    let offset = location_inside part from to all before within ready.many ready.offsets ready.begun below in
    let bytes = prefix_bytes (step ∷ steps) in
    let next : IsNextAt options before (in_part (extent part from to)) bytes step (length (step_bytes step)) =
    subst (λ (p : Location). IsNextAt options before p bytes step (length (step_bytes step))) offset ready.walk.3 in
    elim next [
      | inl its ↦ as_raw options part from to all items before step steps its.0 its.1 ready below rest
      | inr its ↦ as_read options part from to all items before step steps its.0 other offset ready
          (read_there (bytes_to_debug options before) (body_mode options before (extent part from to) bytes) before step steps its.1) rest
    ]

pub split_part : (options : ReadOptions) (part : Part) (from to : ℕ) (all : List ℕ) (items : Bool) (before steps : List Step)
    → AllInside part from to all → (number_of part == 7) ≡ false
    → Ready options from to all items before steps → Split options part to all items before steps
split_part options part from to all items before [] within other ready =
    absurd (both_ways (is_ended before) ready.unended (ap (λ l. is_ended l) (sym (append-nil before)) ∙ ready.ends))
split_part options part from to all items before (step ∷ steps) within other ready = elim (cases_eq (size_of before) to) [
  | inl here ↦ at_its_end options part from to all items before (step ∷ steps) ready here
  | inr not_here ↦ split_step options part from to all items before step steps within other ready (below_from (size_of before) to not_here ready.inside)
      (λ later next. split_part options part from to all later (before ++ step ∷ []) steps within other next)
]
  where
    below_from : (a b : ℕ) → (a ≡ b → ⊥) → a ≤ b → a < b
    below_from a b no_ h = elim (cases_lt a b) [ inl is ↦ is | inr is ↦ absurd (no_ (omega arith)) ]
