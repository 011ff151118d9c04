-- Records whose first bytes were pending, and all that a chunk has after them.
use Rattle.std.proofs.Common.{◌≡◌, ◌⊎◌, inl, inr, ℕ, ◌+◌, ◌-◌, ◌<◌, ◌≤◌, ◌==◌, Bool, true, false, true≢false, cond, List, [], ◌∷◌, ◌++◌, length, take}
use Rattle.std.proofs.Common.{drop, Option, Some, None, Ok, Err, Result, refl, sym, ap, subst, ◌∙◌, arith, append-nil, append_assoc, length-append, le-leb}
use Rattle.std.proofs.Common.{length-drop, length-take, nat_le, leb-true}
use Rattle.std.specs.Option.{option_or}
use Rattle.std.proofs.Math.Seq.{take-add, drop-append-add}
use Rattle.std.proofs.lemmas.Bool.{cases_lt, eqb-true, eqb-false}
use Rattle.std.proofs.lemmas.List.{nil_from_length, take-append-le, drop-append-le, take-append-drop}
use Rattle.mufom_numbers.specs.declared.taken.Taken.{Taken}
use Rattle.mufom_numbers.specs.declared.taken.Taken.TheVariants as taken
use Rattle.mufom_numbers.specs.Spelling.{AreBytes, IfGot}
use Rattle.mufom_records.specs.declared.record.Mode.{Mode}
use Rattle.mufom_records.specs.declared.record.Mode.TheVariants as mode
use Rattle.mufom_records.specs.declared.record.Record.{Record}
use Rattle.mufom_records.specs.Fields.{first_of}
use Rattle.mufom_records.specs.Layouts.{IsWholeRecord}
use Rattle.mufom_records.specs.Reading.{record_at, record_within, closed_at, unless_past}
use Rattle.mufom_records.proofs.BeforeLaws.{record_within-more, before-within, before-beyond, closed_fits, closed-append}
use Rattle.mufom_records.proofs.RecordLaws.{record_at-got, record_at-only}
use Rattle.mufom_read.specs.declared.state.State.{State}
use Rattle.mufom_read.specs.declared.refusal.ReadRefusal.{ReadRefusal}
use Rattle.mufom_read.specs.declared.refusal.ReadStop.{ReadStop}
use Rattle.mufom_read.specs.declared.refusal.ReadStop.TheVariants as stop
use Rattle.mufom_read.specs.declared.prefix.Prefix.{Prefix}
use Rattle.mufom_read.specs.declared.prefix.Next.{Next}
use Rattle.mufom_read.specs.declared.prefix.Next.TheVariants as next
use Rattle.mufom_judging.specs.Prefixes.{Step, step_bytes, prefix_bytes, size_of, Extent, Location, in_header, in_part, at_end, location_after}
use Rattle.mufom_judging.specs.Prefixes.{header_mode, is_raw, body_mode, as_step, raw_step, step_in, step_at, next_step, is_ended, bytes_to_debug}
use Rattle.mufom_judging.specs.Faults.{Fault, ended_part_fault, step_fault, fault_after}
use Rattle.mufom_judging.specs.Judging.{IsSoundFrom}
use Rattle.mufom_read.specs.Kept.{as_fault}
use Rattle.mufom_read.specs.PrefixOfCode.{IsPrefixOf, HasAdvanced}
use Rattle.mufom_read.specs.Reader.{IsIncomplete, HasGoneOn, HasNoStep, HasCompleted, HasTakenChunk}
use Rattle.mufom_judging.proofs.ended.Walk.{prefix_first}
use Rattle.mufom_read.proofs.stepping.PrefixLaws.{size-append}
use Rattle.mufom_read.proofs.feeding.Short.{as-step-wants}
use Rattle.mufom_judging.proofs.judged.Stays.{sound_stays, fault_stays, AreBytes-prefix, AreBytes-drop}
use Rattle.mufom_read.proofs.stepping.Take.{size-one, sound-append, drop-drop}
use Rattle.mufom_records.specs.declared.options.ReadOptions.{ReadOptions}

-- ---- a record that was not whole has all of the bytes that were there

first-stays : (bytes more : List ℕ) → 0 < length bytes → first_of (bytes ++ more) None ≡ first_of bytes None
first-stays [] more some = absurd (omega (arith, some))
first-stays (b ∷ bytes) more some = refl

abbrev got_record : Record → ℕ → Taken Record
got_record row n = taken.Got row n

abbrev more_record : Taken Record
more_record = taken.More

record-reaches : (m : Mode) (bytes more : List ℕ) (row : Record) (n : ℕ) → AreBytes (bytes ++ more) → record_at m bytes ≡ more_record
    → record_at m (bytes ++ more) ≡ got_record row n → length bytes ≤ n
record-reaches m bytes more row n fits wanting got = elim (cases_lt n (length bytes)) [ inl less ↦ absurd (no_less less) | inr reaches ↦ reaches ] where
  no_less : n < length bytes → ⊥
  no_less less =
      let few : n ≤ length bytes = omega (arith, less) in
      let left : 0 < length (drop n bytes) = omega (arith, less, length-drop n bytes) in
      let here : (n ≤ length (bytes ++ more)) × IsWholeRecord m row (take n (bytes ++ more)) (first_of (drop n (bytes ++ more)) None) =
      subst (λ (t : Taken Record). IfGot t (λ r used. (used ≤ length (bytes ++ more))
      × IsWholeRecord m r (take used (bytes ++ more)) (first_of (drop used (bytes ++ more)) None))) got (record_at-got m (bytes ++ more) fits) in
      let whole : IsWholeRecord m row (take n bytes) (first_of (drop n bytes) None) =
      subst (λ (l : List ℕ). IsWholeRecord m row l (first_of (drop n bytes) None)) (take-append-le n bytes more few)
      (subst (λ (o : Option ℕ). IsWholeRecord m row (take n (bytes ++ more)) o) (ap (λ l. first_of l None) (drop-append-le n bytes more few)
      ∙ first-stays (drop n bytes) more left) here.1) in
      let wrong : got_record row (length (take n bytes)) ≡ more_record =
      sym (record_at-only m bytes row (take n bytes) (drop n bytes) whole (sym (take-append-drop n bytes))) ∙ wanting in cc

-- the same for records before bytes that are not records
within-reaches : (end : Option ℕ) (m : Mode) (bytes more : List ℕ) (row : Record) (n : ℕ) → AreBytes (bytes ++ more) → record_within end m bytes ≡ more_record
    → record_within end m (bytes ++ more) ≡ got_record row n → length bytes ≤ n
within-reaches None m bytes more row n fits wanting got = record-reaches m bytes more row n fits wanting got
within-reaches (Some end) m bytes more row n fits wanting got = elim (cases_lt end (length (bytes ++ more))) [
  | inl within ↦ of_closed (record_at m (closed_at end (bytes ++ more))) refl (sym (before-within end m (bytes ++ more) within) ∙ got) within
  | inr beyond ↦ record-reaches m bytes more row n fits plain (sym (before-beyond end m (bytes ++ more) beyond) ∙ got)
]
  where
    plain : record_at m bytes ≡ more_record
    plain = record_within-more (Some end) m bytes wanting

    of_plain : record_at m (bytes ++ more) ≡ got_record row n → length bytes ≤ n
    of_plain got = record-reaches m bytes more row n fits plain got

    in_closed : end < length (bytes ++ more) → record_at m (closed_at end (bytes ++ more)) ≡ got_record row n → n ≤ end → length bytes ≤ n
    in_closed within got few = elim (cases_lt end (length bytes)) [
      | inl inside ↦ absurd (decided inside)
      | inr outside ↦
          let split : closed_at end (bytes ++ more) ≡ bytes ++ (take (end - length bytes) more ++ 0xE1 ∷ []) = closed-append end bytes more outside in
          record-reaches m bytes (take (end - length bytes) more ++ 0xE1 ∷ []) row n
          (subst (λ (l : List ℕ). AreBytes l) split (closed_fits end (bytes ++ more) fits)) plain (ap (record_at m) (sym split) ∙ got)
    ]
      where
        decided : end < length bytes → ⊥
        decided inside =
            let same : closed_at end (bytes ++ more) ≡ closed_at end bytes = ap (λ l. l ++ 0xE1 ∷ [])
            (take-append-le end bytes more (omega (arith, inside))) in
            let wrong : got_record row n ≡ more_record =
            sym (before-within end m bytes inside ∙ ap (λ (a : Taken Record). unless_past end a (record_at m bytes)) (ap (record_at m) (sym same) ∙ got)
            ∙ ap (λ (b : Bool). cond b (got_record row n) (record_at m bytes)) (le-leb n end few)) ∙ wanting in cc

    of_closed : (answer : Taken Record) → record_at m (closed_at end (bytes ++ more)) ≡ answer
        → unless_past end answer (record_at m (bytes ++ more)) ≡ got_record row n → end < length (bytes ++ more) → length bytes ≤ n
    of_closed (taken.Got r used) is got within = by_test (nat_le used end) refl got where
      by_test : (test : Bool) → nat_le used end ≡ test → cond test (taken.Got r used) (record_at m (bytes ++ more)) ≡ got_record row n → length bytes ≤ n
      by_test true few got = let count : used ≡ n = cc in in_closed within (is ∙ got) (let low = leb-true used end few in omega (arith, low, count))
      by_test false few got = of_plain got
    of_closed taken.More is got within = of_plain got
    of_closed (taken.Bad offset reason) is got within = let wrong : ◌≡◌ {A = Taken Record} (taken.Bad offset reason) (got_record row n) = got in absurd cc

abbrev got_step : Step → ℕ → Taken Step
got_step s n = taken.Got s n

abbrev more_step : Taken Step
more_step = taken.More

as-step-got : (at : ℕ) (rest : List ℕ) (answer : Taken Record) (s : Step) (n : ℕ) → as_step at rest answer ≡ got_step s n → (row : Record)
    × (answer ≡ got_record row n)
as-step-got at rest (taken.Got row used) s n e =
    let is : ◌≡◌ {A = Taken Step} (as_step at rest (taken.Got row used)) (taken.Got s n) = e in
    let same : used ≡ n = cc in
    (row, ap (got_record row) same)
as-step-got at rest taken.More s n e = let wrong : more_step ≡ got_step s n = e in absurd cc
as-step-got at rest (taken.Bad offset reason) s n e = let wrong : ◌≡◌ {A = Taken Step} (taken.Bad offset reason) (taken.Got s n) = e in absurd cc

step-reaches : (end : Option ℕ) (m : Mode) (at : ℕ) (bytes more : List ℕ) (s : Step) (n : ℕ) → AreBytes (bytes ++ more)
    → as_step at bytes (record_within end m bytes) ≡ more_step → as_step at (bytes ++ more) (record_within end m (bytes ++ more)) ≡ got_step s n
    → length bytes ≤ n
step-reaches end m at bytes more s n fits wanting got =
    let is = as-step-got at (bytes ++ more) (record_within end m (bytes ++ more)) s n got in
    within-reaches end m bytes more is.0 n fits (as-step-wants at bytes (record_within end m bytes) wanting) is.1

part-reaches : (options : ReadOptions) (prefix : List Step) (e : Extent) (bytes more : List ℕ) (s : Step) (n : ℕ) → AreBytes (bytes ++ more)
    → step_in options prefix e bytes ≡ more_step → step_in options prefix e (bytes ++ more) ≡ got_step s n → length bytes ≤ n
part-reaches options prefix e [] more s n fits wanting got = omega arith
part-reaches options prefix e (b ∷ bytes) more s n fits wanting got = by_test (is_raw options.debug e.part) wanting got where
  by_test : (test : Bool) → cond test (raw_step (b ∷ bytes)) (as_step (size_of prefix) (b ∷ bytes)
      (record_within (bytes_to_debug options prefix) (body_mode options prefix e (b ∷ bytes)) (b ∷ bytes))) ≡ more_step
      → cond test (raw_step (b ∷ bytes ++ more)) (as_step (size_of prefix) (b ∷ bytes
      ++ more) (record_within (bytes_to_debug options prefix) (body_mode options prefix e (b ∷ bytes)) (b ∷ bytes ++ more))) ≡ got_step s n → length
      (b ∷ bytes) ≤ n
  by_test true wanting got = let wrong : ◌≡◌ {A = Taken Step} (raw_step (b ∷ bytes)) taken.More = wanting in absurd cc
  by_test false wanting got = step-reaches (bytes_to_debug options prefix) (body_mode options prefix e (b ∷ bytes)) (size_of prefix)
      (b ∷ bytes) more s n fits wanting got

location-reaches : (options : ReadOptions) (prefix : List Step) (at : Location) (bytes more : List ℕ) (s : Step) (n : ℕ) → AreBytes (bytes ++ more)
    → step_at options prefix at bytes ≡ more_step → step_at options prefix at (bytes ++ more) ≡ got_step s n → length bytes ≤ n
location-reaches options prefix (in_header k) bytes more s n fits wanting got =
    step-reaches None (header_mode k) (size_of prefix) bytes more s n fits wanting got
location-reaches options prefix (in_part e) bytes more s n fits wanting got = part-reaches options prefix e bytes more s n fits wanting got
location-reaches options prefix at_end bytes more s n fits wanting got = step-reaches None mode.Body (size_of prefix) bytes more s n fits wanting got

steps-reach : (options : ReadOptions) (before steps : List Step) (bytes more : List ℕ) (n : ℕ) → AreBytes (bytes ++ more)
    → next_step options before bytes ≡ more_step → IsSoundFrom options before steps (bytes ++ more) → size_of steps ≡ n → 0 < n → length bytes ≤ n
steps-reach options before [] bytes more n fits wanting sound size some = absurd (omega (arith, size, some))
steps-reach options before (s ∷ steps) bytes more n fits wanting sound size some =
    let here : length bytes ≤ length (step_bytes s) = location-reaches options before (location_after before) bytes more s (length (step_bytes s))
    fits wanting sound.2 in
    omega (arith, here, size-one s steps, size)

-- ---- the bytes of a chunk that are added to the pending ones

-- the pending bytes with the first of the chunk, and then the others
front : (pending chunk : List ℕ) (used : ℕ) → (pending ++ take used chunk) ++ drop used chunk ≡ pending ++ chunk
front pending chunk used = append_assoc pending (take used chunk) (drop used chunk) ∙ ap (λ l. pending ++ l) (take-append-drop used chunk)

front-bytes : (pending chunk : List ℕ) (used : ℕ) → AreBytes (pending ++ chunk) → AreBytes (pending ++ take used chunk)
front-bytes pending chunk used fits = AreBytes-prefix (pending
    ++ take used chunk) (drop used chunk) (subst (λ (l : List ℕ). AreBytes l) (sym (front pending chunk used)) fits)

front-inside : (pending chunk : List ℕ) (used : ℕ) → length (pending ++ take used chunk) ≤ length (pending ++ chunk)
front-inside pending chunk used = omega (arith, length-append pending (take used chunk), length-append pending chunk, length-take used chunk)

-- The first `used` bytes of the chunk were added to the pending ones, and more bytes are needed.
pub record HasWaited (options : ReadOptions) (before : List Step) (pending chunk : List ℕ) (used : ℕ) (now : State) : Type 0 where
  pub kept : IsPrefixOf now.prefix before
  pub rest : now.rest.items ≡ pending ++ take used chunk
  pub waits : IsIncomplete options before (pending ++ take used chunk)

-- no part that ends with an unfinished prefix has an error
pub whole-waiting : (options : ReadOptions) (prefix : List Step) (rest : List ℕ) → IsIncomplete options prefix rest → ended_part_fault prefix ≡ None
whole-waiting options prefix rest want = no_part (ended_part_fault prefix) _ want.faultless where
  no_part : (o p : Option Fault) → option_or o p ≡ None → o ≡ None
  no_part None p e = refl
  no_part (Some x) p e = e

pub whole-no-step : (options : ReadOptions) (prefix : List Step) (rest : List ℕ) → HasNoStep options prefix rest → is_ended prefix ≡ false
    → ended_part_fault prefix ≡ None
whole-no-step options prefix rest (inl end) unended = absurd (true≢false (sym end.0 ∙ unended))
whole-no-step options prefix rest (inr want) unended = whole-waiting options prefix rest want

-- some more bytes of the chunk were added
pub added-here : (pending chunk now after next_ : List ℕ) (used added : ℕ) → now ≡ pending ++ take used chunk → after ≡ drop used chunk → next_ ≡ now
    ++ take added after → next_ ≡ pending ++ take (used + added) chunk
added-here pending chunk now after next_ used added here left more =
    more ∙ ap (λ l. l ++ take added after) here ∙ append_assoc pending (take used chunk) (take added after)
    ∙ ap (λ l. pending ++ (take used chunk ++ take added l)) left ∙ ap (λ l. pending ++ l) (sym (take-add used added chunk))

-- what was done with the bytes that are pending then
pub advanced-there : (options : ReadOptions) (before : List Step) (pending chunk after given : List ℕ) (used added : ℕ) (now next_ : State)
    (new : Prefix) (done : Next) → IsIncomplete options before pending
    → HasWaited options before pending chunk used now → now.options ≡ options → next_.prefix ≡ now.prefix → next_.options
    ≡ now.options → after ≡ drop used chunk → next_.rest.items ≡ now.rest.items ++ take added after → given ≡ next_.rest.items
    → ((prefix : List Step) → IsPrefixOf next_.prefix prefix → is_ended prefix ≡ false → ended_part_fault prefix ≡ None
    → HasAdvanced next_.options prefix given new done) → HasAdvanced options before (pending ++ take (used + added) chunk) new done
advanced-there options before pending chunk after given used added now next_ new done want waited flag kept same left more is step =
    let its : IsPrefixOf next_.prefix before = subst (λ (f : Prefix). IsPrefixOf f before) (sym kept) waited.kept in
    subst (λ (b : ReadOptions). HasAdvanced b before (pending ++ take (used + added) chunk) new done) (same ∙ flag)
    (subst (λ (l : List ℕ). HasAdvanced next_.options before l new done) (is
    ∙ added-here pending chunk now.rest.items after next_.rest.items used added waited.rest left more)
    (step before its want.unended (whole-waiting options before pending want)))

-- still more bytes are needed
pub waiting-still : (options : ReadOptions) (before : List Step) (rest : List ℕ) (prefix : Prefix) → is_ended before ≡ false → ended_part_fault before
    ≡ None → HasAdvanced options before rest prefix next.More → IsIncomplete options before rest
waiting-still options before rest prefix unended whole done = record {
  unended = unended;
  faultless = ap (λ o. option_or o (step_fault before (next_step options before rest))) whole ∙ ap (step_fault before) done.1;
  wanting = done.1;
}

-- a step was taken: it has all of the pending bytes
pub took-reaches : (options : ReadOptions) (before : List Step) (pending chunk : List ℕ) (used count : ℕ) (prefix : Prefix) → AreBytes (pending ++ chunk)
    → IsIncomplete options before pending
    → HasAdvanced options before (pending ++ take used chunk) prefix (next.Took count) → length pending ≤ count
took-reaches options before pending chunk used count prefix fits want done =
    steps-reach options before done.0 pending (take used chunk) count (front-bytes pending chunk used fits) want.wanting done.2 done.3 done.4

pub took-within : (options : ReadOptions) (before : List Step) (pending chunk : List ℕ) (used count : ℕ) (prefix : Prefix)
    → HasAdvanced options before (pending ++ take used chunk) prefix (next.Took count) → count ≤ length pending + length chunk
took-within options before pending chunk used count prefix done = omega (arith, done.5, front-inside pending chunk used, length-append pending chunk)

pub took-completed : (options : ReadOptions) (before : List Step) (pending chunk : List ℕ) (used count size : ℕ) (new : State)
    → AreBytes (pending ++ chunk) → IsIncomplete options before pending → size ≡ length pending → new.rest.items ≡ []
    → HasAdvanced options before (pending ++ take used chunk) new.prefix (next.Took count)
    → HasCompleted options before pending chunk new (Ok (count - size))
took-completed options before pending chunk used count size new fits want is none done =
    let reaches = took-reaches options before pending chunk used count new.prefix fits want done in
    let all : length pending + (count - size) ≡ count = omega (arith, reaches, is) in
    inr (
      none,
      subst (λ (n : ℕ). HasGoneOn options before (pending ++ chunk) new.prefix n) (sym all) (record {
        steps = done.0;
        is = done.1;
        sound = subst (λ (l : List ℕ). IsSoundFrom options before done.0 l) (front pending chunk used)
            (sound_stays options before done.0 (pending ++ take used chunk) (drop used chunk) (front-bytes pending chunk used fits) done.2);
        size = done.3;
        within = omega (arith, done.5, front-inside pending chunk used);
        whole = done.6;
      }),
    )

pub refused-completed : (options : ReadOptions) (before : List Step) (pending chunk : List ℕ) (used : ℕ) (f : ReadRefusal) (new : State)
    → AreBytes (pending ++ chunk)
    → HasAdvanced options before (pending ++ take used chunk) new.prefix (next.Refused f)
    → HasCompleted options before pending chunk new (Err (stop.Refused f))
refused-completed options before pending chunk used f new fits (steps, sound, unended, fault) =
    let first = pending ++ take used chunk in
    let its = front-bytes pending chunk used fits in
    let begin = prefix_first options before steps first its sound in
    let inside : size_of steps ≤ length first = omega (arith, ap length begin.1, length-append (prefix_bytes steps) begin.0) in
    let here : drop (size_of steps) (pending ++ chunk) ≡ drop (size_of steps) first ++ drop used chunk =
    ap (drop (size_of steps)) (sym (front pending chunk used)) ∙ drop-append-le (size_of steps) first (drop used chunk) inside in (
      steps,
      subst (λ (l : List ℕ). IsSoundFrom options before steps l) (front pending chunk used)
          (sound_stays options before steps first (drop used chunk) its sound),
      unended,
      ap (fault_after options (before ++ steps)) here ∙ fault_stays options (before
          ++ steps) (drop (size_of steps) first) (drop used chunk) (as_fault f) (AreBytes-drop (size_of steps) first its) fault,
    )

-- ---- all that a chunk has

-- the whole chunk is pending
pub chunk-waits : (options : ReadOptions) (before : List Step) (rest : List ℕ) (new : State) → IsPrefixOf new.prefix before → new.rest.items ≡ rest
    → IsIncomplete options before rest → HasTakenChunk options before rest new (Ok tt)
chunk-waits options before rest new is here waits = (
  0,
  (
    [],
    subst (λ (p : List Step). IsPrefixOf new.prefix p) (sym (append-nil before)) is,
    tt,
    refl,
    omega arith,
    inr (subst (λ (p : List Step). IsIncomplete options p rest) (sym (append-nil before)) waits),
  ),
  here,
)

-- what is taken after steps that were taken
pub chunk-goes-on : (options : ReadOptions) (before : List Step) (all rest : List ℕ) (k : ℕ) (between : Prefix) (new : State)
    (result : Result (Unit {0}) ReadStop) (gone : HasGoneOn options before all between k) → rest ≡ drop k all
    → HasTakenChunk options (before ++ gone.steps) rest new result → HasTakenChunk options before all new result
chunk-goes-on options before all rest k between new (Ok done) gone at (n, (steps, is, sound, size, within, waits), here) =
    let same : (before ++ gone.steps) ++ steps ≡ before ++ (gone.steps ++ steps) = append_assoc before gone.steps steps in
    let left : drop n rest ≡ drop (k + n) all = ap (drop n) at ∙ drop-drop k n all in (
      k + n,
      (
        gone.steps ++ steps,
        subst (λ (p : List Step). IsPrefixOf new.prefix p) same is,
        sound-append options before gone.steps steps all gone.sound
            (subst (λ (l : List ℕ). IsSoundFrom options (before ++ gone.steps) steps l) (at ∙ ap (λ m. drop m all) (sym gone.size)) sound),
        omega (arith, size-append gone.steps steps, gone.size, size),
        omega (arith, gone.within, within, ap length at, length-drop k all),
        subst (λ (l : List ℕ). (is_ended (before ++ (gone.steps ++ steps)) ≡ true) ⊎ IsIncomplete options (before ++ (gone.steps ++ steps)) l) left
            (subst (λ (p : List Step). (is_ended p ≡ true) ⊎ IsIncomplete options p (drop n rest)) same waits),
      ),
      here ∙ left,
    )
chunk-goes-on options before all rest k between new (Err (stop.Refused f)) gone at (steps, sound, unended, fault) =
    let same : (before ++ gone.steps) ++ steps ≡ before ++ (gone.steps ++ steps) = append_assoc before gone.steps steps in
    let left : drop (size_of steps) rest ≡ drop (size_of (gone.steps ++ steps)) all =
    ap (drop (size_of steps)) at ∙ drop-drop k (size_of steps) all ∙ ap (λ m. drop (m + size_of steps) all) (sym gone.size)
    ∙ ap (λ m. drop m all) (sym (size-append gone.steps steps)) in (
      gone.steps ++ steps,
      sound-append options before gone.steps steps all gone.sound
          (subst (λ (l : List ℕ). IsSoundFrom options (before ++ gone.steps) steps l) (at ∙ ap (λ m. drop m all) (sym gone.size)) sound),
      subst (λ (p : List Step). is_ended p ≡ false) same unended,
      ap (λ (p : List Step). fault_after options p (drop (size_of (gone.steps ++ steps)) all)) (sym same)
          ∙ ap (fault_after options ((before ++ gone.steps) ++ steps)) (sym left) ∙ fault,
    )
chunk-goes-on options before all rest k between new (Err stop.NoMemory) gone at taken = tt

-- ---- after the pending bytes

-- whether bytes are pending, by their number
pub none-pending : (rest : List ℕ) (count : ℕ) → length rest ≡ count → (count == 0) ≡ true → rest ≡ []
none-pending rest count size none = nil_from_length rest (size ∙ eqb-true count 0 none)

pub some-pending : (rest : List ℕ) (count : ℕ) → length rest ≡ count → (count == 0) ≡ false → 0 < length rest
some-pending rest count size some = elim (cases_lt 0 (length rest)) [ inl is ↦ is | inr none ↦ absurd (eqb-false count 0 some (omega (arith, none, size))) ]

-- if bytes are pending, more bytes are needed
pub some-waiting : (options : ReadOptions) (prefix : List Step) (rest : List ℕ) → 0 < length rest → HasNoStep options prefix rest
    → IsIncomplete options prefix rest
some-waiting options prefix rest some (inl end) = absurd (omega (arith, some, ap length end.1))
some-waiting options prefix rest some (inr want) = want

-- if none are pending afterwards, a step was taken
pub completed-gone : (options : ReadOptions) (before : List Step) (pending chunk : List ℕ) (n : ℕ) (new : State) → 0 < length pending → new.rest.items
    ≡ [] → HasCompleted options before pending chunk new (Ok n)
    → HasGoneOn options before (pending ++ chunk) new.prefix (length pending + n)
completed-gone options before pending chunk n new some none (inl waits) =
    absurd (omega (arith, some, ap length (sym none ∙ waits.1), length-append pending chunk))
completed-gone options before pending chunk n new some none (inr gone) = gone.1

-- if some are pending afterwards, the whole chunk is
pub chunk-pending : (options : ReadOptions) (before : List Step) (pending chunk : List ℕ) (n : ℕ) (new : State) → 0 < length new.rest.items
    → HasCompleted options before pending chunk new (Ok n) → HasTakenChunk options before (pending ++ chunk) new (Ok tt)
chunk-pending options before pending chunk n new some (inl waits) = chunk-waits options before (pending ++ chunk) new waits.0 waits.1 waits.2
chunk-pending options before pending chunk n new some (inr gone) = absurd (omega (arith, some, ap length gone.0))

pub gone-fits : (options : ReadOptions) (before : List Step) (pending chunk : List ℕ) (n : ℕ) (old new : Prefix) → IsPrefixOf old before
    → HasGoneOn options before (pending ++ chunk) new (length pending + n) → new.size ≡ old.size + (length pending + n)
gone-fits options before pending chunk n old new is gone = omega (arith, is.size, gone.is.size, size-append before gone.steps, gone.size)

-- all that the chunk has after that step was taken too
pub goes-on-directly : (options flag : ReadOptions) (before : List Step) (pending chunk rest : List ℕ) (n : ℕ) (between : Prefix) (new : State)
    (result : Result (Unit {0}) ReadStop) → flag ≡ options → rest ≡ drop n chunk
    → HasGoneOn options before (pending ++ chunk) between (length pending + n)
    → ((prefix : List Step) → IsPrefixOf between prefix → (is_ended prefix ≡ false → ended_part_fault prefix ≡ None)
    → HasTakenChunk flag prefix rest new result)
    → HasTakenChunk options before (pending ++ chunk) new result
goes-on-directly options flag before pending chunk rest n between new result same at gone taken =
    chunk-goes-on options before (pending ++ chunk) rest (length pending + n) between new result gone (at ∙ sym (drop-append-add pending chunk n))
    (subst (λ (b : ReadOptions). HasTakenChunk b (before ++ gone.steps) rest new result) same (taken (before ++ gone.steps) gone.is gone.whole))
