-- An error in a stream is the same error in every longer stream.
use Rattle.std.proofs.Common.{◌≡◌, ℕ, zero, suc, ◌-◌, ◌<◌, ◌≤◌, Bool, true, false, cond, not, ◌==◌, ◌&&◌, List, [], ◌∷◌, ◌++◌, length, take, drop}
use Rattle.std.proofs.Common.{Option, Some, None, refl, sym, ap, subst, ◌∙◌, inl, inr, arith, append-nil}
use Rattle.std.specs.List.{last_or}
use Rattle.std.specs.Option.{option_or}
use Rattle.std.proofs.lemmas.Bool.{cases_lt}
use Rattle.std.proofs.lemmas.List.{length-append, take-append-le, drop-append-le, take_all}
use Rattle.mufom_numbers.specs.declared.reason.Reason.{Reason}
use Rattle.mufom_numbers.specs.declared.taken.Taken.{Taken}
use Rattle.mufom_numbers.specs.declared.taken.Taken.TheVariants.{Got, More, Bad}
use Rattle.mufom_numbers.specs.Spelling.{AreBytes, IfGot}
use Rattle.mufom_records.specs.declared.record.Mode.{Mode}
use Rattle.mufom_records.specs.declared.record.Mode.TheVariants as mode
use Rattle.mufom_records.specs.declared.record.Record.{Record}
use Rattle.mufom_records.specs.Layouts.{IsWholeRecord}
use Rattle.mufom_records.specs.Reading.{record_within, next_seen}
use Rattle.mufom_records.proofs.BeforeLaws.{record_within-got, record_within-stable, before-beyond}
use Rattle.mufom_module.specs.Grammar.{file_limit}
use Rattle.mufom_judging.specs.Prefixes.{Step, read, step_bytes, prefix_bytes, size_of, records_of, Extent, Location, in_header, in_part, at_end}
use Rattle.mufom_judging.specs.Prefixes.{location_after, header_mode, is_raw, awaits_items, body_mode, as_step, raw_step, step_in, step_at, next_step}
use Rattle.mufom_judging.specs.Faults.{Fault, ended_part_fault, step_fault, fault_after}
use Rattle.mufom_judging.specs.Judging.{IsSoundFrom, IsSoundPrefix, within_limit, HasFault, EndsAt, IsWaiting, IsRefusedAt}
use Rattle.mufom_judging.specs.Laws.{PrefixesStay, RefusalStays}
use Rattle.mufom_judging.proofs.ended.Walk.{taken, the_record, prefix_first}
use Rattle.mufom_records.specs.declared.options.ReadOptions.{ReadOptions}
use Rattle.mufom_module.specs.RecordParts.{items_mode}
use Rattle.mufom_judging.specs.Prefixes.{bytes_to_debug}

-- ---- one step

abbrev wanting : Taken Step
wanting = More

abbrev wanting_record : Taken Record
wanting_record = More

inside_of : (end : Option ℕ) (m : Mode) (rest : List ℕ) (answer : Taken Record)
    → IfGot answer (λ row used. (used ≤ length rest) × IsWholeRecord m row (take used rest) (next_seen end used rest))
    → IfGot answer (λ row used. used ≤ length rest)
inside_of end m rest (Got row used) got = got.0
inside_of end m rest More got = tt
inside_of end m rest (Bad offset reason) got = tt

-- what a record makes of a step is the same with more bytes after
step_stays : (end : Option ℕ) (m : Mode) (at : ℕ) (rest more : List ℕ) → AreBytes rest → (as_step at rest (record_within end m rest) ≡ wanting → ⊥)
    → as_step at (rest ++ more) (record_within end m (rest ++ more)) ≡ as_step at rest (record_within end m rest)
step_stays end m at rest more fits wanted =
    ap (as_step at (rest ++ more)) (record_within-stable end m rest more fits (λ e. wanted (ap (as_step at rest) e)))
    ∙ same_used at rest more (record_within end m rest) (inside_of end m rest (record_within end m rest) (record_within-got end m rest fits))
  where
    same_used : (at : ℕ) (rest more : List ℕ) (answer : Taken Record) → IfGot answer (λ row used. used ≤ length rest)
        → as_step at (rest ++ more) answer ≡ as_step at rest answer
    same_used at rest more (Got row used) got = ap (λ l. taken (read at (the_record row l)) used) (take-append-le used rest more got)
    same_used at rest more More got = refl
    same_used at rest more (Bad offset reason) got = refl

-- nothing is read of no bytes
body_of_none : (options : ReadOptions) (prefix : List Step) (e : Extent) → body_mode options prefix e [] ≡ mode.Body
body_of_none options prefix e = by_tests (not (size_of prefix == e.from)) (awaits_items (last_or None (records_of prefix))) where
  by_tests : (a b : Bool) → cond (a && (b && false)) (items_mode options) mode.Body ≡ mode.Body
  by_tests true true = refl
  by_tests true false = refl
  by_tests false b = refl

none_within : (at : ℕ) (end : Option ℕ) → as_step at [] (record_within end mode.Body []) ≡ wanting
none_within at None = refl
none_within at (Some end) = ap (as_step at []) (before-beyond end mode.Body [] (omega arith))

none_in : (options : ReadOptions) (prefix : List Step) (e : Extent) → step_in options prefix e [] ≡ wanting
none_in options prefix e = by_test (is_raw options.debug e.part) where
  by_test : (test : Bool) → cond test (raw_step []) (as_step (size_of prefix) []
      (record_within (bytes_to_debug options prefix) (body_mode options prefix e []) [])) ≡ wanting
  by_test true = refl
  by_test false = ap (λ m. as_step (size_of prefix) [] (record_within (bytes_to_debug options prefix) m [])) (body_of_none options prefix e)
      ∙ none_within (size_of prefix) (bytes_to_debug options prefix)

in_stays : (options : ReadOptions) (prefix : List Step) (e : Extent) (rest more : List ℕ) → AreBytes rest
    → (step_in options prefix e rest ≡ wanting → ⊥) → step_in options prefix e (rest ++ more) ≡ step_in options prefix e rest
in_stays options prefix e [] more fits wanted = absurd (wanted (none_in options prefix e))
in_stays options prefix e (b ∷ rest) more fits wanted = by_test (is_raw options.debug e.part) wanted where
  by_test : (test : Bool) → (cond test (raw_step (b ∷ rest)) (as_step (size_of prefix) (b ∷ rest)
      (record_within (bytes_to_debug options prefix) (body_mode options prefix e (b ∷ rest)) (b ∷ rest))) ≡ wanting → ⊥)
      → cond test (raw_step (b ∷ rest ++ more)) (as_step (size_of prefix) (b ∷ rest
      ++ more) (record_within (bytes_to_debug options prefix) (body_mode options prefix e (b ∷ rest)) (b ∷ rest ++ more)))
      ≡ cond test (raw_step (b ∷ rest)) (as_step (size_of prefix) (b ∷ rest)
      (record_within (bytes_to_debug options prefix) (body_mode options prefix e (b ∷ rest)) (b ∷ rest)))
  by_test true wanted = refl
  by_test false wanted = step_stays (bytes_to_debug options prefix) (body_mode options prefix e (b ∷ rest)) (size_of prefix) (b ∷ rest) more fits wanted

at_stays : (options : ReadOptions) (prefix : List Step) (fault_offset : Location) (rest more : List ℕ) → AreBytes rest
    → (step_at options prefix fault_offset rest ≡ wanting → ⊥) → step_at options prefix fault_offset (rest ++ more)
    ≡ step_at options prefix fault_offset rest
at_stays options prefix (in_header k) rest more fits wanted = step_stays None (header_mode k) (size_of prefix) rest more fits wanted
at_stays options prefix (in_part e) rest more fits wanted = in_stays options prefix e rest more fits wanted
at_stays options prefix at_end rest more fits wanted = step_stays None mode.Body (size_of prefix) rest more fits wanted

-- The step after a prefix stays the same in a longer stream, once it needs no more bytes.
pub next_stays : (options : ReadOptions) (prefix : List Step) (rest more : List ℕ) → AreBytes rest → (next_step options prefix rest ≡ wanting → ⊥)
    → next_step options prefix (rest ++ more) ≡ next_step options prefix rest
next_stays options prefix rest more fits wanted = at_stays options prefix (location_after prefix) rest more fits wanted

-- ---- sound prefixes and errors

pub AreBytes-drop : (n : ℕ) (bytes : List ℕ) → AreBytes bytes → AreBytes (drop n bytes)
AreBytes-drop zero bytes fits = fits
AreBytes-drop (suc n) [] fits = tt
AreBytes-drop (suc n) (b ∷ bytes) fits = AreBytes-drop n bytes fits.1

pub AreBytes-take : (n : ℕ) (bytes : List ℕ) → AreBytes bytes → AreBytes (take n bytes)
AreBytes-take zero bytes fits = tt
AreBytes-take (suc n) [] fits = tt
AreBytes-take (suc n) (b ∷ bytes) fits = (fits.0, AreBytes-take n bytes fits.1)

pub AreBytes-prefix : (a b : List ℕ) → AreBytes (a ++ b) → AreBytes a
AreBytes-prefix [] b fits = tt
AreBytes-prefix (x ∷ a) b fits = (fits.0, AreBytes-prefix a b fits.1)

got_no_more : (answer : Taken Step) (s : Step) (n : ℕ) → answer ≡ taken s n → answer ≡ wanting → ⊥
got_no_more (Got t k) s n x y = let wrong : taken t k ≡ wanting = y in cc
got_no_more More s n x y = let wrong : wanting ≡ taken s n = x in cc
got_no_more (Bad offset reason) s n x y = cc

some_fault : (options : ReadOptions) (prefix : List Step) (answer : Taken Step) (fault : Fault) → step_fault prefix answer ≡ Some fault → answer ≡ wanting → ⊥
some_fault options prefix answer fault h more = wrong (sym (ap (step_fault prefix) more) ∙ h) where
  wrong : None ≡ Some fault → ⊥
  wrong e = cc

-- a sound prefix stays one
pub sound_stays : (options : ReadOptions) (before steps : List Step) (rest more : List ℕ) → AreBytes rest → IsSoundFrom options before steps rest
    → IsSoundFrom options before steps (rest ++ more)
sound_stays options before [] rest more fits sound = tt
sound_stays options before (s ∷ steps) rest more fits sound =
    let n = length (step_bytes s) in
    let same = next_stays options before rest more fits (got_no_more (next_step options before rest) s n sound.2) in
    let first = prefix_first options before (s ∷ steps) rest fits sound in
    let inside : n ≤ length rest = omega (
      arith,
      ap length first.1,
      length-append (step_bytes s ++ prefix_bytes steps) first.0,
      length-append (step_bytes s) (prefix_bytes steps),
    ) in (
      sound.0,
      ap (λ a. option_or (ended_part_fault before) (step_fault before a)) same ∙ sound.1,
      same ∙ sound.2,
      subst (λ (l : List ℕ). IsSoundFrom options (before ++ s ∷ []) steps l) (sym (drop-append-le n rest more inside))
          (sound_stays options (before ++ s ∷ []) steps (drop n rest) more (AreBytes-drop n rest fits) sound.3),
    )

-- an error after a prefix stays the same
pub fault_stays : (options : ReadOptions) (prefix : List Step) (rest more : List ℕ) (fault : Fault) → AreBytes rest → fault_after options prefix rest
    ≡ Some fault → fault_after options prefix (rest ++ more) ≡ Some fault
fault_stays options prefix rest more fault fits h = by_part (ended_part_fault prefix) h where
  by_part : (o : Option Fault) → option_or o (step_fault prefix (next_step options prefix rest)) ≡ Some fault
      → option_or o (step_fault prefix (next_step options prefix (rest ++ more))) ≡ Some fault
  by_part (Some it) e = e
  by_part None e = ap (step_fault prefix) (next_stays options prefix rest more fits
      (some_fault options prefix (next_step options prefix rest) fault e)) ∙ e

-- ---- the limit

-- the bytes of a longer stream that are checked begin with those of the shorter one
pub limit-append : (n : ℕ) (bytes more : List ℕ) → take n (bytes ++ more) ≡ take n bytes ++ take (n - length bytes) more
limit-append n bytes more = elim (cases_lt n (length bytes)) [
  | inl short ↦ take-append-le n bytes more (omega arith) ∙ sym (append-nil (take n bytes))
      ∙ ap (λ k. take n bytes ++ take k more) (none n (length bytes) (omega arith))
  | inr long ↦ beyond n bytes more long ∙ ap (λ l. l ++ take (n - length bytes) more) (sym (take_all n bytes long))
]
  where
    none : (n k : ℕ) → n ≤ k → 0 ≡ n - k
    none n k h = omega arith

    beyond : (n : ℕ) (bytes more : List ℕ) → length bytes ≤ n → take n (bytes ++ more) ≡ bytes ++ take (n - length bytes) more
    beyond n [] more h = ap (λ k. take k more) (less_none n)
      where
        less_none : (n : ℕ) → n ≡ n - 0
        less_none n = omega arith
    beyond zero (b ∷ bytes) more h = absurd (omega arith)
    beyond (suc n) (b ∷ bytes) more h = ap (λ l. b ∷ l) (beyond n bytes more (omega arith) ∙ ap (λ k. bytes ++ take k more) (same_less n (length bytes)))
      where
        same_less : (a b : ℕ) → a - b ≡ suc a - suc b
        same_less a b = omega arith

-- the bytes of a longer stream that are checked begin with those of the shorter one
pub within-append : (bytes more : List ℕ) → within_limit (bytes ++ more) ≡ within_limit bytes ++ take (file_limit - length bytes) more
within-append bytes more = limit-append file_limit bytes more

pub prefixes_stay : PrefixesStay
prefixes_stay options bytes more prefix fits sound =
    subst (λ (l : List ℕ). IsSoundPrefix options prefix l) (sym (within-append bytes more))
    (sound_stays options [] prefix (within_limit bytes) (take (file_limit - length bytes) more) (AreBytes-take file_limit bytes fits) sound)

-- ---- errors of a stream

prefix_inside : (options : ReadOptions) (prefix : List Step) (bytes : List ℕ) → AreBytes bytes → IsSoundPrefix options prefix bytes
    → size_of prefix ≤ length bytes
prefix_inside options prefix bytes fits sound = let first = prefix_first options [] prefix bytes fits sound in
    omega (arith, ap length first.1, length-append (prefix_bytes prefix) first.0)

pub fault_goes_on : (options : ReadOptions) (bytes more : List ℕ) (fault_offset : ℕ) (reason : Reason) → AreBytes bytes
    → HasFault options bytes fault_offset reason → HasFault options (bytes ++ more) fault_offset reason
fault_goes_on options bytes more fault_offset reason fits h =
    let judged = within_limit bytes in
    let after = take (file_limit - length bytes) more in
    let its = AreBytes-take file_limit bytes fits in
    let grows = within-append bytes more in
    let inside = prefix_inside options h.prefix judged its h.sound in
    record {
      prefix = h.prefix;
      sound = subst (λ (l : List ℕ). IsSoundPrefix options h.prefix l) (sym grows) (sound_stays options [] h.prefix judged after its h.sound);
      unended = h.unended;
      fault = ap (λ l. fault_after options h.prefix (drop (size_of h.prefix) l)) grows
          ∙ ap (fault_after options h.prefix) (drop-append-le (size_of h.prefix) judged after inside)
          ∙ fault_stays options h.prefix (drop (size_of h.prefix) judged) after (fault_offset, reason)
          (AreBytes-drop (size_of h.prefix) judged its) h.fault;
    }

pub end_goes_on : (options : ReadOptions) (bytes more : List ℕ) (fault_offset : ℕ) → AreBytes bytes → EndsAt options bytes fault_offset
    → EndsAt options (bytes ++ more) fault_offset
end_goes_on options bytes more fault_offset fits h =
    let its = AreBytes-take file_limit bytes fits in
    record {
      prefix = h.prefix;
      sound = subst (λ (l : List ℕ). IsSoundPrefix options h.prefix l) (sym (within-append bytes more))
          (sound_stays options [] h.prefix (within_limit bytes) (take (file_limit - length bytes) more) its h.sound);
      ended = h.ended;
      here = h.here;
    }

-- if there are more bytes than the limit, further ones change nothing
same_judged : (bytes more : List ℕ) → file_limit < length bytes → within_limit bytes ≡ within_limit (bytes ++ more)
same_judged bytes more long = sym (take-append-le file_limit bytes more (omega arith))

waiting_goes_on : (options : ReadOptions) (bytes other pending : List ℕ) → within_limit bytes ≡ within_limit other → IsWaiting options bytes pending
    → IsWaiting options other pending
waiting_goes_on options bytes other pending same h = record {
  prefix = h.prefix;
  sound = subst (λ (l : List ℕ). IsSoundPrefix options h.prefix l) same h.sound;
  unended = h.unended;
  faultless = h.faultless;
  wanting = h.wanting;
  after = h.after ∙ ap (drop (size_of h.prefix)) same;
}

-- the error of a stream stays, whatever numbers follow its bytes
pub refusal_goes_on : (options : ReadOptions) (bytes more : List ℕ) (fault_offset : ℕ) (reason : Reason) → AreBytes bytes
    → IsRefusedAt options bytes fault_offset reason → IsRefusedAt options (bytes ++ more) fault_offset reason
refusal_goes_on options bytes more fault_offset reason fits (inl h) = inl (fault_goes_on options bytes more fault_offset reason fits h)
refusal_goes_on options bytes more fault_offset reason fits (inr (inl h)) =
    let long = length-append bytes more in let below : fault_offset < length bytes = h.2 in
    inr (inl (h.0, end_goes_on options bytes more fault_offset fits h.1, omega arith))
refusal_goes_on options bytes more fault_offset reason fits (inr (inr h)) =
    let long = length-append bytes more in let above : file_limit < length bytes = h.2 in
    inr (inr (h.0, h.1, omega arith, h.3, waiting_goes_on options bytes (bytes ++ more) h.3 (same_judged bytes more h.2) h.4))

pub refusal_stays : RefusalStays
refusal_stays options bytes more fault_offset reason fits refused =
    refusal_goes_on options bytes more fault_offset reason (AreBytes-prefix bytes more fits) refused
