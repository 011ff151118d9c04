-- Each stream has exactly one judgment; a proper prefix of a module's file is cut off.
use Rattle.std.proofs.Common.{◌≡◌, ◌≢◌, ◌⊎◌, ℕ, zero, suc, ◌+◌, ◌≤◌, min, Bool, true, false, List, [], ◌∷◌, ◌++◌, length, take, drop, Option, Some}
use Rattle.std.proofs.Common.{None, refl, sym, ap, subst, ◌∙◌, inl, inr, arith, append_assoc, append-nil}
use Rattle.std.specs.Option.{option_or}
use Rattle.std.proofs.lemmas.Bool.{cases_lt}
use Rattle.std.proofs.lemmas.List.{length-append, length-take, length-take-le, take_all, drop-drop}
use Rattle.mufom_numbers.specs.declared.reason.Reason.{Reason}
use Rattle.mufom_numbers.specs.declared.reason.Reason.TheVariants as why
use Rattle.mufom_numbers.specs.declared.taken.Taken.{Taken}
use Rattle.mufom_numbers.specs.declared.taken.Taken.TheVariants.{Got, More, Bad}
use Rattle.mufom_numbers.specs.Spelling.{AreBytes, SpellsNumber}
use Rattle.mufom_records.specs.declared.record.Mode.{Mode}
use Rattle.mufom_records.specs.declared.record.Mode.TheVariants as mode
use Rattle.mufom_records.specs.declared.record.Record.{Record}
use Rattle.mufom_records.specs.Fields.{byte, letter, SpellsField, first_of}
use Rattle.mufom_records.specs.Layouts.{Layout, field, opening_brackets, item_by_bracket, SpellsRecord, IsWholeRecord}
use Rattle.mufom_module.specs.declared.module.Parts.{Parts}
use Rattle.mufom_module.specs.Grammar.{file_limit}
use Rattle.mufom_judging.specs.Prefixes.{Step, step_bytes, prefix_bytes, size_of, Location, in_header, in_part, at_end, location_after, header_mode}
use Rattle.mufom_judging.specs.Prefixes.{body_mode, next_step, is_ended, bytes_to_debug}
use Rattle.mufom_judging.specs.Faults.{Fault, ended_part_fault, step_fault, fault_after}
use Rattle.mufom_judging.specs.Judging.{IsSoundFrom, IsSoundPrefix, within_limit, EndsAt, IsWaiting, IsTruncated}
use Rattle.mufom_judging.specs.Judging.{IsModule, Judgment, module_of, refusal, IsJudged}
use Rattle.mufom_judging.specs.Laws.{EndedPrefixIsModule, ModuleIsEndedPrefix, JudgmentsExcludeEachOther}
use Rattle.mufom_judging.specs.Laws.{HasJudgment, HasOneJudgment, PrefixesOfModulesAreCutOff}
use Rattle.mufom_judging.proofs.RecordSizes.{got-some}
use Rattle.mufom_judging.proofs.ended.Walk.{IsRead, IsNextAt, taken, next_at, next_prefix, size-append, prefix_first}
use Rattle.mufom_judging.proofs.judged.PrefixesOne.{refusal_is_single, not_cut}
use Rattle.mufom_judging.proofs.judged.Stays.{AreBytes-drop, AreBytes-take, AreBytes-prefix, end_goes_on, refusal_stays}
use Rattle.mufom_records.specs.declared.options.ReadOptions.{ReadOptions}

-- ---- a step takes a byte at least

byte_first : (rest : ℕ → Layout) (row : Record) (at : ℕ) (bytes : List ℕ) (next : Option ℕ) → SpellsRecord (field byte rest) row at bytes next
    → 1 ≤ length bytes
byte_first rest row at bytes next is = let whole = ap length is.5 ∙ length-append is.1 is.2 in let one_ = ap length is.3 in omega arith

number_some : (n : ℕ) (bytes : List ℕ) → SpellsNumber n bytes → 1 ≤ length bytes
number_some n [] is = absurd is
number_some n (b ∷ bytes) is = omega arith

item_first_by : (row : Record) (bytes prefix back : List ℕ) (next : Option ℕ) (o : Option ℕ)
    → SpellsField (letter opening_brackets) o 0 prefix (first_of back next)
    → SpellsRecord (item_by_bracket o) row (0 + length prefix) back next → bytes ≡ prefix ++ back → 1 ≤ length bytes
item_first_by row bytes prefix back next None x y e =
    let whole = ap length e ∙ length-append prefix back in
    let rest = ap length y.5 ∙ length-append y.1 y.2 in
    let some = number_some y.0 y.1 y.3.0 in
    omega arith
item_first_by row bytes prefix back next (Some b) x y e = let whole = ap length e ∙ length-append prefix back in let one_ = ap length x.0 in omega arith

item_first : (row : Record) (bytes : List ℕ) (next : Option ℕ) → IsWholeRecord mode.Items row bytes next → 1 ≤ length bytes
item_first row bytes next is = item_first_by row bytes is.1 is.2 next is.0 is.3 is.4 is.5

record_first : (m : Mode) (row : Record) (bytes : List ℕ) (next : Option ℕ) → IsWholeRecord m row bytes next → 1 ≤ length bytes
record_first mode.Begin it bytes next is = byte_first _ it 0 bytes next is
record_first mode.Descriptor it bytes next is = byte_first _ it 0 bytes next is
record_first (mode.Offset k) it bytes next is = byte_first _ it 0 bytes next is
record_first mode.Body it bytes next is = byte_first _ it 0 bytes next is
record_first mode.Items row bytes next is = item_first row bytes next is
record_first mode.GnuItems row bytes next is = got-some mode.GnuItems row bytes next is

read_some : (end : Option ℕ) (m : Mode) (before : List Step) (rest : List ℕ) (step : Step) (n : ℕ) → IsRead end m before rest step n → (1 ≤ n)
    × (n ≤ length rest)
read_some end m before rest step n is =
    let some = record_first m is.row (take n rest) _ is.is_whole in
    let count = length-take n rest in
    (omega (arith, is.inside), is.inside)

next_some : (options : ReadOptions) (before : List Step) (fault_offset : Location) (rest : List ℕ) (step : Step) (n : ℕ)
    → IsNextAt options before fault_offset rest step n → (1 ≤ n) × (n ≤ length rest)
next_some options before (in_header k) rest step n is = read_some None (header_mode k) before rest step n is
next_some options before (in_part e) rest step n (inl is) = let whole = ap length is.1.split in let one_ = is.1.count in (omega arith, omega arith)
next_some options before (in_part e) rest step n (inr is) = read_some (bytes_to_debug options before) (body_mode options before e rest) before rest step n is.1
next_some options before at_end rest step n is = read_some None mode.Body before rest step n is

-- ---- the longest prefix

-- a sound prefix after which nothing goes on
pub record Longest (options : ReadOptions) (judged : List ℕ) : Type 0 where
  pub prefix : List Step
  pub sound : IsSoundPrefix options prefix judged
  pub why_ : (is_ended prefix ≡ true) ⊎ (((is_ended prefix ≡ false) × (fault : Fault)
      × (fault_after options prefix (drop (size_of prefix) judged) ≡ Some fault))
      ⊎ ((is_ended prefix ≡ false) × (fault_after options prefix (drop (size_of prefix) judged) ≡ None)
      × (next_step options prefix (drop (size_of prefix) judged) ≡ More)))

sound-append : (options : ReadOptions) (before a : List Step) (s : Step) (rest : List ℕ) → IsSoundFrom options before a rest → is_ended (before ++ a)
    ≡ false → fault_after options (before ++ a) (drop (size_of a) rest) ≡ None
    → next_step options (before ++ a) (drop (size_of a) rest) ≡ taken s (length (step_bytes s)) → IsSoundFrom options before (a ++ s ∷ []) rest
sound-append options before [] s rest sound open_ none next =
    let same = append-nil before in (
      ap (λ l. is_ended l) (sym same) ∙ open_,
      ap (λ l. fault_after options l rest) (sym same)
          ∙ none,
      ap (λ l. next_step options l rest) (sym same) ∙ next,
      tt,
    )
sound-append options before (t ∷ a) s rest sound open_ none next =
    let n = length (step_bytes t) in
    let same = append_assoc before (t ∷ []) a in
    let at : drop (size_of (t ∷ a)) rest ≡ drop (size_of a) (drop n rest) = ap (λ k. drop k rest) (length-append (step_bytes t) (prefix_bytes a))
    ∙ sym (drop-drop (size_of a) n rest) in (
      sound.0,
      sound.1,
      sound.2,
      sound-append options (before ++ t ∷ []) a s (drop n rest) sound.3 (ap (λ l. is_ended l) same ∙ open_)
          ((λ i. fault_after options (same i) (sym at i)) ∙ none) ((λ i. next_step options (same i) (sym at i)) ∙ next),
    )

bad_fault : (options : ReadOptions) (prefix : List Step) (rest : List ℕ) (offset : ℕ) (reason : Reason) → fault_after options prefix rest ≡ None
    → next_step options prefix rest ≡ Bad offset reason → ⊥
bad_fault options prefix rest offset reason none next = by_part (ended_part_fault prefix)
    (subst (λ (a : Taken Step). option_or (ended_part_fault prefix) (step_fault prefix a) ≡ None) next none) where
      by_part : (o : Option Fault) → option_or o (Some (size_of prefix + offset, reason)) ≡ None → ⊥
      by_part None h = cc
      by_part (Some fault) h = cc

-- a prefix that goes on with a step
record GoesOn (options : ReadOptions) (judged : List ℕ) (prefix : List Step) : Type 0 where
  step : Step
  sound : IsSoundPrefix options (prefix ++ step ∷ []) judged
  longer : size_of prefix + 1 ≤ size_of (prefix ++ step ∷ [])
  inside : size_of (prefix ++ step ∷ []) ≤ length judged

inside_prefix : (options : ReadOptions) (prefix : List Step) (bytes : List ℕ) → AreBytes bytes → IsSoundPrefix options prefix bytes
    → size_of prefix ≤ length bytes
inside_prefix options prefix bytes fits sound = let first = prefix_first options [] prefix bytes fits sound in
    omega (arith, ap length first.1, length-append (prefix_bytes prefix) first.0)

goes_on : (options : ReadOptions) (judged : List ℕ) (prefix : List Step) (s : Step) (n : ℕ) → AreBytes judged → IsSoundPrefix options prefix judged
    → is_ended prefix ≡ false → fault_after options prefix (drop (size_of prefix) judged) ≡ None
    → next_step options prefix (drop (size_of prefix) judged) ≡ taken s n → GoesOn options judged prefix
goes_on options judged prefix s n fits sound open_ none next =
    let rest = drop (size_of prefix) judged in
    let its = next_at options prefix (location_after prefix) rest s n (AreBytes-drop (size_of prefix) judged fits) next in
    let some = next_some options prefix (location_after prefix) rest s n its in
    let first = next_prefix options prefix (location_after prefix) rest s n its in
    let count : length (step_bytes s) ≡ n = ap length first ∙ length-take-le n rest some.1 in
    let size : size_of (prefix ++ s ∷ []) ≡ size_of prefix + length (step_bytes s) = size-append prefix (s ∷ [])
    ∙ ap (λ (l : List ℕ). size_of prefix + length l) (append-nil (step_bytes s)) in
    let sound_now = sound-append options [] prefix s judged sound open_ none (next ∙ ap (λ (k : ℕ). taken s k) (sym count)) in
    record { step = s; sound = sound_now; longer = omega (arith, some.0); inside = inside_prefix options (prefix ++ s ∷ []) judged fits sound_now }

decide_step : (options : ReadOptions) (judged : List ℕ) (prefix : List Step) → AreBytes judged → IsSoundPrefix options prefix judged
    → is_ended prefix ≡ false → fault_after options prefix (drop (size_of prefix) judged) ≡ None
    → (answer : Taken Step) → next_step options prefix (drop (size_of prefix) judged) ≡ answer
    → (GoesOn options judged prefix → Longest options judged) → Longest options judged
decide_step options judged prefix fits sound open_ none (Got s n) next rest = rest (goes_on options judged prefix s n fits sound open_ none next)
decide_step options judged prefix fits sound open_ none More next rest = record { prefix = prefix; sound = sound; why_ = inr (inr (open_, none, next)) }
decide_step options judged prefix fits sound open_ none (Bad offset reason) next rest =
    absurd (bad_fault options prefix (drop (size_of prefix) judged) offset reason none next)

decide_fault : (options : ReadOptions) (judged : List ℕ) (prefix : List Step) → AreBytes judged → IsSoundPrefix options prefix judged → is_ended prefix ≡ false
    → (answer : Option Fault) → fault_after options prefix (drop (size_of prefix) judged) ≡ answer
    → (GoesOn options judged prefix → Longest options judged) → Longest options judged
decide_fault options judged prefix fits sound open_ (Some fault) h rest = record { prefix = prefix; sound = sound; why_ = inr (inl (open_, fault, h)) }
decide_fault options judged prefix fits sound open_ None h rest =
    decide_step options judged prefix fits sound open_ h (next_step options prefix (drop (size_of prefix) judged)) refl rest

decide : (options : ReadOptions) (judged : List ℕ) (prefix : List Step) → AreBytes judged → IsSoundPrefix options prefix judged → (answer : Bool)
    → is_ended prefix ≡ answer → (GoesOn options judged prefix → Longest options judged) → Longest options judged
decide options judged prefix fits sound true h rest = record { prefix = prefix; sound = sound; why_ = inl h }
decide options judged prefix fits sound false h rest = decide_fault options judged prefix fits sound h
    (fault_after options prefix (drop (size_of prefix) judged)) refl rest

-- a walk ends, since each step takes a byte
longest_from : (room : ℕ) (options : ReadOptions) (judged : List ℕ) (prefix : List Step) → AreBytes judged → IsSoundPrefix options prefix judged
    → length judged ≤ size_of prefix + room → Longest options judged
longest_from zero options judged prefix fits sound within =
    decide options judged prefix fits sound (is_ended prefix) refl (λ on. absurd (omega (arith, on.longer, on.inside)))
longest_from (suc room) options judged prefix fits sound within = decide options judged prefix fits sound (is_ended prefix) refl
    (λ on. longest_from room options judged (prefix ++ on.step ∷ []) fits on.sound (omega (arith, on.longer)))

pub longest : (options : ReadOptions) (judged : List ℕ) → AreBytes judged → Longest options judged
longest options judged fits = longest_from (length judged) options judged [] fits tt (omega arith)

-- ---- a judgment

within_length : (bytes : List ℕ) → length (within_limit bytes) ≡ min file_limit (length bytes)
within_length bytes = length-take file_limit bytes

judged_end : EndedPrefixIsModule → (options : ReadOptions) (bytes : List ℕ) (prefix : List Step) → AreBytes bytes
    → IsSoundPrefix options prefix (within_limit bytes) → is_ended prefix ≡ true → (judgment : Judgment) × IsJudged options bytes judgment
judged_end law options bytes prefix fits sound ended =
    let there = inside_prefix options prefix (within_limit bytes) (AreBytes-take file_limit bytes fits) sound in
    let ends : EndsAt options bytes (size_of prefix) = record { prefix = prefix; sound = sound; ended = ended; here = refl } in
    elim (cases_lt (size_of prefix) (length bytes)) [
      | inl before ↦ (refusal (size_of prefix) why.AfterEnd, inl (inr (inl (refl, ends, before))))
      | inr all ↦ whole there all
    ]
  where
    whole : size_of prefix ≤ length (within_limit bytes) → length bytes ≤ size_of prefix → (judgment : Judgment) × IsJudged options bytes judgment
    whole there all =
        let cut = within_length bytes in
        let limit : length bytes ≤ file_limit = omega arith in
        let same : within_limit bytes ≡ bytes = take_all file_limit bytes limit in
        let size : size_of prefix ≡ length bytes = omega arith in
        let found = law options prefix bytes fits limit (subst (λ (l : List ℕ). IsSoundPrefix options prefix l) same sound) ended size in
        (module_of found.0, found.1)

waiting_judged : (options : ReadOptions) (bytes pending : List ℕ) → IsWaiting options bytes pending → (judgment : Judgment)
    × IsJudged options bytes judgment
waiting_judged options bytes pending h = elim (cases_lt file_limit (length bytes)) [
  | inl long ↦ (refusal file_limit why.FileLimit, inl (inr (inr (refl, refl, long, pending, h))))
  | inr short ↦ (refusal (length bytes) why.Truncated, inr (refl, refl, (short, pending, h)))
]

-- Each stream has a judgment, provided that an ended prefix is a module's file.
pub has_judgment : EndedPrefixIsModule → HasJudgment
has_judgment law options bytes fits =
    let found = longest options (within_limit bytes) (AreBytes-take file_limit bytes fits) in
    elim found.why_ [
      | inl ended ↦ judged_end law options bytes found.prefix fits found.sound ended
      | inr (inl fault) ↦ (refusal fault.1.0 fault.1.1, inl (inl (record { prefix = found.prefix; sound = found.sound; unended = fault.0; fault = fault.2 })))
      | inr (inr more) ↦ waiting_judged options bytes (drop (size_of found.prefix) (within_limit bytes))
          (record { prefix = found.prefix; sound = found.sound; unended = more.0; faultless = more.1; wanting = more.2; after = refl })
    ]

-- ---- one judgment

refused_or_cut : (options : ReadOptions) (bytes : List ℕ) (m : Parts) (fault_offset : ℕ) (reason : Reason) → JudgmentsExcludeEachOther → AreBytes bytes
    → IsModule options bytes m → IsJudged options bytes (refusal fault_offset reason) → ⊥
refused_or_cut options bytes m fault_offset reason law fits is (inl refused) = (law options bytes fits).not_module m fault_offset reason is refused
refused_or_cut options bytes m fault_offset reason law fits is (inr cut) = (law options bytes fits).whole m is cut.2

same_refusal : (options : ReadOptions) (bytes : List ℕ) (fault_offset other : ℕ) (reason why_ : Reason) → AreBytes bytes
    → IsJudged options bytes (refusal fault_offset reason) → IsJudged options bytes (refusal other why_) → (fault_offset ≡ other) × (reason ≡ why_)
same_refusal options bytes fault_offset other reason why_ fits (inl a) (inl b) = refusal_is_single options bytes fault_offset other reason why_ fits a b
same_refusal options bytes fault_offset other reason why_ fits (inl a) (inr b) = absurd (not_cut options bytes fault_offset reason b.2 a)
same_refusal options bytes fault_offset other reason why_ fits (inr a) (inl b) = absurd (not_cut options bytes other why_ a.2 b)
same_refusal options bytes fault_offset other reason why_ fits (inr a) (inr b) = (a.1 ∙ sym b.1, a.0 ∙ sym b.0)

-- No stream has two judgments, provided that judgments exclude each other.
pub has_one_judgment : JudgmentsExcludeEachOther → HasOneJudgment
has_one_judgment law options bytes (module_of m) (module_of n) fits x y = ap (λ p. module_of p) ((law options bytes fits).one_module m n x y)
has_one_judgment law options bytes (module_of m) (refusal fault_offset reason) fits x y =
    absurd (refused_or_cut options bytes m fault_offset reason law fits x y)
has_one_judgment law options bytes (refusal fault_offset reason) (module_of m) fits x y =
    absurd (refused_or_cut options bytes m fault_offset reason law fits y x)
has_one_judgment law options bytes (refusal fault_offset reason) (refusal other why_) fits x y =
    let same = same_refusal options bytes fault_offset other reason why_ fits x y in (λ i. refusal (same.0 i) (same.1 i))

-- ---- prefixes of files

-- a module's file ends where it ends
ends_there : ModuleIsEndedPrefix → (options : ReadOptions) (bytes : List ℕ) (m : Parts) → AreBytes bytes → IsModule options bytes m
    → EndsAt options bytes (length bytes)
ends_there law options bytes m fits is =
    let found = law options bytes m fits is in
    let limit = is.1.limit in
    record {
      prefix = found.0;
      sound = subst (λ (l : List ℕ). IsSoundPrefix options found.0 l) (sym (take_all file_limit bytes limit)) found.1;
      ended = found.2;
      here = found.3;
    }

some_length : (more : List ℕ) → more ≢ [] → 1 ≤ length more
some_length [] some = absurd (some refl)
some_length (b ∷ more) some = omega arith

cut_by : ModuleIsEndedPrefix → JudgmentsExcludeEachOther → (options : ReadOptions) (bytes more : List ℕ) (m : Parts) → AreBytes (bytes ++ more)
    → more ≢ [] → IsModule options (bytes ++ more) m
    → (judgment : Judgment) → IsJudged options bytes judgment → IsTruncated options bytes
cut_by law exclude options bytes more m fits some is (module_of n) its =
    let ends = end_goes_on options bytes more (length bytes) (AreBytes-prefix bytes more fits)
    (ends_there law options bytes n (AreBytes-prefix bytes more fits) its) in
    let long = length-append bytes more in
    let longer = some_length more some in
    absurd ((exclude options (bytes ++ more) fits).not_module m (length bytes) why.AfterEnd is (inr (inl (refl, ends, omega arith))))
cut_by law exclude options bytes more m fits some is (refusal fault_offset reason) (inl refused) =
    absurd ((exclude options (bytes ++ more) fits).not_module m fault_offset reason is
    (refusal_stays options bytes more fault_offset reason fits refused))
cut_by law exclude options bytes more m fits some is (refusal fault_offset reason) (inr cut) = cut.2

-- The prefix of a module's file is cut off, by the laws of whole streams.
pub prefixes_are_cut_off : EndedPrefixIsModule → ModuleIsEndedPrefix → JudgmentsExcludeEachOther → PrefixesOfModulesAreCutOff
prefixes_are_cut_off ended_law law exclude options bytes more m fits some is =
    let found = has_judgment ended_law options bytes (AreBytes-prefix bytes more fits) in
    cut_by law exclude options bytes more m fits some is found.0 found.1
