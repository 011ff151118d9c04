-- A reader that has read one record more.
use Rattle.std.proofs.Common.{◌≡◌, ◌≢◌, ◌⊎◌, inl, inr, ℕ, zero, suc, ◌+◌, ◌-◌, ◌<◌, ◌≤◌, Bool, true, false, true≢false, List, [], ◌∷◌, ◌++◌, length}
use Rattle.std.proofs.Common.{take, drop, Option, Some, None, Ok, Err, refl, sym, ap, subst, ◌∙◌, arith, take_all, length-drop, length-append}
use Rattle.std.proofs.Common.{length-take, min, nat_lt, Fits, w8, slice_index_or}
use Rattle.std.proofs.lemmas.Bool.{cases_lt, ltb-false, ltb-true}
use Rattle.std.proofs.lemmas.List.{nil_from_length}
use Rattle.mufom_numbers.specs.declared.reason.Reason.{Reason}
use Rattle.mufom_numbers.specs.declared.reason.Reason.TheVariants as why
use Rattle.mufom_numbers.specs.Spelling.{AreBytes}
use Rattle.mufom_module.specs.Grammar.{file_limit}
use Rattle.mufom_read.specs.declared.prefix.Prefix.{Prefix}
use Rattle.mufom_read.specs.declared.state.State.{State}
use Rattle.mufom_read.specs.declared.refusal.ReadRefusal.{ReadRefusal}
use Rattle.mufom_read.specs.declared.refusal.ReadStop.{ReadStop}
use Rattle.mufom_read.specs.declared.refusal.ReadStop.TheVariants as stop
use Rattle.mufom_judging.specs.Prefixes.{Step, size_of, is_ended}
use Rattle.mufom_judging.specs.Faults.{Fault, fault_after}
use Rattle.mufom_judging.specs.Judging.{IsSoundFrom, IsSoundPrefix, within_limit, IsWaiting, IsRefusedAt, IsPending}
use Rattle.mufom_read.specs.PrefixOfCode.{IsPrefixOf}
use Rattle.mufom_read.specs.Reader.{HasTakenAll, HasNoStep, HasTakenChunk, HasEndedChunk, IsReading, IsIncomplete, Knows}
use Rattle.mufom_read.proofs.stepping.PrefixLaws.{size-append}
use Rattle.mufom_numbers.proofs.SpellingLaws.{AreBytes-append}
use Rattle.mufom_judging.proofs.judged.Stays.{sound_stays, within-append, AreBytes-prefix, AreBytes-drop, AreBytes-take}
use Rattle.mufom_read.proofs.stepping.Take.{sound-append, drop-drop}
use Rattle.mufom_records.specs.declared.options.ReadOptions.{ReadOptions}

-- the bytes of a stream within the limit are all of it
pub whole-within : (stream : List ℕ) → length stream ≤ file_limit → within_limit stream ≡ stream
whole-within stream within = take_all file_limit stream within

drop_inside : (n : ℕ) (a b : List ℕ) → n ≤ length a → drop n (a ++ b) ≡ drop n a ++ b
drop_inside zero a b inside = refl
drop_inside (suc n) [] b inside = absurd (omega (arith, inside))
drop_inside (suc n) (x ∷ a) b inside = drop_inside n a b (omega (arith, inside))

-- the steps of a longer stream, whose bytes beyond the limit are not checked
record IsLonger (options : ReadOptions) (prefix : List Step) (stream chunk judged rest : List ℕ) : Type 0 where
  pub all : within_limit (stream ++ chunk) ≡ judged
  pub sound : IsSoundPrefix options prefix judged
  pub after : rest ≡ drop (size_of prefix) judged

longer : (r : State) (stream chunk w : List ℕ) (is : IsReading r stream) → AreBytes (stream ++ chunk) → w
    ≡ take (file_limit - (r.prefix.size + length r.rest.items)) chunk
    → IsLonger r.options is.prefix stream chunk (stream ++ w) (r.rest.items ++ w)
longer r stream chunk w is bytes cut =
    let count : r.prefix.size + length r.rest.items ≡ length stream =
    omega (arith, is.kept.size, ap length is.rest, length-drop (size_of is.prefix) stream, is.inside) in
    let same : take (file_limit - length stream) chunk ≡ w = ap (λ n. take (file_limit - n) chunk) (sym count) ∙ sym cut in
    record {
      all = within-append stream chunk ∙ ap (λ l. l ++ take (file_limit - length stream) chunk) (whole-within stream is.within) ∙ ap (λ l. stream ++ l) same;
      sound = sound_stays r.options [] is.prefix stream w (AreBytes-prefix stream chunk bytes) is.sound;
      after = ap (λ l. l ++ w) is.rest ∙ sym (drop_inside (size_of is.prefix) stream w is.inside);
    }

-- the steps that were taken of it
more_steps : (options : ReadOptions) (prefix steps : List Step) (judged rest : List ℕ) → IsSoundPrefix options prefix judged → rest
    ≡ drop (size_of prefix) judged → IsSoundFrom options prefix steps rest
    → IsSoundPrefix options (prefix ++ steps) judged × (drop (size_of steps) rest ≡ drop (size_of (prefix ++ steps)) judged)
more_steps options prefix steps judged rest sound here more = (
  sound-append options [] prefix steps judged sound (subst (λ (l : List ℕ). IsSoundFrom options prefix steps l) here more),
  ap (drop (size_of steps)) here ∙ drop-drop (size_of prefix) (size_of steps) judged ∙ ap (λ n. drop n judged) (sym (size-append prefix steps)),
)

-- an error after them is one of the stream
pub chunk-refused : (r : State) (stream chunk w : List ℕ) (is : IsReading r stream) (new : Prefix) (f : ReadRefusal) → AreBytes (stream ++ chunk) → w
    ≡ take (file_limit - (r.prefix.size + length r.rest.items)) chunk
    → HasTakenAll r.options is.prefix (r.rest.items ++ w) new (Err (stop.Refused f)) → IsRefusedAt r.options (stream ++ chunk) f.offset f.reason
chunk-refused r stream chunk w is new f bytes cut (steps, sound, unended, fault) =
    let far = longer r stream chunk w is bytes cut in
    let both = more_steps r.options is.prefix steps (stream ++ w) (r.rest.items ++ w) far.sound far.after sound in
    inl (record {
      prefix = is.prefix ++ steps;
      sound = subst (λ (l : List ℕ). IsSoundPrefix r.options (is.prefix ++ steps) l) (sym far.all) both.0;
      unended = unended;
      fault = ap (λ (l : List ℕ). fault_after r.options (is.prefix ++ steps) (drop (size_of (is.prefix ++ steps)) l)) far.all
          ∙ ap (fault_after r.options (is.prefix ++ steps)) (sym both.1) ∙ fault;
    })

-- ---- what a chunk makes known

-- the number of bytes that may still be read
abbrev room_of : State → ℕ
room_of r = file_limit - (r.prefix.size + length r.rest.items)

-- a reader counts as many bytes as the stream has
pub read-length : (r : State) (stream : List ℕ) → IsReading r stream → r.prefix.size + length r.rest.items ≡ length stream
read-length r stream is = omega (arith, is.kept.size, ap length is.rest, length-drop (size_of is.prefix) stream, is.inside)

-- a reader has no step left
pub reading-no-step : (r : State) (stream : List ℕ) (is : IsReading r stream) → HasNoStep r.options is.prefix r.rest.items
reading-no-step r stream is = by_case is.waits where
  by_case : (((is_ended is.prefix ≡ true) × (size_of is.prefix ≡ length stream)) ⊎ IsIncomplete r.options is.prefix r.rest.items)
      → HasNoStep r.options is.prefix r.rest.items
  by_case (inl end) = inl (end.0, nil_from_length r.rest.items (omega (arith, ap length is.rest, length-drop (size_of is.prefix) stream, end.1)))
  by_case (inr want) = inr want

-- the steps that a reader has taken of a stream and one more chunk, and the bytes after them
record HasGoneAfter (r : State) (stream chunk : List ℕ) (prefix : List Step) (n : ℕ) (rest : List ℕ) : Type 0 where
  pub sound : IsSoundPrefix r.options prefix (within_limit (stream ++ chunk))
  pub after : drop n rest ≡ drop (size_of prefix) (within_limit (stream ++ chunk))
  pub judged : within_limit (stream ++ chunk) ≡ stream ++ take (room_of r) chunk
  pub size : size_of prefix + length (drop n rest) ≡ length stream + length (take (room_of r) chunk)
  pub inside : size_of prefix ≤ length stream + length (take (room_of r) chunk)
  pub room : length stream + room_of r ≡ file_limit
  pub count : length (take (room_of r) chunk) ≡ min (room_of r) (length chunk)
  pub long : length (stream ++ chunk) ≡ length stream + length chunk

gone-after : (r : State) (stream chunk : List ℕ) (is : IsReading r stream) (steps : List Step) (n : ℕ) → AreBytes (stream ++ chunk)
    → IsSoundFrom r.options is.prefix steps (r.rest.items ++ take (room_of r) chunk) → size_of steps ≡ n
    → n ≤ length (r.rest.items ++ take (room_of r) chunk)
    → HasGoneAfter r stream chunk (is.prefix ++ steps) n (r.rest.items ++ take (room_of r) chunk)
gone-after r stream chunk is steps n bytes sound size within =
    let w = take (room_of r) chunk in
    let rest = r.rest.items ++ w in
    let far = longer r stream chunk w is bytes refl in
    let both = more_steps r.options is.prefix steps (stream ++ w) rest far.sound far.after sound in
    let all = read-length r stream is in
    let here = size-append is.prefix steps in
    let more = length-append r.rest.items w in
    record {
      sound = subst (λ (l : List ℕ). IsSoundPrefix r.options (is.prefix ++ steps) l) (sym far.all) both.0;
      after = ap (λ k. drop k rest) (sym size) ∙ both.1 ∙ ap (drop (size_of (is.prefix ++ steps))) (sym far.all);
      judged = far.all;
      size = omega (arith, here, size, within, more, all, is.kept.size, length-drop n rest);
      inside = omega (arith, here, size, within, more, all, is.kept.size);
      room = omega (arith, all, is.within);
      count = length-take (room_of r) chunk;
      long = length-append stream chunk;
    }

-- bytes that are not none are some
some_left : (n : ℕ) (rest : List ℕ) → (drop n rest ≡ [] → ⊥) → 0 < length (drop n rest)
some_left n rest some = elim (cases_lt 0 (length (drop n rest))) [ inl is ↦ is | inr no_ ↦ absurd (some (nil_from_length (drop n rest) (omega (arith, no_)))) ]

abbrev Waits : ReadOptions → List Step → List ℕ → Type 0
Waits options prefix after = (is_ended prefix ≡ true) ⊎ IsIncomplete options prefix after

-- nothing is stated: the whole stream was read
still-reading : (r : State) (stream chunk : List ℕ) (prefix : List Step) (n : ℕ) (rest : List ℕ) (new : State)
    → HasGoneAfter r stream chunk prefix n rest → new.options ≡ r.options
    → IsPrefixOf new.prefix prefix → Waits r.options prefix (drop n rest) → nat_lt (room_of r) (length chunk) ≡ false → new.rest.items
    ≡ drop n rest → (is_ended prefix ≡ true → drop n rest ≡ [])
    → IsReading new (stream ++ chunk)
still-reading r stream chunk prefix n rest new gone same is waits short left none =
    let few : length chunk ≤ room_of r = ltb-false (room_of r) (length chunk) short in
    let whole : within_limit (stream ++ chunk) ≡ stream ++ chunk = gone.judged ∙ ap (λ l. stream ++ l) (take_all (room_of r) chunk few) in
    let all = gone.count in
    record {
      prefix = prefix;
      kept = is;
      sound = subst (λ (b : ReadOptions). IsSoundPrefix b prefix (stream ++ chunk)) (sym same)
          (subst (λ (l : List ℕ). IsSoundPrefix r.options prefix l) whole gone.sound);
      within = omega (arith, gone.long, gone.room, few);
      inside = omega (arith, gone.long, gone.inside, all, few);
      rest = left ∙ gone.after ∙ ap (drop (size_of prefix)) whole;
      waits = by_case waits;
    }
  where
    by_case : Waits r.options prefix (drop n rest) → ((is_ended prefix ≡ true) × (size_of prefix ≡ length (stream ++ chunk)))
        ⊎ IsIncomplete new.options prefix new.rest.items
    by_case (inl end) = let few : length chunk ≤ room_of r = ltb-false (room_of r) (length chunk) short in
        inl (end, omega (arith, gone.long, gone.size, gone.count, few, ap length (none end)))
    by_case (inr want) = inr (subst (λ (b : ReadOptions). IsIncomplete b prefix new.rest.items) (sym same)
        (subst (λ (l : List ℕ). IsIncomplete r.options prefix l) (sym left) want))

-- a byte follows the end of the module
after-end : (r : State) (stream chunk : List ℕ) (prefix : List Step) (n : ℕ) (rest : List ℕ) (offset : ℕ) (reason : Reason)
    → HasGoneAfter r stream chunk prefix n rest → is_ended prefix ≡ true → offset ≡ size_of prefix → reason ≡ why.AfterEnd
    → (nat_lt (room_of r) (length chunk) ≡ true) ⊎ (drop n rest ≢ []) → IsRefusedAt r.options (stream ++ chunk) offset reason
after-end r stream chunk prefix n rest offset reason gone end here for_ more =
    inr (inl (for_, record { prefix = prefix; sound = gone.sound; ended = end; here = sym here }, by_case more)) where
      by_case : ((nat_lt (room_of r) (length chunk) ≡ true) ⊎ (drop n rest ≢ [])) → offset < length (stream ++ chunk)
      by_case (inl long) = let many : room_of r < length chunk = ltb-true (room_of r) (length chunk) long in
          omega (arith, here, gone.inside, gone.count, gone.long, many)
      by_case (inr some) = let left : 0 < length (drop n rest) = some_left n rest some in omega (arith, here, gone.size, gone.count, gone.long, left)

-- the stream is too long
too-long : (r : State) (stream chunk : List ℕ) (prefix : List Step) (n : ℕ) (rest : List ℕ) (offset : ℕ) (reason : Reason)
    → HasGoneAfter r stream chunk prefix n rest → is_ended prefix ≡ false → offset ≡ file_limit → reason ≡ why.FileLimit
    → nat_lt (room_of r) (length chunk) ≡ true → Waits r.options prefix (drop n rest) → IsRefusedAt r.options (stream ++ chunk) offset reason
too-long r stream chunk prefix n rest offset reason gone unended here for_ long waits =
    let many : room_of r < length chunk = ltb-true (room_of r) (length chunk) long in
    inr (inr (for_, here, omega (arith, gone.long, gone.room, many), drop n rest, by_case waits))
  where
    by_case : Waits r.options prefix (drop n rest) → IsWaiting r.options (stream ++ chunk) (drop n rest)
    by_case (inl end) = absurd (true≢false (sym end ∙ unended))
    by_case (inr want) = record {
      prefix = prefix;
      sound = gone.sound;
      unended = want.unended;
      faultless = want.faultless;
      wanting = want.wanting;
      after = gone.after;
    }

-- what is stated after the steps
knows-ended : (r : State) (stream chunk : List ℕ) (prefix : List Step) (n : ℕ) (rest : List ℕ) (longer_ : Bool) (new : State)
    (result : Option ReadStop) → HasGoneAfter r stream chunk prefix n rest → new.options ≡ r.options
    → longer_ ≡ nat_lt (room_of r) (length chunk) → IsPrefixOf new.prefix prefix → Waits r.options prefix (drop n rest)
    → HasEndedChunk (is_ended prefix) new.prefix.size longer_ (drop n rest) new result
    → Knows new (stream ++ chunk) result
knows-ended r stream chunk prefix n rest longer_ new None gone same test is waits (left, short, none) =
    still-reading r stream chunk prefix n rest new gone same is waits (sym test ∙ short) left none
knows-ended r stream chunk prefix n rest longer_ new (Some (stop.Refused f)) gone same test is waits (inl (end, fault, more)) =
    subst (λ (b : ReadOptions). IsRefusedAt b (stream ++ chunk) f.offset f.reason) (sym same)
    (after-end r stream chunk prefix n rest f.offset f.reason gone end (ap (λ (p : Fault). p.0) fault ∙ is.size) (ap (λ (p : Fault). p.1) fault) (by_case more))
  where
    by_case : ((longer_ ≡ true) ⊎ (drop n rest ≢ [])) → (nat_lt (room_of r) (length chunk) ≡ true) ⊎ (drop n rest ≢ [])
    by_case (inl long) = inl (sym test ∙ long)
    by_case (inr some) = inr some
knows-ended r stream chunk prefix n rest longer_ new (Some (stop.Refused f)) gone same test is waits (inr (unended, fault, long)) =
    subst (λ (b : ReadOptions). IsRefusedAt b (stream ++ chunk) f.offset f.reason) (sym same)
    (too-long r stream chunk prefix n rest f.offset f.reason gone unended (ap (λ (p : Fault). p.0) fault) (ap (λ (p : Fault). p.1) fault) (sym test
    ∙ long) waits)
knows-ended r stream chunk prefix n rest longer_ new (Some stop.NoMemory) gone same test is waits ended = tt

-- a slice of u8 is of bytes
pub fits-bytes : (bytes : List ℕ) → ((i : ℕ) → Fits w8 (slice_index_or bytes i 0)) → AreBytes bytes
fits-bytes [] fits = tt
fits-bytes (b ∷ bytes) fits = let first : Fits w8 b = fits 0 in (omega (arith, first), fits-bytes bytes (λ i. fits (suc i)))

-- the pending bytes and a chunk of a stream are bytes
pub rest-bytes : (r : State) (stream chunk : List ℕ) (n : ℕ) → AreBytes stream → IsReading r stream → ((i : ℕ) → Fits w8 (slice_index_or chunk i 0))
    → AreBytes (r.rest.items ++ take n chunk)
rest-bytes r stream chunk n bytes is fits =
    AreBytes-append r.rest.items (take n chunk) (subst (λ (l : List ℕ). AreBytes l) (sym is.rest) (AreBytes-drop (size_of is.prefix) stream bytes))
    (AreBytes-take n chunk (fits-bytes chunk fits))

-- what is known after a chunk, if all complete steps of it and of the pending bytes were taken
pub known-taken : (r new : State) (stream chunk w : List ℕ) (longer_ : Bool) (result : Option ReadStop) → IsReading r stream
    → AreBytes (stream ++ chunk) → w ≡ take (file_limit - (r.prefix.size + length r.rest.items)) chunk
    → longer_ ≡ nat_lt (file_limit - (r.prefix.size + length r.rest.items)) (length chunk) → new.options ≡ r.options
    → ((before : List Step) → IsPrefixOf r.prefix before → HasNoStep r.options before r.rest.items
    → HasTakenChunk r.options before (r.rest.items ++ w) new (Ok tt))
    → ((prefix : List Step) → IsPrefixOf new.prefix prefix → HasEndedChunk (is_ended prefix) new.prefix.size longer_ new.rest.items new result)
    → Knows new (stream ++ chunk) result
known-taken r new stream chunk w longer_ result is bytes cut test same taken ended =
    let all = subst (λ (l : List ℕ). HasTakenChunk r.options is.prefix (r.rest.items ++ l) new (Ok tt)) cut
    (taken is.prefix is.kept (reading-no-step r stream is)) in
    let its = all.1 in
    let prefix = is.prefix ++ its.0 in
    knows-ended r stream chunk prefix all.0 (r.rest.items ++ take (room_of r) chunk) longer_ new result
    (gone-after r stream chunk is its.0 all.0 bytes its.2 its.3 its.4) same test its.1 its.5
    (subst (λ (l : List ℕ). HasEndedChunk (is_ended prefix) new.prefix.size longer_ l new result) all.2 (ended prefix its.1))

-- the same if it has an error, or memory runs out
pub known-stopped : (r new : State) (stream chunk w : List ℕ) (s : ReadStop) → IsReading r stream → AreBytes (stream ++ chunk) → w
    ≡ take (file_limit - (r.prefix.size + length r.rest.items)) chunk → new.options ≡ r.options
    → ((before : List Step) → IsPrefixOf r.prefix before → HasNoStep r.options before r.rest.items
    → HasTakenChunk r.options before (r.rest.items ++ w) new (Err s)) → Knows new (stream ++ chunk) (Some s)
known-stopped r new stream chunk w (stop.Refused f) is bytes cut same taken =
    subst (λ (b : ReadOptions). IsRefusedAt b (stream ++ chunk) f.offset f.reason) (sym same)
    (chunk-refused r stream chunk w is new.prefix f bytes cut (taken is.prefix is.kept (reading-no-step r stream is)))
known-stopped r new stream chunk w stop.NoMemory is bytes cut same taken = tt

-- ---- the number of pending bytes

pub pending-is : (r : State) (stream : List ℕ) → IsReading r stream → IsPending r.options stream (length r.rest.items)
pending-is r stream is = by_case is.waits where
  all : within_limit stream ≡ stream
  all = whole-within stream is.within

  sound : IsSoundPrefix r.options is.prefix (within_limit stream)
  sound = subst (λ (l : List ℕ). IsSoundPrefix r.options is.prefix l) (sym all) is.sound

  by_case : (((is_ended is.prefix ≡ true) × (size_of is.prefix ≡ length stream)) ⊎ IsIncomplete r.options is.prefix r.rest.items)
      → IsPending r.options stream (length r.rest.items)
  by_case (inl end) = inr (
    record { prefix = is.prefix; sound = sound; ended = end.0; here = end.1 },
    omega (arith, ap length is.rest, length-drop (size_of is.prefix) stream, end.1),
  )
  by_case (inr want) = inl (
    r.rest.items,
    record {
      prefix = is.prefix;
      sound = sound;
      unended = want.unended;
      faultless = want.faultless;
      wanting = want.wanting;
      after = is.rest ∙ ap (drop (size_of is.prefix)) (sym all);
    },
    refl,
  )
