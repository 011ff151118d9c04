-- What the results of a reader state of the bytes that a source had left.
use Rattle.std.proofs.Common.{◌≡◌, ◌≢◌, ◌⊎◌, ◌↔◌, inl, inr, ℕ, ◌+◌, ◌-◌, ◌<◌, ◌≤◌, List, [], ◌∷◌, ◌++◌, length, take, drop, Option, Some, None}
use Rattle.std.proofs.Common.{Result, Ok, Err, IfSome, refl, sym, ap, subst, ◌∙◌, arith, append_assoc, append-nil}
use Rattle.std.proofs.lemmas.List.{length-append, length-take, length-take-le, take_all, take-take, take-append-drop}
use Rattle.mufom_numbers.specs.declared.reason.Reason.{Reason}
use Rattle.mufom_numbers.specs.declared.reason.Reason.TheVariants as why
use Rattle.mufom_numbers.specs.Spelling.{AreBytes}
use Rattle.mufom_host.specs.declared.world.Failed.{Failed}
use Rattle.mufom_host.specs.World.{Meaning, Faults, Reads, ReadsOff, KeepsAllButLeft, KeepsAllButReads}
use Rattle.mufom_host.specs.Spans.{AfterReads}
use Rattle.mufom_host.proofs.Composing.{ReadsOff-read, ReadsOff-refl, ReadsOff-trans, KeepsAllButLeft-trans, KeepsAllButReads-trans}
use Rattle.mufom_module.specs.declared.module.Parts.{Parts}
use Rattle.mufom_read.specs.declared.refusal.ReadRefusal.{ReadRefusal}
use Rattle.mufom_read.specs.declared.refusal.ReadStop.{ReadStop}
use Rattle.mufom_read.specs.declared.refusal.ReadStop.TheVariants as read_stop
use Rattle.mufom_source.specs.declared.source.SourceStop.{SourceStop}
use Rattle.mufom_source.specs.declared.source.SourceStop.TheVariants as stop
use Rattle.mufom_read.specs.declared.state.State.{State}
use Rattle.mufom_judging.specs.Judging.{IsRefusedAt, IsTruncated, IsModule, IsJudged, refusal}
use Rattle.mufom_read.specs.Reader.{Knows, HasRead, options_of, reader_stop, answer_of}
use Rattle.mufom_judging.specs.Limited.{IsUnrefused, IsRefusedWithin, IsPastLimit}
use Rattle.mufom_source.specs.Source.{buffer_size, ReadsAtMost, ReadsNoFurther, ReadsModule, stop_by, HasFed}
use Rattle.mufom_source.specs.Source.{HasReadChunk, HasReadAll}
use Rattle.mufom_judging.proofs.judged.PrefixesOne.{one_refusal, not_cut}
use Rattle.mufom_judging.proofs.judged.Stays.{limit-append, refusal_goes_on}
use Rattle.mufom_judging.proofs.spelled.Judged.{judgments_exclude_each_other}
use Rattle.mufom_read.proofs.feeding.Feed.{the_refusal, reading-not-refused}
use Rattle.mufom_records.specs.declared.options.ReadOptions.{ReadOptions}

-- ---- one record

-- the stop of a reader is what it returned
stop-answered : (o : Option ReadStop) (s : ReadStop) → ◌≡◌ {A = Result (Unit {0}) ReadStop} (Err s) (answer_of o) → o ≡ Some s
stop-answered None s e = absurd (wrong e) where
  wrong : ◌≡◌ {A = Result (Unit {0}) ReadStop} (Err s) (Ok tt) → ⊥
  wrong e = cc
stop-answered (Some t) s e = cc

going-answered : (o : Option ReadStop) (done : Unit {0}) → ◌≡◌ {A = Result (Unit {0}) ReadStop} (Ok done) (answer_of o) → o ≡ None
going-answered None done e = refl
going-answered (Some t) done e = absurd (wrong e) where
  wrong : ◌≡◌ {A = Result (Unit {0}) ReadStop} (Ok done) (Err t) → ⊥
  wrong e = cc

-- a reader that goes on was fed no error
unrefused : (reader : State) (stream : List ℕ) → HasRead reader stream → reader_stop reader ≡ None → IsUnrefused (options_of reader) stream
unrefused reader stream read none = λ offset reason refused.
    reading-not-refused reader stream offset reason (subst (λ (s : Option ReadStop). Knows reader stream s) none read.1) refused

pub fed-whole : (room count : ℕ) (stream buffer : List ℕ) (reader : State) (done : Unit {0}) → count ≤ room
    → ◌≡◌ {A = Result (Unit {0}) ReadStop} (Ok done) (answer_of (reader_stop reader)) → HasRead reader (stream ++ take count buffer)
    → HasFed room stream (take count buffer) reader (Ok tt)
fed-whole room count stream buffer reader done few answers read =
    (omega (arith, length-take count buffer, few), read, unrefused reader (stream ++ take count buffer) read (going-answered (reader_stop reader) done answers))

pub fed-stopped : (room : ℕ) (stream chunk fed : List ℕ) (reader : State) (s : ReadStop) (made : SourceStop) → take room chunk ≡ fed → made
    ≡ stop_by s → ◌≡◌ {A = Result (Unit {0}) ReadStop} (Err s) (answer_of (reader_stop reader))
    → HasRead reader (stream ++ fed) → HasFed room stream chunk reader (Err made)
fed-stopped room stream chunk fed reader s made same by answers read =
    subst (λ (m : SourceStop). HasFed room stream chunk reader (Err m)) (sym by)
    (by_stop s (subst (λ (o : Option ReadStop). Knows reader (stream ++ fed) o) (stop-answered (reader_stop reader) s answers) read.1))
  where
    by_stop : (s : ReadStop) → Knows reader (stream ++ fed) (Some s) → HasFed room stream chunk reader (Err (stop_by s))
    by_stop (read_stop.Refused f) known = subst (λ (l : List ℕ). AreBytes (stream ++ l)
        × IsRefusedAt (options_of reader) (stream ++ l) f.offset f.reason) (sym same) (read.0, known)
    by_stop read_stop.NoMemory known = tt

-- a stop of the reader is never `Fault`
pub stop-no-fault : (s : ReadStop) (made : SourceStop) → made ≡ stop_by s → made ≢ stop.Fault
stop-no-fault s made by = λ e. by_stop s (sym by ∙ e) where
  by_stop : (s : ReadStop) → stop_by s ≡ stop.Fault → ⊥
  by_stop (read_stop.Refused f) e = let wrong : stop.Refused f ≡ stop.Fault = e in cc
  by_stop read_stop.NoMemory e = let wrong : stop.NoMemory ≡ stop.Fault = e in cc

pub fed-limit : (room count : ℕ) (stream buffer : List ℕ) (reader : State) (done : Unit {0}) → room < count → count ≤ length buffer
    → ◌≡◌ {A = Result (Unit {0}) ReadStop} (Ok done) (answer_of (reader_stop reader))
    → HasRead reader (stream ++ take room buffer) → HasFed room stream (take count buffer) reader (Err stop.Limit)
fed-limit room count stream buffer reader done many inside answers read = (
  omega (arith, length-take-le count buffer inside, many),
  subst (λ (l : List ℕ). IsUnrefused (options_of reader) (stream ++ l)) (sym (take-take room count buffer (omega (arith, many))))
      (unrefused reader (stream ++ take room buffer) read (going-answered (reader_stop reader) done answers)),
)

-- ---- what one read gave

-- the first `room` bytes of all begin with the first `room` bytes of the first `count`
take-grows : (room count : ℕ) (left : List ℕ) → take room left ≡ take room (take count left) ++ take (room - length (take count left)) (drop count left)
take-grows room count left = ap (take room) (sym (take-append-drop count left)) ∙ limit-append room (take count left) (drop count left)

refused-in-left : (options : ReadOptions) (room count : ℕ) (stream left : List ℕ) (offset : ℕ) (reason : Reason) → AreBytes
    (stream ++ take room (take count left))
    → IsRefusedAt options (stream ++ take room (take count left)) offset reason → IsRefusedAt options (stream ++ take room left) offset reason
refused-in-left options room count stream left offset reason bytes refused =
    let more = take (room - length (take count left)) (drop count left) in
    subst (λ (l : List ℕ). IsRefusedAt options l offset reason) (append_assoc stream (take room (take count left)) more
    ∙ ap (λ l. stream ++ l) (sym (take-grows room count left)))
    (refusal_goes_on options (stream ++ take room (take count left)) more offset reason bytes refused)

pub chunk-stopped : (room count : ℕ) (before after : Option (List ℕ)) (stream buffer : List ℕ) (reader : State) (s : SourceStop)
    → Reads before after (Ok count) buffer → HasFed room stream (take count buffer) reader (Err s)
    → HasReadChunk room before after stream reader (Err s)
chunk-stopped room count None after stream buffer reader (stop.Refused f) reads fed = tt
chunk-stopped room count (Some left) after stream buffer reader (stop.Refused f) reads fed =
    let same = subst (λ (l : List ℕ). AreBytes (stream ++ take room l)
    × IsRefusedAt (options_of reader) (stream ++ take room l) f.offset f.reason) reads.bytes fed in
    refused-in-left (options_of reader) room count stream left f.offset f.reason same.0 same.1
chunk-stopped room count None after stream buffer reader stop.Limit reads fed = tt
chunk-stopped room count (Some left) after stream buffer reader stop.Limit reads fed =
    let same = subst (λ (l : List ℕ). (room < length l) × IsUnrefused (options_of reader) (stream ++ take room l)) reads.bytes fed in
    let some : room < length (take count left) = same.0 in
    let within = length-take-le count left reads.within in
    let many : room < length left = omega (arith, some, within, reads.within) in
    let few : room ≤ count = omega (arith, some, within) in
    (many, subst (λ (l : List ℕ). IsUnrefused (options_of reader) (stream ++ l)) (take-take room count left few) same.1)
chunk-stopped room count before after stream buffer reader stop.Fault reads fed = absurd fed
chunk-stopped room count before after stream buffer reader stop.NoMemory reads fed = tt

pub chunk-read : (room count : ℕ) (before after : Option (List ℕ)) (stream buffer : List ℕ) (reader : State) (done : Unit {0})
    → Reads before after (Ok count) buffer → count ≤ length buffer → 0 < length buffer
    → HasFed room stream (take count buffer) reader (Ok done) → HasReadChunk room before after stream reader (Ok count)
chunk-read room count before after stream buffer reader done reads inside some fed =
    let size = length-take-le count buffer inside in
    let few : length (take count buffer) ≤ room = fed.0 in
    (take count buffer, size, omega (arith, size, few), ReadsOff-read before after count buffer reads, fed.1, none_left before reads, fed.2)
  where
    none_left : (before : Option (List ℕ)) → Reads before after (Ok count) buffer → count ≡ 0 → IfSome before (λ left. left ≡ [])
    none_left None reads none = tt
    none_left (Some left) reads none = reads.end none some

-- a read takes at most as many bytes as the buffer has, and none if it fails
pub read-at-most : (before after : Option (List ℕ)) (count : ℕ) (buffer : List ℕ) (most : ℕ) → Reads before after (Ok count) buffer
    → count ≤ length buffer → length buffer ≡ most → ReadsAtMost most before after
read-at-most before after count buffer most reads inside size =
    (take count buffer, ReadsOff-read before after count buffer reads, omega (arith, length-take count buffer, inside, size))

pub failed-at-most : (before after : Option (List ℕ)) (e : Failed) (buffer : List ℕ) (most : ℕ) → Reads before after (Err e) buffer
    → ReadsAtMost most before after
failed-at-most before after e buffer most reads = ([], none before reads, omega arith) where
  none : (before : Option (List ℕ)) → Reads before after (Err e) buffer → ReadsOff before after []
  none None reads = tt
  none (Some left) reads = (left, refl, reads)

-- the empty stream has no error
pub unrefused-none : (options : ReadOptions) → IsUnrefused options []
unrefused-none options = λ offset reason refused.
    not_cut options [] offset reason (
      omega arith,
      [],
      record {
        prefix = [];
        sound = tt;
        unended = refl;
        faultless = refl;
        wanting = refl;
        after =
            refl;
      },
    ) refused

-- nothing was read
pub none-further : (options : ReadOptions) (limit : ℕ) (before : Option (List ℕ)) → ReadsNoFurther options limit before before
none-further options limit None = tt
none-further options limit (Some left) = ([], [], left, refl, refl, omega arith, omega arith, unrefused-none options)

-- ---- all reads so far

-- The reader has read this number of bytes of the source, and the source was only read.
pub record HasCome (limit n : ℕ) (options : ReadOptions) (reader : State) (old new : Meaning) (before now : Faults) : Type 0 where
  pub bytes : List ℕ
  pub count : length bytes ≡ n
  pub within : n ≤ limit
  pub read : HasRead reader bytes
  pub unrefused : IsUnrefused options bytes
  pub same : options_of reader ≡ options
  pub after : AfterReads old new before now bytes

module _ (limit n : ℕ) (options : ReadOptions) (reader next : State) (old mid new : Meaning) (before between now : Faults) where
  pub come-on : (count : ℕ) (come : HasCome limit n options reader old mid before between)
      → HasReadChunk (limit - n) mid.left new.left come.bytes next (Ok count) → options_of next ≡ options_of reader
      → KeepsAllButLeft mid new → KeepsAllButReads between now → between.reads ≤ now.reads → HasCome limit (n + count) options next old new before now
  come-on count come chunk same stays counts later = record {
    bytes = come.bytes ++ chunk.0;
    count = omega (arith, length-append come.bytes chunk.0, come.count, chunk.1);
    within = omega (arith, come.within, chunk.2);
    read = chunk.4;
    unrefused = subst (λ (d : ReadOptions). IsUnrefused d (come.bytes ++ chunk.0)) (same ∙ come.same) chunk.6;
    same = same ∙ come.same;
    after = record {
      taken = ReadsOff-trans old.left mid.left new.left come.bytes chunk.0 come.after.taken chunk.3;
      stays = KeepsAllButLeft-trans old mid new come.after.stays stays;
      later = omega (arith, come.after.later, later);
      counts = KeepsAllButReads-trans before between now come.after.counts counts;
    };
  }

-- before the first read
pub come-none : (limit : ℕ) (reader : State) (meaning : Meaning) (faults : Faults) → HasRead reader []
    → HasCome limit 0 (options_of reader) reader meaning meaning faults faults
come-none limit reader meaning faults read = record {
  bytes = [];
  count = refl;
  within = omega arith;
  read = read;
  unrefused = unrefused-none (options_of reader);
  same = refl;
  after = record { taken = ReadsOff-refl meaning.left; stays = refl; later = omega arith; counts = refl };
}

-- what is left after one read more
pub come-further : (limit n : ℕ) (options : ReadOptions) (before between after : Option (List ℕ)) (bytes : List ℕ) → length bytes ≡ n → n ≤ limit
    → IsUnrefused options bytes → ReadsOff before between bytes
    → ReadsAtMost buffer_size between after → ReadsNoFurther options limit before after
come-further limit n options None between after bytes size few clean off once = tt
come-further limit n options (Some left) between after bytes size few clean off once =
    let then_ = subst (λ (o : Option (List ℕ)). ReadsOff o after once.0) off.2 once.1 in
    (bytes, once.0, then_.0, off.1 ∙ ap (λ l. bytes ++ l) then_.1, then_.2, once.2, omega (arith, size, few), clean)

-- what is left of all after the bytes that were read
take-following : (limit : ℕ) (bytes rest : List ℕ) → length bytes ≤ limit → take limit (bytes ++ rest) ≡ bytes ++ take (limit - length bytes) rest
take-following limit bytes rest few = limit-append limit bytes rest ∙ ap (λ l. l ++ take (limit - length bytes) rest) (take_all limit bytes few)

-- a stop has its cause in what was left before all reads
pub come-stopped : (limit n : ℕ) (next : State) (before between after : Option (List ℕ)) (bytes : List ℕ) (s : SourceStop) → length bytes ≡ n
    → n ≤ limit → ReadsOff before between bytes
    → HasReadChunk (limit - n) between after bytes next (Err s) → HasReadAll limit before after next (Err s)
come-stopped limit n next None between after bytes (stop.Refused f) size few off chunk = tt
come-stopped limit n next (Some left) between after bytes (stop.Refused f) size few off chunk =
    let here = subst (λ (o : Option (List ℕ)). IfSome o (λ l. IsRefusedAt (options_of next) (bytes ++ take (limit - n) l) f.offset f.reason)) off.2 chunk in
    inl (subst (λ (l : List ℕ). IsRefusedAt (options_of next) l f.offset f.reason) (first limit n left bytes off.0 size few off.1) here)
  where
    first : (limit n : ℕ) (left bytes rest : List ℕ) → length bytes ≡ n → n ≤ limit → left ≡ bytes ++ rest → bytes ++ take (limit - n) rest ≡ take limit left
    first limit n left bytes rest size few whole = ap (λ k. bytes ++ take (limit - k) rest) (sym size)
        ∙ sym (take-following limit bytes rest (omega (arith, size, few))) ∙ ap (take limit) (sym whole)
come-stopped limit n next None between after bytes stop.Limit size few off chunk = tt
come-stopped limit n next (Some left) between after bytes stop.Limit size few off chunk =
    let here = subst (λ (o : Option (List ℕ)). IfSome o (λ l. (limit - n < length l)
    × IsUnrefused (options_of next) (bytes ++ take (limit - n) l))) off.2 chunk in
    let more : limit - n < length off.0 = here.0 in (
      omega (arith, ap length off.1, length-append bytes off.0, size, few, more),
      subst (λ (l : List ℕ). IsUnrefused (options_of next) l) (ap (λ k. bytes ++ take (limit - k) off.0) (sym size)
          ∙ sym (take-following limit bytes off.0 (omega (arith, size, few))) ∙ ap (take limit) (sym off.1)) here.1,
    )
come-stopped limit n next before between after bytes stop.Fault size few off chunk = tt
come-stopped limit n next before between after bytes stop.NoMemory size few off chunk = tt

no_bytes : (bytes : List ℕ) → length bytes ≡ 0 → bytes ≡ []
no_bytes [] e = refl
no_bytes (b ∷ bytes) e = absurd (omega (arith, e))

-- if a read gives no byte, all bytes were read
pub come-end : (limit n count : ℕ) (next : State) (before between after : Option (List ℕ)) (bytes : List ℕ) → length bytes ≡ n → n ≤ limit
    → ReadsOff before between bytes → count ≡ 0
    → HasReadChunk (limit - n) between after bytes next (Ok count) → HasReadAll limit before after next (Ok n)
come-end limit n count next before between after bytes size few off none chunk =
    let empty : chunk.0 ≡ [] = no_bytes chunk.0 (chunk.1 ∙ none) in
    (bytes, size, few, subst (λ (l : List ℕ). HasRead next l) (ap (λ l. bytes ++ l) empty ∙ append-nil bytes) chunk.4, whole before off)
  where
    whole : (before : Option (List ℕ)) → ReadsOff before between bytes → IfSome before (λ left. (left ≡ bytes) × (after ≡ Some []))
    whole None off = tt
    whole (Some left) off =
        let empty : chunk.0 ≡ [] = no_bytes chunk.0 (chunk.1 ∙ none) in
        let gone : off.0 ≡ [] = subst (λ (o : Option (List ℕ)). IfSome o (λ l. l ≡ [])) off.2 (chunk.5 none) in
        let then_ = subst (λ (o : Option (List ℕ)). ReadsOff o after chunk.0) off.2 chunk.3 in
        let rest : then_.0 ≡ [] = sym (then_.1 ∙ ap (λ l. l ++ then_.0) empty) ∙ gone in
        (off.1 ∙ ap (λ l. bytes ++ l) gone ∙ append-nil bytes, then_.2 ∙ ap (λ l. Some l) rest)

-- ---- what is returned

-- all bytes were read: the module is theirs
pub all-module : (options : ReadOptions) (limit n : ℕ) (before after : Option (List ℕ)) (bytes : List ℕ) (m : Parts) → length bytes ≡ n → n ≤ limit
    → IfSome before (λ left. (left ≡ bytes) × (after ≡ Some [])) → IsModule options bytes m
    → ReadsModule options limit before after (Ok (m, n))
all-module options limit n None after bytes m size few all is = tt
all-module options limit n (Some left) after bytes m size few all is =
    (subst (λ (l : List ℕ). IsModule options l m) (sym all.0) is, sym size ∙ ap length (sym all.0), omega (arith, ap length all.0, size, few), all.1)

-- all bytes were read: the error is theirs
pub all-refused : (options : ReadOptions) (limit n : ℕ) (before after : Option (List ℕ)) (bytes : List ℕ) (s : ReadStop) (made : SourceStop)
    → length bytes ≡ n → n ≤ limit → IfSome before (λ left. (left ≡ bytes) × (after ≡ Some []))
    → made ≡ stop_by s → ((offset : ℕ) (reason : Reason) → s ≡ read_stop.Refused (the_refusal offset reason)
    → IsJudged options bytes (refusal offset reason))
    → ReadsModule options limit before after (Err made)
all-refused options limit n before after bytes s made size few all by judged =
    subst (λ (m : SourceStop). ReadsModule options limit before after (Err m)) (sym by) (by_stop s before all judged)
  where
    by_stop : (s : ReadStop) (before : Option (List ℕ)) → IfSome before (λ left. (left ≡ bytes) × (after ≡ Some []))
        → ((offset : ℕ) (reason : Reason) → s ≡ read_stop.Refused (the_refusal offset reason) → IsJudged options bytes (refusal offset reason))
        → ReadsModule options limit before after (Err (stop_by s))
    by_stop (read_stop.Refused f) None all judged = tt
    by_stop (read_stop.Refused f) (Some left) all judged =
        inr (
          omega (arith, ap length all.0, size, few),
          subst (λ (l : List ℕ). IsJudged options l (refusal f.offset f.reason)) (sym all.0)
              (judged f.offset f.reason refl),
        )
    by_stop read_stop.NoMemory before all judged = tt

-- all bytes are the first ones, if there are no more
first-all : (options : ReadOptions) (limit : ℕ) (left : List ℕ) (offset : ℕ) (reason : Reason) → length left ≤ limit
    → IsRefusedAt options left offset reason → IsRefusedAt options (take limit left) offset reason
first-all options limit left offset reason few refused =
    subst (λ (l : List ℕ). IsRefusedAt options l offset reason) (sym (take_all limit left few)) refused

all-first : (options : ReadOptions) (limit : ℕ) (left : List ℕ) (offset : ℕ) (reason : Reason) → length left ≤ limit
    → IsRefusedAt options (take limit left) offset reason → IsRefusedAt options left offset reason
all-first options limit left offset reason few refused = subst (λ (l : List ℕ). IsRefusedAt options l offset reason) (take_all limit left few) refused

-- an error within the limit is one of the first bytes; or there are no more bytes, and they are cut off
abbrev IsWithin : ReadOptions → ℕ → List ℕ → ℕ → Reason → Type 0
IsWithin options limit left offset reason = IsRefusedAt options (take limit left) offset reason
    ⊎ ((length left ≤ limit) × (reason ≡ why.Truncated) × (offset ≡ length left) × IsTruncated options left)

split : (options : ReadOptions) (limit : ℕ) (left : List ℕ) (offset : ℕ) (reason : Reason) → IsRefusedWithin options limit left offset reason
    → IsWithin options limit left offset reason
split options limit left offset reason (inl refused) = inl refused
split options limit left offset reason (inr (few, inl refused)) = inl (first-all options limit left offset reason few refused)
split options limit left offset reason (inr (few, inr cut)) = inr (few, cut.0, cut.1, cut.2)

one_within : (options : ReadOptions) (limit : ℕ) (left : List ℕ) (offset other : ℕ) (reason why_ : Reason)
    → IsWithin options limit left offset reason → IsWithin options limit left other why_ → (offset ≡ other) × (reason ≡ why_)
one_within options limit left offset other reason why_ (inl a) (inl b) = one_refusal options (take limit left) offset other reason why_ a b
one_within options limit left offset other reason why_ (inl a) (inr b) =
    absurd (not_cut options left offset reason b.3 (all-first options limit left offset reason b.0 a))
one_within options limit left offset other reason why_ (inr a) (inl b) =
    absurd (not_cut options left other why_ a.3 (all-first options limit left other why_ a.0 b))
one_within options limit left offset other reason why_ (inr a) (inr b) = (a.2 ∙ sym b.2, a.1 ∙ sym b.1)

not_past : (options : ReadOptions) (limit : ℕ) (left : List ℕ) (offset : ℕ) (reason : Reason) → IsWithin options limit left offset reason
    → IsPastLimit options limit left → ⊥
not_past options limit left offset reason (inl a) past = past.1 offset reason a
not_past options limit left offset reason (inr a) past = let few : length left ≤ limit = a.0 in let many : limit < length left = past.0 in
    omega (arith, few, many)

-- the file of a module has no error
not_module : (options : ReadOptions) (limit : ℕ) (left : List ℕ) (m : Parts) (offset : ℕ) (reason : Reason) → AreBytes left → length left ≤ limit
    → IsModule options left m → IsWithin options limit left offset reason → ⊥
not_module options limit left m offset reason bytes few is (inl a) =
    (judgments_exclude_each_other options left bytes).not_module m offset reason is (all-first options limit left offset reason few a)
not_module options limit left m offset reason bytes few is (inr a) = (judgments_exclude_each_other options left bytes).whole m is a.3

abbrev pub Answer : Type 0
Answer = Result (Parts × ℕ) SourceStop

-- the result if there is a module
module-refused : (options : ReadOptions) (limit : ℕ) (left : List ℕ) (read : Parts × ℕ) (offset : ℕ) (reason : Reason) → AreBytes left
    → length left ≤ limit → IsModule options left read.0
    → (◌≡◌ {A = Answer} (Ok read) (Err (stop.Refused (the_refusal offset reason)))) ↔ IsRefusedWithin options limit left offset reason
module-refused options limit left read offset reason bytes few is = (
  λ e. absurd (wrong e),
  λ refused. absurd (not_module options limit left read.0 offset reason bytes few is
      (split options limit left offset reason refused)),
)
  where
    wrong : ◌≡◌ {A = Answer} (Ok read) (Err (stop.Refused (the_refusal offset reason))) → ⊥
    wrong e = cc

module-past : (options : ReadOptions) (limit : ℕ) (left : List ℕ) (read : Parts × ℕ) → length left ≤ limit
    → (◌≡◌ {A = Answer} (Ok read) (Err stop.Limit)) ↔ IsPastLimit options limit left
module-past options limit left read few = (
  λ e. absurd (wrong e),
  λ past. absurd (let many : limit < length left = past.0 in omega (arith, few, many)),
) where
  wrong : ◌≡◌ {A = Answer} (Ok read) (Err stop.Limit) → ⊥
  wrong e = cc

-- the result if there is none
stop-refused : (options : ReadOptions) (limit : ℕ) (left : List ℕ) (after : Option (List ℕ)) (s : SourceStop) (offset : ℕ) (reason : Reason)
    → ReadsModule options limit (Some left) after (Err s) → ◌≢◌ {A = Answer} (Err s) (Err stop.NoMemory) → ◌≢◌ {A = Answer} (Err s) (Err stop.Fault)
    → (◌≡◌ {A = Answer} (Err s) (Err (stop.Refused (the_refusal offset reason)))) ↔ IsRefusedWithin options limit left offset reason
stop-refused options limit left after (stop.Refused f) offset reason is memory fault = (forth, back) where
  forth : ◌≡◌ {A = Answer} (Err (stop.Refused f)) (Err (stop.Refused (the_refusal offset reason))) → IsRefusedWithin options limit left offset reason
  forth e = let same : f ≡ the_refusal offset reason = cc in subst (λ (g : ReadRefusal). IsRefusedWithin options limit left g.offset g.reason) same is

  back : IsRefusedWithin options limit left offset reason → ◌≡◌ {A = Answer} (Err (stop.Refused f)) (Err (stop.Refused (the_refusal offset reason)))
  back refused =
      let same = one_within options limit left f.offset offset f.reason reason (split options limit left f.offset f.reason is)
      (split options limit left offset reason refused) in
      ap (λ p. Err (stop.Refused (the_refusal p f.reason))) same.0 ∙ ap (λ w. Err (stop.Refused (the_refusal offset w))) same.1
stop-refused options limit left after stop.Limit offset reason is memory fault =
    (λ e. absurd (wrong e), λ refused. absurd (not_past options limit left offset reason (split options limit left offset reason refused) is)) where
      wrong : ◌≡◌ {A = Answer} (Err stop.Limit) (Err (stop.Refused (the_refusal offset reason))) → ⊥
      wrong e = cc
stop-refused options limit left after stop.Fault offset reason is memory fault = absurd (fault refl)
stop-refused options limit left after stop.NoMemory offset reason is memory fault = absurd (memory refl)

stop-past : (options : ReadOptions) (limit : ℕ) (left : List ℕ) (after : Option (List ℕ)) (s : SourceStop)
    → ReadsModule options limit (Some left) after (Err s) → ◌≢◌ {A = Answer} (Err s) (Err stop.NoMemory) → ◌≢◌ {A = Answer} (Err s) (Err stop.Fault)
    → (◌≡◌ {A = Answer} (Err s) (Err stop.Limit)) ↔ IsPastLimit options limit left
stop-past options limit left after (stop.Refused f) is memory fault =
    (λ e. absurd (wrong e), λ past. absurd (not_past options limit left f.offset f.reason (split options limit left f.offset f.reason is) past)) where
      wrong : ◌≡◌ {A = Answer} (Err (stop.Refused f)) (Err stop.Limit) → ⊥
      wrong e = cc
stop-past options limit left after stop.Limit is memory fault = (λ e. is, λ past. refl)
stop-past options limit left after stop.Fault is memory fault = absurd (fault refl)
stop-past options limit left after stop.NoMemory is memory fault = absurd (memory refl)

-- ---- the clauses about the result

-- the judgment of a stream for which a reader returns a stop
judged-of : {M : Type 0} (options : ReadOptions) (bytes : List ℕ) (s : ReadStop)
    → ((offset : ℕ) (reason : Reason) → ◌≢◌ {A = Result M ReadStop} (Err s) (Err read_stop.NoMemory)
    → (◌≡◌ {A = Result M ReadStop} (Err s) (Err (read_stop.Refused (the_refusal offset reason)))) ↔ IsJudged options bytes (refusal offset reason))
    → (offset : ℕ) (reason : Reason) → s ≡ read_stop.Refused (the_refusal offset reason) → IsJudged options bytes (refusal offset reason)
judged-of {M} options bytes s judges offset reason e = (judges offset reason memory).0 (ap (λ x. Err x) e) where
  memory : ◌≢◌ {A = Result M ReadStop} (Err s) (Err read_stop.NoMemory)
  memory w = let same : s ≡ read_stop.NoMemory = cc in let wrong : read_stop.Refused (the_refusal offset reason) ≡ read_stop.NoMemory = sym e ∙ same in cc

-- what was read before a reader was asked for the module
abbrev HasAll : ℕ → Option (List ℕ) → Option (List ℕ) → State → ℕ → Type 0
HasAll limit before after reader n = HasReadAll limit before after reader (Ok n)

pub asked-stopped : {M : Type 0} (limit n : ℕ) (options : ReadOptions) (before after : Option (List ℕ)) (reader : State) (s : ReadStop)
    (made : SourceStop) → options_of reader ≡ options → made ≡ stop_by s → HasAll limit before after reader n
    → ((offset : ℕ) (reason : Reason) (stream : List ℕ) → HasRead reader stream → ◌≢◌ {A = Result M ReadStop} (Err s) (Err read_stop.NoMemory)
    → (◌≡◌ {A = Result M ReadStop} (Err s) (Err (read_stop.Refused (the_refusal offset reason))))
    ↔ IsJudged (options_of reader) stream (refusal offset reason))
    → ReadsModule options limit before after (Err made)
asked-stopped {M} limit n options before after reader s made flag by all judges =
    subst (λ (d : ReadOptions). ReadsModule d limit before after (Err made)) flag
    (all-refused (options_of reader) limit n before after all.0 s made all.1 all.2 all.4 by
    (judged-of {M = M} (options_of reader) all.0 s (λ offset reason memory. judges offset reason all.0 all.3 memory)))

module _ (limit n : ℕ) (options : ReadOptions) (before after : Option (List ℕ)) (reader : State) (m : Parts) (flag : options_of reader
    ≡ options) (all : HasAll limit before after reader n)
    (states : (stream : List ℕ) → HasRead reader stream → IsModule (options_of reader) stream m) where
  the_module : IsModule options all.0 m
  the_module = subst (λ (d : ReadOptions). IsModule d all.0 m) flag (states all.0 all.3)

  pub asked-module : ReadsModule options limit before after (Ok (m, n))
  asked-module = all-module options limit n before after all.0 m all.1 all.2 all.4 the_module

  pub asked-ok : IfSome before (λ left. IsModule options left m × (n ≡ length left) × (n ≤ limit) × (after ≡ Some []))
  asked-ok = forth before all.4 where
    forth : (o : Option (List ℕ)) → IfSome o (λ left. (left ≡ all.0) × (after ≡ Some []))
        → IfSome o (λ left. IsModule options left m × (n ≡ length left) × (n ≤ limit) × (after ≡ Some []))
    forth None is = tt
    forth (Some left) is = (subst (λ (l : List ℕ). IsModule options l m) (sym is.0) the_module, sym all.1 ∙ ap length (sym is.0), all.2, is.1)

  pub asked-refused : (offset : ℕ) (reason : Reason) → IfSome before (λ left. ◌≢◌ {A = Answer} (Ok (m, n)) (Err stop.NoMemory)
      → ◌≢◌ {A = Answer} (Ok (m, n)) (Err stop.Fault)
      → (◌≡◌ {A = Answer} (Ok (m, n)) (Err (stop.Refused (the_refusal offset reason)))) ↔ IsRefusedWithin options limit left offset reason)
  asked-refused offset reason = forth before all.4 where
    forth : (o : Option (List ℕ)) → IfSome o (λ left. (left ≡ all.0) × (after ≡ Some []))
        → IfSome o (λ left. ◌≢◌ {A = Answer} (Ok (m, n)) (Err stop.NoMemory) → ◌≢◌ {A = Answer} (Ok (m, n)) (Err stop.Fault)
        → (◌≡◌ {A = Answer} (Ok (m, n)) (Err (stop.Refused (the_refusal offset reason)))) ↔ IsRefusedWithin options limit left offset reason)
    forth None is = tt
    forth (Some left) is = λ memory fault.
        module-refused options limit left (m, n) offset reason (subst (λ (l : List ℕ). AreBytes l) (sym is.0) all.3.0)
        (omega (arith, ap length is.0, all.1, all.2)) (subst (λ (l : List ℕ). IsModule options l m) (sym is.0) the_module)

  pub asked-past : IfSome before (λ left. ◌≢◌ {A = Answer} (Ok (m, n)) (Err stop.NoMemory) → ◌≢◌ {A = Answer} (Ok (m, n)) (Err stop.Fault)
      → (◌≡◌ {A = Answer} (Ok (m, n)) (Err stop.Limit)) ↔ IsPastLimit options limit left)
  asked-past = forth before all.4 where
    forth : (o : Option (List ℕ)) → IfSome o (λ left. (left ≡ all.0) × (after ≡ Some []))
        → IfSome o (λ left. ◌≢◌ {A = Answer} (Ok (m, n)) (Err stop.NoMemory) → ◌≢◌ {A = Answer} (Ok (m, n)) (Err stop.Fault)
        → (◌≡◌ {A = Answer} (Ok (m, n)) (Err stop.Limit)) ↔ IsPastLimit options limit left)
    forth None is = tt
    forth (Some left) is = λ memory fault. module-past options limit left (m, n) (omega (arith, ap length is.0, all.1, all.2))

-- the case that the result is a stop
pub stopped-refused : (options : ReadOptions) (limit : ℕ) (before after : Option (List ℕ)) (answer : Answer) (s : SourceStop) → answer ≡ Err s
    → ReadsModule options limit before after (Err s) → (offset : ℕ) (reason : Reason)
    → IfSome before (λ left. ◌≢◌ {A = Answer} answer (Err stop.NoMemory) → ◌≢◌ {A = Answer} answer (Err stop.Fault)
    → (◌≡◌ {A = Answer} answer (Err (stop.Refused (the_refusal offset reason)))) ↔ IsRefusedWithin options limit left offset reason)
stopped-refused options limit None after answer s e is offset reason = tt
stopped-refused options limit (Some left) after answer s e is offset reason =
    subst (λ (a : Answer). ◌≢◌ {A = Answer} a (Err stop.NoMemory) → ◌≢◌ {A = Answer} a (Err stop.Fault)
    → (◌≡◌ {A = Answer} a (Err (stop.Refused (the_refusal offset reason)))) ↔ IsRefusedWithin options limit left offset reason) (sym e)
    (stop-refused options limit left after s offset reason is)

pub stopped-past : (options : ReadOptions) (limit : ℕ) (before after : Option (List ℕ)) (answer : Answer) (s : SourceStop) → answer ≡ Err s
    → ReadsModule options limit before after (Err s)
    → IfSome before (λ left. ◌≢◌ {A = Answer} answer (Err stop.NoMemory) → ◌≢◌ {A = Answer} answer (Err stop.Fault)
    → (◌≡◌ {A = Answer} answer (Err stop.Limit)) ↔ IsPastLimit options limit left)
stopped-past options limit None after answer s e is = tt
stopped-past options limit (Some left) after answer s e is =
    subst (λ (a : Answer). ◌≢◌ {A = Answer} a (Err stop.NoMemory) → ◌≢◌ {A = Answer} a (Err stop.Fault) → (◌≡◌ {A = Answer} a (Err stop.Limit))
    ↔ IsPastLimit options limit left) (sym e) (stop-past options limit left after s is)

pub stopped-reads : (options : ReadOptions) (limit : ℕ) (before after : Option (List ℕ)) (answer : Answer) (s : SourceStop) → answer ≡ Err s
    → ReadsModule options limit before after (Err s) → ReadsModule options limit before after answer
stopped-reads options limit before after answer s e is = subst (λ (a : Answer). ReadsModule options limit before after a) (sym e) is

-- a result has only one stop
pub same-stop : (answer : Answer) (s t : SourceStop) → answer ≡ Err s → answer ≡ Err t → s ≡ t
same-stop answer s t e f = let both : ◌≡◌ {A = Answer} (Err s) (Err t) = sym e ∙ f in cc
