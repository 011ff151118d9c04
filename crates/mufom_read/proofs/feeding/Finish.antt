-- What a reader returns for a complete stream.
use Rattle.std.proofs.Common.{◌≡◌, ◌≢◌, ◌⊎◌, ◌↔◌, inl, inr, ℕ, true, false, true≢false, List, length, drop, Some, Result, Ok, Err, refl, sym}
use Rattle.std.proofs.Common.{ap, subst, ◌∙◌}
use Rattle.std.specs.Prelude.{IfOk}
use Rattle.mufom_numbers.specs.declared.reason.Reason.{Reason}
use Rattle.mufom_numbers.specs.declared.reason.Reason.TheVariants as why
use Rattle.mufom_numbers.specs.Spelling.{AreBytes}
use Rattle.mufom_module.specs.declared.module.Parts.{Parts}
use Rattle.mufom_read.specs.declared.state.State.{State}
use Rattle.mufom_read.specs.declared.refusal.ReadRefusal.{ReadRefusal}
use Rattle.mufom_read.specs.declared.refusal.ReadStop.{ReadStop}
use Rattle.mufom_read.specs.declared.refusal.ReadStop.TheVariants as stop
use Rattle.mufom_judging.specs.Prefixes.{size_of, is_ended}
use Rattle.mufom_judging.specs.Judging.{IsSoundPrefix, within_limit, EndsAt, IsWaiting, IsRefusedAt, IsTruncated, IsModule, IsJudged, refusal}
use Rattle.mufom_read.specs.Reader.{IsReading, IsIncomplete, Knows}
use Rattle.mufom_read.specs.Built.{IsWhole}
use Rattle.mufom_judging.proofs.judged.PrefixesOne.{ended_not_waiting, not_cut, refusal_is_single}
use Rattle.mufom_module.proofs.OneModule.{one_module}
use Rattle.mufom_judging.proofs.spelled.Judged.{judgments_exclude_each_other}
use Rattle.mufom_read.proofs.feeding.Chunks.{whole-within}
use Rattle.mufom_read.proofs.feeding.Feed.{the_refusal, reading-not-refused}
use Rattle.mufom_records.specs.declared.options.ReadOptions.{ReadOptions}

-- the prefix of a reader is sound within the limit
sound-within : (r : State) (stream : List ℕ) (is : IsReading r stream) → IsSoundPrefix r.options is.prefix (within_limit stream)
sound-within r stream is = subst (λ (l : List ℕ). IsSoundPrefix r.options is.prefix l) (sym (whole-within stream is.within)) is.sound

-- if the module has not ended, the stream is cut off
cut-off : (r : State) (stream : List ℕ) (is : IsReading r stream) → is_ended is.prefix ≡ false → IsTruncated r.options stream
cut-off r stream is unended = (is.within, r.rest.items, by_case is.waits) where
  by_case : (((is_ended is.prefix ≡ true) × (size_of is.prefix ≡ length stream)) ⊎ IsIncomplete r.options is.prefix r.rest.items)
      → IsWaiting r.options stream r.rest.items
  by_case (inl end) = absurd (true≢false (sym end.0 ∙ unended))
  by_case (inr want) = record {
    prefix = is.prefix;
    sound = sound-within r stream is;
    unended = want.unended;
    faultless = want.faultless;
    wanting = want.wanting;
    after = is.rest ∙ ap (drop (size_of is.prefix)) (sym (whole-within stream is.within));
  }

-- if the module has ended, the prefix is the whole stream
whole-size : (r : State) (stream : List ℕ) (is : IsReading r stream) → is_ended is.prefix ≡ true → size_of is.prefix ≡ length stream
whole-size r stream is ended = by_case is.waits where
  by_case : (((is_ended is.prefix ≡ true) × (size_of is.prefix ≡ length stream)) ⊎ IsIncomplete r.options is.prefix r.rest.items)
      → size_of is.prefix ≡ length stream
  by_case (inl end) = end.1
  by_case (inr want) = absurd (true≢false (sym ended ∙ want.unended))

pub is-whole : (r : State) (stream : List ℕ) (is : IsReading r stream) → AreBytes stream → is_ended is.prefix ≡ true
    → IsWhole r.options r.prefix is.prefix stream
is-whole r stream is bytes ended = record {
  kept = is.kept;
  fits = bytes;
  limit = is.within;
  sound = is.sound;
  ends = ended;
  all =
      whole-size r stream is ended;
}

-- the result of a reader that has stopped
pub finish-stopped : {M : Type 0} (r : State) (stream : List ℕ) (s : ReadStop) (offset : ℕ) (reason : Reason) → AreBytes stream
    → Knows r stream (Some s) → ◌≢◌ {A = Result M ReadStop} (Err s) (Err stop.NoMemory)
    → (◌≡◌ {A = Result M ReadStop} (Err s) (Err (stop.Refused (the_refusal offset reason)))) ↔ IsJudged r.options stream (refusal offset reason)
finish-stopped {M} r stream (stop.Refused f) offset reason bytes known memory = (forth, back) where
  forth : ◌≡◌ {A = Result M ReadStop} (Err (stop.Refused f)) (Err (stop.Refused (the_refusal offset reason)))
      → IsJudged r.options stream (refusal offset reason)
  forth e = let same : f ≡ the_refusal offset reason = cc in inl (subst (λ (g : ReadRefusal). IsRefusedAt r.options stream g.offset g.reason) same known)

  back : IsJudged r.options stream (refusal offset reason)
      → ◌≡◌ {A = Result M ReadStop} (Err (stop.Refused f)) (Err (stop.Refused (the_refusal offset reason)))
  back (inl refused) =
      let same = refusal_is_single r.options stream f.offset offset f.reason reason bytes known refused in
      ap (λ p. Err (stop.Refused (the_refusal p f.reason))) same.0 ∙ ap (λ w. Err (stop.Refused (the_refusal offset w))) same.1
  back (inr cut) = absurd (not_cut r.options stream f.offset f.reason cut.2 known)
finish-stopped r stream stop.NoMemory offset reason bytes known memory = absurd (memory refl)

-- the result if the module has not ended
pub finish-cut : {M : Type 0} (r : State) (stream : List ℕ) (is : IsReading r stream) (s : ReadStop) (size offset : ℕ) (reason : Reason)
    → is_ended is.prefix ≡ false → s ≡ stop.Refused (the_refusal size why.Truncated) → size ≡ length stream
    → (◌≡◌ {A = Result M ReadStop} (Err s) (Err (stop.Refused (the_refusal offset reason)))) ↔ IsJudged r.options stream (refusal offset reason)
finish-cut {M} r stream is s size offset reason unended states all = (forth, back) where
  forth : ◌≡◌ {A = Result M ReadStop} (Err s) (Err (stop.Refused (the_refusal offset reason))) → IsJudged r.options stream (refusal offset reason)
  forth e = let same : the_refusal size why.Truncated ≡ the_refusal offset reason = cc in
      inr (sym (ap (λ (f : ReadRefusal). f.reason) same), sym (ap (λ (f : ReadRefusal). f.offset) same) ∙ all, cut-off r stream is unended)

  back : IsJudged r.options stream (refusal offset reason) → ◌≡◌ {A = Result M ReadStop} (Err s) (Err (stop.Refused (the_refusal offset reason)))
  back (inl refused) = absurd (reading-not-refused r stream offset reason is refused)
  back (inr cut) = ap (λ x. Err x) states ∙ ap (λ p. Err (stop.Refused (the_refusal p why.Truncated))) (all ∙ sym cut.1)
      ∙ ap (λ w. Err (stop.Refused (the_refusal offset w))) (sym cut.0)

-- the result if the module has ended
pub finish-whole : {M : Type 0} (r : State) (stream : List ℕ) (is : IsReading r stream) (m : M) (offset : ℕ) (reason : Reason) → is_ended is.prefix ≡ true
    → (◌≡◌ {A = Result M ReadStop} (Ok m) (Err (stop.Refused (the_refusal offset reason)))) ↔ IsJudged r.options stream (refusal offset reason)
finish-whole {M} r stream is m offset reason ended = (λ e. absurd (ok_err e), back) where
  ok_err : ◌≡◌ {A = Result M ReadStop} (Ok m) (Err (stop.Refused (the_refusal offset reason))) → ⊥
  ok_err e = cc

  ends : EndsAt r.options stream (size_of is.prefix)
  ends = record { prefix = is.prefix; sound = sound-within r stream is; ended = ended; here = refl }

  back : IsJudged r.options stream (refusal offset reason) → ◌≡◌ {A = Result M ReadStop} (Ok m) (Err (stop.Refused (the_refusal offset reason)))
  back (inl refused) = absurd (reading-not-refused r stream offset reason is refused)
  back (inr cut) = let truncated = cut.2 in absurd (ended_not_waiting r.options stream truncated.1 (size_of is.prefix) ends truncated.2)

-- for a module's file that module is returned, unless memory ran out
pub finish-file : (options : ReadOptions) (stream : List ℕ) (m : Parts) (result : Result Parts ReadStop) → AreBytes stream
    → IfOk result (λ n. IsModule options stream n)
    → ((offset : ℕ) (reason : Reason) → result ≡ Err (stop.Refused (the_refusal offset reason)) → IsJudged options stream (refusal offset reason))
    → IsModule options stream m → result ≢ Err stop.NoMemory
    → result ≡ Ok m
finish-file options stream m (Ok n) bytes ok refused is memory = ap (λ x. Ok x) (one_module n m stream options ok is)
finish-file options stream m (Err (stop.Refused f)) bytes ok refused is memory = absurd (excluded (refused f.offset f.reason refl)) where
  excluded : IsJudged options stream (refusal f.offset f.reason) → ⊥
  excluded (inl here) = (judgments_exclude_each_other options stream bytes).not_module m f.offset f.reason is here
  excluded (inr cut) = (judgments_exclude_each_other options stream bytes).whole m is cut.2
finish-file options stream m (Err stop.NoMemory) bytes ok refused is memory = absurd (memory refl)
