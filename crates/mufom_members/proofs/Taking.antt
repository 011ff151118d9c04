-- What a reader makes of the contents of an entry.
use Rattle.std.proofs.Common.{◌≡◌, ◌≢◌, ◌↔◌, ℕ, inl, inr, sym, refl, Bool, true, false, List, [], ◌∷◌, ◌++◌, Option, Some, None, Result, Ok, Err}
use Rattle.std.proofs.Common.{OnOk, subst, append-nil}
use Rattle.mufom_numbers.specs.declared.memory.NoMemory.{NoMemory}
use Rattle.mufom_numbers.specs.declared.reason.Reason.{Reason}
use Rattle.mufom_numbers.specs.Spelling.{AreBytes}
use Rattle.mufom_records.specs.declared.options.ReadOptions.{ReadOptions}
use Rattle.mufom_module.specs.declared.module.Parts.{Parts}
use Rattle.mufom_archive.specs.declared.entry.Entry.{Entry}
use Rattle.mufom_archive.specs.Names.{is_member}
use Rattle.mufom_read.specs.declared.refusal.ReadRefusal.{ReadRefusal}
use Rattle.mufom_read.specs.declared.refusal.ReadStop.{ReadStop}
use Rattle.mufom_read.specs.declared.refusal.ReadStop.TheVariants as read_stop
use Rattle.mufom_read.specs.declared.state.State.{State}
use Rattle.mufom_judging.specs.Judging.{IsJudged, IsRefusedAt, refusal}
use Rattle.mufom_read.specs.Reader.{HasRead, Knows, answer_of, options_of, reader_stop}
use Rattle.mufom_read.proofs.feeding.Feed.{the_refusal}
use Rattle.mufom_members.specs.Reading.{IsReadModule, HasTaken, IsMoved, IsOpen, IsSmall}
use Rattle.mufom_members.proofs.Inside.{judged_inside}

pub on_ok : {P Q : Type 0} (r : Result (Unit {0}) NoMemory) → OnOk r P → (P → Q) → OnOk r Q
on_ok (Ok done) p f = f p
on_ok (Err e) p f = tt

-- the answer of a reader is that of its stop
pub stop_answered : (o : Option ReadStop) (s : ReadStop) → ◌≡◌ {A = Result (Unit {0}) ReadStop} (Err s) (answer_of o) → o ≡ Some s
stop_answered None s e = absurd (wrong e) where
  wrong : ◌≡◌ {A = Result (Unit {0}) ReadStop} (Err s) (Ok tt) → ⊥
  wrong e = cc
stop_answered (Some t) s e = cc

pub going_answered : (o : Option ReadStop) (done : Unit {0}) → ◌≡◌ {A = Result (Unit {0}) ReadStop} (Ok done) (answer_of o) → o ≡ None
going_answered None done e = refl
going_answered (Some t) done e = absurd (wrong e) where
  wrong : ◌≡◌ {A = Result (Unit {0}) ReadStop} (Ok done) (Err t) → ⊥
  wrong e = cc

-- the stop is an error of the stream, whatever follows it
abbrev pub IsEarlyStop : ReadOptions → List ℕ → ReadStop → Type 0
IsEarlyStop options stream (read_stop.Refused r) = AreBytes stream × IsRefusedAt options stream r.offset r.reason
IsEarlyStop options stream read_stop.NoMemory = Unit {0}

-- the stop is an error of the whole stream
abbrev pub IsLateStop : ReadOptions → List ℕ → ReadStop → Type 0
IsLateStop options stream (read_stop.Refused r) = AreBytes stream × IsJudged options stream (refusal r.offset r.reason)
IsLateStop options stream read_stop.NoMemory = Unit {0}

pub early_by : (options : ReadOptions) (reader : State) (stream : List ℕ) (s : ReadStop) → HasRead reader stream → options_of reader ≡ options
    → ◌≡◌ {A = Result (Unit {0}) ReadStop} (Err s) (answer_of (reader_stop reader)) → IsEarlyStop options stream s
early_by options reader stream s read same answers =
    by_stop s (subst (λ (o : Option ReadStop). Knows reader stream o) (stop_answered (reader_stop reader) s answers) read.1)
  where
    by_stop : (s : ReadStop) → Knows reader stream (Some s) → IsEarlyStop options stream s
    by_stop (read_stop.Refused f) known = (read.0, subst (λ (d : ReadOptions). IsRefusedAt d stream f.offset f.reason) same known)
    by_stop read_stop.NoMemory known = tt

pub late_by : {M : Type 0} (options : ReadOptions) (reader : State) (stream : List ℕ) (s : ReadStop) → HasRead reader stream
    → options_of reader ≡ options
    → ((offset : ℕ) (reason : Reason) (stream : List ℕ) → HasRead reader stream → ◌≢◌ {A = Result M ReadStop} (Err s) (Err read_stop.NoMemory)
    → (◌≡◌ {A = Result M ReadStop} (Err s) (Err (read_stop.Refused (the_refusal offset reason))))
    ↔ IsJudged (options_of reader) stream (refusal offset reason))
    → IsLateStop options stream s
late_by {M} options reader stream (read_stop.Refused r) read same judges = (
  read.0,
  subst (λ (d : ReadOptions). IsJudged d stream (refusal r.offset r.reason)) same ((judges r.offset r.reason stream read memory).0 refl),
)
  where
    memory : ◌≢◌ {A = Result M ReadStop} (Err (read_stop.Refused r)) (Err read_stop.NoMemory)
    memory e = let same : read_stop.Refused r ≡ read_stop.NoMemory = cc in cc
late_by {M} options reader stream read_stop.NoMemory read same judges = tt

pub early_small : (options : ReadOptions) (stream : List ℕ) (s : ReadStop) → IsEarlyStop options stream s → IsSmall s
early_small options stream (read_stop.Refused r) is = (judged_inside options stream r.offset r.reason is.0 (inl is.1)).1
early_small options stream read_stop.NoMemory is = tt

pub late_small : (options : ReadOptions) (stream : List ℕ) (s : ReadStop) → IsLateStop options stream s → IsSmall s
late_small options stream (read_stop.Refused r) is = (judged_inside options stream r.offset r.reason is.0 is.1).1
late_small options stream read_stop.NoMemory is = tt

module _ (options : ReadOptions) (e : Entry) (member : is_member e.label ≡ true) (contents : List ℕ) (complete : Bool) (old new : List Parts)
    (reader : Option State) (r : Option ReadRefusal) where
  pub taken_early : (s : ReadStop) → new ≡ old → IsEarlyStop options contents s → IsMoved e.start s r
      → HasTaken options e contents complete old new reader r
  taken_early (read_stop.Refused f) same is here =
      subst (λ (o : Option ReadRefusal). HasTaken options e contents complete old new reader o) (sym here) (
        same,
        record {
          member = member;
          inside = f.offset;
          place = refl;
          within = (judged_inside options contents f.offset f.reason is.0 (inl is.1)).0;
          judged = inl (record { front = contents; rest = []; split = sym (append-nil contents); fits = is.0; refused = is.1 });
        },
      )
  taken_early read_stop.NoMemory same is here = absurd here

  pub taken_late : (s : ReadStop) → new ≡ old → complete ≡ true → IsLateStop options contents s → IsMoved e.start s r
      → HasTaken options e contents complete old new reader r
  taken_late (read_stop.Refused f) same whole is here =
      subst (λ (o : Option ReadRefusal). HasTaken options e contents complete old new reader o) (sym here) (
        same,
        record {
          member = member;
          inside = f.offset;
          place = refl;
          within = (judged_inside options contents f.offset f.reason is.0 is.1).0;
          judged = inr (whole, is.1);
        },
      )
  taken_late read_stop.NoMemory same whole is here = absurd here

  pub taken_more : r ≡ None → new ≡ old → complete ≡ false → IsOpen options reader contents → HasTaken options e contents complete old new reader r
  taken_more none same cut open_now = rw (none, cut) (same, ((λ is. open_now), (λ other. absurd (wrong other)))) where
    wrong : is_member e.label ≡ false → ⊥
    wrong other = cc

  pub taken_module : (m : Parts) → r ≡ None → reader ≡ None → complete ≡ true → new ≡ old ++ m ∷ [] → IsReadModule options contents m
      → HasTaken options e contents complete old new reader r
  taken_module m none closed whole added is = rw (none, whole) (closed, ((λ is_one. (m, added, is)), (λ other. absurd (wrong other)))) where
    wrong : is_member e.label ≡ false → ⊥
    wrong other = cc
