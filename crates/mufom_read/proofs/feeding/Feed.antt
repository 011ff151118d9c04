-- What a reader returns follows from the stream so far.
use Rattle.std.proofs.Common.{◌≡◌, ◌≢◌, ◌⊎◌, ◌↔◌, inl, inr, ℕ, ◌<◌, List, [], ◌++◌, length, Option, Some, None, Result, Err, refl, sym, ap}
use Rattle.std.proofs.Common.{subst, ◌∙◌, arith}
use Rattle.mufom_numbers.specs.declared.reason.Reason.{Reason}
use Rattle.mufom_numbers.specs.Spelling.{AreBytes}
use Rattle.mufom_module.specs.Grammar.{file_limit}
use Rattle.mufom_read.specs.declared.state.State.{State}
use Rattle.mufom_read.specs.declared.refusal.ReadRefusal.{ReadRefusal}
use Rattle.mufom_read.specs.declared.refusal.ReadStop.{ReadStop}
use Rattle.mufom_read.specs.declared.refusal.ReadStop.TheVariants as stop
use Rattle.mufom_read.specs.PrefixOfCode.{IsPrefixOf}
use Rattle.mufom_judging.specs.Judging.{EndsAt, IsWaiting, IsRefusedAt}
use Rattle.mufom_read.specs.Reader.{IsReading, IsIncomplete, Knows, HasRead, answer_of}
use Rattle.mufom_judging.proofs.judged.PrefixesOne.{fault_not_ended, one_end, not_cut, refusal_is_single}
use Rattle.mufom_judging.proofs.judged.Stays.{refusal_stays}
use Rattle.mufom_read.proofs.feeding.Chunks.{pending-is}
use Rattle.mufom_records.specs.declared.options.ReadOptions.{ReadOptions}

abbrev pub the_refusal : ℕ → Reason → ReadRefusal
the_refusal offset reason = record { offset = offset; reason = reason }

-- a reader that goes on, and that has no byte and no record, has read nothing
pub none-read : (r : State) → IsPrefixOf r.prefix [] → r.rest.items ≡ [] → r.stop ≡ None → HasRead r []
none-read r prefix none going = (
  tt,
  subst (λ (s : Option ReadStop). Knows r [] s) (sym going) (record {
    prefix = [];
    kept = prefix;
    sound = tt;
    within = omega arith;
    inside = omega arith;
    rest = none;
    waits = inr (subst (λ (rest : List ℕ). IsIncomplete r.options [] rest) (sym none) (record { unended = refl; faultless = refl; wanting = refl }));
  }),
)

-- what is kept of a stream does not depend on the stop
pub reading-moved : (a b : State) (stream : List ℕ) → b.options ≡ a.options → b.prefix ≡ a.prefix → b.rest ≡ a.rest → IsReading a stream
    → IsReading b stream
reading-moved a b stream flag prefix rest is =
    subst (λ f. IsReading (record { alloc = b.alloc; options = b.options; prefix = f; rest = b.rest; stop = b.stop }) stream) (sym prefix)
    (subst (λ l. IsReading (record { alloc = b.alloc; options = b.options; prefix = a.prefix; rest = l; stop = b.stop }) stream) (sym rest)
    (subst (λ (d : ReadOptions). IsReading (record { alloc = b.alloc; options = d; prefix = a.prefix; rest = a.rest; stop = b.stop }) stream) (sym flag)
    (record { prefix = is.prefix; kept = is.kept; sound = is.sound; within = is.within; inside = is.inside; rest = is.rest; waits = is.waits })))

pub knows-moved : (a b : State) (stream : List ℕ) (s : Option ReadStop) → b.options ≡ a.options → b.prefix ≡ a.prefix → b.rest ≡ a.rest
    → Knows a stream s → Knows b stream s
knows-moved a b stream None flag prefix rest known = reading-moved a b stream flag prefix rest known
knows-moved a b stream (Some (stop.Refused f)) flag prefix rest known = subst (λ (d : ReadOptions). IsRefusedAt d stream f.offset f.reason) (sym flag) known
knows-moved a b stream (Some stop.NoMemory) flag prefix rest known = tt

-- a stream that may be read on has no error
pub reading-not-refused : (r : State) (stream : List ℕ) (offset : ℕ) (reason : Reason) → IsReading r stream → IsRefusedAt r.options stream offset reason → ⊥
reading-not-refused r stream offset reason is refused = by_case (pending-is r stream is) refused where
  by_case : (((pending : List ℕ) × IsWaiting r.options stream pending × (length pending ≡ length r.rest.items))
      ⊎ (EndsAt r.options stream (length stream) × (length r.rest.items ≡ 0)))
      → IsRefusedAt r.options stream offset reason → ⊥
  by_case (inl waits) refused = not_cut r.options stream offset reason (is.within, waits.0, waits.1) refused
  by_case (inr ends) (inl fault) = fault_not_ended r.options stream offset (length stream) reason fault ends.0
  by_case (inr ends) (inr (inl after)) = let same = one_end r.options stream offset (length stream) after.1 ends.0 in
      let less : offset < length stream = after.2 in omega (arith, same, less)
  by_case (inr ends) (inr (inr long)) = let more : file_limit < length stream = long.2 in omega (arith, more, is.within)

-- A reader that has read a stream returns its error, if it has one.
pub answers-refusal : (r : State) (stream : List ℕ) (s : Option ReadStop) (offset : ℕ) (reason : Reason) → AreBytes stream → Knows r stream s
    → s ≢ Some stop.NoMemory
    → (answer_of s ≡ Err (stop.Refused (the_refusal offset reason))) ↔ IsRefusedAt r.options stream offset reason
answers-refusal r stream None offset reason bytes known memory =
    (λ e. absurd (ok_err e), λ refused. absurd (reading-not-refused r stream offset reason known refused)) where
      ok_err : answer_of None ≡ Err (stop.Refused (the_refusal offset reason)) → ⊥
      ok_err e = cc
answers-refusal r stream (Some (stop.Refused f)) offset reason bytes known memory = (forth, back) where
  forth : answer_of (Some (stop.Refused f)) ≡ Err (stop.Refused (the_refusal offset reason)) → IsRefusedAt r.options stream offset reason
  forth e = let same : f ≡ the_refusal offset reason = cc in subst (λ (g : ReadRefusal). IsRefusedAt r.options stream g.offset g.reason) same known

  back : IsRefusedAt r.options stream offset reason → answer_of (Some (stop.Refused f)) ≡ Err (stop.Refused (the_refusal offset reason))
  back refused =
      let same = refusal_is_single r.options stream f.offset offset f.reason reason bytes known refused in
      ap (λ p. answer_of (Some (stop.Refused (the_refusal p f.reason)))) same.0 ∙ ap (λ w. answer_of (Some (stop.Refused (the_refusal offset w)))) same.1
answers-refusal r stream (Some stop.NoMemory) offset reason bytes known memory = absurd (memory refl)

-- a stop stays
pub stop-stays : (r : State) (stream chunk : List ℕ) (s : ReadStop) → AreBytes (stream ++ chunk) → Knows r stream (Some s) → Knows r (stream ++ chunk) (Some s)
stop-stays r stream chunk (stop.Refused f) bytes known = refusal_stays r.options stream chunk f.offset f.reason bytes known
stop-stays r stream chunk stop.NoMemory bytes known = tt

-- the result for a chunk
pub feed-refused : (r : State) (stream : List ℕ) (result : Result (Unit {0}) ReadStop) (options : ReadOptions) (offset : ℕ) (reason : Reason)
    → AreBytes stream → Knows r stream r.stop → r.stop ≢ Some stop.NoMemory
    → result ≡ answer_of r.stop → r.options ≡ options → (result ≡ Err (stop.Refused (the_refusal offset reason)))
    ↔ IsRefusedAt options stream offset reason
feed-refused r stream result options offset reason bytes known memory answer flag =
    subst (λ (x : Result (Unit {0}) ReadStop). (x ≡ Err (stop.Refused (the_refusal offset reason))) ↔ IsRefusedAt options stream offset reason) (sym answer)
    (subst (λ (b : ReadOptions). (answer_of r.stop ≡ Err (stop.Refused (the_refusal offset reason)))
    ↔ IsRefusedAt b stream offset reason) flag (answers-refusal r stream r.stop offset reason bytes known memory))
