-- The error line after the work of a task: the outcome keeps its cause.
use Rattle.std.proofs.Common.{◌≡◌, ◌≢◌, ◌⊎◌, ℕ, ◌≤◌, List, Option, Result, Ok, Err, refl, sym, ap, subst, ◌∙◌, inl, inr, arith}
use Rattle.mufom_host.specs.World.{Faults, Meaning, GrowsBy, GrowsByPrefix, OnlyPrintsErrors}
use Rattle.mufom_words.specs.declared.command.Command.{Command}
use Rattle.mufom_words.specs.declared.stop.WordsStop.{WordsStop}
use Rattle.mufom_words.specs.declared.stop.WordsStop.TheVariants as words_stop
use Rattle.mufom_words.specs.Answer.{answer_of}
use Rattle.mufom_words.specs.Explain.{explained}
use Rattle.mufom_outcome.specs.declared.outcome.Outcome.{Outcome}
use Rattle.mufom_outcome.specs.declared.outcome.Outcome.TheVariants as outcome
use Rattle.mufom_task.specs.declared.task.Inputs.{Inputs}
use Rattle.mufom_task.specs.declared.task.Request.{Request}
use Rattle.mufom_task.specs.declared.task.Request.TheVariants as request
use Rattle.mufom_task.specs.declared.task.Task.{Task}
use Rattle.mufom_works.specs.Works.{Output, printed, made}
use Rattle.mufom_outcome.specs.Complaint.{complaint}
use Rattle.mufom_works.specs.Result.{AnswersBy, AnswersWith}
use Rattle.mufom_command.specs.Contract.{OpensOf, OpensWith}
use Rattle.mufom_works.specs.Explain.{EndsBy, EndsFor, EndsWith, ExplainsTo, IsExplanation}
use Rattle.mufom_works.specs.Run.{AddsErrorLine, AnswersFor, BeginsText, OpensFor, OpensBy, PrintsText, PrintsErrorLine, PutsOut, PutsOutNothing}
use Rattle.mufom_works.specs.Run.{PutsOutPrefix}
use Rattle.mufom_task.specs.Calls.{IsOpenedCount, NoneFalls, OpensInputs}
use Rattle.mufom_command.specs.RunParts.{DoesBy, DoesWith, IsPrintedAs, MayLackMemory}
use Rattle.mufom_task.specs.Tasks.{inputs_of, request_of}
use Rattle.mufom_outcome.specs.Outcomes.{stop_answer}
use Rattle.mufom_task.proofs.InputLaws.{call_between}
use Rattle.mufom_works.proofs.OpenedLaws.{opens-nothing, request-nothing}

module _ (old mid : Meaning) (before between : Faults) (err : Option (List ℕ)) (complaints : ℕ) where
  -- the world after the error line
  abbrev new : Meaning
  new = record mid { err = err }

  abbrev now : Faults
  now = record between { complaints = complaints }

  nothing-kept : PutsOutNothing (call_between old mid before between) → PutsOutNothing (call_between old new before now)
  nothing-kept stays = ap (λ (m : Meaning). record m { err = err }) stays

  output-kept : (output : Output) → PutsOut output (call_between old mid before between) → PutsOut output (call_between old new before now)
  output-kept (printed text) is = record { added = is.added; stays = ap (λ (m : Meaning). record m { err = err }) is.stays }
  output-kept (made name bytes) is = record {
    added = is.added;
    finished = is.finished;
    created = is.created;
    stays =
        ap (λ (m : Meaning). record m { err = err }) is.stays;
  }

  prefix-kept : (output : Output) → PutsOutPrefix output (call_between old mid before between) → PutsOutPrefix output (call_between old new before now)
  prefix-kept (printed text) is = record { added = is.added; stays = ap (λ (m : Meaning). record m { err = err }) is.stays }
  prefix-kept (made name bytes) is = record { begun = is.begun; created = is.created; stays = ap (λ (m : Meaning). record m { err = err }) is.stays }

  module _ (t : Task) where
    answers-kept : (o : Outcome) → AnswersFor t (call_between old mid before between) o → AnswersFor t (call_between old new before now) o
    answers-kept outcome.Done (output, is, puts) = (output, is, output-kept output puts)
    answers-kept (outcome.Refused r) (is, nothing) = (is, nothing-kept nothing)
    answers-kept (outcome.Usage f) is = absurd is
    answers-kept (outcome.ReadFault at) (fails, is, nothing) = (fails, is, nothing-kept nothing)
    answers-kept outcome.WriteFault (rose, (output, is, puts)) = (rose, (output, is, prefix-kept output puts))
    answers-kept outcome.NoMemory nothing = nothing-kept nothing

    nothing-lacked : (o : Outcome) → MayLackMemory o → AnswersFor t (call_between old mid before between) o
        → PutsOutNothing (call_between old new before now)
    nothing-lacked outcome.Done may is = absurd may
    nothing-lacked (outcome.Refused r) may (is, nothing) = nothing-kept nothing
    nothing-lacked (outcome.Usage f) may is = absurd may
    nothing-lacked (outcome.ReadFault at) may (fails, is, nothing) = nothing-kept nothing
    nothing-lacked outcome.WriteFault may is = absurd may
    nothing-lacked outcome.NoMemory may is = absurd may

    answers-after : (o result : Outcome) → IsPrintedAs o result → AnswersFor t (call_between old mid before between) o
        → AnswersFor t (call_between old new before now) result
    answers-after o result (inl same) is = subst (λ (x : Outcome). AnswersFor t (call_between old new before now) x) (sym same) (answers-kept o is)
    answers-after o result (inr (same, may)) is = subst (λ (x : Outcome). AnswersFor t (call_between old new before now) x) (sym same)
        (nothing-lacked o may is)

  count-after : (c : Inputs) (o result : Outcome) → IsPrintedAs o result → (count : ℕ) → IsOpenedCount c o count → IsOpenedCount c result count
  count-after c o result (inl same) count exact = subst (λ (x : Outcome). IsOpenedCount c x count) (sym same) exact
  count-after c o result (inr (same, may)) count exact = subst (λ (x : Outcome). IsOpenedCount c x count) (sym same) tt

  opens-after : (c : Inputs) (o result : Outcome) → IsPrintedAs o result → OpensInputs c (call_between old mid before between) o
      → OpensInputs c (call_between old new before now) result
  opens-after c o result shown is = record { count = is.count; exact = count-after c o result shown is.count is.exact; within = is.within; opened = is.opened }

  stop-after : (s : WordsStop) (o result : Outcome) → IsPrintedAs o result → (o ≡ stop_answer s) ⊎ (o ≡ outcome.NoMemory) → (result ≡ stop_answer s)
      ⊎ (result ≡ outcome.NoMemory)
  stop-after s o result (inl same) (inl is) = inl (same ∙ is)
  stop-after s o result (inl same) (inr is) = inr (same ∙ is)
  stop-after s o result (inr (same, may)) is = inr same

  -- ---- a text on other arguments

  request-kept : (q : Request) (o : Outcome) → OpensFor q (call_between old mid before between) o → OpensFor q (call_between old new before now) o
  request-kept (request.Run t) o is = record { count = is.count; exact = is.exact; within = is.within; opened = is.opened }
  request-kept request.Explain o is = is

  explanation-kept : (words : List (List ℕ)) (text : List ℕ) → IsExplanation words (call_between old mid before between) text
      → IsExplanation words (call_between old new before now) text
  explanation-kept words text is = record {
    answer = is.answer;
    details = is.details;
    ends = ends-kept (answer_of words) is.answer is.details is.ends;
    opens = opens-kept (answer_of words) is.answer is.opens;
    are = is.are;
  } where
    for-kept : (t : Task) (o : Outcome) (details : List ℕ)
        → EndsFor t (call_between old mid before between) o details → EndsFor t (call_between old new before now) o details
    for-kept t outcome.Done details is = is
    for-kept t (outcome.Refused r) details is = is
    for-kept t (outcome.Usage f) details is = absurd is
    for-kept t (outcome.ReadFault at) details is = is
    for-kept t outcome.WriteFault details is = absurd is
    for-kept t outcome.NoMemory details is = absurd is

    with-kept : (q : Request) (o : Outcome) (details : List ℕ) → EndsWith q (call_between old mid before between) o details
        → EndsWith q (call_between old new before now) o details
    with-kept (request.Run t) o details is = for-kept t o details is
    with-kept request.Explain o details is = is

    ends-kept : (r : Result Command WordsStop) (o : Outcome) (details : List ℕ) → EndsBy words r (call_between old mid before between) o details
        → EndsBy words r (call_between old new before now) o details
    ends-kept (Ok c) o details is = with-kept (request_of c) o details is
    ends-kept (Err s) o details is = is

    opens-kept : (r : Result Command WordsStop) (o : Outcome) → OpensBy r (call_between old mid before between) o
        → OpensBy r (call_between old new before now) o
    opens-kept (Ok c) o is = request-kept (request_of c) o is
    opens-kept (Err s) o is = is

  text-kept : (text : List ℕ) → PrintsText text (call_between old mid before between) → PrintsText text (call_between old new before now)
  text-kept text is = output-kept (printed text) is

  begin-kept : (text : List ℕ) → BeginsText text (call_between old mid before between) → BeginsText text (call_between old new before now)
  begin-kept text is = prefix-kept (printed text) is

  module _ (words : List (List ℕ)) where
    explains-kept : (o : Outcome) → ExplainsTo words (call_between old mid before between) o → ExplainsTo words (call_between old new before now) o
    explains-kept outcome.Done (text, is, puts) = (text, explanation-kept words text is, text-kept text puts)
    explains-kept (outcome.Refused r) is = absurd is
    explains-kept (outcome.Usage f) is = absurd is
    explains-kept (outcome.ReadFault at) is = absurd is
    explains-kept outcome.WriteFault (rose, (text, is, puts)) = (rose, (text, explanation-kept words text is, begin-kept text puts))
    explains-kept outcome.NoMemory nothing = nothing-kept nothing

    explains-lacked : (o : Outcome) → MayLackMemory o → ExplainsTo words (call_between old mid before between) o
        → PutsOutNothing (call_between old new before now)
    explains-lacked outcome.Done may is = absurd may
    explains-lacked (outcome.Refused r) may is = absurd is
    explains-lacked (outcome.Usage f) may is = absurd may
    explains-lacked (outcome.ReadFault at) may is = absurd is
    explains-lacked outcome.WriteFault may is = absurd may
    explains-lacked outcome.NoMemory may is = absurd may

    explains-after : (o result : Outcome) → IsPrintedAs o result → ExplainsTo words (call_between old mid before between) o
        → ExplainsTo words (call_between old new before now) result
    explains-after o result (inl same) is = subst (λ (x : Outcome). ExplainsTo words (call_between old new before now) x) (sym same) (explains-kept o is)
    explains-after o result (inr (same, may)) is = subst (λ (x : Outcome). ExplainsTo words (call_between old new before now) x) (sym same)
        (explains-lacked o may is)

    some-kept : (r : Result Command WordsStop) → OpensBy r (call_between old mid before between) outcome.NoMemory
        → OpensBy r (call_between old new before now) outcome.NoMemory
    some-kept (Ok c) is = request-kept (request_of c) outcome.NoMemory is
    some-kept (Err s) is = is

  module _ (words : List (List ℕ)) where
    later-counts : between.complaints ≤ complaints → NoneFalls (call_between old mid before between) → NoneFalls (call_between old new before now)
    later-counts later is = record { reads = is.reads; writes = is.writes; complaints = let first = is.complaints in omega (arith, first, later) }

    with-after : (q : Request) (o result : Outcome) → IsPrintedAs o result → between.complaints ≤ complaints
        → DoesWith words q (call_between old mid before between) o
        → AnswersWith words q (call_between old new before now) result × OpensWith words q (call_between old new before now) result
        × NoneFalls (call_between old new before now)
    with-after request.Explain o result shown later does = (
      explains-after (explained words) o result shown does.answers,
      some-kept (explained words) (answer_of (explained words)) does.opens,
      later-counts later does.counts,
    )
    with-after (request.Run t) o result shown later does = (
      answers-after t o result shown does.answers,
      opens-after (inputs_of t) o result shown does.opens,
      later-counts later does.counts,
    )

    all-after : (r : Result Command WordsStop) (o result : Outcome) → IsPrintedAs o result → between.complaints ≤ complaints
        → DoesBy words r (call_between old mid before between) o
        → AnswersBy words r (call_between old new before now) result × OpensOf words r (call_between old new before now) result
        × NoneFalls (call_between old new before now)
    all-after (Ok c) o result shown later does = with-after (request_of c) o result shown later does
    all-after (Err s) o result shown later (is, stays, counts) = (
      record { is = stop-after s o result shown is; stays = ap (λ (m : Meaning). record m { err = err }) stays },
      ap (λ (m : Meaning). m.opened) stays,
      record {
        reads = let same = ap (λ (f : Faults). f.reads) counts in omega (arith, same);
        writes = let same = ap (λ (f : Faults). f.writes) counts in omega (arith, same);
        complaints = let same = ap (λ (f : Faults). f.complaints) counts in omega (arith, same, later);
      },
    )

-- the answer after its error line, and what stands before it was printed
pub record IsAnswered (words : List (List ℕ)) (r : Result Command WordsStop) (old new : Meaning) (before now : Faults) (result : Outcome) : Type 0 where
  pub answers : AnswersBy words r (call_between old new before now) result
  pub opens : OpensOf words r (call_between old new before now) result
  pub counts : NoneFalls (call_between old new before now)

pub answered : (words : List (List ℕ)) (r : Result Command WordsStop) (old mid new : Meaning) (before between now : Faults) (o result : Outcome)
    → IsPrintedAs o result → OnlyPrintsErrors mid new between now
    → DoesBy words r (call_between old mid before between) o → IsAnswered words r old new before now result
answered words r old mid new before between now o result shown (stays, counts, later) does =
    let all = all-after old mid before between new.err now.complaints words r o result shown later does in
    subst (λ (m : Meaning). IsAnswered words r old m before now result) (sym stays)
    (subst (λ (f : Faults). IsAnswered words r old (record mid { err = new.err }) before f result) (sym counts)
    (record { answers = all.0; opens = all.1; counts = all.2 }))

-- ---- the error output before the error line

err-with : (words : List (List ℕ)) (q : Request) (old mid : Meaning) (before between : Faults) (o : Outcome)
    → DoesWith words q (call_between old mid before between) o → (mid.err ≡ old.err) × (before.complaints ≤ between.complaints)
err-with words (request.Run t) old mid before between o does = (does.err, does.counts.complaints)
err-with words request.Explain old mid before between o does = (does.err, does.counts.complaints)

pub err-before : (words : List (List ℕ)) (r : Result Command WordsStop) (old mid : Meaning) (before between : Faults) (o : Outcome)
    → DoesBy words r (call_between old mid before between) o → (mid.err ≡ old.err) × (before.complaints ≤ between.complaints)
err-before words (Ok c) old mid before between o does = err-with words (request_of c) old mid before between o does
err-before words (Err s) old mid before between o (is, stays, counts) =
    (ap (λ (m : Meaning). m.err) stays, let same = ap (λ (f : Faults). f.complaints) counts in omega (arith, same))

adds-since : (old mid new : Meaning) (before between now : Faults) (text : List ℕ) → mid.err ≡ old.err → before.complaints ≤ between.complaints
    → AddsErrorLine (call_between mid new between now) text
    → AddsErrorLine (call_between old new before now) text
adds-since old mid new before between now text same later (inl grows) = inl (subst (λ (e : Option (List ℕ)). GrowsBy e new.err text) same grows)
adds-since old mid new before between now text same later (inr (rose, grows)) =
    inr (omega (arith, rose, later), subst (λ (e : Option (List ℕ)). GrowsByPrefix e new.err text) same grows)

-- the error line is that of the whole call
pub line-since : (old mid new : Meaning) (before between now : Faults) (result : Outcome) → mid.err ≡ old.err → before.complaints ≤ between.complaints
    → PrintsErrorLine (call_between mid new between now) result
    → PrintsErrorLine (call_between old new before now) result
line-since old mid new before between now outcome.Done same later line = line ∙ same
line-since old mid new before between now (outcome.Refused r) same later line =
    adds-since old mid new before between now (complaint (outcome.Refused r)) same later line
line-since old mid new before between now (outcome.Usage f) same later line =
    adds-since old mid new before between now (complaint (outcome.Usage f)) same later line
line-since old mid new before between now (outcome.ReadFault at) same later line =
    adds-since old mid new before between now (complaint (outcome.ReadFault at)) same later line
line-since old mid new before between now outcome.WriteFault same later line =
    adds-since old mid new before between now (complaint outcome.WriteFault) same later line
line-since old mid new before between now outcome.NoMemory same later line =
    adds-since old mid new before between now (complaint outcome.NoMemory) same later line

-- ---- what the words ask for

same-counts : (m : Meaning) (f : Faults) → NoneFalls (call_between m m f f)
same-counts m f = record { reads = omega arith; writes = omega arith; complaints = omega arith }

does-nothing-with : (words : List (List ℕ)) (q : Request) (m : Meaning) (f : Faults) → DoesWith words q (call_between m m f f) outcome.NoMemory
does-nothing-with words request.Explain m f =
    record { answers = refl; opens = opens-nothing (answer_of (explained words)) m f; err = refl; counts = same-counts m f }
does-nothing-with words (request.Run t) m f =
    record { answers = refl; opens = request-nothing (request.Run t) m f; err = refl; counts = same-counts m f }

pub does-nothing : (words : List (List ℕ)) (r : Result Command WordsStop) (m : Meaning) (f : Faults) → DoesBy words r (call_between m m f f) outcome.NoMemory
does-nothing words (Ok c) m f = does-nothing-with words (request_of c) m f
does-nothing words (Err s) m f = (inr refl, refl, refl)

-- the words were refused, or not read
pub does-words : (words : List (List ℕ)) (r : Result Command WordsStop) (m : Meaning) (f : Faults) (s : WordsStop) (o : Outcome) → o ≡ stop_answer s
    → (s ≢ words_stop.NoMemory → r ≡ Err s) → DoesBy words r (call_between m m f f) o
does-words words r m f words_stop.NoMemory o is refused =
    subst (λ (x : Outcome). DoesBy words r (call_between m m f f) x) (sym is) (does-nothing words r m f)
does-words words r m f (words_stop.Usage u) o is refused = subst (λ (x : Result Command WordsStop). DoesBy words x (call_between m m f f) o)
    (sym (refused (λ same. cc))) (inl is, refl, refl)
does-words words r m f (words_stop.TooManyFiles n) o is refused = subst (λ (x : Result Command WordsStop). DoesBy words x (call_between m m f f) o)
    (sym (refused (λ same. cc))) (inl is, refl, refl)
does-words words r m f (words_stop.TooDeep n) o is refused = subst (λ (x : Result Command WordsStop). DoesBy words x (call_between m m f f) o)
    (sym (refused (λ same. cc))) (inl is, refl, refl)
