-- What a call has done that read the inputs of some arguments and then printed the text on their end.
use Rattle.std.proofs.Common.{◌≡◌, ℕ, List, Option, Result, Ok, Err, OnSome, take, sym, ap, subst, ◌∙◌, arith}
use Rattle.mufom_host.specs.World.{Faults, Meaning, GrowsBy, GrowsByPrefix, OnlyOpens, OnlyPrints, Rose}
use Rattle.mufom_words.specs.declared.command.Command.{Command}
use Rattle.mufom_words.specs.declared.stop.WordsStop.{WordsStop}
use Rattle.mufom_words.specs.Answer.{answer_of}
use Rattle.mufom_outcome.specs.declared.outcome.Outcome.{Outcome}
use Rattle.mufom_outcome.specs.declared.outcome.Outcome.TheVariants as outcome
use Rattle.mufom_works.specs.Explain.{EndsBy, ExplainsTo, IsExplanation}
use Rattle.mufom_works.specs.ExplainText.{explain_text}
use Rattle.mufom_works.specs.Making.{IsPrinted}
use Rattle.mufom_task.specs.Calls.{NoneFalls}
use Rattle.mufom_task.specs.declared.task.Request.{Request}
use Rattle.mufom_task.specs.declared.task.Request.TheVariants as request
use Rattle.mufom_works.specs.Run.{OpensBy, OpensFor}
use Rattle.mufom_task.specs.Tasks.{input_names, inputs_of, request_of}
use Rattle.mufom_explain_text.specs.Explains.{Explains}
use Rattle.mufom_task.proofs.InputLaws.{call_between}

-- the names that were opened are the first of all
some-of : (q : Request) (old new : Meaning) (before now : Faults) (answer : Outcome) → OpensFor q (call_between old new before now) answer
    → OpensFor q (call_between old new before now) outcome.NoMemory
some-of (request.Run t) old new before now answer is = record { count = is.count; exact = tt; within = is.within; opened = is.opened }
some-of request.Explain old new before now answer is = is

pub some-opened : (r : Result Command WordsStop) (old new : Meaning) (before now : Faults) (answer : Outcome)
    → OpensBy r (call_between old new before now) answer → OpensBy r (call_between old new before now) outcome.NoMemory
some-opened (Ok c) old new before now answer is = some-of (request_of c) old new before now answer is
some-opened (Err s) old new before now answer is = is

module _ (words : List (List ℕ)) (old mid : Meaning) (before between : Faults) (only : OnlyOpens old mid before between) where
  -- ---- memory ran out

  pub lacking-explains : (answer : Outcome) → OpensBy (answer_of words) (call_between old mid before between) answer
      → Explains words (call_between old mid before between) outcome.NoMemory
  lacking-explains answer opens = record {
    answers = only.0 ∙ ap (λ (e : Option (List ℕ)). record old { left = mid.left; err = e; opened = mid.opened }) (sym (ap (λ (m : Meaning). m.err) only.0));
    opens = some-opened (answer_of words) old mid before between answer opens;
    err = ap (λ (m : Meaning). m.err) only.0;
    counts = record {
      reads = only.2;
      writes = let same = ap (λ (f : Faults). f.writes) only.1 in omega (arith, same);
      complaints = let same = ap (λ (f : Faults). f.complaints) only.1 in omega (arith, same);
    };
  }

  -- ---- the text was printed, or printing it failed

  module _ (new : Meaning) (now : Faults) (prints : OnlyPrints mid new between now) where
    out-same : mid.out ≡ old.out
    out-same = ap (λ (m : Meaning). m.out) only.0

    opened-same : new.opened ≡ mid.opened
    opened-same = ap (λ (m : Meaning). m.opened) prints.0

    pub told-counts : NoneFalls (call_between old new before now)
    told-counts = record {
      reads = let same = ap (λ (f : Faults). f.reads) prints.1 in let later = only.2 in omega (arith, same, later);
      writes = let same = ap (λ (f : Faults). f.writes) only.1 in let later = prints.2 in omega (arith, same, later);
      complaints = let first = ap (λ (f : Faults). f.complaints) only.1 in let second = ap (λ (f : Faults). f.complaints) prints.1 in
          omega (arith, first, second);
    }

    pub opens-later : (r : Result Command WordsStop) (answer : Outcome) → OpensBy r (call_between old mid before between) answer
        → OpensBy r (call_between old new before now) answer
    opens-later (Ok c) answer is = of-request (request_of c) is where
      of-request : (q : Request) → OpensFor q (call_between old mid before between) answer → OpensFor q (call_between old new before now) answer
      of-request (request.Run t) is = record {
        count = is.count;
        exact = is.exact;
        within = is.within;
        opened =
            subst (λ (o : Option (List (List ℕ))). OnSome o (GrowsBy old.opened o (take is.count (input_names (inputs_of t))))) (sym opened-same) is.opened;
      }
      of-request request.Explain is = opened-same ∙ is
    opens-later (Err s) answer is = opened-same ∙ is

    text-stays : new ≡ record mid { left = new.left; err = new.err; opened = new.opened; out = new.out } → new
        ≡ record old { left = new.left; err = new.err; opened = new.opened; out = new.out }
    text-stays stays = stays ∙ ap (λ (m : Meaning). record m { left = new.left; err = new.err; opened = new.opened; out = new.out }) only.0

    module _ (answer : Outcome) (details : List ℕ) (ends : EndsBy words (answer_of words) (call_between old new before now) answer details)
        (opens : OpensBy (answer_of words) (call_between old mid before between) answer) where
      explanation : IsExplanation words (call_between old new before now) (explain_text words answer details)
      explanation = record {
        answer = answer;
        details = details;
        ends = ends;
        opens = opens-later (answer_of words) answer opens;
        are = λ i. explain_text words answer details;
      }

      told-answers : (result : Outcome) → IsPrinted (explain_text words answer details) (call_between mid new between now) result
          → ExplainsTo words (call_between old new before now) result
      told-answers outcome.Done is = (
        explain_text words answer details,
        explanation,
        record {
          added = subst (λ (o : Option (List ℕ)). GrowsBy o new.out (explain_text words answer details)) out-same is.added;
          stays = text-stays is.stays;
        },
      )
      told-answers outcome.WriteFault (rose, is) = (
        subst (λ n. Rose n now.writes) (ap (λ (f : Faults). f.writes) only.1) rose,
        (
          explain_text words answer details,
          explanation,
          record {
            added = subst (λ (o : Option (List ℕ)). GrowsByPrefix o new.out (explain_text words answer details)) out-same is.added;
            stays = text-stays is.stays;
          },
        ),
      )
      told-answers outcome.NoMemory is = is ∙ ap (λ (m : Meaning). record m { left = new.left; err = new.err; opened = new.opened }) only.0
      told-answers (outcome.Refused r) is = absurd is
      told-answers (outcome.Usage f) is = absurd is
      told-answers (outcome.ReadFault at) is = absurd is

      pub told-explains : (result : Outcome) → IsPrinted (explain_text words answer details) (call_between mid new between now) result
          → Explains words (call_between old new before now) result
      told-explains result is = record {
        answers = told-answers result is;
        opens = some-opened (answer_of words) old new before now answer (opens-later (answer_of words) answer opens);
        err = ap (λ (m : Meaning). m.err) prints.0 ∙ ap (λ (m : Meaning). m.err) only.0;
        counts = told-counts;
      }
