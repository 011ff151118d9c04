-- Where nothing failed and memory was found, the answer is the one that the words and the files come to.
use Rattle.std.proofs.Common.{◌≡◌, ◌⊎◌, refl, sym, inl, inr}
use Rattle.mufom_host.specs.World.{HoldBytes}
use Rattle.mufom_words.specs.Answer.{answer_of}
use Rattle.mufom_outcome.specs.declared.outcome.Outcome.{Outcome}
use Rattle.mufom_outcome.specs.declared.outcome.Outcome.TheVariants as outcome
use Rattle.mufom_works.specs.Run.{IsForced, outcome_of}
use Rattle.mufom_run_laws.specs.RunLaws.{AnswersAreDetermined}
use Rattle.mufom_works.proofs.Runs.{complete-by, of-files}

pub answers-determined : AnswersAreDetermined
answers-determined words files call result reached is calm comes =
    answer (complete-by call files calm.known words (answer_of words) (of-files call files calm.known HoldBytes calm.revealed.bytes) result is reached comes)
  where
    forced : (o : Outcome) → o ≡ result → IsForced call o → ⊥
    forced outcome.Done same bad = bad
    forced (outcome.Refused r) same bad = bad
    forced (outcome.Usage f) same bad = bad
    forced (outcome.ReadFault at) same bad = calm.none.reads bad.1
    forced outcome.WriteFault same bad = calm.none.writes bad
    forced outcome.NoMemory same bad = calm.memory (sym same)

    answer : (result ≡ outcome_of reached) ⊎ IsForced call result → result ≡ outcome_of reached
    answer (inl same) = same
    answer (inr bad) = absurd (forced result refl bad)
