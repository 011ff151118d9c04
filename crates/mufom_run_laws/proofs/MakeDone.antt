-- No run of `make` is refused: the modules that it generates have a location.
use Rattle.std.proofs.Common.{◌≡◌, ◌⊎◌, inl, inr, ℕ, ◌≤◌, false, List, [], Option, refl, subst}
use Rattle.mufom_host.specs.World.{NamedFile}
use Rattle.mufom_numbers.specs.declared.limits.TheConstants.{MOST_MODULES}
use Rattle.mufom_words.proofs.Sound.{words-sound}
use Rattle.mufom_outcome.specs.declared.outcome.Outcome.{Outcome}
use Rattle.mufom_outcome.specs.declared.outcome.Outcome.TheVariants as outcome
use Rattle.mufom_task.specs.declared.task.Request.TheVariants as request
use Rattle.mufom_task.specs.declared.task.Task.TheVariants as task
use Rattle.mufom_task.specs.Calls.{Call}
use Rattle.mufom_task.specs.Ends.{IsStopped}
use Rattle.mufom_task.specs.Sound.{IsSoundRequest}
use Rattle.mufom_task.proofs.RequestLaws.{sound-request}
use Rattle.mufom_works.specs.Run.{AnswersFor}
use Rattle.mufom_works.specs.Works.{making}
use Rattle.mufom_works.proofs.MadeLaws.{make-never, none-reached}
use Rattle.mufom_run_laws.specs.MakeLaws.{LacksWritesOrMemory, MakeIsDone}
use Rattle.mufom_run_laws.proofs.Plain.{plain-answers}

module _ (count : ℕ) (some : 1 ≤ count) (few : count ≤ MOST_MODULES) where
  never-refused : (files : Option (List NamedFile)) (result : Outcome) → IsStopped false (λ fs. making count) files result → ⊥
  never-refused files result is = make-never count some few is.stop (is.cause [])

  ends : (call : Call) (result : Outcome) → AnswersFor (task.Make count) call result → (result ≡ outcome.Done) ⊎ LacksWritesOrMemory call result
  ends call outcome.Done is = inl refl
  ends call (outcome.Refused r) is = absurd (never-refused call.old.files (outcome.Refused r) is.0)
  ends call (outcome.Usage f) is = absurd is
  ends call (outcome.ReadFault at) is = absurd (none-reached at call.old.files is.1)
  ends call outcome.WriteFault is = inr is.0
  ends call outcome.NoMemory is = inr tt

pub make-done : MakeIsDone
make-done words call result c count answers named asks =
    let bounds : IsSoundRequest (request.Run (task.Make count)) = subst IsSoundRequest asks (sound-request c (words-sound words c named)) in
    ends count bounds.0 bounds.1 call result (plain-answers words c named (task.Make count) asks call result answers)
