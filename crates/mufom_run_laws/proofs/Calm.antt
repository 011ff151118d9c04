-- A run in which nothing failed and memory was found: it is done exactly where its work has an output.
use Rattle.std.proofs.Common.{◌≡◌, List, Some, subst, refl}
use Rattle.mufom_host.specs.World.{NamedFile}
use Rattle.mufom_groups.specs.Work.{gives, stops}
use Rattle.mufom_outcome.specs.declared.outcome.Outcome.{Outcome}
use Rattle.mufom_outcome.specs.declared.outcome.Outcome.TheVariants as outcome
use Rattle.mufom_outcome.specs.Stop.{Stop}
use Rattle.mufom_task.specs.declared.task.Task.{Task}
use Rattle.mufom_task.specs.Calls.{Call}
use Rattle.mufom_task.specs.Tasks.{reads_files}
use Rattle.mufom_works.specs.Works.{Output, work_of}
use Rattle.mufom_works.specs.Run.{AnswersFor, PutsOut}
use Rattle.mufom_works.proofs.Runs.{over-files}
use Rattle.mufom_run_laws.specs.RunLaws.{IsUndisturbed}

-- the work has this output, and it was put out
pub record CameTo (files : List NamedFile) (t : Task) (call : Call) : Type 0 where
  pub output : Output
  pub comes : work_of t files (gives output)
  pub puts_out : PutsOut output call

module _ (files : List NamedFile) (call : Call) (t : Task) where
  -- a run that is done has an output
  pub done-output : call.old.files ≡ Some files → AnswersFor t call outcome.Done → CameTo files t call
  done-output known (output, is, puts) =
      let comes = over-files call files known (reads_files t) (λ fs. work_of t fs (gives output)) is.cause in
      record { output = output; comes = comes; puts_out = puts }

  -- where the work has no end, the run is done
  pub never-done : (result : Outcome) → AnswersFor t call result → IsUndisturbed files call result → ((s : Stop) → work_of t files (stops s) → ⊥)
      → result ≡ outcome.Done
  never-done outcome.Done is calm never = refl
  never-done (outcome.Refused r) (is, nothing) calm never =
      absurd (never is.stop (over-files call files calm.known (reads_files t) (λ fs. work_of t fs (stops is.stop)) is.cause))
  never-done (outcome.Usage f) is calm never = absurd is
  never-done (outcome.ReadFault at) is calm never = absurd (calm.none.reads is.0.1)
  never-done outcome.WriteFault is calm never = absurd (calm.none.writes is.0)
  never-done outcome.NoMemory is calm never = absurd (calm.memory refl)

  pub done-comes : (result : Outcome) → AnswersFor t call result → IsUndisturbed files call result → result ≡ outcome.Done → CameTo files t call
  done-comes result is calm done = done-output calm.known (subst (λ (o : Outcome). AnswersFor t call o) done is)
