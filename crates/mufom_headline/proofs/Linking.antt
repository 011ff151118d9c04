-- A link is done exactly where no link fact stands against the flat list.
use Rattle.std.proofs.Common.{◌≡◌, ◌⊎◌, ℕ, List, None, Option, inl, inr}
use Rattle.mufom_host.specs.World.{HoldBytes}
use Rattle.mufom_module.specs.declared.module.Parts.{Parts}
use Rattle.mufom_meaning.specs.LinkAnswer.{link_answer}
use Rattle.mufom_groups.specs.Work.{stops}
use Rattle.mufom_outcome.specs.declared.outcome.Outcome.TheVariants as outcome
use Rattle.mufom_outcome.specs.Stop.{Stop}
use Rattle.mufom_task.specs.declared.task.Task.TheVariants as task
use Rattle.mufom_works.specs.Run.{AnswersFor}
use Rattle.mufom_works.specs.Works.{linked_file, work_of}
use Rattle.mufom_works.proofs.Runs.{of-files}
use Rattle.mufom_run_laws.proofs.Accepted.{EndsAtFact, accepted-gives, accepted-stops, no-link-fact}
use Rattle.mufom_run_laws.proofs.Calm.{done-comes, never-done}
use Rattle.mufom_run_laws.proofs.Plain.{plain-answers}
use Rattle.mufom_headline.specs.Linking.{LinkingIsDone}

-- a list that can be linked is put out by a link
file-never : (name : Option (List ℕ)) (out : List ℕ) (flat : List Parts) (s : Stop) → linked_file name out flat (stops s) → ⊥
file-never name out flat s (inl (f, never, same)) = never
file-never name out flat s (inr (M, is_joined, (held, never))) = never

pub linking-is-done : LinkingIsDone
linking-is-done words files call result c inputs name out plan flat is calm named asks accepts = (there, back) where
  bytes : HoldBytes files
  bytes = of-files call files calm.known HoldBytes calm.revealed.bytes

  answer : AnswersFor (task.Link inputs name out) call result
  answer = plain-answers words c named (task.Link inputs name out) asks call result is

  there : result ≡ outcome.Done → link_answer flat ≡ None
  there done =
      let came = done-comes files call (task.Link inputs name out) result answer calm done in
      (accepted-gives files inputs plan flat bytes accepts (λ ms plan flat. linked_file name out flat) came.output came.comes).0

  ends : (s : Stop) → link_answer flat ≡ None → work_of (task.Link inputs name out) files (stops s) → ⊥
  ends s none stopped = by (accepted-stops files inputs plan flat bytes accepts (λ ms plan flat. linked_file name out flat) s stopped) where
    by : EndsAtFact flat s ⊎ ((link_answer flat ≡ None) × linked_file name out flat (stops s)) → ⊥
    by (inl fact) = no-link-fact flat plan s none fact
    by (inr (linkable, stopped)) = file-never name out flat s stopped

  back : link_answer flat ≡ None → result ≡ outcome.Done
  back none = never-done files call (task.Link inputs name out) result answer calm (λ s stopped. ends s none stopped)
