-- Arguments that ask for a task: what a run of them has done, and its work.
use Rattle.std.proofs.Common.{◌≡◌, List, ℕ, Result, Ok, sym, subst}
use Rattle.mufom_host.specs.World.{NamedFile}
use Rattle.mufom_words.specs.declared.command.Command.{Command}
use Rattle.mufom_words.specs.declared.stop.WordsStop.{WordsStop}
use Rattle.mufom_words.specs.Answer.{answer_of}
use Rattle.mufom_groups.specs.Work.{Reached}
use Rattle.mufom_outcome.specs.declared.outcome.Outcome.{Outcome}
use Rattle.mufom_outcome.specs.Stop.{Stop}
use Rattle.mufom_task.specs.declared.task.Request.{Request}
use Rattle.mufom_task.specs.declared.task.Request.TheVariants as request
use Rattle.mufom_task.specs.declared.task.Task.{Task}
use Rattle.mufom_task.specs.Calls.{Call}
use Rattle.mufom_task.specs.Tasks.{request_of}
use Rattle.mufom_works.specs.Works.{Output, work_of}
use Rattle.mufom_works.specs.Result.{Answers, AnswersBy, AnswersWith, run_by, run_of, work_with}
use Rattle.mufom_works.specs.Run.{AnswersFor}

module _ (words : List (List ℕ)) (c : Command) (named : answer_of words ≡ Ok c) (t : Task) (asks : request_of c ≡ request.Run t) where
  pub plain-answers : (call : Call) (result : Outcome) → Answers words call result → AnswersFor t call result
  plain-answers call result is =
      let by : AnswersBy words (Ok c) call result = subst (λ (r : Result Command WordsStop). AnswersBy words r call result) named is in
      subst (λ (q : Request). AnswersWith words q call result) asks by

  pub plain-run : (files : List NamedFile) (reached : Reached Stop Output) → work_of t files reached → run_of words files reached
  plain-run files reached comes =
      let by : work_with words (request_of c) files reached = subst (λ (q : Request). work_with words q files reached) (sym asks) comes in
      subst (λ (r : Result Command WordsStop). run_by words r files reached) (sym named) by
