-- The result of a run of `link`, and the work of a task whose files were linked in stages.
use Rattle.std.specs.Prelude.{◌≡◌, ◌↔◌, ℕ, List, [], ◌∷◌, Option, Some, None, Ok, unwrap_or}
use Rattle.mufom_host.specs.World.{NamedFile, HoldBytes}
use Rattle.mufom_words.specs.declared.command.Command.{Command}
use Rattle.mufom_words.specs.Answer.{answer_of}
use Rattle.mufom_words.specs.Tree.{tree_of}
use Rattle.mufom_module.specs.declared.module.Parts.{Parts}
use Rattle.mufom_plan.specs.declared.plan.Plan.{Plan}
use Rattle.mufom_meaning.specs.Facts.{LinkFact}
use Rattle.mufom_meaning.specs.Joined.{IsJoined}
use Rattle.mufom_meaning.specs.LinkAnswer.{link_answer}
use Rattle.mufom_meaning.specs.Staging.{StandsFor}
use Rattle.mufom_meaning.specs.Stands.{LinkFactStands}
use Rattle.mufom_groups.specs.Linked.{first_name, links}
use Rattle.mufom_groups.specs.Refusals.{link_refusal}
use Rattle.mufom_groups.specs.Work.{Work, ◌>>=◌, with_stops}
use Rattle.mufom_stages.specs.Stages.{CameByLinks, named_as}
use Rattle.mufom_origins.specs.declared.origins.Origin.{Origin}
use Rattle.mufom_origins.specs.Origins.{FileModule, origins_of}
use Rattle.mufom_origins.specs.Words.{ModuleFiles}
use Rattle.mufom_outcome.specs.declared.outcome.Outcome.{Outcome}
use Rattle.mufom_outcome.specs.declared.outcome.Outcome.TheVariants as outcome
use Rattle.mufom_outcome.specs.declared.outcome.Refusal.TheVariants as refusal
use Rattle.mufom_outcome.specs.Stop.{Stop, link_fact}
use Rattle.mufom_task.specs.declared.task.Inputs.{Inputs}
use Rattle.mufom_task.specs.declared.task.Product.{Product}
use Rattle.mufom_task.specs.declared.task.Request.TheVariants as request
use Rattle.mufom_task.specs.declared.task.Task.TheVariants as task
use Rattle.mufom_task.specs.Inputs.{module_files}
use Rattle.mufom_task.specs.Calls.{Call}
use Rattle.mufom_task.specs.Tasks.{request_of}
use Rattle.mufom_works.specs.Roots.{Roots, roots_by}
use Rattle.mufom_works.specs.Works.{Output, linked_file, locating_kept, product_with, work_of}
use Rattle.mufom_works.specs.FlatFiles.{AreFlatFiles}
use Rattle.mufom_works.specs.Result.{Answers}
use Rattle.mufom_run_laws.specs.RunLaws.{Accepts, CameByStages, IsSameWork, IsUndisturbed}
use Rattle.mufom_headline.specs.ReadBack.{IsPutInFile}

-- If no I/O call failed, the run did not run out of memory and its files were accepted, `link` is `Done` if and only if the flat list of the
-- modules can be linked, whatever the groups are.
abbrev pub LinkingIsDone : Type 0
LinkingIsDone =
    (words : List (List ℕ)) (files : List NamedFile) (call : Call) (result : Outcome) (c : Command) (inputs : Inputs) (name : Option (List ℕ))
    (out : List ℕ) (plan : Plan) (flat : List Parts)
    → Answers words call result → IsUndisturbed files call result → answer_of words ≡ Ok c → request_of c ≡ request.Run (task.Link inputs name out)
    → Accepts files inputs plan flat
    → (result ≡ outcome.Done) ↔ (link_answer flat ≡ None)

-- The output of a run over a list of modules is the file of the module into which the list is linked, whose name is that of `--name` or that
-- of the first module. In every context this module means what the list means, and a later run reads it from the file.
pub record IsLinkPutOut (name : Option (List ℕ)) (out : List ℕ) (list : List Parts) (call : Call) : Type 0 where
  pub link : Parts
  pub joined : IsJoined link list (unwrap_or name (first_name list))
  pub stands : StandsFor link list
  pub put_out : IsPutInFile out link call

-- The run is refused with a link error that applies to the list. If several do, a group of the arguments may decide which.
abbrev pub IsRefusedLink : List Parts → Outcome → Type 0
IsRefusedLink list result = (f : LinkFact) × LinkFactStands list f × (result ≡ outcome.Refused (refusal.Link (link_refusal f)))

-- The result of the run is that of linking this list: it is `Done` if and only if the list can be linked, and the output is then the link. Otherwise the
-- run is refused with a link error of the list.
pub record HasLinked (name : Option (List ℕ)) (out : List ℕ) (call : Call) (result : Outcome) (list : List Parts) : Type 0 where
  pub done : (result ≡ outcome.Done) ↔ (link_answer list ≡ None)
  pub output : result ≡ outcome.Done → IsLinkPutOut name out list call
  pub refused : (f : LinkFact) → link_answer list ≡ Some f → IsRefusedLink list result

-- The result is that of linking the flat list, and of linking each list from which earlier runs made its modules in stages, its first module under the
-- name of the first module of the flat list.
pub record LinksAll (name : Option (List ℕ)) (out : List ℕ) (call : Call) (result : Outcome) (flat : List Parts) : Type 0 where
  pub linked : HasLinked name out call result flat
  pub staged : (leaves : List Parts) → CameByLinks flat leaves → HasLinked name out call result (named_as flat leaves)

-- The headline of linking, of a run with these arguments: if no I/O call failed, the run did not run out of memory and its files were accepted, `link`
-- links the flat list of the modules.
abbrev pub RunLinks : List (List ℕ) → Call → Outcome → Type 0
RunLinks words call result =
    (files : List NamedFile) (c : Command) (inputs : Inputs) (name : Option (List ℕ)) (out : List ℕ) (plan : Plan) (flat : List Parts)
    → IsUndisturbed files call result → answer_of words ≡ Ok c → request_of c ≡ request.Run (task.Link inputs name out)
    → Accepts files inputs plan flat
    → LinksAll name out call result flat

abbrev pub LinksArePutOut : Type 0
LinksArePutOut = (words : List (List ℕ)) (call : Call) (result : Outcome) → Answers words call result → RunLinks words call result

-- The work over one list of modules, without groups and members: the list is linked, which may end the work with a link error, and the output
-- follows.
abbrev pub after_link : List Parts → Work Stop Output → Work Stop Output
after_link ms output = do
  _ ← with_stops link_fact (links (ms ∷ []))
  output

-- the work of a link, and of making something of a location, over one list of modules; its entries come from modules with these origins
abbrev pub link_of_list : Option (List ℕ) → List ℕ → List Parts → Work Stop Output
link_of_list name out ms = after_link ms (linked_file name out ms)

abbrev pub location_of_list : Option Roots → Product → ModuleFiles → List Origin → Plan → List Parts → Work Stop Output
location_of_list keep p names origins plan ms = after_link ms (locating_kept (product_with p names origins plan) keep plan ms)

-- The work of a task whose files were linked in stages is its work over the list that the stages began with, whether or not that list can be linked. A
-- map names modules and files: for that list too, these are the modules of the flat list and their files, since a partial link does not keep the names
-- of the modules that it was made of.
pub record AreFlatRuns (files : List NamedFile) (inputs : Inputs) (plan : Plan) (own : List FileModule) (leaves : List Parts) : Type 0 where
  pub linked : (name : Option (List ℕ)) (out : List ℕ) → IsSameWork (work_of (task.Link inputs name out) files) (link_of_list name out leaves)
  pub located : (keep : List (List ℕ)) (p : Product)
      → IsSameWork (work_of (task.Locate inputs keep p) files)
      (location_of_list (roots_by keep plan) p (module_files files inputs) (origins_of own) plan leaves)

abbrev pub StagedRunsAreFlat : Type 0
StagedRunsAreFlat =
    (files : List NamedFile) (inputs : Inputs) (plan : Plan) (flat leaves : List Parts) (own : List FileModule)
    → HoldBytes files → (accepts : Accepts files inputs plan flat) → AreFlatFiles (tree_of inputs.marks) accepts.modules own → CameByStages flat leaves
    → AreFlatRuns files inputs plan own leaves
