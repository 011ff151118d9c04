-- Runs over the file of a link, beside runs over the modules that were linked.
use Rattle.std.specs.Prelude.{◌≡◌, ℕ, List, ◌∷◌, ◌++◌, Option, Ok}
use Rattle.mufom_host.specs.World.{NamedFile, HoldBytes}
use Rattle.mufom_words.specs.declared.command.Command.{Command}
use Rattle.mufom_words.specs.Answer.{answer_of}
use Rattle.mufom_names.specs.Names.{AreDistinct}
use Rattle.mufom_module.specs.declared.module.Parts.{Parts}
use Rattle.mufom_plan.specs.declared.plan.Plan.{Plan}
use Rattle.mufom_meaning.specs.Flat.{public_names}
use Rattle.mufom_meaning.specs.Staging.{HaveDescriptor, NameStays}
use Rattle.mufom_outcome.specs.declared.outcome.Outcome.{Outcome}
use Rattle.mufom_outcome.specs.declared.outcome.Outcome.TheVariants as outcome
use Rattle.mufom_task.specs.declared.task.Inputs.{Inputs}
use Rattle.mufom_task.specs.declared.task.Product.{Product}
use Rattle.mufom_task.specs.declared.task.Product.TheVariants as product
use Rattle.mufom_task.specs.declared.task.Request.TheVariants as request
use Rattle.mufom_task.specs.declared.task.Task.{Task}
use Rattle.mufom_task.specs.declared.task.Task.TheVariants as task
use Rattle.mufom_task.specs.Calls.{Call}
use Rattle.mufom_task.specs.Tasks.{request_of}
use Rattle.mufom_works.specs.Result.{Answers}
use Rattle.mufom_works.specs.Run.{PutsOut}
use Rattle.mufom_works.specs.Works.{Output, work_of}
use Rattle.mufom_run_laws.specs.RunLaws.{Accepts, IsSameWork, IsUndisturbed}
use Rattle.mufom_headline.specs.ReadBack.{IsPutInFile}

-- ---- runs of tasks whose works are the same

-- Two runs have the same outcome. If it is `Done`, both made the same output.
pub record EndTheSame (call : Call) (result : Outcome) (other : Call) (its : Outcome) : Type 0 where
  pub same : result ≡ its
  pub output : result ≡ outcome.Done → (o : Output) × PutsOut o call × PutsOut o other

-- Two runs end the same if the works of their tasks are the same, each over the files of its own run, no I/O call failed in either, and neither ran out
-- of memory.
abbrev pub SameWorksEndTheSame : Type 0
SameWorksEndTheSame =
    (files others : List NamedFile) (t u : Task) (words its_words : List (List ℕ)) (c d : Command) (call other : Call) (result its : Outcome)
    → IsSameWork (work_of t files) (work_of u others)
    → Answers words call result → IsUndisturbed files call result → answer_of words ≡ Ok c → request_of c ≡ request.Run t
    → Answers its_words other its → IsUndisturbed others other its → answer_of its_words ≡ Ok d → request_of d ≡ request.Run u
    → EndTheSame call result other its

-- ---- the file of a link

-- What is made of a location does not name modules and files. A map does: a partial link does not keep the names of the modules that it was made of.
abbrev pub NamesNoModules : Product → Type 0
NamesNoModules (product.Map at) = ⊥
NamesNoModules _ = Unit {0}

-- The tasks that link or locate have the same work over these inputs as over the others.
pub record HaveSameWorks (files : List NamedFile) (inputs : Inputs) (others : List NamedFile) (other : Inputs) : Type 0 where
  pub linked : (name : Option (List ℕ)) (out : List ℕ) → IsSameWork (work_of (task.Link inputs name out) files) (work_of (task.Link other name out) others)
  pub located : (keep : List (List ℕ)) (p : Product) → NamesNoModules p
      → IsSameWork (work_of (task.Locate inputs keep p) files) (work_of (task.Locate other keep p) others)

-- Inputs whose flat list has the module in the place of the list have the same works as inputs whose flat list has the list itself, by the same plan. The
-- modules of the latter flat list have one address descriptor, and no two of their public symbols have one name. A module at the beginning has the name
-- of the list's first module.
abbrev pub ReplacesInRuns : Parts → List Parts → Type 0
ReplacesInRuns link list =
    (before after : List Parts) (files others : List NamedFile) (inputs other : Inputs) (plan : Plan)
    → HaveDescriptor link (before ++ (list ++ after)) → AreDistinct (public_names (before ++ (list ++ after))) → NameStays before link list
    → HoldBytes files → Accepts files inputs plan (before ++ (link ∷ after))
    → HoldBytes others → Accepts others other plan (before ++ (list ++ after))
    → HaveSameWorks files inputs others other

-- A run of `link` that is `Done` made the file of a module, and nothing else. A later run reads the module from the file, if the file is not too long,
-- and the tasks of later runs have the same works over the module as over the list that was linked.
pub record IsReplacedLater (list : List Parts) (out : List ℕ) (call : Call) : Type 0 where
  pub link : Parts
  pub put_out : IsPutInFile out link call
  pub replaces : ReplacesInRuns link list

-- This holds for each run of `link` in which no I/O call failed, which did not run out of memory and whose files were accepted.
abbrev pub LinkedFilesReplaceLists : Type 0
LinkedFilesReplaceLists =
    (words : List (List ℕ)) (files : List NamedFile) (call : Call) (result : Outcome) (c : Command) (inputs : Inputs) (name : Option (List ℕ))
    (out : List ℕ) (plan : Plan) (list : List Parts)
    → Answers words call result → IsUndisturbed files call result → answer_of words ≡ Ok c → request_of c ≡ request.Run (task.Link inputs name out)
    → Accepts files inputs plan list → result ≡ outcome.Done
    → IsReplacedLater list out call
