-- Laws about runs. A run has at most one result, which is the outcome if no call failed and memory sufficed. Files that were linked in stages have
-- the outcome of the list that the stages began with. Locating succeeds if and only if no error applies. The files that are written can replace the
-- modules they were made from.
use Rattle.std.specs.Prelude.{◌≡◌, ◌≢◌, ◌↔◌, ◌≤◌, ℕ, Bool, true, length, List, [], ◌∷◌, Option, Some, None, Ok, unwrap_or}
use Rattle.mufom_host.specs.World.{NamedFile, HoldBytes, RevealsTogether, Rose}
use Rattle.mufom_words.specs.declared.command.Command.{Command}
use Rattle.mufom_words.specs.Answer.{answer_of}
use Rattle.mufom_words.specs.Tree.{tree_of}
use Rattle.mufom_names.specs.Names.{AreDistinct}
use Rattle.mufom_module.specs.declared.module.Parts.{Parts}
use Rattle.mufom_module.specs.Written.{written}
use Rattle.mufom_judging.specs.Judging.{IsModule}
use Rattle.mufom_plan.specs.declared.plan.Plan.{Plan}
use Rattle.mufom_meaning.specs.declared.located.LocatedParts.{LocatedParts}
use Rattle.mufom_meaning.specs.Absolute.{absolute_of, no_regions}
use Rattle.mufom_meaning.specs.Flat.{public_names}
use Rattle.mufom_meaning.specs.Joined.{IsJoined}
use Rattle.mufom_meaning.specs.LinkAnswer.{link_answer}
use Rattle.mufom_meaning.specs.Location.{IsLocation}
use Rattle.mufom_planned.specs.Planned.{IsPlanned, planned_answer}
use Rattle.mufom_planned.specs.PlanLaws.{HasSoundSymbols}
use Rattle.mufom_meaning.specs.Staging.{AreValid, HaveDescriptor, IsStaged, StandsFor}
use Rattle.mufom_groups.specs.Linked.{IsFlatList, first_name, linked}
use Rattle.mufom_groups.specs.Work.{Reached, gives, Work, IsSingle}
use Rattle.mufom_outcome.specs.declared.outcome.Outcome.{Outcome}
use Rattle.mufom_outcome.specs.declared.outcome.Outcome.TheVariants as outcome
use Rattle.mufom_numbers.specs.declared.limits.TheConstants.{MOST_FILE_BYTES}
use Rattle.mufom_origins.specs.declared.origins.Origin.{Origin}
use Rattle.mufom_origins.specs.Words.{ModuleFiles}
use Rattle.mufom_origins.specs.Origins.{FileModule, origins_of}
use Rattle.mufom_works.specs.FlatFiles.{AreFlatFiles}
use Rattle.mufom_outcome.specs.Stop.{Stop}
use Rattle.mufom_works.specs.Roots.{Roots, roots_by}
use Rattle.mufom_works.specs.Works.{Kept, Output, bytes_fact, made, kept_of, linked_file, locating_kept, product_with, work_of}
use Rattle.mufom_task.specs.declared.task.Inputs.{Inputs}
use Rattle.mufom_task.specs.declared.task.Product.{Product}
use Rattle.mufom_task.specs.declared.task.Product.TheVariants as product
use Rattle.mufom_task.specs.declared.task.Request.TheVariants as request
use Rattle.mufom_task.specs.declared.task.Task.TheVariants as task
use Rattle.mufom_task.specs.Inputs.{module_files}
use Rattle.mufom_task.specs.Reading.{plan_in, modules_in}
use Rattle.mufom_task.specs.Tasks.{request_of}
use Rattle.mufom_works.specs.Result.{Answers, run_of}
use Rattle.mufom_task.specs.Calls.{Call}
use Rattle.mufom_works.specs.Run.{outcome_of}

-- ---- the outcome of a run

-- A run has at most one output or one end.
abbrev pub RunsAreSingle : Type 0
RunsAreSingle = (words : List (List ℕ)) (files : List NamedFile) → HoldBytes files → IsSingle (run_of words files)

-- no read and no write failed, and no count of failures has reached its last value
pub record NoneRose (call : Call) : Type 0 where
  pub reads : ¬ Rose call.before.reads call.now.reads
  pub writes : ¬ Rose call.before.writes call.now.writes

-- a call over known files in which no call of the host failed and memory did not run out
pub record IsUndisturbed (files : List NamedFile) (call : Call) (result : Outcome) : Type 0 where
  pub revealed : RevealsTogether call.old
  pub known : call.old.files ≡ Some files
  pub none : NoneRose call
  pub memory : result ≢ outcome.NoMemory

-- If nothing failed and memory sufficed, the outcome is the one that the arguments and the files determine.
abbrev pub AnswersAreDetermined : Type 0
AnswersAreDetermined =
    (words : List (List ℕ)) (files : List NamedFile) (call : Call) (result : Outcome) (reached : Reached Stop Output)
    → Answers words call result → IsUndisturbed files call result → run_of words files reached → result ≡ outcome_of reached

-- ---- conditions of success

-- the inputs are accepted, and give this plan and this flat list
pub record Accepts (files : List NamedFile) (inputs : Inputs) (plan : Plan) (flat : List Parts) : Type 0 where
  pub planned : plan_in files inputs.plan (gives plan)
  pub modules : List Parts
  pub read : modules_in files inputs (gives modules)
  pub is_flat : IsFlatList (tree_of inputs.marks) modules flat

-- the output for this location by the plan is possible: a raw image, or a region, does not have too many bytes, and the region whose bytes are asked
-- for is one of the plan
abbrev pub MayPutOut : Product → Plan → LocatedParts → Type 0
MayPutOut p plan r = bytes_fact p plan.regions r ≡ None

-- no error applies to the list: it can be linked, its publics have all names to keep, if roots are given, and what is kept can be located
pub record HasNoFact (keep : Option Roots) (ms : List Parts) (plan : Plan) : Type 0 where
  pub links : link_answer ms ≡ None
  pub kept : Kept
  pub keeps : kept_of keep ms (gives kept)
  pub locates : planned_answer kept.modules plan ≡ None

-- If nothing failed and memory sufficed, a task that locates accepted files is `Done` if and only if no error applies to their flat list or to what is
-- kept of it, whatever the groups of the files are. For `bin`, this assumes that the bytes may be written.
abbrev pub LocatingIsDone : Type 0
LocatingIsDone =
    (words : List (List ℕ)) (files : List NamedFile) (call : Call) (result : Outcome) (c : Command) (inputs : Inputs) (keep : List (List ℕ)) (p : Product)
    (plan : Plan) (flat : List Parts)
    → Answers words call result → IsUndisturbed files call result → answer_of words ≡ Ok c → request_of c ≡ request.Run (task.Locate inputs keep p)
    → Accepts files inputs plan flat
    → ((kept : Kept) (r : LocatedParts) → kept_of (roots_by keep plan) flat (gives kept) → IsPlanned kept.modules plan r → MayPutOut p plan r)
    → (result ≡ outcome.Done) ↔ HasNoFact (roots_by keep plan) flat plan

-- ---- stages

-- the two works have the same results
abbrev pub IsSameWork : {A : Type 0} → Work Stop A → Work Stop A → Type 0
IsSameWork {A = A} first second = (reached : Reached Stop A) → first reached ↔ second reached

-- The file of the link is the same for the two lists, under each name, and so is whatever is made of a location. A map shows modules with their files,
-- so it is the same for the same modules: a partial link forgets the modules that it was made of.
pub record PutOutAlike (plan : Plan) (ms leaves : List Parts) : Type 0 where
  pub linked : (name : Option (List ℕ)) (out : List ℕ) → IsSameWork (linked_file name out ms) (linked_file name out leaves)
  pub located : (keep : Option Roots) (p : Product) (names : ModuleFiles) (origins : List Origin)
      → IsSameWork (locating_kept (product_with p names origins plan) keep plan ms) (locating_kept (product_with p names origins plan) keep plan leaves)

-- `ms` was made from `leaves` in stages of partial links; the modules of `leaves` have no defect, have one descriptor, and define no public name
-- twice
pub record CameByStages (ms leaves : List Parts) : Type 0 where
  pub staged : IsStaged ms leaves
  pub valid : AreValid leaves
  pub descriptor : (d : Parts) × HaveDescriptor d leaves
  pub names : AreDistinct (public_names leaves)

-- A list that earlier runs linked in stages has the same outputs as the list that the stages began with, by each plan whose symbols are sound: each
-- plan that is read, and each plan without symbols.
abbrev pub StagesMakeNoDifference : Type 0
StagesMakeNoDifference = (plan : Plan) (ms leaves : List Parts) → HasSoundSymbols plan → CameByStages ms leaves → PutOutAlike plan ms leaves

-- the inputs are accepted, and give this plan and this flat list, which can be linked
pub record LeadsTo (files : List NamedFile) (inputs : Inputs) (plan : Plan) (flat : List Parts) : Type 0 where
  pub planned : plan_in files inputs.plan (gives plan)
  pub modules : List Parts
  pub read : modules_in files inputs (gives modules)
  pub linked : linked (tree_of inputs.marks) modules (gives flat)

-- The tasks over these inputs have the outputs of this list. `own` is their flat list with its files, whose modules a map shows.
pub record AreRunsOf (files : List NamedFile) (inputs : Inputs) (plan : Plan) (own : List FileModule) (list : List Parts) : Type 0 where
  pub linked : (name : Option (List ℕ)) (out : List ℕ) → IsSameWork (work_of (task.Link inputs name out) files) (linked_file name out list)
  pub located : (keep : List (List ℕ)) (p : Product)
      → IsSameWork (work_of (task.Locate inputs keep p) files)
      (locating_kept (product_with p (module_files files inputs) (origins_of own) plan) (roots_by keep plan) plan list)

-- So a task whose files were linked in stages has the output for the list that the stages began with.
abbrev pub RunsOfStages : Type 0
RunsOfStages =
    (files : List NamedFile) (inputs : Inputs) (plan : Plan) (flat leaves : List Parts) (own : List FileModule)
    → HoldBytes files → (leads : LeadsTo files inputs plan flat) → AreFlatFiles (tree_of inputs.marks) leads.modules own → CameByStages flat leaves
    → AreRunsOf files inputs plan own leaves

-- ---- files that are written

-- The output is the file of a module that can replace the list. The bytes are those of this module, with a debug part, if they are not too many for a
-- file: a later run reads the module from them.
pub record IsFileOfLink (name : Option (List ℕ)) (out : List ℕ) (flat : List Parts) (output : Output) : Type 0 where
  pub link : Parts
  pub bytes : output ≡ made out (written link)
  pub joined : IsJoined link flat (unwrap_or name (first_name flat))
  pub stands : StandsFor link flat
  pub read_back : length (written link) ≤ MOST_FILE_BYTES → (gnu : Bool) → IsModule (record { debug = true; gnu = gnu }) (written link) link

-- The output of `link` is the file of a module that can replace the flat list, in every context, and that is read back from the file.
abbrev pub LinkedFilesStand : Type 0
LinkedFilesStand =
    (name : Option (List ℕ)) (out : List ℕ) (flat : List Parts) (output : Output) → AreValid flat → linked_file name out flat (gives output)
    → IsFileOfLink name out flat output

-- The output is the file of the absolute module of the location of what is kept of the list. Located alone, by the plan without regions, that module
-- has the same location. A later run reads it from the bytes, as above.
pub record IsFileOfLocation (keep : Option Roots) (out : List ℕ) (plan : Plan) (flat : List Parts) (output : Output) : Type 0 where
  pub location : LocatedParts
  pub bytes : output ≡ made out (written (absolute_of location))
  pub kept : Kept
  pub keeps : kept_of keep flat (gives kept)
  pub located : IsPlanned kept.modules plan location
  pub itself : IsLocation (absolute_of location ∷ []) no_regions location
  pub read_back : length (written (absolute_of location)) ≤ MOST_FILE_BYTES → (gnu : Bool)
      → IsModule (record { debug = true; gnu = gnu }) (written (absolute_of location)) (absolute_of location)

-- The output of `locate` is the file of an absolute module that has the same location if it is located alone by the plan without regions, and that is
-- read back from the file.
abbrev pub AbsoluteFilesStand : Type 0
AbsoluteFilesStand =
    (keep : Option Roots) (out : List ℕ) (names : ModuleFiles) (origins : List Origin) (plan : Plan) (flat : List Parts) (output : Output)
    → HasSoundSymbols plan → AreValid flat → locating_kept (product_with (product.Absolute out) names origins plan) keep plan flat (gives output)
    → IsFileOfLocation keep out plan flat output
