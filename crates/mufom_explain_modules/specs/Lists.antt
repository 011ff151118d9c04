-- The flat list of a task whose inputs were read, what is kept of it, and why it is not located.
use Rattle.std.specs.Prelude.{◌≡◌, List, [], ◌∷◌, ℕ, Option, None}
use Rattle.mufom_host.specs.World.{NamedFile}
use Rattle.mufom_module.specs.declared.module.Parts.{Parts}
use Rattle.mufom_plan.specs.declared.plan.Plan.{Plan}
use Rattle.mufom_plan.specs.declared.plan.PlanSymbol.{PlanSymbol}
use Rattle.mufom_planned.specs.Shown.{shown_list}
use Rattle.mufom_meaning.specs.Joined.{IsJoined}
use Rattle.mufom_meaning.specs.StagingLaws.{MeansTheSame}
use Rattle.mufom_words.specs.Tree.{tree_of}
use Rattle.mufom_groups.specs.Linked.{linked}
use Rattle.mufom_groups.specs.Work.{gives}
use Rattle.mufom_works.specs.Same.{AreSame}
use Rattle.mufom_origins.specs.declared.origins.Origin.{Origin}
use Rattle.mufom_origins.specs.Origins.{FileModule, modules_of, origins_of}
use Rattle.mufom_origins.specs.Words.{ModuleFiles}
use Rattle.mufom_outcome.specs.declared.outcome.Outcome.TheVariants as outcome
use Rattle.mufom_outcome.specs.declared.outcome.Refusal.TheVariants as refusal
use Rattle.mufom_refusals.specs.declared.prune.PruneRefusal.{PruneRefusal}
use Rattle.mufom_outcome.specs.Outcomes.{outcome_of_prune}
use Rattle.mufom_task.specs.declared.task.Inputs.{Inputs}
use Rattle.mufom_task.specs.declared.task.Task.{Task}
use Rattle.mufom_task.specs.declared.task.Task.TheVariants as task
use Rattle.mufom_works.specs.Roots.{Roots, roots_by}
use Rattle.mufom_works.specs.Works.{Kept, kept_of, kept_origins}
use Rattle.mufom_works.specs.FlatFiles.{AreFlatFiles}
use Rattle.mufom_works.specs.HasDetails.{IsModuleBy}
use Rattle.mufom_works.specs.WorkEnds.{EndsAt}
use Rattle.mufom_prepare.specs.Prepared.{AreReadFrom}

-- ---- explaining a task whose inputs were read

-- These are the inputs, and this is their flat list, which can be linked.
pub record AreLinkedFlat (files : Option (List NamedFile)) (inputs : Inputs) (names : ModuleFiles) (plan : Plan) (ms : List Parts)
    (flat : List FileModule) : Type 0 where
  pub read : AreReadFrom files inputs names plan ms
  pub are : AreFlatFiles (tree_of inputs.marks) ms flat
  pub links : linked (tree_of inputs.marks) ms (gives (modules_of flat))

-- `kept` is what is kept of such a list. The module with these origins is located instead of it: it means the same, and its entries come from the
-- same modules as in the list. It is the link of the list, or what remains of it.
pub record IsKeptFlat (keep : Option Roots) (flat : List FileModule) («module» : Parts) (origins : List Origin) (kept : Kept) : Type 0 where
  pub keeps : kept_of keep (modules_of flat) (gives kept)
  pub same : AreSame («module» ∷ []) kept.modules
  pub module_is : IsModuleBy kept.rest kept.modules «module»
  pub from : origins ≡ kept_origins kept.rest (origins_of flat)

-- nothing is kept of such a list for this reason
pub record AreRefusedKept (files : Option (List NamedFile)) (inputs : Inputs) (names : ModuleFiles) (keep : List (List ℕ)) (plan : Plan)
    (ms : List Parts) (flat : List FileModule) (r : PruneRefusal) : Type 0 where
  pub linked : AreLinkedFlat files inputs names plan ms flat
  pub ends : EndsAt (kept_of (roots_by keep plan) (modules_of flat)) (outcome_of_prune r)

-- none of its publics has this name, which should be kept
pub record AreUnkept (files : Option (List NamedFile)) (inputs : Inputs) (names : ModuleFiles) (keep : List (List ℕ)) (plan : Plan)
    (ms : List Parts) (flat : List FileModule) (name : List ℕ) : Type 0 where
  pub linked : AreLinkedFlat files inputs names plan ms flat
  pub ends : EndsAt (kept_of (roots_by keep plan) (modules_of flat)) (outcome.Refused (refusal.Keep name))

-- the module with these origins is located instead of what is kept of it
pub record AreUnlocated (files : Option (List NamedFile)) (inputs : Inputs) (names : ModuleFiles) (keep : List (List ℕ)) (plan : Plan)
    (ms : List Parts) (flat : List FileModule) («module» : Parts) (origins : List Origin) : Type 0 where
  pub linked : AreLinkedFlat files inputs names plan ms flat
  pub kept : Kept
  pub keeps : IsKeptFlat (roots_by keep plan) flat «module» origins kept

-- the module that is located for a part by a plan: the part, or its link with the plan's symbols if there are any
abbrev pub IsLocatedWith : List PlanSymbol → Parts → Plan → Parts → Type 0
IsLocatedWith [] part plan «module» = «module» ≡ part
IsLocatedWith (symbol ∷ more) part plan «module» =
    IsJoined «module» (shown_list (part ∷ []) plan) part.name × MeansTheSame («module» ∷ []) (shown_list (part ∷ []) plan)

abbrev pub IsLocatedAs : Parts → Plan → Parts → Type 0
IsLocatedAs part plan «module» = IsLocatedWith plan.symbols part plan «module»

-- the task links lists of the modules of these inputs into one, under this name, if one is given
abbrev pub LinksLists : Task → Inputs → Option (List ℕ) → Type 0
LinksLists (task.Link own given out) inputs name = (own ≡ inputs) × (given ≡ name)
LinksLists (task.Locate own keep p) inputs name = (own ≡ inputs) × (name ≡ None)
LinksLists _ inputs name = ⊥
