-- A location with all that is made of it, as the code holds it, and what keeps a list of modules from having one.
use Rattle.std.specs.Prelude.{◌≡◌, ℕ, ◌<◌, ◌≤◌, List, [], ◌∷◌, length, Option, None}
use Rattle.mufom_module.specs.declared.module.Parts.{Parts}
use Rattle.mufom_module.specs.Defects.{IsValid}
use Rattle.mufom_module.specs.Written.{weight}
use Rattle.mufom_names.specs.Names.{AreDistinct, names_of}
use Rattle.mufom_plan.specs.declared.plan.Plan.{Plan}
use Rattle.mufom_planned.specs.Planned.{IsPlanned, planned_answer}
use Rattle.mufom_locating.specs.Light.{weight_limit}
use Rattle.mufom_planned.specs.ReadPlans.{IsReadPlan}
use Rattle.mufom_refusals.specs.declared.planned.PlannedRefusal.{PlannedRefusal}
use Rattle.mufom_locating.specs.Refusals.{IsMetBy}
use Rattle.mufom_meaning.specs.Selection.{IsSelected}
use Rattle.mufom_meaning.specs.Staging.{AreValid}
use Rattle.mufom_meaning.specs.StagingLaws.{total_weight}
use Rattle.mufom_numbers.specs.declared.limits.TheConstants.{MOST_MODULES}
use Rattle.mufom_task.specs.declared.task.Inputs.{Inputs}
use Rattle.mufom_task.specs.Inputs.{HaveRoots}
use Rattle.mufom_task.specs.Sound.{IsSoundInputs}
use Rattle.mufom_words.specs.Tree.{Forest, leaves}
use Rattle.mufom_groups.specs.Groups.{StopsWork, most_weight}
use Rattle.mufom_groups.specs.Linked.{linked, linked_module, members, roots}
use Rattle.mufom_groups.specs.Work.{gives, with_stops}
use Rattle.mufom_origins.specs.declared.origins.Origin.{Origin}
use Rattle.mufom_origins.specs.Origins.{FileModule, numbered, origins_of}
use Rattle.mufom_origins.specs.Places.{with_chosen}
use Rattle.mufom_map.specs.Mapped.{Mapped, mapped_by, planned_layout}
use Rattle.mufom_prepare.specs.declared.locating.Location.{Location}
use Rattle.mufom_prepare.specs.declared.locating.Obstacle.{Obstacle}
use Rattle.mufom_prepare.specs.declared.locating.Obstacle.TheVariants as obstacle
use Rattle.mufom_prepare.specs.declared.locating.Places.{Places}
use Rattle.mufom_prepare.specs.declared.locating.TracedModule.{TracedModule}
use Rattle.mufom_works.specs.Roots.{Roots, roots_by}
use Rattle.mufom_works.specs.Works.{Kept, kept_of, kept_origins, located, mapped_kept}
use Rattle.mufom_works.specs.FlatFiles.{AreFlatFiles}
use Rattle.mufom_outcome.specs.declared.outcome.Outcome.{Outcome}
use Rattle.mufom_refusals.specs.declared.prune.PruneRefusal.{PruneRefusal}
use Rattle.mufom_outcome.specs.Outcomes.{outcome_of_link, outcome_of_planned, outcome_of_prune}
use Rattle.mufom_outcome.specs.Stop.{Stop, link_fact}
use Rattle.mufom_works.specs.WorkEnds.{EndsAt, own_kept}

-- what modules have that are read of the files of a task, so that they can be linked
pub record AreLinkable (inputs : Inputs) (ms : List Parts) : Type 0 where
  pub sound : IsSoundInputs inputs
  pub count : HaveRoots inputs ms
  pub few : length ms ≤ MOST_MODULES
  pub valid : AreValid ms
  pub light : total_weight ms ≤ most_weight

-- these are the origins of the modules of the flat list
pub record AreOriginsOf (tree : Forest) (ms : List Parts) (origins : List Origin) : Type 0 where
  pub flat : List FileModule
  pub files : AreFlatFiles tree ms flat
  pub are : origins ≡ origins_of flat

-- The module is what is kept of the whole one, and its entries come from the same modules as in the whole one.
pub record IsKeptPart (keep : Option Roots) (whole part : TracedModule) : Type 0 where
  pub kept : Kept
  pub keeps : own_kept keep whole.«module» (gives kept)
  pub modules : kept.modules ≡ part.«module» ∷ []
  pub origins : part.origins ≡ kept_origins kept.rest whole.origins

-- what a map shows of it
abbrev pub shown_of : Location → Mapped
shown_of m = mapped_by m.origins (planned_layout (m.«module» ∷ []) m.plan) m.located

-- the module, no two publics of which have the same name and which is light enough, is located by a plan that was read
pub record AreLocated (m : Location) : Type 0 where
  pub names : AreDistinct (names_of m.«module».names.publics)
  pub light : weight m.«module» < weight_limit
  pub sound : IsReadPlan m.plan
  pub located : IsPlanned (m.«module» ∷ []) m.plan m.located

-- This is the location of the module by the plan, and the origins are those of the module.
pub record LocatesPart (part : TracedModule) (plan : Plan) (m : Location) : Type 0 where
  pub is : m ≡ record { origins = part.origins; «module» = part.«module»; plan = plan; located = m.located }
  pub located : IsPlanned (part.«module» ∷ []) plan m.located

-- The location is that of what is kept of the flat list of the tree, and a map shows that, with the files of the list.
pub record AreMapped (tree : Forest) (keep : Option Roots) (plan : Plan) (ms : List Parts) (m : Location) : Type 0 where
  pub are_located : AreLocated m
  pub list : List Parts
  pub links : with_stops {T = Stop} link_fact (linked tree ms) (gives list)
  pub kept : Kept
  pub keeps : kept_of keep list (gives kept)
  pub location : located plan kept.modules (gives m.located)
  pub flat : List FileModule
  pub files : AreFlatFiles tree ms flat
  pub shows : shown_of m ≡ mapped_kept (origins_of flat) plan kept m.located

-- ---- without a location

-- these are the members that are selected, and the number of files of the tree
pub record HasPlaces (tree : Forest) (ms : List Parts) (places : Places) : Type 0 where
  pub counted : places.roots ≡ length (leaves tree)
  pub selected : IsSelected (roots tree ms) (members tree ms) places.chosen

-- The module is the link of the modules, with these members, and its entries come from these modules.
pub record IsTracedLink (tree : Forest) (ms : List Parts) (places : Places) (whole : TracedModule) : Type 0 where
  pub links : linked_module tree None ms (gives whole.«module»)
  pub valid : IsValid whole.«module»
  pub has : HasPlaces tree ms places
  pub from : whole.origins ≡ with_chosen places.roots places.chosen (origins_of (numbered ms))

-- nothing can be kept of such a link
pub record IsUnkept (tree : Forest) (keep : Option Roots) (ms : List Parts) (r : PruneRefusal) (places : Places) : Type 0 where
  pub whole : TracedModule
  pub link : IsTracedLink tree ms places whole
  pub ends : EndsAt (own_kept keep whole.«module») (outcome_of_prune r)

-- what is kept of such a link, in which no two publics have the same name and which is light enough, cannot be located
pub record IsUnlocated (tree : Forest) (keep : Option Roots) (ms : List Parts) (r : PlannedRefusal) (part : TracedModule) (plan : Plan) (places : Places)
    : Type 0 where
  pub whole : TracedModule
  pub link : IsTracedLink tree ms places whole
  pub kept : IsKeptPart keep whole part
  pub names : AreDistinct (names_of part.«module».names.publics)
  pub light : weight part.«module» < weight_limit
  pub sound : IsReadPlan plan
  pub met : IsMetBy (planned_answer (part.«module» ∷ []) plan) r

-- the part cannot be located by the plan
abbrev pub IsUnlocatedPart : TracedModule → Plan → Places → Obstacle → Type 0
IsUnlocatedPart part plan places (obstacle.Unlocated r own by at) =
    (own ≡ part) × (by ≡ plan) × (at ≡ places) × IsMetBy (planned_answer (part.«module» ∷ []) plan) r
IsUnlocatedPart part plan places _ = ⊥

-- Why the modules have no location: a list of them cannot be linked, nothing can be kept of their link for these names and the plan, or what is kept
-- cannot be located.
abbrev pub IsObstacle : Forest → List (List ℕ) → List Parts → Obstacle → Type 0
IsObstacle tree keep ms (obstacle.Unlinked r) = StopsWork (linked_module tree None ms) r
IsObstacle tree keep ms (obstacle.Unkept r plan places) = IsUnkept tree (roots_by keep plan) ms r places
IsObstacle tree keep ms (obstacle.Unlocated r part plan places) = IsUnlocated tree (roots_by keep plan) ms r part plan places

-- if a plan is part of what keeps modules from being located, it is this one
abbrev pub HasPlan : Plan → Obstacle → Type 0
HasPlan plan (obstacle.Unlocated r part own places) = own ≡ plan
HasPlan plan (obstacle.Unkept r own places) = own ≡ plan
HasPlan plan _ = Unit {0}

-- the outcome of a run that it ends
abbrev pub outcome_of_obstacle : Obstacle → Outcome
outcome_of_obstacle (obstacle.Unlinked r) = outcome_of_link r
outcome_of_obstacle (obstacle.Unkept r plan places) = outcome_of_prune r
outcome_of_obstacle (obstacle.Unlocated r part plan places) = outcome_of_planned part.«module».maus r
