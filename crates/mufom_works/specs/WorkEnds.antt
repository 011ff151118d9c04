-- How the work on modules or on a text ends before it has an output.
use Rattle.std.specs.Prelude.{◌≡◌, ◌≢◌, ◌⊎◌, ℕ, List, [], ◌∷◌, Option, Some, None}
use Rattle.mufom_module.specs.declared.module.Parts.{Parts}
use Rattle.mufom_plan.specs.declared.plan.Plan.{Plan}
use Rattle.mufom_place.specs.declared.refusal.PlaceRefusal.TheVariants as place_refusal
use Rattle.mufom_meaning.specs.Facts.{placement}
use Rattle.mufom_meaning.specs.declared.located.LocatedParts.{LocatedParts}
use Rattle.mufom_words.specs.Tree.{Forest}
use Rattle.mufom_groups.specs.Linked.{linked}
use Rattle.mufom_groups.specs.Work.{Work, ◌>>=◌, stop_at, stops, sure, with_stops}
use Rattle.mufom_works.specs.Roots.{Roots, first_unknown}
use Rattle.mufom_works.specs.Works.{Kept, all_of, kept_of, located, rest_of_module, work_of}
use Rattle.mufom_outcome.specs.declared.outcome.Outcome.{Outcome}
use Rattle.mufom_outcome.specs.declared.outcome.Outcome.TheVariants as outcome
use Rattle.mufom_outcome.specs.Stop.{Stop, link_fact, keep_unknown, name_shared, locate_fact, bytes_refused, text_refused, listing_refused}
use Rattle.mufom_task.specs.Ends.{stop_outcome, IsInputReached, IsStopped}
use Rattle.mufom_host.specs.World.{InputFails}
use Rattle.mufom_task.specs.declared.task.Task.{Task}
use Rattle.mufom_task.specs.declared.task.Task.TheVariants as task
use Rattle.mufom_task.specs.Calls.{Call}
use Rattle.mufom_task.specs.Tasks.{inputs_of, reads_files}

-- what remains of a module for these roots, unless this is a name that none of its publics has
abbrev pub own_rest : Option (List ℕ) → Roots → Parts → Work Stop Kept
own_rest (Some name) roots M = stop_at (keep_unknown name)
own_rest None roots M = rest_of_module roots M

-- what is kept of one module
abbrev pub own_kept : Option Roots → Parts → Work Stop Kept
own_kept None M = sure (all_of (M ∷ []))
own_kept (Some roots) M = own_rest (first_unknown (M ∷ []) roots.names) roots M

-- the location, by a plan, of what is kept of one module
abbrev pub own_location : Option Roots → Plan → Parts → Work Stop LocatedParts
own_location keep plan M = do
  kept ← own_kept keep M
  located plan kept.modules

-- the location, by a plan, of what is kept of the flat list of the tree; `ms` are the modules in the order of the files
abbrev pub location_of : Forest → Option Roots → Plan → List Parts → Work Stop LocatedParts
location_of tree keep plan ms = do
  flat ← with_stops link_fact (linked tree ms)
  kept ← kept_of keep flat
  located plan kept.modules

-- the end is an error in the modules or in the text that was read, and is not due to a lack of memory
abbrev pub IsOfModules : Stop → Type 0
IsOfModules (link_fact f) = Unit {0}
IsOfModules (keep_unknown name) = Unit {0}
IsOfModules (locate_fact maus f) = f ≢ placement place_refusal.NoMemory
IsOfModules (name_shared name) = Unit {0}
IsOfModules (bytes_refused b) = Unit {0}
IsOfModules (text_refused r) = Unit {0}
IsOfModules (listing_refused r) = Unit {0}
IsOfModules _ = ⊥

-- the outcome is out of memory, or that of such an error, with which the work ends
abbrev pub EndsAt : {A : Type 0} → Work Stop A → Outcome → Type 0
EndsAt work result = (result ≡ outcome.NoMemory) ⊎ ((s : Stop) × IsOfModules s × (result ≡ stop_outcome s) × work (stops s))

-- ---- a task without an output

-- why the task has no output
abbrev pub StopsFor : Task → Call → Outcome → Type 0
StopsFor t call (outcome.Refused r) = IsStopped (reads_files t) (work_of t) call.old.files (outcome.Refused r)
StopsFor t call (outcome.ReadFault at) = InputFails call.before call.now × IsInputReached call.old.files (inputs_of t) at
StopsFor t call outcome.NoMemory = Unit {0}
StopsFor t call _ = ⊥
