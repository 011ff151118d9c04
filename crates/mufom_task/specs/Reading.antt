-- Reading the inputs of a task as a work over files: a plan, the modules of files, or a text.
use Rattle.std.specs.Prelude.{◌≡◌, ℕ, ◌<◌, ◌≤◌, Bool, true, false, List, [], ◌∷◌, length, nat_lt, Option, Some, None, Result, Ok, Err}
use Rattle.mufom_numbers.specs.declared.limits.TheConstants.{MOST_FILE_BYTES, MOST_MODULES}
use Rattle.mufom_host.specs.World.{NamedFile, file_named}
use Rattle.mufom_module.specs.declared.module.Parts.{Parts}
use Rattle.mufom_plan.specs.declared.plan.Plan.{Plan}
use Rattle.mufom_plan.specs.declared.refusal.PlanRefusal.{PlanRefusal}
use Rattle.mufom_plan.specs.PlanText.{plan_of_text}
use Rattle.mufom_meaning.specs.Absolute.{no_regions}
use Rattle.mufom_planned.specs.ReadPlans.{IsReadPlan}
use Rattle.mufom_groups.specs.Work.{gives, stops, Work, ◌>>=◌, sure, one_with, stop_at, nowhere}
use Rattle.mufom_outcome.specs.Stop.{Stop, words_refused, plan_refused, file_refused, past_limit, too_many_modules, link_fact}
use Rattle.mufom_outcome.specs.Stop.{keep_unknown, name_shared, locate_fact, bytes_refused}
use Rattle.mufom_outcome.specs.Stop.{text_refused, listing_refused}
use Rattle.mufom_task.specs.declared.task.Inputs.{Inputs}
use Rattle.mufom_task.specs.Inputs.{ComeTo, accepted, refused, root_count, past_limit as past}

-- the bytes of a file, if it exists
abbrev pub file_in : List NamedFile → List ℕ → Work Stop (List ℕ)
file_in files name = one_with (λ bytes. file_named name files ≡ Some bytes)

-- The plan, or the error of bytes that are not a plan. The program can hold the plan: this is true of each plan that `read_plan` returns. If it were
-- not, the work would have no result, and nothing would be claimed about a run that reads the plan.
abbrev pub plan_by : Result Plan PlanRefusal → Work Stop Plan
plan_by (Ok plan) reached = IsReadPlan plan × sure plan reached
plan_by (Err r) reached = stop_at (plan_refused r) reached

-- the plan in a file, or the one without regions if no file is named
abbrev pub plan_in : List NamedFile → Option (List ℕ) → Work Stop Plan
plan_in files None = sure no_regions
plan_in files (Some name) = do
  bytes ← file_in files name
  plan_by (plan_of_text bytes)

-- the modules of the files of a task, unless they are too many
abbrev pub modules_in : List NamedFile → Inputs → Work Stop (List Parts)
modules_in files inputs (gives ms) = ComeTo inputs.options (root_count inputs) files inputs.files (accepted ms) × (length ms ≤ MOST_MODULES)
modules_in files inputs (stops (file_refused n r)) = ComeTo inputs.options (root_count inputs) files inputs.files (refused n r)
modules_in files inputs (stops (past_limit n)) = ComeTo inputs.options (root_count inputs) files inputs.files (past n)
modules_in files inputs (stops (too_many_modules n)) = (ms : List Parts) × ComeTo inputs.options (root_count inputs) files inputs.files (accepted ms)
    × (n ≡ length ms) × (MOST_MODULES < n)
modules_in files inputs (stops _) = ⊥

-- the bytes of a text, unless there are too many
abbrev pub unless_past_limit : Bool → List ℕ → Work Stop (List ℕ)
unless_past_limit true bytes = stop_at (past_limit 0)
unless_past_limit false bytes = sure bytes

-- the bytes of the first of the files, as a text
abbrev pub text_in : List NamedFile → List (List ℕ) → Work Stop (List ℕ)
text_in files [] = nowhere
text_in files (name ∷ _) = do
  bytes ← file_in files name
  unless_past_limit (nat_lt MOST_FILE_BYTES (length bytes)) bytes
