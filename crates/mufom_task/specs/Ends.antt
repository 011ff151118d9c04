-- How a run ends before it has an output, and the causes of that.
use Rattle.std.specs.Prelude.{◌≡◌, ◌≢◌, ◌<◌, ℕ, Bool, true, false, not, List, length, take, Option, IfSome, IsSome}
use Rattle.mufom_host.specs.World.{NamedFile}
use Rattle.mufom_module.specs.declared.module.Parts.{Parts}
use Rattle.mufom_plan.specs.declared.plan.Plan.{Plan}
use Rattle.mufom_plan.specs.declared.refusal.PlanRefusal.TheVariants as plan_refusal
use Rattle.mufom_place.specs.declared.refusal.PlaceRefusal.TheVariants as place_refusal
use Rattle.mufom_meaning.specs.Facts.{placement}
use Rattle.mufom_groups.specs.Refusals.{link_refusal}
use Rattle.mufom_groups.specs.Work.{gives, stops, Work}
use Rattle.mufom_outcome.specs.declared.outcome.Input.{Input}
use Rattle.mufom_outcome.specs.declared.outcome.Input.TheVariants as input
use Rattle.mufom_outcome.specs.declared.outcome.Outcome.{Outcome}
use Rattle.mufom_outcome.specs.declared.outcome.Outcome.TheVariants as outcome
use Rattle.mufom_outcome.specs.declared.outcome.Refusal.TheVariants as refusal
use Rattle.mufom_outcome.specs.LocateRefusals.{locate_refusal}
use Rattle.mufom_outcome.specs.Outcomes.{stop_answer}
use Rattle.mufom_outcome.specs.Stop.{Stop, words_refused, plan_refused, file_refused, past_limit, too_many_modules, link_fact}
use Rattle.mufom_outcome.specs.Stop.{keep_unknown, name_shared, locate_fact, bytes_refused}
use Rattle.mufom_outcome.specs.Stop.{text_refused, listing_refused}
use Rattle.mufom_task.specs.declared.task.Inputs.{Inputs}
use Rattle.mufom_task.specs.Inputs.{ComeTo, accepted, root_count}
use Rattle.mufom_task.specs.Reading.{plan_in}

-- the outcome of a run that an error ends
abbrev pub stop_outcome : Stop → Outcome
stop_outcome (words_refused s) = stop_answer s
stop_outcome (plan_refused r) = outcome.Refused (refusal.Plan r)
stop_outcome (file_refused n r) = outcome.Refused (refusal.Read n r)
stop_outcome (past_limit n) = outcome.Refused (refusal.InputLimit n)
stop_outcome (too_many_modules n) = outcome.Refused (refusal.TooManyModules n)
stop_outcome (link_fact f) = outcome.Refused (refusal.Link (link_refusal f))
stop_outcome (keep_unknown name) = outcome.Refused (refusal.Keep name)
stop_outcome (name_shared name) = outcome.Refused (refusal.SharedName name)
stop_outcome (locate_fact maus f) = outcome.Refused (refusal.Locate (locate_refusal f) maus)
stop_outcome (bytes_refused b) = outcome.Refused (refusal.Bin b)
stop_outcome (text_refused r) = outcome.Refused (refusal.Text r)
stop_outcome (listing_refused r) = outcome.Refused (refusal.Build r)

-- If files are read, the fact holds for the files, if they are known. Otherwise it holds for any list of files.
abbrev pub OverFiles : Bool → Option (List NamedFile) → (List NamedFile → Type 0) → Type 0
OverFiles true files P = IfSome files P
OverFiles false files P = (fs : List NamedFile) → P fs

-- the end is not an error in the arguments, and is not due to a lack of memory
abbrev pub IsOfInputs : Stop → Type 0
IsOfInputs (words_refused s) = ⊥
IsOfInputs (plan_refused r) = r ≢ plan_refusal.NoMemory
IsOfInputs (locate_fact maus f) = f ≢ placement place_refusal.NoMemory
IsOfInputs _ = Unit {0}

-- The outcome is a refusal that the work can end with. `reads` says whether the work reads files.
pub record IsStopped {A : Type 0} (reads : Bool) (work : List NamedFile → Work Stop A) (files : Option (List NamedFile))
    (result : Outcome) : Type 0 where
  pub stop : Stop
  pub is : result ≡ stop_outcome stop
  pub of_inputs : IsOfInputs stop
  pub cause : OverFiles reads files (λ fs. work fs (stops stop))

-- the input is one of these, and each input that is read before it is accepted
abbrev pub IsInputReached : Option (List NamedFile) → Inputs → Input → Type 0
IsInputReached files inputs input.Plan = IsSome inputs.plan
IsInputReached files inputs (input.File n) = (n < length inputs.files)
    × IfSome files (λ fs. ((plan : Plan) × plan_in fs inputs.plan (gives plan))
    × ((ms : List Parts) × ComeTo inputs.options (root_count inputs) fs (take n inputs.files) (accepted ms)))
