-- The facts that the errors of locating by a plan report.
use Rattle.std.specs.Prelude.{◌≡◌, Option, Some, None}
use Rattle.mufom_meaning.specs.Facts.{LocateFact}
use Rattle.mufom_planned.specs.Planned.{PlanFact, shared_name, of_list}
use Rattle.mufom_image.specs.Refusals.{IsMet}
use Rattle.mufom_refusals.specs.declared.planned.PlannedRefusal.{PlannedRefusal}
use Rattle.mufom_refusals.specs.declared.planned.PlannedRefusal.TheVariants as refusals

-- the fact about the list with the plan's symbols, if it is one
abbrev pub list_fact : Option PlanFact → Option LocateFact
list_fact None = None
list_fact (Some (shared_name name)) = None
list_fact (Some (of_list fact)) = Some fact

-- the error reports this fact, or is out of memory
abbrev pub IsMetBy : Option PlanFact → PlannedRefusal → Type 0
IsMetBy met (refusals.SharedName name) = met ≡ Some (shared_name name)
IsMetBy met (refusals.Locate refusal) = IsMet (list_fact met) refusal
