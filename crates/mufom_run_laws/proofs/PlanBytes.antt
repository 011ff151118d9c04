-- The plan that a task reads is within its bounds, if the files hold bytes.
use Rattle.std.proofs.Common.{◌≡◌, ℕ, List, Option, Some, None, Result, Ok, Err, sym, subst, refl, arith}
use Rattle.mufom_numbers.specs.Spelling.{AreBytes}
use Rattle.mufom_host.specs.World.{HoldBytes, NamedFile}
use Rattle.mufom_plan.specs.declared.plan.Plan.{Plan}
use Rattle.mufom_plan.specs.declared.refusal.PlanRefusal.{PlanRefusal}
use Rattle.mufom_plan.specs.PlanText.{plan_of_text}
use Rattle.mufom_meaning.specs.Absolute.{no_regions}
use Rattle.mufom_planned.specs.PlanLaws.{HaveShortRegions}
use Rattle.mufom_groups.specs.Work.{gives}
use Rattle.mufom_task.specs.Reading.{plan_by, plan_in}
use Rattle.mufom_bounds.specs.PlanBounds.{IsBoundedPlan}
use Rattle.mufom_bounds.proofs.PlanBytes.{text-bounded}
use Rattle.mufom_bounds.proofs.PlanSizes.{text-within}

-- what holds of the plan without regions, and of each that a text of bytes states, holds of the plan of a task
plan-has : (Has : Plan → Type 0) → Has no_regions → ((text : List ℕ) (plan : Plan) → AreBytes text → plan_of_text text ≡ Ok plan → Has plan)
    → (files : List NamedFile) (name : Option (List ℕ)) (plan : Plan) → HoldBytes files → plan_in files name (gives plan) → Has plan
plan-has Has none stated files None plan bytes is = subst Has (sym is) none
plan-has Has none stated files (Some name) plan bytes (content, there, is) = by (plan_of_text content) refl is where
  by : (r : Result Plan PlanRefusal) → plan_of_text content ≡ r → plan_by r (gives plan) → Has plan
  by (Ok own) e is = subst Has (sym is.1) (stated content own (bytes name content there) e)
  by (Err r) e is = absurd is

pub plan-bounded : (files : List NamedFile) (name : Option (List ℕ)) (plan : Plan) → HoldBytes files → plan_in files name (gives plan)
    → IsBoundedPlan plan
plan-bounded files name plan bytes is = plan-has IsBoundedPlan (record { symbols = tt; regions = tt }) text-bounded files name plan bytes is

pub plan-short : (files : List NamedFile) (name : Option (List ℕ)) (plan : Plan) → HoldBytes files → plan_in files name (gives plan)
    → HaveShortRegions plan
plan-short files name plan bytes is =
    plan-has HaveShortRegions (omega arith) (λ text own are stated. (text-within text own stated).region_names) files name plan bytes is
