-- The program can hold the absolute module of a location by a plan.
use Rattle.std.proofs.Common.{◌<◌, ◌^◌, List, Option, Some, None}
use Rattle.mufom_module.specs.declared.module.Parts.{Parts}
use Rattle.mufom_module.specs.Written.{weight}
use Rattle.mufom_plan.specs.declared.plan.Plan.{Plan}
use Rattle.mufom_meaning.specs.declared.located.LocatedParts.{LocatedParts}
use Rattle.mufom_meaning.specs.Absolute.{absolute_of}
use Rattle.mufom_meaning.specs.Staging.{AreValid}
use Rattle.mufom_planned.specs.PlanLaws.{HasSoundSymbols, HaveShortRegions}
use Rattle.mufom_planned.specs.Planned.{IsPlanned, PlanFact, planned_answer}
use Rattle.mufom_planned.proofs.Absolute.{planned_absolute_is_valid}
use Rattle.mufom_groups.specs.Work.{gives}
use Rattle.mufom_works.specs.Works.{IsHeld, located, located_unless}
use Rattle.mufom_bounds.specs.PlanBounds.{IsBoundedPlan}
use Rattle.mufom_bounds.proofs.PlannedBounded.{planned-bounded, planned-light}
use Rattle.mufom_run_laws.proofs.BoundedMade.{bounded-held}
use Rattle.mufom_run_laws.proofs.KeptBounded.{AreKept}

module _ (ms : List Parts) (plan : Plan) (r : LocatedParts) (symbols : HasSoundSymbols plan) (short : HaveShortRegions plan)
    (bounded : IsBoundedPlan plan) (valid : AreValid ms) (kept : AreKept ms) where
  planned-held : IsPlanned ms plan r → IsHeld (absolute_of r)
  planned-held is =
      let light : weight (absolute_of r) < 2 ^ 32 = planned-light ms plan r valid symbols short kept.light is in
      bounded-held (absolute_of r) (planned_absolute_is_valid ms plan r valid symbols short is light)
      (planned-bounded ms plan r valid kept.bounded symbols bounded is)

  unless-held : (o : Option PlanFact) → located_unless o plan ms (gives r) → IsHeld (absolute_of r)
  unless-held None is = planned-held is
  unless-held (Some f) is = absurd is

  pub absolute-held : located plan ms (gives r) → IsHeld (absolute_of r)
  absolute-held is = unless-held (planned_answer ms plan) is
