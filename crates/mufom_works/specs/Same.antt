-- Lists of modules that mean the same by every plan.
use Rattle.std.specs.Prelude.{List}
use Rattle.mufom_module.specs.declared.module.Parts.{Parts}
use Rattle.mufom_plan.specs.declared.plan.Plan.{Plan}
use Rattle.mufom_meaning.specs.StagingLaws.{MeansTheSame}
use Rattle.mufom_planned.specs.PlanLaws.{AreLocatedAlike, HasSoundSymbols}

-- Two lists mean the same, and are located alike by each plan whose symbols are sound.
pub record AreSame (ms leaves : List Parts) : Type 0 where
  pub means : MeansTheSame ms leaves
  pub alike : (plan : Plan) → HasSoundSymbols plan → AreLocatedAlike ms leaves plan
