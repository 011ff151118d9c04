-- What every plan meets whose sections can be placed.
use Rattle.std.specs.Prelude.{◌<◌, ◌^◌, ℕ, length}
use Rattle.mufom_plan.specs.declared.plan.Plan.{Plan}
use Rattle.mufom_plan.specs.Names.{AreDistinctNames, listed_names}
use Rattle.mufom_plan.specs.Commons.{HasAtMostOneCommon}

-- the conditions that every plan meets once it is read: no section name occurs twice, fewer than 2^32 regions, at most one of them for the commons
pub record IsSoundPlan (plan : Plan) : Type 0 where
  pub names : AreDistinctNames (listed_names plan.regions)
  pub regions : length plan.regions < 2 ^ 32
  pub common : HasAtMostOneCommon plan.regions
