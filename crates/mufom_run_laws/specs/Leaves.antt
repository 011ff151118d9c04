-- Laws about lists that earlier runs linked in stages, whatever the names of the links.
use Rattle.std.specs.Prelude.{◌≡◌, ◌≤◌, List, None}
use Rattle.mufom_module.specs.declared.module.Parts.{Parts}
use Rattle.mufom_plan.specs.declared.plan.Plan.{Plan}
use Rattle.mufom_meaning.specs.LinkAnswer.{link_answer}
use Rattle.mufom_meaning.specs.StagingLaws.{total_weight}
use Rattle.mufom_stages.specs.Stages.{CameByLinks, named_as}
use Rattle.mufom_planned.specs.PlanLaws.{HasSoundSymbols}
use Rattle.mufom_groups.specs.Groups.{most_weight}
use Rattle.mufom_run_laws.specs.RunLaws.{CameByStages, PutOutAlike}

-- A list that came by links and can be linked has the same outputs as the list that the links began with, under its own name, by each plan whose symbols
-- are sound. The list weighs no more than the modules of a run can weigh.
abbrev pub LinksMakeNoDifference : Type 0
LinksMakeNoDifference =
    (plan : Plan) (ms leaves : List Parts) → HasSoundSymbols plan → total_weight ms ≤ most_weight → link_answer ms ≡ None → CameByLinks ms leaves
    → PutOutAlike plan ms (named_as ms leaves)

-- A list that came by stages with one descriptor, distinct names and kept names came by links, and its leaves have its name.
abbrev pub StagesCameByLinks : Type 0
StagesCameByLinks = (ms leaves : List Parts) → CameByStages ms leaves → CameByLinks ms leaves × (named_as ms leaves ≡ leaves)
