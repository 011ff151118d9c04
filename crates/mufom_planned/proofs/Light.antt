-- Bounds for a run: what a list that is located by a plan loads, and what the symbols and copies of a plan add to its weight.
use Rattle.std.proofs.Common.{◌≡◌, ◌<◌, ◌≤◌, List, None, refl, arith}
use Rattle.mufom_numbers.specs.declared.limits.TheConstants.{MOST_IMAGE_BYTES}
use Rattle.mufom_module.specs.declared.module.Parts.{Parts}
use Rattle.mufom_plan.specs.declared.plan.Plan.{Plan}
use Rattle.mufom_meaning.specs.Counts.{loaded_total}
use Rattle.mufom_meaning.specs.Facts.{image_limit}
use Rattle.mufom_meaning.specs.LinkAnswer.{link_answer}
use Rattle.mufom_meaning.specs.Staging.{AreValid}
use Rattle.mufom_meaning.proofs.values.ValueLaws.{no_fact_before}
use Rattle.mufom_planned.specs.Layout.{layout}
use Rattle.mufom_planned.specs.Numbers.{symbol_number}
use Rattle.mufom_planned.specs.PlanSymbols.{with_names, with_symbols}
use Rattle.mufom_planned.specs.Planned.{planned_answer}
use Rattle.mufom_planned.specs.PlanLaws.{HasSoundSymbols, HaveShortRegions, most_plan_weight}
use Rattle.mufom_planned.proofs.Locatable.{planned_is_locatable}
use Rattle.mufom_planned.proofs.Weight.{followed-heavier}

-- a list that can be located by a plan loads no more bytes than an image has
pub planned_few_loaded : (ms : List Parts) (plan : Plan) → AreValid ms → HasSoundSymbols plan → link_answer ms ≡ None → planned_answer ms plan ≡ None
    → loaded_total ms ≤ MOST_IMAGE_BYTES
planned_few_loaded ms plan v symbols links answer =
    let ready = planned_is_locatable ms plan v symbols links answer in
    let all = with_symbols ms plan in
    let within : ¬ (MOST_IMAGE_BYTES < loaded_total all) = λ past. no_fact_before all plan ready.locates (image_limit (loaded_total all)) (refl, past) in
    let same = (followed-heavier (λ symbol. symbol_number (layout (with_names ms plan) plan) symbol.value) plan.symbols ms).loads in
    omega (arith, within, same)

-- symbols and copies add less than 8,000,000 to a weight
pub most_plan_weight-bound : (plan : Plan) → HasSoundSymbols plan → HaveShortRegions plan → most_plan_weight plan ≤ 7667868
most_plan_weight-bound plan symbols regions = let short = symbols.short in omega (arith, short, regions)
