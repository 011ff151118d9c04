-- The absolute module of a location by a plan with symbols and copies is within the bounds of its parts, and weighs less than 2^32.
use Rattle.std.proofs.Common.{◌≡◌, ◌^◌, ◌<◌, ◌≤◌, List, [], ◌∷◌, None, arith}
use Rattle.std.specs.List.{AllByRecursion}
use Rattle.mufom_module.specs.declared.module.Parts.{Parts}
use Rattle.mufom_module.specs.Written.{weight}
use Rattle.mufom_plan.specs.declared.plan.Plan.{Plan}
use Rattle.mufom_meaning.specs.declared.located.LocatedParts.{LocatedParts}
use Rattle.mufom_meaning.specs.Absolute.{absolute_of}
use Rattle.mufom_meaning.specs.LinkAnswer.{link_answer}
use Rattle.mufom_meaning.specs.LocateAnswer.{locate_answer}
use Rattle.mufom_meaning.specs.Staging.{AreValid}
use Rattle.mufom_meaning.specs.StagingLaws.{total_weight}
use Rattle.mufom_planned.specs.Layout.{layout}
use Rattle.mufom_planned.specs.Numbers.{symbol_number}
use Rattle.mufom_planned.specs.PlanLaws.{HasSoundSymbols, HaveShortRegions}
use Rattle.mufom_planned.specs.PlanSymbols.{with_names, with_symbols}
use Rattle.mufom_planned.specs.Planned.{HasLocation, IsPlanned, copied_answer}
use Rattle.mufom_planned.proofs.Absolute.{planned_absolute_weighs}
use Rattle.mufom_planned.proofs.Light.{most_plan_weight-bound, planned_few_loaded}
use Rattle.mufom_planned.proofs.Locatable.{copied_none, planned_is_locatable}
use Rattle.mufom_planned.proofs.SoundLocation.{sound}
use Rattle.mufom_bounds.specs.Bounded.{IsBounded}
use Rattle.mufom_bounds.specs.PlanBounds.{IsBoundedPlan, IsBoundedRegion}
use Rattle.mufom_bounds.proofs.AbsoluteBounded.{list-heavy, sound-bounded}
use Rattle.mufom_bounds.proofs.LocatedCopies.{planned-bytes, planned-made}
use Rattle.mufom_bounds.proofs.SymbolsBounded.{followed-bounded}

copies-bounded : (ms : List Parts) (plan : Plan) (r : LocatedParts) → AreValid ms → AllByRecursion IsBounded ms
    → AllByRecursion IsBoundedRegion plan.regions → link_answer ms ≡ None → locate_answer ms plan ≡ None → copied_answer ms plan ≡ None
    → HasLocation ms plan r → IsBounded (absolute_of r)
copies-bounded [] plan r v are regions links locates answer h = let none = h.first in absurd cc
copies-bounded (m ∷ more) plan r v are regions links locates answer h =
    sound-bounded m more plan r v are (sound m more plan r v links locates answer h) (record {
      sections = planned-made m more plan r v are links locates answer h regions;
      bytes = planned-bytes m more plan r v are links locates answer h;
    })

pub planned-bounded : (ms : List Parts) (plan : Plan) (r : LocatedParts) → AreValid ms → AllByRecursion IsBounded ms → HasSoundSymbols plan
    → IsBoundedPlan plan → IsPlanned ms plan r → IsBounded (absolute_of r)
planned-bounded ms plan r v are symbols bounded h =
    let ready = planned_is_locatable ms plan v symbols h.links h.locates in
    let all = followed-bounded ms (λ symbol. symbol_number (layout (with_names ms plan) plan) symbol.value) plan.symbols v are bounded.symbols in
    copies-bounded (with_symbols ms plan) plan r ready.valid all bounded.regions ready.links ready.locates (copied_none ms plan h.locates) h.located

-- the limit is what the modules of a run can weigh, with the name of a module
pub planned-light : (ms : List Parts) (plan : Plan) (r : LocatedParts) → AreValid ms → HasSoundSymbols plan → HaveShortRegions plan
    → total_weight ms ≤ 671154176 → IsPlanned ms plan r → weight (absolute_of r) < 2 ^ 32
planned-light ms plan r v symbols short light h =
    let most = planned_absolute_weighs ms plan r v symbols h in
    let heavy = list-heavy ms in
    let few = planned_few_loaded ms plan v symbols h.links h.locates in
    let extra = most_plan_weight-bound plan symbols short in
    omega (arith, most, heavy, few, extra, light)
