-- Laws about the bounds of what is read, linked and located.
use Rattle.std.specs.Prelude.{◌≡◌, ℕ, ◌<◌, ◌≤◌, ◌^◌, List, Ok}
use Rattle.std.specs.List.{AllByRecursion}
use Rattle.mufom_numbers.specs.Spelling.{AreBytes}
use Rattle.mufom_records.specs.declared.options.ReadOptions.{ReadOptions}
use Rattle.mufom_module.specs.declared.module.Parts.{Parts}
use Rattle.mufom_module.specs.Written.{weight}
use Rattle.mufom_judging.specs.Judging.{IsModule}
use Rattle.mufom_plan.specs.declared.plan.Plan.{Plan}
use Rattle.mufom_plan.specs.PlanText.{plan_of_text}
use Rattle.mufom_meaning.specs.declared.located.LocatedParts.{LocatedParts}
use Rattle.mufom_meaning.specs.Absolute.{absolute_of}
use Rattle.mufom_meaning.specs.Joined.{IsJoined}
use Rattle.mufom_meaning.specs.Location.{IsLocation}
use Rattle.mufom_meaning.specs.Staging.{AreValid}
use Rattle.mufom_meaning.specs.StagingLaws.{total_weight}
use Rattle.mufom_planned.specs.PlanLaws.{HasSoundSymbols, HaveShortRegions}
use Rattle.mufom_planned.specs.Planned.{IsPlanned}
use Rattle.mufom_bounds.specs.Bounded.{IsBounded}
use Rattle.mufom_bounds.specs.PlanBounds.{IsBoundedPlan, IsWithin}

-- The module of a file that consists of bytes is within the bounds.
abbrev pub FilesAreBounded : Type 0
FilesAreBounded = (options : ReadOptions) (bytes : List ℕ) (m : Parts) → AreBytes bytes → IsModule options bytes m → IsBounded m

-- A link of modules within the bounds is within them too, if its name consists of bytes.
abbrev pub LinksAreBounded : Type 0
LinksAreBounded = (M : Parts) (ms : List Parts) (name : List ℕ) → IsJoined M ms name → AreBytes name → AllByRecursion IsBounded ms → IsBounded M

-- The absolute module of a location of modules within the bounds is within them too.
abbrev pub AbsolutesAreBounded : Type 0
AbsolutesAreBounded = (ms : List Parts) (plan : Plan) (r : LocatedParts) → AreValid ms → AllByRecursion IsBounded ms → IsLocation ms plan r
    → IsBounded (absolute_of r)

-- It weighs less than 2^32 if the modules weigh at most what those of a run, with the name of a module and the symbols of a plan, can weigh.
abbrev pub AbsolutesAreLight : Type 0
AbsolutesAreLight = (ms : List Parts) (plan : Plan) (r : LocatedParts) → AreValid ms → total_weight ms ≤ 673317020 → IsLocation ms plan r
    → weight (absolute_of r) < 2 ^ 32

-- So is the absolute module of their location by a plan with symbols and copies, if the plan is within its bounds.
abbrev pub PlannedAbsolutesAreBounded : Type 0
PlannedAbsolutesAreBounded = (ms : List Parts) (plan : Plan) (r : LocatedParts) → AreValid ms → AllByRecursion IsBounded ms → HasSoundSymbols plan
    → IsBoundedPlan plan → IsPlanned ms plan r → IsBounded (absolute_of r)

-- It weighs less than 2^32 if the names of the plan are no longer than the text of a plan, and the modules weigh at most what those of a run, with
-- the name of a module, can weigh.
abbrev pub PlannedAbsolutesAreLight : Type 0
PlannedAbsolutesAreLight = (ms : List Parts) (plan : Plan) (r : LocatedParts) → AreValid ms → HasSoundSymbols plan → HaveShortRegions plan
    → total_weight ms ≤ 671154176 → IsPlanned ms plan r → weight (absolute_of r) < 2 ^ 32

-- A plan that is read from a text has at most 65,536 regions. The names of its regions have at most 65,536 bytes, one more counted for each, and so
-- have those of its symbols.
abbrev pub PlansAreBounded : Type 0
PlansAreBounded = (bytes : List ℕ) (plan : Plan) → plan_of_text bytes ≡ Ok plan → IsWithin 65536 plan

-- The names of the symbols and regions of such a plan consist of bytes if the text does, and the regions end below 2^64.
abbrev pub PlansNameBytes : Type 0
PlansNameBytes = (bytes : List ℕ) (plan : Plan) → AreBytes bytes → plan_of_text bytes ≡ Ok plan → IsBoundedPlan plan
