-- The results of reading the inputs of a task: its plan and then the modules of its files, or its text.
use Rattle.std.specs.Prelude.{◌≡◌, ◌≢◌, ◌⊎◌, ℕ, ◌<◌, List, [], ◌∷◌, ◌++◌, length, Option, Some, Result, Err, IfSome, IsSome, true}
use Rattle.mufom_host.specs.World.{NamedFile, InputFails}
use Rattle.mufom_module.specs.declared.module.Parts.{Parts}
use Rattle.mufom_plan.specs.declared.plan.Plan.{Plan}
use Rattle.mufom_plan.specs.declared.refusal.PlanRefusal.{PlanRefusal}
use Rattle.mufom_plan.specs.declared.refusal.PlanRefusal.TheVariants as plan_refusal
use Rattle.mufom_task.specs.declared.task.Inputs.{Inputs}
use Rattle.mufom_groups.specs.Work.{Work, stops, ◌>>=◌, sure}
use Rattle.mufom_outcome.specs.declared.outcome.Input.TheVariants as input
use Rattle.mufom_outcome.specs.declared.outcome.Outcome.{Outcome}
use Rattle.mufom_outcome.specs.declared.outcome.Outcome.TheVariants as outcome
use Rattle.mufom_outcome.specs.declared.outcome.Refusal.TheVariants as refusal
use Rattle.mufom_outcome.specs.Stop.{Stop, past_limit, plan_refused}
use Rattle.mufom_task.specs.Reading.{modules_in, plan_in, text_in}
use Rattle.mufom_task.specs.Calls.{Call}
use Rattle.mufom_task.specs.FilesRead.{FileHas}
use Rattle.mufom_task.specs.Ends.{IsInputReached, IsStopped}

-- the greatest length of a plan, in bytes
abbrev pub most_plan_bytes : ℕ
most_plan_bytes = 65536

-- the bytes are the whole file, or a prefix of it that is longer than the limit
abbrev pub IsEnoughOf : ℕ → List ℕ → List ℕ → Type 0
IsEnoughOf limit all bytes = (all ≡ bytes) ⊎ ((limit < length bytes) × ((rest : List ℕ) × (all ≡ bytes ++ rest)))

-- the plan, and the modules of the files
abbrev pub inputs_in : List NamedFile → Inputs → Work Stop (Plan × List Parts)
inputs_in files inputs = do
  plan ← plan_in files inputs.plan
  ms ← modules_in files inputs
  sure (plan, ms)

-- the outcome for bytes that are not a plan, or out of memory
abbrev pub IsPlanAnswer : Result Plan PlanRefusal → Outcome → Type 0
IsPlanAnswer plan (outcome.Refused (refusal.Plan r)) = (plan ≡ Err r) × (r ≢ plan_refusal.NoMemory)
IsPlanAnswer plan outcome.NoMemory = Unit {0}
IsPlanAnswer plan _ = ⊥

-- Why the plan with this name could not be read; there may be no plan.
abbrev pub PlanStops : Option (List ℕ) → Call → Outcome → Type 0
PlanStops name call (outcome.Refused (refusal.Plan r)) =
    IsSome name × (r ≢ plan_refusal.NoMemory) × IfSome call.old.files (λ files. plan_in files name (stops (plan_refused r)))
PlanStops name call (outcome.ReadFault input.Plan) = IsSome name × InputFails call.before call.now
PlanStops name call outcome.NoMemory = Unit {0}
PlanStops name call _ = ⊥

-- If the outcome is that the plan with this name is refused, these are the bytes of its file, unless there are too many.
abbrev pub KeepsPlan : Option (List ℕ) → Option (List NamedFile) → List ℕ → Outcome → Type 0
KeepsPlan plan files text (outcome.Refused (refusal.Plan r)) =
    (name : List ℕ) → plan ≡ Some name → FileHas name files (λ all. (all ≡ text) ⊎ (r ≡ plan_refusal.TooLong))
KeepsPlan plan files text _ = Unit {0}

-- The outcome names the plan only if there is one.
abbrev pub NamesPlan : Option (List ℕ) → Outcome → Type 0
NamesPlan plan (outcome.Refused (refusal.Plan r)) = IsSome plan
NamesPlan plan (outcome.ReadFault input.Plan) = IsSome plan
NamesPlan plan _ = Unit {0}

-- Why inputs could not all be read; `reading` is the work of reading them.
abbrev pub ReadingStops : {A : Type 0} → (List NamedFile → Work Stop A) → Inputs → Call → Outcome → Type 0
ReadingStops reading inputs call (outcome.Refused r) = IsStopped true reading call.old.files (outcome.Refused r)
ReadingStops reading inputs call (outcome.ReadFault at) = InputFails call.before call.now × IsInputReached call.old.files inputs at
ReadingStops reading inputs call outcome.NoMemory = Unit {0}
ReadingStops reading inputs call _ = ⊥

-- Why the plan and the modules of the files could not all be read.
abbrev pub InputsStop : Inputs → Call → Outcome → Type 0
InputsStop inputs call result = ReadingStops (λ files. inputs_in files inputs) inputs call result

-- Why the text, the first of the files, could not be read or was too long.
abbrev pub TextStop : Inputs → Call → Outcome → Type 0
TextStop inputs call result = ReadingStops (λ files. text_in files inputs.files) inputs call result

-- The same of a text with this name.
abbrev pub TextStops : List ℕ → Call → Outcome → Type 0
TextStops name call (outcome.Refused (refusal.InputLimit n)) =
    (n ≡ 0) × IfSome call.old.files (λ files. text_in files (name ∷ []) (stops (past_limit 0)))
TextStops name call (outcome.ReadFault (input.File n)) = (n ≡ 0) × InputFails call.before call.now
TextStops name call outcome.NoMemory = Unit {0}
TextStops name call _ = ⊥
