-- A call: the outside world before and after it, and the inputs that it opens.
use Rattle.std.specs.Prelude.{◌≡◌, ℕ, ◌+◌, ◌≤◌, List, length, take, OnSome, option_to_list}
use Rattle.mufom_host.specs.World.{Meaning, Faults, GrowsBy}
use Rattle.mufom_outcome.specs.declared.outcome.Input.{Input}
use Rattle.mufom_outcome.specs.declared.outcome.Input.TheVariants as input
use Rattle.mufom_outcome.specs.declared.outcome.Outcome.{Outcome}
use Rattle.mufom_outcome.specs.declared.outcome.Outcome.TheVariants as outcome
use Rattle.mufom_outcome.specs.declared.outcome.Refusal.TheVariants as refusal
use Rattle.mufom_task.specs.declared.task.Inputs.{Inputs}
use Rattle.mufom_task.specs.Tasks.{input_names}

-- The outside world before and after a call, and the numbers of failed calls of the host before and after it.
pub record Call : Type 0 where
  pub old : Meaning
  pub new : Meaning
  pub before : Faults
  pub now : Faults

-- the call that changed one world into another
abbrev pub call_of : {W : Type 0} → (W → Meaning) → (W → Faults) → W → W → Call
call_of meaning faults old new = record { old = meaning old; new = meaning new; before = faults old; now = faults new }

-- the number of inputs that are read before this one
abbrev pub input_place : Inputs → Input → ℕ
input_place inputs input.Plan = 0
input_place inputs (input.File n) = length (option_to_list inputs.plan) + n

-- The number of inputs that are opened: up to the one that the outcome names, otherwise all; any number if memory ran out.
abbrev pub IsOpenedCount : Inputs → Outcome → ℕ → Type 0
IsOpenedCount inputs (outcome.Refused (refusal.Plan r)) count = count ≡ input_place inputs input.Plan + 1
IsOpenedCount inputs (outcome.Refused (refusal.Read n r)) count = count ≡ input_place inputs (input.File n) + 1
IsOpenedCount inputs (outcome.Refused (refusal.InputLimit n)) count = count ≡ input_place inputs (input.File n) + 1
IsOpenedCount inputs (outcome.ReadFault at) count = count ≡ input_place inputs at + 1
IsOpenedCount inputs outcome.NoMemory count = Unit {0}
IsOpenedCount inputs _ count = count ≡ length (input_names inputs)

-- the first of the inputs are opened, in their order
pub record OpensInputs (inputs : Inputs) (call : Call) (result : Outcome) : Type 0 where
  pub count : ℕ
  pub exact : IsOpenedCount inputs result count
  pub within : count ≤ length (input_names inputs)
  pub opened : OnSome call.new.opened (GrowsBy call.old.opened call.new.opened (take count (input_names inputs)))

-- no count of failed calls falls
pub record NoneFalls (call : Call) : Type 0 where
  pub reads : call.before.reads ≤ call.now.reads
  pub writes : call.before.writes ≤ call.now.writes
  pub complaints : call.before.complaints ≤ call.now.complaints
