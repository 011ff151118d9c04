use Rattle.std.proofs.Common.{ℕ, List, subst, ◌∙◌}
use Rattle.mufom_outcome.specs.Complaint.{complaint}
use Rattle.mufom_outcome.specs.declared.outcome.Outcome.TheVariants as outcome
use Rattle.mufom_works.specs.Run.{AddsErrorLine}
use Rattle.mufom_task.specs.Calls.{call_of}
use Rattle.mufom_command.proofs.error_output.print_error_line.Goals as goal

pub returns-in-Ok-fault_line-clause-line : goal.returns-in-Ok-fault_line-clause-line
returns-in-Ok-fault_line-clause-line g c =
    let call = call_of g.H.World.meaning g.H.World.faults c.args.host.now c.print_line-in-Ok-fault_line.new.host in
    let line = c.as_bytes-in-Ok-fault_line.ensures.value ∙ c.in-Ok-fault_line.ensures in
    let added : AddsErrorLine call (complaint (outcome.ReadFault c.in-ReadFault.input)) =
    subst (λ (t : List ℕ). AddsErrorLine call t) line c.print_line-in-Ok-fault_line.ensures.added in
    rw c.in-ReadFault.is added
