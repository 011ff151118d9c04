use Rattle.std.proofs.Common.{None, Option, Some, Bool, true, false, cond, [], refl, rules, subst, sym, ◌≡◌}
use Rattle.mufom_works.specs.HasDetails.{IsTaskDetail, inputs_read}
use Rattle.mufom_explain_text.specs.Told.{told_text}
use Rattle.mufom_task.specs.InputsRead.{NamesPlan}
use Rattle.mufom_task.specs.Tasks.{inputs_of, reads_files}
use Rattle.mufom_task.specs.declared.task.Inputs.{Inputs}
use Rattle.mufom_task.specs.declared.task.Task.{Task}
use Rattle.mufom_explain_text.proofs.details.task_details.Goals as goal

-- the inputs of a task that reads files are its inputs
read-named : (t : Task) (inputs : Inputs) → inputs_read t ≡ Some inputs → inputs_of t ≡ inputs
read-named t inputs is = by (reads_files t) is where
  by : (reads : Bool) → cond reads (Some (inputs_of t)) None ≡ Some inputs → inputs_of t ≡ inputs
  by true same = cc
  by false never = absurd cc

pub input_details-requires : goal.input_details-requires
input_details-requires c =
    let is : inputs_read c.args.task.now ≡ Some c.in-Some.inputs.now = search (rules, c.inputs_of.ensures, c.in-Some.is) in
    subst (λ (i : Inputs). NamesPlan i.plan c.args.answer.now) (read-named c.args.task.now c.in-Some.inputs.now is) c.requires

pub returns-in-Some : goal.returns-in-Some
returns-in-Some c =
    let is : inputs_read c.args.task.now ≡ Some c.in-Some.inputs.now = search (rules, c.inputs_of.ensures, c.in-Some.is) in
    subst (λ (o : Option Inputs). IsTaskDetail o c.args.cause c.args.answer.now (told_text c.input_details.result)) (sym is) c.input_details.ensures

pub returns-in-None : goal.returns-in-None
returns-in-None c =
    let is : inputs_read c.args.task.now ≡ None = search (rules, c.inputs_of.ensures, c.in-None.is) in
    subst (λ (o : Option Inputs). IsTaskDetail o c.args.cause c.args.answer.now []) (sym is) refl
