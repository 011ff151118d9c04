use Rattle.std.proofs.Common.{◌≡◌, ◌++◌}
use Rattle.mufom_meaning.specs.Staging.{AreValid}
use Rattle.mufom_task.proofs.inputs.add_modules.Given as goal

-- the modules so far
abbrev pub invariant-loop-entry : goal.invariant-loop-entry
invariant-loop-entry l = (l.all ≡ l.fn.all ++ l.yielded) × AreValid l.yielded
