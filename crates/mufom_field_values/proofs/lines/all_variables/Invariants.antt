use Rattle.std.proofs.Common.{◌≡◌}
use Rattle.mufom_field_values.proofs.lines.all_variables.Given as goal

-- the variables so far
abbrev pub invariant-loop-variable : goal.invariant-loop-variable
invariant-loop-variable l = l.all.items ≡ l.yielded
