use Rattle.std.proofs.Common.{◌≤◌, length}
use Rattle.mufom_image_values.proofs.components.Walk.step.Given as goal

-- an expression has few tokens
abbrev pub invariant-loop-at : goal.invariant-loop-at
invariant-loop-at l = length l.tokens ≤ 255
