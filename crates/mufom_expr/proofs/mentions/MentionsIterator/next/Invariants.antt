use Rattle.std.proofs.Common.{◌≡◌, length}
use Rattle.mufom_expr.specs.Mentions.{variables_in}
use Rattle.mufom_expr.proofs.mentions.MentionsIterator.next.Given as goal

-- no variable was passed over
abbrev pub invariant-loop-first : goal.invariant-loop-first
invariant-loop-first l = variables_in l.self-inside.rest.now ≡ variables_in l.initial.self-inside.rest.now

abbrev pub decreases-loop-first : goal.decreases-loop-first
decreases-loop-first l = length l.self-inside.rest.now
