use Rattle.std.proofs.Common.{◌≡◌, take, length}
use Rattle.mufom_select.specs.Choice.{choice, with_members}
use Rattle.mufom_prune.proofs.reach.mark_all.Given as goal

abbrev pub invariant-loop-entry : goal.invariant-loop-entry
invariant-loop-entry l =
    (choice l.marks l.order ≡ with_members (choice l.fn.marks l.fn.order) (take l.entry-index l.entries))
    × (length l.marks ≡ length l.fn.marks)
