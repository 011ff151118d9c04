use Rattle.std.proofs.Common.{◌≡◌, [], take}
use Rattle.mufom_select.specs.Choice.{with_providers}
use Rattle.mufom_select.proofs.providers.providers.Given as goal

abbrev pub invariant-loop-position : goal.invariant-loop-position
invariant-loop-position l = l.index ≡ with_providers [] 0 (take l.position l.members)
