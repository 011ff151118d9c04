use Rattle.std.proofs.Common.{◌≡◌, ◌-◌}
use Rattle.mufom_make.specs.Generated.{modules_from}
use Rattle.mufom_make.proofs.linking.modules_between.Given as goal

abbrev pub invariant-loop-number : goal.invariant-loop-number
invariant-loop-number l = l.modules.items ≡ modules_from l.count (l.number - l.first) l.first
