use Rattle.std.proofs.Common.{◌≡◌, take}
use Rattle.mufom_link.proofs.linking.copy_modules.Given as goal

abbrev pub invariant-loop-module : goal.invariant-loop-module
invariant-loop-module l = l.copies.items ≡ take l.module-index l.list
