use Rattle.std.proofs.Common.{◌≡◌, take}
use Rattle.mufom_explain_modules.proofs.flat.copies.Given as goal

abbrev pub invariant-loop-module : goal.invariant-loop-module
invariant-loop-module l = l.copies ≡ take l.module-index l.modules
