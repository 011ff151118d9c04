use Rattle.std.proofs.Common.{◌≡◌, take}
use Rattle.mufom_locating.specs.Linked.{named_publics}
use Rattle.mufom_locating.proofs.symbols.symbol_publics.Given as goal

abbrev pub invariant-loop-place : goal.invariant-loop-place
invariant-loop-place l = l.publics ≡ named_publics (take l.place l.symbols) (take l.place l.values)
