use Rattle.std.proofs.Common.{◌≡◌, ◌++◌, map, length}
use Rattle.mufom_numbers.specs.declared.limits.TheConstants.{MOST_STRING_BYTES}
use Rattle.mufom_loads.specs.declared.load.Item.TheVariants.{Literal}
use Rattle.mufom_loads.specs.declared.load.Load.TheVariants.{One}
use Rattle.mufom_meaning.specs.Absolute.{chunks}
use Rattle.mufom_located.proofs.loads.push_literals.Given as goal

abbrev pub invariant-loop-rest : goal.invariant-loop-rest
invariant-loop-rest l =
    l.loads ++ map (λ chunk. One (Literal chunk)) (chunks MOST_STRING_BYTES l.rest) ≡ l.fn.loads
    ++ map (λ chunk. One (Literal chunk)) (chunks MOST_STRING_BYTES l.fn.bytes)

abbrev pub decreases-loop-rest : goal.decreases-loop-rest
decreases-loop-rest l = length l.rest
