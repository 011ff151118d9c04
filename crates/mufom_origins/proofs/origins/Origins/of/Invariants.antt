use Rattle.std.proofs.Common.{◌≡◌, take}
use Rattle.mufom_origins.specs.Origins.{numbered, origins_of}
use Rattle.mufom_origins.proofs.origins.Origins.of.Given as goal

abbrev pub invariant-loop-position : goal.invariant-loop-position
invariant-loop-position l = l.origins.items ≡ origins_of (numbered (take l.position l.modules))
