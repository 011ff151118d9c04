use Rattle.std.proofs.Common.{◌≡◌, take}
use Rattle.mufom_origins.specs.Origins.{AreEnds, counts_of}
use Rattle.mufom_origins.specs.Places.{capped}
use Rattle.mufom_origins.proofs.PlaceLaws.{total}
use Rattle.mufom_origins.proofs.origins.ends_of.Given as goal

abbrev pub invariant-loop-origin : goal.invariant-loop-origin
invariant-loop-origin l = record {
  ends : AreEnds l.kind (take l.origin-index l.modules) l.ends.items;
  total : l.total ≡ capped (total (counts_of l.kind (take l.origin-index l.modules)));
}
