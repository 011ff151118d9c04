use Rattle.std.proofs.Common.{◌≡◌, map, take}
use Rattle.std.specs.Prelude.{◌%◌, ◌^◌}
use Rattle.mufom_image_bytes.proofs.loads.first_counters.Given as goal

abbrev pub invariant-loop-base : goal.invariant-loop-base
invariant-loop-base l = l.counters.items ≡ map (λ base. base % 2 ^ l.layout.width) (take l.base-index l.layout.bases.now)
