use Rattle.std.proofs.Common.{◌≡◌, ℕ, ◌<◌}
use Rattle.std.specs.Prelude.{slice_get, Some}
use Rattle.mufom_image_bytes.specs.declared.chunk.Chunk.{Chunk}
use Rattle.mufom_image_bytes.specs.Shared.{HasByte}
use Rattle.mufom_image_bytes.proofs.doubles.address_of.Given as goal

abbrev pub invariant-loop-chunk : goal.invariant-loop-chunk
invariant-loop-chunk l = (k : ℕ) (c : Chunk) → k < l.chunk-index → slice_get l.chunks k ≡ Some c → ¬ HasByte c l.number
