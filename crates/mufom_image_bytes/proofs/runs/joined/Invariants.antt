use Rattle.std.proofs.Common.{◌≡◌, take}
use Rattle.mufom_image_bytes.specs.Spread.{bytes_of_chunks}
use Rattle.mufom_image_bytes.proofs.runs.joined.Given as goal

abbrev pub invariant-loop-chunk : goal.invariant-loop-chunk
invariant-loop-chunk l = l.all.items ≡ bytes_of_chunks l.bytes (take l.chunk-index l.chunks)
