use Rattle.std.proofs.Common.{◌≡◌, ◌+◌, ◌<◌, drop}
use Rattle.mufom_image_bytes.specs.Spread.{neighbours, first_run_length}
use Rattle.mufom_image_bytes.proofs.runs.run_length.Given as goal

abbrev pub invariant-loop-chunk : goal.invariant-loop-chunk
invariant-loop-chunk l = record {
  count : l.count ≡ l.chunk-index;
  rest : 0 < l.count → first_run_length l.chunks ≡ l.count + neighbours l.end (drop l.chunk-index l.chunks);
}
