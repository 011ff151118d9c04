use Rattle.std.proofs.Common.{◌≡◌, ◌+◌, ◌++◌, length}
use Rattle.mufom_image_bytes.specs.Loaded.{loaded_cells, IsTiled}
use Rattle.mufom_titxt.specs.Reading.{open_cells, open_fault, hits_after}
use Rattle.mufom_titxt.proofs.store.Store.place_each.Given as goal

abbrev pub invariant-loop-rest : goal.invariant-loop-rest
invariant-loop-rest l = record {
  tiled : IsTiled l.self.loaded;
  watched : l.self.watched ≡ l.fn.self.watched;
  cells : loaded_cells l.self.loaded ++ open_cells l.modulus l.at l.rest ≡ loaded_cells l.fn.self.loaded ++ open_cells l.modulus l.from l.bytes;
  hits : hits_after l.fn.self.watched l.self.hits (open_cells l.modulus l.at l.rest)
      ≡ hits_after l.fn.self.watched l.fn.self.hits (open_cells l.modulus l.from l.bytes);
  next : l.at + length l.rest ≡ l.from + length l.bytes;
  fault : open_fault l.modulus l.at l.rest ≡ open_fault l.modulus l.from l.bytes;
}

abbrev pub decreases-loop-rest : goal.decreases-loop-rest
decreases-loop-rest l = length l.rest
