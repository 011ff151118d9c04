use Rattle.std.proofs.Common.{◌≡◌, ◌+◌, ◌++◌, length}
use Rattle.mufom_image_bytes.specs.Loaded.{loaded_cells, IsTiled}
use Rattle.mufom_titxt.specs.Lines.{words_of}
use Rattle.mufom_titxt.specs.Reading.{word_bytes, open_cells, open_fault, hits_after}
use Rattle.mufom_titxt.proofs.store.Store.place_line.Given as goal

abbrev pub invariant-loop-word : goal.invariant-loop-word
invariant-loop-word l = record {
  tiled : IsTiled l.self.loaded;
  watched : l.self.watched ≡ l.fn.self.watched;
  cells : loaded_cells l.self.loaded ++ open_cells l.modulus l.at (word_bytes (words_of l.rest))
      ≡ loaded_cells l.fn.self.loaded ++ open_cells l.modulus l.from (word_bytes (words_of l.line));
  hits : hits_after l.fn.self.watched l.self.hits (open_cells l.modulus l.at (word_bytes (words_of l.rest)))
      ≡ hits_after l.fn.self.watched l.fn.self.hits (open_cells l.modulus l.from (word_bytes (words_of l.line)));
  next : l.at + length (word_bytes (words_of l.rest)) ≡ l.from + length (word_bytes (words_of l.line));
  fault : open_fault l.modulus l.at (word_bytes (words_of l.rest)) ≡ open_fault l.modulus l.from (word_bytes (words_of l.line));
}

abbrev pub decreases-loop-word : goal.decreases-loop-word
decreases-loop-word l = length l.rest
