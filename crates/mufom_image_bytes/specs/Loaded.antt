-- The bytes that have been loaded so far, and their chunks.
use Rattle.std.specs.Prelude.{◌≡◌, ◌+◌, List, [], ◌∷◌, ◌++◌, length}
use Rattle.mufom_meaning.specs.AddressMap.{Cell}
use Rattle.mufom_image_bytes.specs.declared.loaded.Loaded.{Loaded}
use Rattle.mufom_image_bytes.specs.Chunks.{cells_of_chunks, AreConsecutive}

-- the bytes with their addresses
abbrev pub loaded_cells : Loaded → List Cell
loaded_cells l = cells_of_chunks l.bytes.items (l.chunks.items ++ l.last ∷ [])

-- the chunks follow one another without gaps among the bytes, and the last one, which may be empty, ends with them
pub record IsTiled (l : Loaded) : Type 0 where
  pub chunks : AreConsecutive 0 l.chunks.items l.last.start
  pub last : l.last.start + l.last.count ≡ length l.bytes.items

-- the same bytes at the same addresses, in the same order
pub record HasSameCells (old new : Loaded) : Type 0 where
  pub tiled : IsTiled new
  pub cells : loaded_cells new ≡ loaded_cells old
