-- Loaded bytes in the order of the loads, in chunks at consecutive addresses.
use Rattle.std.specs.Prelude.{◌≡◌, ℕ, ◌+◌, ◌<◌, List, [], ◌∷◌, map, flat_map, take, drop}
use Rattle.mufom_meaning.specs.AddressMap.{Cell, cells_from}
use Rattle.mufom_meaning.specs.Walk.{counted_from}
use Rattle.mufom_image_bytes.specs.declared.chunk.Chunk.{Chunk}

-- the address after a chunk
abbrev pub end_of_chunk : Chunk → ℕ
end_of_chunk c = c.address + c.count

-- the bytes of a chunk with their addresses; `bytes` are all loaded bytes
abbrev pub chunk_cells : List ℕ → Chunk → List Cell
chunk_cells bytes c = cells_from c.address (take c.count (drop c.start bytes))

-- the bytes of all chunks with their addresses
abbrev pub cells_of_chunks : List ℕ → List Chunk → List Cell
cells_of_chunks bytes chunks = flat_map (chunk_cells bytes) chunks

-- the addresses of a chunk
abbrev pub chunk_addresses : Chunk → List ℕ
chunk_addresses c = counted_from c.count c.address

-- the addresses of all chunks
abbrev pub addresses_of : List Chunk → List ℕ
addresses_of chunks = flat_map chunk_addresses chunks

-- each chunk has at least one byte; the first begins at byte `start`, each other one at the end of the one before it, and the last ends at `end`
abbrev pub AreConsecutive : ℕ → List Chunk → ℕ → Type 0
AreConsecutive start [] end = start ≡ end
AreConsecutive start (c ∷ chunks) end = (c.start ≡ start) × (0 < c.count) × AreConsecutive (start + c.count) chunks end

-- the addresses of cells
abbrev pub cell_addresses : List Cell → List ℕ
cell_addresses cells = map (λ (cell : Cell). cell.0) cells
