-- Chunks in order of their addresses that do not overlap.
use Rattle.std.specs.Prelude.{◌≡◌, ℕ, suc, ◌+◌, ◌<◌, ◌≤◌, ◌==◌, List, [], ◌∷◌, length}
use Rattle.std.specs.Prelude.{flat_map, take, drop, if◌then◌else◌}
use Rattle.mufom_meaning.specs.declared.located.Run.{Run}
use Rattle.mufom_image_bytes.specs.declared.chunk.Chunk.{Chunk}

-- each chunk has at least one byte and begins at or after the end of the one before it, and the first begins at or after `from`
abbrev pub AreSpread : ℕ → List Chunk → Type 0
AreSpread from [] = Unit {0}
AreSpread from (c ∷ chunks) = (from ≤ c.address) × (0 < c.count) × AreSpread (c.address + c.count) chunks

-- a chunk lies among the bytes
abbrev pub IsAmong : List ℕ → Chunk → Type 0
IsAmong bytes c = c.start + c.count ≤ length bytes

-- the number of chunks that continue from `end` without a gap
abbrev pub neighbours : ℕ → List Chunk → ℕ
neighbours end [] = 0
neighbours end (c ∷ chunks) = if c.address == end then suc (neighbours (c.address + c.count) chunks) else 0

-- the number of chunks in the first run
abbrev pub first_run_length : List Chunk → ℕ
first_run_length [] = 0
first_run_length (c ∷ chunks) = suc (neighbours (c.address + c.count) chunks)

-- the bytes of a chunk
abbrev pub chunk_bytes : List ℕ → Chunk → List ℕ
chunk_bytes bytes c = take c.count (drop c.start bytes)

-- the bytes of chunks, one after another
abbrev pub bytes_of_chunks : List ℕ → List Chunk → List ℕ
bytes_of_chunks bytes chunks = flat_map (chunk_bytes bytes) chunks

-- the first address at which another run can begin without touching these
abbrev pub free_after : ℕ → List Run → ℕ
free_after from [] = from
free_after from (run ∷ runs) = free_after (run.address + length run.bytes + 1) runs

-- if there is only one chunk, it has all the bytes
abbrev pub HasAllBytes : ℕ → List Chunk → Type 0
HasAllBytes count [] = Unit {0}
HasAllBytes count (c ∷ []) = (c.start ≡ 0) × (c.count ≡ count)
HasAllBytes count (c ∷ d ∷ chunks) = Unit {0}
