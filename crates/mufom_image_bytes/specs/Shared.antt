-- Chunks in order of their addresses, two of which share an address.
use Rattle.std.specs.Prelude.{◌≡◌, ℕ, ◌+◌, ◌-◌, ◌^◌, ◌<◌, ◌≤◌, ◌==◌, min, List, [], ◌∷◌, Option, option_map, Contains}
use Rattle.std.specs.Prelude.{Bool, true, false, nat_lt, if◌then◌else◌}
use Rattle.std.specs.List.Sorted.{IsPermutation}
use Rattle.mufom_place.specs.Facts.{◌or_else◌}
use Rattle.mufom_meaning.specs.Facts.{LocateFact, loaded_twice}
use Rattle.mufom_meaning.specs.Walk.{first_twice}
use Rattle.mufom_image_bytes.specs.declared.chunk.Chunk.{Chunk}
use Rattle.mufom_image_bytes.specs.Chunks.{addresses_of, AreConsecutive}

-- how many bytes of a chunk are among the first `count` that are loaded
abbrev pub part_of : ℕ → Chunk → ℕ
part_of count c = min c.count (count - c.start)

-- if only the first `count` loaded bytes are counted, a chunk begins before the end of the one before it
abbrev pub shares_from : ℕ → ℕ → List Chunk → Bool
shares_from count end [] = false
shares_from count end (c ∷ more) =
    if part_of count c == 0 then shares_from count end more
    else (if nat_lt c.address end then true else shares_from count (c.address + part_of count c) more)

-- the chunks are in order of address, and the first is at `low` or after it
abbrev pub AreRisingFrom : ℕ → List Chunk → Type 0
AreRisingFrom low [] = Unit {0}
AreRisingFrom low (c ∷ chunks) = (low ≤ c.address) × AreRisingFrom c.address chunks

-- the chunk has the byte with this number, from 0 in the order of the loads
abbrev pub HasByte : Chunk → ℕ → Type 0
HasByte c number = (c.start ≤ number) × (number < c.start + c.count)

-- the address of the byte with this number, if a chunk has it and its address fits in 64 bits
abbrev pub IsAddressOf : List Chunk → ℕ → ℕ → Type 0
IsAddressOf chunks number address =
    (c : Chunk) → Contains chunks c → HasByte c number
    → (d : Chunk) × Contains chunks d × HasByte d number × (d.address + (number - d.start) < 2 ^ 64 → address ≡ d.address + (number - d.start))

-- the addresses of the chunks fit in 64 bits
abbrev pub HaveLowAddresses : List Chunk → Type 0
HaveLowAddresses loaded = (a : ℕ) → Contains (addresses_of loaded) a → a < 2 ^ 64

-- `loaded` are the chunks in the order of the loads, with `count` bytes in all and addresses of 64 bits; `chunks` are the same in another order
abbrev pub AreOrdered : List Chunk → ℕ → List Chunk → Type 0
AreOrdered chunks count loaded = IsPermutation loaded chunks × AreConsecutive 0 loaded count × HaveLowAddresses loaded

-- the first address that occurs twice, in the order of the loads
abbrev pub IsFirstDouble : List Chunk → ℕ → Option ℕ → Type 0
IsFirstDouble chunks count double =
    (loaded : List Chunk) → AreOrdered chunks count loaded → first_twice [] (addresses_of loaded) ≡ option_map loaded_twice double

-- the first address that occurs twice, or otherwise the error that stopped the loads
abbrev pub EndsFirst : List Chunk → ℕ → Option LocateFact → Option LocateFact → Type 0
EndsFirst chunks count stop first =
    (loaded : List Chunk) → AreOrdered chunks count loaded → first ≡ (first_twice [] (addresses_of loaded) or_else stop)
