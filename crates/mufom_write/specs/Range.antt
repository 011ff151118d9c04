-- The bytes of a range of addresses: one for each address, the loaded byte or else a fill byte.
use Rattle.std.specs.Prelude.{ℕ, ◌+◌, ◌-◌, ◌==◌, List, [], ◌∷◌, ◌++◌, drop, length, map, replicate, take, Option, option_map, unwrap_or}
use Rattle.std.specs.List.{find}
use Rattle.mufom_meaning.specs.declared.located.Run.{Run}
use Rattle.mufom_meaning.specs.AddressMap.{Cell, run_cells}
use Rattle.mufom_meaning.specs.Walk.{counted_from}

-- the byte that one of these cells has at the address
abbrev pub byte_in : List Cell → ℕ → Option ℕ
byte_in cells address = option_map (λ (cell : Cell). cell.1) (find (λ (cell : Cell). cell.0 == address) cells)

-- the byte that runs have at the address, or `fill` if they have none there
abbrev pub byte_or : ℕ → List Run → ℕ → ℕ
byte_or fill runs address = unwrap_or (byte_in (run_cells runs) address) fill

-- One byte for each of `count` addresses, from `from` on: the loaded byte, or `fill` at an address without one.
abbrev pub range_image : ℕ → ℕ → ℕ → List Run → List ℕ
range_image fill from count runs = map (byte_or fill runs) (counted_from count from)

-- ---- the same, run by run

-- the number of addresses from `at` up to `end` before a run
abbrev pub space_before : ℕ → ℕ → Run → ℕ
space_before end at run = (run.address - at) - (run.address - end)

-- the bytes of a run at the addresses from `at` up to `end`
abbrev pub part_within : ℕ → ℕ → Run → List ℕ
part_within end at run = take (end - (run.address + (at - run.address))) (drop (at - run.address) run.bytes)

-- the address after these
abbrev pub next_after : ℕ → ℕ → Run → ℕ
next_after end at run = at + space_before end at run + length (part_within end at run)

-- the bytes from the address `at` up to `end`, of runs in the order of their addresses
abbrev pub range_from : ℕ → ℕ → ℕ → List Run → List ℕ
range_from fill end at [] = replicate (end - at) fill
range_from fill end at (run ∷ runs) =
    (replicate (space_before end at run) fill ++ part_within end at run) ++ range_from fill end (next_after end at run) runs
