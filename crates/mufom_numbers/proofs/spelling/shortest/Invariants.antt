use Rattle.std.proofs.Common.{◌≡◌, ◌+◌, ◌-◌, ◌∷◌, take, drop}
use Rattle.std.specs.Int.{w64, to_be_bytes}
use Rattle.mufom_numbers.proofs.spelling.shortest.Given as goal

abbrev pub invariant-loop-byte : goal.invariant-loop-byte
invariant-loop-byte l = (l.spelling.items ≡ (128 + l.count) ∷ take l.byte-index (drop (8 - l.count) (to_be_bytes w64 l.value)))
