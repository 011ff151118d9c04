use Rattle.std.proofs.Common.{◌≡◌, ◌∷◌, take, flat_map}
use Rattle.mufom_text.specs.Words.{quoted_byte}
use Rattle.mufom_text.proofs.quoting.quoted_name.Given as goal

abbrev pub invariant-loop-byte : goal.invariant-loop-byte
invariant-loop-byte l = l.text.items ≡ 0x22 ∷ flat_map quoted_byte (take l.byte-index l.name)
