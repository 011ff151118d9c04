use Rattle.std.proofs.Common.{take}
use Rattle.mufom_text.specs.Words.{hex_bytes}
use Rattle.mufom_text.proofs.words.hex_bytes.Given as goal

abbrev pub invariant-loop-byte : goal.invariant-loop-byte
invariant-loop-byte g l = g.K.Output.takes l.fn.out l.out (hex_bytes (take l.byte-index l.bytes))
