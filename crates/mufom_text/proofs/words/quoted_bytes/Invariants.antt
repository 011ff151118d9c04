use Rattle.std.proofs.Common.{take, flat_map}
use Rattle.mufom_text.specs.Words.{quoted_byte}
use Rattle.mufom_text.proofs.words.quoted_bytes.Given as goal

abbrev pub invariant-loop-byte : goal.invariant-loop-byte
invariant-loop-byte g l = g.K.Output.takes l.fn.out l.out (flat_map quoted_byte (take l.byte-index l.bytes))
