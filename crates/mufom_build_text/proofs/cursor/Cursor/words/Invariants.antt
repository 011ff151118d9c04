use Rattle.std.proofs.Common.{take}
use Rattle.mufom_build_text.specs.Loosely.{ReadsWords}
use Rattle.mufom_build_text.proofs.cursor.Cursor.words.Given as goal

abbrev pub invariant-loop-byte : goal.invariant-loop-byte
invariant-loop-byte l = ReadsWords (take l.byte-index l.text) l.fn.self l.self
