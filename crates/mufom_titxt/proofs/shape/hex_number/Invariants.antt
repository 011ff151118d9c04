use Rattle.std.proofs.Common.{◌≡◌, ◌<◌, ◌^◌, drop}
use Rattle.mufom_titxt.specs.Lines.{hex_after}
use Rattle.mufom_titxt.proofs.shape.hex_number.Given as goal

abbrev pub invariant-loop-byte : goal.invariant-loop-byte
invariant-loop-byte l = record { spelled : hex_after 0 l.digits ≡ hex_after l.number (drop l.byte-index l.digits); low : l.number < 16 ^ l.byte-index }
