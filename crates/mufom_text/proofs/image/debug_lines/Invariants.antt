use Rattle.std.proofs.Common.{take}
use Rattle.mufom_text.specs.Words.{each}
use Rattle.mufom_text.specs.Addresses.{all_seen}
use Rattle.mufom_text.specs.Image.{address_text}
use Rattle.mufom_text.proofs.image.debug_lines.Given as goal

abbrev pub invariant-loop-position : goal.invariant-loop-position
invariant-loop-position g l = g.K.Output.takes l.fn.out l.out (each (address_text l.maus) (take l.position (all_seen l.addresses)))
