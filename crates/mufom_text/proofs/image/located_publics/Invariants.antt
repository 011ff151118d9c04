use Rattle.std.proofs.Common.{take, flat_map}
use Rattle.mufom_text.specs.Image.{public_text}
use Rattle.mufom_text.proofs.image.located_publics.Given as goal

abbrev pub invariant-loop-public : goal.invariant-loop-public
invariant-loop-public g l = g.K.Output.takes l.fn.out l.out (flat_map (public_text l.maus) (take l.public-index l.publics))
