use Rattle.std.proofs.Common.{[], ◌∷◌}
use Rattle.mufom_text.proofs.words.escaped_byte.Goals as goal

pub returns : goal.returns
returns g c = let l = g.met.K.Output in l.joins _ _ _ (0x5C ∷ 0x78 ∷ []) _ c.put.ensures c.hex_byte.ensures
