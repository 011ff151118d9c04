use Rattle.std.proofs.Common.{[], ◌∷◌}
use Rattle.mufom_text.proofs.words.quoted.Goals as goal

pub returns : goal.returns
returns g c = let l = g.met.K.Output in l.joins _ _ _ (0x22 ∷ []) _ c.put.ensures (l.joins _ _ _ _ (0x22 ∷ []) c.quoted_bytes.ensures c.put-2.ensures)
