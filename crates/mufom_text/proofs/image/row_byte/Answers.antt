use Rattle.mufom_text.proofs.image.row_byte.Goals as goal

pub returns : goal.returns
returns g c = let l = g.met.K.Output in (l.joins _ _ _ _ _ c.line_start.ensures (l.joins _ _ _ _ _ c.spaced_hex.ensures c.line_end.ensures))
