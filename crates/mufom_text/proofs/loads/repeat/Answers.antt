use Rattle.mufom_text.proofs.loads.repeat.Goals as goal

pub returns : goal.returns
returns g c = let l = g.met.K.Output in (l.joins _ _ _ _ _ (l.joins _ _ _ _ _ c.number_line.ensures c.repeated_lines.ensures) c.repeat_end.ensures)
