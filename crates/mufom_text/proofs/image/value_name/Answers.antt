use Rattle.mufom_text.proofs.image.value_name.Goals as goal

pub returns : goal.returns
returns g c = let l = g.met.K.Output in (l.joins _ _ _ _ _ c.put.ensures c.quoted.ensures)
