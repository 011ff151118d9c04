use Rattle.mufom_explain.proofs.entries.indented_line.Goals as goal

pub returns : goal.returns
returns g c = let l = g.met.K.Output in l.joins _ _ _ _ _ c.put.ensures c.module_line.ensures
