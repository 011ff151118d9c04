use Rattle.mufom_explain.proofs.entries.origin_text.Goals as goal

pub returns : goal.returns
returns g c = let l = g.met.K.Output in l.joins _ _ _ _ _ c.put.ensures c.module_text.ensures
