use Rattle.mufom_explain_text.proofs.plan_lines.plan_and_key.Goals as goal

pub returns : goal.returns
returns g c = let l = g.met.K.Output in l.joins _ _ _ _ _ c.plan_line.ensures c.key_part.ensures
