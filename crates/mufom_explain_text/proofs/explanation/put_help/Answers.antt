use Rattle.std.proofs.Common.{List, ℕ, Some, subst}
use Rattle.mufom_works.specs.ExplainText.{topic_part}
use Rattle.mufom_explain_text.proofs.explanation.put_help.Goals as goal

pub returns : goal.returns
returns g c =
    let l = g.met.K.Output in
    subst (λ (text : List ℕ). g.K.Output.takes c.args.out.now c.put-2.new.self (topic_part (Some text))) c.as_bytes.ensures.value
    (l.joins _ _ _ _ _ c.put.ensures c.put-2.ensures)
