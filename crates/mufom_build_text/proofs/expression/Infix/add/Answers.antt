use Rattle.std.proofs.Common.{◌≡◌, Err, refl, ap, ◌∙◌}
use Rattle.mufom_expr.specs.declared.fault.ExprFault.TheVariants as faults
use Rattle.mufom_build_text.proofs.InfixReading.{kept_more, kept_full, fault_full}
use Rattle.mufom_build_text.proofs.expression.Infix.add.Goals as goal

pub returns-in-Ok-clause-keeps : goal.returns-in-Ok-clause-keeps
returns-in-Ok-clause-keeps c = λ all keeps few.
    let is = c.in-Ok.is in
    let (tokens, long) = kept_more all c.args.self.now.tokens c.push.new.self c.args.token c.args.self.now.is_long keeps.tokens keeps.long
    (λ full. let e : c.push.result ≡ Err faults.TooLong = c.push.ensures.too_long.1 full in cc) c.in-Ok.ensures.ok in
    record { tokens = tokens; long = long }

pub returns-in_default : goal.returns-in_default
returns-in_default c = record {
  frames = refl;
  keeps = λ all keeps few.
      let full = fault_full all c.args.self.now.tokens c.args.token c.in-Err.fault c.in_default.not-NoMemory
      (λ e. c.push.ensures.too_long.0 (c.in-Err.is ∙ ap (λ f. Err f) e)) (λ e. c.push.ensures.underflow.0 (c.in-Err.is ∙ ap (λ f. Err f) e))
      (λ e. c.push.ensures.empty (c.in-Err.is ∙ ap (λ f. Err f) e)) (λ e. c.push.ensures.surplus (c.in-Err.is ∙ ap (λ f. Err f) e))
      keeps.tokens few in
      let (tokens, long) = kept_full all c.args.self.now.tokens c.push.new.self c.args.token keeps.tokens full c.in-Err.ensures.err in
      record { tokens = tokens; long = long };
}
