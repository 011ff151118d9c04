use Rattle.std.proofs.Common.{Err, ap}
use Rattle.mufom_works.proofs.TextLaws.{text-refusal}
use Rattle.mufom_works.proofs.texts.runs_of.Goals as goal

pub returns-in-Err-Refused-clause-stops : goal.returns-in-Err-Refused-clause-stops
returns-in-Err-Refused-clause-stops c =
    text-refusal c.args.maus c.args.text.now c.in-Err-Refused.refusal
    (c.in-Err-Refused.ensures.refused c.in-Err-Refused.refusal (ap (λ e. Err e) c.in-Err-Refused.field-0-is))
