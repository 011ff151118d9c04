use Rattle.std.proofs.Common.{sym, subst}
use Rattle.mufom_image.specs.Refusals.{IsMet}
use Rattle.mufom_image.specs.Stages.{bases_of}
use Rattle.mufom_image.proofs.CounterLaws.{ready-here}
use Rattle.mufom_image.proofs.walk.runs_of.Goals as goal

pub returns-in-Ok-clause-passed : goal.returns-in-Ok-clause-passed
returns-in-Ok-clause-passed c =
    let ready = ready-here c.args.valued.now c.surroundings-values.result c.surroundings-values.ensures c.requires.ready in
    (c.in-Ok.ensures.image (bases_of c.args.valued.now.placed.now) ready).0

pub returns-in-Ok-clause-runs : goal.returns-in-Ok-clause-runs
returns-in-Ok-clause-runs c =
    let ready = ready-here c.args.valued.now c.surroundings-values.result c.surroundings-values.ensures c.requires.ready in
    (c.in-Ok.ensures.image (bases_of c.args.valued.now.placed.now) ready).1

pub returns-in-Err-Refused-clause-refused : goal.returns-in-Err-Refused-clause-refused
returns-in-Err-Refused-clause-refused c =
    let ready = ready-here c.args.valued.now c.surroundings-values.result c.surroundings-values.ensures c.requires.ready in
    let there = rw c.in-Err-Refused.field-0-is at c.in-Err-Refused.ensures.refusal in
    subst (λ met. IsMet met c.refusal_of.result) (sym (there (bases_of c.args.valued.now.placed.now) ready)) c.refusal_of.ensures
