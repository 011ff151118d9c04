use Rattle.std.proofs.Common.{Err, ap, inr, refl}
use Rattle.mufom_refusals.specs.declared.build.BuildRefusal.TheVariants as build
use Rattle.mufom_outcome.specs.Stop.{listing_refused}
use Rattle.mufom_works.proofs.texts.built_from.Goals as goal

pub returns-in-Err-Module-clause-stops : goal.returns-in-Err-Module-clause-stops
returns-in-Err-Module-clause-stops c =
    let d = c.in-Err-Module.defect in
    inr (listing_refused (build.Module d), tt, refl, c.in-Err-Module.ensures.defect d (ap (λ e. Err e) c.in-Err-Module.field-0-is))

pub returns-in-Err-At-clause-stops : goal.returns-in-Err-At-clause-stops
returns-in-Err-At-clause-stops c =
    let line = c.in-Err-At.line in
    let column = c.in-Err-At.column in
    let reason = c.in-Err-At.reason in
    inr (
      listing_refused (build.At line column reason),
      tt,
      refl,
      c.in-Err-At.ensures.refused line column reason (ap (λ e. Err e) c.in-Err-At.field-0-is),
    )
