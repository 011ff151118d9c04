use Rattle.std.proofs.Common.{ap, inl, refl, ◌≡◌}
use Rattle.mufom_works.proofs.EndLaws.{if-err-map}
use Rattle.mufom_prepare.specs.Locations.{shown_of}
use Rattle.mufom_works.specs.WorkEnds.{EndsAt}
use Rattle.mufom_works.specs.Works.{printed, product_of}
use Rattle.mufom_outcome.specs.declared.outcome.Outcome.{Outcome}
use Rattle.mufom_outcome.specs.declared.outcome.Outcome.TheVariants as outcome
use Rattle.mufom_origins.specs.Words.{all_files}
use Rattle.mufom_prepare.proofs.ready.ready_of.Goals as goal

pub returns-in-Absolute-clause-ok : goal.returns-in-Absolute-clause-ok
returns-in-Absolute-clause-ok c = rw c.in-Absolute.is c.absolute_file.ensures.ok

pub returns-in-Raw-clause-ok : goal.returns-in-Raw-clause-ok
returns-in-Raw-clause-ok c = rw c.in-Raw.is c.raw_file.ensures.ok

pub returns-in-Absolute-clause-stops : goal.returns-in-Absolute-clause-stops
returns-in-Absolute-clause-stops c = if-err-map c.absolute_file.result (λ (o : Outcome). o ≡ outcome.NoMemory)
    (EndsAt (product_of c.args.product.now (all_files c.args.names) (shown_of c.args.location) c.args.location.located))
    (λ o lacks. inl lacks) c.absolute_file.ensures.err

pub returns-in-Raw-clause-stops : goal.returns-in-Raw-clause-stops
returns-in-Raw-clause-stops c = rw c.in-Raw.is c.raw_file.ensures.stops

pub returns-in-Region-clause-ok : goal.returns-in-Region-clause-ok
returns-in-Region-clause-ok c = rw c.in-Region.is c.region_file.ensures.ok

pub returns-in-Region-clause-stops : goal.returns-in-Region-clause-stops
returns-in-Region-clause-stops c = rw c.in-Region.is c.region_file.ensures.stops

pub returns-in-TiTxt-clause-ok : goal.returns-in-TiTxt-clause-ok
returns-in-TiTxt-clause-ok c = rw c.in-TiTxt.is refl

pub returns-in-Image-clause-ok : goal.returns-in-Image-clause-ok
returns-in-Image-clause-ok c = rw c.in-Image.is refl

pub returns-in-Map-clause-ok : goal.returns-in-Map-clause-ok
returns-in-Map-clause-ok c = rw c.in-Map.is refl

pub returns-in-Ok-clause-ok : goal.returns-in-Ok-clause-ok
returns-in-Ok-clause-ok c = rw c.in-Hit.is (ap printed c.in-Ok.ensures)
