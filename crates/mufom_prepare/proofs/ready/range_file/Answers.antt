use Rattle.std.proofs.Common.{Some, arith, inr, refl}
use Rattle.mufom_works.proofs.ProductLaws.{bytes-give, bytes-stop, not-too-many, too-many}
use Rattle.mufom_works.specs.Works.{length_fact, region_image}
use Rattle.mufom_outcome.specs.declared.outcome.BinRefusal.TheVariants as bins
use Rattle.mufom_outcome.specs.Stop.{bytes_refused}
use Rattle.mufom_prepare.proofs.ready.range_file.Goals as goal

pub returns-then-count-clause-stops : goal.returns-then-count-clause-stops
returns-then-count-clause-stops c =
    let region = c.args.region.now in let image = region_image c.args.fill (Some region) c.args.located in
    inr (
      bytes_refused (bins.TooLong region.size),
      tt,
      refl,
      bytes-stop (length_fact region.size) (bins.TooLong region.size) (too-many region.size c.if-count.true) c.args.out.now image,
    )

pub returns-else-count-clause-ok : goal.returns-else-count-clause-ok
returns-else-count-clause-ok c =
    let region = c.args.region.now in let image = region_image c.args.fill (Some region) c.args.located in
    let few = c.if-count.false in
    bytes-give (length_fact region.size) (not-too-many region.size (omega (arith, few))) c.args.out.now image
