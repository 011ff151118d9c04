use Rattle.std.proofs.Common.{List, ap, inr, length, refl, sym, ◌∙◌, ◌≡◌}
use Rattle.mufom_works.proofs.ProductLaws.{bytes-stop, too-many}
use Rattle.mufom_works.specs.Works.{length_fact}
use Rattle.mufom_meaning.specs.declared.located.LocatedParts.{LocatedParts}
use Rattle.mufom_meaning.specs.declared.located.Run.{Run}
use Rattle.mufom_outcome.specs.declared.outcome.BinRefusal.TheVariants as bins
use Rattle.mufom_outcome.specs.Stop.{bytes_refused}
use Rattle.mufom_write.specs.Raw.{raw_image}
use Rattle.mufom_prepare.proofs.ready.raw_file.Goals as goal

pub returns-then-count-clause-stops : goal.returns-then-count-clause-stops
returns-then-count-clause-stops c =
    let r = c.args.located in let fill = c.args.fill in let out = c.args.out.now in
    let runs : c.as_slice.result.now ≡ r.runs = c.as_slice.ensures ∙ ap (λ (p : LocatedParts). p.runs) c.parts.ensures.same in
    let counted : c.raw_length-count.result ≡ length (raw_image fill r.runs)
    = c.raw_length-count.ensures fill ∙ ap (λ (l : List Run). length (raw_image fill l)) runs in
    let fact = ap length_fact (sym counted) ∙ too-many c.raw_length-count.result c.if-count.true in
    inr (
      bytes_refused (bins.TooLong c.raw_length-count.result),
      tt,
      refl,
      bytes-stop (length_fact (length (raw_image fill r.runs))) (bins.TooLong c.raw_length-count.result) fact out (raw_image fill r.runs),
    )
