use Rattle.std.proofs.Common.{length, ap, ◌∙◌}
use Rattle.std.proofs.lemmas.List.{length-map}
use Rattle.std.proofs.lemmas.List.FromFn.{length-enumerate_from}
use Rattle.mufom_place.specs.Bases.{numbered, site_by}
use Rattle.mufom_place.proofs.copies.fitting_bases.Goals as goal

pub overlap-requires-clause-same : goal.overlap-requires-clause-same
overlap-requires-clause-same c =
    let sections = c.args.sections.now in
    let given = c.args.placings.now in
    ap length (c.as_slice.ensures ∙ c.in_ok-bases.ensures.bases) ∙ length-map (numbered sections) (λ s. (site_by given s).base)
    ∙ length-enumerate_from 0 sections
