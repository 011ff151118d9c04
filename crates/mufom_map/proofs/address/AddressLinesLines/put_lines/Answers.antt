use Rattle.std.proofs.Common.{◌≡◌, ◌∙◌, Option, ap}
use Rattle.mufom_map.specs.Found.{element_at}
use Rattle.mufom_map.specs.Mapped.{MappedSection}
use Rattle.mufom_map.specs.ShownMap.{publics_of, sections_of}
use Rattle.mufom_map.specs.Spot.{public_below, section_at}
use Rattle.mufom_map.proofs.NearLaws.{section-is}
use Rattle.mufom_map.proofs.address.AddressLinesLines.put_lines.Goals as goal

pub returns : goal.returns
returns g c = let l = g.met.K.Output in
    let e = c.args.self.now.entries in let address = c.args.self.now.address in
    let section : element_at (sections_of e) c.section_at-section.result ≡ section_at address (sections_of e)
    = ap (element_at (sections_of e)) c.section_at-section.ensures
    ∙ section-is e.origins.now e.section_regions.items e.first_copy e.sections.now address in
    let public = c.public_below-public.ensures ∙ ap (λ (s : Option MappedSection). public_below address s (publics_of e)) section in
    l.joins _ _ _ _ _ (rw section at c.found_section.ensures) (rw public at c.found_public.ensures)
