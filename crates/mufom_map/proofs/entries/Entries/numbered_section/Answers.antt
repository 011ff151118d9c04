use Rattle.std.proofs.Common.{◌≡◌, ◌∙◌, Option, Some, None, ap, slice_get, subst, sym}
use Rattle.std.specs.Prelude.{option_map}
use Rattle.mufom_map.specs.Mapped.{MappedSection}
use Rattle.mufom_map.specs.MapText.{found_section}
use Rattle.mufom_map.specs.Shown.{shown_section}
use Rattle.mufom_map.proofs.SpotLaws.{made-at, made-nowhere}
use Rattle.mufom_map.proofs.entries.Entries.numbered_section.Goals as goal

pub returns-in-Some : goal.returns-in-Some
returns-in-Some g c =
    let self = c.args.self.now in let sections = self.sections.now in let n = c.args.number in
    let section = c.in-Some.section.now in
    let there : slice_get sections n ≡ Some section = sym c.section_numbered.ensures ∙ ap (option_map (λ r. r.now)) c.in-Some.is in
    subst (λ (found : Option MappedSection). g.K.Output.takes c.args.out.now c.section_line.new.out (found_section self.maus found))
    (sym (made-at (shown_section self.origins.now self.section_regions.items self.first_copy) sections n section there)) c.section_line.ensures

pub returns-in-None : goal.returns-in-None
returns-in-None g c =
    let self = c.args.self.now in let sections = self.sections.now in let n = c.args.number in
    let there : slice_get sections n ≡ None = sym c.section_numbered.ensures ∙ ap (option_map (λ r. r.now)) c.in-None.is in
    subst (λ (found : Option MappedSection). g.K.Output.takes c.args.out.now c.put.new.self (found_section self.maus found))
    (sym (made-nowhere (shown_section self.origins.now self.section_regions.items self.first_copy) sections n there)) c.put.ensures
