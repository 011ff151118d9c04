use Rattle.std.proofs.Common.{◌≡◌, ◌∙◌, ℕ, List, Option, Some, None, ap, map, position, slice_get, sym}
use Rattle.std.specs.Prelude.{option_map}
use Rattle.std.specs.List.{enumerate_from}
use Rattle.mufom_meaning.specs.declared.located.PublicValue.{PublicValue}
use Rattle.mufom_map.specs.Found.{element_at}
use Rattle.mufom_map.specs.Mapped.{MappedPublic, MappedSection, mapped_public}
use Rattle.mufom_map.specs.Shown.{shown_section}
use Rattle.mufom_map.specs.Spot.{is_nearest, public_below}
use Rattle.mufom_map.proofs.NearLaws.{near-is}
use Rattle.mufom_map.proofs.SpotLaws.{made-at, made-nowhere}
use Rattle.mufom_map.proofs.entries.Entries.public_in.Goals as goal

pub returns-in-Some : goal.returns-in-Some
returns-in-Some c =
    let self = c.args.self.now in let sections = self.sections.now in let publics = self.publics.now in
    let origins = self.origins.now in let regions = self.section_regions.items in
    let n = c.args.number in let address = c.args.address in let section = c.in-Some.section.now in
    let made : List MappedPublic = map (mapped_public origins) (enumerate_from 0 publics) in
    let there : slice_get sections n ≡ Some section = sym c.section_numbered.ensures ∙ ap (option_map (λ r. r.now)) c.in-Some.is in
    let row = made-at (shown_section origins regions self.first_copy) sections n section there in
    ap (element_at made) (c.public_at.ensures ∙ ap (λ (base : ℕ).
    position (λ (p : PublicValue). is_nearest base section.size address (map (λ (q : PublicValue). q.value) publics) p.value) publics) c.base_of.ensures)
    ∙ near-is origins publics (shown_section origins regions self.first_copy (n, section)) address
    ∙ sym (ap (λ (s : Option MappedSection). public_below address s made) row)

pub returns-in-None : goal.returns-in-None
returns-in-None c =
    let self = c.args.self.now in let sections = self.sections.now in let publics = self.publics.now in
    let origins = self.origins.now in let n = c.args.number in
    let made : List MappedPublic = map (mapped_public origins) (enumerate_from 0 publics) in
    let there : slice_get sections n ≡ None = sym c.section_numbered.ensures ∙ ap (option_map (λ r. r.now)) c.in-None.is in
    sym (ap (λ (s : Option MappedSection). public_below c.args.address s made)
    (made-nowhere (shown_section origins self.section_regions.items self.first_copy) sections n there))
