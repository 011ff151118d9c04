use Rattle.std.proofs.Common.{◌≡◌, ◌∙◌, None, ap, subst}
use Rattle.std.specs.Prelude.{nat_le, option_map, slice_index_or}
use Rattle.mufom_origins.specs.declared.origins.Place.{Place}
use Rattle.mufom_map.specs.Mapped.{MappedSection}
use Rattle.mufom_map.specs.MapText.{section_line}
use Rattle.mufom_map.specs.Shown.{base_of, shown_section}
use Rattle.mufom_map.proofs.entries.Entries.section_line.Goals as goal

pub returns : goal.returns
returns g c =
    let self = c.args.self.now in let n = c.args.number in let section = c.args.section.now in
    let region = c.region_at-region.ensures ∙ ap (λ rs. slice_index_or rs n None) c.deref.ensures.value in
    let origin = c.module_of-origin.ensures ∙ ap (option_map (λ (p : Place). p.«module»)) c.section.ensures in
    let row : ◌≡◌ {A = MappedSection} _ (shown_section self.origins.now self.section_regions.items self.first_copy (n, section)) = λ j. record {
      number = n;
      name = section.name;
      size = section.size;
      align = section.align;
      base = base_of section;
      region = region j;
      origin = origin j;
      copy = nat_le self.first_copy n;
    } in
    subst (λ (r : MappedSection). g.K.Output.takes c.args.out.now c.section_line.new.out (section_line self.maus r)) row c.section_line.ensures
