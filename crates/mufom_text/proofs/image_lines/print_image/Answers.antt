use Rattle.std.proofs.Common.{List, ap, subst, ◌∙◌}
use Rattle.mufom_debug.specs.declared.item.DebugItem.{DebugItem}
use Rattle.mufom_debug.specs.Marks.{marks_of}
use Rattle.mufom_meaning.specs.declared.located.LocatedParts.{LocatedParts}
use Rattle.mufom_host.specs.World.{GrowsByPrefix}
use Rattle.mufom_text.specs.Addresses.{all_seen}
use Rattle.mufom_text.specs.Image.{addresses_of, image_text, names_of}
use Rattle.mufom_text.proofs.FitLaws.{located-fits}
use Rattle.mufom_text.proofs.image_lines.print_image.Goals as goal

pub invariant_of-image : goal.invariant_of-image
invariant_of-image g c =
    let parts = c.parts-parts.result.now in
    let fits = located-fits parts (rw c.parts-parts.ensures.same c.parts-parts.ensures.located) in
    record {
      units = fits.0;
      within = fits.1;
      all = ap all_seen c.as_slice-2.ensures.value ∙ c.in-Ok.ensures
          ∙ ap (λ (items : List DebugItem). addresses_of (names_of (marks_of items)) items) c.as_slice.ensures;
    }

pub returns-clause-fault : goal.returns-clause-fault
returns-clause-fault g c = λ failed.
    let prefix = c.print_lines.ensures.fault failed in (
      subst (λ (parts : LocatedParts). GrowsByPrefix (g.H.World.meaning c.args.host.now).out (g.H.World.meaning c.print_lines.new.host).out
          (image_text parts)) c.parts-parts.ensures.same prefix.0,
      prefix.1,
    )
