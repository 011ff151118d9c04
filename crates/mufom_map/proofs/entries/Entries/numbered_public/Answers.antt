use Rattle.std.proofs.Common.{◌≡◌, ◌∙◌, Option, Some, None, ap, slice_get, subst, sym}
use Rattle.std.specs.Prelude.{option_map}
use Rattle.mufom_origins.specs.declared.origins.Place.{Place}
use Rattle.mufom_map.specs.Mapped.{MappedPublic, mapped_public}
use Rattle.mufom_map.specs.MapText.{found_public}
use Rattle.mufom_map.proofs.SpotLaws.{made-at, made-nowhere}
use Rattle.mufom_map.proofs.entries.Entries.numbered_public.Goals as goal

pub returns-in-Some : goal.returns-in-Some
returns-in-Some g c =
    let self = c.args.self.now in let publics = self.publics.now in let n = c.args.position in
    let origins = self.origins.now in let public = c.in-Some.public.now in
    let there : slice_get publics n ≡ Some public = sym c.public_numbered.ensures ∙ ap (option_map (λ r. r.now)) c.in-Some.is in
    let origin = c.module_of-origin.ensures ∙ ap (option_map (λ (p : Place). p.«module»)) c.public.ensures in
    let row : ◌≡◌ {A = MappedPublic} _ (mapped_public origins (n, public)) = λ j. record { name = public.name; value = public.value; origin = origin j } in
    let line = subst (λ (r : MappedPublic). g.K.Output.takes c.args.out.now c.offset_line.new.out (found_public self.maus c.args.address (Some r))) row
    c.offset_line.ensures in
    subst (λ (found : Option MappedPublic). g.K.Output.takes c.args.out.now c.offset_line.new.out (found_public self.maus c.args.address found))
    (sym (made-at (mapped_public origins) publics n public there)) line

pub returns-in-None : goal.returns-in-None
returns-in-None g c =
    let self = c.args.self.now in let publics = self.publics.now in let n = c.args.position in
    let there : slice_get publics n ≡ None = sym c.public_numbered.ensures ∙ ap (option_map (λ r. r.now)) c.in-None.is in
    subst (λ (found : Option MappedPublic). g.K.Output.takes c.args.out.now c.put.new.self (found_public self.maus c.args.address found))
    (sym (made-nowhere (mapped_public self.origins.now) publics n there)) c.put.ensures
