use Rattle.std.proofs.Common.{[], ◌∷◌, ◌∙◌, ap, sym, subst}
use Rattle.mufom_module.specs.declared.module.Parts.{Parts}
use Rattle.mufom_module.specs.Defects.{IsValid}
use Rattle.mufom_meaning.specs.Absolute.{absolute_of, no_regions}
use Rattle.mufom_meaning.specs.Location.{IsLocation}
use Rattle.mufom_located.proofs.absolute_module.absolute.Goals as goal

pub sound-requires : goal.sound-requires
sound-requires c =
    let h = c.parts.ensures.located in
    let same = c.in_ok-absolute_parts.ensures ∙ ap absolute_of c.parts.ensures.same in
    subst IsValid (sym same) (c.absolute_is_valid.ensures (h.source ∷ []) h.plan c.args.located.now (h.valid, tt) h.is c.requires)

pub returns-clause-itself : goal.returns-clause-itself
returns-clause-itself c =
    let h = c.parts.ensures.located in
    let same = c.sound.ensures.same ∙ c.in_ok-absolute_parts.ensures ∙ ap absolute_of c.parts.ensures.same in
    subst (λ (m : Parts). IsLocation (m ∷ []) no_regions c.args.located.now) (sym same)
    (c.absolute_is_located_as_itself.ensures (h.source ∷ []) h.plan c.args.located.now (h.valid, tt) h.is)
