use Rattle.std.proofs.Common.{◌≡◌, ◌∙◌, ◌<◌, ◌^◌, List, [], ◌∷◌, sym, ap, subst}
use Rattle.mufom_module.specs.Written.{weight}
use Rattle.mufom_meaning.specs.declared.located.LocatedParts.{LocatedParts}
use Rattle.mufom_meaning.specs.Absolute.{absolute_of, no_regions}
use Rattle.mufom_located.specs.Located.{IsLocated}
use Rattle.mufom_locating.proofs.LightLaws.{light-planned}
use Rattle.mufom_locating.proofs.locating.locate_short.Goals as goal

pub sound-requires : goal.sound-requires
sound-requires c =
    let light = light-planned c.planned_is_locatable.ensures c.planned_absolute_weighs.ensures c.args.module.now c.args.plan.now c.in_ok-parts.parts
    c.a_module_is_valid.ensures.valid c.requires.light c.requires.plan.symbols c.requires.short c.in_ok-parts.ensures.located in
    let ms = c.args.module.now ∷ [] in
    record {
      source = absolute_of c.in_ok-parts.parts;
      plan = no_regions;
      valid = c.planned_absolute_is_valid.ensures ms c.args.plan.now c.in_ok-parts.parts (c.a_module_is_valid.ensures.valid, tt) c.requires.plan.symbols
          c.requires.short c.in_ok-parts.ensures.located light;
      is = c.planned_absolute_is_located_as_itself.ensures ms c.args.plan.now c.in_ok-parts.parts (c.a_module_is_valid.ensures.valid, tt)
          c.requires.plan.symbols c.in_ok-parts.ensures.located;
    }

pub returns-clause-light : goal.returns-clause-light
returns-clause-light c =
    let light = light-planned c.planned_is_locatable.ensures c.planned_absolute_weighs.ensures c.args.module.now c.args.plan.now c.in_ok-parts.parts
    c.a_module_is_valid.ensures.valid c.requires.light c.requires.plan.symbols c.requires.short c.in_ok-parts.ensures.located in
    subst (λ (r : LocatedParts). weight (absolute_of r) < 2 ^ 32) (sym c.sound.ensures) light
