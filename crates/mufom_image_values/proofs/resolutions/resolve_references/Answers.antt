use Rattle.std.proofs.Common.{◌∙◌, ap, subst, length, map, List, [], arith}
use Rattle.mufom_names.specs.declared.name.Public.{Public}
use Rattle.mufom_names.specs.declared.name.Reference.{Reference}
use Rattle.mufom_names.specs.Names.{names_of}
use Rattle.mufom_names.specs.Index.{position_of, numbered_from}
use Rattle.mufom_module.specs.declared.module.Parts.{Parts}
use Rattle.mufom_image_values.specs.Names.{FindsFirst, asked_after}
use Rattle.mufom_image_values.specs.Resolutions.{resolution_by}
use Rattle.mufom_image_values.proofs.CountLaws.{few-publics, few-references}
use Rattle.mufom_image_values.proofs.ResolutionLaws.{resolutions-are}
use Rattle.mufom_image_values.proofs.resolutions.resolve_references.Goals as goal

pub index_of_publics-requires : goal.index_of_publics-requires
index_of_publics-requires c =
    let few = few-publics c.args.module.now c.parts.ensures.valid in
    omega (arith, few, ap (λ (ps : List Public). length ps) c.as_slice.ensures, ap (λ (parts : Parts). length parts.names.publics) c.parts.ensures.same)

pub index_of_commons-requires : goal.index_of_commons-requires
index_of_commons-requires c =
    let few = few-references c.args.module.now c.parts.ensures.valid in
    omega (
      arith,
      few,
      ap (λ (rs : List Reference). length rs) c.as_slice-references.ensures,
      ap (λ (parts : Parts). length parts.names.references) c.parts.ensures.same,
    )

pub returns : goal.returns
returns c =
    let m = c.args.module.now in
    let publics = c.in_ok-publics.publics in
    let commons = c.in_ok-commons.commons in
    let named = c.as_slice.ensures ∙ ap (λ (parts : Parts). parts.names.publics) c.parts.ensures.same in
    let all = c.as_slice-references.ensures ∙ ap (λ (parts : Parts). parts.names.references) c.parts.ensures.same in
    let finds = subst (λ (ps : List Public). FindsFirst publics (names_of ps)) named c.in_ok-publics.ensures in
    let asked = c.in_ok-commons.ensures ∙ ap (λ (rs : List Reference). numbered_from 0 (asked_after publics [] rs)) all in
    c.in_ok-resolutions.ensures
    ∙ ap (map (λ (r : Reference). resolution_by (position_of publics r.name) (position_of commons r.name) r.weak)) all
    ∙ resolutions-are m publics commons finds asked
