use Rattle.std.proofs.Common.{◌≡◌, ℕ, ◌*◌, List, refl, ap, subst, sym}
use Rattle.std.specs.List.{All}
use Rattle.std.proofs.lemmas.Result.{IfOk-weaker, IfErr-weaker}
use Rattle.mufom_loads.specs.declared.load.Load.{Load}
use Rattle.mufom_image_bytes.specs.Counted.{value_with}
use Rattle.mufom_image_bytes.specs.declared.layout.Layout.{Layout}
use Rattle.mufom_image_bytes.specs.Images.{IsImageOf, IsRefusalOf}
use Rattle.mufom_image_bytes.specs.Walks.{HasNarrowItems}
use Rattle.mufom_image_bytes.proofs.ModuleLaws.{valid_narrow, module_image, module_refusal}
use Rattle.mufom_image_bytes.proofs.module_image.image_of_module.Goals as goal

pub image_of-requires-clause-narrow : goal.image_of-requires-clause-narrow
image_of-requires-clause-narrow g c = subst (λ (loads : List Load). All HasNarrowItems loads) (sym c.as_slice-2.ensures)
    (valid_narrow c.args.parts.now c.requires)

pub returns-clause-image : goal.returns-clause-image
returns-clause-image g c =
    let m = c.args.parts.now in
    let bases = c.args.bases.now in
    let valuation = value_with (g.E.Env.meaning c.args.values.now) in
    let layout : Layout = _ in
    let wide : 8 * c.from.result ≡ 8 * m.maus = ap (λ n. 8 * n) c.from.ensures in
    let loads = c.as_slice-2.ensures in
    IfOk-weaker c.image_of.result _ _
    (λ runs image. module_image m c.requires layout bases (valuation (8 * m.maus)) wide refl c.as_slice.ensures refl runs
    (subst (λ (x : ℕ × List Load). IsImageOf layout (valuation x.0) x.1 runs) (λ i. (wide i, loads i)) image))
    c.image_of.ensures.image

pub returns-clause-refusal : goal.returns-clause-refusal
returns-clause-refusal g c =
    let m = c.args.parts.now in
    let bases = c.args.bases.now in
    let valuation = value_with (g.E.Env.meaning c.args.values.now) in
    let layout : Layout = _ in
    let wide : 8 * c.from.result ≡ 8 * m.maus = ap (λ n. 8 * n) c.from.ensures in
    let loads = c.as_slice-2.ensures in
    IfErr-weaker c.image_of.result _ _
    (λ refusal there. module_refusal m c.requires layout bases (valuation (8 * m.maus)) wide refl c.as_slice.ensures refusal
    (subst (λ (x : ℕ × List Load). IsRefusalOf layout (valuation x.0) x.1 refusal) (λ i. (wide i, loads i)) there))
    c.image_of.ensures.refusal
