use Rattle.std.proofs.Common.{◌≡◌, ◌∙◌, false, List, Some, ap, sym, length, arith}
use Rattle.std.specs.Prelude.{option_map, slice_get}
use Rattle.std.proofs.lemmas.Option.{slice_get-get_or, slice_get_within}
use Rattle.mufom_names.specs.declared.name.Reference.{Reference}
use Rattle.mufom_module.specs.declared.module.Parts.{Parts}
use Rattle.mufom_numbers.proofs.Choices.{some_same}
use Rattle.mufom_image_values.specs.Resolutions.{is_first_common}
use Rattle.mufom_image_values.proofs.CommonLaws.{stands, first_common-is, find-first, find-never, resolution-at}
use Rattle.mufom_image_values.proofs.TokenLoops.{below_more}
use Rattle.mufom_image_values.proofs.resolutions.first_common.Goals as goal

pub returns-then-is_first_common : goal.returns-then-is_first_common
returns-then-is_first_common c =
    let m = c.args.module.now in
    let place = c.loop-place.place in
    let r = c.index-references-place.result in
    let all = c.as_slice-references.ensures ∙ ap (λ (parts : Parts). parts.names.references) c.parts.ensures.same in
    let at = ap (λ (rs : List Reference). slice_get rs place) (sym all)
    ∙ slice_get-get_or c.as_slice-references.result.now place r c.loop-place-test.true ∙ ap Some (sym c.index-references-place.is) in
    let its = ap is_first_common (sym (resolution-at m c.args.resolutions.now place _ r c.requires at)) ∙ sym c.is_first_common.ensures
    ∙ c.if-is_first_common.true in
    sym (first_common-is m ∙ ap (option_map (λ (r : Reference). r.name))
    (find-first (stands m) m.names.references place r at its (λ j x less e. c.loop-place.invariant j less x e)))

pub loop-place-preserved : goal.loop-place-preserved
loop-place-preserved c =
    let m = c.args.module.now in
    let place = c.loop-place.place in
    let r = c.index-references-place.result in
    let all = c.as_slice-references.ensures ∙ ap (λ (parts : Parts). parts.names.references) c.parts.ensures.same in
    let at = ap (λ (rs : List Reference). slice_get rs place) (sym all)
    ∙ slice_get-get_or c.as_slice-references.result.now place r c.loop-place-test.true ∙ ap Some (sym c.index-references-place.is) in
    let its = ap is_first_common (sym (resolution-at m c.args.resolutions.now place _ r c.requires at)) ∙ sym c.is_first_common.ensures
    ∙ c.if-is_first_common.false in
    below_more (λ j. (x : Reference) → slice_get m.names.references j ≡ Some x → stands m x ≡ false) place c.loop-place.invariant
    (λ x e. ap (stands m) (some_same x r (sym e ∙ at)) ∙ its)

pub returns : goal.returns
returns c =
    let m = c.args.module.now in
    let all = c.as_slice-references.ensures ∙ ap (λ (parts : Parts). parts.names.references) c.parts.ensures.same in
    sym (first_common-is m ∙ ap (option_map (λ (r : Reference). r.name))
    (find-never (stands m) m.names.references
    (λ j x e. let inside = slice_get_within m.names.references j x e in
    c.loop-place.invariant j (omega (arith, inside, c.loop-place-test.false, ap length all)) x e)))
