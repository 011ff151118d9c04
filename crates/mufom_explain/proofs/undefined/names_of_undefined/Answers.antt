use Rattle.std.proofs.Common.{◌≡◌, ◌<◌, ◌∙◌, ◌&&◌, List, Some, length, map, take, get_or, if◌then◌else◌, sym, ap, arith}
use Rattle.std.proofs.lemmas.List.{take_all}
use Rattle.std.proofs.lemmas.Option.{slice_get-get_or}
use Rattle.mufom_names.specs.declared.name.Reference.{Reference}
use Rattle.mufom_names.specs.Index.{numbered_from}
use Rattle.mufom_module.specs.declared.module.Parts.{Parts}
use Rattle.mufom_meaning.specs.Flat.{is_strong}
use Rattle.mufom_image_values.specs.declared.resolutions.Resolution.{Resolution}
use Rattle.mufom_image_values.specs.Names.{with_name}
use Rattle.mufom_image_values.specs.Resolutions.{is_nothing}
use Rattle.mufom_image_values.proofs.CommonLaws.{resolution-at}
use Rattle.mufom_image_values.proofs.CountLaws.{few-references}
use Rattle.mufom_explain.proofs.UndefinedLaws.{all-undefined, undefined-more, undefined_among}
use Rattle.mufom_explain.proofs.undefined.names_of_undefined.Goals.{then-is_undefined+in_ok-add_name, else-is_undefined}
use Rattle.mufom_explain.proofs.undefined.names_of_undefined.Goals as goal

pub add_name-requires-clause-room : goal.add_name-requires-clause-room
add_name-requires-clause-room c =
    let few = few-references c.args.module.now c.parts.ensures.valid in
    let all = ap length c.as_slice-references.ensures in
    let same = ap (λ (parts : Parts). length parts.names.references) c.parts.ensures.same in
    omega (arith, few, all, same, c.loop-place.invariant.2, c.loop-place-test.true)

pub loop-place-preserved : goal.loop-place-preserved
loop-place-preserved c =
    let m = c.args.module.now in let k = c.loop-place.place in let r = c.index-references-place.result in
    let references = m.names.references in
    let all : c.as_slice-references.result.now ≡ references = c.as_slice-references.ensures
    ∙ ap (λ (parts : Parts). parts.names.references) c.parts.ensures.same in
    let inside : k < length references = omega (arith, c.loop-place-test.true, ap length all) in
    let is : r ≡ get_or references k r = c.index-references-place.is ∙ ap (λ (rs : List Reference). get_or rs k r) all in
    let at = slice_get-get_or references k r inside ∙ ap Some (sym is) in
    let own = ap (λ (met : Resolution). is_nothing met && is_strong r) (sym (resolution-at m c.args.resolutions.now k _ r c.requires at))
    ∙ sym c.is_undefined.ensures in
    let so_far = undefined_among m (take k references) in
    let step = undefined-more m references k r inside is in
    elim c.if-is_undefined.branch [
      | then-is_undefined+in_ok-add_name w ↦
          let more = step ∙ ap (λ b. if b then with_name so_far r.name else so_far) (own ∙ w.if-is_undefined.true) in
          let count = w.in_ok-add_name.ensures.count in
          let long : length c.if-is_undefined.names.items ≡ length w.add_name.new.names.items = λ i. length (w.names-is i).items in (
            w.index-is ∙ w.in_ok-add_name.ensures.indexed ∙ (λ i. numbered_from 0 (map (λ name. name.now) (sym w.names-is i).items)),
            (λ i. map (λ name. name.now) (w.names-is i).items) ∙ w.in_ok-add_name.ensures.names
                ∙ (λ i. with_name (c.loop-place.invariant.1 i) (w.as_slice.ensures i))
                ∙ sym more,
            omega (arith, count, long, c.loop-place.invariant.2),
          )
      | else-is_undefined w ↦
          let more = step ∙ ap (λ b. if b then with_name so_far r.name else so_far) (own ∙ w.if-is_undefined.false) in
          let long : length c.if-is_undefined.names.items ≡ length c.loop-place.names.items = λ i. length (w.names-is i).items in (
            w.index-is ∙ c.loop-place.invariant.0 ∙ (λ i. numbered_from 0 (map (λ name. name.now) (sym w.names-is i).items)),
            (λ i. map (λ name. name.now) (w.names-is i).items) ∙ c.loop-place.invariant.1 ∙ sym more,
            omega (arith, long, c.loop-place.invariant.2),
          )
    ]

pub returns : goal.returns
returns c =
    let m = c.args.module.now in
    let all : c.as_slice-references.result.now ≡ m.names.references = c.as_slice-references.ensures
    ∙ ap (λ (parts : Parts). parts.names.references) c.parts.ensures.same in
    let past = c.loop-place-test.false in
    c.loop-place.invariant.1
    ∙ ap (undefined_among m) (take_all c.loop-place.place m.names.references (omega (arith, past, ap length all)))
    ∙ all-undefined m
