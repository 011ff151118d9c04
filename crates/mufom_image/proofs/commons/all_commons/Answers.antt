use Rattle.std.proofs.Common.{◌≡◌, ◌∙◌, ◌<◌, List, ap, sym, length, get_or, take, Some, arith}
use Rattle.mufom_sections.specs.declared.section.Section.{Section}
use Rattle.mufom_names.specs.declared.name.Reference.{Reference}
use Rattle.mufom_module.specs.declared.module.Parts.{Parts}
use Rattle.mufom_image_values.specs.declared.resolutions.Resolution.{Resolution}
use Rattle.mufom_image_values.specs.Resolutions.{resolution_of}
use Rattle.mufom_image_values.proofs.CommonLaws.{resolution-at}
use Rattle.std.proofs.lemmas.List.{take_all}
use Rattle.std.proofs.lemmas.Option.{slice_get-get_or}
use Rattle.mufom_image.specs.Rooms.{room_of, with_asked}
use Rattle.mufom_image.proofs.RoomLaws.{sections_for, asked_by, asked-step, all-sections}
use Rattle.mufom_image.proofs.commons.all_commons.Goals as goal

pub loop-place-preserved : goal.loop-place-preserved
loop-place-preserved c =
    let m = c.args.module.now in
    let k = c.loop-place.place in
    let r = c.index-references-place.result in
    let all : c.as_slice-references.result.now ≡ m.names.references = c.as_slice-references.ensures
    ∙ ap (λ (parts : Parts). parts.names.references) c.parts.ensures.same in
    let inside : k < length m.names.references = omega (arith, c.loop-place-test.true, ap length all) in
    let is : get_or m.names.references k r ≡ r = ap (λ (rs : List Reference). get_or rs k r) (sym all) ∙ sym c.index-references-place.is in
    let at = slice_get-get_or m.names.references k r inside ∙ ap Some is in
    c.in_ok-make_room.ensures
    ∙ ap (λ (met : Resolution). with_asked c.loop-place.commons.items (room_of met r.weak) r.name) (resolution-at m c.args.resolutions.now k _ r c.requires at)
    ∙ ap (λ (sections : List Section). with_asked sections (room_of (resolution_of m r) r.weak) r.name) c.loop-place.invariant
    ∙ asked-step m k r inside is

pub returns : goal.returns
returns c =
    let m = c.args.module.now in
    let all : c.as_slice-references.result.now ≡ m.names.references = c.as_slice-references.ensures
    ∙ ap (λ (parts : Parts). parts.names.references) c.parts.ensures.same in
    let whole : take c.loop-place.place m.names.references ≡ m.names.references =
    take_all c.loop-place.place m.names.references (omega (arith, c.loop-place-test.false, ap length all)) in
    c.from_vec.ensures ∙ c.loop-place.invariant ∙ ap (λ (rs : List Reference). sections_for (asked_by m rs)) whole ∙ all-sections m
