use Rattle.std.proofs.Common.{◌≡◌, ◌∙◌, ◌+◌, List, [], ◌∷◌, length, map, drop, sym, ap, subst, arith, refl}
use Rattle.std.specs.Prelude.{flat_map, slice_index_or, None}
use Rattle.std.specs.List.{enumerate_from}
use Rattle.std.proofs.lemmas.List.{append-nil}
use Rattle.mufom_numbers.proofs.Choices.{equal_numbers}
use Rattle.mufom_module.specs.declared.module.Parts.{Parts}
use Rattle.mufom_place.specs.declared.placing.Placing.{Placing}
use Rattle.mufom_place.specs.declared.placing.RegionCopy.{RegionCopy}
use Rattle.mufom_place.specs.Bases.{numbered, placing_of}
use Rattle.mufom_planned.specs.Layout.{Layout, layout, layout_bases, layout_placings}
use Rattle.mufom_locating.specs.Moves.{region_move, section_shifts}
use Rattle.mufom_locating.proofs.LayoutLaws.{own-count}
use Rattle.mufom_locating.proofs.SectionLaws.{plain-within}
use Rattle.mufom_locating.proofs.MoveLaws.{no-shifts, all-shifts, empty-list}
use Rattle.mufom_locating.proofs.copied.shifts_of.Goals as goal

pub returns-then-is_empty : goal.returns-then-is_empty
returns-then-is_empty c =
    let l = layout (c.args.module.now ∷ []) c.args.plan.now in
    let none = empty-list c.as_slice-copies.result.now (equal_numbers (length c.as_slice-copies.result.now) 0 (sym c.if-is_empty.ensures)) in
    c.new.ensures.items ∙ sym (no-shifts l (sym c.requires.placed.copies.are ∙ sym c.as_slice-copies.ensures ∙ none))

pub split_at-requires : goal.split_at-requires
split_at-requires c =
    plain-within (c.args.module.now ∷ []) c.args.plan.now c.as_slice-bases.result.now c.args.placed.now.plain
    (c.as_slice-bases.ensures ∙ c.requires.placed.places.bases_are) c.requires.placed.count

pub returns : goal.returns
returns c =
    let m = c.args.module.now in
    let l = layout (m ∷ []) c.args.plan.now in
    let bases : c.as_slice-bases.result.now ≡ layout_bases l = c.as_slice-bases.ensures ∙ c.requires.placed.places.bases_are in
    let copies = c.as_slice-copies.ensures ∙ c.requires.placed.copies.are in
    let back = c.split_at.ensures.back ∙ (λ i. drop (c.requires.placed.count i) (bases i)) in
    let moves = c.in_ok-moves.ensures ∙ (λ i. map (region_move (copies i) (back i)) (enumerate_from 0 (c.as_slice-regions.ensures i))) in
    let own = c.as_slice-sections.ensures ∙ ap (λ (p : Parts). p.sections) c.parts.ensures.same ∙ sym (append-nil m.sections) in
    let placings = c.as_slice.ensures ∙ c.in_ok-placings.ensures in
    let count : length c.as_slice-sections.result.now ≡ length l.sections = ap length own in
    c.in_ok-shifts.ensures
    ∙ (λ i. flat_map (section_shifts (bases i) (c.deref.ensures.value i) (c.deref-2.ensures.value i)) (numbered (own i)))
    ∙ all-shifts l c.in_ok-moves.moves.items moves c.in_ok-given.given.items
    (λ n less. c.in_ok-given.ensures.value n (omega (arith, less, count)) ∙ ap (λ (ps : List Placing). placing_of ps n) placings)
