use Rattle.std.proofs.Common.{◌≡◌, ◌∙◌, ◌+◌, ◌<◌, ℕ, List, Option, true, length, get_or, slice_set, ap, sym, arith}
use Rattle.mufom_sections.specs.declared.section.Section.{Section}
use Rattle.mufom_meaning.specs.Location.{placed_section}
use Rattle.mufom_image.proofs.PlacedLaws.{made_until, made-more, made-all}
use Rattle.mufom_image.proofs.placing.put_at.Goals as goal

pub loop-place-preserved : goal.loop-place-preserved
loop-place-preserved c =
    let k = c.loop-place.place in
    let x = c.index-sections-place.result in
    let whole = c.loop-place.invariant in
    let inside : k < length c.args.sections.now = omega (arith, c.loop-place-test.true, c.loop-place.auto.sections) in
    let at : x ≡ get_or (made_until (placed_section c.args.bases.now) 0 c.args.sections.now k) k x = c.index-sections-place.is
    ∙ ap (λ (xs : List Section). get_or xs k x) whole in
    let first : 0 + k ≡ k = omega arith in
    let bases = c.args.bases.now in
    ap (λ (y : Section). slice_set c.loop-place.sections k (record y { absolute = true; base = c.base_at-section.result })) (sym c.index-sections-place.is)
    ∙ ap (λ (base : Option ℕ). slice_set c.loop-place.sections k (record x { absolute = true; base = base })) c.base_at-section.ensures
    ∙ ap (λ (xs : List Section). slice_set xs k (placed_section bases (k, x))) whole
    ∙ ap (λ (n : ℕ). slice_set (made_until (placed_section bases) 0 c.args.sections.now k) k (placed_section bases (n, x))) (sym first)
    ∙ made-more (placed_section bases) 0 c.args.sections.now k x inside at

pub returns : goal.returns
returns c = c.loop-place.invariant ∙ made-all (placed_section c.args.bases.now) 0 c.args.sections.now c.loop-place.place
    (omega (arith, c.loop-place-test.false, c.loop-place.auto.sections))
