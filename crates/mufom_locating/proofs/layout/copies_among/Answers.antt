use Rattle.std.proofs.Common.{◌≡◌, ◌∙◌, List, [], ◌∷◌, length, take, sym, ap}
use Rattle.mufom_module.specs.declared.module.Parts.{Parts}
use Rattle.mufom_place.specs.Copies.{all_refusal}
use Rattle.mufom_meaning.specs.Flat.{width}
use Rattle.mufom_planned.specs.Layout.{layout}
use Rattle.mufom_locating.proofs.LayoutLaws.{sections-part, unplaced-first}
use Rattle.mufom_locating.proofs.layout.copies_among.Goals as goal

pub returns-clause-refused : goal.returns-clause-refused
returns-clause-refused c =
    let m = c.args.module.now in
    let plan = c.args.plan.now in
    let l = layout (m ∷ []) plan in
    let own = c.len.ensures ∙ ap (λ (p : Parts). length p.sections) c.parts.ensures.same in
    let sections = c.split_at.ensures.front ∙ ap (λ n. take n c.args.plain.now) own ∙ sections-part m plan c.args.plain.now c.requires.plain in
    c.refused.ensures (all_refusal (width (m ∷ [])) plan l.sections l.commons l.copied)
    (unplaced-first m plan c.split_at.result.0.now c.in-Err.refusal sections c.in-Err.ensures.unplaced)
