use Rattle.std.proofs.Common.{◌≡◌, ◌∙◌, ◌*◌, ◌+◌, List, [], ◌∷◌, ◌++◌, length, take, drop, sym, ap, subst, arith, refl}
use Rattle.mufom_module.specs.declared.module.Parts.{Parts}
use Rattle.mufom_place.specs.declared.placing.RegionCopy.{RegionCopy}
use Rattle.mufom_place.specs.Copies.{all_bases, all_refusal, copy_sections}
use Rattle.mufom_meaning.specs.Flat.{width}
use Rattle.mufom_meaning.specs.Placed.{extended_sections}
use Rattle.mufom_planned.specs.Layout.{layout, whole_list}
use Rattle.mufom_locating.proofs.LayoutLaws.{plain-part, sections-part, commons-part}
use Rattle.mufom_locating.proofs.layout.bases_of.Goals as goal

pub returns-in-Ok-clause-placed : goal.returns-in-Ok-clause-placed
returns-in-Ok-clause-placed c =
    let m = c.args.module.now in
    let plan = c.args.plan.now in
    let l = layout (m ∷ []) plan in
    let plain = c.split_at.ensures.front ∙ plain-part m plan c.args.whole.now c.args.copies.now c.requires.whole in
    let own = c.len.ensures ∙ ap (λ (p : Parts). length p.sections) c.parts-parts.ensures.same in
    let sections : c.split_at-2.result.0.now ≡ l.sections = c.split_at-2.ensures.front ∙ (λ i. take (own i) (plain i)) ∙ sections-part m plan (extended_sections (m ∷ []) plan) refl in
    let commons : c.split_at-2.result.1.now ≡ l.commons = c.split_at-2.ensures.back ∙ (λ i. drop (own i) (plain i)) ∙ commons-part m plan (extended_sections (m ∷ []) plan) refl in
    let bits : 8 * c.from-width.result ≡ width (m ∷ []) = ap (λ n. 8 * n) (c.from-width.ensures ∙ ap (λ (p : Parts). p.maus) c.parts-parts.ensures.same) in
    let copies = c.requires.copies.are in
    let same : all_refusal (8 * c.from-width.result) plan c.split_at-2.result.0.now c.split_at-2.result.1.now c.args.copies.now
    ≡ all_refusal (width (m ∷ [])) plan l.sections l.commons l.copied = λ i. all_refusal (bits i) plan (sections i) (commons i) (copies i) in
    let whole = c.requires.whole ∙ ap (λ (cs : List RegionCopy). extended_sections (m ∷ []) plan ++ copy_sections cs) copies in
    let few = c.if-whole.false in
    let count = ap length whole in
    record {
      few = omega (arith, few, count);
      fits = sym same ∙ c.in-Ok.ensures.placed;
      bases_are = c.in-Ok.ensures.bases ∙ (λ i. all_bases plan (sections i) (commons i) (copies i));
    }

pub returns-in-Err-clause-refused : goal.returns-in-Err-clause-refused
returns-in-Err-clause-refused c =
    let m = c.args.module.now in
    let plan = c.args.plan.now in
    let l = layout (m ∷ []) plan in
    let plain = c.split_at.ensures.front ∙ plain-part m plan c.args.whole.now c.args.copies.now c.requires.whole in
    let own = c.len.ensures ∙ ap (λ (p : Parts). length p.sections) c.parts-parts.ensures.same in
    let sections : c.split_at-2.result.0.now ≡ l.sections = c.split_at-2.ensures.front ∙ (λ i. take (own i) (plain i)) ∙ sections-part m plan (extended_sections (m ∷ []) plan) refl in
    let commons : c.split_at-2.result.1.now ≡ l.commons = c.split_at-2.ensures.back ∙ (λ i. drop (own i) (plain i)) ∙ commons-part m plan (extended_sections (m ∷ []) plan) refl in
    let bits : 8 * c.from-width.result ≡ width (m ∷ []) = ap (λ n. 8 * n) (c.from-width.ensures ∙ ap (λ (p : Parts). p.maus) c.parts-parts.ensures.same) in
    let copies = c.requires.copies.are in
    let same : all_refusal (8 * c.from-width.result) plan c.split_at-2.result.0.now c.split_at-2.result.1.now c.args.copies.now
    ≡ all_refusal (width (m ∷ [])) plan l.sections l.commons l.copied = λ i. all_refusal (bits i) plan (sections i) (commons i) (copies i) in
    c.refused.ensures (all_refusal (width (m ∷ [])) plan l.sections l.commons l.copied) (λ known. sym same ∙ c.in-Err.ensures.refused known)
