use Rattle.std.proofs.Common.{◌≡◌, ◌∙◌, ◌++◌, ◌∷◌, [], ℕ, ◌*◌, List, length, ap, sym, append-nil}
use Rattle.mufom_sections.specs.declared.section.Section.{Section}
use Rattle.mufom_module.specs.declared.module.Parts.{Parts}
use Rattle.mufom_place.specs.Facts.{place_refusal, sections_before, last_sections}
use Rattle.mufom_meaning.specs.Flat.{flat_sections, width}
use Rattle.mufom_meaning.specs.Placed.{placed_commons, extended_sections}
use Rattle.mufom_image.proofs.placing.placing.Goals as goal

pub returns-in-Err-clause-refused : goal.returns-in-Err-clause-refused
returns-in-Err-clause-refused c =
    let m = c.args.module.now in
    let plan = c.args.plan.now in
    let may = c.modules_may_be_placed.ensures m plan c.parts-parts.ensures.valid in
    let commons = c.in_ok-commons.ensures in
    let count : c.len-count.result ≡ length (placed_commons (m ∷ []) plan) = c.len-count.ensures ∙ ap (λ (xs : List Section). length xs) commons in
    let own : c.as_slice.result.now ≡ flat_sections (m ∷ []) = c.as_slice.ensures ∙ ap (λ (parts : Parts). parts.sections) c.parts-parts.ensures.same
    ∙ sym (append-nil m.sections) in
    let all : c.as_slice-2.result.now ≡ extended_sections (m ∷ []) plan
    = c.as_slice-2.ensures ∙ c.in_ok-sections.ensures ∙ ap (λ (xs : List Section). xs ++ c.in_ok-commons.commons) own
    ∙ ap (λ (xs : List Section). flat_sections (m ∷ []) ++ xs) commons in
    let first : sections_before c.len-count.result c.as_slice-2.result.now ≡ flat_sections (m ∷ []) = (λ i. sections_before (count i) (all i)) ∙ may.first in
    let last : last_sections c.len-count.result c.as_slice-2.result.now ≡ placed_commons (m ∷ []) plan = (λ i. last_sections (count i) (all i)) ∙ may.last in
    let bits : 8 * c.from-width.result ≡ width (m ∷ []) = ap (λ (n : ℕ). 8 * n) (c.from-width.ensures
    ∙ ap (λ (parts : Parts). parts.maus) c.parts-parts.ensures.same) in
    c.refused.ensures (place_refusal (width (m ∷ [])) plan (flat_sections (m ∷ [])) (placed_commons (m ∷ []) plan))
    (λ known. (λ i. place_refusal (sym bits i) plan (sym first i) (sym last i)) ∙ c.in-Err.ensures.refused known)
