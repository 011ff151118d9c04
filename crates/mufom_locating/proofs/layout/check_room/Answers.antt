use Rattle.std.proofs.Common.{◌≡◌, ◌≢◌, ◌∙◌, ◌*◌, ◌+◌, ◌-◌, [], ◌∷◌, length, length-append, true, false, sym, ap, arith}
use Rattle.mufom_module.specs.declared.module.Parts.{Parts}
use Rattle.mufom_place.specs.declared.refusal.PlaceRefusal.TheVariants.{NoMemory}
use Rattle.mufom_place.specs.Copies.{all_refusal}
use Rattle.mufom_place.specs.Facts.{last_sections, place_refusal, sections_before}
use Rattle.mufom_meaning.specs.Flat.{width}
use Rattle.mufom_planned.specs.Layout.{layout}
use Rattle.mufom_locating.specs.Placed.{is_overlap}
use Rattle.mufom_locating.proofs.LayoutLaws.{own-count}
use Rattle.mufom_locating.proofs.MisfitLaws.{first-error, room-overlapped}
use Rattle.mufom_locating.proofs.layout.check_room.Goals as goal

pub returns-then-is_overlap-clause-room : goal.returns-then-is_overlap-clause-room
returns-then-is_overlap-clause-room c =
    let m = c.args.module.now in
    let plan = c.args.plan.now in
    let l = layout (m ∷ []) plan in
    let may = c.modules_may_be_placed.ensures m plan c.parts-parts.ensures.valid in
    let own = c.len.ensures ∙ ap (λ (p : Parts). length p.sections) c.parts-parts.ensures.same in
    let few = own-count m plan in
    let plain = c.requires.plain in
    let total = ap length plain ∙ length-append l.sections l.commons in
    let count : length c.args.plain.now - c.len.result ≡ length l.commons = omega (arith, total, own, few) in
    let first = (λ i. sections_before (count i) (plain i)) ∙ may.first in
    let last = (λ i. last_sections (count i) (plain i)) ∙ may.last in
    let bits : 8 * c.from-width.result ≡ width (m ∷ []) = ap (λ n. 8 * n) (c.from-width.ensures ∙ ap (λ (p : Parts). p.maus) c.parts-parts.ensures.same) in
    let is : is_overlap c.in-Err.refusal ≡ true = sym c.is_overlap.ensures ∙ c.if-is_overlap.true in
    let known : c.in-Err.refusal ≢ NoMemory = λ none. (let both : true ≡ false = sym is ∙ ap is_overlap none in cc) in
    room-overlapped (width (m ∷ [])) plan l.sections l.commons c.in-Err.refusal is
    ((λ i. place_refusal (sym bits i) plan (sym first i) (sym last i)) ∙ c.in-Err.ensures.refused known)

pub returns-clause-refused : goal.returns-clause-refused
returns-clause-refused c =
    let m = c.args.module.now in
    let plan = c.args.plan.now in
    let l = layout (m ∷ []) plan in
    let may = c.modules_may_be_placed.ensures m plan c.parts-parts.ensures.valid in
    let own = c.len.ensures ∙ ap (λ (p : Parts). length p.sections) c.parts-parts.ensures.same in
    let few = own-count m plan in
    let plain = c.requires.plain in
    let total = ap length plain ∙ length-append l.sections l.commons in
    let count : length c.args.plain.now - c.len.result ≡ length l.commons = omega (arith, total, own, few) in
    let first = (λ i. sections_before (count i) (plain i)) ∙ may.first in
    let last = (λ i. last_sections (count i) (plain i)) ∙ may.last in
    let bits : 8 * c.from-width.result ≡ width (m ∷ []) = ap (λ n. 8 * n) (c.from-width.ensures ∙ ap (λ (p : Parts). p.maus) c.parts-parts.ensures.same) in
    let is : is_overlap c.in-Err.refusal ≡ false = sym c.is_overlap.ensures ∙ c.if-is_overlap.false in
    c.refused.ensures (all_refusal (width (m ∷ [])) plan l.sections l.commons l.copied) (λ known.
    first-error (width (m ∷ [])) plan l.sections l.commons l.copied c.in-Err.refusal is
    ((λ i. place_refusal (sym bits i) plan (sym first i) (sym last i)) ∙ c.in-Err.ensures.refused known))
