use Rattle.std.proofs.Common.{◌≡◌, ◌≤◌, ◌∙◌, [], List, ap, subst, sym}
use Rattle.mufom_debug.specs.declared.item.DebugItem.{DebugItem}
use Rattle.mufom_debug.specs.Marks.{depth_of, marks_of}
use Rattle.mufom_meaning.specs.declared.located.LocatedParts.{LocatedParts}
use Rattle.mufom_numbers.proofs.Choices.{of_not_lt}
use Rattle.mufom_meaning.proofs.absolute.Debug.{shallow}
use Rattle.mufom_meaning.proofs.absolute.Rows.{sound}
use Rattle.mufom_works.proofs.query.lines_at.Goals as goal

pub find_address-requires : goal.find_address-requires
find_address-requires c =
    let located = c.parts-parts.ensures.located in
    let low = of_not_lt 32 (depth_of (marks_of c.args.located.now.debug))
    (shallow located.source [] located.plan c.args.located.now (located.valid, tt)
    (sound located.source [] located.plan c.args.located.now (located.valid, tt) located.is)) in
    let same : c.as_slice.result.now ≡ c.args.located.now.debug = c.as_slice.ensures ∙ ap (λ (p : LocatedParts). p.debug) c.parts-parts.ensures.same in
    subst (λ (items : List DebugItem). depth_of (marks_of items) ≤ 32) (sym same) low
