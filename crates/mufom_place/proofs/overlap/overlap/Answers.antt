use Rattle.std.proofs.Common.{sym, ap, ◌∙◌, subst}
use Rattle.std.specs.List.{IsDistinct}
use Rattle.mufom_place.specs.Facts.{in_order, first_overlap as overlap_of}
use Rattle.mufom_place.proofs.ExtentOrder.{same_section, extents-distinct, sorted-in_order}
use Rattle.mufom_place.proofs.overlap.overlap.Goals as goal

pub returns : goal.returns
returns c =
    let distinct = subst (IsDistinct same_section) (sym c.in_ok-extents.ensures) (extents-distinct 0 c.args.sections.now c.args.bases.now) in
    c.first_overlap.ensures ∙ ap overlap_of (c.deref.ensures.value
    ∙ sorted-in_order c.in_ok-extents.extents.items c.sort.new.self.items distinct c.in_ok-sort.ensures.permutation c.in_ok-sort.ensures.sorted
    ∙ ap in_order c.in_ok-extents.ensures)
