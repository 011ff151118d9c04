use Rattle.std.proofs.Common.{List, ap, ◌∙◌, arith}
use Rattle.mufom_debug.specs.declared.item.DebugItem.{DebugItem}
use Rattle.mufom_debug.specs.Marks.{marks_of}
use Rattle.mufom_module.specs.declared.module.Parts.{Parts}
use Rattle.mufom_works.specs.Text.{item_count}
use Rattle.mufom_works.proofs.LineLaws.{few_items}
use Rattle.mufom_works.proofs.lines.debug_total.Goals as goal

pub returns : goal.returns
returns c =
    let few = few_items c.args.module.now c.parts.ensures.valid in
    let items = c.as_slice.ensures ∙ ap (λ (m : Parts). m.debug) c.parts.ensures.same in
    let same = ap (λ (list : List DebugItem). item_count (marks_of list)) items in
    omega (arith, few, same, c.items_total.ensures)
