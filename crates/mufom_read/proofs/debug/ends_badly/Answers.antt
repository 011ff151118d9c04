use Rattle.std.proofs.Common.{◌==◌, ◌&&◌, ◌||◌, ◌-◌, [], Bool, length, arith, sym, ap, ◌∙◌}
use Rattle.mufom_debug.specs.Marks.{kind_number}
use Rattle.mufom_read.specs.DebugSoFar.{stacked}
use Rattle.mufom_read.proofs.so_far.DebugSteps.{innermost, end-within}
use Rattle.mufom_read.proofs.debug.ends_badly.Goals as goal

pub returns-then-is_some : goal.returns-then-is_some
returns-then-is_some c =
    let b = c.innermost-item.result in
    let inner = innermost [] c.args.blocks.now (length c.args.blocks.now - 1) b (omega (arith, c.in-len1-up.len_at_least)) c.innermost-item.is in
    c.ends_plainly.ensures
    ∙ ap (λ (given : Bool). given && ((kind_number b.head == 3) || (kind_number b.head == 5))) (sym (sym c.is_some.ensures ∙ c.if-is_some.true))
    ∙ sym (end-within (stacked [] c.args.blocks.now) inner.0 b c.args.record.now c.in-BlockEnd.value inner.1 c.in-BlockEnd.is)

pub returns-else-is_some : goal.returns-else-is_some
returns-else-is_some c =
    let b = c.innermost-item.result in
    let inner = innermost [] c.args.blocks.now (length c.args.blocks.now - 1) b (omega (arith, c.in-len1-up.len_at_least)) c.innermost-item.is in
    c.if-is_some.false
    ∙ ap (λ (given : Bool). given && ((kind_number b.head == 3) || (kind_number b.head == 5))) (sym (sym c.is_some.ensures ∙ c.if-is_some.false))
    ∙ sym (end-within (stacked [] c.args.blocks.now) inner.0 b c.args.record.now c.in-BlockEnd.value inner.1 c.in-BlockEnd.is)
