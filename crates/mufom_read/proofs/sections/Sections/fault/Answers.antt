use Rattle.std.proofs.Common.{◌<◌, ◌≤◌, length, get_or, sym, ap, ◌∙◌, arith}
use Rattle.mufom_read.proofs.so_far.SectionFaults.{unbased-here, unbased-later, unbased-end}
use Rattle.mufom_read.proofs.sections.Sections.fault.Goals as goal

pub returns-then-is_unbased : goal.returns-then-is_unbased
returns-then-is_unbased c =
    let s = c.args.self.now in
    let i = c.loop-position.position in
    let same = c.deref-section-items.ensures.value in
    let within : i < length s.list.items = omega (arith, c.loop-position-test.true, ap length same) in
    let marked : i < length s.starts.items = omega (arith, within, c.requires) in
    unbased-here s.starts.items s.list.items i c.index.result.now c.section-item.result marked within c.index.ensures (c.section-item.is
    ∙ ap (λ l. get_or l i c.section-item.result) same) (sym c.is_unbased.ensures ∙ c.if-is_unbased.true)
    ∙ c.loop-position.invariant

pub loop-position-preserved : goal.loop-position-preserved
loop-position-preserved c =
    let s = c.args.self.now in
    let i = c.loop-position.position in
    let same = c.deref-section-items.ensures.value in
    let within : i < length s.list.items = omega (arith, c.loop-position-test.true, ap length same) in
    let marked : i < length s.starts.items = omega (arith, within, c.requires) in
    unbased-later s.starts.items s.list.items i c.section-item.result marked within (c.section-item.is
    ∙ ap (λ l. get_or l i c.section-item.result) same) (sym c.is_unbased.ensures ∙ c.if-is_unbased.false)
    ∙ c.loop-position.invariant

pub returns : goal.returns
returns c =
    let s = c.args.self.now in
    let i = c.loop-position.position in
    let past : length s.list.items ≤ i = omega (arith, c.loop-position-test.false, ap length c.deref-section-items.ensures.value) in
    let marked : length s.starts.items ≤ i = omega (arith, past, c.requires) in
    sym (unbased-end s.starts.items s.list.items i marked past) ∙ c.loop-position.invariant
