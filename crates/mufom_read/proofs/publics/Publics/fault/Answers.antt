use Rattle.std.proofs.Common.{◌+◌, ◌<◌, ◌≤◌, length, drop, get_or, sym, ap, ◌∙◌, arith, option_map}
use Rattle.mufom_read.specs.Kept.{as_fault}
use Rattle.mufom_read.specs.NamesSoFar.{public_faults, earlier, least_from}
use Rattle.mufom_read.proofs.so_far.PublicFaults.{faults-step, faults-end}
use Rattle.mufom_read.proofs.publics.Publics.fault.Goals as goal

pub loop-position-preserved : goal.loop-position-preserved
loop-position-preserved c =
    let n = c.args.self.now in
    let t = c.args.tables.now in
    let i = c.loop-position.position in
    let a = option_map as_fault c.loop-position.fault in
    let same = c.deref-public-items.ensures.value in
    let within : i < length n.list.items = omega (arith, c.loop-position-test.true, ap length same) in
    let marked : i < length n.marks.items = omega (arith, within, c.requires) in
    ap (λ f. least_from f (public_faults t (drop (i + 1) n.marks.items) (drop (i + 1) n.list.items))) (c.earlier-fault.ensures
    ∙ ap (earlier a) c.public_fault.ensures)
    ∙ faults-step t n.marks.items n.list.items i c.index.result.now c.public-item.result a marked within c.index.ensures (c.public-item.is
    ∙ ap (λ l. get_or l i c.public-item.result) same)
    ∙ c.loop-position.invariant

pub returns : goal.returns
returns c =
    let n = c.args.self.now in
    let i = c.loop-position.position in
    let past : length n.list.items ≤ i = omega (arith, c.loop-position-test.false, ap length c.deref-public-items.ensures.value) in
    let marked : length n.marks.items ≤ i = omega (arith, past, c.requires) in
    sym (faults-end c.args.tables.now n.marks.items n.list.items (option_map as_fault c.loop-position.fault) i marked past) ∙ c.loop-position.invariant
