use Rattle.std.proofs.Common.{arith}
use Rattle.mufom_origins.proofs.PlaceLaws.{before-at_most, place-found, place-past}
use Rattle.mufom_origins.proofs.origins.place_of.Goals as goal

pub overflow_sub-entry : goal.overflow_sub-entry
overflow_sub-entry c =
    let most = before-at_most c.args.ends.now 0 c.args.number c.ended-module.result (omega arith) c.ended-module.ensures in
    omega (arith, most, c.entries_before.ensures)

pub returns-then-module-ends : goal.returns-then-module-ends
returns-then-module-ends c counts is =
    place-found c.args.ends.now counts c.args.number c.ended-module.result c.entries_before.result
    (omega arith) is c.ended-module.ensures c.if-module-ends.true c.entries_before.ensures

pub returns-else-module-ends : goal.returns-else-module-ends
returns-else-module-ends c counts is =
    place-past c.args.ends.now counts c.args.number c.ended-module.result (omega arith) is c.ended-module.ensures c.if-module-ends.false
