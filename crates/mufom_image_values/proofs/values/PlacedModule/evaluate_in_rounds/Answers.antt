use Rattle.std.proofs.Common.{◌≡◌, ◌+◌, suc, ap, subst, length, arith}
use Rattle.mufom_image_values.proofs.Settled.{HaveSettled, settled-next, all-settled}
use Rattle.mufom_image_values.proofs.values.PlacedModule.evaluate_in_rounds.Goals as goal

pub loop-round-preserved : goal.loop-round-preserved
loop-round-preserved c =
    let placed = c.args.self.now in
    let round = c.loop-round._round in
    let after = c.evaluate_all.new.values.items in
    let next : suc round ≡ round + 1 = omega arith in (
      c.evaluate_all.ensures.right,
      subst (HaveSettled placed after) next
          (settled-next placed c.requires.placed round c.loop-round.values.items after c.loop-round.invariant.1 c.evaluate_all.ensures.round),
    )

pub returns-clause-evaluated : goal.returns-clause-evaluated
returns-clause-evaluated c =
    let placed = c.args.self.now in
    let values = c.loop-round.values.items in
    let rounds : c.loop-round._round ≡ suc (length placed.graph.parts.now.names.publics)
    = omega (arith, c.loop-round-test.false, c.loop-round.auto._round-end, ap length c.publics.ensures) in
    all-settled placed c.requires.placed values c.loop-round.invariant.0 (subst (HaveSettled placed values) rounds c.loop-round.invariant.1)
