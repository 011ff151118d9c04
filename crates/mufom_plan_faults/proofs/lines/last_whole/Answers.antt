use Rattle.std.proofs.Common.{arith}
use Rattle.mufom_plan_faults.proofs.LineLaws.{nothing-whole}
use Rattle.mufom_plan_faults.proofs.lines.last_whole.Goals as goal

pub returns : goal.returns
returns c =
    let text = c.args.text.now in
    let past = c.loop-passed-test.false in
    record {
      within = omega arith;
      whole = nothing-whole text;
      last = λ m low high. c.loop-passed.invariant m (omega (arith, past, low)) high;
    }
