use Rattle.std.proofs.Common.{◌-◌, List, [], length, arith, sym, ap}
use Rattle.mufom_judging.specs.Faults as faults
use Rattle.mufom_read.proofs.so_far.DebugSteps.{innermost}
use Rattle.mufom_read.proofs.debug.open_fault.Goals as goal

pub returns-in-len1-up : goal.returns-in-len1-up
returns-in-len1-up c =
    let inner = innermost [] c.args.blocks.now (length c.args.blocks.now - 1) c.innermost-item.result (omega (arith, c.in-len1-up.len_at_least))
    c.innermost-item.is in
    ap (λ (blocks : List faults.OpenBlock). faults.open_fault blocks) (sym inner.1)
