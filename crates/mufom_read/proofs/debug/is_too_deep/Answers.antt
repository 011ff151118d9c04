use Rattle.std.proofs.Common.{◌≡◌, [], ℕ, length, arith, nat_le, sym, ap, ◌∙◌}
use Rattle.mufom_records.specs.declared.record.Record.{Record}
use Rattle.mufom_judging.specs.Faults as faults
use Rattle.mufom_read.specs.DebugSoFar.{stacked}
use Rattle.mufom_read.proofs.so_far.DebugSteps.{stacked-length}
use Rattle.mufom_read.proofs.debug.is_too_deep.Goals as goal

pub returns-in-BlockBegin : goal.returns-in-BlockBegin
returns-in-BlockBegin c =
    let count : length c.args.blocks.now ≡ length (stacked [] c.args.blocks.now) = (let all = stacked-length [] c.args.blocks.now in omega (arith, all)) in
    ap (λ (n : ℕ). nat_le 32 n) count
    ∙ ap (λ (row : Record). faults.is_too_deep (stacked [] c.args.blocks.now) row) (sym c.in-BlockBegin.is)
