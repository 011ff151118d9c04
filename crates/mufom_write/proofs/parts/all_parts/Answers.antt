use Rattle.std.proofs.Common.{[], ◌+◌, drop, get_or}
use Rattle.mufom_debug.specs.Marks.{joined}
use Rattle.mufom_module.specs.Written.{shortest, parts}
use Rattle.mufom_write.proofs.Loops.{joined_next, leads-step, leads-stop}
use Rattle.mufom_write.proofs.parts.all_parts.Goals as goal

pub loop-number-preserved : goal.loop-number-preserved
loop-number-preserved g c =
    let i = c.loop-number.number in
    let all = parts shortest c.args.parts.now in
    leads-step g.K.Output.takes g.met.K.Output.joins _ _ _ (get_or all i []) (joined (drop (i + 1) all)) _ _
    (joined_next all i c.loop-number-test.true) c.loop-number.invariant c.in_ok-part.ensures

pub returns-in_err-part : goal.returns-in_err-part
returns-in_err-part g c =
    let i = c.loop-number.number in
    let all = parts shortest c.args.parts.now in
    leads-stop g.K.Output.takes g.met.K.Output.stops _ _ _ (get_or all i []) (joined (drop (i + 1) all)) _ _ _ _
    (joined_next all i c.loop-number-test.true) c.loop-number.invariant c.in_err-part.ensures c.from_residual.ensures.0
