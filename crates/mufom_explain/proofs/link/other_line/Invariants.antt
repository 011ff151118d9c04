use Rattle.std.proofs.Common.{[]}
use Rattle.mufom_explain.proofs.LinkLaws.{NoneBefore}
use Rattle.mufom_explain.proofs.link.other_line.Given as goal

-- no module so far has another descriptor, and nothing was put
abbrev pub invariant-loop-position : goal.invariant-loop-position
invariant-loop-position g l = g.K.Output.takes l.fn.out l.out [] × NoneBefore l.flat l.position
