use Rattle.std.proofs.Common.{sym, ◌∙◌, ap, subst}
use Rattle.mufom_meaning.specs.AddressMap.{run_cells, AreApart}
use Rattle.mufom_moves.proofs.JoinLaws.{finished, closed_cells}
use Rattle.mufom_moves.proofs.joining.Joiner.finish.Goals as goal

pub returns-clause-apart : goal.returns-clause-apart
returns-clause-apart c = subst (AreApart 0) (sym c.in_ok-close.ensures.joined) (finished c.args.self c.requires)

pub returns-clause-cells : goal.returns-clause-cells
returns-clause-cells c = ap run_cells c.in_ok-close.ensures.joined ∙ closed_cells c.args.self c.requires
