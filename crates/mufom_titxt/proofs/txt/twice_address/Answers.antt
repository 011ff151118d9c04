use Rattle.mufom_titxt.proofs.TxtLaws.{names_only}
use Rattle.mufom_titxt.proofs.txt.twice_address.Goals as goal

pub unreachable-requires : goal.unreachable-requires
unreachable-requires c = names_only c.args.stop c.requires c.in_default.not-Twice
