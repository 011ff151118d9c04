use Rattle.std.proofs.Common.{arith}
use Rattle.mufom_prepare.proofs.PartLaws.{no-names, none-kept}
use Rattle.mufom_prepare.proofs.locating.kept_part.Goals as goal

pub returns-in-empty-clause-ok : goal.returns-in-empty-clause-ok
returns-in-empty-clause-ok c =
    none-kept c.args.keep.now c.args.stays.now c.args.whole (no-names c.args.keep.now (omega (arith, c.in-empty.len_below)))
