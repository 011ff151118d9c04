use Rattle.std.proofs.Common.{◌∙◌, sym, refl, arith}
use Rattle.mufom_read.specs.PartsOfCode.{as_extent}
use Rattle.mufom_read.specs.Kept.{record_of_seen}
use Rattle.mufom_read.proofs.stepping.Add.{part-clean}
use Rattle.mufom_read.proofs.prefix.Prefix.part_fault.Goals as goal

pub returns : goal.returns
returns c = λ prefix is tree.
    let p = record_of_seen c.args.next.now in
    part-clean prefix (as_extent c.args.extent) c.args.self.now.size p _ (omega (arith, c.if-self-next.false)) (sym c.stands_in.ensures
    ∙ c.if-not-stands_in.false)
    (c.rule_fault.ensures prefix p is refl tree)
