use Rattle.std.proofs.Common.{◌∙◌, ap, sym}
use Rattle.mufom_judging.specs.Faults.{record_fault}
use Rattle.mufom_read.specs.Kept.{record_of_seen}
use Rattle.mufom_read.specs.PrefixOfCode.{as_location}
use Rattle.mufom_read.proofs.prefix.Prefix.record_fault.Goals as goal

pub returns-in-Part : goal.returns-in-Part
returns-in-Part c = λ prefix is tree.
    c.part_fault.ensures prefix is tree
    ∙ sym (ap (λ pl. record_fault prefix (as_location pl) c.args.self.now.size (record_of_seen c.args.next.now)) c.in-Part.is)
