use Rattle.mufom_archive.proofs.EntryLaws.{entry_is}
use Rattle.mufom_archive.proofs.entry.entry_of.Goals as goal

pub returns-clause-entry : goal.returns-clause-entry
returns-clause-entry c = entry_is c.args.offset c.in_ok-size.size c.args.header.now c.label_of-label.result c.if-not-is_header.ensures
    c.in_ok-size.ensures.size c.label_of-label.ensures
