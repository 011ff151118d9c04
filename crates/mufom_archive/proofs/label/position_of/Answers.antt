use Rattle.std.proofs.lemmas.List.{take_rest}
use Rattle.mufom_archive.proofs.NameLaws.{reference}
use Rattle.mufom_archive.proofs.label.position_of.Goals as goal

pub decimal-requires-clause-digits : goal.decimal-requires-clause-digits
decimal-requires-clause-digits c = rw take_rest (reference c.args.name.now c.requires.reference)
