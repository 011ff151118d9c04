use Rattle.std.proofs.Common.{◌∙◌}
use Rattle.mufom_read.proofs.TableLaws.{has-position}
use Rattle.mufom_read.proofs.tables.has.Goals as goal

pub returns : goal.returns
returns c = c.is_some.ensures ∙ has-position c.position.result c.args.table.now c.args.index c.position.ensures.declared
