use Rattle.std.proofs.Common.{true≢false, is_some, sym, ap, ◌∙◌}
use Rattle.mufom_read.proofs.TableLaws.{has-position}
use Rattle.mufom_read.proofs.publics.declared_position.Goals as goal

pub unreachable-requires : goal.unreachable-requires
unreachable-requires c = true≢false (sym c.requires ∙ sym (has-position c.position.result c.args.table.now c.args.index c.position.ensures.declared)
    ∙ ap is_some c.in-None.is)
