use Rattle.std.proofs.Common.{sym, ◌∙◌}
use Rattle.mufom_read.specs.Kept.{record_of_seen}
use Rattle.mufom_read.proofs.so_far.LoadLaws.{field-made}
use Rattle.mufom_read.proofs.loads.item_of.Goals as goal

pub returns-in-Some : goal.returns-in-Some
returns-in-Some c = λ ix value.
    field-made ix (record_of_seen c.args.record.now) c.args.maus c.in-FieldItem.kind c.in-FieldItem.field-1 c.in-FieldItem.size c.in-Some.value _
    c.in-FieldItem.is (sym c.in-Some.is ∙ value) c.unwrap_or.ensures
