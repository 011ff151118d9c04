use Rattle.std.proofs.Common.{sym, ap, ◌∙◌, option_map}
use Rattle.mufom_module.specs.SpelledRecords.{positioned}
use Rattle.mufom_read.specs.Kept.{record_of_seen, indexes_by}
use Rattle.mufom_read.specs.LoadsSoFar.{with_made}
use Rattle.mufom_read.proofs.so_far.LoadLaws.{item-own, stepped}
use Rattle.mufom_read.proofs.loads.Loads.take.Goals as goal

pub item_of-requires-clause-value : goal.item_of-requires-clause-value
item_of-requires-clause-value c =
    let ix = indexes_by c.args.tables.now in (
      ix,
      c.renamed-value.ensures ∙ ap (option_map (positioned ix))
          (c.requires.tree (item-own c.args.record.now.row.now (sym c.is_item.ensures ∙ c.if-is_item.true))),
    )

pub returns-in_ok-item : goal.returns-in_ok-item
returns-in_ok-item c =
    let ix = indexes_by c.args.tables.now in
    let value = c.renamed-value.ensures ∙ ap (option_map (positioned ix))
    (c.requires.tree (item-own c.args.record.now.row.now (sym c.is_item.ensures ∙ c.if-is_item.true))) in
    stepped c.add_item.result c.add_item.new.self _ _ (sym (ap (with_made ix c.args.self.now (record_of_seen c.args.record.now))
    (c.in_ok-item.ensures ix value))) c.add_item.ensures
