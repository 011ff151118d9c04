use Rattle.std.proofs.Common.{◌∷◌, [], sym, ap, ◌∙◌}
use Rattle.mufom_module.specs.SpelledRecords.{positioned, tree_in}
use Rattle.mufom_module.specs.RecordParts.{data_part, stands_in}
use Rattle.mufom_read.specs.Kept.{record_of_seen, indexes_by}
use Rattle.mufom_read.specs.LoadsSoFar.{loads_at_once}
use Rattle.mufom_read.proofs.so_far.LoadLaws.{pushed, pc-valued}
use Rattle.mufom_read.proofs.loads.add_loads.Goals as goal

pub set_pc-requires : goal.set_pc-requires
set_pc-requires c =
    let ix = indexes_by c.args.tables.now in
    let p = record_of_seen c.args.record.now in (
      positioned ix (tree_in p c.in-SetPc.field-1),
      c.requires.value (ap (stands_in data_part) c.in-SetPc.is)
          ∙ pc-valued ix p c.in-SetPc.index c.in-SetPc.field-1 c.in-SetPc.is,
    )

pub returns-in-SetPc : goal.returns-in-SetPc
returns-in-SetPc c =
    let ix = indexes_by c.args.tables.now in
    let p = record_of_seen c.args.record.now in
    pushed c.push-in-SetPc.result c.push-in-SetPc.new.self c.args.loads.now _ _
    ((λ k. c.set_pc.ensures (positioned ix (tree_in p c.in-SetPc.field-1)) (c.requires.value (ap (stands_in data_part) c.in-SetPc.is)
    ∙ pc-valued ix p c.in-SetPc.index c.in-SetPc.field-1 c.in-SetPc.is) k ∷ [])
    ∙ ap (λ row. loads_at_once ix p row) (sym c.in-SetPc.is))
    c.push-in-SetPc.ensures.ok
