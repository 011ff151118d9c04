use Rattle.std.proofs.Common.{◌++◌, ◌∷◌, [], ap, ◌∙◌}
use Rattle.mufom_debug.specs.declared.item.Block.{Block}
use Rattle.mufom_debug.specs.declared.item.DebugItem.{Block as block_case}
use Rattle.mufom_debug.specs.Marks.{block_begin, block_end, marks_of, marks_of_item}
use Rattle.mufom_debug.proofs.MarksLemmas.{marks-Block}
use Rattle.mufom_copies.proofs.debug.map_block.Goals as goal

pub returns : goal.returns
returns g c =
    let head = c.in_ok-map_head.ensures in
    let name = c.in_ok-copy_bytes.ensures in
    let end = c.in_ok-map_end.ensures in
    ap (λ (block : Block). marks_of_item (block_case block)) c.in_ok-new.ensures
    ∙ marks-Block (record {
      head = c.in_ok-map_head.field-0;
      name = c.in_ok-copy_bytes.field-0;
      items = c.items.inside.items.items;
      end =
          c.in_ok-map_end.field-0;
    })
    ∙ (λ i. block_begin (head i) (name i) ∷ (marks_of (c.items.view_is i) ++ block_end (end i) ∷ []))
