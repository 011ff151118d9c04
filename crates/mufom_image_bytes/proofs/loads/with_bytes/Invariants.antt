use Rattle.std.proofs.Common.{◌≡◌, map, take}
use Rattle.std.specs.Prelude.{filter}
use Rattle.std.specs.List.{All}
use Rattle.mufom_image_bytes.specs.Walks.{has_bytes, IsNarrow}
use Rattle.mufom_image_bytes.proofs.loads.with_bytes.Given as goal

abbrev pub invariant-loop-item : goal.invariant-loop-item
invariant-loop-item l = record {
  narrow : All (λ item. IsNarrow item.now) l.list.items;
  items : map (λ item. item.now) l.list.items ≡ filter has_bytes (take l.item-index l.items);
}
