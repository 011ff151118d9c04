use Rattle.std.proofs.Common.{List, ℕ, option_map, take, Bor}
use Rattle.mufom_addr.specs.Entries.{entries_of}
use Rattle.mufom_addr.specs.Search.{SeesMore}
use Rattle.mufom_addr.proofs.ItemLaws.{around_at}
use Rattle.mufom_addr.proofs.search.Search.+seeing.Given as goal

abbrev pub invariant-see_items-loop-item : goal.invariant-see_items-loop-item
invariant-see_items-loop-item l =
    SeesMore (entries_of (take l.item-index l.items) (around_at l.depth (option_map (λ (s : Bor (List ℕ)). s.now) l.source))) l.fn.self l.self
