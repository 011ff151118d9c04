use Rattle.std.proofs.Common.{◌≡◌, ◌++◌, List, Some, drop}
use Rattle.mufom_meaning.specs.Steps.{Step, item_steps}
use Rattle.mufom_image_values.specs.Evaluated.{alone, setting_of}
use Rattle.mufom_field_values.specs.Walk.{found_from}
use Rattle.mufom_field_values.proofs.search.Search.take_all.Given as goal

-- going on from here finds what going on from the first item finds
abbrev pub invariant-loop-item : goal.invariant-loop-item
invariant-loop-item l = (more : List Step)
    → found_from (setting_of l.self.placed.now) l.self.section l.self.address l.fn.counter
    (item_steps (alone l.self.placed.now.graph.parts.now) (Some l.self.section) l.items ++ more)
    ≡ found_from (setting_of l.self.placed.now) l.self.section l.self.address l.counter
    (item_steps (alone l.self.placed.now.graph.parts.now) (Some l.self.section) (drop l.item-index l.items) ++ more)
