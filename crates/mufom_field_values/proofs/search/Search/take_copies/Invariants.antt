use Rattle.std.proofs.Common.{◌≡◌, ◌-◌, ◌++◌, List, Some}
use Rattle.mufom_loads.specs.Lengths.{repeated}
use Rattle.mufom_meaning.specs.Steps.{Step, item_steps}
use Rattle.mufom_image_values.specs.Evaluated.{alone, setting_of}
use Rattle.mufom_field_values.specs.Walk.{found_from}
use Rattle.mufom_field_values.proofs.search.Search.take_copies.Given as goal

-- going on with the copies that are left finds what going on with all finds
abbrev pub invariant-loop-taken : goal.invariant-loop-taken
invariant-loop-taken l = (more : List Step)
    → found_from (setting_of l.self.placed.now) l.self.section l.self.address l.fn.counter
    (repeated l.count (item_steps (alone l.self.placed.now.graph.parts.now) (Some l.self.section) l.items) ++ more)
    ≡ found_from (setting_of l.self.placed.now) l.self.section l.self.address l.counter
    (repeated (l.count - l.taken) (item_steps (alone l.self.placed.now.graph.parts.now) (Some l.self.section) l.items) ++ more)
