use Rattle.std.proofs.Common.{◌≡◌, None, drop}
use Rattle.mufom_meaning.specs.Steps.{steps_of}
use Rattle.mufom_image_values.specs.Evaluated.{alone, setting_of}
use Rattle.mufom_field_values.specs.Fields.{shown_loads}
use Rattle.mufom_field_values.specs.Walk.{found_from}
use Rattle.mufom_field_values.proofs.search.Search.find.Given as goal

-- going on from here finds what going on from the first load finds
abbrev pub invariant-loop-place : goal.invariant-loop-place
invariant-loop-place l =
    found_from (setting_of l.self.placed.now) l.self.section l.self.address l.fn.first
    (steps_of (alone l.self.placed.now.graph.parts.now) None (shown_loads l.loads l.own))
    ≡ found_from (setting_of l.self.placed.now) l.self.section l.self.address l.counter
    (steps_of (alone l.self.placed.now.graph.parts.now) l.current (shown_loads (drop l.place l.loads) (drop l.place l.own)))
