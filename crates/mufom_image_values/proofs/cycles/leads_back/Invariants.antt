use Rattle.std.proofs.Common.{length}
use Rattle.mufom_image_values.specs.Graph.{edges}
use Rattle.mufom_image_values.specs.Circles.{search_of}
use Rattle.mufom_image_values.proofs.SearchLaws.{IsSearching, left}
use Rattle.mufom_image_values.proofs.cycles.leads_back.Given as goal

-- the marks and what is still to be followed are those of a search from the position
abbrev pub invariant-loop-public : goal.invariant-loop-public
invariant-loop-public l =
    IsSearching (edges l.graph.resolutions.now l.graph.parts.now.names.publics) (length l.graph.parts.now.names.publics) l.position
    (search_of l.marks.items l.pending.items)

-- each turn leaves less to do
abbrev pub decreases-loop-public : goal.decreases-loop-public
decreases-loop-public l = left (search_of l.marks.items l.pending.items)
