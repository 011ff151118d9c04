use Rattle.std.proofs.Common.{◌≡◌, take, length}
use Rattle.mufom_image_values.specs.Graph.{mentions_of}
use Rattle.mufom_image_values.specs.Circles.{search_of, followed}
use Rattle.mufom_image_values.proofs.cycles.follow.Given as goal

-- what the tokens so far mention is followed
abbrev pub invariant-loop-token : goal.invariant-loop-token
invariant-loop-token l =
    (search_of l.marks.items l.pending.items
    ≡ followed (mentions_of l.graph.resolutions.now (take l.token-index l.tokens)) (search_of l.initial.marks.items l.initial.pending.items))
    × (length l.marks.items ≡ length l.initial.marks.items)
