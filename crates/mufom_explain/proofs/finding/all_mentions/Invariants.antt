use Rattle.std.proofs.Common.{◌≡◌, map, take}
use Rattle.mufom_explain.specs.Flat.{parts_of, wanted_names}
use Rattle.mufom_explain.specs.Mentions.{mentions_of}
use Rattle.mufom_explain.proofs.finding.all_mentions.Given as goal

-- the mentions by the modules so far
abbrev pub invariant-loop-position : goal.invariant-loop-position
invariant-loop-position l = l.lists.items ≡ map (mentions_of (take l.position (parts_of l.flat))) (wanted_names l.wanted)
