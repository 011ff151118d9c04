use Rattle.std.proofs.Common.{◌≡◌, map, take, None}
use Rattle.mufom_groups.specs.Refused.{files_between, refused_among}
use Rattle.mufom_groups.proofs.refused.refused_range.Given as goal

abbrev pub invariant-loop-range : goal.invariant-loop-range
invariant-loop-range l = refused_among l.fn.modules (map files_between (take l.range-index l.ranges)) ≡ None
