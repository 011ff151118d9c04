use Rattle.std.proofs.Common.{◌≡◌, ◌<◌, ◌^◌, drop, flat_map}
use Rattle.mufom_planned.specs.Numbers.{last_end}
use Rattle.mufom_locating.proofs.entries.last_end_of_all.Given as goal

abbrev pub invariant-loop-waiting : goal.invariant-loop-waiting
invariant-loop-waiting l = record {
  end : last_end l.bases l.end (flat_map (λ own. own) (drop l.waiting-index l.lists)) ≡ last_end l.bases l.number (flat_map (λ own. own) l.lists);
  bound : l.end < 2 ^ 66;
}
