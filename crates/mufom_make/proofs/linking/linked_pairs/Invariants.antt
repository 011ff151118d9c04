use Rattle.std.proofs.Common.{◌-◌, ◌*◌, ◌<◌, ◌≤◌, ◌++◌, length}
use Rattle.mufom_meaning.specs.Staging.{IsStaged}
use Rattle.mufom_meaning.specs.StagingLaws.{total_weight}
use Rattle.mufom_make.specs.Generated.{made_modules, modules_from}
use Rattle.mufom_make.specs.Links.{most_weight}
use Rattle.mufom_make.proofs.linking.linked_pairs.Given as goal

abbrev pub invariant-loop-first : goal.invariant-loop-first
invariant-loop-first l = record {
  within : l.first ≤ l.count;
  some : 0 < l.first → 0 < length l.pairs.items;
  staged : IsStaged (l.pairs.items ++ modules_from l.count (l.count - l.first) l.first) (made_modules l.count);
  light : total_weight l.pairs.items ≤ most_weight * l.first;
}

abbrev pub decreases-loop-first : goal.decreases-loop-first
decreases-loop-first l = l.count - l.first
