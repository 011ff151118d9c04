use Rattle.std.proofs.Common.{◌≡◌, ◌-◌, ◌≤◌, length, List}
use Rattle.mufom_judging.specs.Prefixes.{Step}
use Rattle.mufom_read.specs.PrefixOfCode.{IsPrefixOf}
use Rattle.mufom_read.specs.Reader.{IsIncomplete}
use Rattle.mufom_read.proofs.feeding.Complete.{HasWaited}
use Rattle.mufom_read.proofs.state.State.complete.Given as goal

abbrev pub invariant-loop-used : goal.invariant-loop-used
invariant-loop-used l = record {
  within : l.used ≤ length l.chunk;
  flag : l.self.options ≡ l.initial.self.options;
  waited : (before : List Step) → IsPrefixOf l.initial.self.prefix before → IsIncomplete l.initial.self.options before l.initial.self.rest.items
      → HasWaited l.initial.self.options before l.initial.self.rest.items l.chunk l.used l.self;
}

abbrev pub decreases-loop-used : goal.decreases-loop-used
decreases-loop-used l = length l.chunk - l.used
