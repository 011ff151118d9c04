use Rattle.std.proofs.Common.{◌≡◌, ◌-◌, ℕ, List, length}
use Rattle.mufom_archive.specs.Reading.{entries_of}
use Rattle.mufom_members.specs.Reading.{HasBegun}
use Rattle.mufom_members.proofs.archive.Gatherer.gather.Given as goal

abbrev pub invariant-entries : goal.invariant-entries
invariant-entries l = record {
  begun : (stream : List ℕ) → HasBegun l.initial.self stream l.chunk l.start → HasBegun l.self stream l.chunk l.start;
  options : l.self.gathered.options ≡ l.initial.self.gathered.options;
}

abbrev pub decreases-entries : goal.decreases-entries
decreases-entries l = length (entries_of l.self.archive) - l.self.done
