use Rattle.std.proofs.Common.{◌≡◌, ℕ, ◌+◌, ◌-◌, ◌≤◌, List, ◌++◌, length, take}
use Rattle.mufom_archive.specs.Reading.{HasRead}
use Rattle.mufom_archive.proofs.archive.Archive.feed.Given as goal

abbrev pub invariant-loop-taken : goal.invariant-loop-taken
invariant-loop-taken l = record {
  within : l.taken ≤ length l.chunk;
  counted : l.self.length ≡ l.initial.self.length + l.taken;
  read : (stream : List ℕ) → HasRead l.initial.self stream → HasRead l.self (stream ++ take l.taken l.chunk);
}

abbrev pub decreases-loop-taken : goal.decreases-loop-taken
decreases-loop-taken l = length l.chunk - l.taken
