use Rattle.std.proofs.Common.{◌≡◌, ◌-◌, length, List, false, None}
use Rattle.mufom_judging.specs.Prefixes.{Step, is_ended}
use Rattle.mufom_judging.specs.Faults.{ended_part_fault}
use Rattle.mufom_read.specs.PrefixOfCode.{IsPrefixOf}
use Rattle.mufom_read.specs.Reader.{HasGoneOn}
use Rattle.mufom_read.proofs.state.take_all.Given as goal

abbrev pub invariant-loop-alloc : goal.invariant-loop-alloc
invariant-loop-alloc l = (before : List Step) → IsPrefixOf l.initial.prefix before → (is_ended before ≡ false → ended_part_fault before ≡ None)
    → HasGoneOn l.options before l.rest l.prefix l.taken

abbrev pub decreases-loop-alloc : goal.decreases-loop-alloc
decreases-loop-alloc l = length l.rest - l.taken
