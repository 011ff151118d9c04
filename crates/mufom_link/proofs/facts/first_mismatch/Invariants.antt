use Rattle.std.proofs.Common.{◌≡◌, drop, find, not}
use Rattle.mufom_meaning.specs.LinkAnswer.{same_descriptor}
use Rattle.mufom_link.proofs.facts.first_mismatch.Given as goal

abbrev pub invariant-loop-other : goal.invariant-loop-other
invariant-loop-other l = find (λ other. not (same_descriptor l.first other)) (drop l.other-index l.others)
    ≡ find (λ other. not (same_descriptor l.first other)) l.others
