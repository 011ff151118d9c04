use Rattle.std.proofs.Common.{◌≡◌, ◌+◌, ◌-◌, ℕ, length}
use Rattle.mufom_addr.specs.Search.{number_for}
use Rattle.mufom_addr.proofs.search.set_line_number.Given as goal

abbrev pub invariant-loop-numbers : goal.invariant-loop-numbers
invariant-loop-numbers l = (other : ℕ) → number_for l.numbers.items other ≡ number_for l.fn.numbers.items other

abbrev pub decreases-loop-numbers : goal.decreases-loop-numbers
decreases-loop-numbers l = l.place + 1 - length l.numbers.items
