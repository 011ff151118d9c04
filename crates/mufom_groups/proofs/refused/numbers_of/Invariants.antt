use Rattle.std.proofs.Common.{◌≡◌, ◌-◌}
use Rattle.mufom_words.specs.Sound.{numbers_from}
use Rattle.mufom_groups.proofs.refused.numbers_of.Given as goal

abbrev pub invariant-loop-number : goal.invariant-loop-number
invariant-loop-number l = l.files ≡ numbers_from l.fn.range.first (l.number - l.fn.range.first)
