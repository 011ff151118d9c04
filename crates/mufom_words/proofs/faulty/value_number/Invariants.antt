use Rattle.std.proofs.Common.{◌≡◌, ◌+◌, drop}
use Rattle.mufom_words.specs.Faulty.{value_from}
use Rattle.mufom_words.proofs.faulty.value_number.Given as goal

abbrev pub invariant-loop-index : goal.invariant-loop-index
invariant-loop-index l = value_from l.setting (l.index + 1) (drop l.index l.roles) ≡ value_from l.setting 1 l.roles
