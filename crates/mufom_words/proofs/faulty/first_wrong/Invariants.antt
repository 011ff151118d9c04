use Rattle.std.proofs.Common.{◌≡◌, ◌+◌, drop}
use Rattle.mufom_words.specs.Faulty.{wrong_from}
use Rattle.mufom_words.proofs.faulty.first_wrong.Given as goal

abbrev pub invariant-loop-role : goal.invariant-loop-role
invariant-loop-role l = record {
  rest : wrong_from l.number (drop l.role-index l.roles) ≡ wrong_from 1 l.roles;
  number : l.number ≡ l.role-index + 1;
}
