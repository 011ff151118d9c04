use Rattle.std.proofs.Common.{◌≡◌, ◌≤◌, ◌+◌, ◌++◌, drop, length, map}
use Rattle.std.specs.String.{string_bytes}
use Rattle.mufom_words.specs.Faulty.{placed_from}
use Rattle.mufom_words.proofs.roles.placed_operands.Given as goal

abbrev pub invariant-loop-role : goal.invariant-loop-role
invariant-loop-role l = record {
  rest : l.placed.items ++ placed_from l.place (drop l.role-index l.roles) (map (λ word. string_bytes word) l.left)
      ≡ placed_from 1 l.roles (map (λ word. string_bytes word) l.words);
  place : l.place ≡ l.role-index + 1;
  left : l.role-index + length l.left ≡ length l.words;
  few : length l.placed.items ≤ l.role-index;
}
