use Rattle.std.proofs.Common.{◌≡◌, drop, length, map}
use Rattle.std.specs.String.{string_bytes}
use Rattle.mufom_words.specs.Faulty.{roles_from, roles_in as all_roles}
use Rattle.mufom_words.specs.Options.{usage_of}
use Rattle.mufom_words.proofs.roles.roles_in.Given as goal

abbrev pub invariant-loop-index : goal.invariant-loop-index
invariant-loop-index l = record {
  rest : roles_from (usage_of l.fn.form).settings l.reading l.roles.items (map (λ word. string_bytes word) (drop l.index l.words))
      ≡ all_roles l.fn.form (map (λ word. string_bytes word) l.words);
  count : length l.roles.items ≡ l.index;
}
