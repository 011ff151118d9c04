use Rattle.std.proofs.Common.{◌≡◌, drop}
use Rattle.std.specs.Prelude.{is_none}
use Rattle.std.specs.List.{find}
use Rattle.mufom_names.specs.Index.{position_of}
use Rattle.mufom_prune.proofs.needs.first_unknown.Given as goal

abbrev pub invariant-loop-name : goal.invariant-loop-name
invariant-loop-name l = find (λ name. is_none (position_of l.publics name)) (drop l.name-index l.names)
    ≡ find (λ name. is_none (position_of l.publics name)) l.names
