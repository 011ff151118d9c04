use Rattle.std.proofs.Common.{◌≡◌, ◌++◌, drop, flat_map, option_to_list}
use Rattle.mufom_names.specs.Index.{position_of}
use Rattle.mufom_prune.proofs.needs.add_named.Given as goal

abbrev pub invariant-loop-name : goal.invariant-loop-name
invariant-loop-name l = l.all ++ flat_map (λ name. option_to_list (position_of l.publics name)) (drop l.name-index l.names)
    ≡ l.fn.all ++ flat_map (λ name. option_to_list (position_of l.publics name)) l.names
