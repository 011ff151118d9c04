use Rattle.std.proofs.Common.{◌≡◌, ◌||◌, drop, List, ℕ}
use Rattle.mufom_plan.specs.Names.{has_name}
use Rattle.mufom_prune.proofs.needs.index_names.Given as goal

abbrev pub invariant-loop-name : goal.invariant-loop-name
invariant-loop-name l = (key : List ℕ) → (has_name l.index key || has_name (drop l.name-index l.names) key) ≡ has_name l.names key
