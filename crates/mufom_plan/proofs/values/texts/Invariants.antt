use Rattle.std.proofs.Common.{◌≡◌, ◌++◌, drop, map}
use Rattle.std.specs.Prelude.{option_map}
use Rattle.toml.specs.View.{view}
use Rattle.mufom_plan.specs.PlanText.{new_names as fresh_names}
use Rattle.mufom_plan.proofs.values.texts.Given as goal

-- the names so far are added, and the rest of the array decides the rest
abbrev pub invariant-loop-value : goal.invariant-loop-value
invariant-loop-value l = record {
  added : l.earlier ≡ l.fn.earlier ++ l.names;
  rest : fresh_names l.fn.earlier (map view l.values) ≡ option_map (λ more. l.names
      ++ more) (fresh_names (l.fn.earlier ++ l.names) (map view (drop l.value-index l.values)));
}
