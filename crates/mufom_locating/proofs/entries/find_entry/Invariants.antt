use Rattle.std.proofs.Common.{◌≡◌, ℕ, List, drop, map, length}
use Rattle.std.specs.Prelude.{find}
use Rattle.std.specs.List.{enumerate_from}
use Rattle.mufom_plan.specs.Names.{has_name, listed_names}
use Rattle.mufom_place.specs.declared.placing.Waiting.{Waiting}
use Rattle.mufom_locating.specs.Listed.{listing_of}
use Rattle.mufom_locating.proofs.entries.find_entry.Given as goal

abbrev pub invariant-loop-place : goal.invariant-loop-place
invariant-loop-place l = record {
  count : length l.rest ≡ length (listed_names (drop l.place l.regions));
  rest : (f : List ℕ → List Waiting) → l.entries ≡ map f (listed_names l.regions) → l.rest ≡ map f (listed_names (drop l.place l.regions));
  before : listing_of l.regions l.entry ≡ find (λ r. has_name r.1.sections l.entry) (enumerate_from l.place (drop l.place l.regions));
}
