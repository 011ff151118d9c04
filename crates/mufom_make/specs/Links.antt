-- Links of generated modules.
use Rattle.std.specs.Prelude.{ℕ, ◌≤◌, ◌*◌, List, [], length}
use Rattle.mufom_module.specs.declared.module.Parts.{Parts}
use Rattle.mufom_module.specs.Written.{weight}
use Rattle.mufom_meaning.specs.Joined.{IsJoined}
use Rattle.mufom_meaning.specs.Staging.{NameStays}

-- the greatest weight of a generated module
abbrev pub most_weight : ℕ
most_weight = 512

-- M is the link of generated modules, under the name of the first
pub record IsLinkOf (M : Parts) (ms : List Parts) : Type 0 where
  pub joined : IsJoined M ms M.name
  pub named : NameStays [] M ms
  pub light : weight M ≤ most_weight * length ms
