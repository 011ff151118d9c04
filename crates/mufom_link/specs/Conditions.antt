-- The conditions that a list of modules and a name must meet to be linked.
use Rattle.std.specs.Prelude.{ℕ, ◌+◌, ◌<◌, ◌^◌, List, length}
use Rattle.mufom_module.specs.declared.module.Parts.{Parts}
use Rattle.mufom_meaning.specs.StagingLaws.{total_weight}

-- the list is not empty, the name fits in a string of the format, and the weights of the modules and the length of the name are small enough
pub record MayBeLinked (ms : List Parts) (name : List ℕ) : Type 0 where
  pub some : 0 < length ms
  pub short : length name < 2 ^ 16
  pub light : total_weight ms + length name < 2 ^ 32
