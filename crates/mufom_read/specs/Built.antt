-- What the code keeps of a complete stream, from which the module is built (IEEE Std 695, module structure).
use Rattle.std.specs.Prelude.{◌≡◌, ℕ, ◌≤◌, true, List, length, map, Some}
use Rattle.mufom_numbers.specs.Spelling.{AreBytes}
use Rattle.mufom_module.specs.declared.module.Parts.{Parts}
use Rattle.mufom_module.specs.Grammar.{file_limit}
use Rattle.mufom_read.specs.declared.prefix.Prefix.{Prefix}
use Rattle.mufom_judging.specs.Prefixes.{Step, size_of, is_ended}
use Rattle.mufom_judging.specs.Judging.{IsSoundPrefix}
use Rattle.mufom_read.specs.Kept.{indexes_by}
use Rattle.mufom_read.specs.NamesSoFar.{placed_public}
use Rattle.mufom_read.specs.LoadsSoFar.{closed}
use Rattle.mufom_read.specs.PrefixOfCode.{IsPrefixOf}
use Rattle.mufom_records.specs.declared.options.ReadOptions.{ReadOptions}

-- The module consists of what the code has kept.
pub record IsStatedByKept (f : Prefix) (m : Parts) : Type 0 where
  pub names : f.contents.header.names ≡ Some (record { processor = m.processor; name = m.name })
  pub layout : f.contents.header.layout ≡ Some (record { maus = m.maus; order = m.order })
  pub extension : m.ext ≡ f.extension.items
  pub environment : m.env ≡ f.environment.items
  pub sections : m.sections ≡ f.contents.sections.list.items
  pub publics : m.names.publics ≡ map (placed_public (indexes_by f.tables)) f.contents.publics.list.items
  pub references : m.names.references ≡ f.contents.references.items
  pub debug : m.debug ≡ f.contents.debug.items
  pub loads : m.loads ≡ closed f.contents.loads
  pub start : m.start ≡ f.contents.start

-- The code keeps this prefix, which contains no error, has ended, and is the whole stream of these bytes.
pub record IsWhole (options : ReadOptions) (f : Prefix) (prefix : List Step) (bytes : List ℕ) : Type 0 where
  pub kept : IsPrefixOf f prefix
  pub fits : AreBytes bytes
  pub limit : length bytes ≤ file_limit
  pub sound : IsSoundPrefix options prefix bytes
  pub ends : is_ended prefix ≡ true
  pub all : size_of prefix ≡ length bytes
