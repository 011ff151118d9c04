-- The bases of the sections and commons of a list of modules.
use Rattle.std.specs.Prelude.{ℕ, List, [], Option, None}

-- The base of each section, by its flat number, and the base of each common that is placed, by its name.
pub record Bases : Type 0 where
  pub sections : List ℕ
  pub commons : List ℕ → Option ℕ

-- no section and no common has a base
abbrev pub no_bases : Bases
no_bases = record { sections = []; commons = λ name. None }
