-- What the entries that `--keep` keeps mean.
use Rattle.std.specs.Prelude.{◌≡◌, List, [], ◌∷◌, length, Option, Some, None}
use Rattle.mufom_module.specs.declared.module.Parts.{Parts}
use Rattle.mufom_meaning.specs.Bases.{Bases}
use Rattle.mufom_meaning.specs.Flat.{flat_sections}
use Rattle.mufom_meaning.specs.Readings.{readings}
use Rattle.mufom_prune.specs.Meaning.{left_readings, new_bases}
use Rattle.mufom_prune.specs.Pruned.{Remains, remaining}

-- The module means the same as the part of the list that remains: the sections and publics that remain, the steps of these sections with the new
-- positions, and the starts all have the values that they have in the list. The entries of the list are those of its modules, one after another.
pub record MeansTheRestOf (rest : Parts) (list : List Parts) (c : Remains) (bases : Bases) : Type 0 where
  pub sections : (readings (rest ∷ []) (new_bases c bases)).sections ≡ remaining c.sections (readings list bases).sections
  pub publics : (readings (rest ∷ []) (new_bases c bases)).publics ≡ remaining c.publics (readings list bases).publics
  pub steps : (readings (rest ∷ []) (new_bases c bases)).steps ≡ left_readings c.sections (readings list bases).steps
  pub starts : (readings (rest ∷ []) (new_bases c bases)).starts ≡ (readings list bases).starts

-- What is kept of the list means what the list means of it, wherever its sections and commons are placed. If all is kept, it is the list itself.
abbrev pub KeepsMeaning : Option Remains → List Parts → List Parts → Type 0
KeepsMeaning None modules list = modules ≡ list
KeepsMeaning (Some c) modules list =
    (rest : Parts) × (modules ≡ rest ∷ [])
    × ((bases : Bases) → length bases.sections ≡ length (flat_sections list) → MeansTheRestOf rest list c bases)
