-- The line of an entry of a region's list, if it is none of the names.
use Rattle.std.specs.Prelude.{ℕ, List, [], if◌then◌else◌}
use Rattle.mufom_text.specs.Words.{Text}
use Rattle.mufom_map.specs.MapText.{unused_line}
use Rattle.mufom_map.specs.Unused.{is_missing}

abbrev pub missing_line : List (List ℕ) → ℕ → List ℕ → Text
missing_line names k entry = if is_missing names entry then unused_line k entry else []
