-- The flat list of a command, with the place of each module among all that were read.
use Rattle.std.specs.Prelude.{◌≡◌, ◌++◌, ℕ, List, drop, length}
use Rattle.mufom_module.specs.declared.module.Parts.{Parts}
use Rattle.mufom_meaning.specs.Selection.{IsSelected}
use Rattle.mufom_words.specs.Tree.{Forest, leaves}
use Rattle.mufom_groups.specs.Linked.{members, roots}
use Rattle.mufom_origins.specs.Origins.{FileModule, numbered}
use Rattle.mufom_origins.specs.Places.{at_positions}

-- the modules of the tree and the members at these positions, each with its place
abbrev pub files_with : Forest → List Parts → List ℕ → List FileModule
files_with tree ms chosen = at_positions (numbered ms) (leaves tree) ++ at_positions (drop (length (leaves tree)) (numbered ms)) chosen

-- The modules of the tree and the members that are selected for them, each with its place.
abbrev pub AreFlatFiles : Forest → List Parts → List FileModule → Type 0
AreFlatFiles tree ms flat = (chosen : List ℕ) × IsSelected (roots tree ms) (members tree ms) chosen × (flat ≡ files_with tree ms chosen)
