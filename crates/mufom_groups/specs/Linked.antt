-- The list of modules that are linked: those of a tree of files, followed by the members that are selected for them.
use Rattle.std.specs.Prelude.{◌≡◌, ℕ, List, [], ◌∷◌, ◌++◌, length, drop, map, Option, Some, None, unwrap_or}
use Rattle.mufom_module.specs.declared.module.Parts.{Parts}
use Rattle.mufom_place.specs.Facts.{first_some}
use Rattle.mufom_meaning.specs.Facts.{LinkFact}
use Rattle.mufom_meaning.specs.Joined.{IsJoined}
use Rattle.mufom_meaning.specs.LinkAnswer.{link_answer}
use Rattle.mufom_meaning.specs.Selection.{IsSelected, members_at}
use Rattle.mufom_words.specs.Tree.{Forest, leaves, groups}
use Rattle.mufom_groups.specs.Work.{Work, goes_on, sure, one_with, stop_at, ◌>>=◌}

-- the modules of the tree, in the order of the arguments
abbrev pub roots : Forest → List Parts → List Parts
roots tree ms = members_at ms (leaves tree)

-- the modules after those of the tree, from which members are selected
abbrev pub members : Forest → List Parts → List Parts
members tree ms = drop (length (leaves tree)) ms

-- The modules of the tree and the selected members. This list does not depend on the groups of the tree.
abbrev pub IsFlatList : Forest → List Parts → List Parts → Type 0
IsFlatList tree ms flat =
    (chosen : List ℕ) × IsSelected (roots tree ms) (members tree ms) chosen × (flat ≡ roots tree ms ++ members_at (members tree ms) chosen)

-- The lists that are linked before members are selected: each group, in the order of the closing brackets, and then the whole tree.
abbrev pub tree_links : Forest → List Parts → List (List Parts)
tree_links tree ms = map (members_at ms) (groups tree) ++ roots tree ms ∷ []

abbrev pub unless_fact : Option LinkFact → Work LinkFact (Unit {0})
unless_fact None = goes_on
unless_fact (Some f) = stop_at f

-- the lists can be linked; otherwise the work ends with the first link error, in this order
abbrev pub links : List (List Parts) → Work LinkFact (Unit {0})
links lists = unless_fact (first_some link_answer lists)

-- The flat list, if it and each list that is linked before it can be linked.
abbrev pub linked : Forest → List Parts → Work LinkFact (List Parts)
linked tree ms = do
  _ ← links (tree_links tree ms)
  flat ← one_with (IsFlatList tree ms)
  _ ← links (flat ∷ [])
  sure flat

-- the name of the first module
abbrev pub first_name : List Parts → List ℕ
first_name [] = []
first_name (m ∷ ms) = m.name

-- the partial link of a list, under the given name or that of its first module
abbrev pub joined : Option (List ℕ) → List Parts → Work LinkFact Parts
joined name ms = one_with (λ M. IsJoined M ms (unwrap_or name (first_name ms)))

-- The module into which the modules of the tree and the selected members are linked, under the given name or that of the first module.
abbrev pub linked_module : Forest → Option (List ℕ) → List Parts → Work LinkFact Parts
linked_module tree name ms = do
  flat ← linked tree ms
  joined name flat
