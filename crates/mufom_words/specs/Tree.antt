-- The tree of files that a command's marks spell, its leaves, and the groups that are linked.
use Rattle.std.specs.Prelude.{ℕ, List, [], ◌∷◌, ◌++◌}
use Rattle.mufom_words.specs.declared.command.Mark.{Mark}
use Rattle.mufom_words.specs.declared.command.Mark.TheVariants.{Open, Close, File}

-- Files, given by their numbers, and groups, one after another. The type exists in contracts only.
pub data Forest : Type 0 where
  empty : Forest
  -- a file, and what follows
  file : ℕ → Forest → Forest
  -- the contents of a group, and what follows the group
  group : Forest → Forest → Forest

-- the marks that spell a forest
abbrev pub spelling : Forest → List Mark
spelling empty = []
spelling (file n more) = File n ∷ spelling more
spelling (group inner more) = Open ∷ (spelling inner ++ Close ∷ spelling more)

-- What marks spell if they close groups that they do not open: what comes before the first such bracket, and what comes after each.
pub record Spelled : Type 0 where
  pub inner : Forest
  pub others : List Forest

-- a group around what comes before its closing bracket; a group that is not closed ends with the marks
abbrev pub opened : Forest → List Forest → Spelled
opened inner [] = record { inner = group inner empty; others = [] }
opened inner (more ∷ others) = record { inner = group inner more; others = others }

abbrev pub spelled : List Mark → Spelled
spelled [] = record { inner = empty; others = [] }
spelled (File n ∷ marks) = record (spelled marks) { inner = file n (spelled marks).inner }
spelled (Close ∷ marks) = record { inner = empty; others = (spelled marks).inner ∷ (spelled marks).others }
spelled (Open ∷ marks) = opened (spelled marks).inner (spelled marks).others

-- The tree of the marks.
abbrev pub tree_of : List Mark → Forest
tree_of marks = (spelled marks).inner

-- the files in it, in order
abbrev pub leaves : Forest → List ℕ
leaves empty = []
leaves (file n more) = n ∷ leaves more
leaves (group inner more) = leaves inner ++ leaves more

-- The files in each group, the groups in the order of their closing brackets.
abbrev pub groups : Forest → List (List ℕ)
groups empty = []
groups (file n more) = groups more
groups (group inner more) = groups inner ++ leaves inner ∷ groups more
