-- The modules that replace groups of modules, and the errors of linking the modules of a tree.
use Rattle.std.specs.Prelude.{◌≡◌, ℕ, ◌+◌, ◌-◌, ◌<◌, ◌≤◌, List, [], ◌∷◌, ◌++◌, length, take, drop, get_or, flat_map, Option, Some, None}
use Rattle.mufom_module.specs.declared.module.Parts.{Parts}
use Rattle.mufom_module.specs.Defects.{IsValid}
use Rattle.mufom_module.specs.Written.{weight}
use Rattle.mufom_refusals.specs.declared.link.LinkRefusal.{LinkRefusal}
use Rattle.mufom_refusals.specs.declared.link.LinkRefusal.TheVariants.{Mismatch, Duplicate, DuplicateStart, NoMemory}
use Rattle.mufom_link.specs.Refusals.{IsRefusalOf}
use Rattle.mufom_meaning.specs.Facts.{LinkFact}
use Rattle.mufom_meaning.specs.Joined.{IsJoined}
use Rattle.mufom_meaning.specs.LinkAnswer.{link_answer}
use Rattle.mufom_meaning.specs.Selection.{IsSelected, members_at}
use Rattle.mufom_meaning.specs.StagingLaws.{IsLinkOrItself, total_weight}
use Rattle.mufom_words.specs.declared.command.Mark.{Mark}
use Rattle.mufom_words.specs.declared.command.Mark.TheVariants.{Open, Close, File}
use Rattle.mufom_place.specs.Facts.{first_some}
use Rattle.mufom_words.specs.Tree.{Forest, empty, file, group, tree_of}
use Rattle.mufom_groups.specs.Work.{Work, stops}
use Rattle.mufom_groups.specs.Linked.{first_name, roots, tree_links}
use Rattle.mufom_groups.specs.Refusals.{link_refusal}

-- ---- the elements of a tree

-- all these files as one element, if there are any
abbrev pub together : List (List ℕ) → List (List ℕ)
together [] = []
together (part ∷ parts) = (part ++ flat_map (λ own. own) parts) ∷ []

-- The files of each element of the tree: a file is an element by itself, and a group is one with all files inside it. The definition also covers a
-- group without files, which the parser never produces: it is not an element.
abbrev pub elements : Forest → List (List ℕ)
elements empty = []
elements (file n more) = (n ∷ []) ∷ elements more
elements (group inner more) = together (elements inner) ++ elements more

-- the files that marks name
abbrev pub files_of : List Mark → List ℕ
files_of [] = []
files_of (File n ∷ marks) = n ∷ files_of marks
files_of (Open ∷ marks) = files_of marks
files_of (Close ∷ marks) = files_of marks

-- ---- modules in place of groups

-- The module replaces the group: it is the group's only module, or the group's link under the name of its first module.
pub record IsInPlaceOf (M : Parts) (own : List Parts) : Type 0 where
  pub link : IsLinkOrItself M own
  pub name : M.name ≡ first_name own
  pub valid : IsValid M

-- each module replaces the group at its position
abbrev pub AreInPlaceOf : List Parts → List (List Parts) → Type 0
AreInPlaceOf [] [] = Unit {0}
AreInPlaceOf (M ∷ Ms) (own ∷ groups) = IsInPlaceOf M own × AreInPlaceOf Ms groups
AreInPlaceOf [] (own ∷ groups) = ⊥
AreInPlaceOf (M ∷ Ms) [] = ⊥

-- The first module of the list, and the rest of the list; `None` if the list is empty.
abbrev pub IsNextOf : List Parts → Option Parts → List Parts → Type 0
IsNextOf ms None rest = (ms ≡ []) × (rest ≡ [])
IsNextOf ms (Some m) rest = ms ≡ m ∷ rest

-- the greatest total weight of the modules
abbrev pub most_weight : ℕ
most_weight = 671088640

-- The modules from this position on are linked into one, which takes their place.
pub record IsLinkedFrom (start : ℕ) (old new : List Parts) : Type 0 where
  pub link : Parts
  pub new_list : new ≡ take start old ++ link ∷ []
  pub joined : IsJoined link (drop start old) (first_name (drop start old))
  pub linkable : link_answer (drop start old) ≡ None
  pub light : weight link ≤ total_weight (drop start old)

-- the position at which the innermost open group begins; 0 if no group is open
abbrev pub last_of : List ℕ → ℕ
last_of begun = get_or begun (length begun - 1) 0

-- The innermost open group is closed, and its modules are linked if it has any.
pub record IsClosed (begun : List ℕ) (old : List Parts) (new_begun : List ℕ) (new : List Parts) : Type 0 where
  pub outer : new_begun ≡ take (length begun - 1) begun
  pub empty : length old ≤ last_of begun → new ≡ old
  pub some : last_of begun < length old → IsLinkedFrom (last_of begun) old new

-- for a file, there is a root left
abbrev pub HasRoot : Mark → List Parts → Type 0
HasRoot (File n) rest = 0 < length rest
HasRoot Open rest = Unit {0}
HasRoot Close rest = Unit {0}

-- The step for a mark: a group begins, the next root is taken for a file, or the innermost group is closed.
abbrev pub IsTaken : Mark → List ℕ → List Parts → List Parts → List ℕ → List Parts → List Parts → Type 0
IsTaken Open begun old rest new_begun new left = (new_begun ≡ begun ++ length old ∷ []) × (new ≡ old) × (left ≡ rest)
IsTaken (File n) begun old rest new_begun new left = (m : Parts) × (rest ≡ m ∷ left) × (new ≡ old ++ m ∷ []) × (new_begun ≡ begun)
IsTaken Close begun old rest new_begun new left = IsClosed begun old new_begun new × (left ≡ rest)

-- the error at a mark: the group that it closes cannot be linked, or memory ran out
abbrev pub IsRefusedMark : Mark → List ℕ → List Parts → LinkRefusal → Type 0
IsRefusedMark Open begun old e = e ≡ NoMemory
IsRefusedMark (File n) begun old e = e ≡ NoMemory
IsRefusedMark Close begun old e = IsRefusalOf (drop (last_of begun) old) e

-- A module is its own link: if it is linked alone, under its own name, it does not change.
pub record IsOwnLink (M : Parts) : Type 0 where
  pub joined : IsJoined M (M ∷ []) M.name
  pub linkable : link_answer (M ∷ []) ≡ None

-- The roots are linked into one module, which takes their place and is its own link; each list that is linked on the way can be linked.
pub record AreRootsLinked (marks : List Mark) (ms new : List Parts) : Type 0 where
  pub link : Parts
  pub new_list : new ≡ link ∷ []
  pub own : IsOwnLink link
  pub in_place : IsInPlaceOf link (roots (tree_of marks) ms)
  pub linkable : first_some link_answer (tree_links (tree_of marks) ms) ≡ None
  pub light : weight link ≤ total_weight ms

-- The list begins with a module that is its own link.
pub record BeginsWithLink (flat : List Parts) : Type 0 where
  pub first : Parts
  pub others : List Parts
  pub list : flat ≡ first ∷ others
  pub own : IsOwnLink first

-- The roots are followed by the members that are selected for them.
pub record HasSelected (roots members flat : List Parts) : Type 0 where
  pub chosen : List ℕ
  pub selected : IsSelected roots members chosen
  pub flat_list : flat ≡ roots ++ members_at members chosen
  pub light : total_weight flat ≤ total_weight roots + total_weight members

-- The roots are followed by the members at these positions, which are those selected for them.
pub record HasChosen (roots members : List Parts) (chosen : List ℕ) (flat : List Parts) : Type 0 where
  pub has : HasSelected roots members flat
  pub same : has.chosen ≡ chosen

-- ---- errors

-- the work ends with the link error that is returned; running out of memory is not explained
abbrev pub StopsWork : {A : Type 0} → Work LinkFact A → LinkRefusal → Type 0
StopsWork work NoMemory = Unit {0}
StopsWork work (Mismatch first other) = (f : LinkFact) × (Mismatch first other ≡ link_refusal f) × work (stops f)
StopsWork work (Duplicate name) = (f : LinkFact) × (Duplicate name ≡ link_refusal f) × work (stops f)
StopsWork work DuplicateStart = (f : LinkFact) × (DuplicateStart ≡ link_refusal f) × work (stops f)
