-- The modules of the first list that is linked and that cannot be linked. They are given by their places among all modules: that of a module of the tree
-- is the number of its file, and the members have the places after those.
use Rattle.std.specs.Prelude.{◌≡◌, ◌⊎◌, ℕ, ◌+◌, ◌-◌, List, [], ◌∷◌, ◌++◌, drop, length, map, take, Option, Some, None, option_map, IsSome}
use Rattle.mufom_module.specs.declared.module.Parts.{Parts}
use Rattle.mufom_place.specs.Facts.{first_some}
use Rattle.mufom_meaning.specs.Facts.{LinkFact}
use Rattle.mufom_meaning.specs.LinkAnswer.{link_answer}
use Rattle.mufom_meaning.specs.Selection.{IsSelected, members_at}
use Rattle.mufom_words.specs.declared.command.Mark.{Mark}
use Rattle.mufom_words.specs.declared.command.Mark.TheVariants.{Open, Close, File}
use Rattle.mufom_words.specs.Sound.{numbers_from}
use Rattle.mufom_words.specs.Tree.{Forest, groups, leaves}
use Rattle.mufom_groups.specs.declared.refused.FileRange.{FileRange}
use Rattle.mufom_groups.specs.Groups.{last_of}
use Rattle.mufom_groups.specs.Linked.{members, roots}

-- the first of these lists of files whose modules cannot be linked, with the link error
abbrev pub refused_among : List Parts → List (List ℕ) → Option (List ℕ × LinkFact)
refused_among ms lists = first_some (λ files. option_map (λ f. (files, f)) (link_answer (members_at ms files))) lists

-- The lists of files that are linked before members are selected: each group, in the order of the closing brackets, and then the tree.
abbrev pub linked_lists : Forest → List (List ℕ)
linked_lists tree = groups tree ++ leaves tree ∷ []

-- The files of the flat list, if these members are selected: those of the tree, followed by the members in their order. The members are the files
-- after those of the tree.
abbrev pub flat_list : Forest → List ℕ → List ℕ
flat_list tree selected = leaves tree ++ map (λ member. length (leaves tree) + member) selected

-- The files of the flat list, which cannot be linked because of this error.
pub record IsRefusedFlatList (tree : Forest) (ms : List Parts) (files : List ℕ) (f : LinkFact) : Type 0 where
  pub chosen : List ℕ
  pub selected : IsSelected (roots tree ms) (members tree ms) chosen
  pub are : files ≡ flat_list tree chosen
  pub fact : link_answer (members_at ms files) ≡ Some f

-- The files of the first list that cannot be linked, with its error: the first group that cannot be linked, in the order of the closing brackets;
-- otherwise all files of the tree; otherwise those of the flat list.
abbrev pub IsRefusedList : Forest → List Parts → List ℕ → LinkFact → Type 0
IsRefusedList tree ms files f =
    (refused_among ms (linked_lists tree) ≡ Some (files, f))
    ⊎ ((refused_among ms (linked_lists tree) ≡ None) × IsRefusedFlatList tree ms files f)

-- the numbers of the files of a range
abbrev pub files_between : FileRange → List ℕ
files_between range = numbers_from range.first (range.end - range.first)

-- The step for a mark, after `count` files and with these open groups: a file is counted, a group begins, or the innermost group closes and its files
-- are added as a range.
abbrev pub IsRanged : Mark → ℕ → List ℕ → List FileRange → List ℕ → List FileRange → ℕ → Type 0
IsRanged (File n) count begun ranges new_begun new_ranges now = (now ≡ count + 1) × (new_begun ≡ begun) × (new_ranges ≡ ranges)
IsRanged Open count begun ranges new_begun new_ranges now = (now ≡ count) × (new_begun ≡ begun ++ count ∷ []) × (new_ranges ≡ ranges)
IsRanged Close count begun ranges new_begun new_ranges now =
    (now ≡ count) × (new_begun ≡ take (length begun - 1) begun)
    × ((range : FileRange) × (range.first ≡ last_of begun) × (range.end ≡ count) × (new_ranges ≡ ranges ++ range ∷ []))

-- The files of the tree, which come first, if these cannot be linked; otherwise the files of the flat list.
abbrev pub IsTreeOrFlat : ℕ → List Parts → List ℕ → Type 0
IsTreeOrFlat roots ms files =
    (IsSome (link_answer (take roots ms)) × (files ≡ numbers_from 0 roots))
    ⊎ ((link_answer (take roots ms) ≡ None) × ((chosen : List ℕ) × IsSelected (take roots ms) (drop roots ms) chosen
    × (files ≡ numbers_from 0 roots ++ map (λ member. roots + member) chosen)))
