-- The marks of words without a fault are those of a tree, whose files are the first, in their order.
use Rattle.std.proofs.Common.{◌≡◌, ℕ, zero, suc, ◌≤◌, Bool, true, false, List, [], ◌∷◌, ◌++◌, length, None, refl, ap, ◌∙◌, sym, arith}
use Rattle.std.specs.Prelude.{flat_map}
use Rattle.std.proofs.lemmas.List.{append_assoc, append-nil}
use Rattle.mufom_words.specs.declared.command.Mark.{Mark}
use Rattle.mufom_words.specs.declared.command.Mark.TheVariants.{Open, Close, File}
use Rattle.mufom_words.specs.declared.operands.FileWord.{FileWord}
use Rattle.mufom_words.specs.declared.operands.FileWord.TheVariants.{Opening, Closing, Plus, Name}
use Rattle.mufom_words.specs.declared.operands.Walk.TheVariants as walk
use Rattle.mufom_words.specs.Operands.{fault_from, plain_fault_from, marks_from}
use Rattle.mufom_words.specs.Tree.{Forest, spelling, Spelled, opened, spelled, tree_of, leaves}
use Rattle.mufom_words.specs.Sound.{numbers_from}

-- the marks that are spelled so
abbrev closings : List Forest → List Mark
closings [] = []
closings (f ∷ fs) = Close ∷ (spelling f ++ closings fs)

abbrev marks_of_spelled : Spelled → List Mark
marks_of_spelled s = spelling s.inner ++ closings s.others

-- all files that are spelled
abbrev files_of_spelled : Spelled → List ℕ
files_of_spelled s = leaves s.inner ++ flat_map leaves s.others

-- how many files stand in the tree
abbrev pub tree_count : List FileWord → ℕ
tree_count [] = 0
tree_count (Opening ∷ words) = tree_count words
tree_count (Closing ∷ words) = tree_count words
tree_count (Plus ∷ words) = 0
tree_count (Name ∷ words) = suc (tree_count words)

-- what is spelled where a given number of groups are closed that are not opened
record Spells (s : Spelled) (depth : ℕ) (marks : List Mark) : Type 0 where
  deep : length s.others ≡ depth
  same : marks_of_spelled s ≡ marks

-- a group that is opened before them
spells-opened : (inner : Forest) (others : List Forest) (depth : ℕ) (marks : List Mark)
    → Spells (record { inner = inner; others = others }) (suc depth) marks → Spells (opened inner others) depth (Open ∷ marks)
spells-opened inner [] depth marks is = absurd (omega (arith, is.deep))
spells-opened inner (more ∷ others) depth marks is = record {
  deep = omega (arith, is.deep);
  same = ap (λ (l : List Mark). Open ∷ l) (append_assoc (spelling inner) (Close ∷ spelling more) (closings others) ∙ is.same);
}

-- the words from here on have no fault: the marks are spelled so
spells-words : (words : List FileWord) (n depth : ℕ) (fresh any : Bool) → fault_from (walk.Tree depth fresh any) words ≡ None
    → Spells (spelled (marks_from n words)) depth (marks_from n words)
spells-words [] n zero fresh any none = record { deep = refl; same = refl }
spells-words [] n (suc depth) fresh any none = absurd cc
spells-words (Opening ∷ words) n depth fresh any none =
    let s : Spelled = spelled (marks_from n words) in
    spells-opened s.inner s.others depth (marks_from n words) (spells-words words n (suc depth) true any none)
spells-words (Closing ∷ words) n zero fresh any none = absurd cc
spells-words (Closing ∷ words) n (suc depth) true any none = absurd cc
spells-words (Closing ∷ words) n (suc depth) false any none =
    let more = spells-words words n depth false any none in
    record { deep = ap suc more.deep; same = ap (λ (l : List Mark). Close ∷ l) more.same }
spells-words (Plus ∷ words) n zero fresh any none = record { deep = refl; same = refl }
spells-words (Plus ∷ words) n (suc depth) fresh any none = absurd cc
spells-words (Name ∷ words) n depth fresh any none =
    let more = spells-words words (suc n) depth false true none in
    record { deep = more.deep; same = ap (λ (l : List Mark). File n ∷ l) more.same }

-- the same of files that are in no group
spells-plain : (words : List FileWord) (n : ℕ) (any : Bool) → plain_fault_from any words ≡ None → Spells (spelled (marks_from n words)) 0 (marks_from n words)
spells-plain [] n any none = record { deep = refl; same = refl }
spells-plain (Opening ∷ words) n any none = absurd cc
spells-plain (Closing ∷ words) n any none = absurd cc
spells-plain (Plus ∷ words) n any none = absurd cc
spells-plain (Name ∷ words) n any none =
    let more = spells-plain words (suc n) true none in
    record { deep = more.deep; same = ap (λ (l : List Mark). File n ∷ l) more.same }

-- ---- the files

files-opened : (inner : Forest) (others : List Forest) → files_of_spelled (opened inner others) ≡ files_of_spelled (record { inner = inner; others = others })
files-opened inner [] = append-nil (leaves inner ++ [])
files-opened inner (more ∷ others) = append_assoc (leaves inner) (leaves more) (flat_map leaves others)

files-numbered : (words : List FileWord) (n : ℕ) → files_of_spelled (spelled (marks_from n words)) ≡ numbers_from n (tree_count words)
files-numbered [] n = refl
files-numbered (Opening ∷ words) n = let s : Spelled = spelled (marks_from n words) in files-opened s.inner s.others ∙ files-numbered words n
files-numbered (Closing ∷ words) n = files-numbered words n
files-numbered (Plus ∷ words) n = refl
files-numbered (Name ∷ words) n = ap (λ (l : List ℕ). n ∷ l) (files-numbered words (suc n))

pub count-some : (words : List FileWord) (depth : ℕ) (fresh : Bool) → fault_from (walk.Tree depth fresh false) words ≡ None → 1 ≤ tree_count words
count-some [] zero fresh none = absurd cc
count-some [] (suc depth) fresh none = absurd cc
count-some (Opening ∷ words) depth fresh none = count-some words (suc depth) true none
count-some (Closing ∷ words) zero fresh none = absurd cc
count-some (Closing ∷ words) (suc depth) true none = absurd cc
count-some (Closing ∷ words) (suc depth) false none = count-some words depth false none
count-some (Plus ∷ words) zero fresh none = absurd cc
count-some (Plus ∷ words) (suc depth) fresh none = absurd cc
count-some (Name ∷ words) depth fresh none = omega arith

pub count-some-plain : (words : List FileWord) → plain_fault_from false words ≡ None → 1 ≤ tree_count words
count-some-plain [] none = absurd cc
count-some-plain (Opening ∷ words) none = absurd cc
count-some-plain (Closing ∷ words) none = absurd cc
count-some-plain (Plus ∷ words) none = absurd cc
count-some-plain (Name ∷ words) none = omega arith

-- ---- the tree

pub length-numbers_from : (n count : ℕ) → length (numbers_from n count) ≡ count
length-numbers_from n zero = refl
length-numbers_from n (suc count) = ap suc (length-numbers_from (suc n) count)

-- the tree of marks that close no more groups than they open
pub record IsTreeOf (marks : List Mark) (count : ℕ) : Type 0 where
  pub spelled : spelling (tree_of marks) ≡ marks
  pub numbered : leaves (tree_of marks) ≡ numbers_from 0 count

length-zero : {A : Type 0} (xs : List A) → length xs ≡ 0 → xs ≡ []
length-zero [] same = refl
length-zero (x ∷ xs) same = absurd (omega (arith, same))

whole-tree : (words : List FileWord) → Spells (spelled (marks_from 0 words)) 0 (marks_from 0 words) → IsTreeOf (marks_from 0 words) (tree_count words)
whole-tree words is = closed (spelled (marks_from 0 words)) refl is.deep where
  closed : (s : Spelled) → spelled (marks_from 0 words) ≡ s → length (spelled (marks_from 0 words)).others ≡ 0
      → IsTreeOf (marks_from 0 words) (tree_count words)
  closed s same deep =
      let none : (spelled (marks_from 0 words)).others ≡ [] = length-zero (spelled (marks_from 0 words)).others deep in
      let inner : Forest = tree_of (marks_from 0 words) in
      record {
        spelled = sym (append-nil (spelling inner)) ∙ (ap (λ (fs : List Forest). spelling inner ++ closings fs) (sym none) ∙ is.same);
        numbered = sym (append-nil (leaves inner)) ∙ (ap (λ (fs : List Forest). leaves inner ++ flat_map leaves fs) (sym none) ∙ files-numbered words 0);
      }

pub tree-of-words : (words : List FileWord) → fault_from (walk.Tree 0 false false) words ≡ None → IsTreeOf (marks_from 0 words) (tree_count words)
tree-of-words words none = whole-tree words (spells-words words 0 0 false false none)

pub tree-of-plain : (words : List FileWord) → plain_fault_from false words ≡ None → IsTreeOf (marks_from 0 words) (tree_count words)
tree-of-plain words none = whole-tree words (spells-plain words 0 false none)
