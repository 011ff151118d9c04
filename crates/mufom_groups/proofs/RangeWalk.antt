-- The marks of a tree one after another, whose files are numbered in their order: the files of each group are a range.
use Rattle.std.proofs.Common.{◌≡◌, ℕ, suc, ◌+◌, ◌-◌, ◌≤◌, ◌<◌, List, [], ◌∷◌, ◌++◌, length, map, drop, get_or, refl, sym, ◌∙◌, ap, append-nil}
use Rattle.std.proofs.Common.{append_assoc, arith, subst}
use Rattle.std.specs.Prelude.{All}
use Rattle.std.proofs.lemmas.List.{drop_more, length-append, map-append}
use Rattle.std.proofs.lemmas.List.Elements.{All-nil, All-push}
use Rattle.mufom_words.specs.declared.command.Mark.{Mark}
use Rattle.mufom_words.specs.declared.command.Mark.TheVariants.{Open, Close, File}
use Rattle.mufom_words.specs.Sound.{numbers_from}
use Rattle.mufom_words.specs.Tree.{Forest, empty, file, group, spelling, leaves, groups, tree_of}
use Rattle.mufom_groups.specs.declared.refused.FileRange.{FileRange}
use Rattle.mufom_groups.specs.Groups.{files_of, last_of}
use Rattle.mufom_groups.specs.Refused.{IsRanged, files_between}
use Rattle.mufom_groups.proofs.GroupWalk.{all-files, last-of-more, outer, outer-of-more}

-- the files of each group that these marks close, after this many files and these open groups, by the number of the first file of each
abbrev pub ranges_closed : List Mark → ℕ → List ℕ → List (List ℕ)
ranges_closed [] count begun = []
ranges_closed (File n ∷ marks) count begun = ranges_closed marks (count + 1) begun
ranges_closed (Open ∷ marks) count begun = ranges_closed marks count (begun ++ count ∷ [])
ranges_closed (Close ∷ marks) count begun =
    numbers_from (last_of begun) (count - last_of begun) ∷ ranges_closed marks count (outer begun)

-- numbers in a row, in two parts
first-part : (xs ys : List ℕ) (n : ℕ) → xs ++ ys ≡ numbers_from n (length (xs ++ ys)) → xs ≡ numbers_from n (length xs)
first-part [] ys n same = refl
first-part (x ∷ xs) ys n same =
    let is : x ≡ n = cc in
    let more : xs ++ ys ≡ numbers_from (suc n) (length (xs ++ ys)) = cc in
    λ i. is i ∷ first-part xs ys (suc n) more i

last-part : (xs ys : List ℕ) (n : ℕ) → xs ++ ys ≡ numbers_from n (length (xs ++ ys)) → ys ≡ numbers_from (n + length xs) (length ys)
last-part [] ys n same = same ∙ ap (λ (k : ℕ). numbers_from k (length ys)) (omega arith)
last-part (x ∷ xs) ys n same =
    let more : xs ++ ys ≡ numbers_from (suc n) (length (xs ++ ys)) = cc in
    last-part xs ys (suc n) more ∙ ap (λ (k : ℕ). numbers_from k (length ys)) (omega arith)

-- the marks of a tree close its groups
pub ranges-of-tree : (tree : Forest) (marks : List Mark) (n : ℕ) (begun : List ℕ) → leaves tree ≡ numbers_from n (length (leaves tree))
    → ranges_closed (spelling tree ++ marks) n begun ≡ groups tree ++ ranges_closed marks (n + length (leaves tree)) begun
ranges-of-tree empty marks n begun numbered = ap (λ (k : ℕ). ranges_closed marks k begun) (omega arith)
ranges-of-tree (file m more) marks n begun numbered =
    let later : leaves more ≡ numbers_from (suc n) (length (leaves more)) = cc in
    ap (λ (k : ℕ). ranges_closed (spelling more ++ marks) k begun) (omega arith)
    ∙ ranges-of-tree more marks (suc n) begun later
    ∙ ap (λ (k : ℕ). groups more ++ ranges_closed marks k begun) (omega arith)
ranges-of-tree (group inner more) marks n begun numbered =
    let a = length (leaves inner) in
    let b = length (leaves more) in
    let rest : List Mark = spelling more ++ marks in
    let own : leaves inner ≡ numbers_from n a = first-part (leaves inner) (leaves more) n numbered in
    let later : leaves more ≡ numbers_from (n + a) b = last-part (leaves inner) (leaves more) n numbered in
    let start : List ℕ = begun ++ n ∷ [] in
    let last : List (List ℕ) = ranges_closed marks (n + a + b) begun in
    let closes : numbers_from (last_of start) (n + a - last_of start) ≡ leaves inner =
    ap (λ (k : ℕ). numbers_from k (n + a - k)) (last-of-more begun n) ∙ ap (numbers_from n) (omega arith) ∙ sym own in
    ap (λ (l : List Mark). ranges_closed l n start) (append_assoc (spelling inner) (Close ∷ spelling more) marks)
    ∙ ranges-of-tree inner (Close ∷ rest) n start own
    ∙ (λ i. groups inner ++ closes i ∷ ranges_closed rest (n + a) (outer-of-more begun n i))
    ∙ ap (λ (l : List (List ℕ)). groups inner ++ leaves inner ∷ l) (ranges-of-tree more marks (n + a) begun later)
    ∙ sym (append_assoc (groups inner) (leaves inner ∷ groups more) last)
    ∙ ap (λ (k : ℕ). (groups inner ++ leaves inner ∷ groups more) ++ ranges_closed marks k begun)
    (let sum = length-append (leaves inner) (leaves more) in omega (arith, sum))

-- These groups were closed, and the marks close the others of the tree.
pub record IsRanging (tree : Forest) (marks : List Mark) (ranges : List FileRange) (count : ℕ) (begun : List ℕ) (passed : ℕ) : Type 0 where
  pub closes : map files_between ranges ++ ranges_closed marks count begun ≡ groups tree
  pub few : count ≤ passed
  pub whole : count + length (files_of marks) ≡ length (leaves tree)
  pub inside : All (λ (range : FileRange). range.end ≤ length (leaves tree)) ranges

pub ranging-begins : (marks : List Mark) → spelling (tree_of marks) ≡ marks → leaves (tree_of marks) ≡ numbers_from 0 (length (leaves (tree_of marks)))
    → IsRanging (tree_of marks) marks [] 0 [] 0
ranging-begins marks spelled numbered = record {
  closes =
      ap (λ (l : List Mark). ranges_closed l 0 []) (sym spelled ∙ sym (append-nil (spelling (tree_of marks))))
      ∙ ranges-of-tree (tree_of marks) [] 0 [] numbered ∙ append-nil (groups (tree_of marks));
  few = omega arith;
  whole = let same = ap (λ (l : List ℕ). length l) (ap files_of (sym spelled) ∙ all-files (tree_of marks)) in omega (arith, same);
  inside = All-nil (λ (range : FileRange). range.end ≤ length (leaves (tree_of marks)));
}

module _ (tree : Forest) (marks : List Mark) (ranges : List FileRange) (count : ℕ) (begun : List ℕ) (passed : ℕ) where
  pub ranging-opens : IsRanging tree (Open ∷ marks) ranges count begun passed → IsRanging tree marks ranges count (begun ++ count ∷ []) (passed + 1)
  ranging-opens is = record { closes = is.closes; few = let few = is.few in omega (arith, few); whole = is.whole; inside = is.inside }

  pub ranging-file : (n : ℕ) → IsRanging tree (File n ∷ marks) ranges count begun passed → IsRanging tree marks ranges (count + 1) begun (passed + 1)
  ranging-file n is = record {
    closes = is.closes;
    few = let few = is.few in omega (arith, few);
    whole = let whole = is.whole in omega (arith, whole);
    inside = is.inside;
  }

  pub ranging-closes : (range : FileRange) → range.first ≡ last_of begun → range.end ≡ count → IsRanging tree (Close ∷ marks) ranges count begun passed
      → IsRanging tree marks (ranges ++ range ∷ []) count (outer begun) (passed + 1)
  ranging-closes range first last is = record {
    closes =
        let own : files_between range ≡ numbers_from (last_of begun) (count - last_of begun) = λ i. numbers_from (first i) (last i - first i) in
        ap (λ (l : List (List ℕ)). l ++ ranges_closed marks count (outer begun)) (map-append files_between ranges (range ∷ []))
        ∙ append_assoc (map files_between ranges) (files_between range ∷ []) (ranges_closed marks count (outer begun))
        ∙ ap (λ (l : List ℕ). map files_between ranges ++ l ∷ ranges_closed marks count (outer begun)) own
        ∙ is.closes;
    few = let few = is.few in omega (arith, few);
    whole = is.whole;
    inside = All-push (λ (r : FileRange). r.end ≤ length (leaves tree)) ranges range is.inside (let whole = is.whole in omega (arith, whole, last));
  }

pub ranging-ends : (tree : Forest) (ranges : List FileRange) (count : ℕ) (begun : List ℕ) (passed : ℕ) → IsRanging tree [] ranges count begun passed
    → map files_between ranges ≡ groups tree
ranging-ends tree ranges count begun passed is = sym (append-nil (map files_between ranges)) ∙ is.closes

-- one mark more
pub ranging-takes : (tree : Forest) (mark : Mark) (marks : List Mark) (ranges new_ranges : List FileRange) (count now : ℕ) (begun new_begun : List ℕ)
    (passed : ℕ) → IsRanging tree (mark ∷ marks) ranges count begun passed → IsRanged mark count begun ranges new_begun new_ranges now
    → IsRanging tree marks new_ranges now new_begun (passed + 1)
ranging-takes tree (File n) marks ranges new_ranges count now begun new_begun passed is (k, b, r) =
    subst (λ (x : ℕ). IsRanging tree marks new_ranges x new_begun (passed + 1)) (sym k)
    (subst (λ (x : List ℕ). IsRanging tree marks new_ranges (count + 1) x (passed + 1)) (sym b)
    (subst (λ (x : List FileRange). IsRanging tree marks x (count + 1) begun (passed + 1)) (sym r) (ranging-file tree marks ranges count begun passed n is)))
ranging-takes tree Open marks ranges new_ranges count now begun new_begun passed is (k, b, r) =
    subst (λ (x : ℕ). IsRanging tree marks new_ranges x new_begun (passed + 1)) (sym k)
    (subst (λ (x : List ℕ). IsRanging tree marks new_ranges count x (passed + 1)) (sym b)
    (subst (λ (x : List FileRange). IsRanging tree marks x count (begun ++ count ∷ []) (passed + 1)) (sym r)
    (ranging-opens tree marks ranges count begun passed is)))
ranging-takes tree Close marks ranges new_ranges count now begun new_begun passed is (k, b, (range, first, last, r)) =
    subst (λ (x : ℕ). IsRanging tree marks new_ranges x new_begun (passed + 1)) (sym k)
    (subst (λ (x : List ℕ). IsRanging tree marks new_ranges count x (passed + 1)) (sym b)
    (subst (λ (x : List FileRange). IsRanging tree marks x count (outer begun) (passed + 1)) (sym r)
    (ranging-closes tree marks ranges count begun passed range first last is)))

pub ranged-here : (tree : Forest) (marks : List Mark) (i : ℕ) (d : Mark) (ranges new_ranges : List FileRange) (count now : ℕ) (begun new_begun : List ℕ)
    → i < length marks → IsRanging tree (drop i marks) ranges count begun i → IsRanged (get_or marks i d) count begun ranges new_begun new_ranges now
    → IsRanging tree (drop (i + 1) marks) new_ranges now new_begun (i + 1)
ranged-here tree marks i d ranges new_ranges count now begun new_begun inside is takes =
    ranging-takes tree (get_or marks i d) (drop (i + 1) marks) ranges new_ranges count now begun new_begun i
    (subst (λ (l : List Mark). IsRanging tree l ranges count begun i) (drop_more marks i d inside) is) takes
