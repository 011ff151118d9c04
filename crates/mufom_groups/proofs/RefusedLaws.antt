-- The first list that is refused, list by list, and that its link fact is the one that ends the links.
use Rattle.std.proofs.Common.{◌≡◌, ℕ, zero, suc, ◌+◌, ◌-◌, ◌≤◌, ◌<◌, List, [], ◌∷◌}
use Rattle.std.proofs.Common.{◌++◌, length, map, take, drop, get_or, option_map, Option, Some, None, inl, inr}
use Rattle.std.proofs.Common.{true, false, refl, sym, ap, subst, ◌∙◌, arith}
use Rattle.std.specs.Prelude.{is_some, slice_get, IfOk, IsSome, Result, Ok, Err}
use Rattle.std.proofs.lemmas.Grind.{flat_map-append}
use Rattle.std.proofs.lemmas.List.{drop_more, length-append, length-drop, length-map, map-append, take-append-drop, take_more}
use Rattle.mufom_module.specs.declared.module.Parts.{Parts}
use Rattle.mufom_place.specs.Facts.{first_some, ◌or_else◌}
use Rattle.mufom_meaning.specs.Facts.{LinkFact}
use Rattle.mufom_meaning.specs.LinkAnswer.{link_answer}
use Rattle.mufom_meaning.specs.Selection.{IsSelected, member_at, members_at}
use Rattle.mufom_meaning.specs.Staging.{AreValid}
use Rattle.mufom_meaning.specs.StagingLaws.{total_weight}
use Rattle.mufom_words.specs.Sound.{numbers_from}
use Rattle.mufom_words.specs.Tree.{Forest, groups, leaves}
use Rattle.mufom_groups.specs.Linked.{IsFlatList, linked, links, members, roots, tree_links, unless_fact}
use Rattle.mufom_groups.specs.declared.refused.FileRange.{FileRange}
use Rattle.mufom_groups.specs.Refused.{IsRefusedList, IsTreeOrFlat, files_between, flat_list, linked_lists, refused_among}
use Rattle.mufom_groups.specs.Work.{gives, stops}
use Rattle.mufom_groups.proofs.RootsLink.{links-found}
use Rattle.mufom_groups.proofs.Singles.{flat_list-single}
use Rattle.mufom_groups.proofs.LinkWalk.{valid-drop, valid-take, weight-split}
use Rattle.mufom_groups.proofs.SelectedLaws.{selected-few}

-- ---- lists, one after another

abbrev with-files : List ℕ → LinkFact → List ℕ × LinkFact
with-files files f = (files, f)

pub refused-first : (ms : List Parts) (files : List ℕ) (more : List (List ℕ)) (f : LinkFact) → link_answer (members_at ms files) ≡ Some f
    → refused_among ms (files ∷ more) ≡ Some (files, f)
refused-first ms files more f is = ap (λ (o : Option LinkFact). option_map (λ g. with-files files g) o or_else refused_among ms more) is

pub refused-later : (ms : List Parts) (files : List ℕ) (more : List (List ℕ)) → link_answer (members_at ms files) ≡ None
    → refused_among ms (files ∷ more) ≡ refused_among ms more
refused-later ms files more is = ap (λ (o : Option LinkFact). option_map (λ g. with-files files g) o or_else refused_among ms more) is

pub refused-after : (ms : List Parts) (lists more : List (List ℕ)) → refused_among ms lists ≡ None
    → refused_among ms (lists ++ more) ≡ refused_among ms more
refused-after ms [] more none = refl
refused-after ms (files ∷ lists) more none = by (link_answer (members_at ms files)) none (refused-after ms lists more) where
  by : (o : Option LinkFact) → option_map (λ g. with-files files g) o or_else refused_among ms lists ≡ None
      → (refused_among ms lists ≡ None → refused_among ms (lists ++ more) ≡ refused_among ms more)
      → option_map (λ g. with-files files g) o or_else refused_among ms (lists ++ more) ≡ refused_among ms more
  by None none later = later none
  by (Some f) none later = absurd cc

-- what is found is found where more lists follow
pub refused-before : (ms : List Parts) (lists more : List (List ℕ)) (p : List ℕ × LinkFact) → refused_among ms lists ≡ Some p
    → refused_among ms (lists ++ more) ≡ Some p
refused-before ms [] more p found = absurd cc
refused-before ms (files ∷ lists) more p found = by (link_answer (members_at ms files)) found (refused-before ms lists more p) where
  by : (o : Option LinkFact) → option_map (λ g. with-files files g) o or_else refused_among ms lists ≡ Some p
      → (refused_among ms lists ≡ Some p → refused_among ms (lists ++ more) ≡ Some p)
      → option_map (λ g. with-files files g) o or_else refused_among ms (lists ++ more) ≡ Some p
  by None found later = later found
  by (Some f) found later = found

-- the fact against the only list
one-fact : (flat : List Parts) (f : LinkFact) → first_some link_answer (flat ∷ []) ≡ Some f → link_answer flat ≡ Some f
one-fact flat f found = by (link_answer flat) found where
  by : (o : Option LinkFact) → o or_else None ≡ Some f → o ≡ Some f
  by None found = found
  by (Some g) found = found

-- the facts alone
pub refused-facts : (ms : List Parts) (lists : List (List ℕ))
    → first_some link_answer (map (members_at ms) lists) ≡ option_map (λ p. p.1) (refused_among ms lists)
refused-facts ms [] = refl
refused-facts ms (files ∷ lists) = by (link_answer (members_at ms files)) (refused-facts ms lists) where
  by : (o : Option LinkFact) → first_some link_answer (map (members_at ms) lists) ≡ option_map (λ p. p.1) (refused_among ms lists)
      → o or_else first_some link_answer (map (members_at ms) lists)
      ≡ option_map (λ p. p.1) (option_map (λ g. with-files files g) o or_else refused_among ms lists)
  by None later = later
  by (Some f) later = refl

-- ---- the lists of a tree

module _ (tree : Forest) (ms : List Parts) where
  own-lists : tree_links tree ms ≡ map (members_at ms) (linked_lists tree)
  own-lists = sym (map-append (members_at ms) (groups tree) (leaves tree ∷ []))

  own-facts : first_some link_answer (tree_links tree ms) ≡ option_map (λ p. p.1) (refused_among ms (linked_lists tree))
  own-facts = ap (first_some link_answer) own-lists ∙ refused-facts ms (linked_lists tree)

  -- a link fact that ends the links of the tree is that of the first list that is refused
  pub fact-of-list : (f g : LinkFact) (files : List ℕ) → links (tree_links tree ms) (stops f)
      → refused_among ms (linked_lists tree) ≡ Some (files, g) → refused_among ms (linked_lists tree) ≡ Some (files, f)
  fact-of-list f g files ends found =
      by (first_some link_answer (tree_links tree ms)) ends (own-facts ∙ ap (λ o. option_map (λ p. p.1) o) found) where
        by : (o : Option LinkFact) → unless_fact o (stops f) → o ≡ Some g → refused_among ms (linked_lists tree) ≡ Some (files, f)
        by None ends same = absurd ends
        by (Some h) ends same =
            let is : h ≡ g = cc in
            found ∙ ap (λ (k : LinkFact). Some (with-files files k)) (sym (ends ∙ is))

  -- where none ends them none is refused
  pub links-none : (g : LinkFact) (files : List ℕ) → links (tree_links tree ms) (gives tt)
      → refused_among ms (linked_lists tree) ≡ Some (files, g) → ⊥
  links-none g files is found =
      by (first_some link_answer (tree_links tree ms)) is (own-facts ∙ ap (λ o. option_map (λ p. p.1) o) found) where
        by : (o : Option LinkFact) → unless_fact o (gives tt) → o ≡ Some g → ⊥
        by None is same = absurd cc
        by (Some h) is same = is

  -- where none is refused none ends them
  pub none-ends : (f : LinkFact) → refused_among ms (linked_lists tree) ≡ None → links (tree_links tree ms) (stops f) → ⊥
  none-ends f none ends = by (first_some link_answer (tree_links tree ms)) ends (own-facts ∙ ap (λ o. option_map (λ p. p.1) o) none) where
    by : (o : Option LinkFact) → unless_fact o (stops f) → o ≡ None → ⊥
    by None ends same = ends
    by (Some h) ends same = absurd cc

-- ---- modules of files in a row

none-there : (k n : ℕ) → members_at [] (numbers_from n k) ≡ []
none-there zero n = refl
none-there (suc k) zero = none-there k 1
none-there (suc k) (suc n) = none-there k (suc (suc n))

later-members : (m : Parts) (ms : List Parts) (n k : ℕ) → members_at (m ∷ ms) (numbers_from (suc n) k) ≡ members_at ms (numbers_from n k)
later-members m ms n zero = refl
later-members m ms n (suc k) = ap (λ more. member_at (slice_get ms n) ++ more) (later-members m ms (suc n) k)

take-none : (k : ℕ) → take {A = Parts} k [] ≡ []
take-none zero = refl
take-none (suc k) = refl

pub members-between : (n k : ℕ) (ms : List Parts) → members_at ms (numbers_from n k) ≡ take k (drop n ms)
members-between zero zero ms = refl
members-between zero (suc k) [] = none-there (suc k) 0
members-between zero (suc k) (m ∷ ms) = ap (λ more. m ∷ more) (later-members m ms 0 k ∙ members-between 0 k ms)
members-between (suc n) k [] = none-there k (suc n) ∙ sym (take-none k)
members-between (suc n) k (m ∷ ms) = later-members m ms n k ∙ members-between n k ms

numbers-more : (n k : ℕ) → numbers_from n (suc k) ≡ numbers_from n k ++ (n + k) ∷ []
numbers-more n zero = ap (λ (m : ℕ). m ∷ []) (omega arith)
numbers-more n (suc k) = ap (λ more. n ∷ more) (numbers-more (suc n) k ∙ ap (λ (m : ℕ). numbers_from (suc n) k ++ m ∷ []) (omega arith))

pub numbers-next : (n m : ℕ) → n ≤ m → numbers_from n (m - n) ++ m ∷ [] ≡ numbers_from n (m + 1 - n)
numbers-next n m least =
    let sum : n + (m - n) ≡ m = omega (arith, least) in
    let more : suc (m - n) ≡ m + 1 - n = omega (arith, least) in
    ap (λ (k : ℕ). numbers_from n (m - n) ++ k ∷ []) (sym sum) ∙ sym (numbers-more n (m - n)) ∙ ap (numbers_from n) more

pub valid-between : (n k : ℕ) (ms : List Parts) → AreValid ms → AreValid (take k (drop n ms))
valid-between n k ms valid = valid-take k (drop n ms) (valid-drop n ms valid)

pub light-between : (n k : ℕ) (ms : List Parts) → total_weight (take k (drop n ms)) ≤ total_weight ms
light-between n k ms =
    let first = weight-split n ms in
    let second = weight-split k (drop n ms) in
    omega (arith, first, second)

pub light-within : (n k : ℕ) (ms : List Parts) (most : ℕ) → total_weight ms ≤ most → total_weight (take k (drop n ms)) ≤ most
light-within n k ms most light = let less = light-between n k ms in omega (arith, less, light)

-- ---- ranges, one after another

module _ (ms : List Parts) (ranges : List FileRange) (i : ℕ) (d : FileRange) (inside : i < length ranges)
    (none : refused_among ms (map files_between (take i ranges)) ≡ None) where
  abbrev this : FileRange
  this = get_or ranges i d

  abbrev own : List Parts
  own = take (this.end - this.first) (drop this.first ms)

  own-answer : link_answer (members_at ms (files_between this)) ≡ link_answer own
  own-answer = ap link_answer (members-between this.first (this.end - this.first) ms)

  -- the modules of this one can't be linked
  pub range-found : is_some (link_answer own) ≡ true
      → Some (files_between this) ≡ option_map (λ p. p.0) (refused_among ms (map files_between ranges))
  range-found refused = by (link_answer own) own-answer refused where
    rest : List (List ℕ)
    rest = map files_between (drop (i + 1) ranges)

    split : ranges ≡ take i ranges ++ this ∷ drop (i + 1) ranges
    split = sym (take-append-drop i ranges) ∙ ap (λ (l : List FileRange). take i ranges ++ l) (drop_more ranges i d inside)

    all : refused_among ms (map files_between ranges) ≡ refused_among ms (files_between this ∷ rest)
    all =
        ap (λ (l : List FileRange). refused_among ms (map files_between l)) split
        ∙ ap (refused_among ms) (map-append files_between (take i ranges) (this ∷ drop (i + 1) ranges))
        ∙ refused-after ms (map files_between (take i ranges)) (files_between this ∷ rest) none

    by : (o : Option LinkFact) → link_answer (members_at ms (files_between this)) ≡ o → is_some o ≡ true
        → Some (files_between this) ≡ option_map (λ p. p.0) (refused_among ms (map files_between ranges))
    by None is refused = absurd cc
    by (Some f) is refused = ap (λ o. option_map (λ p. p.0) o) (sym (all ∙ refused-first ms (files_between this) rest f is))

  -- they can
  pub range-passed : is_some (link_answer own) ≡ false → refused_among ms (map files_between (take (i + 1) ranges)) ≡ None
  range-passed fine = by (link_answer own) own-answer fine where
    by : (o : Option LinkFact) → link_answer (members_at ms (files_between this)) ≡ o → is_some o ≡ false
        → refused_among ms (map files_between (take (i + 1) ranges)) ≡ None
    by None is fine =
        ap (λ (l : List FileRange). refused_among ms (map files_between l)) (take_more ranges i d inside)
        ∙ ap (refused_among ms) (map-append files_between (take i ranges) (this ∷ []))
        ∙ refused-after ms (map files_between (take i ranges)) (files_between this ∷ []) none
        ∙ refused-later ms (files_between this) [] is
    by (Some f) is fine = absurd cc

-- ---- the files of the list that is refused

-- the members at some positions are modules after those of the tree
members-after : (k : ℕ) (ms : List Parts) (chosen : List ℕ) → members_at ms (map (λ member. k + member) chosen) ≡ members_at (drop k ms) chosen
members-after k ms [] = refl
members-after k ms (n ∷ chosen) = λ i. member_at (get-after k n ms i) ++ members-after k ms chosen i where
  get-after : (k n : ℕ) (ms : List Parts) → slice_get ms (k + n) ≡ slice_get (drop k ms) n
  get-after zero n ms = ap (slice_get ms) (omega arith)
  get-after (suc k) n [] = refl
  get-after (suc k) n (m ∷ ms) = ap (slice_get (m ∷ ms)) (let same : suc k + n ≡ suc (k + n) = omega arith in same) ∙ get-after k n ms

members-append : (ms : List Parts) (a b : List ℕ) → members_at ms (a ++ b) ≡ members_at ms a ++ members_at ms b
members-append ms a b = flat_map-append (λ n. member_at (slice_get ms n)) a b

module _ (tree : Forest) (ms : List Parts) (k : ℕ) (count : k ≡ length (leaves tree)) (numbered : leaves tree ≡ numbers_from 0 k) where
  tree-modules : roots tree ms ≡ take k ms
  tree-modules = ap (members_at ms) numbered ∙ members-between 0 k ms

  -- the first range that is refused
  pub range-refused : (files : List ℕ) → Some files ≡ option_map (λ p. p.0) (refused_among ms (groups tree))
      → (f : LinkFact) → linked tree ms (stops f) → IsRefusedList tree ms files f
  range-refused files found f ends = by (refused_among ms (groups tree)) refl found where
    by : (o : Option (List ℕ × LinkFact)) → refused_among ms (groups tree) ≡ o → Some files ≡ option_map (λ p. p.0) o
        → IsRefusedList tree ms files f
    by None is found = absurd cc
    by (Some p) is found =
        let same : p.0 ≡ files = cc in
        let all : refused_among ms (linked_lists tree) ≡ Some p = refused-before ms (groups tree) (leaves tree ∷ []) p is in
        let own : refused_among ms (linked_lists tree) ≡ Some (files, p.1) = all ∙ ap (λ (l : List ℕ). Some (with-files l p.1)) same in
        inl (of-ends ends own) where
          of-ends : linked tree ms (stops f) → refused_among ms (linked_lists tree) ≡ Some (files, p.1)
              → refused_among ms (linked_lists tree) ≡ Some (files, f)
          of-ends (inl first) own = fact-of-list tree ms f p.1 files first own
          of-ends (inr (_, gives_on, later)) own = absurd (goes-on gives_on own) where
            goes-on : links (tree_links tree ms) (gives tt) → refused_among ms (linked_lists tree) ≡ Some (files, p.1) → ⊥
            goes-on is own = links-none tree ms p.1 files is own

  -- no range is refused
  pub others-refused : refused_among ms (groups tree) ≡ None → (files : List ℕ) → IsTreeOrFlat k ms files
      → (f : LinkFact) → linked tree ms (stops f) → IsRefusedList tree ms files f
  others-refused none files (inl (refused, are)) f ends = by (link_answer (members_at ms (leaves tree))) refl
      (subst (λ (l : List Parts). IsSome (link_answer l)) (sym tree-modules) refused) where
        by : (o : Option LinkFact) → link_answer (members_at ms (leaves tree)) ≡ o → IsSome o → IsRefusedList tree ms files f
        by None is some = absurd cc
        by (Some g) is some =
            let own : refused_among ms (linked_lists tree) ≡ Some (files, g)
            = refused-after ms (groups tree) (leaves tree ∷ []) none
            ∙ refused-first ms (leaves tree) [] g is ∙ ap (λ (l : List ℕ). Some (with-files l g)) (numbered ∙ sym are) in
            of-ends ends own where
              of-ends : linked tree ms (stops f) → refused_among ms (linked_lists tree) ≡ Some (files, g) → IsRefusedList tree ms files f
              of-ends (inl first) own = inl (fact-of-list tree ms f g files first own)
              of-ends (inr (_, gives_on, later)) own = absurd (links-none tree ms g files gives_on own)
  others-refused none files (inr (fine, (chosen, selected, are))) f ends = of-ends ends where
    all-fine : refused_among ms (linked_lists tree) ≡ None
    all-fine =
        refused-after ms (groups tree) (leaves tree ∷ []) none
        ∙ refused-later ms (leaves tree) [] (ap link_answer tree-modules ∙ fine)

    own-selected : IsSelected (roots tree ms) (members tree ms) chosen
    own-selected = subst (λ (n : ℕ). IsSelected (roots tree ms) (drop n ms) chosen) count
        (subst (λ (l : List Parts). IsSelected l (drop k ms) chosen) (sym tree-modules) selected)

    own-files : files ≡ flat_list tree chosen
    own-files = are ∙ (λ i. sym numbered i ++ map (λ member. count i + member) chosen)

    own-modules : members_at ms files ≡ roots tree ms ++ members_at (members tree ms) chosen
    own-modules =
        ap (members_at ms) own-files
        ∙ members-append ms (leaves tree) (map (λ member. length (leaves tree) + member) chosen)
        ∙ ap (λ (l : List Parts). roots tree ms ++ l) (members-after (length (leaves tree)) ms chosen)

    flat-refused : IsFlatList tree ms (members_at ms files)
    flat-refused = (chosen, own-selected, own-modules)

    of-ends : linked tree ms (stops f) → IsRefusedList tree ms files f
    of-ends (inl first) = absurd (none-ends tree ms f all-fine first)
    of-ends (inr (_, gives_on, inl never)) = absurd never
    of-ends (inr (_, gives_on, inr (flat, is_flat, inl stopped))) =
        let same : flat ≡ members_at ms files = flat_list-single tree ms flat (members_at ms files) is_flat flat-refused in
        let fact : link_answer (members_at ms files) ≡ Some f = ap link_answer (sym same) ∙ one-fact flat f (links-found (flat ∷ []) f stopped) in
        inr (all-fine, record { chosen = chosen; selected = own-selected; are = own-files; fact = fact })
    of-ends (inr (_, gives_on, inr (flat, is_flat, inr (_, on, never)))) = absurd never

-- ---- how many files they are

pub numbers-count : (n k : ℕ) → length (numbers_from n k) ≡ k
numbers-count n zero = refl
numbers-count n (suc k) = let more = numbers-count (suc n) k in omega (arith, more)

pub range-few : (range : FileRange) (most : ℕ) → range.end ≤ most → length (files_between range) ≤ most
range-few range most inside = let count = numbers-count range.first (range.end - range.first) in omega (arith, count, inside)

pub few-files : (k : ℕ) (ms : List Parts) (files : List ℕ) → k ≤ length ms → IsTreeOrFlat k ms files → length files ≤ length ms
few-files k ms files within (inl (refused, are)) =
    let same = ap (λ (l : List ℕ). length l) are in
    let count = numbers-count 0 k in
    omega (arith, same, count, within)
few-files k ms files within (inr (fine, (chosen, selected, are))) =
    let same = ap (λ (l : List ℕ). length l) are in
    let sum = length-append (numbers_from 0 k) (map (λ member. k + member) chosen) in
    let first = numbers-count 0 k in
    let second = length-map chosen (λ (member : ℕ). k + member) in
    let few = selected-few (take k ms) (drop k ms) chosen selected in
    let size = length-drop k ms in
    omega (arith, same, sum, first, second, few, size, within)

-- no range is refused
pub none-found : (o : Option (List ℕ × LinkFact)) → None ≡ option_map (λ p. p.0) o → o ≡ None
none-found None same = refl
none-found (Some p) same = absurd cc

pub if-ok-map : {A E : Type 0} (r : Result A E) (P Q : A → Type 0) → ((a : A) → P a → Q a) → IfOk r P → IfOk r Q
if-ok-map (Ok a) P Q along is = along a is
if-ok-map (Err e) P Q along is = tt
