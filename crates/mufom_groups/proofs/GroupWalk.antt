-- The marks of a tree one after another: which elements stand so far, where the open groups begin, and which groups are still to close.
use Rattle.std.proofs.Common.{◌≡◌, ℕ, ◌+◌, ◌-◌, ◌≤◌, ◌<◌, List, [], ◌∷◌, ◌++◌, flat_map, length, take, drop, get_or, refl, sym, ◌∙◌, ap, append-nil}
use Rattle.std.proofs.Common.{append_assoc, arith}
use Rattle.std.proofs.lemmas.Grind.{flat_map-append}
use Rattle.std.proofs.lemmas.List.{drop_more, length-append}
use Rattle.mufom_words.specs.declared.command.Mark.{Mark}
use Rattle.mufom_words.specs.declared.command.Mark.TheVariants.{Open, Close, File}
use Rattle.mufom_words.specs.Tree.{Forest, empty, file, group, spelling, leaves, groups}
use Rattle.mufom_groups.specs.Groups.{elements, files_of, last_of, together}

-- the files of some elements
abbrev pub files_in : List (List ℕ) → List ℕ
files_in parts = flat_map (λ own. own) parts

-- the elements once the innermost open group is closed
abbrev pub closed : List (List ℕ) → List ℕ → List (List ℕ)
closed parts begun = take (last_of begun) parts ++ together (drop (last_of begun) parts)

-- the open groups then
abbrev pub outer : List ℕ → List ℕ
outer begun = take (length begun - 1) begun

-- the elements that stand after these marks
abbrev pub elements_after : List Mark → List (List ℕ) → List ℕ → List (List ℕ)
elements_after [] parts begun = parts
elements_after (File n ∷ marks) parts begun = elements_after marks (parts ++ (n ∷ []) ∷ []) begun
elements_after (Open ∷ marks) parts begun = elements_after marks parts (begun ++ length parts ∷ [])
elements_after (Close ∷ marks) parts begun = elements_after marks (closed parts begun) (outer begun)

-- the files of each group that these marks close
abbrev pub groups_closed : List Mark → List (List ℕ) → List ℕ → List (List ℕ)
groups_closed [] parts begun = []
groups_closed (File n ∷ marks) parts begun = groups_closed marks (parts ++ (n ∷ []) ∷ []) begun
groups_closed (Open ∷ marks) parts begun = groups_closed marks parts (begun ++ length parts ∷ [])
groups_closed (Close ∷ marks) parts begun = files_in (drop (last_of begun) parts) ∷ groups_closed marks (closed parts begun) (outer begun)

-- ---- lists

take-before : {A : Type 0} (xs ys : List A) → take (length xs) (xs ++ ys) ≡ xs
take-before [] ys = refl
take-before (x ∷ xs) ys = ap (λ l. x ∷ l) (take-before xs ys)

drop-before : {A : Type 0} (xs ys : List A) → drop (length xs) (xs ++ ys) ≡ ys
drop-before [] ys = refl
drop-before (x ∷ xs) ys = drop-before xs ys

get-last : (xs : List ℕ) (n : ℕ) → get_or (xs ++ n ∷ []) (length xs) 0 ≡ n
get-last [] n = refl
get-last (x ∷ xs) n = get-last xs n

one-less : (xs : List ℕ) (n : ℕ) → length (xs ++ n ∷ []) - 1 ≡ length xs
one-less xs n = let sum = length-append xs (n ∷ []) in omega (arith, sum)

pub last-of-more : (begun : List ℕ) (n : ℕ) → last_of (begun ++ n ∷ []) ≡ n
last-of-more begun n = ap (λ (k : ℕ). get_or (begun ++ n ∷ []) k 0) (one-less begun n) ∙ get-last begun n

pub outer-of-more : (begun : List ℕ) (n : ℕ) → outer (begun ++ n ∷ []) ≡ begun
outer-of-more begun n = ap (λ (k : ℕ). take k (begun ++ n ∷ [])) (one-less begun n) ∙ take-before begun (n ∷ [])

-- ---- files

files-together : (parts : List (List ℕ)) → files_in (together parts) ≡ files_in parts
files-together [] = refl
files-together (part ∷ parts) = append-nil (part ++ files_in parts)

pub files-append : (parts more : List (List ℕ)) → files_in (parts ++ more) ≡ files_in parts ++ files_in more
files-append parts more = flat_map-append (λ own. own) parts more

-- the files of the elements are those of the tree
pub files-of-elements : (tree : Forest) → files_in (elements tree) ≡ leaves tree
files-of-elements empty = refl
files-of-elements (file n more) = ap (λ (l : List ℕ). n ∷ l) (files-of-elements more)
files-of-elements (group inner more) =
    files-append (together (elements inner)) (elements more)
    ∙ (λ i. (files-together (elements inner) ∙ files-of-elements inner) i ++ files-of-elements more i)

pub files-of-spelling : (tree : Forest) (marks : List Mark) → files_of (spelling tree ++ marks) ≡ leaves tree ++ files_of marks
files-of-spelling empty marks = refl
files-of-spelling (file n more) marks = ap (λ (l : List ℕ). n ∷ l) (files-of-spelling more marks)
files-of-spelling (group inner more) marks =
    ap files_of (append_assoc (spelling inner) (Close ∷ spelling more) marks)
    ∙ files-of-spelling inner (Close ∷ (spelling more ++ marks))
    ∙ ap (λ (l : List ℕ). leaves inner ++ l) (files-of-spelling more marks)
    ∙ sym (append_assoc (leaves inner) (leaves more) (files_of marks))

-- ---- the marks of a tree

-- once a group that began after these elements is closed
closed-group : (parts more : List (List ℕ)) (begun : List ℕ) → closed (parts ++ more) (begun ++ length parts ∷ []) ≡ parts ++ together more
closed-group parts more begun =
    ap (λ (k : ℕ). take k (parts ++ more) ++ together (drop k (parts ++ more))) (last-of-more begun (length parts))
    ∙ (λ i. take-before parts more i ++ together (drop-before parts more i))

group-files : (parts : List (List ℕ)) (inner : Forest) (begun : List ℕ)
    → files_in (drop (last_of (begun ++ length parts ∷ [])) (parts ++ elements inner)) ≡ leaves inner
group-files parts inner begun =
    ap (λ (k : ℕ). files_in (drop k (parts ++ elements inner))) (last-of-more begun (length parts)) ∙ ap files_in (drop-before parts (elements inner))
    ∙ files-of-elements inner

elements-of-tree : (tree : Forest) (marks : List Mark) (parts : List (List ℕ)) (begun : List ℕ) → elements_after (spelling tree ++ marks) parts begun
    ≡ elements_after marks (parts ++ elements tree) begun
elements-of-tree empty marks parts begun = ap (λ (p : List (List ℕ)). elements_after marks p begun) (sym (append-nil parts))
elements-of-tree (file n more) marks parts begun =
    elements-of-tree more marks (parts ++ (n ∷ []) ∷ []) begun
    ∙ ap (λ (p : List (List ℕ)). elements_after marks p begun) (append_assoc parts ((n ∷ []) ∷ []) (elements more))
elements-of-tree (group inner more) marks parts begun =
    let rest : List Mark = spelling more ++ marks in
    let start : List ℕ = begun ++ length parts ∷ [] in
    ap (λ (l : List Mark). elements_after l parts start) (append_assoc (spelling inner) (Close ∷ spelling more) marks)
    ∙ elements-of-tree inner (Close ∷ rest) parts start
    ∙ (λ i. elements_after rest (closed-group parts (elements inner) begun i) (outer-of-more begun (length parts) i))
    ∙ elements-of-tree more marks (parts ++ together (elements inner)) begun
    ∙ ap (λ (p : List (List ℕ)). elements_after marks p begun) (append_assoc parts (together (elements inner)) (elements more))

groups-of-tree : (tree : Forest) (marks : List Mark) (parts : List (List ℕ)) (begun : List ℕ) → groups_closed (spelling tree ++ marks) parts begun
    ≡ groups tree ++ groups_closed marks (parts ++ elements tree) begun
groups-of-tree empty marks parts begun = ap (λ (p : List (List ℕ)). groups_closed marks p begun) (sym (append-nil parts))
groups-of-tree (file n more) marks parts begun =
    groups-of-tree more marks (parts ++ (n ∷ []) ∷ []) begun ∙ ap (λ (p : List (List ℕ)). groups more
    ++ groups_closed marks p begun) (append_assoc parts ((n ∷ []) ∷ []) (elements more))
groups-of-tree (group inner more) marks parts begun =
    let rest : List Mark = spelling more ++ marks in
    let start : List ℕ = begun ++ length parts ∷ [] in
    let last : List (List ℕ) = groups_closed marks (parts ++ (together (elements inner) ++ elements more)) begun in
    ap (λ (l : List Mark). groups_closed l parts start) (append_assoc (spelling inner) (Close ∷ spelling more) marks)
    ∙ groups-of-tree inner (Close ∷ rest) parts start
    ∙ (λ i. groups inner ++ group-files parts inner begun i ∷ groups_closed rest (closed-group parts (elements inner) begun i)
    (outer-of-more begun (length parts) i))
    ∙ ap (λ (l : List (List ℕ)). groups inner ++ leaves inner ∷ l) (groups-of-tree more marks (parts ++ together (elements inner)) begun)
    ∙ ap (λ (p : List (List ℕ)). groups inner ++ leaves inner ∷ (groups more ++ groups_closed marks p begun))
    (append_assoc parts (together (elements inner)) (elements more))
    ∙ sym (append_assoc (groups inner) (leaves inner ∷ groups more) last)

-- after all of its marks the elements of the tree stand, and its groups were closed
pub all-elements : (tree : Forest) → elements_after (spelling tree) [] [] ≡ elements tree
all-elements tree = ap (λ (l : List Mark). elements_after l [] []) (sym (append-nil (spelling tree))) ∙ elements-of-tree tree [] [] []

pub all-groups : (tree : Forest) → groups_closed (spelling tree) [] [] ≡ groups tree
all-groups tree = ap (λ (l : List Mark). groups_closed l [] []) (sym (append-nil (spelling tree))) ∙ groups-of-tree tree [] [] [] ∙ append-nil (groups tree)

pub all-files : (tree : Forest) → files_of (spelling tree) ≡ leaves tree
all-files tree = ap files_of (sym (append-nil (spelling tree))) ∙ files-of-spelling tree [] ∙ append-nil (leaves tree)

pub files-of-append : (marks more : List Mark) → files_of (marks ++ more) ≡ files_of marks ++ files_of more
files-of-append [] more = refl
files-of-append (File n ∷ marks) more = ap (λ (l : List ℕ). n ∷ l) (files-of-append marks more)
files-of-append (Open ∷ marks) more = files-of-append marks more
files-of-append (Close ∷ marks) more = files-of-append marks more

pub files-fewer : (marks : List Mark) → length (files_of marks) ≤ length marks
files-fewer [] = omega arith
files-fewer (File n ∷ marks) = let more = files-fewer marks in omega (arith, more)
files-fewer (Open ∷ marks) = let more = files-fewer marks in omega (arith, more)
files-fewer (Close ∷ marks) = let more = files-fewer marks in omega (arith, more)

pub count-here : (marks : List Mark) (i : ℕ) (d : Mark) (count own : ℕ) → i < length marks → own ≡ length (files_of (get_or marks i d ∷ [])) → own ≤ 1
    → (count + length (files_of (drop i marks)) ≡ length (files_of marks)) × (count ≤ i)
    → (count + own + length (files_of (drop (i + 1) marks)) ≡ length (files_of marks)) × (count + own ≤ i + 1)
count-here marks i d count own inside is few so_far =
    let next = ap (λ (l : List Mark). length (files_of l)) (drop_more marks i d inside) in
    let split = ap (λ (l : List ℕ). length l) (files-of-append (get_or marks i d ∷ []) (drop (i + 1) marks)) in
    let sum = length-append (files_of (get_or marks i d ∷ [])) (files_of (drop (i + 1) marks)) in
    (omega (arith, next, split, sum, is, so_far.0), omega (arith, few, so_far.1))
