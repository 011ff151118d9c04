-- An expression in infix form is spelled by its bytes alone: no two expressions have the same.
use Rattle.std.proofs.Common.{◌≡◌, ℕ, zero, suc, ◌==◌, ◌&&◌, ◌||◌, not, nat_lt, Bool, true, false, List, [], ◌∷◌, ◌++◌, get_or, length, codes}
use Rattle.std.proofs.Common.{refl, sym, ap, subst, ◌∙◌, inl, inr, ◌⊎◌, eqb-true, append_assoc, append-nil, if◌then◌else◌}
use Rattle.std.specs.Char.{digit_value}
use Rattle.mufom_expr.specs.declared.token.Letter.{Letter}
use Rattle.mufom_expr.specs.declared.token.Letter.TheVariants as letters
use Rattle.mufom_expr.specs.Tree.{Tree, number, variable, one, two, function_of_one, function_of_two, tokens_of}
use Rattle.mufom_expr.specs.Tree.{OneOperand, absolute, negated, TwoOperands, plus, minus, divided, times, larger, smaller, modulo}
use Rattle.mufom_expr.specs.Tree.{is_less, is_greater, is_equal, is_unequal, and_bits, or_bits, xor_bits}
use Rattle.mufom_expr.specs.InfixText.{letter_text, opening_text, middle_text}
use Rattle.mufom_text.specs.Words.{Text}
use Rattle.mufom_build_text.specs.Pieces.{Piece, figure, byte, gap, words, infix_pieces, value_pieces, MOST_NUMBER, MOST_POSITION}
use Rattle.mufom_build_text.specs.Loosely.{no_space, no_figure}
use Rattle.mufom_build_text.proofs.FirstBytes.{both_true, no}
use Rattle.mufom_build.proofs.OnePiece.{Both, figure_both, expression_both}
use Rattle.mufom_build.proofs.OneWord.{tight, spaced, clash, words_both, spaced_both, words_differ, begins_solid, solid_no_space, number_is_no_word}
use Rattle.mufom_build.proofs.OneWord.{turned}

-- ---- what expressions that are no numbers begin with

pub data Head : Type 0 where
  of_letter : (letter : Letter) → Head
  of_one : (f : OneOperand) → Head
  of_two : (f : TwoOperands) → Head

abbrev pub text_of : Head → Text
text_of (of_letter letter) = letter_text letter
text_of (of_one f) = opening_text (function_of_one f)
text_of (of_two f) = opening_text (function_of_two f)

-- what is between the operands
abbrev pub middle_of : Head → Text
middle_of (of_letter letter) = []
middle_of (of_one f) = []
middle_of (of_two f) = middle_text (function_of_two f)

abbrev heads : List Head
heads = of_letter letters.I ∷ of_letter letters.L ∷ of_letter letters.P ∷ of_letter letters.R ∷ of_letter letters.S ∷ of_letter letters.X
    ∷ of_one absolute ∷ of_one negated ∷ of_two plus ∷ of_two minus ∷ of_two divided ∷ of_two times ∷ of_two larger ∷ of_two smaller
    ∷ of_two modulo ∷ of_two is_less ∷ of_two is_greater ∷ of_two is_equal ∷ of_two is_unequal ∷ of_two and_bits ∷ of_two or_bits
    ∷ of_two xor_bits ∷ []

abbrev place_of : Head → ℕ
place_of (of_letter letters.I) = 0
place_of (of_letter letters.L) = 1
place_of (of_letter letters.P) = 2
place_of (of_letter letters.R) = 3
place_of (of_letter letters.S) = 4
place_of (of_letter letters.X) = 5
place_of (of_one absolute) = 6
place_of (of_one negated) = 7
place_of (of_two plus) = 8
place_of (of_two minus) = 9
place_of (of_two divided) = 10
place_of (of_two times) = 11
place_of (of_two larger) = 12
place_of (of_two smaller) = 13
place_of (of_two modulo) = 14
place_of (of_two is_less) = 15
place_of (of_two is_greater) = 16
place_of (of_two is_equal) = 17
place_of (of_two is_unequal) = 18
place_of (of_two and_bits) = 19
place_of (of_two or_bits) = 20
place_of (of_two xor_bits) = 21

abbrev any_head : Head
any_head = of_letter letters.I

found : (h : Head) → get_or heads (place_of h) any_head ≡ h
found (of_letter letters.I) = refl
found (of_letter letters.L) = refl
found (of_letter letters.P) = refl
found (of_letter letters.R) = refl
found (of_letter letters.S) = refl
found (of_letter letters.X) = refl
found (of_one absolute) = refl
found (of_one negated) = refl
found (of_two plus) = refl
found (of_two minus) = refl
found (of_two divided) = refl
found (of_two times) = refl
found (of_two larger) = refl
found (of_two smaller) = refl
found (of_two modulo) = refl
found (of_two is_less) = refl
found (of_two is_greater) = refl
found (of_two is_equal) = refl
found (of_two is_unequal) = refl
found (of_two and_bits) = refl
found (of_two or_bits) = refl
found (of_two xor_bits) = refl

abbrev every : (Head → Bool) → List Head → Bool
every test [] = true
every test (h ∷ hs) = test h && every test hs

every_at : (test : Head → Bool) (hs : List Head) (h : Head) (n : ℕ) → every test hs ≡ true → test h ≡ true → test (get_or hs n h) ≡ true
every_at test [] h n all other = other
every_at test (x ∷ hs) h zero all other = (both_true (test x) (every test hs) all).0
every_at test (x ∷ hs) h (suc n) all other = every_at test hs h n (both_true (test x) (every test hs) all).1 other

-- a test that each head of the list passes
pub each_head : (test : Head → Bool) → every test heads ≡ true → (h : Head) → test h ≡ true
each_head test all h =
    ap test (sym (found h)) ∙ every_at test heads any_head (place_of h) all (both_true (test any_head) _ all).0

-- ---- what tells two of them apart

abbrev same_text : Text → Text → Bool
same_text [] [] = true
same_text [] (d ∷ v) = false
same_text (c ∷ w) [] = false
same_text (c ∷ w) (d ∷ v) = (c == d) && same_text w v

same_text_is : (w v : Text) → same_text w v ≡ true → w ≡ v
same_text_is [] [] e = refl
same_text_is [] (d ∷ v) e = absurd (no e)
same_text_is (c ∷ w) [] e = absurd (no e)
same_text_is (c ∷ w) (d ∷ v) e =
    let (first, rest) = both_true (c == d) (same_text w v) e in
    ap (λ x. x ∷ w) (eqb-true c d first) ∙ ap (λ l. d ∷ l) (same_text_is w v rest)

-- they begin with words that differ, or with the same and have words that differ between their operands
abbrev told : Head → Head → Bool
told h k = (place_of h == place_of k) || (clash (text_of h) (text_of k) || (same_text (text_of h) (text_of k) && clash (middle_of h) (middle_of k)))

all_told : (h k : Head) → told h k ≡ true
all_told h k = each_head (told h) (each_head (λ g. every (told g) heads) refl h) k

-- the same head, or heads that begin alike
abbrev AreAlike : Head → Head → Type 0
AreAlike h k = (h ≡ k) ⊎ ((text_of h ≡ text_of k) × (clash (middle_of h) (middle_of k) ≡ true))

alike : (h k : Head) (xs ys : List Piece) → Both (words (text_of h) ++ xs) (words (text_of k) ++ ys) → AreAlike h k
alike h k xs ys both = by_test (place_of h == place_of k) (clash (text_of h) (text_of k)) (same_text (text_of h) (text_of k))
    (clash (middle_of h) (middle_of k)) refl refl refl refl (all_told h k)
  where
    by_test : (a b c d : Bool) → (place_of h == place_of k) ≡ a → clash (text_of h) (text_of k) ≡ b → same_text (text_of h) (text_of k) ≡ c
        → clash (middle_of h) (middle_of k) ≡ d → (a || (b || (c && d))) ≡ true → AreAlike h k
    by_test true b c d e f g i j =
        inl (sym (found h) ∙ ap (λ n. get_or heads n any_head) (eqb-true (place_of h) (place_of k) e) ∙ found k)
    by_test false true c d e f g i j = absurd (words_differ (text_of h) (text_of k) xs ys f both)
    by_test false false true true e f g i j = inr (same_text_is (text_of h) (text_of k) g, i)
    by_test false false true false e f g i j = absurd (no j)
    by_test false false false d e f g i j = absurd (no j)

-- ---- words of heads

-- the words begin with no digit
abbrev begins_unlike_number : Text → Bool
begins_unlike_number [] = false
begins_unlike_number (c ∷ w) = not (nat_lt (digit_value c) 10)

no_figure_piece : (b : Bool) (c : ℕ) (more : List Piece) → not (nat_lt (digit_value c) 10) ≡ true
    → no_figure ((if b then gap else byte c) ∷ more) ≡ true
no_figure_piece true c more h = refl
no_figure_piece false c more h = h

words_no_figure : (w : Text) (more : List Piece) → begins_unlike_number w ≡ true → no_figure (words w ++ more) ≡ true
words_no_figure [] more h = absurd (no h)
words_no_figure (c ∷ w) more h = no_figure_piece (c == 32) c (words w ++ more) h

number_is_no_text : (most n : ℕ) (w : Text) (xs ys : List Piece) → begins_unlike_number w ≡ true → Both (figure most n ∷ xs) (words w ++ ys) → ⊥
number_is_no_text most n [] xs ys h both = no h
number_is_no_text most n (c ∷ w) xs ys h both = number_is_no_word most n c xs (words w ++ ys) h both

number_is_no_head : (most n : ℕ) (h : Head) (xs ys : List Piece) → Both (figure most n ∷ xs) (words (text_of h) ++ ys) → ⊥
number_is_no_head most n h xs ys both =
    number_is_no_text most n (text_of h) xs ys (each_head (λ k. begins_unlike_number (text_of k)) refl h) both

-- what is between two operands begins with no digit
abbrev middle_test : Head → Bool
middle_test (of_letter letter) = true
middle_test (of_one f) = true
middle_test (of_two f) = begins_unlike_number (middle_text (function_of_two f))

pub middle_no_figure : (f : TwoOperands) (more : List Piece) → no_figure (words (middle_text (function_of_two f)) ++ more) ≡ true
middle_no_figure f more = words_no_figure (middle_text (function_of_two f)) more (each_head middle_test refl (of_two f))

-- it begins and ends with words without two spaces in a row
pub head_tight : (h : Head) → tight (text_of h) ≡ true
head_tight = each_head (λ h. tight (text_of h)) refl

pub head_solid : (h : Head) → begins_solid (text_of h) ≡ true
head_solid = each_head (λ h. begins_solid (text_of h)) refl

pub middle_spaced : (h : Head) → spaced (middle_of h) ≡ true
middle_spaced = each_head (λ h. spaced (middle_of h)) refl

-- ---- expressions

-- the pieces of an expression of one operand, and of two, and what follows
pub one_pieces : (f : OneOperand) (a : Tree) (xs : List Piece) → infix_pieces (one f a) ++ xs
    ≡ words (opening_text (function_of_one f)) ++ (infix_pieces a ++ (words (codes ")") ++ xs))
one_pieces f a xs = append_assoc (words (opening_text (function_of_one f)) ++ infix_pieces a) (words (codes ")")) xs
    ∙ append_assoc (words (opening_text (function_of_one f))) (infix_pieces a) (words (codes ")") ++ xs)

pub two_pieces : (f : TwoOperands) (a b : Tree) (xs : List Piece) → infix_pieces (two f a b) ++ xs
    ≡ words (opening_text (function_of_two f)) ++ (infix_pieces a ++ (words (middle_text (function_of_two f))
    ++ (infix_pieces b ++ (words (codes ")") ++ xs))))
two_pieces f a b xs =
    let o = words (opening_text (function_of_two f)) in
    let m = words (middle_text (function_of_two f)) in
    let e = words (codes ")") in
    append_assoc (((o ++ infix_pieces a) ++ m) ++ infix_pieces b) e xs
    ∙ append_assoc ((o ++ infix_pieces a) ++ m) (infix_pieces b) (e ++ xs)
    ∙ append_assoc (o ++ infix_pieces a) m (infix_pieces b ++ (e ++ xs))
    ∙ append_assoc o (infix_pieces a) (m ++ (infix_pieces b ++ (e ++ xs)))

pub variable_pieces : (letter : Letter) (place : ℕ) (xs : List Piece) → infix_pieces (variable letter place) ++ xs
    ≡ words (letter_text letter) ++ (figure MOST_POSITION place ∷ xs)
variable_pieces letter place xs = append_assoc (words (letter_text letter)) (figure MOST_POSITION place ∷ []) xs

pub infix_no_space : (t : Tree) (xs : List Piece) → no_space (infix_pieces t ++ xs) ≡ true
infix_no_space (number n) xs = refl
infix_no_space (variable letter place) xs = ap no_space (variable_pieces letter place xs)
    ∙ solid_no_space (letter_text letter) _ (head_solid (of_letter letter))
infix_no_space (one f a) xs = ap no_space (one_pieces f a xs) ∙ solid_no_space (opening_text (function_of_one f)) _ (head_solid (of_one f))
infix_no_space (two f a b) xs = ap no_space (two_pieces f a b xs) ∙ solid_no_space (opening_text (function_of_two f)) _ (head_solid (of_two f))

pub changed : {xs ys us vs : List Piece} → xs ≡ us → ys ≡ vs → Both xs ys → Both us vs
changed {xs} {ys} {us} {vs} e f both =
    subst (λ (l : List Piece). Both l vs) e (subst (λ (l : List Piece). Both xs l) f both)

abbrev SameTree : Tree → Tree → List Piece → List Piece → Type 0
SameTree t u xs ys = (t ≡ u) × Both xs ys

letter_is_no_one : (letter : Letter) (f : OneOperand) → of_letter letter ≡ of_one f → ⊥
letter_is_no_one letter f e = cc

letter_is_no_two : (letter : Letter) (f : TwoOperands) → of_letter letter ≡ of_two f → ⊥
letter_is_no_two letter f e = cc

one_is_no_two : (f : OneOperand) (g : TwoOperands) → of_one f ≡ of_two g → ⊥
one_is_no_two f g e = cc

-- heads of two kinds begin with words that differ, since only a function of two operands has words between them
apart : (h k : Head) (xs ys : List Piece) → (h ≡ k → ⊥) → (clash (middle_of h) (middle_of k) ≡ true → ⊥)
    → Both (words (text_of h) ++ xs) (words (text_of k) ++ ys) → ⊥
apart h k xs ys unlike no_middle both = by_case (alike h k xs ys both)
  where
    by_case : AreAlike h k → ⊥
    by_case (inl e) = unlike e
    by_case (inr (e, f)) = no_middle f

never : (w : Text) → clash w [] ≡ true → ⊥
never [] e = no e
never (c ∷ w) e = no e

-- two variables
same_letter : (l k : Letter) (p q : ℕ) (xs ys : List Piece) → no_figure xs ≡ true → no_figure ys ≡ true
    → Both (words (letter_text l) ++ (figure MOST_POSITION p ∷ xs)) (words (letter_text k) ++ (figure MOST_POSITION q ∷ ys))
    → AreAlike (of_letter l) (of_letter k) → SameTree (variable l p) (variable k q) xs ys
same_letter l k p q xs ys g h both (inr (e, f)) = absurd (no f)
same_letter l k p q xs ys g h both (inl e) =
    let letter : l ≡ k = cc in
    let again = subst (λ (w : Text). Both (words (letter_text l) ++ (figure MOST_POSITION p ∷ xs)) (words w ++ (figure MOST_POSITION q ∷ ys)))
    (ap letter_text (sym letter)) both in
    let numbers = words_both (letter_text l) (figure MOST_POSITION p ∷ xs) (figure MOST_POSITION q ∷ ys) (head_tight (of_letter l)) again in
    let (place, rest) = figure_both MOST_POSITION p MOST_POSITION q xs ys g h numbers in
    (ap (λ m. variable m p) letter ∙ ap (λ n. variable k n) place, rest)

-- the bracket after an operand
closed_both : (xs ys : List Piece) → Both (words (codes ")") ++ xs) (words (codes ")") ++ ys) → Both xs ys
closed_both xs ys both = words_both (codes ")") xs ys refl both

-- two functions of one operand
same_one : (f k : OneOperand) (a b : Tree) (xs ys : List Piece)
    → (Both (infix_pieces a ++ (words (codes ")") ++ xs)) (infix_pieces b ++ (words (codes ")") ++ ys))
    → SameTree a b (words (codes ")") ++ xs) (words (codes ")") ++ ys))
    → Both (words (opening_text (function_of_one f)) ++ (infix_pieces a ++ (words (codes ")") ++ xs)))
    (words (opening_text (function_of_one k)) ++ (infix_pieces b ++ (words (codes ")") ++ ys)))
    → AreAlike (of_one f) (of_one k) → SameTree (one f a) (one k b) xs ys
same_one f k a b xs ys operand both (inr (e, g)) = absurd (no g)
same_one f k a b xs ys operand both (inl e) =
    let function : f ≡ k = cc in
    let left = infix_pieces a ++ (words (codes ")") ++ xs) in
    let right = infix_pieces b ++ (words (codes ")") ++ ys) in
    let again = subst (λ (w : Text). Both (words (opening_text (function_of_one f)) ++ left) (words w ++ right))
    (ap (λ g. opening_text (function_of_one g)) (sym function)) both in
    let (tree, rest) = operand (words_both (opening_text (function_of_one f)) left right (head_tight (of_one f)) again) in
    (ap (λ g. one g a) function ∙ ap (λ t. one k t) tree, closed_both xs ys rest)

-- two functions of two operands
abbrev after_first : TwoOperands → Tree → List Piece → List Piece
after_first f b xs = words (middle_text (function_of_two f)) ++ (infix_pieces b ++ (words (codes ")") ++ xs))

abbrev FirstOperand : TwoOperands → TwoOperands → Tree → Tree → Tree → Tree → List Piece → List Piece → Type 0
FirstOperand f k a b c d xs ys = Both (infix_pieces a ++ after_first f b xs) (infix_pieces c ++ after_first k d ys)
    → SameTree a c (after_first f b xs) (after_first k d ys)

same_two : (f k : TwoOperands) (a b c d : Tree) (xs ys : List Piece) → FirstOperand f k a b c d xs ys
    → (Both (infix_pieces b ++ (words (codes ")") ++ xs)) (infix_pieces d ++ (words (codes ")") ++ ys))
    → SameTree b d (words (codes ")") ++ xs) (words (codes ")") ++ ys))
    → Both (words (opening_text (function_of_two f)) ++ (infix_pieces a ++ after_first f b xs))
    (words (opening_text (function_of_two k)) ++ (infix_pieces c ++ after_first k d ys))
    → AreAlike (of_two f) (of_two k) → SameTree (two f a b) (two k c d) xs ys
same_two f k a b c d xs ys first second both (inr (e, clashing)) =
    let left = infix_pieces a ++ after_first f b xs in
    let right = infix_pieces c ++ after_first k d ys in
    let again = subst (λ (w : Text). Both (words (opening_text (function_of_two f)) ++ left) (words w ++ right)) (sym e) both in
    let (tree, rest) = first (words_both (opening_text (function_of_two f)) left right (head_tight (of_two f)) again) in
    absurd (words_differ (middle_text (function_of_two f)) (middle_text (function_of_two k)) _ _ clashing rest)
same_two f k a b c d xs ys first second both (inl e) =
    let function : f ≡ k = cc in
    let left = infix_pieces a ++ after_first f b xs in
    let right = infix_pieces c ++ after_first k d ys in
    let again = subst (λ (w : Text). Both (words (opening_text (function_of_two f)) ++ left) (words w ++ right))
    (ap (λ g. opening_text (function_of_two g)) (sym function)) both in
    let (tree, rest) = first (words_both (opening_text (function_of_two f)) left right (head_tight (of_two f)) again) in
    let more = infix_pieces b ++ (words (codes ")") ++ xs) in
    let other = infix_pieces d ++ (words (codes ")") ++ ys) in
    let middles = subst (λ (w : Text). Both (words (middle_text (function_of_two f)) ++ more) (words w ++ other))
    (ap (λ g. middle_text (function_of_two g)) (sym function)) rest in
    let operands = spaced_both (middle_text (function_of_two f)) more other (middle_spaced (of_two f)) (infix_no_space b _)
    (infix_no_space d _) middles in
    let (last, end) = second operands in
    (ap (λ g. two g a b) function ∙ ap (λ t. two k t b) tree ∙ ap (λ t. two k c t) last, closed_both xs ys end)

pub tree_both : (t u : Tree) (xs ys : List Piece) → no_figure xs ≡ true → no_figure ys ≡ true → Both (infix_pieces t ++ xs) (infix_pieces u ++ ys)
    → SameTree t u xs ys
tree_both (number m) (number n) xs ys g h both =
    let (same, rest) = figure_both MOST_NUMBER m MOST_NUMBER n xs ys g h both in (ap number same, rest)
tree_both (number m) (variable l p) xs ys g h both =
    absurd (number_is_no_head MOST_NUMBER m (of_letter l) xs _ (changed {xs = figure MOST_NUMBER m ∷ xs} refl (variable_pieces l p ys) both))
tree_both (number m) (one f a) xs ys g h both = absurd (number_is_no_head MOST_NUMBER m (of_one f) xs _
    (changed {xs = figure MOST_NUMBER m ∷ xs} refl (one_pieces f a ys) both))
tree_both (number m) (two f a b) xs ys g h both = absurd (number_is_no_head MOST_NUMBER m (of_two f) xs _
    (changed {xs = figure MOST_NUMBER m ∷ xs} refl (two_pieces f a b ys) both))
tree_both (variable l p) (number n) xs ys g h both =
    absurd (number_is_no_head MOST_NUMBER n (of_letter l) ys _ (turned _ (figure MOST_NUMBER n ∷ ys)
    (changed {ys = figure MOST_NUMBER n ∷ ys} (variable_pieces l p xs) refl both)))
tree_both (one f a) (number n) xs ys g h both =
    absurd (number_is_no_head MOST_NUMBER n (of_one f) ys _ (turned _ (figure MOST_NUMBER n ∷ ys)
    (changed {ys = figure MOST_NUMBER n ∷ ys} (one_pieces f a xs) refl both)))
tree_both (two f a b) (number n) xs ys g h both =
    absurd (number_is_no_head MOST_NUMBER n (of_two f) ys _ (turned _ (figure MOST_NUMBER n ∷ ys)
    (changed {ys = figure MOST_NUMBER n ∷ ys} (two_pieces f a b xs) refl both)))
tree_both (variable l p) (one f a) xs ys g h both = absurd (apart (of_letter l) (of_one f) _ _ (letter_is_no_one l f) (λ e. no e)
    (changed (variable_pieces l p xs) (one_pieces f a ys) both))
tree_both (variable l p) (two f a b) xs ys g h both = absurd (apart (of_letter l) (of_two f) _ _ (letter_is_no_two l f) (λ e. no e)
    (changed (variable_pieces l p xs) (two_pieces f a b ys) both))
tree_both (one f a) (variable l p) xs ys g h both = absurd (apart (of_one f) (of_letter l) _ _ (λ e. letter_is_no_one l f (sym e)) (λ e. no e)
    (changed (one_pieces f a xs) (variable_pieces l p ys) both))
tree_both (two f a b) (variable l p) xs ys g h both = absurd (apart (of_two f) (of_letter l) _ _ (λ e. letter_is_no_two l f (sym e))
    (never (middle_text (function_of_two f))) (changed (two_pieces f a b xs) (variable_pieces l p ys) both))
tree_both (one f a) (two k b c) xs ys g h both = absurd (apart (of_one f) (of_two k) _ _ (one_is_no_two f k) (λ e. no e)
    (changed (one_pieces f a xs) (two_pieces k b c ys) both))
tree_both (two k b c) (one f a) xs ys g h both = absurd (apart (of_two k) (of_one f) _ _ (λ e. one_is_no_two f k (sym e))
    (never (middle_text (function_of_two k))) (changed (two_pieces k b c xs) (one_pieces f a ys) both))
tree_both (variable l p) (variable k q) xs ys g h both =
    let both' = changed (variable_pieces l p xs) (variable_pieces k q ys) both in
    same_letter l k p q xs ys g h both' (alike (of_letter l) (of_letter k) _ _ both')
tree_both (one f a) (one k b) xs ys g h both =
    let both' = changed (one_pieces f a xs) (one_pieces k b ys) both in
    same_one f k a b xs ys (tree_both a b (words (codes ")") ++ xs) (words (codes ")") ++ ys) refl refl) both' (alike (of_one f) (of_one k) _ _ both')
tree_both (two f a b) (two k c d) xs ys g h both =
    let both' = changed (two_pieces f a b xs) (two_pieces k c d ys) both in
    same_two f k a b c d xs ys
    (tree_both a c (words (middle_text (function_of_two f)) ++ (infix_pieces b ++ (words (codes ")") ++ xs)))
    (words (middle_text (function_of_two k)) ++ (infix_pieces d ++ (words (codes ")") ++ ys))) (middle_no_figure f _) (middle_no_figure k _))
    (tree_both b d (words (codes ")") ++ xs) (words (codes ")") ++ ys) refl refl) both' (alike (of_two f) (of_two k) _ _ both')

-- an expression at the end of a line
pub value_both : (t u : Tree) → Both (value_pieces t) (value_pieces u) → t ≡ u
value_both t u both =
    let inside = expression_both (length (tokens_of t)) (length (tokens_of u)) (infix_pieces t) (infix_pieces u) both in
    (tree_both t u [] [] refl refl (changed (sym (append-nil (infix_pieces t))) (sym (append-nil (infix_pieces u))) inside)).0
