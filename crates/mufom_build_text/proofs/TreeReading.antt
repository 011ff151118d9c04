-- An expression is read, where its parts are.
use Rattle.std.proofs.Common.{◌≡◌, ℕ, ◌+◌, List, [], ◌∷◌, ◌++◌, codes, length, Some, None}
use Rattle.std.proofs.Common.{refl, sym, ap, subst, ◌∙◌, append_assoc, length-append}
use Rattle.mufom_text.specs.Words.{Text}
use Rattle.mufom_expr.specs.declared.token.Function.{Function}
use Rattle.mufom_expr.specs.declared.token.Function.TheVariants as functions
use Rattle.mufom_expr.specs.declared.token.Token.{Token}
use Rattle.mufom_expr.specs.declared.token.Token.TheVariants.{Fun}
use Rattle.mufom_expr.specs.declared.token.Letter.{Letter}
use Rattle.mufom_expr.specs.declared.token.Letter.TheVariants as letters
use Rattle.mufom_expr.specs.Tree.{Tree, number, variable, one, two, OneOperand, TwoOperands, function_of_one, function_of_two, tokens_of}
use Rattle.mufom_expr.specs.Tree.{absolute, negated, plus, minus, divided, times, larger, smaller, modulo, is_less, is_greater, is_equal, is_unequal}
use Rattle.mufom_expr.specs.Tree.{and_bits, or_bits, xor_bits}
use Rattle.mufom_expr.specs.InfixText.{letter_text, opening_text, middle_text}
use Rattle.mufom_build_text.specs.declared.expression.Frame.{Frame}
use Rattle.mufom_build_text.specs.declared.expression.Frame.TheVariants.{First, Last}
use Rattle.mufom_build_text.specs.declared.expression.Middle.{Middle}
use Rattle.mufom_build_text.specs.declared.expression.Middle.TheVariants.{Operator, Comma}
use Rattle.mufom_build_text.specs.Pieces.{Piece, words, place_piece, infix_pieces, MOST_NUMBER, MOST_POSITION}
use Rattle.mufom_build_text.specs.Reads.{Place}
use Rattle.mufom_build_text.specs.Errors.{IsSound}
use Rattle.mufom_build_text.specs.Loosely.{Passes, Goes, ReadsLoosely, ReadsWords, ReadsFigure, Follows, NoSpace, NoFigure}
use Rattle.mufom_build_text.specs.Infix.{middle_of, frame_before, letter_before, frame_text, ReadsTree, Tells, Begins, IsSecond}
use Rattle.mufom_build_text.proofs.Loosely.{moves_then, passes_then, both_hold}

-- ---- words of functions and letters

opening_follows : (f : Function) (more : List Piece) → Follows (opening_text f) more
opening_follows functions.Abs more = refl
opening_follows functions.Neg more = refl
opening_follows functions.Max more = refl
opening_follows functions.Min more = refl
opening_follows functions.Mod more = refl
opening_follows functions.And more = refl
opening_follows functions.Or more = refl
opening_follows functions.Xor more = refl
opening_follows functions.Plus more = refl
opening_follows functions.Minus more = refl
opening_follows functions.Divide more = refl
opening_follows functions.Times more = refl
opening_follows functions.Less more = refl
opening_follows functions.Greater more = refl
opening_follows functions.Equal more = refl
opening_follows functions.Unequal more = refl

frame_follows : (frame : Frame) (more : List Piece) → Follows (frame_text frame) more
frame_follows (First Operator) more = refl
frame_follows (First (Comma f)) more = opening_follows f more
frame_follows (Last f) more = opening_follows f more

middle_follows : (f : Function) (more : List Piece) → NoSpace more → Follows (middle_text f) more
middle_follows functions.Abs more h = both_hold h refl
middle_follows functions.Neg more h = both_hold h refl
middle_follows functions.Max more h = both_hold h refl
middle_follows functions.Min more h = both_hold h refl
middle_follows functions.Mod more h = both_hold h refl
middle_follows functions.And more h = both_hold h refl
middle_follows functions.Or more h = both_hold h refl
middle_follows functions.Xor more h = both_hold h refl
middle_follows functions.Plus more h = both_hold h refl
middle_follows functions.Minus more h = both_hold h refl
middle_follows functions.Divide more h = both_hold h refl
middle_follows functions.Times more h = both_hold h refl
middle_follows functions.Less more h = both_hold h refl
middle_follows functions.Greater more h = both_hold h refl
middle_follows functions.Equal more h = both_hold h refl
middle_follows functions.Unequal more h = both_hold h refl

middle_no_figure : (f : Function) (more : List Piece) → NoFigure (words (middle_text f) ++ more)
middle_no_figure functions.Abs more = refl
middle_no_figure functions.Neg more = refl
middle_no_figure functions.Max more = refl
middle_no_figure functions.Min more = refl
middle_no_figure functions.Mod more = refl
middle_no_figure functions.And more = refl
middle_no_figure functions.Or more = refl
middle_no_figure functions.Xor more = refl
middle_no_figure functions.Plus more = refl
middle_no_figure functions.Minus more = refl
middle_no_figure functions.Divide more = refl
middle_no_figure functions.Times more = refl
middle_no_figure functions.Less more = refl
middle_no_figure functions.Greater more = refl
middle_no_figure functions.Equal more = refl
middle_no_figure functions.Unequal more = refl

letter_follows : (letter : Letter) (more : List Piece) → Follows (letter_text letter) more
letter_follows letters.I more = refl
letter_follows letters.L more = refl
letter_follows letters.P more = refl
letter_follows letters.R more = refl
letter_follows letters.S more = refl
letter_follows letters.X more = refl

-- what is before the first operand of a function of two
opening_is : (f : TwoOperands) → frame_text (First (middle_of f)) ≡ opening_text (function_of_two f)
opening_is plus = refl
opening_is minus = refl
opening_is divided = refl
opening_is times = refl
opening_is larger = refl
opening_is smaller = refl
opening_is modulo = refl
opening_is is_less = refl
opening_is is_greater = refl
opening_is is_equal = refl
opening_is is_unequal = refl
opening_is and_bits = refl
opening_is or_bits = refl
opening_is xor_bits = refl

same_one : (f g : OneOperand) → function_of_one f ≡ function_of_one g → f ≡ g
same_one absolute absolute e = refl
same_one negated negated e = refl
same_one absolute negated e = absurd (cc)
same_one negated absolute e = absurd (cc)

-- an expression begins with no space
letter_no_space : (letter : Letter) (p : ℕ) (more : List Piece) → NoSpace (infix_pieces (variable letter p) ++ more)
letter_no_space letters.I p more = refl
letter_no_space letters.L p more = refl
letter_no_space letters.P p more = refl
letter_no_space letters.R p more = refl
letter_no_space letters.S p more = refl
letter_no_space letters.X p more = refl

one_no_space : (f : OneOperand) (a : Tree) (more : List Piece) → NoSpace (infix_pieces (one f a) ++ more)
one_no_space absolute a more = refl
one_no_space negated a more = refl

two_no_space : (f : TwoOperands) (a b : Tree) (more : List Piece) → NoSpace (infix_pieces (two f a b) ++ more)
two_no_space plus a b more = refl
two_no_space minus a b more = refl
two_no_space divided a b more = refl
two_no_space times a b more = refl
two_no_space larger a b more = refl
two_no_space smaller a b more = refl
two_no_space modulo a b more = refl
two_no_space is_less a b more = refl
two_no_space is_greater a b more = refl
two_no_space is_equal a b more = refl
two_no_space is_unequal a b more = refl
two_no_space and_bits a b more = refl
two_no_space or_bits a b more = refl
two_no_space xor_bits a b more = refl

tree_no_space : (t : Tree) (more : List Piece) → NoSpace (infix_pieces t ++ more)
tree_no_space (number n) more = refl
tree_no_space (variable letter p) more = letter_no_space letter p more
tree_no_space (one f a) more = one_no_space f a more
tree_no_space (two f a b) more = two_no_space f a b more

-- ---- the pieces of an expression, and what follows

one_pieces : (f : OneOperand) (a : Tree) (xs : List Piece) → infix_pieces (one f a) ++ xs
    ≡ words (opening_text (function_of_one f)) ++ (infix_pieces a ++ (words (codes ")") ++ xs))
one_pieces f a xs = append_assoc (words (opening_text (function_of_one f)) ++ infix_pieces a) (words (codes ")")) xs
    ∙ append_assoc (words (opening_text (function_of_one f))) (infix_pieces a) (words (codes ")") ++ xs)

two_pieces : (f : TwoOperands) (a b : Tree) (xs : List Piece) → infix_pieces (two f a b) ++ xs
    ≡ words (opening_text (function_of_two f)) ++ (infix_pieces a ++ (words (middle_text (function_of_two f))
    ++ (infix_pieces b ++ (words (codes ")") ++ xs))))
two_pieces f a b xs =
    let o = words (opening_text (function_of_two f)) in
    let m = words (middle_text (function_of_two f)) in
    let e = words (codes ")") in
    append_assoc (((o ++ infix_pieces a) ++ m) ++ infix_pieces b) e xs
    ∙ append_assoc ((o ++ infix_pieces a) ++ m) (infix_pieces b) (e ++ xs)
    ∙ append_assoc (o ++ infix_pieces a) m (infix_pieces b ++ (e ++ xs))
    ∙ append_assoc o (infix_pieces a) (m ++ (infix_pieces b ++ (e ++ xs)))

variable_pieces : (letter : Letter) (place : ℕ) (xs : List Piece) → infix_pieces (variable letter place) ++ xs
    ≡ words (letter_text letter) ++ (place_piece place ++ xs)
variable_pieces letter place xs = append_assoc (words (letter_text letter)) (place_piece place) xs

-- ---- into a function that is opened

-- the pieces of an operand come next, and after it the closing bracket
abbrev GoesToOperand : Tree → List Piece → Place → Type 0
GoesToOperand y more place = Goes (infix_pieces y ++ (words (codes ")") ++ more)) place

enter_one : (f : OneOperand) {a b : Place} → Begins (Last (function_of_one f)) a b → (t : Tree) (more : List Piece)
    → Goes (infix_pieces t ++ more) a → (y : Tree) × (t ≡ one f y) × GoesToOperand y more b
enter_one f {a} {b} begins t more goes = go t (begins.tells t more goes) goes
  where
    go : (t : Tree) → frame_before t ≡ Some (Last (function_of_one f)) → Goes (infix_pieces t ++ more) a
        → (y : Tree) × (t ≡ one f y) × GoesToOperand y more b
    go (number n) e goes = absurd (cc)
    go (variable letter p) e goes = absurd (cc)
    go (two g y z) e goes = absurd (cc)
    go (one g y) e goes =
        let functions_same : function_of_one g ≡ function_of_one f = cc in
        let same : g ≡ f = same_one g f functions_same in
        let rest = infix_pieces y ++ (words (codes ")") ++ more) in
        let on : Goes (words (opening_text (function_of_one f)) ++ rest) a = subst (λ (l : List Piece). Goes l a) (one_pieces f y more)
        (subst (λ (h : OneOperand). Goes (infix_pieces (one h y) ++ more) a) same goes) in
        (y, ap (λ (h : OneOperand). one h y) same, (begins.passed.takes tt rest (opening_follows (function_of_one f) rest) on).1)

-- the pieces of two operands come next, with what is between and behind them
abbrev pub GoesToOperands : TwoOperands → Tree → Tree → List Piece → Place → Type 0
GoesToOperands g y z more place = Goes (infix_pieces y ++ (words (middle_text (function_of_two g)) ++ (infix_pieces z ++ (words (codes ")") ++ more)))) place

pub enter_two : (middle : Middle) {a b : Place} → Begins (First middle) a b → (t : Tree) (more : List Piece) → Goes (infix_pieces t ++ more) a
    → (g : TwoOperands) × (y : Tree) × (z : Tree) × (t ≡ two g y z) × (middle_of g ≡ middle) × GoesToOperands g y z more b
enter_two middle {a} {b} begins t more goes = go t (begins.tells t more goes) goes
  where
    go : (t : Tree) → frame_before t ≡ Some (First middle) → Goes (infix_pieces t ++ more) a
        → (g : TwoOperands) × (y : Tree) × (z : Tree) × (t ≡ two g y z) × (middle_of g ≡ middle) × GoesToOperands g y z more b
    go (number n) e goes = absurd (cc)
    go (variable letter p) e goes = absurd (cc)
    go (one g y) e goes = absurd (cc)
    go (two g y z) e goes =
        let same : middle_of g ≡ middle = cc in
        let rest = infix_pieces y ++ (words (middle_text (function_of_two g)) ++ (infix_pieces z ++ (words (codes ")") ++ more))) in
        let text : opening_text (function_of_two g) ≡ frame_text (First middle) = sym (opening_is g) ∙ ap (λ m. frame_text (First m)) same in
        let on : Goes (words (frame_text (First middle)) ++ rest) a = subst (λ (w : Text). Goes (words w ++ rest) a) text
        (subst (λ (l : List Piece). Goes l a) (two_pieces g y z more) goes) in
        (g, y, z, refl, same, (begins.passed.takes tt rest (frame_follows (First middle) rest) on).1)

enter_second : (f : TwoOperands) (x : Tree) {a b : Place} (s : IsSecond f x a b) (t : Tree) (more : List Piece) → Goes (infix_pieces t ++ more) a
    → (z : Tree) × (t ≡ two f s.reads.reads.value z) × GoesToOperand z more b
enter_second f x {a} {b} s t more goes =
    let (g, y, z, is, middle, inside) = enter_two (middle_of f) s.begins t more goes in
    let last = infix_pieces z ++ (words (codes ")") ++ more) in
    let (first, behind) = s.reads.reads.takes y (words (middle_text (function_of_two g)) ++ last) (middle_no_figure (function_of_two g) last) inside in
    let same : g ≡ f = s.between.tells g last middle behind in
    let on : Goes (words (middle_text (function_of_two f)) ++ last) s.middle =
    subst (λ (h : TwoOperands). Goes (words (middle_text (function_of_two h)) ++ last) s.middle) same behind in
    let follow = middle_follows (function_of_two f) last (tree_no_space z (words (codes ")") ++ more)) in
    (z, is ∙ ap (λ h. two h y z) same ∙ ap (λ v. two f v z) first, (s.between.passed.takes tt last follow on).1)

-- ---- trees

pub no_operands : (frame : Frame) → None ≡ Some frame → ⊥
no_operands frame e = cc

pub number_tree : (n : ℕ) {a b : Place} → Tells None a
    → ((t : Tree) (more : List Piece) → Goes (infix_pieces t ++ more) a → frame_before t ≡ None → letter_before t ≡ None)
    → ReadsFigure MOST_NUMBER n a b → ReadsTree (number n) a b
number_tree n {a} {b} leaf none read =
    let reads : ReadsLoosely infix_pieces NoFigure (number n) a b = record {
      value = number read.value;
      moves = read.moves;
      passes = read.passes;
      same = λ right. ap number (read.same right);
      takes = λ t more tail goes. let here = leaf t more goes in go t more tail here (none t more goes here) goes;
    } in
    record { reads = reads; count = refl }
  where
    go : (t : Tree) (more : List Piece) → NoFigure more → frame_before t ≡ None → letter_before t ≡ None → Goes (infix_pieces t ++ more) a
        → (t ≡ number read.value) × Goes more b
    go (number m) more tail e f goes = let (same, ended) = read.takes m more tail goes in (ap number same, ended)
    go (variable letter p) more tail e f goes = absurd (cc)
    go (one g y) more tail e f goes = absurd (cc)
    go (two g y z) more tail e f goes = absurd (cc)

pub variable_tree : (letter : Letter) (place : ℕ) {a b c : Place} → Tells None a
    → ((t : Tree) (more : List Piece) → Goes (infix_pieces t ++ more) a → frame_before t ≡ None → letter_before t ≡ Some letter)
    → ReadsWords (letter_text letter) a b → ReadsFigure MOST_POSITION place b c → ReadsTree (variable letter place) a c
variable_tree letter place {a} {b} {c} leaf some name read =
    let reads : ReadsLoosely infix_pieces NoFigure (variable letter place) a c = record {
      value = variable letter read.value;
      moves = moves_then name.moves read.moves;
      passes = λ sound. passes_then (words (letter_text letter)) (place_piece read.value) a b c (name.passes (read.moves.sound sound))
          (read.passes sound);
      same = λ right. ap (λ n. variable letter n) (read.same right);
      takes = λ t more tail goes. let here = leaf t more goes in go t more tail here (some t more goes here) goes;
    } in
    record { reads = reads; count = refl }
  where
    go : (t : Tree) (more : List Piece) → NoFigure more → frame_before t ≡ None → letter_before t ≡ Some letter → Goes (infix_pieces t ++ more) a
        → (t ≡ variable letter read.value) × Goes more c
    go (number m) more tail e f goes = absurd (cc)
    go (variable other p) more tail e f goes =
        let same : other ≡ letter = cc in
        let on : Goes (words (letter_text letter) ++ (place_piece p ++ more)) a = subst (λ (l : List Piece). Goes l a) (variable_pieces letter p more)
        (subst (λ (m : Letter). Goes (infix_pieces (variable m p) ++ more) a) same goes) in
        let behind = (name.takes tt (place_piece p ++ more) (letter_follows letter (place_piece p ++ more)) on).1 in
        let (value, ended) = read.takes p more tail behind in
        (ap (λ m. variable m p) same ∙ ap (λ n. variable letter n) value, ended)
    go (one g y) more tail e f goes = absurd (cc)
    go (two g y z) more tail e f goes = absurd (cc)

-- as many tokens, and one more
one_more : (xs ys : List Token) (token : Token) → length xs ≡ length ys → length (xs ++ token ∷ []) ≡ length (ys ++ token ∷ [])
one_more xs ys token e = length-append xs (token ∷ []) ∙ ap (λ n. n + 1) e ∙ sym (length-append ys (token ∷ []))

pub one_tree : (f : OneOperand) (x : Tree) {a b c d : Place} → Begins (Last (function_of_one f)) a b → ReadsTree x b c
    → ReadsWords (codes ")") c d → ReadsTree (one f x) a d
one_tree f x {a} {b} {c} {d} begins operand close =
    let v = operand.reads.value in
    let o = words (opening_text (function_of_one f)) in
    let e = words (codes ")") in
    let reads : ReadsLoosely infix_pieces NoFigure (one f x) a d = record {
      value = one f v;
      moves = moves_then begins.passed.moves (moves_then operand.reads.moves close.moves);
      passes = λ sound.
          let behind : IsSound c = close.moves.sound sound in
          let inside : IsSound b = operand.reads.moves.sound behind in
          passes_then (o ++ infix_pieces v) e a c d
          (passes_then o (infix_pieces v) a b c (begins.passed.passes inside) (operand.reads.passes behind)) (close.passes sound);
      same = λ right. ap (one f) (operand.reads.same (close.moves.right right));
      takes = λ t more tail goes.
          let (y, is, inside) = enter_one f begins t more goes in
          let (same, behind) = operand.reads.takes y (words (codes ")") ++ more) refl inside in
          (is ∙ ap (one f) same, (close.takes tt more refl behind).1);
    } in
    record { reads = reads; count = one_more (tokens_of v) (tokens_of x) (Fun (function_of_one f)) operand.count }

pub two_tree : (f : TwoOperands) (x y : Tree) {a b c d : Place} → IsSecond f x a b → ReadsTree y b c → ReadsWords (codes ")") c d
    → ReadsTree (two f x y) a d
two_tree f x y {a} {b} {c} {d} s operand close =
    let v = s.reads.reads.value in
    let w = operand.reads.value in
    let o = words (opening_text (function_of_two f)) in
    let m = words (middle_text (function_of_two f)) in
    let e = words (codes ")") in
    let reads : ReadsLoosely infix_pieces NoFigure (two f x y) a d = record {
      value = two f v w;
      moves = moves_then s.begins.passed.moves
          (moves_then s.reads.reads.moves (moves_then s.between.passed.moves (moves_then operand.reads.moves close.moves)));
      passes = λ sound.
          let behind : IsSound c = close.moves.sound sound in
          let inside : IsSound b = operand.reads.moves.sound behind in
          let middle : IsSound s.middle = s.between.passed.moves.sound inside in
          let begin : IsSound s.operand = s.reads.reads.moves.sound middle in
          let opened : Passes o a s.operand = subst (λ (t : Text). Passes (words t) a s.operand) (opening_is f) (s.begins.passed.passes begin) in
          passes_then (((o ++ infix_pieces v) ++ m) ++ infix_pieces w) e a c d
          (passes_then ((o ++ infix_pieces v) ++ m) (infix_pieces w) a b c
          (passes_then (o ++ infix_pieces v) m a s.middle b
          (passes_then o (infix_pieces v) a s.operand s.middle opened (s.reads.reads.passes middle))
          (s.between.passed.passes inside)) (operand.reads.passes behind)) (close.passes sound);
      same = λ right.
          let behind = close.moves.right right in
          let middle = s.between.passed.moves.right (operand.reads.moves.right behind) in
          ap (λ t. two f t y) (s.reads.reads.same middle) ∙ ap (λ t. two f v t) (operand.reads.same behind);
      takes = λ t more tail goes.
          let (z, is, inside) = enter_second f x s t more goes in
          let (same, behind) = operand.reads.takes z (words (codes ")") ++ more) refl inside in
          (is ∙ ap (λ t. two f v t) same, (close.takes tt more refl behind).1);
    } in
    let both : length (tokens_of v ++ tokens_of w) ≡ length (tokens_of x ++ tokens_of y) = length-append (tokens_of v) (tokens_of w)
    ∙ ap (λ n. n + length (tokens_of w)) s.reads.count ∙ ap (λ n. length (tokens_of x) + n) operand.count
    ∙ sym (length-append (tokens_of x) (tokens_of y)) in
    record { reads = reads; count = one_more (tokens_of v ++ tokens_of w) (tokens_of x ++ tokens_of y) (Fun (function_of_two f)) both }

-- ---- functions that are opened

-- the pieces of some tree come next
abbrev pub IsInside : Place → Type 0
IsInside place = (t : Tree) × (more : List Piece) × NoFigure more × Goes (infix_pieces t ++ more) place

pub into_one : (f : OneOperand) {a b : Place} → Begins (Last (function_of_one f)) a b → IsInside a → IsInside b
into_one f {a} {b} begins (t, more, tail, goes) =
    let (y, is, inside) = enter_one f begins t more goes in (y, words (codes ")") ++ more, refl, inside)

pub into_two : (middle : Middle) {a b : Place} → Begins (First middle) a b → IsInside a → IsInside b
into_two middle {a} {b} begins (t, more, tail, goes) =
    let (g, y, z, is, same, inside) = enter_two middle begins t more goes in
    let last = infix_pieces z ++ (words (codes ")") ++ more) in
    (y, words (middle_text (function_of_two g)) ++ last, middle_no_figure (function_of_two g) last, inside)

pub into_second : (f : TwoOperands) (x : Tree) {a b : Place} → IsSecond f x a b → IsInside a → IsInside b
into_second f x {a} {b} s (t, more, tail, goes) =
    let (z, is, inside) = enter_second f x s t more goes in (z, words (codes ")") ++ more, refl, inside)
