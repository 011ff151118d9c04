-- An expression in infix form, read token by token.
use Rattle.std.proofs.Common.{◌≡◌, ℕ, zero, suc, ◌+◌, ◌<◌, ◌≤◌, nat_lt, Bool, true, false, List, [], ◌∷◌, ◌++◌, map, flat_map, codes, length, take}
use Rattle.std.proofs.Common.{refl, sym, ap, subst, ◌∙◌, arith, append_assoc, append-nil, length-append, Option, Some, None, ◌⊎◌, inl, inr}
use Rattle.std.specs.Prelude.{option_map}
use Rattle.std.proofs.lemmas.List.{map-append, take_all}
use Rattle.mufom_expr.specs.declared.token.Function.{Function}
use Rattle.mufom_expr.specs.declared.token.Function.TheVariants as functions
use Rattle.mufom_expr.specs.declared.token.Token.{Token}
use Rattle.mufom_expr.specs.declared.token.Token.TheVariants.{Number, Var, Fun}
use Rattle.mufom_expr.specs.declared.token.Letter.{Letter}
use Rattle.mufom_expr.specs.declared.fault.ExprFault.{ExprFault}
use Rattle.mufom_expr.specs.declared.fault.ExprFault.TheVariants as faults
use Rattle.mufom_expr.specs.Codes.{operands_of}
use Rattle.mufom_expr.specs.Tree.{Tree, OneOperand, TwoOperands, number, variable, one, two, function_of_one, function_of_two, tokens_of}
use Rattle.mufom_expr.specs.Tree.{absolute, negated, plus, minus, divided, times, larger, smaller, modulo, is_less, is_greater, is_equal, is_unequal}
use Rattle.mufom_expr.specs.Tree.{and_bits, or_bits, xor_bits}
use Rattle.mufom_expr.specs.InfixText.{letter_text, middle_text}
use Rattle.mufom_expr.specs.Terms.{the_term, terms_after, leaves, FindsTooFew, LeavesMoreThanOne}
use Rattle.mufom_expr.specs.TreeCode.{terms_after-tokens_of, the_term-tokens_of}
use Rattle.mufom_build_text.specs.declared.expression.Frame.{Frame}
use Rattle.mufom_build_text.specs.declared.expression.Frame.TheVariants.{First, Last}
use Rattle.mufom_build_text.specs.declared.expression.Middle.{Middle}
use Rattle.mufom_build_text.specs.declared.expression.Middle.TheVariants.{Operator, Comma}
use Rattle.mufom_build_text.specs.declared.expression.Infix.{Infix}
use Rattle.mufom_build_text.specs.Pieces.{Piece, words, infix_pieces, MOST_NUMBER, MOST_POSITION}
use Rattle.mufom_build_text.specs.Reads.{Place}
use Rattle.mufom_build_text.specs.Errors.{IsSound}
use Rattle.mufom_build_text.specs.Loosely.{Moves, Goes, ReadsWords, ReadsFigure}
use Rattle.mufom_build_text.specs.Infix.{middle_of, frame_before, letter_before, has_operator, has_comma, has_one, is_first, FitsMiddle}
use Rattle.mufom_build_text.specs.Infix.{ReadsTree, Tells, IsMiddle, Begins, IsBetweenRead, IsSecond}
use Rattle.mufom_build_text.specs.Infix.{Opened, first, single, second, frame_of, opened_tokens, IsOpened, AreOpened}
use Rattle.mufom_build_text.specs.Infix.{Keeps, IsBefore, IsBehind, IsRead, IsBetween, IsWhole, IsLeaf}
use Rattle.mufom_build_text.proofs.Noted.{lt_yes, lt_no}
use Rattle.mufom_build_text.proofs.Loosely.{moves_nowhere, moves_then}
use Rattle.mufom_build_text.proofs.TreeReading.{number_tree, variable_tree, one_tree, two_tree, IsInside, into_one, into_two, into_second}
use Rattle.mufom_build_text.proofs.Lists.{flat_map_more}

-- ---- tokens that are kept

take_front : (n : ℕ) (xs ys : List Token) → n ≤ length xs → take n (xs ++ ys) ≡ take n xs
take_front zero xs ys h = refl
take_front (suc n) [] ys h = absurd (omega (arith, h))
take_front (suc n) (x ∷ xs) ys h = ap (λ l. x ∷ l) (take_front n xs ys (omega (arith, h)))

take_long : (n : ℕ) (xs : List Token) → n ≤ length xs → length (take n xs) ≡ n
take_long zero xs h = refl
take_long (suc n) [] h = absurd (omega (arith, h))
take_long (suc n) (x ∷ xs) h = ap suc (take_long n xs (omega (arith, h)))

take_short : (xs : List Token) → length xs < 255 → take 255 xs ≡ xs
take_short xs h = take_all 255 xs (omega (arith, h))

abbrev IsKept : List Token → List Token → Bool → Type 0
IsKept all tokens long = (tokens ≡ take 255 all) × (long ≡ nat_lt 255 (length all))

-- one token more, where fewer than 255 are kept
pub kept_more : (all tokens more : List Token) (token : Token) (long : Bool) → tokens ≡ take 255 all → long ≡ nat_lt 255 (length all)
    → (length tokens ≡ 255 → ⊥) → more ≡ tokens ++ token ∷ [] → IsKept (all ++ token ∷ []) more long
kept_more all tokens more token long is is_long room added = go (nat_lt (length all) 255) refl
  where
    sum : length (all ++ token ∷ []) ≡ length all + 1
    sum = length-append all (token ∷ [])

    go : (b : Bool) → nat_lt (length all) 255 ≡ b → IsKept (all ++ token ∷ []) more long
    go true h =
        let few : length all < 255 = grind (arith, h) in
        let fits : length (all ++ token ∷ []) ≤ 255 = omega (arith, few, sum) in (
          added ∙ ap (λ l. l ++ token ∷ []) (is ∙ take_short all few) ∙ sym (take_all 255 (all ++ token ∷ []) fits),
          is_long ∙ lt_no 255 (length all) (omega (arith, few)) ∙ sym (lt_no 255 (length (all ++ token ∷ [])) fits),
        )
    go false h =
        let many : 255 ≤ length all = grind (arith, h) in
        absurd (room (ap length is ∙ take_long 255 all many))

-- and where 255 are
pub kept_full : (all tokens more : List Token) (token : Token) → tokens ≡ take 255 all → length tokens ≡ 255 → more ≡ tokens
    → IsKept (all ++ token ∷ []) more true
kept_full all tokens more token is full same = go (nat_lt (length all) 255) refl
  where
    sum : length (all ++ token ∷ []) ≡ length all + 1
    sum = length-append all (token ∷ [])

    go : (b : Bool) → nat_lt (length all) 255 ≡ b → IsKept (all ++ token ∷ []) more true
    go true h =
        let few : length all < 255 = grind (arith, h) in
        let long : length all ≡ 255 = ap length (sym (is ∙ take_short all few)) ∙ full in
        absurd (omega (arith, few, long))
    go false h =
        let many : 255 ≤ length all = grind (arith, h) in
        (same ∙ is ∙ sym (take_front 255 all (token ∷ []) many), sym (lt_yes 255 (length (all ++ token ∷ [])) (omega (arith, many, sum))))

-- what is kept finds too few terms only where all tokens do
pub few_of_all : (all tokens : List Token) (token : Token) → tokens ≡ take 255 all → length tokens < 255 → FindsTooFew tokens token
    → FindsTooFew all token
few_of_all all tokens token is small found = go (nat_lt (length all) 255) refl
  where
    go : (b : Bool) → nat_lt (length all) 255 ≡ b → FindsTooFew all token
    go true h =
        let few : length all < 255 = grind (arith, h) in
        subst (λ (l : List Token). FindsTooFew l token) (is ∙ take_short all few) found
    go false h =
        let many : 255 ≤ length all = grind (arith, h) in
        let long : length tokens ≡ 255 = ap length is ∙ take_long 255 all many in
        absurd (omega (arith, small, long))

-- a fault of a builder that is no want of memory is that it keeps 255 tokens
pub fault_full : (all tokens : List Token) (token : Token) (fault : ExprFault) → (fault ≡ faults.NoMemory → ⊥)
    → (fault ≡ faults.TooLong → length tokens ≡ 255) → (fault ≡ faults.Underflow → (length tokens < 255) × FindsTooFew tokens token)
    → (fault ≡ faults.Empty → ⊥) → (fault ≡ faults.SurplusTerms → ⊥) → tokens ≡ take 255 all → (FindsTooFew all token → ⊥) → length tokens ≡ 255
fault_full all tokens token faults.NoMemory memory long few empty surplus is enough = absurd (memory refl)
fault_full all tokens token faults.TooLong memory long few empty surplus is enough = long refl
fault_full all tokens token faults.Underflow memory long few empty surplus is enough =
    let (small, found) = few refl in absurd (enough (few_of_all all tokens token is small found))
fault_full all tokens token faults.Empty memory long few empty surplus is enough = absurd (empty refl)
fault_full all tokens token faults.SurplusTerms memory long few empty surplus is enough = absurd (surplus refl)

-- ---- functions find their operands

-- the tokens of operands leave terms
terms_opened : (opened : List Opened) (rest : List Token) (s : List Tree)
    → (t : List Tree) × (terms_after (flat_map opened_tokens opened ++ rest) s ≡ terms_after rest t)
terms_opened [] rest s = (s, refl)
terms_opened (first m ∷ opened) rest s = terms_opened opened rest s
terms_opened (single f ∷ opened) rest s = terms_opened opened rest s
terms_opened (second f a ∷ opened) rest s =
    let (t, is) = terms_opened opened rest (a ∷ s) in (
      t,
      ap (λ l. terms_after l s) (append_assoc (tokens_of a) (flat_map opened_tokens opened) rest)
          ∙ terms_after-tokens_of a (flat_map opened_tokens opened ++ rest) s ∙ is,
    )

terms_of_tree : (tree : Tree) (s : List Tree) → terms_after (tokens_of tree) s ≡ Some (tree ∷ s)
terms_of_tree tree s = ap (λ l. terms_after l s) (sym (append-nil (tokens_of tree))) ∙ terms_after-tokens_of tree [] s

pub leaf_enough : (all : List Token) (token : Token) → operands_of token ≡ 0 → FindsTooFew all token → ⊥
leaf_enough all token alone (n, is, few) = omega (arith, alone, few)

one_operand : (f : OneOperand) → operands_of (Fun (function_of_one f)) ≡ 1
one_operand absolute = refl
one_operand negated = refl

two_operands : (f : TwoOperands) → operands_of (Fun (function_of_two f)) ≡ 2
two_operands plus = refl
two_operands minus = refl
two_operands divided = refl
two_operands times = refl
two_operands larger = refl
two_operands smaller = refl
two_operands modulo = refl
two_operands is_less = refl
two_operands is_greater = refl
two_operands is_equal = refl
two_operands is_unequal = refl
two_operands and_bits = refl
two_operands or_bits = refl
two_operands xor_bits = refl

same_number : {m n : ℕ} → Some m ≡ Some n → m ≡ n
same_number {m} {n} e = cc

-- so many terms are left
left_over : (tokens : List Token) (terms : List Tree) → terms_after tokens [] ≡ Some terms → {n : ℕ} → leaves tokens ≡ Some n → length terms ≡ n
left_over tokens terms is {n} some = same_number (sym (ap (λ (o : Option (List Tree)). option_map length o) is) ∙ some)

-- the last function has its operands before it
enough : (front : List Opened) (o : Opened) (f : Function) (tree : Tree) → frame_of o ≡ Last f
    → FindsTooFew ((flat_map opened_tokens front ++ opened_tokens o) ++ tokens_of tree) (Fun f) → ⊥
enough front (first m) f tree e found = absurd (cc)
enough front (single g) f tree e (n, some, few) =
    let same : function_of_one g ≡ f = cc in
    let outer = flat_map opened_tokens front in
    let (t, is) = terms_opened front (tokens_of tree) [] in
    let all : terms_after ((outer ++ []) ++ tokens_of tree) [] ≡ Some (tree ∷ t) =
    ap (λ l. terms_after (l ++ tokens_of tree) []) (append-nil outer) ∙ is ∙ terms_of_tree tree t in
    let left : length (tree ∷ t) ≡ n = left_over ((outer ++ []) ++ tokens_of tree) (tree ∷ t) all some in
    let wanted : operands_of (Fun f) ≡ 1 = ap (λ h. operands_of (Fun h)) (sym same) ∙ one_operand g in
    omega (arith, left, wanted, few)
enough front (second g x) f tree e (n, some, few) =
    let same : function_of_two g ≡ f = cc in
    let outer = flat_map opened_tokens front in
    let (t, is) = terms_opened front (tokens_of x ++ tokens_of tree) [] in
    let all : terms_after ((outer ++ tokens_of x) ++ tokens_of tree) [] ≡ Some (tree ∷ x ∷ t) =
    ap (λ l. terms_after l []) (append_assoc outer (tokens_of x) (tokens_of tree)) ∙ is ∙ terms_after-tokens_of x (tokens_of tree) t
    ∙ terms_of_tree tree (x ∷ t) in
    let left : length (tree ∷ x ∷ t) ≡ n = left_over ((outer ++ tokens_of x) ++ tokens_of tree) (tree ∷ x ∷ t) all some in
    let wanted : operands_of (Fun f) ≡ 2 = ap (λ h. operands_of (Fun h)) (sym same) ∙ two_operands g in
    omega (arith, left, wanted, few)

-- the tokens of a tree are those of one expression
pub one_term : (tree : Tree) → ((tokens_of tree ≡ []) ⊎ LeavesMoreThanOne (tokens_of tree)) → ⊥
one_term tree (inl none) =
    let e : Some [] ≡ Some (tree ∷ []) = ap (λ l. terms_after l []) (sym none) ∙ terms_of_tree tree [] in cc
one_term tree (inr (n, some, more)) =
    let left : 1 ≡ n = left_over (tokens_of tree) (tree ∷ []) (terms_of_tree tree []) some in omega (arith, left, more)

-- ---- functions by what comes before and between their operands

comma_middle : (f : Function) → has_comma f ≡ true → IsMiddle (Comma f)
comma_middle functions.Max h = (larger, refl)
comma_middle functions.Min h = (smaller, refl)
comma_middle functions.Mod h = (modulo, refl)
comma_middle functions.And h = (and_bits, refl)
comma_middle functions.Or h = (or_bits, refl)
comma_middle functions.Xor h = (xor_bits, refl)
comma_middle functions.Abs h = absurd (cc)
comma_middle functions.Neg h = absurd (cc)
comma_middle functions.Plus h = absurd (cc)
comma_middle functions.Minus h = absurd (cc)
comma_middle functions.Divide h = absurd (cc)
comma_middle functions.Times h = absurd (cc)
comma_middle functions.Less h = absurd (cc)
comma_middle functions.Greater h = absurd (cc)
comma_middle functions.Equal h = absurd (cc)
comma_middle functions.Unequal h = absurd (cc)

has_operand : (f : Function) → has_one f ≡ true → (g : OneOperand) × (function_of_one g ≡ f)
has_operand functions.Abs h = (absolute, refl)
has_operand functions.Neg h = (negated, refl)
has_operand functions.Max h = absurd (cc)
has_operand functions.Min h = absurd (cc)
has_operand functions.Mod h = absurd (cc)
has_operand functions.And h = absurd (cc)
has_operand functions.Or h = absurd (cc)
has_operand functions.Xor h = absurd (cc)
has_operand functions.Plus h = absurd (cc)
has_operand functions.Minus h = absurd (cc)
has_operand functions.Divide h = absurd (cc)
has_operand functions.Times h = absurd (cc)
has_operand functions.Less h = absurd (cc)
has_operand functions.Greater h = absurd (cc)
has_operand functions.Equal h = absurd (cc)
has_operand functions.Unequal h = absurd (cc)

-- the function of two operands that has this between them
abbrev IsOfMiddle : Middle → Function → Type 0
IsOfMiddle middle f = (g : TwoOperands) × (function_of_two g ≡ f) × (middle_of g ≡ middle)

of_operator : (f : Function) → has_operator f ≡ true → IsOfMiddle Operator f
of_operator functions.Plus h = (plus, refl, refl)
of_operator functions.Minus h = (minus, refl, refl)
of_operator functions.Divide h = (divided, refl, refl)
of_operator functions.Times h = (times, refl, refl)
of_operator functions.Less h = (is_less, refl, refl)
of_operator functions.Greater h = (is_greater, refl, refl)
of_operator functions.Equal h = (is_equal, refl, refl)
of_operator functions.Unequal h = (is_unequal, refl, refl)
of_operator functions.Abs h = absurd (cc)
of_operator functions.Neg h = absurd (cc)
of_operator functions.Max h = absurd (cc)
of_operator functions.Min h = absurd (cc)
of_operator functions.Mod h = absurd (cc)
of_operator functions.And h = absurd (cc)
of_operator functions.Or h = absurd (cc)
of_operator functions.Xor h = absurd (cc)

pub comma_function : (g : TwoOperands) (f : Function) → middle_of g ≡ Comma f → function_of_two g ≡ f
comma_function larger f e = cc
comma_function smaller f e = cc
comma_function modulo f e = cc
comma_function and_bits f e = cc
comma_function or_bits f e = cc
comma_function xor_bits f e = cc
comma_function plus f e = absurd (cc)
comma_function minus f e = absurd (cc)
comma_function divided f e = absurd (cc)
comma_function times f e = absurd (cc)
comma_function is_less f e = absurd (cc)
comma_function is_greater f e = absurd (cc)
comma_function is_equal f e = absurd (cc)
comma_function is_unequal f e = absurd (cc)

of_middle : (middle : Middle) (f : Function) → IsMiddle middle → FitsMiddle middle f → IsOfMiddle middle f
of_middle Operator f (g, e) fits = of_operator f fits
of_middle (Comma h) f (g, e) fits = (g, comma_function g h e ∙ sym fits, e)

pub same_two : (f g : TwoOperands) → function_of_two f ≡ function_of_two g → f ≡ g
same_two f g e =
    let trees : two f (number 0) (number 0) ≡ two g (number 0) (number 0) = sym (the_term-tokens_of (two f (number 0) (number 0)))
    ∙ ap (λ k. the_term (Number 0 ∷ Number 0 ∷ Fun k ∷ [])) e ∙ the_term-tokens_of (two g (number 0) (number 0)) in
    cc

-- ---- functions that are opened

are_more : (opened : List Opened) (o : Opened) (a b c : Place) → AreOpened opened a b → IsOpened o b c → AreOpened (opened ++ o ∷ []) a c
are_more [] o a b c same here = (c, subst (λ (p : Place). IsOpened o p c) (sym same) here, refl)
are_more (p ∷ opened) o a b c (next, begin, more) here = (next, begin, are_more opened o next b c more here)

are_last : (opened : List Opened) (o : Opened) (a c : Place) → AreOpened (opened ++ o ∷ []) a c
    → (b : Place) × AreOpened opened a b × IsOpened o b c
are_last [] o a c (next, begin, same) = (a, refl, subst (λ (p : Place). IsOpened o a p) same begin)
are_last (p ∷ opened) o a c (next, begin, more) =
    let (b, others, here) = are_last opened o next c more in (b, (next, begin, others), here)

opened_moves : (o : Opened) (a b : Place) → IsOpened o a b → Moves a b
opened_moves (first m) a b (begins, is) = begins.passed.moves
opened_moves (single f) a b begins = begins.passed.moves
opened_moves (second f x) a b s = moves_then s.begins.passed.moves (moves_then s.reads.reads.moves s.between.passed.moves)

are_moves : (opened : List Opened) (a b : Place) → AreOpened opened a b → Moves a b
are_moves [] a b same = subst (λ (p : Place). Moves a p) same (moves_nowhere a)
are_moves (o ∷ opened) a b (next, begin, more) = moves_then (opened_moves o a next begin) (are_moves opened next b more)

into_opened : (o : Opened) (a b : Place) → IsOpened o a b → IsInside a → IsInside b
into_opened (first m) a b (begins, is) inside = into_two m begins inside
into_opened (single f) a b begins inside = into_one f begins inside
into_opened (second f x) a b s inside = into_second f x s inside

into_all : (opened : List Opened) (a b : Place) → AreOpened opened a b → IsInside a → IsInside b
into_all [] a b same inside = subst (λ (p : Place). IsInside p) same inside
into_all (o ∷ opened) a b (next, begin, more) inside = into_all opened next b more (into_opened o a next begin inside)

map_more : (opened : List Opened) (o : Opened) → map frame_of (opened ++ o ∷ []) ≡ map frame_of opened ++ frame_of o ∷ []
map_more opened o = map-append frame_of opened (o ∷ [])

-- ---- what is read

-- other tokens are kept where they are the same
keeps_same : {xs ys : List Token} {i j : Infix} → xs ≡ ys → j.tokens ≡ i.tokens → j.is_long ≡ i.is_long → Keeps xs i → Keeps ys j
keeps_same {xs} {ys} {i} {j} e tokens long keeps = record {
  tokens = tokens ∙ keeps.tokens ∙ ap (λ l. take 255 l) e;
  long = long ∙ keeps.long ∙ ap (λ (l : List Token). nat_lt 255 (length l)) e;
}

pub begun : (start : Place) (i : Infix) → i.frames.items ≡ [] → i.tokens ≡ [] → i.is_long ≡ false → IsBefore start start i
begun start i frames tokens long = record {
  opened = [];
  are = refl;
  frames = frames;
  keeps = record { tokens = tokens; long = long };
}

-- one function more is opened
opened_with : (o : Opened) (start a b : Place) (i j : Infix) → IsBefore start a i → IsOpened o a b → opened_tokens o ≡ []
    → j.frames.items ≡ i.frames.items ++ frame_of o ∷ [] → j.tokens ≡ i.tokens → j.is_long ≡ i.is_long → IsBefore start b j
opened_with o start a b i j before here none frames tokens long =
    let outer = flat_map opened_tokens before.opened in
    record {
      opened = before.opened ++ o ∷ [];
      are = are_more before.opened o start a b before.are here;
      frames = frames ∙ ap (λ l. l ++ frame_of o ∷ []) before.frames ∙ sym (map_more before.opened o);
      keeps = keeps_same (sym (append-nil outer) ∙ ap (λ l. outer ++ l) (sym none) ∙ sym (flat_map_more opened_tokens before.opened o))
          tokens long before.keeps;
    }

pub opened_more : (frame : Frame) (start a b : Place) (i j : Infix) → is_first frame ≡ true → Begins frame a b → IsBefore start a i
    → j.frames.items ≡ i.frames.items ++ frame ∷ [] → j.tokens ≡ i.tokens → j.is_long ≡ i.is_long → IsBefore start b j
opened_more (First Operator) start a b i j h begins before frames tokens long =
    opened_with (first Operator) start a b i j before (begins, (plus, refl)) refl frames tokens long
opened_more (First (Comma f)) start a b i j h begins before frames tokens long =
    opened_with (first (Comma f)) start a b i j before (begins, comma_middle f h) refl frames tokens long
opened_more (Last f) start a b i j h begins before frames tokens long =
    let (g, same) = has_operand f h in
    opened_with (single g) start a b i j before (subst (λ (k : Function). Begins (Last k) a b) (sym same) begins) refl
    (frames ∙ ap (λ k. i.frames.items ++ Last k ∷ []) (sym same)) tokens long

-- a number or a variable is read
pub leaf_more : (start a b : Place) (i j : Infix) (token : Token) (before : IsBefore start a i) → IsLeaf a b token → j.frames.items ≡ i.frames.items
    → Keeps (flat_map opened_tokens before.opened ++ token ∷ []) j → IsBehind start b j
leaf_more start a b i j token before leaf frames keeps = record {
  opened = before.opened;
  tree = leaf.tree;
  operand = a;
  are = before.are;
  reads = leaf.reads;
  frames = frames ∙ before.frames;
  keeps = keeps_same (ap (λ l. flat_map opened_tokens before.opened ++ l) (sym leaf.tokens)) refl refl keeps;
}

-- ---- the last frame

-- the function of the last frame
record IsLast (opened : List Opened) (frames : List Frame) (frame : Frame) : Type 0 where
  front : List Opened
  function : Opened
  is : opened ≡ front ++ function ∷ []
  front_is : map frame_of front ≡ frames
  frame_is : frame_of function ≡ frame

nil_snoc : (frames : List Frame) (frame : Frame) → [] ≡ frames ++ frame ∷ [] → ⊥
nil_snoc [] frame e = cc
nil_snoc (f ∷ frames) frame e = cc

last_of : (opened : List Opened) (frames : List Frame) (frame : Frame) → map frame_of opened ≡ frames ++ frame ∷ [] → IsLast opened frames frame
last_of [] frames frame e = absurd (nil_snoc frames frame e)
last_of (o ∷ []) [] frame e = record { front = []; function = o; is = refl; front_is = refl; frame_is = cc }
last_of (o ∷ p ∷ opened) [] frame e = absurd (cc)
last_of (o ∷ opened) (f ∷ frames) frame e =
    let rest : map frame_of opened ≡ frames ++ frame ∷ [] = cc in
    let here : frame_of o ≡ f = cc in
    let more = last_of opened frames frame rest in
    record {
      front = o ∷ more.front;
      function = more.function;
      is = ap (λ l. o ∷ l) more.is;
      front_is = ap (λ l. frame_of o ∷ l) more.front_is ∙ ap (λ g. g ∷ frames) here;
      frame_is = more.frame_is;
    }

-- ---- the end of a function

-- the tree of a function of which the last operand is read
record IsEnded (o : Opened) (f : Function) (x : Tree) (before after : Place) : Type 0 where
  tree : Tree
  reads : ReadsTree tree before after
  tokens : opened_tokens o ++ (tokens_of x ++ Fun f ∷ []) ≡ tokens_of tree

ended : (o : Opened) (f : Function) (x : Tree) (a b c d : Place) → frame_of o ≡ Last f → IsOpened o a b → ReadsTree x b c
    → ReadsWords (codes ")") c d → IsEnded o f x a d
ended (first m) f x a b c d e here operand close = absurd (cc)
ended (single g) f x a b c d e here operand close =
    let same : function_of_one g ≡ f = cc in
    record { tree = one g x; reads = one_tree g x here operand close; tokens = ap (λ h. tokens_of x ++ Fun h ∷ []) (sym same) }
ended (second g y) f x a b c d e here operand close =
    let same : function_of_two g ≡ f = cc in
    record {
      tree = two g y x;
      reads = two_tree g y x here operand close;
      tokens = sym (append_assoc (tokens_of y) (tokens_of x) (Fun f ∷ [])) ∙ ap (λ h. (tokens_of y ++ tokens_of x) ++ Fun h ∷ []) (sym same);
    }

-- the last function finds its operands
pub closing_enough : (start a : Place) (i : Infix) (frames : List Frame) (f : Function) (behind : IsBehind start a i)
    → i.frames.items ≡ frames ++ Last f ∷ [] → FindsTooFew (flat_map opened_tokens behind.opened ++ tokens_of behind.tree) (Fun f) → ⊥
closing_enough start a i frames f behind last found =
    let l = last_of behind.opened frames (Last f) (sym behind.frames ∙ last) in
    let all : flat_map opened_tokens behind.opened ++ tokens_of behind.tree
    ≡ (flat_map opened_tokens l.front ++ opened_tokens l.function) ++ tokens_of behind.tree =
    ap (λ os. flat_map opened_tokens os ++ tokens_of behind.tree) l.is
    ∙ ap (λ ts. ts ++ tokens_of behind.tree) (flat_map_more opened_tokens l.front l.function) in
    enough l.front l.function f behind.tree l.frame_is (subst (λ (ts : List Token). FindsTooFew ts (Fun f)) all found)

-- the last operand of the last function has ended
pub closed : (start a b : Place) (i j : Infix) (frames : List Frame) (f : Function) (behind : IsBehind start a i)
    → i.frames.items ≡ frames ++ Last f ∷ [] → ReadsWords (codes ")") a b → j.frames.items ≡ frames
    → Keeps ((flat_map opened_tokens behind.opened ++ tokens_of behind.tree) ++ Fun f ∷ []) j → IsBehind start b j
closed start a b i j frames f behind last close left keeps =
    let l = last_of behind.opened frames (Last f) (sym behind.frames ∙ last) in
    let (begin, others, here) = are_last l.front l.function start behind.operand
    (subst (λ (os : List Opened). AreOpened os start behind.operand) l.is behind.are) in
    let e = ended l.function f behind.tree begin behind.operand a b l.frame_is here behind.reads close in
    let before = flat_map opened_tokens l.front in
    let all : (flat_map opened_tokens behind.opened ++ tokens_of behind.tree) ++ Fun f ∷ [] ≡ before ++ tokens_of e.tree =
    ap (λ os. (flat_map opened_tokens os ++ tokens_of behind.tree) ++ Fun f ∷ []) l.is
    ∙ ap (λ ts. (ts ++ tokens_of behind.tree) ++ Fun f ∷ []) (flat_map_more opened_tokens l.front l.function)
    ∙ append_assoc (before ++ opened_tokens l.function) (tokens_of behind.tree) (Fun f ∷ [])
    ∙ append_assoc before (opened_tokens l.function) (tokens_of behind.tree ++ Fun f ∷ [])
    ∙ ap (λ ts. before ++ ts) e.tokens in
    record {
      opened = l.front;
      tree = e.tree;
      operand = begin;
      are = others;
      reads = e.reads;
      frames = left ∙ sym l.front_is;
      keeps = keeps_same all refl refl keeps;
    }

-- ---- between two operands

-- a function none of whose operands is read
record IsFirst (o : Opened) (middle : Middle) (before after : Place) : Type 0 where
  begins : Begins (First middle) before after
  is_middle : IsMiddle middle
  none : opened_tokens o ≡ []

first_of : (o : Opened) (middle : Middle) (a b : Place) → frame_of o ≡ First middle → IsOpened o a b → IsFirst o middle a b
first_of (single f) middle a b e here = absurd (cc)
first_of (second f x) middle a b e here = absurd (cc)
first_of (first m) middle a b e here =
    let same : m ≡ middle = cc in
    record {
      begins = subst (λ (k : Middle). Begins (First k) a b) same here.0;
      is_middle = subst (λ (k : Middle). IsMiddle k) same here.1;
      none = refl;
    }

-- the first operand of the last function has ended
pub between : (start a : Place) (i j : Infix) (frames : List Frame) (middle : Middle) → IsBehind start a i
    → i.frames.items ≡ frames ++ First middle ∷ [] → j.frames.items ≡ frames → j.is_long ≡ i.is_long → j.tokens ≡ i.tokens
    → IsBetween middle start a j
between start a i j frames middle behind last left long tokens =
    let l = last_of behind.opened frames (First middle) (sym behind.frames ∙ last) in
    let (begin, others, here) = are_last l.front l.function start behind.operand
    (subst (λ (os : List Opened). AreOpened os start behind.operand) l.is behind.are) in
    let f = first_of l.function middle begin behind.operand l.frame_is here in
    let before = flat_map opened_tokens l.front in
    let all : flat_map opened_tokens behind.opened ++ tokens_of behind.tree ≡ before ++ tokens_of behind.tree =
    ap (λ os. flat_map opened_tokens os ++ tokens_of behind.tree) l.is
    ∙ ap (λ ts. ts ++ tokens_of behind.tree) (flat_map_more opened_tokens l.front l.function ∙ ap (λ ts. before ++ ts) f.none ∙ append-nil before) in
    record {
      opened = l.front;
      tree = behind.tree;
      begin = begin;
      operand = behind.operand;
      are = others;
      begins = f.begins;
      is_middle = f.is_middle;
      reads = behind.reads;
      frames = left ∙ sym l.front_is;
      keeps = keeps_same all tokens long behind.keeps;
    }

-- what is between the operands is read
pub middle_more : (start a b : Place) (i j : Infix) (middle : Middle) (f : Function) → IsBetween middle start a i → FitsMiddle middle f
    → ((g : TwoOperands) (more : List Piece) → middle_of g ≡ middle → Goes (words (middle_text (function_of_two g)) ++ more) a
    → function_of_two g ≡ f) → ReadsWords (middle_text f) a b → j.frames.items ≡ i.frames.items ++ Last f ∷ [] → j.is_long ≡ i.is_long
    → j.tokens ≡ i.tokens → IsBefore start b j
middle_more start a b i j middle f at fits tells read frames long tokens =
    let (g, is, middle_is) = of_middle middle f at.is_middle fits in
    let passed : IsBetweenRead g a b = record {
      passed = subst (λ (k : Function). ReadsWords (middle_text k) a b) (sym is) read;
      tells = λ h more same goes. same_two h g (tells h more (same ∙ middle_is) goes ∙ sym is);
    } in
    let s : IsSecond g at.tree at.begin b = record {
      operand = at.operand;
      middle = a;
      begins = subst (λ (m : Middle). Begins (First m) at.begin at.operand) (sym middle_is) at.begins;
      reads = at.reads;
      between = passed;
    } in
    record {
      opened = at.opened ++ second g at.tree ∷ [];
      are = are_more at.opened (second g at.tree) start at.begin b at.are s;
      frames = frames ∙ ap (λ l. l ++ Last f ∷ []) at.frames ∙ ap (λ k. map frame_of at.opened ++ Last k ∷ []) (sym is)
          ∙ sym (map_more at.opened (second g at.tree));
      keeps = keeps_same (sym (flat_map_more opened_tokens at.opened (second g at.tree))) tokens long at.keeps;
    }

-- ---- the end of an expression

no_opened : (opened : List Opened) → map frame_of opened ≡ [] → opened ≡ []
no_opened [] e = refl
no_opened (o ∷ opened) e = cc

-- no function is open
pub whole_read : (start a : Place) (i j : Infix) → IsBehind start a i → i.frames.items ≡ [] → j.is_long ≡ i.is_long → j.tokens ≡ i.tokens
    → IsRead start a j
whole_read start a i j behind none long tokens =
    let empty = no_opened behind.opened (sym behind.frames ∙ none) in
    let same : start ≡ behind.operand = subst (λ (os : List Opened). AreOpened os start behind.operand) empty behind.are in
    record {
      tree = behind.tree;
      reads = subst (λ (p : Place). ReadsTree behind.tree p a) (sym same) behind.reads;
      keeps = keeps_same (ap (λ os. flat_map opened_tokens os ++ tokens_of behind.tree) empty) tokens long behind.keeps;
    }

pub ended_whole : (start a : Place) (i : Infix) → IsRead start a i → IsWhole start a i
ended_whole start a i read = record {
  moves = read.reads.reads.moves;
  read = λ sound. read;
  takes = λ t more tail goes. (read.reads.reads.takes t more tail goes).1.sound;
}

-- a piece is missing
pub stopped_whole : (start a : Place) (i : Infix) → IsBehind start a i → (IsSound a → ⊥) → IsWhole start a i
stopped_whole start a i behind bad = record {
  moves = moves_then (are_moves behind.opened start behind.operand behind.are) behind.reads.reads.moves;
  read = λ sound. absurd (bad sound);
  takes = λ t more tail goes.
      let (y, others, ends, inside) = into_all behind.opened start behind.operand behind.are (t, more, tail, goes) in
      (behind.reads.reads.takes y others ends inside).1.sound;
}

-- ---- a number or a variable

pub number_leaf : (n : ℕ) {a b : Place} → Tells None a
    → ((t : Tree) (more : List Piece) → Goes (infix_pieces t ++ more) a → frame_before t ≡ None → letter_before t ≡ None)
    → ReadsFigure MOST_NUMBER n a b → IsLeaf a b (Number n)
number_leaf n {a} {b} tells none read = record { tree = number n; reads = number_tree n tells none read; tokens = refl; alone = refl }

pub variable_leaf : (letter : Letter) (place : ℕ) {a b c : Place} → Tells None a
    → ((t : Tree) (more : List Piece) → Goes (infix_pieces t ++ more) a → frame_before t ≡ None → letter_before t ≡ Some letter)
    → ReadsWords (letter_text letter) a b → ReadsFigure MOST_POSITION place b c → IsLeaf a c (Var letter place)
variable_leaf letter place {a} {b} {c} tells some name read = record {
  tree = variable letter place;
  reads = variable_tree letter place tells some name read;
  tokens = refl;
  alone = refl;
}
