-- The last token of an expression shows its tree's form.
use Rattle.std.proofs.Common.{◌≡◌, ℕ, ◌-◌, ◌<◌, Bool, true, false, List, [], ◌∷◌, ◌++◌, length, take, drop, codes, refl, sym, ap, ◌∙◌, subst}
use Rattle.std.proofs.Common.{append_assoc, length-append, arith, true≢false}
use Rattle.std.proofs.Math.Seq.{take-append_seam, drop-append_seam}
use Rattle.std.proofs.lemmas.List.{take_all, length-drop}
use Rattle.mufom_expr.specs.declared.token.Letter.{Letter}
use Rattle.mufom_expr.specs.declared.token.Function.{Function}
use Rattle.mufom_expr.specs.declared.token.Token.{Token}
use Rattle.mufom_expr.specs.declared.token.Token.TheVariants as token
use Rattle.mufom_expr.specs.Tree.{Tree, number, variable, one, two, OneOperand, TwoOperands, function_of_one, function_of_two, absolute, negated}
use Rattle.mufom_expr.specs.Tree.{plus, minus, divided, times, larger, smaller, modulo, is_less, is_greater, is_equal, is_unequal, and_bits, or_bits}
use Rattle.mufom_expr.specs.Tree.{xor_bits, tokens_of}
use Rattle.std.specs.Fmt.{decimal}
use Rattle.mufom_expr.specs.Terms.{the_term}
use Rattle.mufom_expr.specs.TreeCode.{the_term-tokens_of}
use Rattle.mufom_expr.specs.InfixText.{infix_text, letter_text, opening_text, middle_text}
use Rattle.mufom_text.specs.Terms.{takes_one, EndsWithTerm}

pub one_takes_one : (f : OneOperand) → takes_one (function_of_one f) ≡ true
one_takes_one absolute = refl
one_takes_one negated = refl

pub two_takes_two : (f : TwoOperands) → takes_one (function_of_two f) ≡ false
two_takes_two plus = refl
two_takes_two minus = refl
two_takes_two divided = refl
two_takes_two times = refl
two_takes_two larger = refl
two_takes_two smaller = refl
two_takes_two modulo = refl
two_takes_two is_less = refl
two_takes_two is_greater = refl
two_takes_two is_equal = refl
two_takes_two is_unequal = refl
two_takes_two and_bits = refl
two_takes_two or_bits = refl
two_takes_two xor_bits = refl

-- lists that end with one item each are equal if their items and the lists before them are
snoc_same : {X : Type 0} (xs ys : List X) (x y : X) → xs ++ x ∷ [] ≡ ys ++ y ∷ [] → (xs ≡ ys) × (x ≡ y)
snoc_same [] [] x y e = (refl, cc)
snoc_same [] (b ∷ []) x y e = absurd cc
snoc_same [] (b ∷ (c ∷ ys)) x y e = absurd cc
snoc_same (a ∷ []) [] x y e = absurd cc
snoc_same (a ∷ (c ∷ xs)) [] x y e = absurd cc
snoc_same (a ∷ xs) (b ∷ ys) x y e =
    let first : a ≡ b = cc in
    let after : xs ++ x ∷ [] ≡ ys ++ y ∷ [] = cc in
    let rest = snoc_same xs ys x y after in
    ((λ i. first i ∷ rest.0 i), rest.1)

-- a token that is not a function ends a tree of one token
pub plain_end : (prefix : List Token) (tree : Tree) (before : List Token) (last : Token) → ((function : Function) → last ≡ token.Fun function → ⊥)
    → before ++ last ∷ [] ≡ prefix ++ tokens_of tree
    → (before ≡ prefix) × (tokens_of tree ≡ last ∷ [])
plain_end prefix (number n) before last plain e = let same = snoc_same before prefix last (token.Number n) e in (same.0, λ i. sym same.1 i ∷ [])
plain_end prefix (variable l p) before last plain e = let same = snoc_same before prefix last (token.Var l p) e in (same.0, λ i. sym same.1 i ∷ [])
plain_end prefix (one f a) before last plain e =
    let same = snoc_same before (prefix ++ tokens_of a) last (token.Fun (function_of_one f)) (e
    ∙ sym (append_assoc prefix (tokens_of a) (token.Fun (function_of_one f) ∷ []))) in
    absurd (plain (function_of_one f) same.1)
plain_end prefix (two f a b) before last plain e =
    let same = snoc_same before (prefix ++ (tokens_of a ++ tokens_of b)) last (token.Fun (function_of_two f)) (e
    ∙ sym (append_assoc prefix (tokens_of a ++ tokens_of b) (token.Fun (function_of_two f) ∷ []))) in
    absurd (plain (function_of_two f) same.1)

same_function : (f g : Function) → token.Fun f ≡ token.Fun g → f ≡ g
same_function f g e = cc

-- the tree that a function of one operand ends, and what is before it
pub record Operand (prefix : List Token) (tree : Tree) (before : List Token) (function : Function) : Type 0 where
  pub f : OneOperand
  pub a : Tree
  pub is : tree ≡ one f a
  pub function_is : function ≡ function_of_one f
  pub split : before ≡ prefix ++ tokens_of a

-- the tree that a function of two operands ends, and what is before it
pub record Operands (prefix : List Token) (tree : Tree) (before : List Token) (function : Function) : Type 0 where
  pub f : TwoOperands
  pub a : Tree
  pub b : Tree
  pub is : tree ≡ two f a b
  pub function_is : function ≡ function_of_two f
  pub split : before ≡ (prefix ++ tokens_of a) ++ tokens_of b

pub one_end : (prefix : List Token) (tree : Tree) (before : List Token) (function : Function) → takes_one function ≡ true → before
    ++ token.Fun function ∷ [] ≡ prefix ++ tokens_of tree → Operand prefix tree before function
one_end prefix (number n) before function takes e = let same = snoc_same before prefix (token.Fun function) (token.Number n) e in
    absurd (let wrong = same.1 in cc)
one_end prefix (variable l p) before function takes e = let same = snoc_same before prefix (token.Fun function) (token.Var l p) e in
    absurd (let wrong = same.1 in cc)
one_end prefix (one f a) before function takes e =
    let same = snoc_same before (prefix ++ tokens_of a) (token.Fun function) (token.Fun (function_of_one f)) (e
    ∙ sym (append_assoc prefix (tokens_of a) (token.Fun (function_of_one f) ∷ []))) in
    record { f = f; a = a; is = refl; function_is = same_function function (function_of_one f) same.1; split = same.0 }
one_end prefix (two f a b) before function takes e =
    let same = snoc_same before (prefix ++ (tokens_of a ++ tokens_of b)) (token.Fun function) (token.Fun (function_of_two f)) (e
    ∙ sym (append_assoc prefix (tokens_of a ++ tokens_of b) (token.Fun (function_of_two f) ∷ []))) in
    absurd (true≢false (sym takes ∙ ap takes_one (same_function function (function_of_two f) same.1) ∙ two_takes_two f))

pub two_end : (prefix : List Token) (tree : Tree) (before : List Token) (function : Function) → takes_one function ≡ false → before
    ++ token.Fun function ∷ [] ≡ prefix ++ tokens_of tree → Operands prefix tree before function
two_end prefix (number n) before function takes e = let same = snoc_same before prefix (token.Fun function) (token.Number n) e in
    absurd (let wrong = same.1 in cc)
two_end prefix (variable l p) before function takes e = let same = snoc_same before prefix (token.Fun function) (token.Var l p) e in
    absurd (let wrong = same.1 in cc)
two_end prefix (one f a) before function takes e =
    let same = snoc_same before (prefix ++ tokens_of a) (token.Fun function) (token.Fun (function_of_one f)) (e
    ∙ sym (append_assoc prefix (tokens_of a) (token.Fun (function_of_one f) ∷ []))) in
    absurd (true≢false (sym (ap takes_one (same_function function (function_of_one f) same.1) ∙ one_takes_one f) ∙ takes))
two_end prefix (two f a b) before function takes e =
    let same = snoc_same before (prefix ++ (tokens_of a ++ tokens_of b)) (token.Fun function) (token.Fun (function_of_two f)) (e
    ∙ sym (append_assoc prefix (tokens_of a ++ tokens_of b) (token.Fun (function_of_two f) ∷ []))) in
    record {
      f = f;
      a = a;
      b = b;
      is = refl;
      function_is = same_function function (function_of_two f) same.1;
      split = same.0
          ∙ sym (append_assoc prefix (tokens_of a) (tokens_of b));
    }

-- after the operands of a function a term ends
pub last_known : (before : List Token) (function : Function) → EndsWithTerm (before ++ token.Fun function ∷ []) → EndsWithTerm before
last_known before function (prefix, tree, e) = by_case (takes_one function) refl where
  by_case : (b : Bool) → takes_one function ≡ b → EndsWithTerm before
  by_case true takes = let it = one_end prefix tree before function takes e in (prefix, it.a, it.split)
  by_case false takes = let it = two_end prefix tree before function takes e in (prefix ++ tokens_of it.a, it.b, it.split)

-- before the second operand the first one ends
pub first_known : (before : List Token) (function : Function) (last : ℕ) → takes_one function ≡ false → EndsWithTerm (before ++ token.Fun function ∷ [])
    → ((prefix : List Token) (tree : Tree) → before ≡ prefix ++ tokens_of tree → last ≡ length prefix) → EndsWithTerm (take last before)
first_known before function last takes (prefix, tree, e) starts =
    let it = two_end prefix tree before function takes e in (
      prefix,
      it.a,
      ap (λ n. take n before) (starts (prefix ++ tokens_of it.a) it.b it.split) ∙ ap (take (length (prefix ++ tokens_of it.a))) it.split
          ∙ take-append_seam (prefix ++ tokens_of it.a) (tokens_of it.b),
    )

pub first_start : (before : List Token) (function : Function) (last first : ℕ) → takes_one function ≡ false
    → ((prefix : List Token) (tree : Tree) → before ≡ prefix ++ tokens_of tree → last ≡ length prefix)
    → ((prefix : List Token) (tree : Tree) → take last before ≡ prefix ++ tokens_of tree → first ≡ length prefix)
    → (prefix : List Token) (tree : Tree) → before ++ token.Fun function ∷ [] ≡ prefix ++ tokens_of tree → first ≡ length prefix
first_start before function last first takes starts begins prefix tree e =
    let it = two_end prefix tree before function takes e in
    begins prefix it.a (ap (λ n. take n before) (starts (prefix ++ tokens_of it.a) it.b it.split)
    ∙ ap (take (length (prefix ++ tokens_of it.a))) it.split ∙ take-append_seam (prefix ++ tokens_of it.a) (tokens_of it.b))

-- the last token is the function that ends a term
pub split_known : (tokens before : List Token) (last : Token) (function : Function) → tokens ≡ before ++ last ∷ [] → last ≡ token.Fun function
    → EndsWithTerm tokens → EndsWithTerm (before ++ token.Fun function ∷ [])
split_known tokens before last function split is known = subst EndsWithTerm (split ∙ ap (λ t. before ++ t ∷ []) is) known

-- where a term of one token begins
pub plain_start : (tokens before : List Token) (last : Token) → tokens ≡ before ++ last ∷ [] → ((function : Function) → last ≡ token.Fun function → ⊥)
    → (prefix : List Token) (tree : Tree) → tokens ≡ prefix ++ tokens_of tree
    → length before ≡ length prefix
plain_start tokens before last split plain prefix tree e = ap length (plain_end prefix tree before last plain (sym split ∙ e)).0

pub number_plain : (n : ℕ) (function : Function) → token.Number n ≡ token.Fun function → ⊥
number_plain n function e = cc

pub variable_plain : (letter : Letter) (place : ℕ) (function : Function) → token.Var letter place ≡ token.Fun function → ⊥
variable_plain letter place function e = cc

some_tokens : (tree : Tree) → 0 < length (tokens_of tree)
some_tokens (number n) = omega arith
some_tokens (variable l p) = omega arith
some_tokens (one f a) = let all = length-append (tokens_of a) (token.Fun (function_of_one f) ∷ []) in omega (arith, all)
some_tokens (two f a b) = let all = length-append (tokens_of a ++ tokens_of b) (token.Fun (function_of_two f) ∷ []) in omega (arith, all)

-- no tokens end with no term
pub none_ends : (tokens : List Token) → length tokens ≡ 0 → EndsWithTerm tokens → ⊥
none_ends tokens none (prefix, tree, e) =
    let some = some_tokens tree in
    let all = ap length e ∙ length-append prefix (tokens_of tree) in
    omega (arith, none, some, all)

-- ---- trees alone, with nothing before them

pub some_left : (tokens : List Token) → length tokens ≡ 0 → (tree : Tree) × (tokens ≡ tokens_of tree) → ⊥
some_left tokens none (tree, e) = none_ends tokens none ([], tree, e)

-- what is printed of a tree of one token
pub number_form : (n : ℕ) (tree : Tree) → tokens_of tree ≡ token.Number n ∷ [] → infix_text tree ≡ decimal n
number_form n tree e = ap infix_text (sym (the_term-tokens_of tree) ∙ ap the_term e)

pub variable_form : (letter : Letter) (place : ℕ) (tree : Tree) → tokens_of tree ≡ token.Var letter place ∷ [] → infix_text tree ≡ letter_text letter
    ++ decimal place
variable_form letter place tree e = ap infix_text (sym (the_term-tokens_of tree) ∙ ap the_term e)

-- the tokens of a tree that end with no function are one
pub plain_whole : (tokens before : List Token) (last : Token) → tokens ≡ before ++ last ∷ [] → ((function : Function) → last ≡ token.Fun function → ⊥)
    → (tree : Tree) → tokens ≡ tokens_of tree → tokens_of tree ≡ last ∷ []
plain_whole tokens before last split plain tree e = (plain_end [] tree before last plain (sym split ∙ e)).1

pub whole_known : (tokens before : List Token) (last : Token) (function : Function) → tokens ≡ before ++ last ∷ [] → last ≡ token.Fun function
    → (tree : Tree) × (tokens ≡ tokens_of tree) → (tree : Tree) × (before ++ token.Fun function ∷ [] ≡ tokens_of tree)
whole_known tokens before last function split is (tree, e) = (tree, ap (λ t. before ++ t ∷ []) (sym is) ∙ sym split ∙ e)

pub operand_known : (operand : List Token) (function : Function) → takes_one function ≡ true → (tree : Tree)
    × (operand ++ token.Fun function ∷ [] ≡ tokens_of tree) → (a : Tree) × (operand ≡ tokens_of a)
operand_known operand function takes (tree, e) = let it = one_end [] tree operand function takes e in (it.a, it.split)

pub operands_known : (operands : List Token) (function : Function) → takes_one function ≡ false → (tree : Tree)
    × (operands ++ token.Fun function ∷ [] ≡ tokens_of tree) → EndsWithTerm operands
operands_known operands function takes (tree, e) = let it = two_end [] tree operands function takes e in (tokens_of it.a, it.b, it.split)

-- where the second operand begins, the first one ends
pub record Parted (operands : List Token) (second : ℕ) (function : Function) (tree : Tree) : Type 0 where
  pub f : TwoOperands
  pub a : Tree
  pub b : Tree
  pub is : tree ≡ two f a b
  pub function_is : function ≡ function_of_two f
  pub first_is : take second operands ≡ tokens_of a
  pub second_is : drop second operands ≡ tokens_of b

pub parted : (operands : List Token) (second : ℕ) (function : Function) → takes_one function ≡ false
    → ((prefix : List Token) (tree : Tree) → operands ≡ prefix ++ tokens_of tree → second ≡ length prefix)
    → (tree : Tree) → operands ++ token.Fun function ∷ [] ≡ tokens_of tree → Parted operands second function tree
parted operands second function takes starts tree e =
    let it = two_end [] tree operands function takes e in
    let at = starts (tokens_of it.a) it.b it.split in
    record {
      f = it.f;
      a = it.a;
      b = it.b;
      is = it.is;
      function_is = it.function_is;
      first_is = ap (λ n. take n operands) at ∙ ap (take (length (tokens_of it.a))) it.split ∙ take-append_seam (tokens_of it.a) (tokens_of it.b);
      second_is = ap (λ n. drop n operands) at ∙ ap (drop (length (tokens_of it.a))) it.split ∙ drop-append_seam (tokens_of it.a) (tokens_of it.b);
    }

-- a function of one operand as it is printed
pub over_one_form : (operand : List Token) (function : Function) (tree : Tree) → takes_one function ≡ true → operand ++ token.Fun function ∷ [] ≡ tokens_of tree
    → (a : Tree) × (operand ≡ tokens_of a) × (infix_text tree ≡ (opening_text function ++ infix_text a) ++ codes ")")
over_one_form operand function tree takes e =
    let it = one_end [] tree operand function takes e in
    (it.a, it.split, ap infix_text it.is ∙ ap (λ f. (opening_text f ++ infix_text it.a) ++ codes ")") (sym it.function_is))

pub over_two_form : (operands : List Token) (second : ℕ) (function : Function) (tree : Tree) (p : Parted operands second function tree)
    → infix_text tree ≡ (((opening_text function ++ infix_text p.a) ++ middle_text function) ++ infix_text p.b) ++ codes ")"
over_two_form operands second function tree p = ap infix_text p.is
    ∙ ap (λ f. (((opening_text f ++ infix_text p.a) ++ middle_text f) ++ infix_text p.b) ++ codes ")") (sym p.function_is)

-- all that is from a place on
pub all_after : (tokens : List Token) (n : ℕ) → take (length tokens - n) (drop n tokens) ≡ drop n tokens
all_after tokens n = let count = length-drop n tokens in take_all (length tokens - n) (drop n tokens) (omega (arith, count))
