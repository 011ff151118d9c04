-- What the bounds of expressions keep, and lists all of whose elements are within bounds.
use Rattle.std.proofs.Common.{ℕ, List, [], ◌∷◌, ◌++◌, length, sym, subst, ap, ◌∙◌, arith}
use Rattle.std.specs.List.{AllByRecursion}
use Rattle.std.proofs.lemmas.List.{length-map}
use Rattle.mufom_expr.specs.declared.token.Letter.{Letter}
use Rattle.mufom_expr.specs.declared.token.Token.{Token}
use Rattle.mufom_expr.specs.declared.token.Token.TheVariants.{Number, Var, Fun}
use Rattle.mufom_expr.specs.Tree.{Tree, tokens_of}
use Rattle.mufom_expr.specs.Value.{with_variables}
use Rattle.mufom_expr.specs.Renamed.{renamed_token, renamed_tokens}
use Rattle.mufom_expr.proofs.TermsLemmas.{renamed_tokens-tokens_of}
use Rattle.mufom_bounds.specs.Bounded.{IsBoundedToken, IsBoundedTree}

-- ---- lists

pub all-append : {X : Type 0} (Is : X → Type 0) (xs ys : List X) → AllByRecursion Is xs → AllByRecursion Is ys → AllByRecursion Is (xs ++ ys)
all-append Is [] ys a b = b
all-append Is (x ∷ xs) ys a b = (a.0, all-append Is xs ys a.1 b)

pub all-first : {X : Type 0} (Is : X → Type 0) (xs ys : List X) → AllByRecursion Is (xs ++ ys) → AllByRecursion Is xs
all-first Is [] ys a = tt
all-first Is (x ∷ xs) ys a = (a.0, all-first Is xs ys a.1)

pub all-last : {X : Type 0} (Is : X → Type 0) (xs ys : List X) → AllByRecursion Is (xs ++ ys) → AllByRecursion Is ys
all-last Is [] ys a = a
all-last Is (x ∷ xs) ys a = all-last Is xs ys a.1

-- ---- expressions

renamed-tokens : (rename : Letter → ℕ → Letter × ℕ) (tokens : List Token) → AllByRecursion IsBoundedToken tokens
    → AllByRecursion IsBoundedToken (renamed_tokens rename tokens)
renamed-tokens rename [] are = tt
renamed-tokens rename (Number n ∷ tokens) are = (are.0, renamed-tokens rename tokens are.1)
renamed-tokens rename (Var letter place ∷ tokens) are = (tt, renamed-tokens rename tokens are.1)
renamed-tokens rename (Fun f ∷ tokens) are = (tt, renamed-tokens rename tokens are.1)

-- other variables change nothing
pub renamed-tree : (rename : Letter → ℕ → Letter × ℕ) (tree : Tree) → IsBoundedTree tree → IsBoundedTree (with_variables rename tree)
renamed-tree rename tree is =
    let same = renamed_tokens-tokens_of rename tree in
    let count = ap length (sym same) ∙ length-map (tokens_of tree) (renamed_token rename) in (
      omega (arith, count, is.0),
      subst (λ (tokens : List Token). AllByRecursion IsBoundedToken tokens) same (renamed-tokens rename (tokens_of tree) is.1),
    )
