-- Tests of lists and of the variables of tokens.
use Rattle.std.proofs.Common.{◌≡◌, ℕ, Bool, true, false, ◌||◌, List, [], ◌∷◌, refl, ap, sym, ◌∙◌}
use Rattle.std.specs.List.{list_any}
use Rattle.mufom_expr.specs.declared.token.Letter.{Letter}
use Rattle.mufom_expr.specs.declared.token.Token.{Token}
use Rattle.mufom_expr.specs.declared.token.Token.TheVariants.{Number, Var, Fun}
use Rattle.mufom_expr.specs.Tree.{Tree, tokens_of}
use Rattle.mufom_expr.specs.Value.{variables_of}
use Rattle.mufom_expr.specs.Mentions.{variables_in}
use Rattle.mufom_expr.proofs.Variables.{variables_in-tokens_of}

pub or-false : (b : Bool) → (b || false) ≡ b
or-false true = refl
or-false false = refl

any-variables_in : (p : Letter × ℕ → Bool) (tokens : List Token) → list_any p (variables_in tokens) ≡ list_any (λ t. list_any p (variables_in (t ∷ []))) tokens
any-variables_in p [] = refl
any-variables_in p (Number n ∷ tokens) = any-variables_in p tokens
any-variables_in p (Var l n ∷ tokens) = ap (λ b. p (l, n) || b) (any-variables_in p tokens)
    ∙ ap (λ b. b || list_any (λ t. list_any p (variables_in (t ∷ []))) tokens) (sym (or-false (p (l, n))))
any-variables_in p (Fun f ∷ tokens) = any-variables_in p tokens

-- a test of the variables of a tree looks at its tokens
pub any-variables_of : (p : Letter × ℕ → Bool) (tree : Tree) → list_any (λ t. list_any p (variables_in (t ∷ []))) (tokens_of tree)
    ≡ list_any p (variables_of tree)
any-variables_of p tree = sym (any-variables_in p (tokens_of tree)) ∙ ap (list_any p) (variables_in-tokens_of tree)
