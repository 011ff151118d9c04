-- An expression weighs at most ten times its bytes, with positions in place of its indexes too.
use Rattle.std.proofs.Common.{◌≡◌, ℕ, ◌+◌, ◌*◌, ◌≤◌, List, [], ◌∷◌, ◌++◌, length, sum_by, refl, sym, ap, ◌∙◌, arith, length-append}
use Rattle.std.proofs.lemmas.List.Sums.{sum_by-cons, sum_by-append}
use Rattle.mufom_numbers.specs.Spelling.{SpellsNumber}
use Rattle.mufom_expr.specs.declared.token.Letter.{Letter}
use Rattle.mufom_expr.specs.declared.token.Token.{Token}
use Rattle.mufom_expr.specs.declared.token.Token.TheVariants.{Number, Var, Fun}
use Rattle.mufom_expr.specs.Codes.{letter_byte, function_byte}
use Rattle.mufom_expr.specs.Tree.{Tree, number, variable, one, two, tokens_of, function_of_one, function_of_two}
use Rattle.mufom_expr.specs.Terms.{the_term}
use Rattle.mufom_expr.specs.TokenAt.{tokens_in}
use Rattle.mufom_expr.specs.Value.{with_variables}
use Rattle.mufom_expr.specs.Spelled.{SpellsToken, SpellsTokens, SpellsTree, Indexes}
use Rattle.mufom_module.specs.SpelledRecords.{positioned, positioned_variable}
use Rattle.mufom_module.specs.Weights.{token_weight, expression_weight}
use Rattle.mufom_module.proofs.SpelledLaws.{term-spelling}

-- a number has a byte at least
pub number_long : (n : ℕ) (bytes : List ℕ) → SpellsNumber n bytes → 1 ≤ length bytes
number_long n [] is = absurd is
number_long n (b ∷ bytes) is = omega arith

token_tenfold : (token : Token) (bytes : List ℕ) → SpellsToken token bytes → token_weight token ≤ 10 * length bytes
token_tenfold (Number n) bytes is = let long = number_long n bytes is in omega (arith, long)
token_tenfold (Var letter i) bytes (below, after, is, split) =
    let long = number_long i after is in
    let all : length bytes ≡ length (letter_byte letter ∷ after) = ap length split in
    omega (arith, long, all)
token_tenfold (Fun f) bytes is = let all : length bytes ≡ length (function_byte f ∷ []) = ap length is in omega (arith, all)

tokens_tenfold : (tokens : List Token) (bytes : List ℕ) → SpellsTokens tokens bytes → sum_by token_weight tokens ≤ 10 * length bytes
tokens_tenfold [] bytes is = omega arith
tokens_tenfold (token ∷ tokens) bytes (prefix, back, first, others, split) =
    let own = token_tenfold token prefix first in
    let rest = tokens_tenfold tokens back others in
    let all = ap length split in
    let parts = length-append prefix back in
    let sum = sum_by-cons token_weight token tokens in
    omega (arith, own, rest, all, parts, sum)

-- the tree that the bytes of an expression spell
pub tree_tenfold : (tree : Tree) (bytes : List ℕ) → SpellsTree tree bytes → expression_weight (the_term (tokens_in bytes)) ≤ 10 * length bytes
tree_tenfold tree bytes is =
    let same : expression_weight (the_term (tokens_in bytes)) ≡ expression_weight tree = ap expression_weight (term-spelling tree bytes is) in
    let its = tokens_tenfold (tokens_of tree) bytes is.1 in
    omega (arith, same, its)

-- other variables in place of these weigh the same
weight-renamed : (rename : Letter → ℕ → Letter × ℕ) (tree : Tree) → expression_weight (with_variables rename tree) ≡ expression_weight tree
weight-renamed rename (number n) = refl
weight-renamed rename (variable letter i) = refl
weight-renamed rename (one f a) =
    let its = weight-renamed rename a in
    let last = Fun (function_of_one f) ∷ [] in
    sum_by-append token_weight (tokens_of (with_variables rename a)) last ∙ (λ i. its i + sum_by token_weight last)
    ∙ sym (sum_by-append token_weight (tokens_of a) last)
weight-renamed rename (two f a b) =
    let first = weight-renamed rename a in
    let second = weight-renamed rename b in
    let last = Fun (function_of_two f) ∷ [] in
    let x = tokens_of (with_variables rename a) in
    let y = tokens_of (with_variables rename b) in
    sum_by-append token_weight (x ++ y) last
    ∙ ap (λ n. n + sum_by token_weight last) (sum_by-append token_weight x y ∙ (λ i. first i + second i)
    ∙ sym (sum_by-append token_weight (tokens_of a) (tokens_of b)))
    ∙ sym (sum_by-append token_weight (tokens_of a ++ tokens_of b) last)

pub weight-positioned : (ix : Indexes) (tree : Tree) → expression_weight (positioned ix tree) ≡ expression_weight tree
weight-positioned ix tree = weight-renamed (positioned_variable ix) tree
