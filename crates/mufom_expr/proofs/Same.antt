-- Equality of tokens, as the code compares them.
use Rattle.std.proofs.Common.{◌≡◌, refl, ap, subst, true, rules}
use Rattle.std.specs.Bool.{Decides}
use denote.Enum.Bare.{same_true}
use Rattle.mufom_expr.specs.declared.token.Function.{Function}
use Rattle.mufom_expr.specs.declared.token.Function.TheVariants as functions
use Rattle.mufom_expr.specs.declared.token.Token.{Token}
use Rattle.mufom_expr.specs.declared.token.Token.TheVariants.{Number, Var, Fun}
use Rattle.mufom_expr.specs.contracts.token.FunctionPartialEq.TheImpl as function_eq
use Rattle.mufom_expr.specs.contracts.token.TokenPartialEq.TheImpl as token_eq
use Rattle.mufom_expr.specs.contracts.token.Function as function_row

function_same : (f g : Function) → function_eq.eq-value.it f g ≡ true → f ≡ g
function_same f g e = same_true function_row.the_type (search rules) f g e

function_self : (f : Function) → function_eq.eq-value.it f f ≡ true
function_self functions.Abs = refl
function_self functions.Neg = refl
function_self functions.Plus = refl
function_self functions.Minus = refl
function_self functions.Divide = refl
function_self functions.Times = refl
function_self functions.Max = refl
function_self functions.Min = refl
function_self functions.Mod = refl
function_self functions.Less = refl
function_self functions.Greater = refl
function_self functions.Equal = refl
function_self functions.Unequal = refl
function_self functions.And = refl
function_self functions.Or = refl
function_self functions.Xor = refl

token_same : (a b : Token) → token_eq.eq-value.it a b ≡ true → a ≡ b
token_same (Number n) (Number m) e = search rules
token_same (Number n) (Var l p) e = search rules
token_same (Number n) (Fun f) e = search rules
token_same (Var l p) (Number m) e = search rules
token_same (Var l p) (Var k q) e = search rules
token_same (Var l p) (Fun f) e = search rules
token_same (Fun f) (Number m) e = search rules
token_same (Fun f) (Var l p) e = search rules
token_same (Fun f) (Fun g) e = ap Fun (function_same f g e)

token_self : (a : Token) → token_eq.eq-value.it a a ≡ true
token_self (Number n) = search rules
token_self (Var l p) = search rules
token_self (Fun f) = function_self f

pub same_token : (a b : Token) → Decides (token_eq.eq-value.it a b) (a ≡ b)
same_token a b = (token_same a b, λ e. subst (λ x. token_eq.eq-value.it a x ≡ true) e (token_self a))
