-- The invariants of the tokens that an expression and a builder store.
use Rattle.std.specs.Prelude.{◌≡◌, ℕ, ◌≤◌, List, length, Some}
use Rattle.std.specs.List.{AllByRecursion}
use Rattle.mufom_expr.specs.declared.token.Token.{Token}
use Rattle.mufom_expr.specs.Tree.{IsInRange}
use Rattle.mufom_expr.specs.Terms.{leaves, LeaveOneTerm}

-- of an expression: the tokens leave one term, there are at most 255, and each is in range
abbrev pub AreOneExpression : List Token → Type 0
AreOneExpression tokens = LeaveOneTerm tokens × (length tokens ≤ 255) × AllByRecursion IsInRange tokens

-- of a builder: the tokens leave `terms` terms, no more than there are tokens; there are at most 255 tokens, and each is in range
abbrev pub AreBuilt : List Token → ℕ → Type 0
AreBuilt tokens terms = (leaves tokens ≡ Some terms) × (terms ≤ length tokens) × (length tokens ≤ 255) × AllByRecursion IsInRange tokens
