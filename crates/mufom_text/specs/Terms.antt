-- Postfix tokens that end with a complete term. The last token tells how many operands it has, and so where the last term begins.
use Rattle.std.specs.Prelude.{◌≡◌, ◌==◌, Bool, List, ◌++◌}
use Rattle.mufom_expr.specs.declared.token.Function.{Function}
use Rattle.mufom_expr.specs.declared.token.Token.{Token}
use Rattle.mufom_expr.specs.Codes.{operands}
use Rattle.mufom_expr.specs.Tree.{Tree, tokens_of}

-- the function has one operand
abbrev pub takes_one : Function → Bool
takes_one f = operands f == 1

-- the last tokens are those of a tree
abbrev pub EndsWithTerm : List Token → Type 0
EndsWithTerm tokens = (prefix : List Token) × (tree : Tree) × (tokens ≡ prefix ++ tokens_of tree)
