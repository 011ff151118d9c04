-- An expression in infix form, as a listing shows it.
use Rattle.std.specs.Prelude.{ℕ, List, ◌++◌, codes}
use Rattle.std.specs.Fmt.{decimal}
use Rattle.mufom_expr.specs.declared.token.Letter.{Letter}
use Rattle.mufom_expr.specs.declared.token.Letter.TheVariants.{I, L, P, R, S, X}
use Rattle.mufom_expr.specs.declared.token.Function.{Function}
use Rattle.mufom_expr.specs.declared.token.Function.TheVariants.{Abs, Neg, Plus, Minus, Divide, Times, Max, Min, Mod, Less, Greater, Equal, Unequal}
use Rattle.mufom_expr.specs.declared.token.Function.TheVariants.{And, Or, Xor}
use Rattle.mufom_expr.specs.Tree.{Tree, number, variable, one, two, function_of_one, function_of_two}

-- the name of a letter
abbrev pub letter_text : Letter → List ℕ
letter_text I = codes "I"
letter_text L = codes "L"
letter_text P = codes "P"
letter_text R = codes "R"
letter_text S = codes "S"
letter_text X = codes "X"

-- the text before the operands of a function
abbrev pub opening_text : Function → List ℕ
opening_text Abs = codes "abs("
opening_text Neg = codes "neg("
opening_text Max = codes "max("
opening_text Min = codes "min("
opening_text Mod = codes "mod("
opening_text And = codes "and("
opening_text Or = codes "or("
opening_text Xor = codes "xor("
opening_text _ = codes "("

-- the text between the two operands of a function
abbrev pub middle_text : Function → List ℕ
middle_text Plus = codes " + "
middle_text Minus = codes " - "
middle_text Divide = codes " / "
middle_text Times = codes " * "
middle_text Less = codes " < "
middle_text Greater = codes " > "
middle_text Equal = codes " = "
middle_text Unequal = codes " <> "
middle_text _ = codes ", "

-- The infix form of a tree: a number in decimal, a variable as its letter and its position, and a function between or before
-- its operands in parentheses, such as `(R0 + 4)` and `max(R0, 4)`.
abbrev pub infix_text : Tree → List ℕ
infix_text (number n) = decimal n
infix_text (variable letter place) = letter_text letter ++ decimal place
infix_text (one f a) = opening_text (function_of_one f) ++ infix_text a ++ codes ")"
infix_text (two f a b) = opening_text (function_of_two f) ++ infix_text a ++ middle_text (function_of_two f) ++ infix_text b ++ codes ")"
