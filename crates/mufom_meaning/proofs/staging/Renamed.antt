-- The value of an expression if its variables are renamed, and if two environments agree.
use Rattle.std.proofs.Common.{◌≡◌, ℕ, ◌++◌, map, refl, sym, ◌∙◌, ap}
use Rattle.std.specs.Prelude.{option_map, ◌%◌}
use Rattle.std.proofs.lemmas.List.{map-append}
use Rattle.mufom_expr.specs.declared.token.Letter.{Letter}
use Rattle.mufom_expr.specs.Tree.{Tree, number, variable, one, two}
use Rattle.mufom_expr.specs.Value.{Environment, value_at, with_variables, variables_of, both, one_value, two_value}

-- environments that agree give one value
pub value_at-agrees : (m : ℕ) (env other : Environment) → ((letter : Letter) (n : ℕ) → env letter n ≡ other letter n) → (t : Tree)
    → value_at m env t ≡ value_at m other t
value_at-agrees m env other same (number n) = refl
value_at-agrees m env other same (variable letter n) = ap (option_map (λ v. v % m)) (same letter n)
value_at-agrees m env other same (one f a) = ap (option_map (one_value m f)) (value_at-agrees m env other same a)
value_at-agrees m env other same (two f a b) =
    ap (λ x. both (two_value m f) x (value_at m env b)) (value_at-agrees m env other same a)
    ∙ ap (both (two_value m f) (value_at m other a)) (value_at-agrees m env other same b)

-- the variables of an expression whose variables are renamed
pub variables_of-with_variables : (rename : Letter → ℕ → Letter × ℕ) (t : Tree) → variables_of (with_variables rename t)
    ≡ map (λ v. rename v.0 v.1) (variables_of t)
variables_of-with_variables rename (number n) = refl
variables_of-with_variables rename (variable letter n) = refl
variables_of-with_variables rename (one f a) = variables_of-with_variables rename a
variables_of-with_variables rename (two f a b) =
    let left = variables_of-with_variables rename a in
    let right = variables_of-with_variables rename b in
    (λ i. left i ++ right i) ∙ sym (map-append (λ v. rename v.0 v.1) (variables_of a) (variables_of b))
