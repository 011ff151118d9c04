use Rattle.std.proofs.Common.{◌≡◌, ◌++◌, List, ℕ, ap, ◌∙◌, IfSome}
use Rattle.std.specs.Prelude.{string_bytes}
use Rattle.mufom_expr.specs.ExprTree.{tree_of_expr}
use Rattle.mufom_expr.specs.InfixText.{infix_text}
use Rattle.mufom_expr.proofs.ExprLemmas.{infix_of_two}
use Rattle.mufom_expr.proofs.infix_form.+write_infix.Goals as goal

pub returns-in_ok-push_str-in-Two-3 : goal.returns-in_ok-push_str-in-Two-3
returns-in_ok-push_str-in-Two-3 t c =
    let old : List ℕ = string_bytes c.args.text.now in
    let opened : List ℕ = string_bytes c.push_str-in-Two.new.self in
    let left : List ℕ = string_bytes c.write_infix-in-Two.new.text in
    let between : List ℕ = string_bytes c.push_str-in-Two-2.new.self in
    let right : List ℕ = string_bytes c.write_infix-in-Two-2.new.text in
    let closed : List ℕ = string_bytes c.push_str-in-Two-3.new.self in
    let first : IfSome (tree_of_expr c.in-Two.a.value) (λ a. left ≡ opened ++ infix_text a) =
    rw (← c.deref-in-Two.ensures) c.in_ok-write_infix-in-Two.ensures in
    let second : IfSome (tree_of_expr c.in-Two.b.value) (λ b. right ≡ between ++ infix_text b) =
    rw (← c.deref-in-Two-2.ensures) c.in_ok-write_infix-in-Two-2.ensures in
    rw c.in-Two.is (infix_of_two c.in-Two.function old opened left between right closed (tree_of_expr c.in-Two.a.value) (tree_of_expr c.in-Two.b.value)
    (c.in_ok-push_str-in-Two.ensures.bytes ∙ ap (λ (x : List ℕ). old ++ x) c.infix_opening-in-Two.ensures)
    first
    (c.in_ok-push_str-in-Two-2.ensures.bytes ∙ ap (λ (x : List ℕ). left ++ x) c.infix_middle.ensures)
    second
    c.in_ok-push_str-in-Two-3.ensures.bytes)
