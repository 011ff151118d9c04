use Rattle.std.proofs.Common.{◌∙◌, ◌-◌, ap, sym, List, length}
use Rattle.std.specs.Prelude.{ℕ, Option, slice_get}
use Rattle.mufom_expr.specs.ValueStack.{zero_there}
use Rattle.mufom_expr.proofs.Divisors.{top-reverse}
use Rattle.mufom_expr.proofs.value.has_zero_on_top.Goals as goal

pub returns : goal.returns
returns c =
    c.is_zero.ensures
    ∙ ap zero_there (c.copied.ensures ∙ c.last.ensures.value)
    ∙ ap (λ (values : List (Option ℕ)). zero_there (slice_get values (length values - 1))) c.as_slice.ensures.value
    ∙ ap zero_there (sym (top-reverse c.args.stack.now.items))
