-- The lines of variables, one variable more.
use Rattle.std.proofs.Common.{◌≡◌, List, [], ◌∷◌, ◌++◌, append-nil, append_assoc, sym, ap, ◌∙◌}
use Rattle.mufom_module.specs.declared.module.Parts.{Parts}
use Rattle.mufom_field_values.specs.Lines.{Variable, new_line, variable_lines}

pub lines-more : (m : Parts) (earlier vs : List Variable) (v : Variable)
    → variable_lines m earlier (vs ++ v ∷ []) ≡ variable_lines m earlier vs ++ new_line m (earlier ++ vs) v
lines-more m earlier [] v = append-nil (new_line m earlier v) ∙ ap (λ l. new_line m l v) (sym (append-nil earlier))
lines-more m earlier (w ∷ vs) v =
    ap (λ t. new_line m earlier w ++ t) (lines-more m (earlier ++ w ∷ []) vs v)
    ∙ sym (append_assoc (new_line m earlier w) (variable_lines m (earlier ++ w ∷ []) vs) (new_line m ((earlier ++ w ∷ []) ++ vs) v))
    ∙ ap (λ l. (new_line m earlier w ++ variable_lines m (earlier ++ w ∷ []) vs) ++ new_line m l v) (append_assoc earlier (w ∷ []) vs)
