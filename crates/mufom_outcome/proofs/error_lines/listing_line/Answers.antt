use Rattle.std.proofs.Common.{◌≡◌, ◌++◌, ◌∷◌, [], codes, ap, sym, ◌∙◌, append_assoc}
use Rattle.std.specs.Fmt.{decimal}
use Rattle.mufom_refusals.specs.declared.build.BuildRefusal.{BuildRefusal}
use Rattle.mufom_text.specs.Words.{Text, line}
use Rattle.mufom_outcome.specs.Complaint.{build_reason_text, build_text}
use Rattle.mufom_outcome.proofs.error_lines.listing_line.Goals as goal

-- the line of what is wrong with a listing
refused_line : BuildRefusal → Text
refused_line r = line (codes "refused: " ++ (codes "listing" ++ build_text r))

regroup : (row column reason : Text) → codes "refused: listing line " ++ (row ++ (codes " column " ++ (column ++ (codes ": " ++ (reason ++ 10 ∷ [])))))
    ≡ line (codes "refused: " ++ (codes "listing" ++ (codes " line " ++ row ++ codes " column " ++ column ++ codes ": " ++ reason)))
regroup row column reason = simp append_assoc

pub returns-in_ok-format-in-At : goal.returns-in_ok-format-in-At
unfolding refused_line
returns-in_ok-format-in-At c =
    let row = c.in-At.line in
    let column = c.in-At.column in
    c.in_ok-format-in-At.ensures.ok ∙ ap (λ (reason : Text). codes "refused: listing line "
    ++ (decimal row ++ (codes " column " ++ (decimal column ++ (codes ": " ++ (reason ++ 10 ∷ [])))))) c.build_reason_name-reason.ensures
    ∙ regroup (decimal row) (decimal column) (build_reason_text c.in-At.reason) ∙ ap refused_line (sym c.in-At.is)
