use Rattle.std.proofs.Common.{◌≡◌, ◌++◌, ◌∷◌, [], codes, ap, ◌∙◌, append_assoc}
use Rattle.std.specs.Fmt.{decimal}
use Rattle.mufom_text.specs.Words.{Text, line}
use Rattle.mufom_outcome.specs.Complaint.{reason_text}
use Rattle.mufom_outcome.proofs.error_lines.read_line.Goals as goal

regroup : (file place reason : Text) → codes "refused: file " ++ (file ++ (codes " at " ++ (place ++ (codes ": " ++ (reason ++ 10 ∷ [])))))
    ≡ line (codes "refused: " ++ (codes "file " ++ file ++ codes " at " ++ place ++ codes ": " ++ reason))
regroup file place reason = simp append_assoc

pub returns : goal.returns
returns c = c.in_ok-format.ensures.ok ∙ ap (λ (reason : Text). codes "refused: file "
    ++ (decimal c.args.file ++ (codes " at " ++ (decimal c.args.refusal.offset ++ (codes ": " ++ (reason ++ 10 ∷ [])))))) c.reason_name-reason.ensures
    ∙ regroup (decimal c.args.file) (decimal c.args.refusal.offset) (reason_text c.args.refusal.reason)
