use Rattle.std.proofs.Common.{◌≡◌, ◌++◌, ◌∷◌, [], codes, ◌∙◌, append_assoc}
use Rattle.std.specs.Fmt.{decimal}
use Rattle.mufom_text.specs.Show.{order_letter}
use Rattle.mufom_text.specs.Words.{Text, line}
use Rattle.mufom_outcome.proofs.error_lines.mismatch_line.Goals as goal

-- as the parts are written, one after another
written : Text → Text → Text → Text → Text
written m o n p = codes "refused: link: Mismatch " ++ (m ++ (codes " " ++ (o ++ (codes " " ++ (n ++ (codes " " ++ (p ++ 10 ∷ [])))))))

regroup : (m o n p : Text) → written m o n p ≡ line (codes "refused: "
    ++ (codes "link: " ++ (codes "Mismatch " ++ (m ++ codes " " ++ o) ++ codes " " ++ (n ++ codes " " ++ p))))
unfolding written
regroup m o n p = simp append_assoc

pub returns : goal.returns
unfolding written
returns c =
    let first = c.order_name-order.ensures in
    let other = c.order_name-other_order.ensures in
    c.in_ok-format.ensures.ok ∙ (λ i. written (decimal c.args.first.maus) (first i) (decimal c.args.other.maus) (other i))
    ∙ regroup (decimal c.args.first.maus) (order_letter c.args.first.order) (decimal c.args.other.maus) (order_letter c.args.other.order)
