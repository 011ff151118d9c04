use Rattle.std.proofs.Common.{◌≡◌, ◌++◌, ◌∷◌, [], codes, ◌∙◌, append_assoc}
use Rattle.std.specs.Fmt.{decimal}
use Rattle.mufom_text.specs.Words.{Text, line}
use Rattle.mufom_outcome.proofs.error_lines.limit_line.Goals as goal

regroup : (file : Text) → codes "refused: file " ++ (file ++ (codes ": InputLimit" ++ 10 ∷ []))
    ≡ line (codes "refused: " ++ (codes "file " ++ file ++ codes ": InputLimit"))
regroup file = simp append_assoc

pub returns : goal.returns
returns c = c.in_ok-format.ensures.ok ∙ regroup (decimal c.args.file)
