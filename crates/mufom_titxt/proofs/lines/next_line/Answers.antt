use Rattle.std.proofs.Common.{◌∷◌, ◌≡◌, ◌∙◌, ◌+◌, ◌<◌, take, drop, length, ap, sym, arith}
use Rattle.std.specs.Prelude.{◌==◌}
use Rattle.std.specs.List.{position_or_len}
use Rattle.mufom_titxt.specs.Lines.{lines_of, without_return}
use Rattle.mufom_titxt.proofs.LineLaws.{feed_at, feed_none, lines_cut, lines_whole, rest_whole}
use Rattle.mufom_titxt.proofs.lines.next_line.Goals as goal

pub returns-in-None-clause-line : goal.returns-in-None-clause-line
returns-in-None-clause-line c = lines_whole c.args.text.now (feed_none c.args.text.now c.in-None.ensures)

pub returns-in-Some-clause-line : goal.returns-in-Some-clause-line
returns-in-Some-clause-line c =
    let text = c.args.text.now in
    let n = c.in-Some.count in
    let same : position_or_len (λ b. b == 10) text ≡ n = feed_at text n c.in-Some.ensures.0 c.in-Some.ensures.1 in
    let high = c.in-Some.ensures.0.high in
    let inside : position_or_len (λ b. b == 10) text < length text = omega (arith, same, high) in
    lines_cut text inside
    ∙ (ap (λ k. without_return (take k text) ∷ lines_of (drop (k + 1) text)) same
    ∙ (ap (λ line. line ∷ lines_of (drop (n + 1) text)) (sym c.without_return.ensures)
    ∙ ap (λ rest. c.without_return.result.now ∷ lines_of rest) (sym (rest_whole (n + 1) text))))
