use Rattle.std.proofs.Common.{◌∷◌, ◌≡◌, ◌∙◌, ◌<◌, ◌≤◌, List, ℕ, take, drop, length, ap, sym, arith}
use Rattle.std.specs.Prelude.{◌==◌}
use Rattle.std.specs.List.{position_or_len}
use Rattle.std.proofs.lemmas.List.{length-drop}
use Rattle.mufom_titxt.specs.Lines.{words_of}
use Rattle.mufom_titxt.proofs.LineLaws.{words_first, word_begins, not_zero}
use Rattle.mufom_titxt.proofs.lines.next_word.Goals as goal

pub returns : goal.returns
returns c =
    let rest : List ℕ = c.without_spaces-rest.result.now in
    let n : ℕ = c.word_length.result in
    let same : n ≡ position_or_len (λ b. b == 32) rest = c.word_length.ensures.count in
    let more : 0 < length rest = not_zero (length rest) (sym c.is_empty.ensures ∙ c.if-is_empty.false) in
    let some : 0 < position_or_len (λ b. b == 32) rest = word_begins rest more c.without_spaces-rest.ensures.first in
    let within : position_or_len (λ b. b == 32) rest ≤ length rest = omega (arith, same, c.word_length.ensures.within) in
    let left = length-drop n rest in
    let back = ap length c.split_at.ensures.back in (
      sym c.without_spaces-rest.ensures.words
          ∙ (words_first rest some within
          ∙ (ap (λ k. take k rest ∷ words_of (drop k rest)) (sym same)
          ∙ (ap (λ word. word ∷ words_of (drop n rest)) (sym c.split_at.ensures.front)
          ∙ ap (λ after. c.split_at.result.0.now ∷ words_of after) (sym c.split_at.ensures.back)))),
      omega (arith, back, left, same, some, more, c.without_spaces-rest.ensures.within),
    )
