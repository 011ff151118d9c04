use Rattle.std.proofs.Common.{◌∙◌, Some, None, length, refl, subst}
use Rattle.std.proofs.lemmas.Option.{slice_get_past, slice_get_read}
use Rattle.std.specs.Slice.{IsItemAt}
use Rattle.mufom_explain_text.proofs.ArgumentLaws.{word-past, word-there}
use Rattle.mufom_explain_text.proofs.input_lines.word_at.Goals as goal

pub returns-in-Some : goal.returns-in-Some
returns-in-Some c =
    let words = c.args.words.now in let n = c.args.number in let word = c.in-Some.word.now in
    let at : IsItemAt words n (Some c.in-Some.word) = subst (λ r. IsItemAt words n r) c.in-Some.is c.get.ensures.lookup in
    c.as_bytes.ensures.value ∙ c.as_str.ensures.value ∙ word-there words n word (slice_get_read words (length words) n word refl at.3.0 at.1)

pub returns-in-None : goal.returns-in-None
returns-in-None c =
    let words = c.args.words.now in let n = c.args.number in
    let at : IsItemAt words n None = subst (λ r. IsItemAt words n r) c.in-None.is c.get.ensures.lookup in
    word-past words n (slice_get_past words n at.3)
