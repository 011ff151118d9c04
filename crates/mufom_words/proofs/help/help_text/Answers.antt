use Rattle.std.proofs.Common.{map, length, arith, sym, ◌≡◌}
use Rattle.std.proofs.lemmas.List.{length-map}
use Rattle.std.specs.String.{string_bytes}
use Rattle.mufom_words.proofs.HelpLaws.{no-text}
use Rattle.mufom_words.proofs.help.help_text.Goals as goal

pub returns-in_default : goal.returns-in_default
returns-in_default c =
    let words = map (λ word. string_bytes word) c.args.words.now in
    let many : length words ≡ length c.args.words.now = length-map c.args.words.now (λ word. string_bytes word) in
    sym (no-text words (omega (arith, many, c.in_default.len_at_least)))
