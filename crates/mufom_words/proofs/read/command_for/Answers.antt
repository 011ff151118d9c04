use Rattle.std.proofs.Common.{map, length, ap, arith, ◌≡◌, ◌∙◌, sym}
use Rattle.std.proofs.lemmas.List.{length-map}
use Rattle.std.specs.String.{string_bytes}
use Rattle.clap.specs.Values.{kind_of}
use Rattle.mufom_words.specs.Options.{operands_of}
use Rattle.mufom_words.specs.Answer.{given}
use Rattle.mufom_words.proofs.Counts.{operands-within}
use Rattle.mufom_words.proofs.Refusals.{refusal_answers}
use Rattle.mufom_words.proofs.read.command_for.Goals as goal

pub returns-in-Err-clause-refused : goal.returns-in-Err-clause-refused
returns-in-Err-clause-refused c =
    rw c.refusal.ensures (refusal_answers c.args.form (map (λ word. string_bytes word) c.args.words.now) (kind_of c.in-Err.error) c.in-Err.ensures.kinds)

pub command_of_taken-requires-clause-few : goal.command_of_taken-requires-clause-few
command_of_taken-requires-clause-few c =
    let words = map (λ word. string_bytes word) c.args.words.now in
    let within = operands-within c.args.form words in
    let many : length words ≡ length c.args.words.now = length-map c.args.words.now (λ word. string_bytes word) in
    let same : length c.in-Some.operands.now ≡ length (given c.args.form words).operands =
    sym (length-map c.in-Some.operands.now (λ word. word.now)) ∙ ap length c.in-Some.ensures.some
    ∙ ap (λ rows. length (operands_of rows)) c.in-Ok.ensures.found in
    omega arith
