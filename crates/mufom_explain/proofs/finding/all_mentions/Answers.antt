use Rattle.std.proofs.Common.{◌≡◌, ◌∙◌, [], ℕ, List, length, replicate, ap, arith}
use Rattle.std.proofs.lemmas.List.{length-map}
use Rattle.mufom_explain.specs.declared.mention.Mention.{Mention}
use Rattle.mufom_explain.specs.Flat.{wanted_names}
use Rattle.mufom_explain.proofs.ToldLaws.{none-told}
use Rattle.mufom_explain.proofs.finding.all_mentions.Goals as goal

pub loop-position-init : goal.loop-position-init
loop-position-init c =
    let names = wanted_names c.args.wanted.now in
    let long = length-map c.args.wanted.now.names.items (λ name. name.now) in
    let count : c.len.result ≡ length names = grind (arith, long) in
    c.in_ok-lists.ensures ∙ ap (λ (n : ℕ). replicate {A = List Mention} n []) count ∙ none-told names
