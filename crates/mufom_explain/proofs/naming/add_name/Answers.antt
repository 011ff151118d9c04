use Rattle.std.proofs.Common.{◌≡◌, ◌∙◌, [], ◌∷◌, length, map, ap, sym, arith}
use Rattle.std.proofs.lemmas.List.{length-map, map-append}
use Rattle.mufom_names.specs.Index.{position_of, with_entry, numbered_from}
use Rattle.mufom_explain.proofs.NamingLaws.{indexed-new, indexed-old, named-new, named-old}
use Rattle.mufom_explain.proofs.naming.add_name.Goals as goal

pub returns-in-Some-clause-indexed : goal.returns-in-Some-clause-indexed
returns-in-Some-clause-indexed c =
    let names = map (λ name. name.now) c.args.names.now.items in
    let there = ap (λ es. position_of es c.args.name.now) (sym c.requires.indexed) ∙ sym c.in_ok-add.ensures.answer ∙ c.in-Some.is in
    c.in_ok-add.ensures.after ∙ ap (λ es. with_entry es c.args.name.now c.len.result) c.requires.indexed
    ∙ indexed-old names c.args.name.now c.len.result _ there

pub returns-in-Some-clause-names : goal.returns-in-Some-clause-names
returns-in-Some-clause-names c =
    let names = map (λ name. name.now) c.args.names.now.items in
    let there = ap (λ es. position_of es c.args.name.now) (sym c.requires.indexed) ∙ sym c.in_ok-add.ensures.answer ∙ c.in-Some.is in
    sym (named-old names c.args.name.now _ there)

pub returns-in_ok-push-in-None-clause-indexed : goal.returns-in_ok-push-in-None-clause-indexed
returns-in_ok-push-in-None-clause-indexed c =
    let items = c.args.names.now.items in
    let names = map (λ name. name.now) items in
    let none = ap (λ es. position_of es c.args.name.now) (sym c.requires.indexed) ∙ sym c.in_ok-add.ensures.answer ∙ c.in-None.is in
    let long = length-map items (λ name. name.now) in
    let count : c.len.result ≡ length names = grind (arith, long) in
    c.in_ok-add.ensures.after ∙ ap (λ es. with_entry es c.args.name.now c.len.result) c.requires.indexed
    ∙ indexed-new names c.args.name.now c.len.result count none
    ∙ ap (numbered_from 0) (sym (ap (map (λ name. name.now)) c.in_ok-push-in-None.ensures.items ∙ map-append (λ name. name.now) items (c.args.name ∷ [])))

pub returns-in_ok-push-in-None-clause-names : goal.returns-in_ok-push-in-None-clause-names
returns-in_ok-push-in-None-clause-names c =
    let items = c.args.names.now.items in
    let names = map (λ name. name.now) items in
    let none = ap (λ es. position_of es c.args.name.now) (sym c.requires.indexed) ∙ sym c.in_ok-add.ensures.answer ∙ c.in-None.is in
    ap (map (λ name. name.now)) c.in_ok-push-in-None.ensures.items ∙ map-append (λ name. name.now) items (c.args.name ∷ [])
    ∙ sym (named-new names c.args.name.now none)
