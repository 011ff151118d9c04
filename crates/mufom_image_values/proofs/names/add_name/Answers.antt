use Rattle.std.proofs.Common.{◌∙◌, ap, sym}
use Rattle.mufom_names.specs.Index.{keys_of, position_of, with_entry}
use Rattle.mufom_image_values.proofs.NameLaws.{with_entry-numbered, counts-old, counts-new}
use Rattle.mufom_image_values.proofs.names.add_name.Goals as goal

pub returns-in-Some-clause-index : goal.returns-in-Some-clause-index
returns-in-Some-clause-index c =
    c.in_ok-add.ensures.after
    ∙ ap (λ es. with_entry es c.args.name.now c.args.count) c.requires.numbered
    ∙ with_entry-numbered (keys_of c.args.index.now) c.args.name.now c.args.count c.requires.count

pub returns-in-Some-clause-count : goal.returns-in-Some-clause-count
returns-in-Some-clause-count c =
    counts-old (keys_of c.args.index.now) c.args.name.now c.args.count _ c.requires.count
    (ap (λ es. position_of es c.args.name.now) (sym c.requires.numbered) ∙ sym c.in_ok-add.ensures.answer ∙ c.in-Some.is)

pub returns-in-None-clause-index : goal.returns-in-None-clause-index
returns-in-None-clause-index c =
    c.in_ok-add.ensures.after
    ∙ ap (λ es. with_entry es c.args.name.now c.args.count) c.requires.numbered
    ∙ with_entry-numbered (keys_of c.args.index.now) c.args.name.now c.args.count c.requires.count

pub returns-in-None-clause-count : goal.returns-in-None-clause-count
returns-in-None-clause-count c =
    counts-new (keys_of c.args.index.now) c.args.name.now c.args.count c.requires.count
    (ap (λ es. position_of es c.args.name.now) (sym c.requires.numbered) ∙ sym c.in_ok-add.ensures.answer ∙ c.in-None.is)
