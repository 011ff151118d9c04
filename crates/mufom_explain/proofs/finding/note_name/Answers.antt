use Rattle.std.proofs.Common.{◌≡◌, ◌∙◌, length, vec_len, ap, sym, subst, arith}
use Rattle.mufom_names.specs.Index.{HaveDistinctKeys, position_of}
use Rattle.mufom_explain.specs.Flat.{wanted_names}
use Rattle.mufom_explain.proofs.ToldLaws.{noted-nowhere, noted-there, place-inside}
use Rattle.mufom_explain.proofs.finding.note_name.Goals as goal

pub returns-in_default-clause-told : goal.returns-in_default-clause-told
returns-in_default-clause-told c = λ told are.
    let none = ap (λ es. position_of es c.args.name.now) (sym c.args.wanted.now.indexed) ∙ sym c.find.ensures.value ∙ c.in_default.is in
    are ∙ noted-nowhere told c.args.name.now c.args.mention (wanted_names c.args.wanted.now) none

pub index_mut-requires : goal.index_mut-requires
index_mut-requires c =
    let there = ap (λ es. position_of es c.args.name.now) (sym c.args.wanted.now.indexed) ∙ sym c.find.ensures.value ∙ c.in-Some.is in
    let inside = place-inside (wanted_names c.args.wanted.now) c.args.name.now c.in-Some.place there in
    let same = c.requires in
    let count : vec_len c.args.lists.now ≡ length c.args.lists.now.items = grind arith in
    omega (arith, inside, same, count)

pub returns-clause-told : goal.returns-clause-told
returns-clause-told c = λ told are.
    let names = wanted_names c.args.wanted.now in
    let there = ap (λ es. position_of es c.args.name.now) (sym c.args.wanted.now.indexed) ∙ sym c.find.ensures.value ∙ c.in-Some.is in
    let once = subst HaveDistinctKeys c.args.wanted.now.indexed c.find.ensures.distinct in
    noted-there told c.args.name.now c.args.mention names c.in-Some.place there once c.args.lists.now.items are
    c.index_mut.result.now c.index_mut.ensures.value _ c.in_ok-note.ensures
