use Rattle.std.proofs.Common.{◌∙◌, ap, sym}
use Rattle.std.proofs.lemmas.List.{take_all}
use Rattle.mufom_names.specs.declared.name.Public.{Public}
use Rattle.mufom_names.specs.Names.{names_of}
use Rattle.mufom_names.specs.Index.{position_of, with_entry}
use Rattle.mufom_image_values.specs.Names.{place_in}
use Rattle.mufom_image_values.proofs.NameLaws.{finds-more}
use Rattle.mufom_image_values.proofs.names.index_of_publics.Goals as goal

pub loop-place-preserved : goal.loop-place-preserved
loop-place-preserved c name =
    let publics = c.args.publics.now in
    let i = c.loop-place.place in
    let p = c.index-publics-place.result in
    ap (λ es. position_of es name) (c.in_ok-_earlier.ensures.after
    ∙ ap (λ key. with_entry c.loop-place.index key i) (c.as_slice.ensures ∙ ap (λ (q : Public). q.name) (sym c.index-publics-place.is)))
    ∙ finds-more c.loop-place.index publics i p c.loop-place-test.true (sym c.index-publics-place.is) c.loop-place.invariant name

pub returns : goal.returns
returns c name =
    c.loop-place.invariant name ∙ ap (λ publics. place_in (names_of publics) name) (take_all c.loop-place.place c.args.publics.now c.loop-place-test.false)
