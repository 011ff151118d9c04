use Rattle.std.proofs.Common.{◌≡◌, ◌∙◌, ◌+◌, ◌<◌, ◌++◌, ◌∷◌, [], List, take, get_or, length, sym, ap, arith, Some}
use Rattle.std.proofs.lemmas.Option.{slice_get-get_or}
use Rattle.mufom_names.specs.declared.name.Public.{Public}
use Rattle.mufom_locating.specs.Linked.{named_public, named_publics}
use Rattle.mufom_locating.proofs.LinkLaws.{named-more}
use Rattle.mufom_locating.proofs.symbols.symbol_publics.Goals as goal

pub loop-place-preserved : goal.loop-place-preserved
loop-place-preserved c =
    let symbols = c.args.symbols.now in
    let values = c.args.values.now in
    let k = c.loop-place.place in
    let symbol = c.index-symbols-place.result in
    let less = c.loop-place-test.true in
    let count = c.requires in
    let value = get_or values k 0 in
    let found = slice_get-get_or symbols k symbol less ∙ ap (λ s. Some s) (sym c.index-symbols-place.is) in
    let own = slice_get-get_or values k 0 (omega (arith, less, count)) in
    c.in_ok-push.ensures.ok ∙ ap (λ (p : Public). c.loop-place.publics ++ p ∷ []) c.in_ok-symbol_public.ensures
    ∙ ap (λ (ps : List Public). ps ++ named_public symbol value ∷ []) c.loop-place.invariant
    ∙ sym (named-more symbols values k symbol value found own)
