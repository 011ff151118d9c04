use Rattle.std.proofs.Common.{◌++◌, ◌∷◌, [], map, take, sym, ap, ◌∙◌}
use Rattle.std.specs.List.{enumerate_from}
use Rattle.std.proofs.lemmas.List.{map-append}
use Rattle.mufom_map.specs.Keys.{public_key}
use Rattle.mufom_map.proofs.KeyLaws.{numbered-all, numbered-more}
use Rattle.mufom_map.proofs.order.public_keys.Goals as goal

pub loop-position-preserved : goal.loop-position-preserved
loop-position-preserved c =
    let publics = c.args.publics.now in
    let position = c.loop-position.position in
    let public = c.index-publics-position.result in
    c.in_ok-push.ensures.items
    ∙ (λ i. c.loop-position.invariant i ++ (public.value, position) ∷ [])
    ∙ sym (map-append public_key (take position (enumerate_from 0 publics)) ((position, public) ∷ []))
    ∙ ap (map public_key) (sym (numbered-more publics position public c.loop-position-test.true c.index-publics-position.is))

pub returns : goal.returns
returns c = c.loop-position.invariant ∙ ap (map public_key) (numbered-all c.args.publics.now c.loop-position.position c.loop-position-test.false)
