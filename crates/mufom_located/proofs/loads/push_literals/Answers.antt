use Rattle.std.proofs.Common.{◌++◌, ◌∷◌, [], ◌<◌, length, map, ap, ◌∙◌, sym, append_assoc, arith}
use Rattle.mufom_numbers.specs.declared.limits.TheConstants.{MOST_STRING_BYTES}
use Rattle.mufom_loads.specs.declared.load.Item.TheVariants.{Literal}
use Rattle.mufom_loads.specs.declared.load.Load.TheVariants.{One}
use Rattle.mufom_meaning.specs.Absolute.{chunks}
use Rattle.mufom_located.proofs.LoadLaws.{chunks-first}
use Rattle.mufom_located.proofs.loads.push_literals.Goals as goal

pub loop-rest-preserved : goal.loop-rest-preserved
loop-rest-preserved c =
    let rest = c.loop-rest.rest.now in
    let some : 0 < length rest = grind arith in
    let literals = map (λ chunk. One (Literal chunk)) in
    let first = chunks-first 65534 c.min.result rest some (grind arith) in
    ap (λ all. all ++ literals (chunks MOST_STRING_BYTES c.split_at.result.1.now)) c.in_ok-push.ensures.ok
    ∙ append_assoc c.loop-rest.loads (One (Literal c.in_ok-from_slice.field-0) ∷ []) (literals (chunks MOST_STRING_BYTES c.split_at.result.1.now))
    ∙ (let own = c.in_ok-from_slice.ensures ∙ c.split_at.ensures.front in let back = c.split_at.ensures.back in
    λ i. c.loop-rest.loads ++ (One (Literal (own i)) ∷ literals (chunks MOST_STRING_BYTES (back i))))
    ∙ ap (λ all. c.loop-rest.loads ++ literals all) (sym first)
    ∙ c.loop-rest.invariant
