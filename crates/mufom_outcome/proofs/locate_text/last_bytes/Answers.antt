use Rattle.std.proofs.Common.{◌≡◌, ℕ, suc, ◌-◌, List, [], ◌∷◌, ◌++◌, sym, ap, subst, ◌∙◌, arith}
use Rattle.std.specs.Int.{bytes_high_first}
use Rattle.mufom_outcome.proofs.AddressLaws.{bytes-down}
use Rattle.mufom_outcome.proofs.locate_text.last_bytes.Goals as goal

pub loop-place-preserved : goal.loop-place-preserved
loop-place-preserved c =
    let done = c.loop-place.bytes.items in let place = c.loop-place.place in let all = bytes_high_first c.args.count c.args.number in
    let below : place ≡ suc (place - 1) = omega (arith, c.loop-place-test.true) in
    let pushed = c.in_ok-push.ensures.items ∙ ap (λ (b : ℕ). done ++ b ∷ []) c.byte_of.ensures in
    subst (λ (l : List ℕ). l ++ bytes_high_first (place - 1) c.args.number
    ≡ all) (sym pushed) (bytes-down done all place (place - 1) c.args.number below c.loop-place.invariant)
