use Rattle.std.proofs.Common.{◌≡◌, ◌+◌, ◌++◌, ◌∷◌, [], List, ℕ, take, sym, ap, ◌∙◌, arith}
use Rattle.std.proofs.lemmas.List.{map_more}
use Rattle.mufom_origins.specs.declared.origins.Origin.{Origin}
use Rattle.mufom_origins.specs.Origins.{count_of, counts_of}
use Rattle.mufom_origins.specs.Places.{capped}
use Rattle.mufom_origins.proofs.PlaceLaws.{capped-ends, capped-total, ends_after, total}
use Rattle.mufom_origins.proofs.origins.ends_of.Goals as goal

pub loop-origin-preserved : goal.loop-origin-preserved
loop-origin-preserved c =
    let i = c.loop-origin.origin-index in
    let modules = c.args.modules.now in
    let counts = counts_of c.args.kind (take i modules) in
    let count = count_of c.args.kind c.origin-item.result in
    let more : counts ++ count ∷ [] ≡ counts_of c.args.kind (take (i + 1) modules) =
    ap (λ (o : Origin). counts ++ count_of c.args.kind o ∷ []) c.origin-item.is
    ∙ sym (map_more (count_of c.args.kind) modules i c.origin-item.result c.loop-origin-test.true) in
    let after : c.saturating_add-total.result ≡ capped (c.loop-origin.total + count) = omega (arith, c.count_of.ensures, c.saturating_add-total.ensures) in
    record {
      ends = c.in_ok-push.ensures.items ∙ ap (λ (ends : List ℕ). ends ++ c.saturating_add-total.result ∷ []) c.loop-origin.invariant.ends
          ∙ capped-ends counts count c.loop-origin.total c.saturating_add-total.result c.loop-origin.invariant.total after ∙ ap (ends_after 0) more;
      total = capped-total counts count c.loop-origin.total c.saturating_add-total.result c.loop-origin.invariant.total after
          ∙ ap (λ (all : List ℕ). capped (total all)) more;
    }
