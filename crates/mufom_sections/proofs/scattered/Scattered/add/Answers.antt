use Rattle.std.proofs.Common.{◌≡◌, ◌∙◌, ap, sym, nat_eq, position, cond, Some, length, false, rules}
use Rattle.std.specs.Ordering.{nat_cmp, is_eq}
use Rattle.std.specs.List.{list_any}
use Rattle.mufom_sections.proofs.ScatteredLemmas.{position-pushed, last-pushed}
use Rattle.mufom_sections.proofs.scattered.Scattered.add.Goals as goal

pub invariant_of-self-in-Ok : goal.invariant_of-self-in-Ok
invariant_of-self-in-Ok c =
    let k = c.args.index in
    let indexes = c.self.inside.indexes.items in
    let new : list_any (nat_eq k) indexes ≡ false = rw c.self.view_is c.requires.new in
    let long : c.len-place.result ≡ length indexes = search rules in
    let pushed = sym c.in_ok-push.ensures.items in (
      λ q.
          c.in-Ok.ensures.updates.0 q
          ∙ ap (λ found. cond (is_eq (nat_cmp k q)) (Some c.len-place.result) found) (c.self.invariant.0 q)
          ∙ ap (λ place. cond (is_eq (nat_cmp k q)) (Some place) (position (nat_eq q) indexes)) long
          ∙ position-pushed k q indexes new
          ∙ ap (position (nat_eq q)) pushed,
      λ q place is.
          ap (position (nat_eq q)) (sym pushed) ∙ last-pushed k q c.len-place.result place indexes new long is,
    )
