use Rattle.std.proofs.Common.{◌≡◌, ◌+◌, ◌<◌, ◌^◌, List, None, Option, ℕ, All, sym, subst, arith}
use Rattle.std.specs.Prelude.{IfSome}
use Rattle.mufom_meaning.specs.LinkAnswer.{link_answer}
use Rattle.mufom_meaning.specs.Selection.{IsSelected}
use Rattle.mufom_meaning.specs.Staging.{AreValid}
use Rattle.mufom_groups.proofs.LinkWalk.{valid-take}
use Rattle.mufom_groups.proofs.SelectedLaws.{selected-after}
use Rattle.mufom_groups.proofs.refused.tree_or_flat.Goals as goal

pub selected_for-requires-clause-valid : goal.selected_for-requires-clause-valid
selected_for-requires-clause-valid c = subst AreValid (sym c.split_at.ensures.front) (valid-take c.args.roots c.args.modules.now c.requires.valid)

pub flat_places-requires-clause-members : goal.flat_places-requires-clause-members
flat_places-requires-clause-members c =
    let tree = c.split_at.result.0.now in let members = c.split_at.result.1.now in
    let found = subst (λ (o : Option (List ℕ)). IfSome o (λ chosen. IsSelected tree members chosen × (link_answer tree ≡ None))) c.in-Some.is
    c.in_ok-chosen.ensures.selected in
    subst (λ (l : List ℕ). All (λ position. c.args.roots + position < 2 ^ 32) l) (sym c.as_slice.ensures)
    (selected-after tree members c.in-Some.chosen found.0 c.args.roots (2 ^ 32) (omega (arith, c.split_at.ensures.back_len, c.requires.few)))
