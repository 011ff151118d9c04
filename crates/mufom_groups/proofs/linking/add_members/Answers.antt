use Rattle.std.proofs.Common.{◌≡◌, ℕ, List, [], ◌∷◌, length, get_or, sym, ap, subst, arith}
use Rattle.std.proofs.lemmas.List.{drop_more, take_all, take_more}
use Rattle.std.specs.List.Sorted.{IsStrictlyIncreasing}
use Rattle.std.specs.Vec.Iter.{into_iter_items}
use Rattle.mufom_module.specs.declared.module.Parts.{Parts}
use Rattle.mufom_meaning.specs.Selection.{IsSelected}
use Rattle.mufom_groups.specs.Groups.{HasChosen}
use Rattle.mufom_groups.proofs.Selecting.{adding-begins, adding-chosen, adding-more}
use Rattle.mufom_groups.proofs.linking.add_members.Goals as goal

pub loop-position-init : goal.loop-position-init
loop-position-init c =
    rw (c.into_iter-rest.ensures.rest)
    (adding-begins c.args.roots.now.items c.args.members.items c.as_slice-positions.result.now
    (subst (λ (l : List ℕ). IsStrictlyIncreasing l) (sym c.as_slice-positions.ensures) c.in_ok-chosen.ensures.increasing))

pub loop-position-preserved : goal.loop-position-preserved
loop-position-preserved c =
    let xs = c.as_slice-positions.result.now in
    let i = c.loop-position.position-index in
    adding-more c.args.roots.now.items c.args.members.items xs i c.loop-position.roots.items (into_iter_items c.loop-position.rest)
    c.loop-position.passed c.loop-position.invariant _
    (drop_more xs i 0 c.loop-position-test.true) (take_more xs i 0 c.loop-position-test.true)
    c.module_after.result (into_iter_items c.module_after.new.rest) c.module_after.ensures.item c.module_after.ensures.rest
    c.add_optional.new.linked.items c.in_ok-add_optional.ensures.ok

-- a list of one module
only : (xs : List Parts) (x : Parts) → length xs ≡ 1 → x ≡ get_or xs 0 x → x ∷ [] ≡ xs
only [] x one is = absurd (omega (arith, one))
only (y ∷ []) x one is = ap (λ (z : Parts). z ∷ []) is
only (y ∷ (z ∷ xs)) x one is = absurd (omega (arith, one))

pub returns-clause-ok : goal.returns-clause-ok
returns-clause-ok c =
    let roots = c.args.roots.now.items in let members = c.args.members.items in
    let chosen = c.as_slice-positions.result.now in
    let selected = subst (λ (l : List Parts). IsSelected l members c.in_ok-chosen.chosen) (only roots c.index.result.now c.requires.one c.index.ensures)
    (subst (λ (l : List Parts). IsSelected (c.index.result.now ∷ []) l c.in_ok-chosen.chosen) c.deref.ensures.value c.in_ok-chosen.ensures) in
    let all = take_all c.loop-position.position-index chosen c.loop-position-test.false in
    subst (λ (l : List ℕ). HasChosen roots members l c.loop-position.roots.items) c.as_slice-positions.ensures
    (adding-chosen roots members chosen c.loop-position.roots.items (into_iter_items c.loop-position.rest) c.loop-position.passed
    c.loop-position.position-index c.loop-position.invariant
    (subst (λ (l : List ℕ). IsSelected roots members l) (sym c.as_slice-positions.ensures) selected) all)
