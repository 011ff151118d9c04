-- The members that are selected for roots exist. The members are looked at in the order of their choice: after as many turns as there are members, no
-- member is left to look at.
use Rattle.std.proofs.Common.{◌≡◌, ℕ, zero, suc, ◌+◌, ◌<◌, ◌≤◌, List, ◌++◌, length, flat_map, slice_get, Option, Some, None, Bool, true, refl}
use Rattle.std.proofs.Common.{subst, arith}
use Rattle.std.proofs.lemmas.Option.{slice_get_within}
use Rattle.std.specs.List.{AllByRecursion}
use Rattle.mufom_module.specs.declared.module.Parts.{Parts}
use Rattle.mufom_meaning.specs.Selection.{IsSelected, members_at}
use Rattle.mufom_select.specs.Choice.{Choice, needed_by, positions_from, with_members}
use Rattle.mufom_select.specs.Underway.{IsUnderway, references_of}
use Rattle.mufom_select.proofs.ChoiceLaws.{All-at, StepsTo, steps}
use Rattle.mufom_select.proofs.Chosen.{chosen-selected}
use Rattle.mufom_select.proofs.Least.{all-done, looked, needed-within, order-within, past-end}
use Rattle.mufom_groups.specs.Linked.{members, roots}
use Rattle.mufom_run_laws.specs.Exist.{FlatListsExist, SelectionsExist}
use Rattle.mufom_run_laws.proofs.Starts.{anything, element, nothing, start-one}

module _ (roots members : List Parts) where
  -- what the roots need
  abbrev first : List ℕ
  first = needed_by roots members (flat_map references_of roots)

  marked : (test : ℕ → Bool) → AllByRecursion (λ k. test k ≡ true) first
      → StepsTo (length members) test (nothing (length members)) first (with_members (nothing (length members)) first)
  marked test passes = steps (length members) test (nothing (length members)) first (start-one (length members))
      (needed-within roots members (flat_map references_of roots)) passes

  -- what the roots need is marked, and no member was looked at
  begun : IsUnderway roots members 0 (with_members (nothing (length members)) first)
  begun = record {
    one = (marked (λ k. true) (anything first)).one;
    rooted = (marked (λ k. true) (anything first)).chosen;
    done = λ j n m before. absurd (omega (arith, before));
    least = λ test passes. (marked test passes.first).grows.least tt;
  }

  -- the choice after some turns
  abbrev After : ℕ → Type 0
  After turns = (c : Choice) × IsUnderway roots members turns c

  -- if the order has no member left, one more turn changes nothing
  idle : (turns : ℕ) (c : Choice) → IsUnderway roots members turns c → length c.order ≤ turns → IsUnderway roots members (turns + 1) c
  idle turns c u past = record {
    one = u.one;
    rooted = u.rooted;
    done = λ j n m before at. let within = slice_get_within c.order j n at in u.done j n m (omega (arith, within, past)) at;
    least = u.least;
  }

  turn : (turns : ℕ) (c : Choice) → IsUnderway roots members turns c → After (turns + 1)
  turn turns c u = by_case (slice_get c.order turns) refl where
    by_case : (o : Option ℕ) → slice_get c.order turns ≡ o → After (turns + 1)
    by_case None e = (c, idle turns c u (past-end c.order turns e))
    by_case (Some n) e =
        let inside : n < length members = All-at (λ k. k < length members) c.order turns n u.one.inside e in
        let (m, its) = element members n inside in (
          with_members c (needed_by roots members m.names.references),
          looked roots members turns n m c u e (slice_get_within c.order turns n e) its (needed-within roots members m.names.references),
        )

  after : (turns : ℕ) → After turns
  after zero = (with_members (nothing (length members)) first, begun)
  after (suc turns) = let so_far = after turns in let next : turns + 1 ≡ suc turns = omega arith in subst After next (turn turns so_far.0 so_far.1)

  pub selected : (chosen : List ℕ) × IsSelected roots members chosen
  selected =
      let all = after (length members) in
      let c = all.0 in (
        positions_from 0 c.marks,
        chosen-selected roots members c
            (all-done roots members (length members) c all.1 (order-within (length members) c all.1.one)),
      )

pub selections-exist : SelectionsExist
selections-exist = selected

pub flat-lists-exist : FlatListsExist
flat-lists-exist tree modules =
    let (chosen, is) = selected (roots tree modules) (members tree modules) in
    (roots tree modules ++ members_at (members tree modules) chosen, (chosen, is, refl))
