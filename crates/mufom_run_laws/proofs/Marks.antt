-- The entries that are reached from roots exist. The entries are looked at in the order in which they are marked: after as many turns as there are
-- entries, no entry is left to look at.
use Rattle.std.proofs.Common.{◌≡◌, ℕ, zero, suc, ◌+◌, ◌<◌, ◌≤◌, List, length, slice_get, Option, Some, None, Bool, refl, sym, subst, arith}
use Rattle.std.proofs.lemmas.Option.{slice_get_within}
use Rattle.mufom_select.specs.Choice.{Choice, with_members}
use Rattle.mufom_select.proofs.ChoiceLaws.{All-at}
use Rattle.mufom_select.proofs.Least.{order-within, past-end}
use Rattle.mufom_prune.specs.Kept.{needs, roots}
use Rattle.mufom_prune.specs.Reached.{IsReached}
use Rattle.mufom_prune.specs.Underway.{AllBelow, AreBelow, IsUnderway}
use Rattle.mufom_prune.proofs.NeedLaws.{length-needs, needs-inside, roots-inside}
use Rattle.mufom_prune.proofs.Reaching.{all-done, begun, looked, needs-below, reached}
use Rattle.mufom_run_laws.specs.Exist.{KeptEntriesExist, MarksExist}
use Rattle.mufom_run_laws.proofs.Starts.{element, nothing, starts}

module _ (needs : List (List ℕ)) (roots : List ℕ) (inside : AllBelow (length needs) needs) (rooted : AreBelow (length needs) roots) where
  -- the marks after some turns
  abbrev After : ℕ → Type 0
  After turns = (c : Choice) × IsUnderway needs roots turns c

  -- if the order has no entry left, one more turn changes nothing
  idle : (turns : ℕ) (c : Choice) → IsUnderway needs roots turns c → length c.order ≤ turns → IsUnderway needs roots (turns + 1) c
  idle turns c u past = record {
    one = u.one;
    rooted = u.rooted;
    done = λ j n ns before at. let within = slice_get_within c.order j n at in u.done j n ns (omega (arith, within, past)) at;
    least = u.least;
  }

  turn : (turns : ℕ) (c : Choice) → IsUnderway needs roots turns c → After (turns + 1)
  turn turns c u = by_case (slice_get c.order turns) refl where
    by_case : (o : Option ℕ) → slice_get c.order turns ≡ o → After (turns + 1)
    by_case None e = (c, idle turns c u (past-end c.order turns e))
    by_case (Some n) e =
        let (ns, its) = element needs n (All-at (λ k. k < length needs) c.order turns n u.one.inside e) in
        (with_members c ns, looked needs roots turns n ns c u e its (needs-below (length needs) needs n ns inside its))

  after : (turns : ℕ) → After turns
  after zero = (with_members (nothing (length needs)) roots, begun needs roots (nothing (length needs)) (starts (length needs)) rooted)
  after (suc turns) = let so_far = after turns in let next : turns + 1 ≡ suc turns = omega arith in subst After next (turn turns so_far.0 so_far.1)

  pub marks : (marks : List Bool) × IsReached needs roots marks
  marks =
      let all = after (length needs) in
      let c = all.0 in
      (c.marks, reached needs roots c (all-done needs roots (length needs) c all.1 (order-within (length needs) c all.1.one)))

pub marks-exist : MarksExist
marks-exist = marks

pub kept-entries-exist : KeptEntriesExist
kept-entries-exist m names stays =
    let count = sym (length-needs m) in
    marks (needs m) (roots m names stays) (subst (λ n. AllBelow n (needs m)) count (needs-inside m))
    (subst (λ n. AreBelow n (roots m names stays)) count (roots-inside m names stays))
