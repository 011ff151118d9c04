-- The entries that are marked in the end are the least closed set.
use Rattle.std.proofs.Common.{◌≡◌, ℕ, zero, suc, ◌+◌, ◌<◌, ◌≤◌, List, [], ◌∷◌, length, get_or, slice_get, Some, Bool, true, false, refl, sym, ap}
use Rattle.std.proofs.Common.{subst, ◌∙◌, true≢false, arith, nat_lt}
use Rattle.std.proofs.lemmas.Bool.Decides.{nat_tests}
use Rattle.std.proofs.lemmas.Option.{slice_get_within}
use Rattle.std.specs.List.{AllByRecursion}
use Rattle.mufom_select.specs.Choice.{Choice, with_members}
use Rattle.mufom_select.specs.Underway.{count, Marked, AreOne, IsStart}
use Rattle.mufom_select.proofs.ChoiceLaws.{StepsTo, steps, All-at, All-more}
use Rattle.mufom_prune.specs.Reached.{IsReached}
use Rattle.mufom_prune.specs.Underway.{AreBelow, AllBelow, AreMarked, IsUnderway}

anything : (xs : List ℕ) → AllByRecursion (λ k. true ≡ true) xs
anything [] = tt
anything (x ∷ xs) = (refl, anything xs)

none-marked : (marks : List Bool) (n : ℕ) → count marks ≡ 0 → get_or marks n false ≡ true → ⊥
none-marked [] n e h = true≢false (sym h)
none-marked (true ∷ marks) n e h = omega (arith, e)
none-marked (false ∷ marks) zero e h = true≢false (sym h)
none-marked (false ∷ marks) (suc n) e h = none-marked marks n e h

start-one : (size : ℕ) (c : Choice) → IsStart size c → AreOne size c
start-one size c s = record {
  sized = s.sized;
  inside = subst (AllByRecursion (λ n. n < size)) (sym s.empty) tt;
  marked = subst (AllByRecursion (Marked c)) (sym s.empty) tt;
  ordered = λ n h. absurd (none-marked c.marks n s.unmarked h);
  counted = ap length s.empty ∙ sym s.unmarked;
}

-- what one of the entries needs is below the number
pub needs-below : (size : ℕ) (needs : List (List ℕ)) (n : ℕ) (ns : List ℕ) → AllBelow size needs → slice_get needs n ≡ Some ns → AreBelow size ns
needs-below size [] n ns a e = absurd cc
needs-below size (x ∷ needs) zero ns a e = let same : x ≡ ns = cc in subst (AreBelow size) same a.0
needs-below size (x ∷ needs) (suc n) ns a e = needs-below size needs n ns a.1 e

-- The roots are marked first.
pub begun : (needs : List (List ℕ)) (roots : List ℕ) (c : Choice) → IsStart (length needs) c → AreBelow (length needs) roots
    → IsUnderway needs roots 0 (with_members c roots)
begun needs roots c s inside = record {
  one = (all (λ k. true) (anything roots)).one;
  rooted = (all (λ k. true) (anything roots)).chosen;
  done = λ j n ns before. absurd (omega (arith, before));
  least = λ has closed. (all has closed.rooted).grows.least (subst (AllByRecursion (λ k. has k ≡ true)) (sym s.empty) tt);
}
  where
    all : (has : ℕ → Bool) → AllByRecursion (λ k. has k ≡ true) roots → StepsTo (length needs) has c roots (with_members c roots)
    all has t = steps (length needs) has c roots (start-one (length needs) c s) inside t

-- One entry of the order is looked at: what it needs is marked after the others.
pub looked : (needs : List (List ℕ)) (roots : List ℕ) (place n : ℕ) (ns : List ℕ) (c : Choice) → IsUnderway needs roots place c
    → slice_get c.order place ≡ Some n
    → slice_get needs n ≡ Some ns → AreBelow (length needs) ns → IsUnderway needs roots (place + 1) (with_members c ns)
looked needs roots place n ns c u at its inside = record {
  one = all.one;
  rooted = All-more (Marked c) (Marked (with_members c ns)) all.grows.kept roots u.rooted;
  done = done;
  least = λ has closed.
      let next = closed.further n ns (All-at (λ k. has k ≡ true) c.order place n (u.least has closed) at) its in
      (steps (length needs) has c ns u.one inside next).grows.least (u.least has closed);
}
  where
    all : StepsTo (length needs) (λ k. true) c ns (with_members c ns)
    all = steps (length needs) (λ k. true) c ns u.one inside (anything ns)

    done : (j k : ℕ) (ks : List ℕ) → j < place + 1 → slice_get (with_members c ns).order j ≡ Some k → slice_get needs k ≡ Some ks
        → AreMarked (with_members c ns) ks
    done j k ks before here that =
        let within = slice_get_within c.order place n at in
        let old = all.grows.prefix j k (omega (arith, before, within)) here in
        by_case (nat_lt j place) refl old where
          by_case : (b : Bool) → nat_lt j place ≡ b → slice_get c.order j ≡ Some k → AreMarked (with_members c ns) ks
          by_case true lt old = All-more (Marked c) (Marked (with_members c ns)) all.grows.kept ks (u.done j k ks (grind (arith, nat_tests, lt)) old that)
          by_case false ge old =
              let last : j ≡ place = grind (arith, nat_tests, ge, before) in
              let same : Some k ≡ Some n = sym old ∙ ap (slice_get c.order) last ∙ at in
              let its-own : k ≡ n = cc in
              let theirs : Some ks ≡ Some ns = sym that ∙ ap (slice_get needs) its-own ∙ its in
              let one : ks ≡ ns = cc in
              subst (AreMarked (with_members c ns)) (sym one) all.chosen

-- If at least as many entries were looked at as the order has, all of it was looked at.
pub all-done : (needs : List (List ℕ)) (roots : List ℕ) (place : ℕ) (c : Choice) → IsUnderway needs roots place c → length c.order ≤ place
    → IsUnderway needs roots (length c.order) c
all-done needs roots place c u past = record {
  one = u.one;
  rooted = u.rooted;
  done = λ j n ns before. u.done j n ns (omega (arith, before, past));
  least = u.least;
}

-- all of the order was looked at: what is marked is what is reached
pub reached : (needs : List (List ℕ)) (roots : List ℕ) (c : Choice) → IsUnderway needs roots (length c.order) c → IsReached needs roots c.marks
reached needs roots c u = record {
  sized = u.one.sized;
  closed = record {
    rooted = u.rooted;
    further = λ n ns h its. let at = u.one.ordered n h in u.done at.0 n ns (slice_get_within c.order at.0 n at.1) at.1 its;
  };
  least = λ has closed n h. let at = u.one.ordered n h in All-at (λ k. has k ≡ true) c.order at.0 n (u.least has closed) at.1;
}
