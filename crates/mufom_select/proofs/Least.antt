-- The choice that ends is the least one that is closed.
use Rattle.std.proofs.Common.{◌≡◌, ℕ, zero, suc, append-nil, ◌+◌, ◌<◌, ◌≤◌, List, [], ◌∷◌, ◌++◌, length, flat_map, get_or, slice_get, Option, Some}
use Rattle.std.proofs.Common.{None, option_to_list, IfSome, Bool, true, false, if◌then◌else◌, is_some, refl, sym, ap, subst, ◌∙◌, true≢false, arith}
use Rattle.std.proofs.Common.{nat_lt}
use Rattle.std.proofs.lemmas.Bool.Decides.{nat_tests}
use Rattle.std.specs.List.{AllByRecursion}
use Rattle.mufom_names.specs.declared.name.Reference.{Reference}
use Rattle.mufom_names.specs.Index.{position_of}
use Rattle.mufom_module.specs.declared.module.Parts.{Parts}
use Rattle.mufom_plan.specs.Names.{has_name}
use Rattle.mufom_meaning.specs.Flat.{public_names, is_strong}
use Rattle.mufom_meaning.specs.Selection.{provider}
use Rattle.mufom_select.specs.Choice.{Choice, with_members, needed_for, needed_by, needed_in, all_needed_in, with_publics, with_providers}
use Rattle.mufom_select.specs.Underway.{count, Marked, AreOne, references_of, IsUnderway, IsStart}
use Rattle.mufom_select.proofs.ChoiceLaws.{Grows, StepsTo, steps, All-at, All-more, count-le}
use Rattle.mufom_select.proofs.IndexLaws.{finds_provider, finds_defined, provider-within}

-- what the two indexes state is needed is needed
needed_in-needed : (roots : Parts) (members : List Parts) (r : Reference)
    → needed_in (with_publics [] 0 roots.names.publics) (with_providers [] 0 members) r ≡ needed_for (roots ∷ []) members r
needed_in-needed roots members r =
    let at = position_of (with_publics [] 0 roots.names.publics) r.name in
    ap (λ b. if is_strong r then (if b then None else position_of (with_providers [] 0 members) r.name) else None) (finds_defined roots r.name)
    ∙ ap (λ p. if is_strong r then (if has_name (public_names (roots ∷ [])) r.name then None else p) else None) (finds_provider members r.name)

pub all-needed : (roots : Parts) (members : List Parts) (references : List Reference)
    → all_needed_in (with_publics [] 0 roots.names.publics) (with_providers [] 0 members) references ≡ needed_by (roots ∷ []) members references
all-needed roots members [] = refl
all-needed roots members (r ∷ references) = λ i. option_to_list (needed_in-needed roots members r i) ++ all-needed roots members references i

-- One member of the order is looked at: what it needs is marked after the others.
pub looked : (roots members : List Parts) (place n : ℕ) (m : Parts) (c : Choice) → IsUnderway roots members place c → slice_get c.order place ≡ Some n
    → place < length c.order
    → slice_get members n ≡ Some m → AllByRecursion (λ k. k < length members) (needed_by roots members m.names.references)
    → IsUnderway roots members (place + 1) (with_members c (needed_by roots members m.names.references))
looked roots members place n m c u at within its inside =
    let ns = needed_by roots members m.names.references in
    let d = with_members c ns in
    record {
      one = (all (λ k. true)).one;
      rooted = All-more (Marked c) (Marked d) grown.kept (needed_by roots members (flat_map references_of roots)) u.rooted;
      done = done;
      least = λ test passes.
          let next = passes.more n m (All-at (λ k. test k ≡ true) c.order place n (u.least test passes) at) its in
          (steps (length members) test c ns u.one inside next).grows.least (u.least test passes);
    }
  where
    ns' : List ℕ
    ns' = needed_by roots members m.names.references

    anything : (xs : List ℕ) → AllByRecursion (λ k. true ≡ true) xs
    anything [] = tt
    anything (x ∷ xs) = (refl, anything xs)

    all : (test : ℕ → Bool) → StepsTo (length members) (λ k. true) c ns' (with_members c ns')
    all test = steps (length members) (λ k. true) c ns' u.one inside (anything ns')

    grown : Grows (λ k. true) c (with_members c ns')
    grown = (all (λ k. true)).grows

    done : (j k : ℕ) (q : Parts) → j < place + 1 → slice_get (with_members c ns').order j ≡ Some k → slice_get members k ≡ Some q
        → AllByRecursion (Marked (with_members c ns')) (needed_by roots members q.names.references)
    done j k q before here that =
        let old = grown.prefix j k (omega (arith, before, within)) here in
        by_case (nat_lt j place) refl old where
          by_case : (b : Bool) → nat_lt j place ≡ b → slice_get c.order j ≡ Some k
              → AllByRecursion (Marked (with_members c ns')) (needed_by roots members q.names.references)
          by_case true lt old = All-more (Marked c) (Marked (with_members c ns')) grown.kept (needed_by roots members q.names.references)
              (u.done j k q (grind (arith, nat_tests, lt)) old that)
          by_case false ge old =
              let last : j ≡ place = grind (arith, nat_tests, ge, before) in
              let same : Some k ≡ Some n = sym old ∙ ap (slice_get c.order) last ∙ at in
              let its-own : k ≡ n = cc in
              let member : Some q ≡ Some m = sym that ∙ ap (slice_get members) its-own ∙ its in
              let one : q ≡ m = cc in
              subst (λ (p : Parts). AllByRecursion (Marked (with_members c ns')) (needed_by roots members p.names.references)) (sym one)
              (all (λ k. true)).chosen

-- what is needed is a member of the list
pub needed-within : (roots members : List Parts) (references : List Reference) → AllByRecursion (λ k. k < length members) (needed_by roots members references)
needed-within roots members [] = tt
needed-within roots members (r ∷ references) = before (needed_for roots members r) (bound (is_strong r) (has_name (public_names roots) r.name))
    (needed-within roots members references) where
      before : (o : Option ℕ) → IfSome o (λ k. k < length members) → AllByRecursion (λ k. k < length members) (needed_by roots members references)
          → AllByRecursion (λ k. k < length members) (option_to_list o ++ needed_by roots members references)
      before None h rest = rest
      before (Some k) h rest = (h, rest)

      bound : (b c : Bool) → IfSome (if b then (if c then None else provider members r.name) else None) (λ k. k < length members)
      bound true true = tt
      bound true false = provider-within members r.name
      bound false c = tt

none-marked : (marks : List Bool) (n : ℕ) → count marks ≡ 0 → get_or marks n false ≡ true → ⊥
none-marked [] n e h = true≢false (sym h)
none-marked (true ∷ marks) n e h = omega (arith, e)
none-marked (false ∷ marks) zero e h = true≢false (sym h)
none-marked (false ∷ marks) (suc n) e h = none-marked marks n e h

start-one : (size : ℕ) (c : Choice) → IsStart size c → AreOne size c
start-one size c s = record {
  sized = s.sized;
  inside = subst (AllByRecursion (λ n. n < size)) (sym s.empty) tt;
  marked = subst (AllByRecursion (Marked c)) (sym s.empty) tt;
  ordered = λ n h. absurd (none-marked c.marks n s.unmarked h);
  counted = ap length s.empty ∙ sym s.unmarked;
}

-- What the roots need is marked first.
pub begun : (roots : Parts) (members : List Parts) (c : Choice) → IsStart (length members) c
    → IsUnderway (roots ∷ []) members 0 (with_members c (needed_by (roots ∷ []) members roots.names.references))
begun roots members c s = record {
  one = (all (λ k. true) (anything ns)).one;
  rooted = subst (AllByRecursion (Marked (with_members c ns))) same (all (λ k. true) (anything ns)).chosen;
  done = λ j n m before. absurd (omega (arith, before));
  least = λ test passes. (all test (subst (AllByRecursion (λ k. test k ≡ true)) (sym same) passes.first)).grows.least
      (subst (AllByRecursion (λ k. test k ≡ true)) (sym s.empty) tt);
}
  where
    ns : List ℕ
    ns = needed_by (roots ∷ []) members roots.names.references

    same : ns ≡ needed_by (roots ∷ []) members (flat_map references_of (roots ∷ []))
    same = ap (needed_by (roots ∷ []) members) (sym (append-nil roots.names.references))

    anything : (xs : List ℕ) → AllByRecursion (λ k. true ≡ true) xs
    anything [] = tt
    anything (x ∷ xs) = (refl, anything xs)

    all : (test : ℕ → Bool) → AllByRecursion (λ k. test k ≡ true) ns → StepsTo (length members) test c ns (with_members c ns)
    all test t = steps (length members) test c ns (start-one (length members) c s) (needed-within (roots ∷ []) members roots.names.references) t

-- If at least as many members were looked at as the order has, all of it was looked at.
pub all-done : (roots members : List Parts) (place : ℕ) (c : Choice) → IsUnderway roots members place c → length c.order ≤ place
    → IsUnderway roots members (length c.order) c
all-done roots members place c u past = record {
  one = u.one;
  rooted = u.rooted;
  done = λ j n m before. u.done j n m (omega (arith, before, past));
  least = u.least;
}

pub past-end : (xs : List ℕ) (i : ℕ) → slice_get xs i ≡ None → length xs ≤ i
past-end [] i e = omega arith
past-end (x ∷ xs) zero e = absurd (true≢false (ap (λ o. is_some o) e))
past-end (x ∷ xs) (suc i) e = let rest = past-end xs i e in omega (arith, rest)

-- the order is at most as long as the list of members
pub order-within : (size : ℕ) (c : Choice) → AreOne size c → length c.order ≤ size
order-within size c one = let a = one.counted in let b = count-le c.marks in let s = one.sized in omega (arith, a, b, s)
