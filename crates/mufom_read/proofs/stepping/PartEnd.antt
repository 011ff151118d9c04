-- The first error of a part, found among errors in another order: the one with the smallest offset.
use Rattle.std.proofs.Common.{◌≡◌, ◌⊎◌, ℕ, ◌+◌, ◌<◌, ◌≤◌, Bool, true, false, true≢false, cond, nat_lt, ltb-true, ltb-false, arith, List, [], ◌∷◌}
use Rattle.std.proofs.Common.{Option, Some, None, is_some, refl, sym, ap, subst, ◌∙◌, inl, inr}
use Rattle.std.specs.Option.{option_or}
use Rattle.mufom_judging.specs.Prefixes.{OffsetRecord}
use Rattle.mufom_judging.specs.Faults.{Fault, first_fault}
use Rattle.mufom_read.specs.NamesSoFar.{earlier, least_from, AreRising}

-- this error is among these
abbrev pub IsAmong : Fault → List (Option Fault) → Type 0
IsAmong f [] = ⊥
IsAmong f (b ∷ bs) = (b ≡ Some f) ⊎ IsAmong f bs

-- a record has this error
abbrev pub HasFault : (OffsetRecord → Option Fault) → Fault → List OffsetRecord → Type 0
HasFault fault f [] = ⊥
HasFault fault f (p ∷ placed) = (fault p ≡ Some f) ⊎ HasFault fault f placed

-- ---- the least

one_of : (a b : Option Fault) (f : Fault) → earlier a b ≡ Some f → (a ≡ Some f) ⊎ (b ≡ Some f)
one_of None b f e = inr e
one_of (Some a) None f e = inl e
one_of (Some a) (Some b) f e = by_test (nat_lt b.0 a.0) e where
  by_test : (test : Bool) → cond test (Some b) (Some a) ≡ Some f → (Some a ≡ Some f) ⊎ (Some b ≡ Some f)
  by_test true h = inr h
  by_test false h = inl h

least-is : (a : Option Fault) (bs : List (Option Fault)) (f : Fault) → least_from a bs ≡ Some f → (a ≡ Some f) ⊎ IsAmong f bs
least-is a [] f e = inl e
least-is a (b ∷ bs) f e = by_case (least-is (earlier a b) bs f e) where
  from : ((a ≡ Some f) ⊎ (b ≡ Some f)) → (a ≡ Some f) ⊎ ((b ≡ Some f) ⊎ IsAmong f bs)
  from (inl h) = inl h
  from (inr h) = inr (inl h)

  by_case : ((earlier a b ≡ Some f) ⊎ IsAmong f bs) → (a ≡ Some f) ⊎ ((b ≡ Some f) ⊎ IsAmong f bs)
  by_case (inl h) = from (one_of a b f h)
  by_case (inr h) = inr (inr h)

-- an offset that is at most that of the error, if there is one
abbrev pub IsBelow : Option Fault → ℕ → Type 0
IsBelow None n = ⊥
IsBelow (Some f) n = f.0 ≤ n

below_both : (a b : Option Fault) (n : ℕ) → (IsBelow a n ⊎ IsBelow b n) → IsBelow (earlier a b) n
below_both None b n (inl h) = absurd h
below_both None b n (inr h) = h
below_both (Some a) None n (inl h) = h
below_both (Some a) None n (inr h) = absurd h
below_both (Some a) (Some b) n h = by_test (nat_lt b.0 a.0) refl h where
  by_test : (test : Bool) → nat_lt b.0 a.0 ≡ test → ((a.0 ≤ n) ⊎ (b.0 ≤ n)) → IsBelow (cond test (Some b) (Some a)) n
  by_test true e (inl k) = let less : b.0 < a.0 = ltb-true b.0 a.0 e in omega (arith, less, k)
  by_test true e (inr k) = k
  by_test false e (inl k) = k
  by_test false e (inr k) = let more : a.0 ≤ b.0 = ltb-false b.0 a.0 e in omega (arith, more, k)

least_below : (a : Option Fault) (bs : List (Option Fault)) (n : ℕ) → IsBelow a n → IsBelow (least_from a bs) n
least_below a [] n h = h
least_below a (b ∷ bs) n h = least_below (earlier a b) bs n (below_both a b n (inl h))

least-low : (a : Option Fault) (bs : List (Option Fault)) (g : Fault) → IsAmong g bs → IsBelow (least_from a bs) g.0
least-low a [] g h = absurd h
least-low a (b ∷ bs) g (inl h) = least_below (earlier a b) bs g.0 (below_both a b g.0 (inr (subst (λ (o : Option Fault). IsBelow o g.0) (sym h) (omega arith))))
least-low a (b ∷ bs) g (inr h) = least-low (earlier a b) bs g h

-- ---- the first

module _ (fault : OffsetRecord → Option Fault) (own : (p : OffsetRecord) (f : Fault) → fault p ≡ Some f → f.0 ≡ p.0) where
  first-is : (placed : List OffsetRecord) (f : Fault) → first_fault fault placed ≡ Some f → HasFault fault f placed
  first-is [] f e = absurd (true≢false (sym (ap is_some e)))
  first-is (p ∷ placed) f e = by_case (first-is placed f) (fault p) refl e where
    by_case : (first_fault fault placed ≡ Some f → HasFault fault f placed) → (o : Option Fault) → fault p ≡ o
        → option_or o (first_fault fault placed) ≡ Some f → (fault p ≡ Some f) ⊎ HasFault fault f placed
    by_case after None is h = inr (after h)
    by_case after (Some g) is h = inl (is ∙ h)

  above : (from to : ℕ) (placed : List OffsetRecord) (f : Fault) → AreRising from placed to → HasFault fault f placed → from ≤ f.0
  above from to [] f rising h = absurd h
  above from to (p ∷ placed) f rising (inl h) = let same = own p f h in let low = rising.0 in omega (arith, same, low)
  above from to (p ∷ placed) f rising (inr h) = let more = above (p.0 + 1) to placed f rising.1 h in let low = rising.0 in omega (arith, more, low)

  -- an error of a record, at an offset that is at most that of every other error, is the first
  least-first : (from to : ℕ) (placed : List OffsetRecord) (f : Fault) → AreRising from placed to → HasFault fault f placed
      → ((g : Fault) → HasFault fault g placed → f.0 ≤ g.0) → first_fault fault placed ≡ Some f
  least-first from to [] f rising h low = absurd h
  least-first from to (p ∷ placed) f rising h low = by_case (λ k. least-first (p.0 + 1) to placed f rising.1 k (λ g there. low g (inr there)))
      (fault p) refl h where
        by_case : (HasFault fault f placed → first_fault fault placed ≡ Some f) → (o : Option Fault) → fault p ≡ o
            → ((fault p ≡ Some f) ⊎ HasFault fault f placed) → option_or o (first_fault fault placed) ≡ Some f
        by_case after None is (inl k) = absurd (true≢false (sym (ap is_some (sym is ∙ k))))
        by_case after None is (inr k) = after k
        by_case after (Some g) is (inl k) = sym is ∙ k
        by_case after (Some g) is (inr k) =
            let same = own p g is in
            let more = above (p.0 + 1) to placed f rising.1 k in
            let less = low g (inl is) in
            absurd (omega (arith, same, more, less))

  -- The error with the smallest offset is the first of the part, if the errors are those of its records.
  pub part-fault : (from to : ℕ) (placed : List OffsetRecord) (bs : List (Option Fault)) → AreRising from placed to
      → ((f : Fault) → IsAmong f bs → HasFault fault f placed) → ((f : Fault) → HasFault fault f placed → IsAmong f bs) → least_from None bs
      ≡ first_fault fault placed
  part-fault from to placed bs rising sound whole = by_case (least_from None bs) refl where
    none : (o : Option Fault) → least_from None bs ≡ None → first_fault fault placed ≡ o → None ≡ o
    none None is e = refl
    none (Some f) is e = absurd (subst (λ (l : Option Fault). IsBelow l f.0) is (least-low None bs f (whole f (first-is placed f e))))

    among : (f : Fault) → ((None ≡ Some f) ⊎ IsAmong f bs) → IsAmong f bs
    among f (inl e) = absurd (true≢false (sym (ap is_some e)))
    among f (inr h) = h

    by_case : (o : Option Fault) → least_from None bs ≡ o → o ≡ first_fault fault placed
    by_case None is = none (first_fault fault placed) is refl
    by_case (Some f) is = sym (least-first from to placed f rising (sound f (among f (least-is None bs f is)))
        (λ g there. subst (λ (l : Option Fault). IsBelow l g.0) is (least-low None bs g (whole g there))))
