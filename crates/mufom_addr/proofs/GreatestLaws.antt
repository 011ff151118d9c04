-- The first of the greatest elements of a list that grows at its end.
use Rattle.std.proofs.Common.{◌≡◌, ℕ, ◌<◌, ◌≤◌, Bool, true, false, List, [], ◌∷◌, ◌++◌, Option, Some, None, cond, refl, ap, subst, ◌∙◌, arith, nat_lt}
use Rattle.std.proofs.lemmas.List.Elements.{All-append, All-cons, All-nil, All-same, All-weaker}
use Rattle.std.proofs.lemmas.Bool.Decides.{nat_tests}
use Rattle.mufom_addr.specs.Greatest.{IsFirstGreatest, first_greatest, unless_greater}
use Rattle.mufom_addr.specs.Search.{or_greater}

three : {X : Type 0} (key : X → ℕ) (x y z : X) → unless_greater key y (or_greater key (Some z) x) ≡ or_greater key (unless_greater key y (Some z)) x
three key x y z = grind (arith, nat_tests)

swap : {X : Type 0} (key : X → ℕ) (x y : X) (o : Option X) → unless_greater key y (or_greater key o x) ≡ or_greater key (unless_greater key y o) x
swap key x y None = refl
swap key x y (Some z) = three key x y z

pub first_greatest-push : {X : Type 0} (key : X → ℕ) (xs : List X) (x : X) → first_greatest key (xs ++ x ∷ []) ≡ or_greater key (first_greatest key xs) x
first_greatest-push key [] x = refl
first_greatest-push key (y ∷ xs) x = ap (unless_greater key y) (first_greatest-push key xs x) ∙ swap key x y (first_greatest key xs)

-- ---- what it is, as a relation

at_least-none : {X : Type 0} (key : X → ℕ) (y : X) (o : Option X) → unless_greater key y o ≡ None → ⊥
at_least-none key y None same = cc
at_least-none key y (Some z) same = by_test (nat_lt (key y) (key z)) same where
  by_test : (b : Bool) → cond b (Some z) (Some y) ≡ None → ⊥
  by_test true e = cc
  by_test false e = cc

-- only an empty list has none
pub first_greatest-none : {X : Type 0} (key : X → ℕ) (xs : List X) → first_greatest key xs ≡ None → xs ≡ []
first_greatest-none key [] same = refl
first_greatest-none key (y ∷ ys) same = absurd (at_least-none key y (first_greatest key ys) same)

pub first_greatest-some : {X : Type 0} (key : X → ℕ) (xs : List X) (x : X) → first_greatest key xs ≡ Some x → IsFirstGreatest key xs x
first_greatest-some {X} key [] x same = absurd (let none : Path (Option X) None (Some x) = same in cc)
first_greatest-some {X} key (y ∷ ys) x same = by_rest (first_greatest key ys) refl same (first_greatest-some key ys) where
  stays : (z : X) → IsFirstGreatest key ys z → key z ≤ key y → IsFirstGreatest key (y ∷ ys) y
  stays z h least = record {
    before = [];
    after = ys;
    is = refl;
    lesser = All-nil (λ (w : X). key w < key y);
    at_most = All-same (λ (w : X). key w ≤ key y) ys (h.before ++ z ∷ h.after) h.is
        (All-append (λ (w : X). key w ≤ key y) h.before (z ∷ h.after)
        (All-weaker (λ (w : X). key w < key z) (λ (w : X). key w ≤ key y) (λ w l. omega arith) h.before h.lesser)
        (All-cons (λ (w : X). key w ≤ key y) z h.after least (All-weaker (λ (w : X). key w ≤ key z) (λ (w : X). key w ≤ key y)
        (λ w l. omega arith) h.after h.at_most)));
  }

  goes : (z : X) → IsFirstGreatest key ys z → key y < key z → IsFirstGreatest key (y ∷ ys) z
  goes z h more = record {
    before = y ∷ h.before;
    after = h.after;
    is = ap (λ zs. y ∷ zs) h.is;
    lesser = All-cons (λ (w : X). key w < key z) y h.before more h.lesser;
    at_most = h.at_most;
  }

  by_test : (z : X) (b : Bool) → nat_lt (key y) (key z) ≡ b → IsFirstGreatest key ys z → cond b (Some z) (Some y) ≡ Some x → IsFirstGreatest key (y ∷ ys) x
  by_test z true test h e = let is : z ≡ x = cc in let P : X → Type 0 = λ w. IsFirstGreatest key (y
      ∷ ys) w in subst P is (goes z h (grind (arith, nat_tests)))
  by_test z false test h e = let is : y ≡ x = cc in let P : X → Type 0 = λ w. IsFirstGreatest key (y
      ∷ ys) w in subst P is (stays z h (grind (arith, nat_tests)))

  by_rest : (o : Option X) → first_greatest key ys ≡ o → unless_greater key y o ≡ Some x → ((z : X) → first_greatest key ys ≡ Some z
      → IsFirstGreatest key ys z)
      → IsFirstGreatest key (y ∷ ys) x
  by_rest None rest e step =
      let is : y ≡ x = cc in
      let none = first_greatest-none key ys rest in
      let P : X → Type 0 = λ w. IsFirstGreatest key (y ∷ ys) w in
      subst P is (record {
        before = [];
        after = ys;
        is = refl;
        lesser = All-nil (λ (w : X). key w < key y);
        at_most = All-same (λ (w : X). key w ≤ key y) ys [] none (All-nil (λ (w : X). key w ≤ key y));
      })
  by_rest (Some z) rest e step = by_test z (nat_lt (key y) (key z)) refl (step z rest) e
