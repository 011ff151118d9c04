-- Works come to one end at most, part by part.
use Rattle.std.proofs.Common.{◌≡◌, refl, sym, ap, subst, ◌∙◌, inl, inr}
use Rattle.mufom_groups.specs.Work.{Reached, gives, stops, Work, ◌>>=◌, sure, one_with, stop_at, nowhere, with_stops, IsSingle}

pub value-same : {S A : Type 0} (a b : A) → ◌≡◌ {A = Reached S A} (gives a) (gives b) → a ≡ b
value-same a b same = cc

pub end-same : {S A : Type 0} (s t : S) (x y : Reached S A) → x ≡ stops s → y ≡ stops t → x ≡ y → s ≡ t
end-same s t x y is_x is_y same = cc

pub sure-single : {S A : Type 0} (a : A) → IsSingle {S = S} {A = A} (sure a)
sure-single a (gives x) (gives y) is_x is_y = ap gives (is_x ∙ sym is_y)
sure-single a (gives x) (stops t) is_x is_y = absurd is_y
sure-single a (stops s) y is_x is_y = absurd is_x

pub stop_at-single : {S A : Type 0} (s : S) → IsSingle {S = S} {A = A} (stop_at s)
stop_at-single s (gives x) y is_x is_y = absurd is_x
stop_at-single s (stops t) (gives y) is_x is_y = absurd is_y
stop_at-single s (stops t) (stops u) is_x is_y = ap stops (is_x ∙ sym is_y)

pub one_with-single : {S A : Type 0} (P : A → Type 0) → ((a b : A) → P a → P b → a ≡ b) → IsSingle {S = S} {A = A} (one_with P)
one_with-single P single (gives x) (gives y) is_x is_y = ap gives (single x y is_x is_y)
one_with-single P single (gives x) (stops t) is_x is_y = absurd is_y
one_with-single P single (stops s) y is_x is_y = absurd is_x

pub nowhere-single : {S A : Type 0} → IsSingle {S = S} {A = A} nowhere
nowhere-single x y is_x is_y = absurd is_x

pub stops-single : {S T A : Type 0} (stop : S → T) (work : Work S A) → IsSingle work → IsSingle (with_stops stop work)
stops-single stop work single (gives a) (gives b) is_a is_b = let same = single (gives a) (gives b) is_a is_b in ap gives (value-same a b same)
stops-single stop work single (gives a) (stops t) is_a (s, is_s, same) = let no : gives a ≡ stops s = single (gives a) (stops s) is_a is_s in absurd cc
stops-single stop work single (stops t) (gives a) (s, is_s, same) is_a = let no : stops s ≡ gives a = single (stops s) (gives a) is_s is_a in absurd cc
stops-single stop work single (stops t) (stops u) (s, is_s, is_t) (r, is_r, is_u) =
    ap stops (is_t ∙ ap stop (end-same s r (stops s) (stops r) refl refl (single (stops s) (stops r) is_s is_r)) ∙ sym is_u)

module _ {S A B : Type 0} (first : Work S A) (next : A → Work S B) (first_single : IsSingle first) (next_single : (a : A) → IsSingle (next a)) where
  pub then-single : IsSingle (first >>= next)
  then-single (gives x) (gives y) (a, is_a, is_x) (b, is_b, is_y) =
      let same : a ≡ b = value-same a b (first_single (gives a) (gives b) is_a is_b) in
      next_single b (gives x) (gives y) (subst (λ (c : A). next c (gives x)) same is_x) is_y
  then-single (gives x) (stops t) (a, is_a, is_x) (inl is_t) = let no : gives a ≡ stops t = first_single (gives a) (stops t) is_a is_t in absurd cc
  then-single (gives x) (stops t) (a, is_a, is_x) (inr (b, is_b, is_t)) =
      let same : a ≡ b = value-same a b (first_single (gives a) (gives b) is_a is_b) in
      next_single b (gives x) (stops t) (subst (λ (c : A). next c (gives x)) same is_x) is_t
  then-single (stops s) (gives y) (inl is_s) (b, is_b, is_y) = let no : stops s ≡ gives b = first_single (stops s) (gives b) is_s is_b in absurd cc
  then-single (stops s) (gives y) (inr (a, is_a, is_s)) (b, is_b, is_y) =
      let same : a ≡ b = value-same a b (first_single (gives a) (gives b) is_a is_b) in
      next_single b (stops s) (gives y) (subst (λ (c : A). next c (stops s)) same is_s) is_y
  then-single (stops s) (stops t) (inl is_s) (inl is_t) = ap stops (end-same s t (stops s) (stops t) refl refl (first_single (stops s) (stops t) is_s is_t))
  then-single (stops s) (stops t) (inl is_s) (inr (b, is_b, is_t)) = let no : stops s ≡ gives b = first_single (stops s) (gives b) is_s is_b in absurd cc
  then-single (stops s) (stops t) (inr (a, is_a, is_s)) (inl is_t) = let no : gives a ≡ stops t = first_single (gives a) (stops t) is_a is_t in absurd cc
  then-single (stops s) (stops t) (inr (a, is_a, is_s)) (inr (b, is_b, is_t)) =
      let same : a ≡ b = value-same a b (first_single (gives a) (gives b) is_a is_b) in
      next_single b (stops s) (stops t) (subst (λ (c : A). next c (stops s)) same is_s) is_t
