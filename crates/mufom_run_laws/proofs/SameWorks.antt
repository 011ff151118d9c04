-- Works that come to the same.
use Rattle.std.proofs.Common.{◌≡◌, subst, inl, inr}
use Rattle.mufom_groups.specs.Work.{Reached, gives, stops, Work, ◌>>=◌, IsSingle}
use Rattle.mufom_groups.proofs.Works.{value-same}
use Rattle.mufom_outcome.specs.Stop.{Stop}
use Rattle.mufom_run_laws.specs.RunLaws.{IsSameWork}

pub same-work : {A : Type 0} (work : Work Stop A) → IsSameWork work work
same-work work x = ((λ h. h), (λ h. h))

pub same-trans : {A : Type 0} (u v w : Work Stop A) → IsSameWork u v → IsSameWork v w → IsSameWork u w
same-trans u v w first second x = ((λ h. (second x).0 ((first x).0 h)), (λ h. (first x).1 ((second x).1 h)))

pub same-sym : {A : Type 0} (u v : Work Stop A) → IsSameWork u v → IsSameWork v u
same-sym u v same x = ((same x).1, (same x).0)

-- each value that the first part gives is followed by the same
module _ {A B : Type 0} (first second : Work Stop A) (next other : A → Work Stop B) (same : IsSameWork first second) (each : (a : A) → first (gives a)
    → IsSameWork (next a) (other a)) where
  same-there : (x : Reached Stop B) → (first >>= next) x → (second >>= other) x
  same-there (gives b) (a, is_a, is_b) = (a, (same (gives a)).0 is_a, (each a is_a (gives b)).0 is_b)
  same-there (stops s) (inl is_s) = inl ((same (stops s)).0 is_s)
  same-there (stops s) (inr (a, is_a, is_s)) = inr (a, (same (gives a)).0 is_a, (each a is_a (stops s)).0 is_s)

  same-back : (x : Reached Stop B) → (second >>= other) x → (first >>= next) x
  same-back (gives b) (a, is_a, is_b) = let own = (same (gives a)).1 is_a in (a, own, (each a own (gives b)).1 is_b)
  same-back (stops s) (inl is_s) = inl ((same (stops s)).1 is_s)
  same-back (stops s) (inr (a, is_a, is_s)) = let own = (same (gives a)).1 is_a in inr (a, own, (each a own (stops s)).1 is_s)

  pub then-same-where : IsSameWork (first >>= next) (second >>= other)
  then-same-where x = (same-there x, same-back x)

pub then-same : {A B : Type 0} (first second : Work Stop A) (next other : A → Work Stop B) → IsSameWork first second
    → ((a : A) → IsSameWork (next a) (other a)) → IsSameWork (first >>= next) (second >>= other)
then-same first second next other same each = then-same-where first second next other same (λ a is. each a)

-- where the first part is known to give a value, the whole is what follows it
module _ {A B : Type 0} (first : Work Stop A) (next : A → Work Stop B) (a : A) (single : IsSingle first) (is_a : first (gives a)) where
  known-there : (x : Reached Stop B) → (first >>= next) x → next a x
  known-there (gives b) (c, is_c, is_b) = let same : c ≡ a = value-same c a (single (gives c) (gives a) is_c is_a) in
      subst (λ (d : A). next d (gives b)) same is_b
  known-there (stops s) (inl is_s) = let no : stops s ≡ gives a = single (stops s) (gives a) is_s is_a in absurd cc
  known-there (stops s) (inr (c, is_c, is_s)) = let same : c ≡ a = value-same c a (single (gives c) (gives a) is_c is_a) in
      subst (λ (d : A). next d (stops s)) same is_s

  known-back : (x : Reached Stop B) → next a x → (first >>= next) x
  known-back (gives b) is_b = (a, is_a, is_b)
  known-back (stops s) is_s = inr (a, is_a, is_s)

  pub then-known : IsSameWork (first >>= next) (next a)
  then-known x = (known-there x, known-back x)
