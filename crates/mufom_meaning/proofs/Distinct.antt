-- Each element once: laws of keeping the first of equal elements.
use Rattle.std.proofs.Common.{◌≡◌, List, [], ◌∷◌, ◌++◌, map, Bool, true, false, not, refl, sym, ◌∙◌, ap, cond}
use Rattle.std.specs.Prelude.{filter, ◌&&◌}
use Rattle.std.specs.List.{list_all}
use Rattle.std.specs.Bool.{Decides}
use Rattle.mufom_meaning.specs.Flat.{distinct}
use Rattle.std.specs.List.{AllByRecursion, IsDistinct}
use Rattle.std.proofs.lemmas.Map.Keys.{IsDistinct-head, IsDistinct-tail, IsDistinct-cons}

module _ {A : Type 0} where
  filter_step : (p : A → Bool) (x : A) (xs : List A) (b : Bool) → p x ≡ b → filter p (x ∷ xs) ≡ cond b (x ∷ filter p xs) (filter p xs)
  filter_step p x xs b e = ap (λ c. cond c (x ∷ filter p xs) (filter p xs)) e

  pub filter-append : (p : A → Bool) (xs ys : List A) → filter p (xs ++ ys) ≡ filter p xs ++ filter p ys
  filter-append p [] ys = refl
  filter-append p (x ∷ xs) ys = by_case (p x) (filter-append p xs ys) where
    by_case : (b : Bool) → filter p (xs ++ ys) ≡ filter p xs ++ filter p ys
        → cond b (x ∷ filter p (xs ++ ys)) (filter p (xs ++ ys)) ≡ cond b (x ∷ filter p xs) (filter p xs) ++ filter p ys
    by_case true e = ap (λ rest. x ∷ rest) e
    by_case false e = e

  -- a filter takes up a weaker one
  pub filter-weaker : (p q : A → Bool) → ((y : A) → p y ≡ true → q y ≡ true) → (xs : List A) → filter p (filter q xs) ≡ filter p xs
  filter-weaker p q weaker [] = refl
  filter-weaker p q weaker (x ∷ xs) = by_case (p x) refl (q x) refl (filter-weaker p q weaker xs) where
    by_case : (b : Bool) → p x ≡ b → (c : Bool) → q x ≡ c → filter p (filter q xs) ≡ filter p xs
        → filter p (cond c (x ∷ filter q xs) (filter q xs)) ≡ cond b (x ∷ filter p xs) (filter p xs)
    by_case true e true h rest = filter_step p x (filter q xs) true e ∙ ap (λ more. x ∷ more) rest
    by_case true e false h rest = absurd (let must : q x ≡ true = weaker x e in cc)
    by_case false e true h rest = filter_step p x (filter q xs) false e ∙ rest
    by_case false e false h rest = rest

  pub filter-swap : (p q : A → Bool) (xs : List A) → filter p (filter q xs) ≡ filter q (filter p xs)
  filter-swap p q [] = refl
  filter-swap p q (x ∷ xs) = by_case (p x) refl (q x) refl (filter-swap p q xs) where
    by_case : (b : Bool) → p x ≡ b → (c : Bool) → q x ≡ c → filter p (filter q xs) ≡ filter q (filter p xs)
        → filter p (cond c (x ∷ filter q xs) (filter q xs)) ≡ filter q (cond b (x ∷ filter p xs) (filter p xs))
    by_case true e true h rest = filter_step p x (filter q xs) true e ∙ ap (λ more. x ∷ more) rest ∙ sym (filter_step q x (filter p xs) true h)
    by_case true e false h rest = rest ∙ sym (filter_step q x (filter p xs) false h)
    by_case false e true h rest = filter_step p x (filter q xs) false e ∙ rest
    by_case false e false h rest = rest

-- a filter of what is made of the elements takes up a weaker one of the elements
pub filter-map-weaker : {A B : Type 0} (p : B → Bool) (f : A → B) (keep q : A → Bool) → ((y : A) → p (f y) ≡ true → q y ≡ true) → (xs : List A)
    → filter p (map f (filter keep (filter q xs))) ≡ filter p (map f (filter keep xs))
filter-map-weaker p f keep q weaker [] = refl
filter-map-weaker {A} {B} p f keep q weaker (x ∷ xs) = by_case (q x) refl (keep x) refl (p (f x)) refl (filter-map-weaker p f keep q weaker xs) where
  kept_left : (c : Bool) → keep x ≡ c → filter p (map f (filter keep (x ∷ filter q xs)))
      ≡ filter p (map f (cond c (x ∷ filter keep (filter q xs)) (filter keep (filter q xs))))
  kept_left c e = ap (λ b. filter p (map f (cond b (x ∷ filter keep (filter q xs)) (filter keep (filter q xs))))) e

  by_case : (b : Bool) → q x ≡ b → (c : Bool) → keep x ≡ c → (d : Bool) → p (f x) ≡ d → filter p (map f (filter keep (filter q xs)))
      ≡ filter p (map f (filter keep xs))
      → filter p (map f (filter keep (cond b (x ∷ filter q xs) (filter q xs)))) ≡ filter p (map f (cond c (x ∷ filter keep xs) (filter keep xs)))
  by_case true h false k d e rest = kept_left false k ∙ rest
  by_case true h true k true e rest = kept_left true k ∙ filter_step p (f x) _ true e ∙ ap (λ more. f x ∷ more) rest ∙ sym (filter_step p (f x) _ true e)
  by_case true h true k false e rest = kept_left true k ∙ filter_step p (f x) _ false e ∙ rest ∙ sym (filter_step p (f x) _ false e)
  by_case false h false k d e rest = rest
  by_case false h true k true e rest = absurd (let must : q x ≡ true = weaker x e in cc)
  by_case false h true k false e rest = rest ∙ sym (filter_step p (f x) _ false e)

module _ {A : Type 0} (same : A → A → Bool) (decides : (x y : A) → Decides (same x y) (x ≡ y)) where
  abbrev other : A → A → Bool
  other x y = not (same x y)

  -- an element that passes, if x does not, is another element
  pub differs : (p : A → Bool) (x : A) → p x ≡ false → (y : A) → p y ≡ true → other x y ≡ true
  differs p x fails y passes = by_case (same x y) refl where
    by_case : (b : Bool) → same x y ≡ b → not b ≡ true
    by_case true e = absurd (let equal : x ≡ y = (decides x y).0 e in let also : p x ≡ p y = ap p equal in cc)
    by_case false e = refl

  pub filter-distinct : (p : A → Bool) (xs : List A) → filter p (distinct same xs) ≡ distinct same (filter p xs)
  filter-distinct p [] = refl
  filter-distinct p (x ∷ xs) = by_case (p x) refl (filter-distinct p xs) where
    by_case : (b : Bool) → p x ≡ b → filter p (distinct same xs) ≡ distinct same (filter p xs)
        → cond b (x ∷ filter p (filter (other x) (distinct same xs))) (filter p (filter (other x) (distinct same xs)))
        ≡ distinct same (cond b (x ∷ filter p xs) (filter p xs))
    by_case true e rest = ap (λ more. x ∷ more) (filter-swap p (other x) (distinct same xs) ∙ ap (filter (other x)) rest)
    by_case false e rest = filter-weaker p (other x) (differs p x e) (distinct same xs) ∙ rest

  pub distinct-distinct : (xs : List A) → distinct same (distinct same xs) ≡ distinct same xs
  distinct-distinct [] = refl
  distinct-distinct (x ∷ xs) =
      ap (λ more. x ∷ more)
      (ap (filter (other x)) (sym (filter-distinct (other x) (distinct same xs)))
      ∙ filter-weaker (other x) (other x) (λ y h. h) (distinct same (distinct same xs))
      ∙ ap (filter (other x)) (distinct-distinct xs))

  distinct-back : (xs ys : List A) → distinct same (xs ++ distinct same ys) ≡ distinct same (xs ++ ys)
  distinct-back [] ys = distinct-distinct ys
  distinct-back (x ∷ xs) ys = ap (λ more. x ∷ filter (other x) more) (distinct-back xs ys)

  distinct-prefix : (xs ys : List A) → distinct same (distinct same xs ++ ys) ≡ distinct same (xs ++ ys)
  distinct-prefix [] ys = refl
  distinct-prefix (x ∷ xs) ys =
      ap (λ more. x ∷ more)
      (filter-distinct (other x) (filter (other x) (distinct same xs) ++ ys)
      ∙ ap (distinct same) (filter-append (other x) (filter (other x) (distinct same xs)) ys
      ∙ ap (λ prefix. prefix ++ filter (other x) ys) (filter-weaker (other x) (other x) (λ y h. h) (distinct same xs))
      ∙ sym (filter-append (other x) (distinct same xs) ys))
      ∙ sym (filter-distinct (other x) (distinct same xs ++ ys))
      ∙ ap (filter (other x)) (distinct-prefix xs ys))

  -- lists with the same distinct elements are as good as one another between other lists
  pub distinct-between : (before xs ys after : List A) → distinct same xs ≡ distinct same ys → distinct same (before ++ (xs ++ after))
      ≡ distinct same (before ++ (ys ++ after))
  distinct-between before xs ys after e =
      let inner : distinct same (xs ++ after) ≡ distinct same (ys ++ after)
      = sym (distinct-prefix xs after) ∙ ap (λ prefix. distinct same (prefix ++ after)) e ∙ distinct-prefix ys after in
      sym (distinct-back before (xs ++ after)) ∙ ap (λ back. distinct same (before ++ back)) inner ∙ distinct-back before (ys ++ after)

-- what is made of the elements that are kept is the same of the distinct elements
module _ {A B : Type 0} (same : A → A → Bool) (decides : (x y : A) → Decides (same x y) (x ≡ y)) (alike : B → B → Bool) (reveals : (x y : B)
    → Decides (alike x y) (x ≡ y)) (keep : A → Bool) (f : A → B) where
  made_differs : (u y : A) → not (alike (f u) (f y)) ≡ true → not (same u y) ≡ true
  made_differs u y h = by_case (same u y) refl where
    by_case : (b : Bool) → same u y ≡ b → not b ≡ true
    by_case true e = absurd (let equal : u ≡ y = (decides u y).0 e in let also : alike (f u) (f y) ≡ true = (reveals (f u) (f y)).1 (ap f equal) in cc)
    by_case false e = refl

  pub distinct-made : (us : List A) → distinct alike (map f (filter keep (distinct same us))) ≡ distinct alike (map f (filter keep us))
  distinct-made [] = refl
  distinct-made (u ∷ us) = by_case (keep u) refl (distinct-made us) where
    by_case : (b : Bool) → keep u ≡ b → distinct alike (map f (filter keep (distinct same us))) ≡ distinct alike (map f (filter keep us))
        → distinct alike (map f (cond b (u ∷ filter keep (filter (λ y. not (same u y)) (distinct same us)))
        (filter keep (filter (λ y. not (same u y)) (distinct same us)))))
        ≡ distinct alike (map f (cond b (u ∷ filter keep us) (filter keep us)))
    by_case true k rest =
        ap (λ more. f u ∷ more)
        (filter-distinct alike reveals (λ y. not (alike (f u) y)) (map f (filter keep (filter (λ y. not (same u y)) (distinct same us))))
        ∙ ap (distinct alike) (filter-map-weaker (λ y. not (alike (f u) y)) f keep (λ y. not (same u y)) (made_differs u) (distinct same us))
        ∙ sym (filter-distinct alike reveals (λ y. not (alike (f u) y)) (map f (filter keep (distinct same us))))
        ∙ ap (filter (λ y. not (alike (f u) y))) rest)
    by_case false k rest =
        ap (λ kept. distinct alike (map f kept)) (filter-weaker keep (λ y. not (same u y)) (differs same decides keep u k) (distinct same us)) ∙ rest

both_true : (a b : Bool) → a ≡ true → b ≡ true → (a && b) ≡ true
both_true a b e h = ap (λ c. c && b) e ∙ h

-- what passes a filter passes its test, and so what is left of elements that pass another
pub list_all-filter : {A : Type 0} (p : A → Bool) (xs : List A) → list_all p (filter p xs) ≡ true
list_all-filter p [] = refl
list_all-filter p (x ∷ xs) = by_case (p x) refl (list_all-filter p xs) where
  by_case : (b : Bool) → p x ≡ b → list_all p (filter p xs) ≡ true → list_all p (cond b (x ∷ filter p xs) (filter p xs)) ≡ true
  by_case true e h = both_true (p x) (list_all p (filter p xs)) e h
  by_case false e h = h

all-kept : {A : Type 0} (P : A → Type 0) (q : A → Bool) (xs : List A) → AllByRecursion P xs → AllByRecursion P (filter q xs)
all-kept P q [] h = tt
all-kept P q (x ∷ xs) h = by_case (q x) (all-kept P q xs h.1) where
  by_case : (c : Bool) → AllByRecursion P (filter q xs) → AllByRecursion P (cond c (x ∷ filter q xs) (filter q xs))
  by_case true rest = (h.0, rest)
  by_case false rest = rest

IsDistinct-kept : {A : Type 0} (same : A → A → Bool) (q : A → Bool) (xs : List A) → IsDistinct same xs → IsDistinct same (filter q xs)
IsDistinct-kept same q [] h = h
IsDistinct-kept same q (x ∷ xs) h = by_case (q x) (IsDistinct-kept same q xs (IsDistinct-tail same x xs h)) where
  by_case : (c : Bool) → IsDistinct same (filter q xs) → IsDistinct same (cond c (x ∷ filter q xs) (filter q xs))
  by_case true rest = IsDistinct-cons same x (filter q xs) (all-kept (λ y. same x y ≡ false) q xs (IsDistinct-head same x xs h)) rest
  by_case false rest = rest

-- the elements that are not the same as another one
none_same : {A : Type 0} (test : A → Bool) (xs : List A) → AllByRecursion (λ y. test y ≡ false) (filter (λ y. not (test y)) xs)
none_same test [] = tt
none_same test (x ∷ xs) = by_case (test x) refl (none_same test xs) where
  by_case : (b : Bool) → test x ≡ b → AllByRecursion (λ y. test y ≡ false) (filter (λ y. not (test y)) xs)
      → AllByRecursion (λ y. test y ≡ false) (cond (not b) (x ∷ filter (λ y. not (test y)) xs) (filter (λ y. not (test y)) xs))
  by_case true e rest = rest
  by_case false e rest = (e, rest)

-- distinct elements are distinct
pub IsDistinct-distinct : {A : Type 0} (same : A → A → Bool) (xs : List A) → IsDistinct same (distinct same xs)
unfolding IsDistinct
IsDistinct-distinct same [] = tt
IsDistinct-distinct same (x ∷ xs) = (
  none_same (same x) (distinct same xs),
  IsDistinct-kept same (λ y. not (same x y)) (distinct same xs) (IsDistinct-distinct same xs),
)
