-- What is in a list, by cases on the list.
use Rattle.std.proofs.Common.{◌≡◌, ℕ, zero, suc, ◌<◌, ◌⊎◌, inl, inr, List, [], ◌∷◌, ◌++◌, map, length, Some, None, Bool, true, false, not, ◌||◌, refl}
use Rattle.std.proofs.Common.{sym, ◌∙◌, ap, cond, arith}
use Rattle.std.specs.Prelude.{slice_get, slice_index_or, filter, flat_map, Contains}
use Rattle.std.specs.List.{All, list_any}
use Rattle.std.proofs.lemmas.List.Elements.{All-nil, All-cons}
use Rattle.mufom_meaning.specs.Flat.{distinct}
use Rattle.mufom_meaning.proofs.Tests.{either_false}

-- the element is in the list
abbrev pub In : {A : Type 0} → A → List A → Type 0
In x [] = ⊥
In x (y ∷ ys) = (y ≡ x) ⊎ In x ys

pub In-Contains : {A : Type 0} (x : A) (xs : List A) → In x xs → Contains xs x
In-Contains x [] h = absurd h
In-Contains x (y ∷ ys) (inl e) = let less : 0 < suc (length ys) = omega arith in (0, less, e)
In-Contains x (y ∷ ys) (inr h) = let there = In-Contains x ys h in let less : suc there.0 < suc (length ys) = omega (arith, there.1) in
    (suc there.0, less, there.2)

pub In-at : {A : Type 0} (x : A) (xs : List A) (i : ℕ) → slice_get xs i ≡ Some x → In x xs
In-at x [] i e = absurd cc
In-at x (y ∷ ys) zero e = inl cc
In-at x (y ∷ ys) (suc i) e = inr (In-at x ys i e)

pub at-In : {A : Type 0} (x : A) (xs : List A) → In x xs → (i : ℕ) × (slice_get xs i ≡ Some x)
at-In x [] h = absurd h
at-In x (y ∷ ys) (inl e) = (0, ap Some e)
at-In x (y ∷ ys) (inr h) = let there = at-In x ys h in (suc there.0, there.1)

index-there : {A : Type 0} (xs : List A) (i : ℕ) (d x : A) → i < length xs → slice_index_or xs i d ≡ x → slice_get xs i ≡ Some x
index-there [] i d x less e = absurd (omega arith)
index-there (y ∷ ys) zero d x less e = ap Some e
index-there (y ∷ ys) (suc i) d x less e = index-there ys i d x (omega (arith, less)) e

pub Contains-In : {A : Type 0} (x : A) (xs : List A) → Contains xs x → In x xs
Contains-In x xs h = In-at x xs h.0 (index-there xs h.0 x x h.1 h.2)

pub In-left : {A : Type 0} (x : A) (xs ys : List A) → In x xs → In x (xs ++ ys)
In-left x [] ys h = absurd h
In-left x (z ∷ xs) ys (inl e) = inl e
In-left x (z ∷ xs) ys (inr h) = inr (In-left x xs ys h)

pub In-right : {A : Type 0} (x : A) (xs ys : List A) → In x ys → In x (xs ++ ys)
In-right x [] ys h = h
In-right x (z ∷ xs) ys h = inr (In-right x xs ys h)

pub In-append : {A : Type 0} (x : A) (xs ys : List A) → In x (xs ++ ys) → In x xs ⊎ In x ys
In-append x [] ys h = inr h
In-append x (z ∷ xs) ys (inl e) = inl (inl e)
In-append x (z ∷ xs) ys (inr h) = by_case (In-append x xs ys h) where
  by_case : In x xs ⊎ In x ys → In x (z ∷ xs) ⊎ In x ys
  by_case (inl k) = inl (inr k)
  by_case (inr k) = inr k

pub In-map : {A B : Type 0} (f : A → B) (x : A) (xs : List A) → In x xs → In (f x) (map f xs)
In-map f x [] h = absurd h
In-map f x (y ∷ ys) (inl e) = inl (ap f e)
In-map f x (y ∷ ys) (inr h) = inr (In-map f x ys h)

pub map-In : {A B : Type 0} (f : A → B) (y : B) (xs : List A) → In y (map f xs) → (x : A) × In x xs × (f x ≡ y)
map-In f y [] h = absurd h
map-In f y (x ∷ xs) (inl e) = (x, inl refl, e)
map-In f y (x ∷ xs) (inr h) = let there = map-In f y xs h in (there.0, inr there.1, there.2)

pub In-flat_map : {A B : Type 0} (f : A → List B) (x : A) (y : B) (xs : List A) → In x xs → In y (f x) → In y (flat_map f xs)
In-flat_map f x y [] h k = absurd h
In-flat_map {A} {B} f x y (z ∷ zs) (inl e) k = In-left y (f z) (flat_map f zs) (moved z e k) where
  moved : (z : A) → z ≡ x → In y (f x) → In y (f z)
  moved z e k = rw e k
In-flat_map f x y (z ∷ zs) (inr h) k = In-right y (f z) (flat_map f zs) (In-flat_map f x y zs h k)

pub flat_map-In : {A B : Type 0} (f : A → List B) (y : B) (xs : List A) → In y (flat_map f xs) → (x : A) × In x xs × In y (f x)
flat_map-In f y [] h = absurd h
flat_map-In {A} {B} f y (x ∷ xs) h = by_case (In-append y (f x) (flat_map f xs) h) (flat_map-In f y xs) where
  by_case : In y (f x) ⊎ In y (flat_map f xs) → (In y (flat_map f xs) → (z : A) × In z xs × In y (f z)) → (z : A) × In z (x ∷ xs) × In y (f z)
  by_case (inl k) later = (x, inl refl, k)
  by_case (inr k) later = let there = later k in (there.0, inr there.1, there.2)

-- a test that passes nothing of a list fails at each element
pub fails-In : {A : Type 0} (p : A → Bool) (xs : List A) → list_any p xs ≡ false → (x : A) → In x xs → p x ≡ false
fails-In p [] e x h = absurd h
fails-In p (y ∷ ys) e x (inl same) = ap p (sym same) ∙ (either_false (p y) (list_any p ys) e).0
fails-In p (y ∷ ys) e x (inr h) = fails-In p ys (either_false (p y) (list_any p ys) e).1 x h

-- a test that passes an element passes the list
pub passes-In : {A : Type 0} (p : A → Bool) (xs : List A) (x : A) → In x xs → p x ≡ true → list_any p xs ≡ true
passes-In p [] x h e = absurd h
passes-In p (y ∷ ys) x (inl same) e = ap (λ b. b || list_any p ys) (ap p same ∙ e)
passes-In p (y ∷ ys) x (inr h) e = or_right (p y) (passes-In p ys x h e) where
  or_right : (b : Bool) → list_any p ys ≡ true → (b || list_any p ys) ≡ true
  or_right true e = refl
  or_right false e = e

pub In-filter : {A : Type 0} (p : A → Bool) (x : A) → p x ≡ true → (xs : List A) → In x xs → In x (filter p xs)
In-filter p x passes [] h = absurd h
In-filter {A} p x passes (y ∷ ys) h = by_case (p y) refl h (In-filter p x passes ys) where
  by_case : (b : Bool) → p y ≡ b → In x (y ∷ ys) → (In x ys → In x (filter p ys)) → In x (cond b (y ∷ filter p ys) (filter p ys))
  by_case true e (inl same) later = inl same
  by_case true e (inr h) later = inr (later h)
  by_case false e (inl same) later = absurd (let clash : p y ≡ true = ap p same ∙ passes in cc)
  by_case false e (inr h) later = later h

-- what is left by a filter is in the list
pub filter-In : {A : Type 0} (p : A → Bool) (x : A) (xs : List A) → In x (filter p xs) → In x xs
filter-In p x [] h = h
filter-In {A} p x (y ∷ ys) h = by_test (p y) h (filter-In p x ys) where
  by_test : (b : Bool) → In x (cond b (y ∷ filter p ys) (filter p ys)) → (In x (filter p ys) → In x ys) → In x (y ∷ ys)
  by_test true (inl e) later = inl e
  by_test true (inr h) later = inr (later h)
  by_test false h later = inr (later h)

-- a distinct element of a list is in it
pub distinct-In : {A : Type 0} (same : A → A → Bool) (x : A) (xs : List A) → In x (distinct same xs) → In x xs
distinct-In same x [] h = h
distinct-In same x (y ∷ ys) (inl e) = inl e
distinct-In same x (y ∷ ys) (inr h) = inr (distinct-In same x ys (filter-In (λ z. not (same y z)) x (distinct same ys) h))

-- what is in a list is among its distinct elements, if the test decides equality
pub In-distinct : {A : Type 0} (same : A → A → Bool) → ((x y : A) → same x y ≡ true → x ≡ y) → (x : A) (xs : List A) → In x xs → In x (distinct same xs)
In-distinct same decides x [] h = absurd h
In-distinct same decides x (y ∷ ys) (inl e) = inl e
In-distinct {A} same decides x (y ∷ ys) (inr h) = by_case (same y x) refl (In-distinct same decides x ys h) where
  by_case : (b : Bool) → same y x ≡ b → In x (distinct same ys) → In x (y ∷ filter (λ z. not (same y z)) (distinct same ys))
  by_case true e k = inl (decides y x e)
  by_case false e k = inr (In-filter (λ z. not (same y z)) x (ap not e) (distinct same ys) k)

-- a test that passes no element passes nothing of the list
pub none-In : {A : Type 0} (p : A → Bool) (xs : List A) → ((x : A) → In x xs → p x ≡ false) → list_any p xs ≡ false
none-In p [] h = refl
none-In p (y ∷ ys) h = ap (λ b. b || list_any p ys) (h y (inl refl)) ∙ none-In p ys (λ x k. h x (inr k))

pub get_some : {A : Type 0} (xs : List A) (i : ℕ) → i < length xs → slice_get xs i ≡ None → ⊥
get_some [] i less e = omega (arith, less)
get_some (x ∷ xs) zero less e = cc
get_some (x ∷ xs) (suc i) less e = get_some xs i (omega (arith, less)) e

-- what holds of all that is in a list holds of each element
pub All-In : {A : Type 0} (P : A → Type 0) (xs : List A) → ((x : A) → In x xs → P x) → All P xs
All-In P [] holds = All-nil P
All-In P (x ∷ xs) holds = All-cons P x xs (holds x (inl refl)) (All-In P xs (λ y h. holds y (inr h)))
