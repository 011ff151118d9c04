-- Equal references, and where a reference is found among those that a link keeps.
use Rattle.std.proofs.Common.{◌≡◌, ℕ, zero, suc, List, [], ◌∷◌, length, Option, Some, None, Bool, true, false, not, ◌&&◌, refl, ◌∙◌, ap, cond, rules}
use Rattle.std.specs.Prelude.{slice_get, filter, ◌==◌, if◌then◌else◌}
use Rattle.std.specs.Bool.{Decides}
use Rattle.std.specs.Str.{bytes_eq}
use Rattle.std.specs.Cmp.Lexicographic.{pointwise}
use Rattle.std.proofs.lemmas.Slice.Eq.{bytes_eq-Decides, slice_eq-Decides}
use Rattle.mufom_names.specs.declared.name.Note.{Note}
use Rattle.mufom_names.specs.declared.name.Weak.{Weak}
use Rattle.mufom_names.specs.declared.name.Reference.{Reference}
use Rattle.mufom_meaning.specs.Flat.{distinct}
use Rattle.mufom_meaning.specs.Joined.{same_weak, same_note, same_reference, position_of}

-- an element is in a list
abbrev pub Among : {A : Type 0} → A → List A → Type 0
Among x xs = (i : ℕ) × (slice_get xs i ≡ Some x)

pub Among-filter : {A : Type 0} (test : A → Bool) (x : A) → test x ≡ true → (xs : List A) (i : ℕ) → slice_get xs i ≡ Some x → Among x (filter test xs)
Among-filter test x passes [] i e = absurd cc
Among-filter test x passes (y ∷ ys) zero e =
    let same : y ≡ x = cc in
    let also : test y ≡ true = ap test same ∙ passes in
    (zero, ap (λ b. slice_get (cond b (y ∷ filter test ys) (filter test ys)) zero) also ∙ e)
Among-filter {A} test x passes (y ∷ ys) (suc i) e =
    let rest : Among x (filter test ys) = Among-filter test x passes ys i e in
    keep (test y) rest where
      keep : (b : Bool) → Among x (filter test ys) → Among x (cond b (y ∷ filter test ys) (filter test ys))
      keep true r = (suc r.0, r.1)
      keep false r = r

-- with a test that decides equality, what is in a list is among the distinct ones
module _ {A : Type 0} (same : A → A → Bool) (decides : (x y : A) → Decides (same x y) (x ≡ y)) where
  among_rest : (y x : A) (ys : List A) (b : Bool) → same y x ≡ b → Among x ys → Among x (y ∷ filter (λ z. not (same y z)) ys)
  among_rest y x ys true e r = (zero, ap Some ((decides y x).0 e))
  among_rest y x ys false e r =
      let kept = Among-filter (λ z. not (same y z)) x (ap not e) ys r.0 r.1 in (suc kept.0, kept.1)

  pub Among-distinct : (x : A) (xs : List A) (i : ℕ) → slice_get xs i ≡ Some x → Among x (distinct same xs)
  Among-distinct x [] i e = absurd cc
  Among-distinct x (y ∷ ys) zero e = (zero, e)
  Among-distinct x (y ∷ ys) (suc i) e = among_rest y x (distinct same ys) (same y x) refl (Among-distinct x ys i e)

passes_at_head : {A : Type 0} (test : A → Bool) (x : A) → test x ≡ true → (y : A) (ys : List A) (b : Bool) → test y ≡ b → (i : ℕ)
    → slice_get (y ∷ ys) i ≡ Some x
    → ((i : ℕ) → slice_get ys i ≡ Some x → (z : A) × (slice_get ys (position_of test ys) ≡ Some z) × (test z ≡ true))
    → (z : A) × (slice_get (y ∷ ys) (if b then 0 else suc (position_of test ys)) ≡ Some z) × (test z ≡ true)
passes_at_head test x passes y ys true h i e later = (y, refl, h)
passes_at_head test x passes y ys false h zero e later =
    let same : y ≡ x = cc in let clash : test y ≡ true = ap test same ∙ passes in absurd cc
passes_at_head test x passes y ys false h (suc i) e later = later i e

-- at the place of the first element that passes there is one that passes
pub get-position_of : {A : Type 0} (test : A → Bool) (x : A) → test x ≡ true → (xs : List A) (i : ℕ) → slice_get xs i ≡ Some x
    → (y : A) × (slice_get xs (position_of test xs) ≡ Some y) × (test y ≡ true)
get-position_of test x passes [] i e = absurd cc
get-position_of test x passes (y ∷ ys) i e = passes_at_head test x passes y ys (test y) refl i e (λ j h. get-position_of test x passes ys j h)

-- past the end of a list there is nothing
pub get-length : {A : Type 0} (xs : List A) → slice_get xs (length xs) ≡ None
get-length [] = refl
get-length (x ∷ xs) = get-length xs

both_true : (a b : Bool) → (a && b) ≡ true → (a ≡ true) × (b ≡ true)
both_true true b e = (refl, e)
both_true false b e = absurd cc

and_true : (a b : Bool) → a ≡ true → b ≡ true → (a && b) ≡ true
and_true a b e h = ap (λ c. c && b) e ∙ h

numbers_decide : (m n : ℕ) → Decides (m == n) (m ≡ n)
numbers_decide m n = search rules

same_note-decides : (m n : Note) → Decides (same_note m n) (m ≡ n)
same_note-decides m n = (there, back) where
  there : same_note m n ≡ true → m ≡ n
  there e =
      let two = both_true ((m.type_index == n.type_index) && (m.attribute == n.attribute)) (bytes_eq m.numbers.items n.numbers.items) e in
      let one = both_true (m.type_index == n.type_index) (m.attribute == n.attribute) two.0 in
      let p : m.type_index ≡ n.type_index = (numbers_decide m.type_index n.type_index).0 one.0 in
      let q : m.attribute ≡ n.attribute = (numbers_decide m.attribute n.attribute).0 one.1 in
      let r : m.numbers.items ≡ n.numbers.items = (bytes_eq-Decides m.numbers.items n.numbers.items).0 two.1 in
      λ i. record { type_index = p i; attribute = q i; numbers = record { items = r i } }

  back : m ≡ n → same_note m n ≡ true
  back e = and_true _ _ (and_true _ _ ((numbers_decide m.type_index n.type_index).1 (ap (λ x. x.type_index) e))
      ((numbers_decide m.attribute n.attribute).1 (ap (λ x. x.attribute) e)))
      ((bytes_eq-Decides m.numbers.items n.numbers.items).1 (ap (λ x. x.numbers.items) e))

same_weak-decides : (v w : Option Weak) → Decides (same_weak v w) (v ≡ w)
same_weak-decides None None = (λ e. refl, λ e. refl)
same_weak-decides None (Some w) = (λ e. cc, λ e. cc)
same_weak-decides (Some v) None = (λ e. cc, λ e. cc)
same_weak-decides (Some v) (Some w) = (there, back) where
  there : same_weak (Some v) (Some w) ≡ true → Some v ≡ Some w
  there e =
      let two = both_true (v.size == w.size) (v.default == w.default) e in
      let p : v.size ≡ w.size = (numbers_decide v.size w.size).0 two.0 in
      let q : v.default ≡ w.default = (numbers_decide v.default w.default).0 two.1 in
      λ i. Some (record { size = p i; default = q i })

  back : Some v ≡ Some w → same_weak (Some v) (Some w) ≡ true
  back e = let same : v ≡ w = cc in
      and_true _ _ ((numbers_decide v.size w.size).1 (ap (λ x. x.size) same)) ((numbers_decide v.default w.default).1 (ap (λ x. x.default) same))

-- the test of two references holds if they are equal
pub same_reference-decides : (r q : Reference) → Decides (same_reference r q) (r ≡ q)
same_reference-decides r q = (there, back) where
  there : same_reference r q ≡ true → r ≡ q
  there e =
      let two = both_true (bytes_eq r.name q.name && same_weak r.weak q.weak) (pointwise same_note r.notes q.notes) e in
      let one = both_true (bytes_eq r.name q.name) (same_weak r.weak q.weak) two.0 in
      let a : r.name ≡ q.name = (bytes_eq-Decides r.name q.name).0 one.0 in
      let b : r.weak ≡ q.weak = (same_weak-decides r.weak q.weak).0 one.1 in
      let c : r.notes ≡ q.notes = (slice_eq-Decides same_note-decides r.notes q.notes _ refl).0 two.1 in
      λ i. record { name = a i; weak = b i; notes = c i }

  back : r ≡ q → same_reference r q ≡ true
  back e = and_true _ _ (and_true _ _ ((bytes_eq-Decides r.name q.name).1 (ap (λ x. x.name) e)) ((same_weak-decides r.weak q.weak).1 (ap (λ x. x.weak) e)))
      ((slice_eq-Decides same_note-decides r.notes q.notes _ refl).1 (ap (λ x. x.notes) e))
