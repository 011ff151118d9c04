-- Lists that are made item by item, each of an item and its position.
use Rattle.std.proofs.Common.{◌≡◌, ℕ, zero, suc, ◌+◌, ◌<◌, ◌≤◌, List, [], ◌∷◌, ◌++◌, length, map, drop, get_or, refl, sym, ap, ◌∙◌, append-nil, append_assoc}
use Rattle.std.proofs.Common.{Option, Some, None, Bool, true, false, cond, not, ◌||◌, zero-add}
use Rattle.std.specs.Prelude.{find, slice_get, position, is_none}
use Rattle.std.specs.List.{enumerate_from, flat_map, list_any, position_from}
use Rattle.std.proofs.Math.Nat.{suc-add}
use Rattle.std.proofs.lemmas.Iterator.Adapters.{position_from-zero}
use Rattle.std.proofs.lemmas.List.{drop_more, drop_all}

module _ {A : Type 0} (xs : List A) where
  -- the next item stands before the rest
  pub rest-next : (k : ℕ) (x : A) → k < length xs → x ≡ get_or xs k x → drop k xs ≡ x ∷ drop (k + 1) xs
  rest-next k x less is = drop_more xs k x less ∙ ap (λ v. v ∷ drop (k + 1) xs) (sym is)

module _ {A B : Type 0} (f : ℕ × A → B) (xs : List A) where
  pub mapped-next : (k : ℕ) (x : A) (done all : List B) → k < length xs → x ≡ get_or xs k x
      → done ++ map f (enumerate_from k (drop k xs)) ≡ all → (done ++ f (k, x) ∷ []) ++ map f (enumerate_from (k + 1) (drop (k + 1) xs)) ≡ all
  mapped-next k x done all less is h =
      append_assoc done (f (k, x) ∷ []) (map f (enumerate_from (k + 1) (drop (k + 1) xs)))
      ∙ ap (λ (ys : List A). done ++ map f (enumerate_from k ys)) (sym (rest-next xs k x less is)) ∙ h

  pub mapped-end : (k : ℕ) (done all : List B) → length xs ≤ k → done ++ map f (enumerate_from k (drop k xs)) ≡ all → done ≡ all
  mapped-end k done all past h =
      sym (ap (λ (ys : List A). done ++ map f (enumerate_from k ys)) (drop_all k xs past) ∙ append-nil done) ∙ h

module _ {A B : Type 0} (f : ℕ × A → List B) (xs : List A) where
  pub flat-next : (k : ℕ) (x : A) (done all : List B) → k < length xs → x ≡ get_or xs k x
      → done ++ flat_map f (enumerate_from k (drop k xs)) ≡ all
      → (done ++ f (k, x)) ++ flat_map f (enumerate_from (k + 1) (drop (k + 1) xs)) ≡ all
  flat-next k x done all less is h =
      append_assoc done (f (k, x)) (flat_map f (enumerate_from (k + 1) (drop (k + 1) xs)))
      ∙ ap (λ (ys : List A). done ++ flat_map f (enumerate_from k ys)) (sym (rest-next xs k x less is)) ∙ h

  pub flat-end : (k : ℕ) (done all : List B) → length xs ≤ k → done ++ flat_map f (enumerate_from k (drop k xs)) ≡ all → done ≡ all
  flat-end k done all past h =
      sym (ap (λ (ys : List A). done ++ flat_map f (enumerate_from k ys)) (drop_all k xs past) ∙ append-nil done) ∙ h

-- ---- the first item that passes a test, looked for item by item

module _ {A : Type 0} (p : ℕ × A → Bool) (xs : List A) (all : Option (ℕ × A)) where
  pub found-at : (k : ℕ) (x : A) → k < length xs → x ≡ get_or xs k x → all ≡ find p (enumerate_from k (drop k xs)) → p (k, x) ≡ true → all ≡ Some (k, x)
  found-at k x less is h e =
      h ∙ ap (λ (ys : List A). find p (enumerate_from k ys)) (rest-next xs k x less is)
      ∙ ap (λ b. cond b (Some (k, x)) (find p (enumerate_from (k + 1) (drop (k + 1) xs)))) e

  pub passed-at : (k : ℕ) (x : A) → k < length xs → x ≡ get_or xs k x → all ≡ find p (enumerate_from k (drop k xs)) → p (k, x) ≡ false
      → all ≡ find p (enumerate_from (k + 1) (drop (k + 1) xs))
  passed-at k x less is h e =
      h ∙ ap (λ (ys : List A). find p (enumerate_from k ys)) (rest-next xs k x less is)
      ∙ ap (λ b. cond b (Some (k, x)) (find p (enumerate_from (k + 1) (drop (k + 1) xs)))) e

  pub none-left : (k : ℕ) → length xs ≤ k → all ≡ find p (enumerate_from k (drop k xs)) → all ≡ None
  none-left k past h = h ∙ ap (λ (ys : List A). find p (enumerate_from k ys)) (drop_all k xs past)

-- ---- positions

pub get-drop : {A : Type 0} (xs : List A) (c n : ℕ) → slice_get (drop c xs) n ≡ slice_get xs (c + n)
get-drop xs zero n = ap (slice_get xs) (sym (zero-add n))
get-drop [] (suc c) n = ap (slice_get []) (sym (suc-add c n))
get-drop (x ∷ xs) (suc c) n = get-drop xs c n ∙ ap (slice_get (x ∷ xs)) (sym (suc-add c n))

-- a test is passed by some item, if it has a position
any-from : {A : Type 0} (p : A → Bool) (n : ℕ) (xs : List A) → not (is_none (position_from p n xs)) ≡ list_any p xs
any-from p n [] = refl
any-from p n (x ∷ xs) = by_case (p x) (any-from p (n + 1) xs) where
  by_case : (b : Bool) → not (is_none (position_from p (n + 1) xs)) ≡ list_any p xs
      → not (is_none (cond b (Some n) (position_from p (n + 1) xs))) ≡ (b || list_any p xs)
  by_case true later = refl
  by_case false later = later

pub any-position : {A : Type 0} (p : A → Bool) (xs : List A) → list_any p xs ≡ not (is_none (position p xs))
any-position p xs = sym (ap (λ o. not (is_none o)) (position_from-zero p xs) ∙ any-from p 0 xs)
