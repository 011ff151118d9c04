-- Positions of keys in an index that grows at its end, and in one that numbers a list.
use Rattle.std.proofs.Common.{◌≡◌, ℕ, suc, ◌+◌, List, [], ◌∷◌, ◌++◌, length, Option, Some, None, is_none, Bool, true, false, cond, ◌||◌}
use Rattle.std.proofs.Common.{if◌then◌else◌, refl, sym, ap, ◌∙◌, arith}
use Rattle.std.specs.Str.{bytes_eq}
use Rattle.std.proofs.lemmas.Slice.Eq.{bytes_eq-Decides}
use Rattle.mufom_names.specs.Index.{Entry, keys_of, position_of, with_entry, numbered_from}

-- the first position that there is
abbrev pub first_of : Option ℕ → Option ℕ → Option ℕ
first_of (Some n) other = Some n
first_of None other = other

pub first_of-assoc : (a b c : Option ℕ) → first_of (first_of a b) c ≡ first_of a (first_of b c)
first_of-assoc (Some n) b c = refl
first_of-assoc None b c = refl

pub first_of-None : (a : Option ℕ) → first_of a None ≡ a
first_of-None (Some n) = refl
first_of-None None = refl

-- this position if the test holds
abbrev pub given : Bool → ℕ → Option ℕ
given b p = if b then Some p else None

pub first_of-given : (b c : Bool) (p : ℕ) → first_of (given b p) (given c p) ≡ given (b || c) p
first_of-given true c p = refl
first_of-given false c p = refl

-- an entry at the end has the position of its key if no entry before it has that key
pub position_of-push : (es : List Entry) (key : List ℕ) (p : ℕ) (name : List ℕ)
    → position_of (es ++ (key, p) ∷ []) name ≡ first_of (position_of es name) (given (bytes_eq name key) p)
position_of-push [] key p name = refl
position_of-push (e ∷ es) key p name = by_case (bytes_eq name e.0) (position_of-push es key p name) where
  by_case : (b : Bool) → position_of (es ++ (key, p) ∷ []) name ≡ first_of (position_of es name) (given (bytes_eq name key) p)
      → cond b (Some e.1) (position_of (es ++ (key, p) ∷ []) name) ≡ first_of (cond b (Some e.1) (position_of es name)) (given (bytes_eq name key) p)
  by_case true rest = refl
  by_case false rest = rest

-- the same for a key that was added, if it was not there
pub position_of-with : (es : List Entry) (key : List ℕ) (p : ℕ) (name : List ℕ)
    → position_of (with_entry es key p) name ≡ first_of (position_of es name) (given (bytes_eq name key) p)
position_of-with es key p name = by_case (position_of es key) refl where
  same : (q : ℕ) → position_of es key ≡ Some q → (b : Bool) → bytes_eq name key ≡ b → position_of es name ≡ first_of (position_of es name) (given b p)
  same q e true t =
      let its : name ≡ key = (bytes_eq-Decides name key).0 t in
      let at : position_of es name ≡ Some q = ap (position_of es) its ∙ e in
      at ∙ sym (ap (λ r. first_of r (Some p)) at)
  same q e false t = sym (first_of-None (position_of es name))

  by_case : (r : Option ℕ) → position_of es key ≡ r
      → position_of (if is_none r then es ++ (key, p) ∷ [] else es) name ≡ first_of (position_of es name) (given (bytes_eq name key) p)
  by_case None e = position_of-push es key p name
  by_case (Some q) e = same q e (bytes_eq name key) refl

-- the keys of a list that was numbered are the list
pub keys-numbered : (n : ℕ) (keys : List (List ℕ)) → keys_of (numbered_from n keys) ≡ keys
keys-numbered n [] = refl
keys-numbered n (key ∷ keys) = ap (λ rest. key ∷ rest) (keys-numbered (suc n) keys)

-- a key at the end of a list has the number after the others
pub numbered-push : (n : ℕ) (keys : List (List ℕ)) (key : List ℕ)
    → numbered_from n (keys ++ key ∷ []) ≡ numbered_from n keys ++ (key, n + length keys) ∷ []
numbered-push n [] key = let e : n ≡ n + 0 = omega arith in ap (λ k. (key, k) ∷ []) e
numbered-push n (x ∷ xs) key =
    let e : suc n + length xs ≡ n + suc (length xs) = omega arith in
    ap (λ rest. (x, n) ∷ rest) (numbered-push (suc n) xs key ∙ ap (λ k. numbered_from (suc n) xs ++ (key, k) ∷ []) e)
